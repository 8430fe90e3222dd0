-- Entries are gathered until no comma stands after one; the key of each that one does is noted.
use Rattle.std.proofs.Common.{map, Vec, Global}
use Rattle.ir_store.specs.DictionaryViews.{entry_of}
use Rattle.ir_store.specs.declared.dictionary.Entry.{Entry}
use Rattle.mlir_syntax.proofs.Entries.{fails, ends, goes_on}
use Rattle.mlir_syntax.proofs.reader.Reader.entries.Goals as goal

pub returns-in-Err-clause-gives : goal.returns-in-Err-clause-gives
returns-in-Err-clause-gives c =
    fails {C = Vec Entry Global} (λ es. map entry_of es.items) c.in-Err.fail c.entry_text.new.self c.entry_text.new.self c.loop-entry.invariant c.in-Err.ensures.gives

pub returns-then-not-pass-clause-gives : goal.returns-then-not-pass-clause-gives
returns-then-not-pass-clause-gives c =
    ends c.in-Ok.entry c.push.new.self.items c.entry_text.new.self c.pass.new.self c.pass.result c.loop-entry.invariant
    c.in-Ok.ensures.gives c.in_ok-push.ensures.items c.pass.ensures.is c.pass.ensures.after c.if-not-pass.true

pub loop-entry-preserved : goal.loop-entry-preserved
loop-entry-preserved c =
    goes_on c.in-Ok.entry c.push-in-loop-entry.new.self.items c.in_ok-key.key c.insert.new.self.keys c.entry_text.new.self c.pass.new.self c.pass.result
    c.loop-entry.invariant c.in-Ok.ensures.gives c.in_ok-push-2.ensures.items c.pass.ensures.is c.pass.ensures.after c.if-not-pass.false
    c.in-Ok.ensures.shorter (c.pass.ensures.shorter c.if-not-pass.false) c.in-Ok.ensures.new c.in_ok-key.ensures c.in_ok-insert.ensures.keys
