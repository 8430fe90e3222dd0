use Rattle.std.proofs.Common.{◌+◌, arith}
use Rattle.ir_store.specs.DictionaryViews.{entry_of}
use Rattle.mlir_printer.specs.Attributes.{entry_bytes}
use Rattle.mlir_printer.proofs.steps.Steps.{items_all}
use Rattle.mlir_printer.proofs.dictionaries.push_entries.Goals as goal

pub returns : goal.returns
returns c =
    items_all entry_bytes entry_of (c.args.first + c.loop-i.i) c.args.first c.args.entries.now c.loop-i.i c.args.out.now c.loop-i.out (omega (arith, c.loop-i-test.false)) c.loop-i.invariant
