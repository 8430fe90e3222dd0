use Rattle.std.proofs.Common.{sym, subst}
use Rattle.aiger_laws.specs.Grammar.{undefined}
use Rattle.aiger_laws.proofs.GateDrivers.{text_drives}
use Rattle.aiger_reader.specs.declared.fail.ReadFail.{ReadFail}
use Rattle.aiger_reader.specs.Kept.{tree_of}
use Rattle.aiger_reader.specs.Told.{IsReadFail}
use Rattle.aiger_reader.proofs.Answering.{kept_ok, kept_knows, kept_err}
use Rattle.aiger_reader.proofs.read_aiger.with_drivers.Goals as goal

pub returns-in-Some-clause-err : goal.returns-in-Some-clause-err
returns-in-Some-clause-err c =
    subst (λ (e : ReadFail). IsReadFail c.args.source.now e) (sym c.refused.ensures)
    (c.requires.short, undefined c.in-Some.line (tree_of c.args.text) c.requires.reads (sym c.in-Some.ensures))

pub without_cycle-requires-clause-drives : goal.without_cycle-requires-clause-drives
without_cycle-requires-clause-drives c = text_drives c.args.source.now (tree_of c.args.text) c.requires.reads

pub returns-in-None-clause-ok : goal.returns-in-None-clause-ok
returns-in-None-clause-ok c =
    kept_ok c.without_cycle.result c.args.source.now c.args.text c.requires.reads (sym c.in-None.ensures) c.without_cycle.ensures.same c.without_cycle.ensures.ok

pub returns-in-None-clause-knows : goal.returns-in-None-clause-knows
returns-in-None-clause-knows c = kept_knows c.without_cycle.result c.args.text c.requires.knows c.without_cycle.ensures.same

pub returns-in-None-clause-err : goal.returns-in-None-clause-err
returns-in-None-clause-err c =
    kept_err c.without_cycle.result c.args.source.now c.args.text c.requires.short c.requires.reads (sym c.in-None.ensures) c.without_cycle.ensures.err
