use Rattle.std.proofs.Common.{sym, subst}
use Rattle.ir_store.specs.Designs.{design_of}
use Rattle.and_gates.specs.Faults.{IsRefusedExport}
use Rattle.aiger_export.specs.Exports.{IsExportRefusal, fault}
use Rattle.aiger_export.proofs.export_aiger.refused.Goals as goal

pub returns-in-Refused : goal.returns-in-Refused
returns-in-Refused c = λ m only.
    let d = design_of c.args.design.now.design in
    subst (IsExportRefusal d) (sym (c.at_header.ensures m only.at))
    (fault c.args.number m c.in-Refused.fault only (subst (IsRefusedExport d c.args.number) c.in-Refused.is c.requires.refused))
