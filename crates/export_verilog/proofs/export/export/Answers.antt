use Rattle.std.proofs.Common.{◌≡◌, map, sym, ap, subst}
use Rattle.std.specs.Prelude.{IfOk}
use Rattle.hw_model.specs.Design.{Design}
use Rattle.ir_store.specs.Designs.{design_of, numbered_module}
use Rattle.op_verifier.specs.Verdict.{IsAccepted}
use Rattle.export_verilog.specs.Aggregates.{HasNoAggregates}
use Rattle.export_verilog.specs.Layout.{verilog_text}
use Rattle.export_verilog.proofs.export.export.Goals as goal

pub export_design-requires : goal.export_design-requires
export_design-requires g c =
    let same : design_of c.args.verified.now.design ≡ design_of c.design.result.now = sym (ap (map numbered_module) c.design.ensures) in
    (c.type_bounds.sync-R, (subst IsAccepted same c.args.verified.now.accepted, subst HasNoAggregates same c.requires))

pub returns : goal.returns
returns g c = subst (λ (d : Design). IfOk c.export_design.result (λ text. text ≡ verilog_text c.args.options d)) (ap (map numbered_module) c.design.ensures) c.export_design.ensures
