use Rattle.std.proofs.lemmas.Result.{IfOk-weaker}
use Rattle.ir_store.specs.Designs.{design_of}
use Rattle.op_verifier.specs.declared.accepted.Verified.{Verified}
use Rattle.export_verilog.specs.Aggregates.{HasNoAggregates}
use Rattle.pass_manager.specs.Results.{IsForExport, IsExported}
use Rattle.circt_top.proofs.translation.exported_result.Goals as goal

pub returns-clause-made : goal.returns-clause-made
returns-clause-made g c =
    IfOk-weaker c.lowered_for_export.result (λ (v : Verified). IsForExport (design_of c.in_ok-made.made.design) (design_of v.design))
    (λ (v : Verified). IsExported c.args.passes.now (design_of c.args.verified.design) (design_of v.design))
    (λ v for_export. (design_of c.in_ok-made.made.design, c.in_ok-made.ensures, for_export))
    c.lowered_for_export.ensures

pub returns-clause-plain : goal.returns-clause-plain
returns-clause-plain g c =
    IfOk-weaker c.lowered_for_export.result (λ (v : Verified). IsForExport (design_of c.in_ok-made.made.design) (design_of v.design))
    (λ (v : Verified). HasNoAggregates (design_of v.design))
    (λ v for_export.
    c.exports_follow.ensures.none_left c.args.passes.now (design_of c.args.verified.design) (design_of v.design) c.args.verified.accepted
    (c.what_is_canonical_is_printable.ensures (design_of c.args.verified.design) c.args.verified.accepted c.args.verified.canonical)
    (design_of c.in_ok-made.made.design, c.in_ok-made.ensures, for_export))
    c.lowered_for_export.ensures
