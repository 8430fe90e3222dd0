use Rattle.ir_store.specs.Designs.{design_of}
use Rattle.circt_top.proofs.Exports.{exported, export_fails}
use Rattle.circt_top.proofs.exporting.export_result.Goals as goal

pub returns-in-Ok : goal.returns-in-Ok
returns-in-Ok g c =
    exported
    (record { apart = c.exports_are_one.ensures.apart; says = c.exported_texts_run.ensures.says; runs = c.exported_texts_run.ensures.runs })
    (record { after = c.results_follow.ensures })
    c.args.passes.now (design_of c.args.verified.design) (design_of c.in_ok-made.made.design) c.args.verified.accepted
    (c.what_is_canonical_is_printable.ensures (design_of c.args.verified.design) c.args.verified.accepted c.args.verified.canonical)
    c.in_ok-made.ensures c.in-Ok.text c.in-Ok.ensures.ok

pub returns : goal.returns
returns g c =
    rw c.export_failure.ensures
    (export_fails c.args.passes.now (design_of c.args.verified.design) (design_of c.in_ok-made.made.design) c.in-Err.fail c.in_ok-made.ensures c.in-Err.ensures.refused)
