use Rattle.std.proofs.Common.{◌≡◌, map, ap, subst}
use Rattle.std.proofs.lemmas.Result.{IfOk-weaker}
use Rattle.ir_store.specs.Designs.{design_of, numbered_module}
use Rattle.hw_model.specs.Design.{Design}
use Rattle.export_verilog.specs.Layout.{verilog_text}
use Rattle.export_verilog.specs.Room.{HasRoomToExport}
use Rattle.circt_top.specs.Translation.{IsTranslatedFrom}
use Rattle.circt_top.proofs.OutcomeParts.{exported}
use Rattle.circt_top.proofs.translation.export_made.Goals as goal

pub returns : goal.returns
returns g c = λ passes d accepted form is.
    IfOk-weaker c.export.result (λ text. text ≡ verilog_text c.args.options (design_of c.args.made.now.design)) (IsTranslatedFrom passes c.args.options d (design_of c.args.made.now.design))
    (exported (record { exportable = c.accepted_designs_are_exportable.ensures; behaves = c.exported_designs_behave.ensures })
    (record { after = c.exports_follow.ensures.after })
    passes c.args.options d (design_of c.args.made.now.design) accepted (c.what_is_canonical_is_printable.ensures d accepted form) is c.requires
    (subst (λ (e : Design). HasRoomToExport e) (ap (map numbered_module) c.design.ensures) c.stored_designs_have_room.ensures))
    c.export.ensures
