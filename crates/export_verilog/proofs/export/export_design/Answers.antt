use Rattle.std.proofs.Common.{sym, subst}
use Rattle.ir_store.specs.Designs.{design_of}
use Rattle.export_verilog.specs.WritableDesigns.{IsWritableDesign}
use Rattle.export_verilog.proofs.accepted.AcceptedBodies.{accepted_writable}
use Rattle.export_verilog.proofs.export.export_design.Goals as goal

pub design_text-requires : goal.design_text-requires
design_text-requires g c =
    subst IsWritableDesign (sym c.in_ok-all.ensures) (accepted_writable (design_of c.args.design.now) c.requires.accepted c.requires.exported c.stored_designs_have_room.ensures)

pub texts_of-requires-after_bounds : goal.texts_of-requires-after_bounds
texts_of-requires-after_bounds g c κs within =
    subst IsWritableDesign (sym c.in_ok-all.ensures) (accepted_writable (design_of c.args.design.now) c.requires.accepted c.requires.exported c.stored_designs_have_room.ensures)
