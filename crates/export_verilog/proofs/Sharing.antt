-- A design with its names, and how it is written, may be shared with other threads.
use denote.Ref.{NamedLft}
use denote.Struct.Declared.{shape}
use denote.Param.Send.{IsSync, recorded_sync, struct_sync, shr_sync}
use Rattle.std.proofs.Crossing.{Vec-sync}
use Rattle.io_edge.specs.contracts.byte_text.Text as text
use Rattle.io_edge.proofs.byte_text.Text.TheSendSync as text_laws
use Rattle.ir_store.proofs.ThreadDesigns.{design_sync}
use Rattle.export_verilog.specs.contracts.named_design.PortNames as port_names
use Rattle.export_verilog.proofs.named_design.PortNames.TheSendSync as port_names_laws
use Rattle.export_verilog.specs.contracts.named_design.NamedDesign as named
use Rattle.lowering_options.specs.contracts.lowering.Lowering as lowering
use Rattle.lowering_options.proofs.lowering.Lowering.TheSendSync as lowering_laws

pub named_sync : (a : NamedLft) → IsSync (named.the_row a)
named_sync a = recorded_sync (named.the_field a).row _ _ (named.the_type a).to_one (struct_sync (shape (named.the_type a))
    (shr_sync _ _ _ design_sync, (Vec-sync text.the_row text_laws.the_sync, (Vec-sync port_names.the_row port_names_laws.the_sync, tt))))

-- how expressions are written is shared with other threads
pub lowering_sync : IsSync lowering.the_row
lowering_sync = lowering_laws.the_sync
