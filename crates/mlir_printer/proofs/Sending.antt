-- Modules cross to other threads.
use denote.Param.Send.{IsSend, recorded_send, struct_send, plain_send}
use denote.Struct.Declared.{shape}
use Rattle.std.proofs.Crossing.{Vec-send}
use Rattle.diag.proofs.refusal.Location.TheSendSync as location
use Rattle.io_edge.proofs.byte_text.Text.TheSendSync as text
use Rattle.ir_store.specs.contracts.design.Port as port
use Rattle.ir_store.specs.contracts.design.PortList as ports
use Rattle.ir_store.specs.contracts.design.Module as one
use Rattle.ir_store.proofs.ThreadTypes.{ty_field_send}
use Rattle.ir_store.proofs.ThreadBodies.{dictionary_field_send, body_field_send}

port_send : IsSend port.the_row
port_send = recorded_send port.the_field.row _ _ port.the_type.to_one (struct_send (shape port.the_type) (text.the_send, (plain_send _ _ _ _ _, (ty_field_send, (plain_send _ _ _ _ _, tt)))))

ports_field_send : IsSend ports.the_field.row
ports_field_send = struct_send (shape ports.the_type) (Vec-send port.the_row port_send, tt)

pub module_send : IsSend one.the_row
module_send = recorded_send one.the_field.row _ _ one.the_type.to_one (struct_send (shape one.the_type)
    (text.the_send, (plain_send _ _ _ _ _, (ports_field_send, (dictionary_field_send, (body_field_send, (location.the_field_send, tt)))))))
