-- Operations, bodies and designs cross to other threads.
use denote.Param.Send.{IsSend, IsSync, recorded_send, recorded_sync, struct_send, struct_sync, plain_send, plain_sync}
use denote.Struct.Declared.{shape}
use Rattle.std.proofs.Crossing.{Vec-send, Vec-sync}
use Rattle.diag.proofs.refusal.Location.TheSendSync as location
use Rattle.io_edge.proofs.byte_text.Text.TheSendSync as text
use Rattle.hw_model.proofs.kinds.Integer.TheSendSync as integer
use Rattle.hw_model.specs.contracts.types.Ty as ty
use Rattle.ir_store.specs.contracts.dictionary.Attribute as attribute
use Rattle.ir_store.specs.contracts.dictionary.Entry as entry
use Rattle.ir_store.specs.contracts.dictionary.Dictionary as dictionary
use Rattle.ir_store.proofs.dictionary.Attribute.TheLaws.TheKnot.{send-Attribute, sync-Attribute}
use Rattle.ir_store.specs.contracts.operation.NewResult as new_result
use Rattle.ir_store.specs.contracts.operation.Parts as parts
use Rattle.ir_store.proofs.short_list.ShortList.TheSendSync as short_list
use Rattle.ir_store.specs.contracts.body.Body as body
use Rattle.ir_store.proofs.order.Order.TheSendSync as order
use Rattle.ir_store.proofs.operands.OperandTable.TheSendSync as operands
use Rattle.ir_store.proofs.ThreadTypes.{ty_field_send, ty_field_sync, ty_send, ty_sync, kind_field_send, kind_field_sync}

-- ---- dictionaries

attribute_field_send : IsSend attribute.the_field.row
attribute_field_send = send-Attribute text.the_send (plain_send _ _ _ _ _) integer.the_field_send ty_field_send Vec-send

attribute_field_sync : IsSync attribute.the_field.row
attribute_field_sync = sync-Attribute text.the_sync (plain_sync _ _ _ _ _) integer.the_field_sync ty_field_sync Vec-sync

entry_send : IsSend entry.the_row
entry_send = recorded_send entry.the_field.row _ _ entry.the_type.to_one (struct_send (shape entry.the_type) (text.the_send, (attribute_field_send, tt)))

entry_sync : IsSync entry.the_row
entry_sync = recorded_sync entry.the_field.row _ _ entry.the_type.to_one (struct_sync (shape entry.the_type) (text.the_sync, (attribute_field_sync, tt)))

pub dictionary_field_send : IsSend dictionary.the_field.row
dictionary_field_send = struct_send (shape dictionary.the_type) (Vec-send entry.the_row entry_send, tt)

pub dictionary_field_sync : IsSync dictionary.the_field.row
dictionary_field_sync = struct_sync (shape dictionary.the_type) (Vec-sync entry.the_row entry_sync, tt)

-- ---- operations

result_send : IsSend new_result.the_row
result_send = recorded_send new_result.the_field.row _ _ new_result.the_type.to_one (struct_send (shape new_result.the_type) (ty_field_send, (plain_send _ _ _ _ _, tt)))

result_sync : IsSync new_result.the_row
result_sync = recorded_sync new_result.the_field.row _ _ new_result.the_type.to_one (struct_sync (shape new_result.the_type) (ty_field_sync, (plain_sync _ _ _ _ _, tt)))

parts_send : IsSend parts.the_row
parts_send = recorded_send parts.the_field.row _ _ parts.the_type.to_one (struct_send (shape parts.the_type) (
  kind_field_send,
  (
    short_list.the_field_send ty.the_row ty_send,
    (
      short_list.the_field_send new_result.the_row result_send,
      (
        plain_send _ _ _ _ _,
        (text.the_send, (dictionary_field_send, (plain_send _ _ _ _ _, (location.the_field_send, tt)))),
      ),
    ),
  ),
))

parts_sync : IsSync parts.the_row
parts_sync = recorded_sync parts.the_field.row _ _ parts.the_type.to_one (struct_sync (shape parts.the_type) (
  kind_field_sync,
  (
    short_list.the_field_sync ty.the_row ty_sync,
    (
      short_list.the_field_sync new_result.the_row result_sync,
      (
        plain_sync _ _ _ _ _,
        (text.the_sync, (dictionary_field_sync, (plain_sync _ _ _ _ _, (location.the_field_sync, tt)))),
      ),
    ),
  ),
))

-- ---- bodies

pub body_field_send : IsSend body.the_field.row
body_field_send = struct_send (shape body.the_type) (order.the_field_send, (Vec-send parts.the_row parts_send, (operands.the_send, tt)))

pub body_field_sync : IsSync body.the_field.row
body_field_sync = struct_sync (shape body.the_type) (order.the_field_sync, (Vec-sync parts.the_row parts_sync, (operands.the_sync, tt)))

pub body_send : IsSend body.the_row
body_send = recorded_send body.the_field.row _ _ body.the_type.to_one body_field_send

pub body_sync : IsSync body.the_row
body_sync = recorded_sync body.the_field.row _ _ body.the_type.to_one body_field_sync
