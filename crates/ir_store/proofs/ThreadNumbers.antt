-- Numbers cross to other threads.
use denote.Struct.Field.{u8-field, u32-field}
use denote.Param.Send.{IsSend, IsSync, plain_send, plain_sync}

pub u32_send : IsSend u32-field.row
u32_send = plain_send _ _ _ _ _

pub u32_sync : IsSync u32-field.row
u32_sync = plain_sync _ _ _ _ _

pub u8_sync : IsSync u8-field.row
u8_sync = plain_sync _ _ _ _ _
