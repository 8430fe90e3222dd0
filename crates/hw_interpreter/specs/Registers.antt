-- The registers that the code's registers stand for.
use Rattle.hw_model.specs.Flat.{Slot}
use Rattle.hw_interpreter.specs.DesignViews.{op_of}
use Rattle.hw_interpreter.specs.declared.registers.Slot.{Slot as CodeSlot}

abbrev pub slot_of : CodeSlot → Slot
slot_of s = record { path = s.path.items; op = op_of s.operation.now }
