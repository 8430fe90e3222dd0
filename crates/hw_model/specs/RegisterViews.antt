-- The registers that registers of code stand for, whose operands are seen as references.
use Rattle.std.specs.Prelude.{option_map}
use Rattle.hw_model.specs.Design.{Ref}
use Rattle.hw_model.specs.Flat.{Register, ResetBy}
use Rattle.hw_model.specs.declared.registers.Register.{Register as CodeRegister}
use Rattle.hw_model.specs.declared.registers.ResetBy.{ResetBy as CodeReset}

-- what resets a register
abbrev pub reset_by_of : {V : Type 0} → (V → Ref) → CodeReset V → ResetBy
reset_by_of see r = record { signal = see r.signal; value = see r.value }

-- a register's operands
abbrev pub register_of : {V : Type 0} → (V → Ref) → CodeRegister V → Register
register_of see r = record { next = see r.next; clock = see r.clock; enable = option_map see r.enable; reset = option_map (reset_by_of see) r.reset }
