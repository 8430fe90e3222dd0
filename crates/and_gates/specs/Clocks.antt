-- The clocks and the resets of the registers of a flat body (CIRCT, Seq dialect: `seq.compreg`, `seq.firreg`).
use Rattle.std.specs.Prelude.{◌≡◌, ℕ, Bool, false, not, ◌==◌, List, [], ◌∷◌, Option, Some, None}
use Rattle.std.specs.List.{flat_map, list_any}
use Rattle.wiring.specs.Wiring.{In}
use Rattle.hw_model.specs.Design.{Ref, Op}
use Rattle.hw_model.specs.Design.Ref.{port, result, undefined}
use Rattle.hw_model.specs.Flat.{Register, register_in, has_async_reset}

-- a number that may be there, as a list
abbrev pub listed : Option ℕ → List ℕ
listed None = []
listed (Some n) = n ∷ []

-- the port that a value is, where it is one
abbrev pub port_in : Ref → List ℕ
port_in (port j) = j ∷ []
port_in (result i k) = []
port_in undefined = []

-- the port that clocks a register
abbrev pub clock_in : Option Register → List ℕ
clock_in None = []
clock_in (Some r) = port_in r.clock

-- the port that clocks an operation, where it is a register
abbrev pub clock_of : Op → List ℕ
clock_of o = clock_in (register_in o)

-- the ports that clock the registers of a body, register by register
abbrev pub clock_ports : List Op → List ℕ
clock_ports os = flat_map clock_of os

-- whether a member is not the first one
abbrev pub are_several : List ℕ → Bool
are_several [] = false
are_several (x ∷ xs) = list_any (λ y. not (y == x)) xs

-- whether more than one port clocks the registers of a body
abbrev pub has_several_clocks : List Op → Bool
has_several_clocks os = are_several (clock_ports os)

-- the registers of a body have one clock
abbrev pub HasOneClock : List Op → Type 0
HasOneClock os = (o p : Op) → In o os → In p os → (r s : Register) → register_in o ≡ Some r → register_in p ≡ Some s → r.clock ≡ s.clock

-- whether an operation is a register that is reset without its clock
abbrev pub is_async : Op → Bool
is_async o = has_async_reset o.kind

-- whether one of a body is
abbrev pub has_async : List Op → Bool
has_async os = list_any is_async os
