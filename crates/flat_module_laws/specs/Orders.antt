-- An order of a body's operations in which each stands after those whose results it takes (CIRCT, HW dialect: graph regions).
use Rattle.std.specs.Prelude.{◌≡◌, ℕ, false, List, [], ◌∷◌, length, IsPermutation, Option, Some, None, slice_get}
use Rattle.wiring.specs.Wiring.{In}
use Rattle.graphs.specs.Orders.{numbers_from}
use Rattle.hw_model.specs.Design.{Ref, Op, is_register, is_output_op}
use Rattle.hw_model.specs.Design.Ref.{port, result, undefined}

-- the operation whose result an operand is stands among the positions that were seen
abbrev pub IsSeen : List ℕ → Ref → Type 0
IsSeen seen (port j) = Unit {0}
IsSeen seen (result j k) = In j seen
IsSeen seen undefined = Unit {0}

-- those of an operation's operands do; a register has its content and an output no result, so theirs may come later
abbrev pub ComesAfter : List ℕ → Option Op → Type 0
ComesAfter seen None = Unit {0}
ComesAfter seen (Some o) = is_register o ≡ false → is_output_op o ≡ false → (r : Ref) → In r o.operands → IsSeen seen r

-- each position of the list comes after those that its operation needs, some being seen before
abbrev pub StandInOrder : List Op → List ℕ → List ℕ → Type 0
StandInOrder os seen [] = Unit {0}
StandInOrder os seen (i ∷ order) = ComesAfter seen (slice_get os i) × StandInOrder os (i ∷ seen) order

-- the list has each position of a body once, in such an order
pub record IsOrder (os : List Op) (order : List ℕ) : Type 0 where
  pub all : IsPermutation (numbers_from 0 (length os)) order
  pub stand : StandInOrder os [] order
