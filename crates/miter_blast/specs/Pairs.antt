-- The two modules that are compared, and why there are none (CIRCT: `circt-lec`).
use Rattle.std.specs.Prelude.{◌≡◌, ℕ, Bool, List, MatchBool, Option, Some, None, slice_get}
use Rattle.diag.specs.Location.{start_location}
use Rattle.diag.specs.declared.cause.Cause.{Cause}
use Rattle.diag.specs.declared.cause.Cause.TheVariants.{NoSuchModule, PortsDiffer}
use Rattle.diag.specs.declared.refusal.OpName.TheVariants as op
use Rattle.diag.specs.declared.refusal.Refusal.{Refusal}
use Rattle.opcode.specs.declared.listed.Listed.TheVariants.{HwModule}
use Rattle.hw_model.specs.Types.{Name}
use Rattle.hw_model.specs.Design.{Location, Port, Module, Design, find_module}
use Rattle.hw_model.specs.Sound.{input_types, output_types}
use Rattle.miter_blast.specs.declared.fail.MiterFail.{MiterFail}
use Rattle.miter_blast.specs.declared.fail.MiterFail.TheVariants.{Refused, NoMemory}

-- ---- positions of refusals

-- at the beginning of the text of a number
abbrev pub at_file : ℕ → Cause → Refusal
at_file number cause = record { file = number; location = start_location; op = op.File; cause = cause }

-- at the header of a module
abbrev pub at_module : ℕ → Location → Cause → Refusal
at_module number location cause = record { file = number; location = record { line = location.line; col = location.col }; op = op.Listed HwModule; cause = cause }

-- ---- pairs

-- ports have inputs of the same types in order, and outputs
abbrev pub HaveSamePorts : List Port → List Port → Type 0
HaveSamePorts ps qs = (input_types ps ≡ input_types qs) × (output_types ps ≡ output_types qs)

-- the modules of two symbols are there
pub record AreFound (d : Design) (a : Name) (e : Design) (b : Name) (m n : Module) : Type 0 where
  pub one : find_module d a ≡ Some m
  pub two : find_module e b ≡ Some n

-- the module of a symbol is at this position, or not there
abbrev pub IsFoundAt : Design → Name → Option ℕ → Type 0
IsFoundAt d s None = find_module d s ≡ None
IsFoundAt d s (Some n) = (m : Module) × (slice_get d n ≡ Some m) × (find_module d s ≡ Some m)

-- the modules of two symbols are at these positions, and have the same ports
pub record IsPair (d : Design) (a : Name) (e : Design) (b : Name) (i j : ℕ) : Type 0 where
  pub left : Module
  pub right : Module
  pub left_at : slice_get d i ≡ Some left
  pub right_at : slice_get e j ≡ Some right
  pub found : AreFound d a e b left right
  pub ports : HaveSamePorts left.ports right.ports

-- ---- refusals

-- one of the modules is not there, or their ports differ
pub data IsNoPair (d : Design) (a : Name) (e : Design) (b : Name) : Refusal → Type 0 where
  no_left : find_module d a ≡ None → IsNoPair d a e b (at_file 0 NoSuchModule)
  no_right : (m : Module) → find_module d a ≡ Some m → find_module e b ≡ None → IsNoPair d a e b (at_file 1 NoSuchModule)
  ports : (m n : Module) → AreFound d a e b m n → (HaveSamePorts m.ports n.ports → ⊥) → IsNoPair d a e b (at_module 1 n.location PortsDiffer)

abbrev pub IsRefusedPair : Design → Name → Design → Name → MiterFail → Type 0
IsRefusedPair d a e b (Refused r) = IsNoPair d a e b r
IsRefusedPair d a e b NoMemory = Unit {0}

-- a fact holds exactly where a test does
abbrev pub Tells : Bool → Type 0 → Type 0
Tells b P = MatchBool b P (P → ⊥)

-- modules of some symbols are at these positions, with the same ports
abbrev pub HasPair : Design → Design → ℕ → ℕ → Type 0
HasPair d e i j = (a : Name) × (b : Name) × IsPair d a e b i j
