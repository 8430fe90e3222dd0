-- Which bytes are accepted, and what the others are refused for.
use Rattle.std.specs.Prelude.{◌≡◌, ℕ, List, [], ◌∷◌, Ok, Err}
use Rattle.diag.specs.declared.cause.Cause.{Cause}
use Rattle.diag.specs.declared.refusal.OpName.{OpName}
use Rattle.diag.specs.declared.refusal.Refusal.{Refusal}
use Rattle.hw_model.specs.Design.{Design}
use Rattle.mlir_reader.specs.Reading.{read}
use Rattle.op_verifier.specs.Verdict.{IsAccepted, IsRefusal}

-- the bytes say this design, of which nothing is refused
pub record Accepted (bytes : List ℕ) (d : Design) : Type 0 where
  pub says : read bytes ≡ Ok d
  pub accepted : IsAccepted d

-- the bytes say some design, of which nothing is refused
abbrev pub IsAcceptedText : List ℕ → Type 0
IsAcceptedText bytes = (d : Design) × Accepted bytes d

-- the first refusal: of the text, or else of the design that it says
pub data IsRefused (bytes : List ℕ) : Refusal → Type 0 where
  unread : (r : Refusal) → read bytes ≡ Err r → IsRefused bytes r
  unaccepted : (d : Design) (r : Refusal) → read bytes ≡ Ok d → IsRefusal d r → IsRefused bytes r

-- a refusal, as one of the input of this number
abbrev pub in_file : ℕ → Refusal → Refusal
in_file number r = record r { file = number }

-- the bytes of the input of this number are refused so
pub record IsRefusedIn (number : ℕ) (bytes : List ℕ) (r : Refusal) : Type 0 where
  pub refusal : Refusal
  pub refused : IsRefused bytes refusal
  pub numbered : r ≡ in_file number refusal

-- the bytes of the first input
abbrev pub first_input : List (List ℕ) → List ℕ
first_input [] = []
first_input (bytes ∷ contents) = bytes

-- the bytes of the second input
abbrev pub second_input : List (List ℕ) → List ℕ
second_input [] = []
second_input (bytes ∷ []) = []
second_input (bytes ∷ more ∷ contents) = more

-- the refusal, by an operation, of the input of this number at a line
abbrev pub line_refusal : OpName → ℕ → ℕ → Cause → Refusal
line_refusal op number line cause = record { file = number; location = record { line = line; col = 1 }; op = op; cause = cause }
