-- Proofs as whole texts, with no word of how they are checked.
use Rattle.std.specs.Prelude.{◌≡◌, ℕ, Bool, true, false, ◌&&◌, ◌||◌, ◌^◌, nat_le, List, [], ◌∷◌, length, is_none, Ok, IsTrue}
use Rattle.resolution_proof.specs.Formula.{Formula}
use Rattle.resolution_proof.specs.Fresh.{is_empty}
use Rattle.lrat_text.specs.ProofLine.{Line, skips, adds, deletes, bad, proof_lines}
use Rattle.lrat_text.specs.Checking.{State, line_fault, after_line, start}
use Rattle.lrat_text.specs.declared.fail.CheckFail.{CheckFail}
use Rattle.lrat_text.specs.declared.fail.CheckFail.TheVariants.{Refused, NoMemory}
use Rattle.lrat_text.specs.Dimacs.{dimacs}

-- each line is right where those before it have been read
abbrev pub goes : ℕ → State → List Line → Bool
goes variables s [] = true
goes variables s (l ∷ ls) = is_none (line_fault variables s l) && goes variables (after_line s l) ls

-- the text is a proof over the formula
unfoldable pub lrat : Formula → List ℕ → Bool
lrat f bytes = goes f.variables (start f) (proof_lines bytes)

-- the line is a step with the empty clause
abbrev pub is_empty_step : Line → Bool
is_empty_step skips = false
is_empty_step (adds id c hs) = is_empty c
is_empty_step (deletes ns) = false
is_empty_step bad = false

-- one of the lines is
abbrev pub have_empty : List Line → Bool
have_empty [] = false
have_empty (l ∷ ls) = is_empty_step l || have_empty ls

-- the empty clause is a step of the text
unfoldable pub has_empty : List ℕ → Bool
has_empty bytes = have_empty (proof_lines bytes)

-- the first text writes a formula, and the second is a proof over it with the empty clause as a step
pub record Verified (formula : List ℕ) (proof : List ℕ) : Type 0 where
  pub read : Formula
  pub text : dimacs formula ≡ Ok read
  pub lrat : IsTrue (lrat read proof)
  pub empty : IsTrue (has_empty proof)

-- a text of at most 2^26 bytes is a proof over the formula, with the empty clause as a step
unfoldable pub is_verified : Formula → List ℕ → Bool
is_verified f bytes = nat_le (length bytes) (2 ^ 26) && (lrat f bytes && has_empty bytes)

-- a text that is refused is not verified: nothing is said where memory is wanting
abbrev pub IsUnverified : Formula → List ℕ → CheckFail → Type 0
IsUnverified f bytes NoMemory = Unit {0}
IsUnverified f bytes (Refused r) = is_verified f bytes ≡ false
