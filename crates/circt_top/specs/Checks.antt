-- The check of a proof of others over a formula (LRAT: Cruz-Filipe, Heule, Hunt, Kaufmann and Schneider-Kamp, 2017).
use Rattle.std.specs.Prelude.{◌≡◌, ℕ, Bool, List, [], ◌∷◌, Ok, Err, Some, IsTrue, codes}
use Rattle.resolution_proof.specs.Formula.{Formula, satisfies}
use Rattle.diag.specs.declared.cause.Cause.{Cause}
use Rattle.diag.specs.declared.refusal.Refusal.{Refusal}
use Rattle.diag.specs.declared.refusal.OpName.TheVariants as op
use Rattle.lrat_text.specs.Dimacs.{formula_of}
use Rattle.lrat_text.specs.Checking.{proof_fault}
use Rattle.lrat_text.specs.Verified.{is_verified}
use Rattle.lrat_text.specs.declared.fail.CheckFail.{CheckFail}
use Rattle.lrat_text.specs.declared.fail.CheckFail.TheVariants as check
use Rattle.circt_top.specs.Accepting.{first_input, second_input, line_refusal}
use Rattle.circt_top.specs.declared.made.OutcomeFail.{OutcomeFail}
use Rattle.circt_top.specs.declared.made.OutcomeFail.TheVariants.{Refused, NoMemory}

-- the first refusal: of the first input, where that is no formula, or of the second one, where that is no proof over it
pub data IsRefusedProof (contents : List (List ℕ)) : Refusal → Type 0 where
  formula : (line : ℕ) (cause : Cause) → formula_of (first_input contents) ≡ Err (line, cause) → IsRefusedProof contents (line_refusal op.Check 0 line cause)
  proof : (f : Formula) (line : ℕ) (cause : Cause) → formula_of (first_input contents) ≡ Ok f → proof_fault f (second_input contents) ≡ Some (line, cause)
      → IsRefusedProof contents (line_refusal op.Check 1 line cause)

-- the first input is a formula, and the second one a proof over it in which the empty clause is a step
pub record CanBeVerified (contents : List (List ℕ)) : Type 0 where
  pub read : Formula
  pub says : formula_of (first_input contents) ≡ Ok read
  pub verified : IsTrue (is_verified read (second_input contents))

-- and then no assignment satisfies the formula, and the text says so
pub record IsVerifiedProof (contents : List (List ℕ)) (text : List ℕ) : Type 0 where
  pub can : CanBeVerified contents
  pub unsatisfiable : (bits : List Bool) → ¬ IsTrue (satisfies bits can.read)
  pub is : text ≡ codes "verified\n"

-- why no text is made of the input of this number
abbrev pub check_failure : ℕ → CheckFail → OutcomeFail
check_failure number (check.Refused r) = Refused (line_refusal op.Check number r.line r.cause)
check_failure number check.NoMemory = NoMemory
