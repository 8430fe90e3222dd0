-- What is made of the inputs of a check.
use Rattle.std.proofs.Common.{◌≡◌, ℕ, Bool, true, false, List, Some, None, Ok, Err, sym, subst, ◌∙◌, IsTrue, codes}
use Rattle.resolution_proof.specs.Formula.{Formula, satisfies}
use Rattle.diag.specs.declared.cause.Cause.{Cause}
use Rattle.diag.specs.declared.refusal.Refusal.{Refusal}
use Rattle.lrat_text.specs.Dimacs.{formula_of, IsReadFail}
use Rattle.lrat_text.specs.Checking.{proof_fault, IsAnswer}
use Rattle.lrat_text.specs.Verified.{is_verified}
use Rattle.lrat_text.proofs.Verifying.{verified_none}
use Rattle.lrat_text.specs.declared.fail.CheckFail.{CheckFail}
use Rattle.lrat_text.specs.declared.fail.CheckFail.TheVariants as check
use Rattle.command_line.specs.Line.Work.{proof_check}
use Rattle.circt_top.specs.Accepting.{first_input, second_input}
use Rattle.circt_top.specs.Checks.{check_failure, IsRefusedProof, CanBeVerified, IsVerifiedProof}
use Rattle.circt_top.specs.Checks.IsRefusedProof.{formula as of_formula, proof as of_proof}
use Rattle.circt_top.specs.Outcome.{GivesText}

-- what is verified is not refused
pub verified_unrefused : (contents : List (List ℕ)) (r : Refusal) → CanBeVerified contents → IsRefusedProof contents r → ⊥
verified_unrefused contents r can (of_formula line cause is) = let e : Err (line, cause) ≡ Ok can.read = sym is ∙ can.says in cc
verified_unrefused contents r can (of_proof f line cause says is) =
    let same : Ok f ≡ Ok can.read = sym says ∙ can.says in
    let one : f ≡ can.read = cc in
    let none : proof_fault f (second_input contents) ≡ None = verified_none f (second_input contents) (subst (λ g. IsTrue (is_verified g (second_input contents))) (sym one) can.verified) in
    let clash : None ≡ Some (line, cause) = sym none ∙ is in cc

-- what fails on the formula, and on the proof
pub formula_fails : (contents : List (List ℕ)) (bytes : List ℕ) (fail : CheckFail) → bytes ≡ first_input contents → IsReadFail bytes fail
    → GivesText proof_check contents (Err (check_failure 0 fail))
formula_fails contents bytes (check.Refused r) is failed = of_formula r.line r.cause (subst (λ b. formula_of b ≡ Err (r.line, r.cause)) is failed)
formula_fails contents bytes check.NoMemory is failed = tt

pub proof_fails : (contents : List (List ℕ)) (bytes proof : List ℕ) (f : Formula) (fail : CheckFail) → bytes ≡ first_input contents → proof ≡ second_input contents
    → formula_of bytes ≡ Ok f → IsAnswer (proof_fault f proof) fail → GivesText proof_check contents (Err (check_failure 1 fail))
proof_fails contents bytes proof f (check.Refused r) is second says failed =
    of_proof f r.line r.cause (subst (λ b. formula_of b ≡ Ok f) is says) (subst (λ b. proof_fault f b ≡ Some (r.line, r.cause)) second failed)
proof_fails contents bytes proof f check.NoMemory is second says failed = tt

-- what is verified
pub is_verified_proof : (contents : List (List ℕ)) (bytes proof : List ℕ) (f : Formula) (text : List ℕ) → bytes ≡ first_input contents → proof ≡ second_input contents
    → formula_of bytes ≡ Ok f → IsTrue (is_verified f proof) → ((bits : List Bool) → ¬ IsTrue (satisfies bits f)) → text ≡ codes "verified\n" → IsVerifiedProof contents text
is_verified_proof contents bytes proof f text is second says verified unsatisfiable written = record {
  can = record {
    read = f;
    says = subst (λ b. formula_of b ≡ Ok f) is says;
    verified = subst (λ b. IsTrue (is_verified f b)) second verified;
  };
  unsatisfiable = unsatisfiable;
  is = written;
}
