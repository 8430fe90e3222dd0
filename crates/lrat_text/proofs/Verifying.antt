-- Where a proof has no fault, each line follows and the empty clause is a step; and the other way round.
use Rattle.std.proofs.Common.{◌≡◌, ℕ, ◌+◌, ◌^◌, Bool, true, false, ◌&&◌, ◌||◌, cond, List, [], ◌∷◌, length, leb, ltb, refl, sym, ◌∙◌, ap}
use Rattle.std.specs.Prelude.{Option, Some, None, is_none}
use Rattle.std.proofs.lemmas.Bool.{and_parts, and_from, false≢true, false_from_ne_true, leb-true, le-leb, le-ltb, ltb-false}
use Rattle.resolution_proof.specs.Formula.{Formula, satisfies}
use Rattle.resolution_proof.specs.Fresh.{is_empty}
use Rattle.diag.specs.declared.cause.Cause.{Cause}
use Rattle.diag.specs.declared.cause.Cause.TheVariants.{TooLong, NoEmptyClause}
use Rattle.lrat_text.specs.ProofLine.{Line, skips, adds, deletes, bad, proof_lines}
use Rattle.lrat_text.specs.Checking.{State, line_fault, after_line, start, or_later, first_fault, proof_fault}
use Rattle.lrat_text.specs.Verified.{goes, lrat, is_empty_step, have_empty, has_empty, is_verified}
use Rattle.lrat_text.proofs.Soundness.{unsatisfiable}

none_then : (n : ℕ) (o : Option Cause) (later : Option (ℕ × Cause)) → or_later n o later ≡ None → (is_none o ≡ true) × (later ≡ None)
none_then n None later h = (refl, h)
none_then n (Some cause) later h = absurd (let w : ⊥ = cc in w)

done_from : (n : ℕ) (d : Bool) → cond {A = Option (ℕ × Cause)} d None (Some (n, NoEmptyClause)) ≡ None → d ≡ true
done_from n true h = refl
done_from n false h = absurd (let w : ⊥ = cc in w)

or_assoc : (a b c : Bool) → ((a || b) || c) ≡ (a || (b || c))
or_assoc true b c = refl
or_assoc false b c = refl

or_nothing : (a b : Bool) → (a || b) ≡ (a || (false || b))
or_nothing true b = refl
or_nothing false b = refl

done_by : (s : State) (l : Line) (b : Bool) → ((after_line s l).done || b) ≡ (s.done || (is_empty_step l || b))
done_by s skips b = or_nothing s.done b
done_by s (adds id c hs) b = or_assoc s.done (is_empty c) b
done_by s (deletes ns) b = or_nothing s.done b
done_by s bad b = or_nothing s.done b

or_false : (a : Bool) → (a || false) ≡ a
or_false true = refl
or_false false = refl

no_fault_goes : (variables : ℕ) (s : State) (n : ℕ) (ls : List Line) → first_fault variables s n ls ≡ None → (goes variables s ls ≡ true) × ((s.done || have_empty ls) ≡ true)
no_fault_goes variables s n [] h = (refl, or_false s.done ∙ done_from n s.done h)
no_fault_goes variables s n (l ∷ ls) h =
    let parts = none_then n (line_fault variables s l) (first_fault variables (after_line s l) (n + 1) ls) h in
    let more = no_fault_goes variables (after_line s l) (n + 1) ls parts.1 in
    (and_from (is_none (line_fault variables s l)) (goes variables (after_line s l) ls) parts.0 more.0, sym (done_by s l (have_empty ls)) ∙ more.1)

short_fault : (f : Formula) (bytes : List ℕ) (long : Bool) → cond long (Some (1, TooLong)) (first_fault f.variables (start f) 1 (proof_lines bytes)) ≡ None
    → first_fault f.variables (start f) 1 (proof_lines bytes) ≡ None
short_fault f bytes true h = absurd (let w : ⊥ = cc in w)
short_fault f bytes false h = h

-- a text without a fault is a proof with the empty clause as a step
is_proof : (f : Formula) (bytes : List ℕ) → proof_fault f bytes ≡ None → (lrat f bytes ≡ true) × (has_empty bytes ≡ true)
unfolding proof_fault lrat has_empty
is_proof f bytes h = no_fault_goes f.variables (start f) 1 (proof_lines bytes) (short_fault f bytes (ltb (2 ^ 26) (length bytes)) h)

is_short : (f : Formula) (bytes : List ℕ) → proof_fault f bytes ≡ None → leb (length bytes) (2 ^ 26) ≡ true
unfolding proof_fault
is_short f bytes h = by_size (ltb (2 ^ 26) (length bytes)) refl h
  where
    by_size : (b : Bool) → ltb (2 ^ 26) (length bytes) ≡ b → cond b (Some (1, TooLong)) (first_fault f.variables (start f) 1 (proof_lines bytes)) ≡ None → leb (length bytes) (2 ^ 26) ≡ true
    by_size true e g = absurd (let w : ⊥ = cc in w)
    by_size false e g = le-leb (length bytes) (2 ^ 26) (ltb-false (2 ^ 26) (length bytes) e)

pub none_verified : (f : Formula) (bytes : List ℕ) → proof_fault f bytes ≡ None → is_verified f bytes ≡ true
unfolding is_verified
none_verified f bytes h =
    let both = is_proof f bytes h in
    and_from (leb (length bytes) (2 ^ 26)) (lrat f bytes && has_empty bytes) (is_short f bytes h) (and_from (lrat f bytes) (has_empty bytes) both.0 both.1)

-- and then no assignment satisfies the formula
pub none_satisfies : (f : Formula) (bytes : List ℕ) → proof_fault f bytes ≡ None → (bits : List Bool) → satisfies bits f ≡ true → ⊥
none_satisfies f bytes h bits s = let both = is_proof f bytes h in unsatisfiable f bytes both.0 both.1 bits s

-- where each line follows and the empty clause is a step, there is no fault
later_none : (n : ℕ) (o : Option Cause) (later : Option (ℕ × Cause)) → is_none o ≡ true → later ≡ None → or_later n o later ≡ None
later_none n None later h e = e
later_none n (Some cause) later h e = absurd (false≢true h)

goes_no_fault : (variables : ℕ) (s : State) (n : ℕ) (ls : List Line) → goes variables s ls ≡ true → (s.done || have_empty ls) ≡ true → first_fault variables s n ls ≡ None
goes_no_fault variables s n [] g h = ap (λ (b : Bool). cond {A = Option (ℕ × Cause)} b None (Some (n, NoEmptyClause))) (sym (or_false s.done) ∙ h)
goes_no_fault variables s n (l ∷ ls) g h =
    let parts = and_parts (is_none (line_fault variables s l)) (goes variables (after_line s l) ls) g in
    later_none n (line_fault variables s l) (first_fault variables (after_line s l) (n + 1) ls) parts.0
    (goes_no_fault variables (after_line s l) (n + 1) ls parts.1 (done_by s l (have_empty ls) ∙ h))

pub verified_none : (f : Formula) (bytes : List ℕ) → is_verified f bytes ≡ true → proof_fault f bytes ≡ None
unfolding is_verified proof_fault lrat has_empty
verified_none f bytes h =
    let parts = and_parts (leb (length bytes) (2 ^ 26)) (goes f.variables (start f) (proof_lines bytes) && have_empty (proof_lines bytes)) h in
    let both = and_parts (goes f.variables (start f) (proof_lines bytes)) (have_empty (proof_lines bytes)) parts.1 in
    ap (λ (b : Bool). cond b (Some (1, TooLong)) (first_fault f.variables (start f) 1 (proof_lines bytes))) (le-ltb (2 ^ 26) (length bytes) (leb-true (length bytes) (2 ^ 26) parts.0))
    ∙ goes_no_fault f.variables (start f) 1 (proof_lines bytes) both.0 both.1

-- a text with a fault is not verified
pub fault_unverified : (f : Formula) (bytes : List ℕ) (n : ℕ) (cause : Cause) → proof_fault f bytes ≡ Some (n, cause) → is_verified f bytes ≡ false
fault_unverified f bytes n cause e = false_from_ne_true (is_verified f bytes) (λ h. let none = verified_none f bytes h in let w : ⊥ = cc in w)
