-- A formula over which there is a proof with the empty clause has no assignment that satisfies it.
use Rattle.std.proofs.Common.{◌≡◌, ℕ, ◌+◌, Bool, true, false, not, ◌&&◌, ◌||◌, cond, List, [], ◌∷◌, length, eqb, refl, sym, subst, inl, inr}
use Rattle.std.specs.Prelude.{Option, Some, None, is_some, is_none, unwrap_or, nat_eq}
use Rattle.std.specs.Map.{update}
use Rattle.std.proofs.Math.Bool.{beq}
use Rattle.std.specs.List.{list_all}
use Rattle.std.proofs.lemmas.Bool.{and_parts, and_from, or_cases, or_parts, or_left, or_right, false≢true}
use Rattle.resolution_proof.specs.declared.literal.Literal.{Literal}
use Rattle.resolution_proof.specs.Literal.{negation, same, holds}
use Rattle.resolution_proof.specs.Formula.{Formula, is_true, makes_true, satisfies}
use Rattle.resolution_proof.specs.Fresh.{is_empty}
use Rattle.resolution_proof.proofs.Sets.{same-true, all_at, any_at}
use Rattle.diag.specs.declared.cause.Cause.{Cause}
use Rattle.diag.specs.declared.cause.Cause.TheVariants.{BadProofLine, UnknownClause, HintOutsideProfile}
use Rattle.lrat_text.specs.declared.judged.Judged.{Judged}
use Rattle.lrat_text.specs.declared.judged.Judged.TheVariants.{Conflict, Forces, Neither}
use Rattle.lrat_text.specs.ProofLine.{Line, skips, adds, deletes, bad, proof_lines}
use Rattle.lrat_text.specs.Hints.{Store, clause_in, open_of, judged_left, judged, after_judged, hints_fault, is_known, are_known}
use Rattle.lrat_text.specs.Checking.{State, negations, without_one, without_all, is_misplaced, step_fault, line_fault, after_line, numbered, no_clauses, start}
use Rattle.lrat_text.specs.Verified.{goes, lrat, have_empty, has_empty}

-- a value is not both of two opposite ones
opposite : (b p : Bool) → beq b p ≡ true → beq b (not p) ≡ true → ⊥
opposite true true h n = false≢true n
opposite true false h n = false≢true h
opposite false true h n = false≢true h
opposite false false h n = false≢true n

-- it is one of them
either_value : (b p : Bool) → beq b p ≡ false → beq b (not p) ≡ true
either_value true true h = absurd (false≢true (sym h))
either_value true false h = refl
either_value false true h = refl
either_value false false h = absurd (false≢true (sym h))

-- where one line of a definition by a test has a result that is none, the test and the rest are known
no_fault : (b : Bool) (cause : Cause) (rest : Option Cause) → cond b (Some cause) rest ≡ None → (b ≡ false) × (rest ≡ None)
no_fault true cause rest h = absurd (let w : ⊥ = cc in w)
no_fault false cause rest h = (refl, h)

no_fault_else : (b : Bool) (cause : Cause) (rest : Option Cause) → cond b rest (Some cause) ≡ None → (b ≡ true) × (rest ≡ None)
no_fault_else true cause rest h = (refl, h)
no_fault_else false cause rest h = absurd (let w : ⊥ = cc in w)

none_from : (o : Option Cause) → is_none o ≡ true → o ≡ None
none_from None h = refl
none_from (Some cause) h = absurd (false≢true h)

module _ (bits : List Bool) where
  -- each clause of the store is true
  abbrev IsStoreTrue : Store → Type 0
  IsStoreTrue store = (n : ℕ) (c : List Literal) → store n ≡ Some c → makes_true bits c ≡ true

  -- the clause has a true literal among those that are not false where true literals are
  open_true : (set c : List Literal) → list_all (is_true bits) set ≡ true → makes_true bits c ≡ true → makes_true bits (open_of set c) ≡ true
  open_true set [] all h = h
  open_true set (l ∷ ls) all h = step (open_true set ls all) (holds set (negation l)) refl
    where
      step : (makes_true bits ls ≡ true → makes_true bits (open_of set ls) ≡ true) → (t : Bool) → holds set (negation l) ≡ t
          → makes_true bits (cond (not t) (l ∷ open_of set ls) (open_of set ls)) ≡ true
      step more false e = elim (or_cases (is_true bits l) (makes_true bits ls) h) as (λ _. makes_true bits (l ∷ open_of set ls) ≡ true) [
        | inl here ↦ or_left (is_true bits l) (makes_true bits (open_of set ls)) here
        | inr there ↦ or_right (is_true bits l) (makes_true bits (open_of set ls)) (more there)
      ]
      step more true e = elim (or_cases (is_true bits l) (makes_true bits ls) h) as (λ _. makes_true bits (open_of set ls) ≡ true) [
        | inl here ↦ absurd (opposite _ _ here (all_at (is_true bits) set (negation l) all e))
        | inr there ↦ more there
      ]

  no_conflict : (set os : List Literal) → judged_left set os ≡ Conflict → makes_true bits os ≡ true → ⊥
  no_conflict set [] e h = false≢true h
  no_conflict set (o ∷ os) e h = step (not (holds set o) && list_all (same o) os) e
    where
      step : (t : Bool) → cond t (Forces o) Neither ≡ Conflict → ⊥
      step true f = cc
      step false f = cc

  forced_true : (set os : List Literal) (l : Literal) → judged_left set os ≡ Forces l → makes_true bits os ≡ true → is_true bits l ≡ true
  forced_true set [] l e h = absurd (false≢true h)
  forced_true set (o ∷ os) l e h = step (not (holds set o) && list_all (same o) os) refl e
    where
      first : list_all (same o) os ≡ true → is_true bits o ≡ true
      first s = elim (or_cases (is_true bits o) (makes_true bits os) h) as (λ _. is_true bits o ≡ true) [
        | inl here ↦ here
        | inr there ↦
            let m = any_at (is_true bits) os there in
            subst (λ (x : Literal). is_true bits x ≡ true) (sym (same-true o m.0 (all_at (same o) os m.0 s m.1))) m.2
      ]

      step : (t : Bool) → (not (holds set o) && list_all (same o) os) ≡ t → cond t (Forces o) Neither ≡ Forces l → is_true bits l ≡ true
      step true f g =
          let same_one : o ≡ l = cc in
          subst (λ (x : Literal). is_true bits x ≡ true) same_one (first ((and_parts (not (holds set o)) (list_all (same o) os) f).1))
      step false f g = absurd (let w : ⊥ = cc in w)

  known_true : (store : Store) (n : ℕ) → IsStoreTrue store → is_some (store n) ≡ true → makes_true bits (clause_in store n) ≡ true
  known_true store n all h = step (store n) refl h
    where
      step : (o : Option (List Literal)) → store n ≡ o → is_some o ≡ true → makes_true bits (unwrap_or o []) ≡ true
      step None e g = absurd (false≢true g)
      step (Some c) e g = all n c e

  -- hints that show a conflict need a literal that is false
  hints_conflict : (store : Store) (set hs : List Literal) → IsStoreTrue store → list_all (is_true bits) set ≡ true → are_known store hs ≡ true → hints_fault store set hs ≡ None → ⊥
  hints_conflict store set [] all truth known h = cc
  hints_conflict store set (g ∷ gs) all truth known h = by_sign (λ l. hints_conflict store (l ∷ set) gs all) g.positive refl
    where
      by_judged : ((l : Literal) → list_all (is_true bits) (l ∷ set) ≡ true → are_known store gs ≡ true → hints_fault store (l ∷ set) gs ≡ None → ⊥) → (j : Judged)
          → judged set (clause_in store g.variable) ≡ j → makes_true bits (clause_in store g.variable) ≡ true → are_known store gs ≡ true
          → after_judged j (λ l. hints_fault store (l ∷ set) gs) gs ≡ None → ⊥
      by_judged further Conflict e t k n = no_conflict set (open_of set (clause_in store g.variable)) e (open_true set (clause_in store g.variable) truth t)
      by_judged further (Forces l) e t k n =
          let is = forced_true set (open_of set (clause_in store g.variable)) l e (open_true set (clause_in store g.variable) truth t) in
          further l (and_from (is_true bits l) (list_all (is_true bits) set) is truth) k n
      by_judged further Neither e t k n = cc

      by_sign : ((l : Literal) → list_all (is_true bits) (l ∷ set) ≡ true → are_known store gs ≡ true → hints_fault store (l ∷ set) gs ≡ None → ⊥) → (p : Bool) → g.positive ≡ p → ⊥
      by_sign further true e =
          let parts = and_parts (is_known store g) (are_known store gs) known in
          let some : is_some (store g.variable) ≡ true = subst (λ (p : Bool). (not p || is_some (store g.variable)) ≡ true) e parts.0 in
          let n : after_judged (judged set (clause_in store g.variable)) (λ l. hints_fault store (l ∷ set) gs) gs ≡ None =
          subst (λ (p : Bool). cond p (after_judged (judged set (clause_in store g.variable)) (λ l. hints_fault store (l ∷ set) gs) gs) (Some HintOutsideProfile) ≡ None) e h in
          by_judged further (judged set (clause_in store g.variable)) refl (known_true store g.variable all some) parts.1 n
      by_sign further false e =
          let n : Some HintOutsideProfile ≡ None =
          subst (λ (p : Bool). cond p (after_judged (judged set (clause_in store g.variable)) (λ l. hints_fault store (l ∷ set) gs) gs) (Some HintOutsideProfile) ≡ None) e h in
          cc

  all_false : (set c : List Literal) → list_all (is_true bits) set ≡ true → makes_true bits c ≡ false → list_all (is_true bits) (negations set c) ≡ true
  all_false set [] all h = all
  all_false set (l ∷ ls) all h =
      let parts = or_parts (is_true bits l) (makes_true bits ls) h in
      all_false (negation l ∷ set) ls (and_from (is_true bits (negation l)) (list_all (is_true bits) set) (either_value _ _ parts.0) all) parts.1

  step_true : (store : Store) (c hs : List Literal) → IsStoreTrue store → are_known store hs ≡ true → hints_fault store (negations [] c) hs ≡ None → makes_true bits c ≡ true
  step_true store c hs all known h = by_truth (makes_true bits c) refl
    where
      by_truth : (t : Bool) → makes_true bits c ≡ t → t ≡ true
      by_truth true e = refl
      by_truth false e = absurd (hints_conflict store (negations [] c) hs all (all_false [] c refl e) known h)

  put_true : (store : Store) (n : ℕ) (c : List Literal) → IsStoreTrue store → makes_true bits c ≡ true → IsStoreTrue (update nat_eq store n (Some c))
  put_true store n c all t k d e = step (nat_eq n k) e
    where
      step : (b : Bool) → cond b (Some c) (store k) ≡ Some d → makes_true bits d ≡ true
      step true f = let one : c ≡ d = cc in subst (λ (x : List Literal). makes_true bits x ≡ true) one t
      step false f = all k d f

  removed_true : (store : Store) (n : ℕ) → IsStoreTrue store → IsStoreTrue (without_one store n)
  removed_true store n all k d e = step (nat_eq n k) e
    where
      step : (b : Bool) → cond b None (store k) ≡ Some d → makes_true bits d ≡ true
      step true f = absurd (let w : ⊥ = cc in w)
      step false f = all k d f

  deleted_true : (store : Store) (ns : List Literal) → IsStoreTrue store → IsStoreTrue (without_all store ns)
  deleted_true store [] all = all
  deleted_true store (n ∷ ns) all = deleted_true (without_one store n.variable) ns (removed_true store n.variable all)

  numbered_true : (n : ℕ) (store : Store) (cs : List (List Literal)) → IsStoreTrue store → list_all (makes_true bits) cs ≡ true → IsStoreTrue (numbered n store cs)
  numbered_true n store [] all h = all
  numbered_true n store (c ∷ cs) all h =
      let parts = and_parts (makes_true bits c) (list_all (makes_true bits) cs) h in
      numbered_true (n + 1) (update nat_eq store n (Some c)) cs (put_true store n c all parts.0) parts.1

  none_true : IsStoreTrue no_clauses
  none_true n c e = absurd (let w : ⊥ = cc in w)

  -- no step has the empty clause where the clauses before it are true
  not_empty : (c : List Literal) → is_empty c ≡ true → makes_true bits c ≡ true → ⊥
  not_empty [] e h = false≢true h
  not_empty (l ∷ ls) e h = false≢true e

  goes_on_true : (variables : ℕ) (s : State) (ls : List Line) → IsStoreTrue s.store → goes variables s ls ≡ true → have_empty ls ≡ true → ⊥
  goes_on_true variables s [] all g h = false≢true h
  goes_on_true variables s (skips ∷ ls) all g h = goes_on_true variables s ls all g h
  goes_on_true variables s (bad ∷ ls) all g h = false≢true g
  goes_on_true variables s (deletes ns ∷ ls) all g h =
      let parts = and_parts (is_none (line_fault variables s (deletes ns))) (goes variables (after_line s (deletes ns)) ls) g in
      goes_on_true variables (after_line s (deletes ns)) ls (deleted_true s.store ns all) parts.1 h
  goes_on_true variables s (adds id c hs ∷ ls) all g h =
      let parts = and_parts (is_none (step_fault variables s id c hs)) (goes variables (after_line s (adds id c hs)) ls) g in
      let placed = no_fault (is_misplaced variables s.last id c) BadProofLine (cond (are_known s.store hs) (hints_fault s.store (negations [] c) hs) (Some UnknownClause)) (none_from (step_fault variables s id c hs) parts.0) in
      let known = no_fault_else (are_known s.store hs) UnknownClause (hints_fault s.store (negations [] c) hs) placed.1 in
      let t = step_true s.store c hs all known.0 known.1 in
      elim (or_cases (is_empty c) (have_empty ls) h) as (λ _. ⊥) [
        | inl here ↦ not_empty c here t
        | inr there ↦ goes_on_true variables (after_line s (adds id c hs)) ls (put_true s.store id c all t) parts.1 there
      ]

-- a proof over the formula with the empty clause as a step: nothing satisfies the formula
pub unsatisfiable : (f : Formula) (bytes : List ℕ) → lrat f bytes ≡ true → has_empty bytes ≡ true → (bits : List Bool) → satisfies bits f ≡ true → ⊥
unfolding lrat has_empty
unsatisfiable f bytes g h bits s =
    let clauses = (and_parts (eqb (length bits) f.variables) (list_all (makes_true bits) f.clauses) s).1 in
    goes_on_true bits f.variables (start f) (proof_lines bytes) (numbered_true bits 1 no_clauses f.clauses (none_true bits) clauses) g h
