-- How a sound trail and a pass over the clauses go on.
use Rattle.std.proofs.Common.{◌≡◌, ℕ, zero, suc, ◌+◌, ◌-◌, ◌<◌, ◌≤◌, Bool, true, List, [], ◌∷◌, ◌++◌, length, get_or, take, leb, refl, sym, ap, inl, inr, arith}
use Rattle.std.specs.List.{list_all}
use Rattle.std.proofs.lemmas.List.{take-append-le, take_at, take-take, get_or-take, length-take-le}
use Rattle.std.proofs.lemmas.Bool.{and_parts, and_from, le-leb}
use Rattle.resolution_proof.specs.declared.literal.Literal.{Literal}
use Rattle.clause_learning.specs.declared.trail.Entry.{Entry}
use Rattle.resolution_proof.specs.Literal.{is_once}
use Rattle.resolution_proof.specs.Clause.{is_within, is_clause}
use Rattle.resolution_proof.specs.Formula.{are_clauses}
use Rattle.resolution_proof.specs.Replay.{is_number, clause_at}
use Rattle.clause_learning.specs.Trail.{IsSound, Stands, entry_at, no_entry}
use Rattle.clause_learning.proofs.Entries.{cases_push, entry_at-push_old, entry_at-push_new}

-- a fact of each clause holds at each number, if it holds of the empty clause
pub all_clauses : (p : List Literal → Bool) → p [] ≡ true → (known : List (List Literal)) (i : ℕ) → list_all p known ≡ true → p (get_or known i []) ≡ true
all_clauses p e [] i h = e
all_clauses p e (c ∷ cs) zero h = (and_parts (p c) (list_all p cs) h).0
all_clauses p e (c ∷ cs) (suc i) h = all_clauses p e cs i ((and_parts (p c) (list_all p cs) h).1)

pub clause_within : (variables : ℕ) (known : List (List Literal)) (n : ℕ) → are_clauses variables known ≡ true → is_within variables (clause_at known n) ≡ true
clause_within variables known n h =
    let c = clause_at known n in
    (and_parts (is_once c) (is_within variables c) (all_clauses (is_clause variables) refl known (n - 1) h)).1

pub clause_once : (variables : ℕ) (known : List (List Literal)) (n : ℕ) → are_clauses variables known ≡ true → is_once (clause_at known n) ≡ true
clause_once variables known n h =
    let c = clause_at known n in
    (and_parts (is_once c) (is_within variables c) (all_clauses (is_clause variables) refl known (n - 1) h)).0

pub sound_push : (variables : ℕ) (known : List (List Literal)) (es : List Entry) (e : Entry) → IsSound variables known es → Stands variables known es e → IsSound variables known (es ++ e ∷ [])
sound_push variables known es e sound stands k l =
    elim (cases_push es e k l) as (λ _. Stands variables known (take k (es ++ e ∷ [])) (entry_at (es ++ e ∷ []) k)) [
      | inl old ↦
          let short : k ≤ length es = omega (arith, old) in
          rw (take-append-le k es (e ∷ []) short, entry_at-push_old es e k old) (sound k old)
      | inr new ↦ rw (take_at es (e ∷ []) k (sym new), entry_at-push_new es e k new) stands
    ]

pub sound_take : (variables : ℕ) (known : List (List Literal)) (es : List Entry) (n : ℕ) → n ≤ length es → IsSound variables known es → IsSound variables known (take n es)
sound_take variables known es n short sound k l =
    let len = length-take-le n es short in
    let below : k < n = omega (arith, len, l) in
    let long : k < length es = omega (arith, below, short) in
    let low : k ≤ n = omega (arith, below) in
    rw (take-take k n es low, get_or-take n es k no_entry below) (sound k long)

pub is_number_at : (known : List (List Literal)) (i : ℕ) → i < length known → is_number known (i + 1) ≡ true
is_number_at known i h = and_from (leb 1 (i + 1)) (leb (i + 1) (length known)) (le-leb 1 (i + 1) (omega arith)) (le-leb (i + 1) (length known) (omega (arith, h)))

pub clause_at-next : (known : List (List Literal)) (i : ℕ) → clause_at known (i + 1) ≡ get_or known i []
clause_at-next known i = let back : i + 1 - 1 ≡ i = omega arith in ap (λ (k : ℕ). get_or known k []) back
