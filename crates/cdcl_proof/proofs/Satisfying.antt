-- A closed set with a literal of each variable satisfies the formula.
use Rattle.std.proofs.Common.{◌≡◌, ℕ, ◌+◌, Bool, true, false, List, [], ◌∷◌, ◌++◌, length, leb, refl, sym, ◌∙◌, ap, inl, inr, arith}
use Rattle.std.specs.List.{list_all, list_any}
use Rattle.std.proofs.lemmas.List.Folds.{list_all-append}
use Rattle.std.proofs.lemmas.Bool.{eq-eqb, and_parts, and_from, or_cases, leb-true, not_from_true}
use Rattle.resolution_proof.specs.declared.literal.Literal.{Literal}
use Rattle.resolution_proof.specs.Literal.{holds, mentions, is_once}
use Rattle.resolution_proof.specs.Clause.{is_among, is_within, is_clause}
use Rattle.resolution_proof.specs.Fresh.{is_free, count_free, is_closed, is_closed_at}
use Rattle.resolution_proof.specs.Formula.{Formula, are_clauses, is_true, makes_true, satisfies}
use Rattle.clause_learning.specs.Trail.{IsTotal}
use Rattle.resolution_proof.proofs.Sets.{any_at, any_from, among_low, among_high}

-- no literal of a clause is free under a total set
count_free-total : (variables : ℕ) (s c : List Literal) → IsTotal variables s → is_within variables c ≡ true → count_free s c ≡ 0
count_free-total variables s [] total w = refl
count_free-total variables s (l ∷ ls) total w =
    let parts = and_parts (is_among variables l) (is_within variables ls) w in
    let mentioned = total l.variable (among_low variables l parts.0) (among_high variables l parts.0) in
    let not_free : is_free s l ≡ false = not_from_true (mentions s l.variable) mentioned in
    rw not_free (ap (λ (n : ℕ). 0 + n) (count_free-total variables s ls total parts.1))

module _ (variables : ℕ) (s : List Literal) (bits : List Bool) (total : IsTotal variables s) (agree : (l : Literal) → holds s l ≡ true → is_true bits l ≡ true) where
  made_true : (c : List Literal) → is_clause variables c ≡ true → is_closed_at s c ≡ true → makes_true bits c ≡ true
  made_true c clause closed =
      elim (or_cases (list_any (holds s) c) (leb 2 (count_free s c)) closed) as (λ _. makes_true bits c ≡ true) [
        | inl true_one ↦ let r = any_at (holds s) c true_one in any_from (is_true bits) c r.0 r.1 (agree r.0 r.2)
        | inr two_open ↦
            let within = (and_parts (is_once c) (is_within variables c) clause).1 in
            let none = count_free-total variables s c total within in
            let two = leb-true 2 (count_free s c) two_open in
            absurd (omega (arith, none, two))
      ]

  all_true : (clauses : List (List Literal)) → are_clauses variables clauses ≡ true → is_closed s clauses ≡ true → list_all (makes_true bits) clauses ≡ true
  all_true [] clauses closed = refl
  all_true (c ∷ cs) clauses closed =
      let a = and_parts (is_clause variables c) (are_clauses variables cs) clauses in
      let b = and_parts (is_closed_at s c) (is_closed s cs) closed in
      and_from (makes_true bits c) (list_all (makes_true bits) cs) (made_true c a.0 b.0) (all_true cs a.1 b.1)

pub closed_satisfies : (f : Formula) (more : List (List Literal)) (s : List Literal) (bits : List Bool) → are_clauses f.variables (f.clauses ++ more) ≡ true → is_closed s (f.clauses ++ more)
    ≡ true → IsTotal f.variables s → length bits ≡ f.variables → ((l : Literal) → holds s l ≡ true → is_true bits l ≡ true) → satisfies bits f ≡ true
closed_satisfies f more s bits clauses closed total len agree =
    let a = and_parts (are_clauses f.variables f.clauses) (are_clauses f.variables more) (sym (list_all-append (is_clause f.variables) f.clauses more) ∙ clauses) in
    let b = and_parts (is_closed s f.clauses) (is_closed s more) (sym (list_all-append (is_closed_at s) f.clauses more) ∙ closed) in
    and_from _ _ (eq-eqb (length bits) f.variables len) (all_true f.variables s bits total agree f.clauses a.0 b.0)
