-- Stored clauses: the literals of a clause in another order.
use Rattle.std.proofs.Common.{◌≡◌, ◌≢◌, ℕ, zero, suc, ◌<◌, Bool, true, false, not, List, [], ◌∷◌, length, get_or, set, swap, refl, sym, ◌∙◌, ap, subst, inl, inr, ◌⊎◌, arith}
use Rattle.std.proofs.lemmas.List.{get_or-set_same, get_or-set_other, length-set}
use Rattle.std.proofs.lemmas.List.Edits.{length-swap, swap_is}
use Rattle.std.proofs.lemmas.Bool.{and_parts, or_cases, or_left, or_right, false≢true, cases_eq, both_ways, not-true}
use Rattle.resolution_proof.specs.declared.literal.Literal.{Literal}
use Rattle.resolution_proof.specs.Literal.{same, holds, mentions, is_once}
use Rattle.clause_learning.specs.Watching.{IsStored, literal_at, no_literal}
use Rattle.resolution_proof.proofs.Sets.{same-true, same-refl, mentions_from}

pub holds_at : (stored_clause : List Literal) (k : ℕ) → k < length stored_clause → holds stored_clause (literal_at stored_clause k) ≡ true
holds_at [] k l = absurd (omega (arith, l))
holds_at (x ∷ xs) zero l = or_left (same x x) (holds xs x) (same-refl x)
holds_at (x ∷ xs) (suc k) l = or_right (same x (literal_at xs k)) (holds xs (literal_at xs k)) (holds_at xs k (omega (arith, l)))

pub position_of : (stored_clause : List Literal) (l : Literal) → holds stored_clause l ≡ true → (k : ℕ) × (k < length stored_clause) × (literal_at stored_clause k ≡ l)
position_of [] l h = absurd (false≢true h)
position_of (x ∷ xs) l h =
    elim (or_cases (same x l) (holds xs l) h) as (λ _. (k : ℕ) × (k < length (x ∷ xs)) × (literal_at (x ∷ xs) k ≡ l)) [
      | inl here ↦ (zero, omega arith, same-true x l here)
      | inr there ↦ let r = position_of xs l there in (suc r.0, omega (arith, r.1), r.2)
    ]

-- the position from which a literal comes
swap_source : ℕ → ℕ → ℕ → ℕ
swap_source i j m = elim (cases_eq m j) [ inl here ↦ i | inr other ↦ elim (cases_eq m i) [ inl there ↦ j | inr apart ↦ m ] ]

source_second : (i j m : ℕ) → m ≡ j → swap_source i j m ≡ i
unfolding swap_source
source_second i j m e = go (cases_eq m j)
  where
    go : (c : (m ≡ j) ⊎ (m ≡ j → ⊥)) → elim c as (λ _. ℕ) [ inl here ↦ i | inr other ↦ elim (cases_eq m i) as (λ _. ℕ) [ inl there ↦ j | inr apart ↦ m ] ] ≡ i
    go (inl h) = refl
    go (inr h) = absurd (h e)

source_first : (i j m : ℕ) → m ≡ i → swap_source i j m ≡ j
unfolding swap_source
source_first i j m e = go (cases_eq m j) (cases_eq m i)
  where
    go : (c : (m ≡ j) ⊎ (m ≡ j → ⊥)) (d : (m ≡ i) ⊎ (m ≡ i → ⊥)) → elim c as (λ _. ℕ) [ inl here ↦ i | inr other ↦ elim d as (λ _. ℕ) [ inl there ↦ j | inr apart ↦ m ] ] ≡ j
    go (inl h) d = sym e ∙ h
    go (inr h) (inl g) = refl
    go (inr h) (inr g) = absurd (g e)

source_other : (i j m : ℕ) → m ≢ i → m ≢ j → swap_source i j m ≡ m
unfolding swap_source
source_other i j m ni nj = go (cases_eq m j) (cases_eq m i)
  where
    go : (c : (m ≡ j) ⊎ (m ≡ j → ⊥)) (d : (m ≡ i) ⊎ (m ≡ i → ⊥)) → elim c as (λ _. ℕ) [ inl here ↦ i | inr other ↦ elim d as (λ _. ℕ) [ inl there ↦ j | inr apart ↦ m ] ] ≡ m
    go (inl h) d = absurd (nj h)
    go (inr h) (inl g) = absurd (ni g)
    go (inr h) (inr g) = refl

-- what became of a position
record SourceCases (i j m : ℕ) : Type 0 where
  back : swap_source i j (swap_source i j m) ≡ m
  inside : (n : ℕ) → i < n → j < n → m < n → swap_source i j m < n

source_cases : (i j m : ℕ) → SourceCases i j m
source_cases i j m =
    elim (cases_eq m j) as (λ _. SourceCases i j m) [
      | inl second ↦
          let one = source_second i j m second in
          record { back = ap (swap_source i j) one ∙ source_first i j i refl ∙ sym second; inside = λ n li lj lm. omega (arith, one, li) }
      | inr not_second ↦ elim (cases_eq m i) as (λ _. SourceCases i j m) [
        | inl first ↦
            let one = source_first i j m first in
            record { back = ap (swap_source i j) one ∙ source_second i j j refl ∙ sym first; inside = λ n li lj lm. omega (arith, one, lj) }
        | inr not_first ↦
            let one = source_other i j m not_first not_second in
            record { back = ap (swap_source i j) one ∙ one; inside = λ n li lj lm. omega (arith, one, lm) }
      ]
    ]

at_swap : (stored_clause : List Literal) (i j m : ℕ) → i < length stored_clause → j < length stored_clause → literal_at (swap stored_clause i j) m ≡ literal_at stored_clause (swap_source i j m)
at_swap stored_clause i j m li lj =
    let is = swap_is stored_clause i j no_literal li lj in
    let xs = set stored_clause i (get_or stored_clause j no_literal) in
    let long : j < length xs = let n = length-set stored_clause i (get_or stored_clause j no_literal) in omega (arith, n, lj) in
    ap (λ (r : List Literal). literal_at r m) (sym is)
    ∙ (elim (cases_eq m j) as (λ _. literal_at (set xs j (get_or stored_clause i no_literal)) m ≡ literal_at stored_clause (swap_source i j m)) [
      | inl second ↦
          ap (λ (p : ℕ). get_or (set xs j (get_or stored_clause i no_literal)) p no_literal) second ∙ get_or-set_same xs j (get_or stored_clause i no_literal) no_literal long
          ∙ sym (ap (λ (p : ℕ). literal_at stored_clause p) (source_second i j m second))
      | inr not_second ↦ get_or-set_other xs j m (get_or stored_clause i no_literal) no_literal not_second ∙ elim (cases_eq m i) as (λ _. literal_at xs m ≡ literal_at stored_clause (swap_source i j m)) [
        | inl first ↦
            ap (λ (p : ℕ). get_or (set stored_clause i (get_or stored_clause j no_literal)) p no_literal) first ∙ get_or-set_same stored_clause i (get_or stored_clause j no_literal) no_literal li
            ∙ sym (ap (λ (p : ℕ). literal_at stored_clause p) (source_first i j m first))
        | inr not_first ↦
            get_or-set_other stored_clause i m (get_or stored_clause j no_literal) no_literal not_first
            ∙ sym (ap (λ (p : ℕ). literal_at stored_clause p) (source_other i j m not_first not_second))
      ]
    ])

pub swap_first : (stored_clause : List Literal) (i j m : ℕ) → i < length stored_clause → j < length stored_clause → m ≡ i → literal_at (swap stored_clause i j) m ≡ literal_at stored_clause j
swap_first stored_clause i j m li lj e = at_swap stored_clause i j m li lj ∙ ap (λ (p : ℕ). literal_at stored_clause p) (source_first i j m e)

pub swap_other : (stored_clause : List Literal) (i j m : ℕ) → i < length stored_clause → j < length stored_clause → m ≢ i → m ≢ j → literal_at (swap stored_clause i j) m ≡ literal_at stored_clause m
swap_other stored_clause i j m li lj ni nj = at_swap stored_clause i j m li lj ∙ ap (λ (p : ℕ). literal_at stored_clause p) (source_other i j m ni nj)

pub bool_same : (a b : Bool) → (a ≡ true → b ≡ true) → (b ≡ true → a ≡ true) → a ≡ b
bool_same true true f g = refl
bool_same false false f g = refl
bool_same true false f g = sym (f refl)
bool_same false true f g = g refl

pub holds-swap : (stored_clause : List Literal) (i j : ℕ) → i < length stored_clause → j < length stored_clause → (l : Literal) → holds (swap stored_clause i j) l ≡ holds stored_clause l
holds-swap stored_clause i j li lj l = bool_same (holds (swap stored_clause i j) l) (holds stored_clause l) there back
  where
    len : length (swap stored_clause i j) ≡ length stored_clause
    len = length-swap stored_clause i j

    there : holds (swap stored_clause i j) l ≡ true → holds stored_clause l ≡ true
    there h =
        let p = position_of (swap stored_clause i j) l h in
        let low : p.0 < length stored_clause = omega (arith, len, p.1) in
        let m = (source_cases i j p.0).inside (length stored_clause) li lj low in
        subst (λ (x : Literal). holds stored_clause x ≡ true) (sym (at_swap stored_clause i j p.0 li lj) ∙ p.2) (holds_at stored_clause (swap_source i j p.0) m)

    back : holds stored_clause l ≡ true → holds (swap stored_clause i j) l ≡ true
    back h =
        let p = position_of stored_clause l h in
        let m : swap_source i j p.0 < length (swap stored_clause i j) = let q = (source_cases i j p.0).inside (length stored_clause) li lj p.1 in omega (arith, len, q) in
        subst (λ (x : Literal). holds (swap stored_clause i j) x ≡ true) (at_swap stored_clause i j (swap_source i j p.0) li lj
        ∙ ap (λ (k : ℕ). literal_at stored_clause k) (source_cases i j p.0).back ∙ p.2) (holds_at (swap stored_clause i j) (swap_source i j p.0) m)

pub stored_clause_swap : (clause stored_clause : List Literal) (i j : ℕ) → i < length stored_clause → j < length stored_clause → IsStored clause stored_clause → IsStored clause (swap stored_clause i j)
stored_clause_swap clause stored_clause i j li lj r = record {
  len = len ∙ r.len;
  same = λ l. holds-swap stored_clause i j li lj l ∙ r.same l;
  apart = λ a b la lb e.
      let low_a : a < length stored_clause = omega (arith, len, la) in
      let low_b : b < length stored_clause = omega (arith, len, lb) in
      let one = r.apart (swap_source i j a) (swap_source i j b) ((source_cases i j a).inside (length stored_clause) li lj low_a) ((source_cases i j b).inside (length stored_clause) li lj low_b)
      (ap (λ (l : Literal). l.variable) (sym (at_swap stored_clause i j a li lj)) ∙ e ∙ ap (λ (l : Literal). l.variable) (at_swap stored_clause i j b li lj)) in
      sym (source_cases i j a).back ∙ ap (swap_source i j) one ∙ (source_cases i j b).back;
}
  where
    len : length (swap stored_clause i j) ≡ length stored_clause
    len = length-swap stored_clause i j

-- a clause is a stored clause of its own
apart_of : (c : List Literal) → is_once c ≡ true → (j k : ℕ) → j < length c → k < length c → (literal_at c j).variable ≡ (literal_at c k).variable → j ≡ k
apart_of [] once j k lj lk e = absurd (omega (arith, lj))
apart_of (x ∷ xs) once j k lj lk e =
    let parts = and_parts (not (mentions xs x.variable)) (is_once xs) once in
    go j k lj lk e (not-true (mentions xs x.variable) parts.0) (λ a b la lb f. apart_of xs parts.1 a b la lb f)
  where
    found : (k : ℕ) → k < length xs → mentions xs x.variable ≡ false → x.variable ≡ (literal_at xs k).variable → ⊥
    found k l none e = both_ways (mentions xs x.variable) none (subst (λ (v : ℕ). mentions xs v ≡ true) (sym e) (mentions_from xs (literal_at xs k) (holds_at xs k l)))

    go : (j k : ℕ) → j < length (x ∷ xs) → k < length (x ∷ xs) → (literal_at (x ∷ xs) j).variable ≡ (literal_at (x ∷ xs) k).variable → mentions xs x.variable ≡ false
        → ((a b : ℕ) → a < length xs → b < length xs → (literal_at xs a).variable ≡ (literal_at xs b).variable → a ≡ b) → j ≡ k
    go zero zero lj lk e none ih = refl
    go zero (suc k) lj lk e none ih = absurd (found k (omega (arith, lk)) none e)
    go (suc j) zero lj lk e none ih = absurd (found j (omega (arith, lj)) none (sym e))
    go (suc j) (suc k) lj lk e none ih = ap suc (ih j k (omega (arith, lj)) (omega (arith, lk)) e)

pub stored_clause_of : (clause : List Literal) → is_once clause ≡ true → IsStored clause clause
stored_clause_of clause once = record { len = refl; same = λ l. refl; apart = apart_of clause once }
