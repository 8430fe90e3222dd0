-- How often results are used in a body with other names, with one operation more or with one less.
use Rattle.std.proofs.Common.{◌≡◌, ℕ, zero, suc, ◌+◌, ◌≤◌, Bool, true, false, nat_eq, List, [], ◌∷◌, length, map, Some, slice_get, refl, sym, ap, ◌∙◌, inl, inr, arith}
use Rattle.std.specs.List.{insert, remove, list_any}
use Rattle.std.proofs.lemmas.Bool.{eqb-true}
use Rattle.wiring.specs.Wiring.{In}
use Rattle.bits_core.specs.Word.{bit}
use Rattle.hw_model.specs.Equality.{number_self}
use Rattle.hw_model.specs.Design.{Ref, Op}
use Rattle.hw_model.specs.Design.Ref.{port, result, undefined}
use Rattle.edit_laws.specs.Edit.{retarget}
use Rattle.fold_laws.specs.Nested.{uses_among, use_count}
use Rattle.fold_laws.specs.Unused.{is_result_of, is_used}
use Rattle.op_checks.proofs.Widths.{neither}

-- a result among operands is used there
pub used_among : (j k : ℕ) (rs : List Ref) → In (result j k) rs → 1 ≤ uses_among j rs
used_among j k [] here = absurd here
used_among j k (r ∷ rs) (inl same) =
    let one : bit (is_result_of j r) ≡ 1 = ap (λ z. bit (is_result_of j z)) (sym same) ∙ ap bit (number_self j) in
    omega (arith, one)
used_among j k (r ∷ rs) (inr here) = omega (arith, used_among j k rs here)

-- and what is used among operands is a result there
pub among_used : (j : ℕ) (rs : List Ref) → 1 ≤ uses_among j rs → (k : ℕ) × In (result j k) rs
among_used j [] some = absurd (omega (arith, some))
among_used j (r ∷ rs) some = go r (is_result_of j r) refl some (among_used j rs)
  where
    at : (r : Ref) → is_result_of j r ≡ true → (k : ℕ) × (result j k ≡ r)
    at (port n) is = cc
    at undefined is = cc
    at (result l k) is = (k, ap (λ n. result n k) (sym (eqb-true l j is)))

    go : (r : Ref) (b : Bool) → is_result_of j r ≡ b → 1 ≤ bit b + uses_among j rs → (1 ≤ uses_among j rs → (k : ℕ) × In (result j k) rs) → (k : ℕ) × In (result j k) (r ∷ rs)
    go r true is h rest = let q = at r is in (q.0, inl q.1)
    go r false is h rest = let q = rest (omega (arith, h)) in (q.0, inr q.1)

-- the uses of an operation are among those of its body
pub used_by_one : (j : ℕ) (os : List Op) (i : ℕ) (o : Op) → slice_get os i ≡ Some o → uses_among j o.operands ≤ use_count j os
used_by_one j [] i o is = cc
used_by_one j (y ∷ ys) zero o is =
    let same : uses_among j o.operands ≡ uses_among j y.operands = (let one : o ≡ y = cc in ap (λ (z : Op). uses_among j z.operands) one) in
    omega (arith, same)
used_by_one j (y ∷ ys) (suc i) o is = omega (arith, used_by_one j ys i o is)

-- ---- other names

module _ (name : Ref → Ref) (j j' : ℕ) (named : (k : ℕ) → name (result j k) ≡ result j' k) where
  named_one : (r : Ref) → bit (is_result_of j r) ≤ bit (is_result_of j' (name r))
  named_one (port n) = omega arith
  named_one undefined = omega arith
  named_one (result l k) = go (nat_eq l j) refl
    where
      go : (b : Bool) → nat_eq l j ≡ b → bit b ≤ bit (is_result_of j' (name (result l k)))
      go false is = omega arith
      go true is =
          let one : bit (is_result_of j' (name (result l k))) ≡ 1 =
          ap (λ n. bit (is_result_of j' (name (result n k)))) (eqb-true l j is) ∙ ap (λ r. bit (is_result_of j' r)) (named k) ∙ ap bit (number_self j') in
          omega (arith, one)

  pub named_among : (rs : List Ref) → uses_among j rs ≤ uses_among j' (map name rs)
  named_among [] = omega arith
  named_among (r ∷ rs) = omega (arith, named_one r, named_among rs)

  pub named_count : (os : List Op) → use_count j os ≤ use_count j' (map (retarget name) os)
  named_count [] = omega arith
  named_count (o ∷ os) = omega (arith, named_among o.operands, named_count os)

-- ---- one operation more, one less

pub count_put : (j : ℕ) (os : List Op) (i : ℕ) (o : Op) → i ≤ length os → use_count j (insert os i o) ≡ uses_among j o.operands + use_count j os
count_put j [] zero o within = refl
count_put j (y ∷ ys) zero o within = refl
count_put j [] (suc i) o within = absurd (omega (arith, within))
count_put j (y ∷ ys) (suc i) o within = omega (arith, count_put j ys i o (omega (arith, within)))

pub count_taken : (j : ℕ) (os : List Op) (i : ℕ) (o : Op) → slice_get os i ≡ Some o → use_count j os ≡ uses_among j o.operands + use_count j (remove os i)
count_taken j [] i o is = cc
count_taken j (y ∷ ys) zero o is = (let one : y ≡ o = cc in ap (λ (z : Op). uses_among j z.operands + use_count j ys) one)
count_taken j (y ∷ ys) (suc i) o is = omega (arith, count_taken j ys i o is)

-- ---- without uses

none_any : (j : ℕ) (rs : List Ref) → list_any (is_result_of j) rs ≡ false → uses_among j rs ≡ 0
none_any j [] none = refl
none_any j (r ∷ rs) none =
    let parts = neither (is_result_of j r) (list_any (is_result_of j) rs) none in
    let first : bit (is_result_of j r) ≡ 0 = ap bit parts.0 in
    omega (arith, first, none_any j rs parts.1)

pub unused_count : (j : ℕ) (os : List Op) → is_used j os ≡ false → use_count j os ≡ 0
unused_count j [] none = refl
unused_count j (o ∷ os) none =
    let parts = neither (list_any (is_result_of j) o.operands) (is_used j os) none in
    omega (arith, none_any j o.operands parts.0, unused_count j os parts.1)
