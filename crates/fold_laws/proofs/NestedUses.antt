-- How often the results of an operation are used, and what is found among operands.
use Rattle.std.proofs.Common.{◌≡◌, ℕ, zero, suc, ◌+◌, ◌≤◌, Bool, true, false, cond, not, ◌&&◌, ◌||◌, nat_eq, List, [], ◌∷◌, ◌++◌, set, Option, Some, None, slice_get, refl, sym, ap, subst, ◌∙◌, arith}
use Rattle.std.specs.List.{list_any}
use Rattle.wiring.proofs.Options.{and_then_some, option_map_some}
use Rattle.bits_core.specs.Word.{bit}
use Rattle.hw_model.specs.Equality.{both_of, number_self, number_from}
use Rattle.hw_model.specs.Kinds.{Kind}
use Rattle.hw_model.specs.Design.{Ref, Op}
use Rattle.hw_model.specs.Design.Ref.{port, result, undefined}
use Rattle.fold_laws.specs.Nested.{uses_among, use_count, has_one_use, Nested, nested_result, nested_at, one_later, first_or_later, first_nested, splice}
use Rattle.fold_laws.specs.Unused.{is_result_of, is_used}

-- ---- uses among operands

uses-append : (i : ℕ) (qs rs : List Ref) → uses_among i (qs ++ rs) ≡ uses_among i qs + uses_among i rs
uses-append i [] rs = omega arith
uses-append i (q ∷ qs) rs = let rest : uses_among i (qs ++ rs) ≡ uses_among i qs + uses_among i rs = uses-append i qs rs in omega arith

pub uses-splice : (i n : ℕ) (qs rs : List Ref) (r : Ref) → slice_get rs n ≡ Some r
    → uses_among i (splice n qs rs) + bit (is_result_of i r) ≡ uses_among i qs + uses_among i rs
uses-splice i n qs [] r is = cc
uses-splice i zero qs (q ∷ rs) r is =
    let same : bit (is_result_of i q) ≡ bit (is_result_of i r) = (let one : q ≡ r = cc in ap (λ z. bit (is_result_of i z)) one) in
    let sum : uses_among i (qs ++ rs) ≡ uses_among i qs + uses_among i rs = uses-append i qs rs in
    omega arith
uses-splice i (suc n) qs (q ∷ rs) r is =
    let rest : uses_among i (splice n qs rs) + bit (is_result_of i r) ≡ uses_among i qs + uses_among i rs = uses-splice i n qs rs r is in
    omega arith

uses_at : (i n : ℕ) (rs : List Ref) (r : Ref) → slice_get rs n ≡ Some r → bit (is_result_of i r) ≤ uses_among i rs
uses_at i n [] r is = cc
uses_at i zero (q ∷ rs) r is =
    let same : bit (is_result_of i q) ≡ bit (is_result_of i r) = (let one : q ≡ r = cc in ap (λ z. bit (is_result_of i z)) one) in
    omega arith
uses_at i (suc n) (q ∷ rs) r is = let rest : bit (is_result_of i r) ≤ uses_among i rs = uses_at i n rs r is in omega arith

-- a result of an operation is one of its results
pub own_result : (j k : ℕ) → bit (is_result_of j (result j k)) ≡ 1
own_result j k = ap bit (number_self j)

pub named_once : (j n : ℕ) (rs : List Ref) → slice_get rs n ≡ Some (result j 0) → 1 ≤ uses_among j rs
named_once j n rs is = subst (λ m. m ≤ uses_among j rs) (own_result j 0) (uses_at j n rs (result j 0) is)

-- ---- uses in a body

pub uses-set : (k : ℕ) (os : List Op) (i : ℕ) (o o' : Op) → slice_get os i ≡ Some o
    → uses_among k o.operands + use_count k (set os i o') ≡ uses_among k o'.operands + use_count k os
uses-set k [] i o o' is = cc
uses-set k (y ∷ ys) zero o o' is =
    let same : uses_among k o.operands ≡ uses_among k y.operands = (let one : o ≡ y = cc in ap (λ (z : Op). uses_among k z.operands) one) in
    omega arith
uses-set k (y ∷ ys) (suc i) o o' is =
    let rest : uses_among k o.operands + use_count k (set ys i o') ≡ uses_among k o'.operands + use_count k ys = uses-set k ys i o o' is in
    omega arith

uses_of_one : (k : ℕ) (os : List Op) (i : ℕ) (o : Op) → slice_get os i ≡ Some o → uses_among k o.operands ≤ use_count k os
uses_of_one k [] i o is = cc
uses_of_one k (y ∷ ys) zero o is =
    let same : uses_among k o.operands ≡ uses_among k y.operands = (let one : o ≡ y = cc in ap (λ (z : Op). uses_among k z.operands) one) in
    omega arith
uses_of_one k (y ∷ ys) (suc i) o is = let rest : uses_among k o.operands ≤ use_count k ys = uses_of_one k ys i o is in omega arith

pub uses_of_two : (k : ℕ) (os : List Op) (i j : ℕ) (o c : Op) → (j ≡ i → ⊥) → slice_get os i ≡ Some o → slice_get os j ≡ Some c
    → uses_among k o.operands + uses_among k c.operands ≤ use_count k os
uses_of_two k [] i j o c other there inside = cc
uses_of_two k (y ∷ ys) zero zero o c other there inside = absurd (other refl)
uses_of_two k (y ∷ ys) zero (suc j) o c other there inside =
    let same : uses_among k o.operands ≡ uses_among k y.operands = (let one : o ≡ y = cc in ap (λ (z : Op). uses_among k z.operands) one) in
    let rest : uses_among k c.operands ≤ use_count k ys = uses_of_one k ys j c inside in
    omega arith
uses_of_two k (y ∷ ys) (suc i) zero o c other there inside =
    let same : uses_among k c.operands ≡ uses_among k y.operands = (let one : c ≡ y = cc in ap (λ (z : Op). uses_among k z.operands) one) in
    let rest : uses_among k o.operands ≤ use_count k ys = uses_of_one k ys i o there in
    omega arith
uses_of_two k (y ∷ ys) (suc i) (suc j) o c other there inside =
    let rest : uses_among k o.operands + uses_among k c.operands ≤ use_count k ys = uses_of_two k ys i j o c (λ same. other (ap suc same)) there inside in
    omega arith

-- ---- without uses

none_among : (i : ℕ) (rs : List Ref) → uses_among i rs ≡ 0 → list_any (is_result_of i) rs ≡ false
none_among i [] none = refl
none_among i (r ∷ rs) none = go (is_result_of i r) none (none_among i rs)
  where
    go : (b : Bool) → bit b + uses_among i rs ≡ 0 → (uses_among i rs ≡ 0 → list_any (is_result_of i) rs ≡ false) → b || list_any (is_result_of i) rs ≡ false
    go true h rest = absurd (omega arith)
    go false h rest = rest (omega arith)

pub unused_then : (i : ℕ) (os : List Op) → use_count i os ≡ 0 → is_used i os ≡ false
unused_then i [] none = refl
unused_then i (o ∷ os) none =
    let first : list_any (is_result_of i) o.operands ≡ false = none_among i o.operands (omega arith) in
    let rest : is_used i os ≡ false = unused_then i os (omega arith) in
    rw (first, rest) refl

-- ---- what is found among operands

-- the operand of the number is the result of another operation with one use, whose kind meets the test
pub record IsNested (test : Kind → Bool) (os : List Op) (i : ℕ) (rs : List Ref) (n : Nested) : Type 0 where
  pub named : slice_get rs n.number ≡ Some (result n.position 0)
  pub there : slice_get os n.position ≡ Some n.inner
  pub kind : test n.inner.kind ≡ true
  pub other : n.position ≡ i → ⊥
  pub once : use_count n.position os ≡ 1

module _ (test : Kind → Bool) (os : List Op) (i : ℕ) where
  made_is : (j : ℕ) (c : Op) (n : Nested) (rs : List Ref) → slice_get os j ≡ Some c → nested_result test os i j c ≡ Some n → IsNested test os i (result j 0 ∷ rs) n
  made_is j c n rs there is = go (test c.kind && (not (nat_eq j i) && has_one_use os j)) refl is
    where
      go : (b : Bool) → test c.kind && (not (nat_eq j i) && has_one_use os j) ≡ b → cond b (Some (record { number = 0; position = j; inner = c })) None ≡ Some n
          → IsNested test os i (result j 0 ∷ rs) n
      go true met h =
          let first = both_of (test c.kind) (not (nat_eq j i) && has_one_use os j) met in
          let second = both_of (not (nat_eq j i)) (has_one_use os j) first.1 in
          let same : record { number = 0; position = j; inner = c } ≡ n = cc in
          subst (IsNested test os i (result j 0 ∷ rs)) same (record {
            named = refl;
            there = there;
            kind = first.0;
            other = λ one. let clash : not true ≡ true = sym (ap not (ap (λ m. nat_eq j m) (sym one) ∙ number_self j)) ∙ second.0 in cc;
            once = number_from (use_count j os) 1 second.1;
          })
      go false met h = cc

  nested_is : (r : Ref) (rs : List Ref) (n : Nested) → nested_at test os i r ≡ Some n → IsNested test os i (r ∷ rs) n
  nested_is (port j) rs n is = cc
  nested_is undefined rs n is = cc
  nested_is (result j (suc k)) rs n is = cc
  nested_is (result j zero) rs n is =
      let found = and_then_some (slice_get os j) (nested_result test os i j) is in
      made_is j found.0 n rs found.1 found.2

  later_is : (r : Ref) (rs : List Ref) (n : Nested) → IsNested test os i rs n → IsNested test os i (r ∷ rs) (one_later n)
  later_is r rs n is = record { named = is.named; there = is.there; kind = is.kind; other = is.other; once = is.once }

  pub first_nested_is : (rs : List Ref) (n : Nested) → first_nested test os i rs ≡ Some n → IsNested test os i rs n
  first_nested_is [] n is = cc
  first_nested_is (r ∷ rs) n is = go (nested_at test os i r) refl is (first_nested_is rs)
    where
      go : (x : Option Nested) → nested_at test os i r ≡ x → first_or_later x (first_nested test os i rs) ≡ Some n
          → ((m : Nested) → first_nested test os i rs ≡ Some m → IsNested test os i rs m) → IsNested test os i (r ∷ rs) n
      go (Some m) here h later = nested_is r rs n (here ∙ h)
      go None here h later =
          let rest = option_map_some one_later (first_nested test os i rs) h in
          subst (IsNested test os i (r ∷ rs)) rest.2 (later_is r rs rest.0 (later rest.0 rest.1))
