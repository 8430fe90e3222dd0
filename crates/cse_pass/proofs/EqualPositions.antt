-- Where equal operations stand.
use Rattle.std.proofs.Common.{◌≡◌, ◌<◌, ℕ, zero, suc, Bool, true, false, cond, List, [], ◌∷◌, take, Option, Some, None, slice_get, refl, sym, ap, ◌∙◌, arith, option_and_then, option_map}
use Rattle.wiring.proofs.Lists.{slice_get-take}
use Rattle.wiring.proofs.Options.{and_then_some, option_map_some, option_map_none}
use Rattle.hw_model.specs.Design.{Op}
use Rattle.fold_laws.specs.Unused.{is_pure}
use Rattle.cse_pass.specs.EqualOps.{are_equal, equal_position, equal_before, EqualFound}
use Rattle.cse_pass.specs.Merges.{HasNoEqual}

get_from_take : (n : ℕ) (os : List Op) (j : ℕ) (p : Op) → slice_get (take n os) j ≡ Some p → (slice_get os j ≡ Some p) × (j < n)
get_from_take zero os j p is = cc
get_from_take (suc n) [] j p is = cc
get_from_take (suc n) (o ∷ os) zero p is = (is, omega arith)
get_from_take (suc n) (o ∷ os) (suc j) p is = let rest = get_from_take n os j p is in (rest.0, omega (arith, rest.1))

-- ---- the first equal operation

position_found : (o : Op) (os : List Op) (j : ℕ) → equal_position o os ≡ Some j → (p : Op) × (slice_get os j ≡ Some p) × (are_equal p o ≡ true)
position_found o [] j is = cc
position_found o (p ∷ os) j is = go (are_equal p o) refl is (λ k. position_found o os k)
  where
    go : (b : Bool) → are_equal p o ≡ b → cond b (Some 0) (option_map suc (equal_position o os)) ≡ Some j
        → ((k : ℕ) → equal_position o os ≡ Some k → (q : Op) × (slice_get os k ≡ Some q) × (are_equal q o ≡ true))
        → (q : Op) × (slice_get (p ∷ os) j ≡ Some q) × (are_equal q o ≡ true)
    go true same here later = let first : 0 ≡ j = cc in (p, ap (slice_get (p ∷ os)) (sym first), same)
    go false same here later =
        let from = option_map_some suc (equal_position o os) here in
        let rest = later from.0 from.1 in
        (rest.0, ap (slice_get (p ∷ os)) (sym from.2) ∙ rest.1, rest.2)

none_equal : (o : Op) (os : List Op) → equal_position o os ≡ None → (j : ℕ) (p : Op) → slice_get os j ≡ Some p → are_equal p o ≡ true → ⊥
none_equal o [] is j p at same = cc
none_equal o (q ∷ os) is j p at same = go (are_equal q o) refl is j at (λ none k there. none_equal o os none k p there same)
  where
    go : (b : Bool) → are_equal q o ≡ b → cond b (Some 0) (option_map suc (equal_position o os)) ≡ None → (k : ℕ) → slice_get (q ∷ os) k ≡ Some p
        → (equal_position o os ≡ None → (k : ℕ) → slice_get os k ≡ Some p → ⊥) → ⊥
    go true here never k there later = cc
    go false here none zero there later =
        let one : q ≡ p = cc in
        let clash : true ≡ false = sym same ∙ sym (ap (λ z. are_equal z o) one) ∙ here in cc
    go false here none (suc k) there later = later (option_map_none suc (equal_position o os) none) k there

-- ---- in a body

pub equal_found : (os : List Op) (i j : ℕ) → equal_before os i ≡ Some j → EqualFound os i j
equal_found os i j is =
    let found = and_then_some (slice_get os i) (λ (o : Op). cond (is_pure o.kind) (equal_position o (take i os)) None) is in
    go found.0 found.1 (is_pure found.0.kind) refl found.2
  where
    go : (o : Op) → slice_get os i ≡ Some o → (b : Bool) → is_pure o.kind ≡ b → cond b (equal_position o (take i os)) None ≡ Some j → EqualFound os i j
    go o there true pure made =
        let first = position_found o (take i os) j made in
        let stands = get_from_take i os j first.0 first.1 in
        record { op = o; there = there; pure = pure; first = first.0; first_there = stands.0; before = stands.1; equal = first.2 }
    go o there false pure made = cc

-- where no pure operation is equal to an earlier one none is
pub none_before : (os : List Op) → HasNoEqual os → (i j : ℕ) (o p : Op) → slice_get os i ≡ Some o → is_pure o.kind ≡ true → slice_get os j ≡ Some p → j < i
    → are_equal p o ≡ true → ⊥
none_before os none i j o p there pure first before same =
    none_equal o (take i os)
    (sym (ap (λ x. option_and_then (λ (z : Op). cond (is_pure z.kind) (equal_position z (take i os)) None) x) there ∙ ap (λ b. cond b (equal_position o (take i os)) None) pure) ∙ none i)
    j p (slice_get-take i os j before ∙ first) same

-- where none is found so, no pure operation is equal to an earlier one
pub has_no_equal : (os : List Op)
    → ((i j : ℕ) (o p : Op) → slice_get os i ≡ Some o → is_pure o.kind ≡ true → slice_get os j ≡ Some p → j < i → are_equal p o ≡ true → ⊥) → HasNoEqual os
has_no_equal os apart i = go (equal_before os i) refl
  where
    go : (x : Option ℕ) → equal_before os i ≡ x → x ≡ None
    go None is = refl
    go (Some j) is =
        let found = equal_found os i j is in
        absurd (apart i j found.op found.first found.there found.pure found.first_there found.before found.equal)
