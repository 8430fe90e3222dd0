-- Operations of a body, one after another: the ports that clock them, and whether one is of a sort.
use Rattle.std.proofs.Common.{◌≡◌, refl, sym, ap, ◌∙◌, ℕ, zero, suc, ◌+◌, ◌≤◌, Bool, true, false, ◌||◌, List, [], ◌∷◌, ◌++◌, length, take, drop, slice_get, Some, arith, append-nil}
use Rattle.std.proofs.lemmas.Grind.{flat_map-append}
use Rattle.std.specs.List.{list_any}
use Rattle.wiring.proofs.Lists.{take-suc_some, drop_some}
use Rattle.hw_model.specs.Design.{Op}
use Rattle.and_gates.specs.Clocks.{clock_of, clock_ports, are_several}

-- none are not several
pub several_none : (xs : List ℕ) → length xs ≡ 0 → false ≡ are_several xs
several_none [] none = refl
several_none (x ∷ xs) none = absurd (omega arith)

-- one more operation
pub clocks_more : (os : List Op) (i : ℕ) (o : Op) (xs : List ℕ) → slice_get os i ≡ Some o → xs ≡ clock_ports (take i os) → xs ++ clock_of o ≡ clock_ports (take (i + 1) os)
clocks_more os i o xs at have =
    let next : suc i ≡ i + 1 = omega arith in
    ap (λ ys. ys ++ clock_of o) have
    ∙ sym (ap clock_ports (take-suc_some os i o at) ∙ flat_map-append clock_of (take i os) (o ∷ []) ∙ ap (λ ys. clock_ports (take i os) ++ ys) (append-nil (clock_of o)))
    ∙ ap (λ k. clock_ports (take k os)) next

module _ (f : Op → Bool) where
  pub any_later : (os : List Op) (i : ℕ) (o : Op) → slice_get os i ≡ Some o → f o ≡ false → list_any f os ≡ list_any f (drop i os)
      → list_any f os ≡ list_any f (drop (i + 1) os)
  any_later os i o at other have =
      let next : suc i ≡ i + 1 = omega arith in
      have ∙ ap (list_any f) (drop_some os i o at) ∙ ap (λ b. b || list_any f (drop (suc i) os)) other ∙ ap (λ k. list_any f (drop k os)) next

  pub any_here : (os : List Op) (i : ℕ) (o : Op) → slice_get os i ≡ Some o → f o ≡ true → list_any f os ≡ list_any f (drop i os) → list_any f os ≡ true
  any_here os i o at is have = have ∙ ap (list_any f) (drop_some os i o at) ∙ ap (λ b. b || list_any f (drop (suc i) os)) is

  pub any_none : (os : List Op) (i : ℕ) → length os ≤ i → list_any f os ≡ list_any f (drop i os) → list_any f os ≡ false
  any_none os i past have = have ∙ ap (list_any f) (dropped os i past)
    where
      dropped : (xs : List Op) (i : ℕ) → length xs ≤ i → drop i xs ≡ []
      dropped [] zero past = refl
      dropped [] (suc i) past = refl
      dropped (x ∷ xs) zero past = absurd (omega arith)
      dropped (x ∷ xs) (suc i) past = dropped xs i (omega arith)
