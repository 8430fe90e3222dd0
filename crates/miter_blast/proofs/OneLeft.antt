-- Lists of which just one member is left.
use Rattle.std.proofs.Common.{◌≡◌, ℕ, zero, suc, List, [], ◌∷◌, Some, slice_get, refl, ap, ap₂, subst, ◌∙◌, inl, inr, arith}
use Rattle.wiring.specs.Wiring.{In}
use Rattle.wiring.proofs.Members.{position_of_In}
use Rattle.hw_model.specs.Types.{Name}
use Rattle.hw_model.specs.Design.{Module, Design}
use Rattle.pass_laws.specs.Remaining.{symbols, AreThose}

-- a name stands at no more than one position
abbrev pub IsOnce : Name → List Name → Type 0
IsOnce s xs = (i j : ℕ) → slice_get xs i ≡ Some s → slice_get xs j ≡ Some s → i ≡ j

later_once : (s x : Name) (xs : List Name) → IsOnce s (x ∷ xs) → IsOnce s xs
later_once s x xs once i j at also = let same : suc i ≡ suc j = once (suc i) (suc j) at also in omega (arith, same)

module _ (P : Name → Type 0) where
  none_those : (xs ys : List Name) → AreThose P xs ys → ((x : Name) → In x xs → P x → ⊥) → ys ≡ []
  none_those [] ys are never = are
  none_those (x ∷ xs) ys (inl (rest, is, meets, more)) never = absurd (never x (inl refl) meets)
  none_those (x ∷ xs) ys (inr (fails, more)) never = none_those xs ys more (λ y here. never y (inr here))

  -- those that meet it are one name, where only that does, and stands once
  pub one_those : (s : Name) (xs ys : List Name) → AreThose P xs ys → ((x : Name) → P x → x ≡ s) → P s → In s xs → IsOnce s xs → ys ≡ s ∷ []
  one_those s [] ys are only holds here once = absurd here
  one_those s (x ∷ xs) ys (inl (rest, is, meets, more)) only holds here once =
      let first : x ≡ s = only x meets in
      is ∙ ap₂ (λ y ys. y ∷ ys) first (none_those xs rest more (λ y there also. again first (subst (λ z. In z xs) (only y also) there)))
    where
      again : x ≡ s → In s xs → ⊥
      again first there =
          let position = position_of_In s xs there in
          let clash : zero ≡ suc position.0 = once zero (suc position.0) (ap (λ z. Some z) first) position.1 in cc
  one_those s (x ∷ xs) ys (inr (fails, more)) only holds (inl same) once = absurd (fails (subst P same holds))
  one_those s (x ∷ xs) ys (inr (fails, more)) only holds (inr later) once = one_those s xs ys more only holds later (later_once s x xs once)

-- a design with one symbol is one module
pub one_module : (s : Name) (e : Design) → symbols e ≡ s ∷ [] → (m : Module) × (e ≡ m ∷ []) × (m.symbol ≡ s)
one_module s [] is = cc
one_module s (m ∷ []) is = (m, refl, cc)
one_module s (m ∷ n ∷ e) is = cc
