-- Steps that may fail: what follows from the value of a chain of them.
use Rattle.std.proofs.Common.{◌≡◌, ◌⊎◌, Option, Some, None, option_map, option_and_then, refl, inl, inr}

module _ {A : Type 0} where
  -- there is a value or none
  pub some_or_none : (o : Option A) → ((a : A) × (o ≡ Some a)) ⊎ (o ≡ None)
  some_or_none None = inr refl
  some_or_none (Some a) = inl (a, refl)

module _ {A B : Type 0} where
  -- a chain that gives a value took a value at its first step
  pub and_then_some : (o : Option A) (f : A → Option B) {b : B} → option_and_then f o ≡ Some b → (a : A) × (o ≡ Some a) × (f a ≡ Some b)
  and_then_some None f is = cc
  and_then_some (Some a) f is = (a, refl, is)

  -- a chain that gives none stopped at its first step or after it
  pub and_then_none : (o : Option A) (f : A → Option B) → option_and_then f o ≡ None → (o ≡ None) ⊎ ((a : A) × (o ≡ Some a) × (f a ≡ None))
  and_then_none None f is = inl refl
  and_then_none (Some a) f is = inr (a, refl, is)

  -- what is changed and is there was there before
  pub option_map_some : (f : A → B) (o : Option A) {b : B} → option_map f o ≡ Some b → (a : A) × (o ≡ Some a) × (f a ≡ b)
  option_map_some f None is = cc
  option_map_some f (Some a) is = (a, refl, cc)

  -- what is changed and is not there was not there before
  pub option_map_none : (f : A → B) (o : Option A) → option_map f o ≡ None → o ≡ None
  option_map_none f None is = refl
  option_map_none f (Some a) is = cc
