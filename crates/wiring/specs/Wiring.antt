-- The law of wiring: nets that get their values from other nets.
-- A net `a` needs the nets of the list `needs a`, and its value is `value a` of theirs, in that order.
use Rattle.std.specs.Prelude.{◌≡◌, ℕ, zero, suc, ◌<◌, max, ◌⊎◌, List, [], ◌∷◌, map}

-- x is a member of the list
abbrev pub In : {A : Type 0} → A → List A → Type 0
In x [] = ⊥
In x (y ∷ ys) = (x ≡ y) ⊎ In x ys

-- the greatest number of a list, or 0
abbrev pub greatest : List ℕ → ℕ
greatest [] = 0
greatest (n ∷ ns) = max n (greatest ns)

module _ {A : Type 0} (needs : A → List A) where
  -- k steps, each from a net to one that it needs, lead from a to b
  abbrev pub Chain : ℕ → A → A → Type 0
  Chain zero a b = a ≡ b
  Chain (suc k) a b = (c : A) × In c (needs a) × Chain k c b

  -- a needs b, directly or through other nets
  abbrev pub Depends : A → A → Type 0
  Depends a b = (k : ℕ) × Chain (suc k) a b

  -- no net needs itself, directly or through other nets
  abbrev pub IsAcyclic : Type 0
  IsAcyclic = (a : A) → Depends a a → ⊥

  -- each net that needs any stands in the list
  abbrev pub IsWithin : List A → Type 0
  IsWithin nets = (a b : A) → In b (needs a) → In a nets

  -- each net's height is one more than the greatest height of what it needs
  abbrev pub IsHeight : (A → ℕ) → Type 0
  IsHeight height = (a : A) → height a ≡ suc (greatest (map height (needs a)))

  -- the nets have heights
  abbrev pub HasHeights : Type 0
  HasHeights = (height : A → ℕ) × IsHeight height

  -- what a net needs stands lower than the net
  abbrev pub FallsAlong : (A → ℕ) → Type 0
  FallsAlong height = (a b : A) → In b (needs a) → height b < height a

module _ {A V : Type 0} (needs : A → List A) (value : A → List V → V) where
  -- under the map ρ each net has the value that it gets from the nets it needs
  abbrev pub Settled : (A → V) → Type 0
  Settled ρ = (a : A) → ρ a ≡ value a (map ρ (needs a))

  -- exactly one map is settled
  abbrev pub SettlesOnce : Type 0
  SettlesOnce = (ρ : A → V) × Settled ρ × ((σ : A → V) → Settled σ → (a : A) → σ a ≡ ρ a)
