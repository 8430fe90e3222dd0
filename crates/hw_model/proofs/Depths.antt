-- Heights computed: where each net of a list is found to reach all that it needs in few steps.
use Rattle.std.proofs.Common.{◌≡◌, ℕ, zero, suc, ◌+◌, ◌<◌, ◌≤◌, Bool, true, false, cond, List, [], ◌∷◌, refl, sym, subst, ◌∙◌, ap, inl, inr, arith}
use Rattle.wiring.specs.Wiring.{In, IsWithin, HasHeights}
use Rattle.wiring.proofs.Heights.{heights}

-- whether a test holds of all members
abbrev pub every : {A : Type 0} → (A → Bool) → List A → Bool
every test [] = true
every test (x ∷ xs) = cond (test x) (every test xs) false

pub every_here : {A : Type 0} (test : A → Bool) (x : A) (xs : List A) → every test (x ∷ xs) ≡ true → (test x ≡ true) × (every test xs ≡ true)
every_here test x xs all = go (test x) refl all
  where
    go : (b : Bool) → test x ≡ b → cond b (every test xs) false ≡ true → (test x ≡ true) × (every test xs ≡ true)
    go true is rest = (is, rest)
    go false is rest = cc

every_In : {A : Type 0} (test : A → Bool) (xs : List A) → every test xs ≡ true → (x : A) → In x xs → test x ≡ true
every_In test [] all x here = absurd here
every_In test (y ∷ ys) all x (inl same) = ap test same ∙ (every_here test y ys all).0
every_In test (y ∷ ys) all x (inr here) = every_In test ys (every_here test y ys all).1 x here

module _ {A : Type 0} (needs : A → List A) where
  -- whether all that a net needs is reached in fewer than n steps
  abbrev pub ends_within : ℕ → A → Bool
  ends_within zero a = false
  ends_within (suc n) a = every (ends_within n) (needs a)

  ends_step : (n : ℕ) (a b : A) → ends_within (suc n) a ≡ true → In b (needs a) → ends_within n b ≡ true
  ends_step n a b ends need = every_In (ends_within n) (needs a) ends b need

  -- how many numbers below n are too small
  abbrev misses : Bool → ℕ
  misses true = 0
  misses false = 1

  abbrev short_of : ℕ → A → ℕ
  short_of zero a = 0
  short_of (suc n) a = misses (ends_within n a) + short_of n a

  short_falls : (n : ℕ) (a b : A) → In b (needs a) → short_of n b < short_of (suc n) a
  short_falls zero a b need = omega arith
  short_falls (suc n) a b need =
      let rest : short_of n b < short_of (suc n) a = short_falls n a b need in
      let fewer : misses (ends_within n b) ≤ misses (ends_within (suc n) a) = go (ends_within (suc n) a) refl in
      omega arith
    where
      below_one : (t : Bool) → misses t ≤ 1
      below_one true = omega arith
      below_one false = omega arith

      go : (t : Bool) → ends_within (suc n) a ≡ t → misses (ends_within n b) ≤ misses t
      go true is = let none : misses (ends_within n b) ≡ 0 = ap misses (ends_step n a b is need) in omega arith
      go false is = below_one (ends_within n b)

  -- a net reaches what it needs where it stands in the list or needs nothing
  listed_ends : (n : ℕ) (nets : List A) → IsWithin needs nets → every (ends_within (suc n)) nets ≡ true → (b : A) → ends_within (suc n) b ≡ true
  listed_ends n nets within checked b = go (needs b) refl
    where
      go : (cs : List A) → needs b ≡ cs → ends_within (suc n) b ≡ true
      go [] is = ap (every (ends_within n)) is
      go (c ∷ cs) is =
          let need : In c (needs b) = subst (In c) (sym is) (inl refl) in
          every_In (ends_within (suc n)) nets checked b (within b c need)

  -- so the nets have heights
  pub heights_computed : (n : ℕ) (nets : List A) → IsWithin needs nets → every (ends_within (suc n)) nets ≡ true → HasHeights needs
  heights_computed n nets within checked = heights needs (short_of (suc (suc n))) falls
    where
      falls : (a b : A) → In b (needs a) → short_of (suc (suc n)) b < short_of (suc (suc n)) a
      falls a b need =
          let lower : short_of (suc n) b < short_of (suc (suc n)) a = short_falls (suc n) a b need in
          let none : misses (ends_within (suc n) b) ≡ 0 = ap misses (listed_ends n nets within checked b) in
          omega arith
