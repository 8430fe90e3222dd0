-- Heights: where they are, and what they give.
use Rattle.std.proofs.Common.{◌≡◌, ℕ, zero, suc, ◌<◌, ◌≤◌, max, ◌⊎◌, List, [], ◌∷◌, ◌++◌, length, map, refl, sym, subst, ◌∙◌, inl, inr, arith}
use Rattle.wiring.specs.Wiring.{In, greatest, Chain, Depends, IsAcyclic, IsWithin, IsHeight, HasHeights, FallsAlong, SettlesOnce}
use Rattle.wiring.proofs.Members.{In-map, from_In-map}
use Rattle.wiring.proofs.Chains.{Chain-le, Depends-falls, IsAcyclic-falling}
use Rattle.wiring.proofs.Settled.{by_falling, settles_once, settles_along, settled_alike}

-- no member is greater
pub le-greatest : (n : ℕ) (ns : List ℕ) → In n ns → n ≤ greatest ns
le-greatest n [] here = absurd here
le-greatest n (m ∷ ms) (inl same) = omega arith
le-greatest n (m ∷ ms) (inr here) = let rest : n ≤ greatest ms = le-greatest n ms here in omega arith

-- the greatest is at most what no member exceeds
pub greatest-le : (ns : List ℕ) (n : ℕ) → ((m : ℕ) → In m ns → m ≤ n) → greatest ns ≤ n
greatest-le [] n bound = omega arith
greatest-le (m ∷ ms) n bound =
    let first : m ≤ n = bound m (inl refl) in
    let rest : greatest ms ≤ n = greatest-le ms n (λ k here. bound k (inr here)) in
    omega arith

-- where the greatest is not 0, it is a member
pub In-greatest : (ns : List ℕ) → 0 < greatest ns → In (greatest ns) ns
In-greatest [] positive = absurd (omega arith)
In-greatest (m ∷ ms) positive = by_order (grind arith) (In-greatest ms)
  where
    by_order : (greatest ms ≤ m) ⊎ (m < greatest ms) → (0 < greatest ms → In (greatest ms) ms) → In (greatest (m ∷ ms)) (m ∷ ms)
    by_order (inl first) among = inl (omega arith)
    by_order (inr later) among =
        let is : greatest ms ≡ greatest (m ∷ ms) = omega arith in
        inr (subst (λ n. In n ms) is (among (omega arith)))

pub greatest-append : (ns ms : List ℕ) → greatest (ns ++ ms) ≡ max (greatest ns) (greatest ms)
greatest-append [] ms = omega arith
greatest-append (n ∷ ns) ms = let rest : greatest (ns ++ ms) ≡ max (greatest ns) (greatest ms) = greatest-append ns ms in omega arith

module _ {A : Type 0} (needs : A → List A) where
  -- heights fall along needs
  pub FallsAlong-height : (h : A → ℕ) → IsHeight needs h → FallsAlong needs h
  FallsAlong-height h height a b need =
      let bound : h b ≤ greatest (map h (needs a)) = le-greatest (h b) (map h (needs a)) (In-map h b (needs a) need) in
      let is : h a ≡ suc (greatest (map h (needs a))) = height a in
      omega arith

  -- a number that falls along needs gives heights
  pub heights : (h : A → ℕ) → FallsAlong needs h → HasHeights needs
  heights h falls = let once = settles_along needs (λ a ns. suc (greatest ns)) h falls in (once.0, once.1)

  -- a wiring without cycles has heights, where the nets that have needs stand in a list
  pub HasHeights-acyclic : (nets : List A) → IsWithin needs nets → IsAcyclic needs → HasHeights needs
  HasHeights-acyclic nets within acyclic =
      let once = settles_once needs (λ a ns. suc (greatest ns)) nets within acyclic in (once.0, once.1)

  -- and where a wiring has heights there is no cycle
  pub IsAcyclic-heights : HasHeights needs → IsAcyclic needs
  IsAcyclic-heights (h, height) = IsAcyclic-falling needs h (FallsAlong-height h height)

  -- two maps of heights are equal
  pub heights_alike : (g h : A → ℕ) → IsHeight needs g → IsHeight needs h → (a : A) → g a ≡ h a
  heights_alike g h first second =
      settled_alike needs (λ a ns. suc (greatest ns)) (settles_along needs (λ a ns. suc (greatest ns)) g (FallsAlong-height g first)) g h first second

  -- a height is the length of a chain
  chain_of_height : (h : A → ℕ) → IsHeight needs h → (n : ℕ) (a : A) → h a ≡ suc n → (b : A) × Chain needs n a b
  chain_of_height h height zero a is = (a, refl)
  chain_of_height h height (suc n) a is =
      let greatest_is : greatest (map h (needs a)) ≡ suc n = let e : h a ≡ suc (greatest (map h (needs a))) = height a in omega arith in
      let among : In (greatest (map h (needs a))) (map h (needs a)) = In-greatest (map h (needs a)) (omega arith) in
      let found = from_In-map h (greatest (map h (needs a))) (needs a) among in
      let rest = chain_of_height h height n found.0 (sym found.2 ∙ greatest_is) in
      (rest.0, (found.0, found.1, rest.1))

  -- no height is above the number of nets that have needs by more than one
  pub height-le : (nets : List A) → IsWithin needs nets → (h : A → ℕ) → IsHeight needs h → (a : A) → h a ≤ suc (length nets)
  height-le nets within h height a = by_size (h a) refl
    where
      by_size : (n : ℕ) → h a ≡ n → n ≤ suc (length nets)
      by_size zero is = omega arith
      by_size (suc n) is =
          let reached = chain_of_height h height n a is in
          let bound : n ≤ length nets = Chain-le needs nets within (IsAcyclic-heights (h, height)) n a reached.0 reached.1 in
          omega arith

  -- induction along needs, by heights
  pub by_heights : (P : A → Type 0) → ((a : A) → ((b : A) → In b (needs a) → P b) → P a) → HasHeights needs → (a : A) → P a
  by_heights P step (h, height) = by_falling needs P step h (FallsAlong-height h height)

module _ {A V : Type 0} (needs : A → List A) (value : A → List V → V) where
  -- exactly one map is settled where the nets have heights
  pub settles : HasHeights needs → SettlesOnce needs value
  settles (h, height) = settles_along needs value h (FallsAlong-height needs h height)

module _ {A B : Type 0} (needs : A → List A) (needs' : B → List B) where
  -- a wiring has heights where its nets stand for nets of a wiring with heights, and each need for a chain of needs there
  pub HasHeights-follows : (f : A → B) → ((a b : A) → In b (needs a) → Depends needs' (f a) (f b)) → HasHeights needs' → HasHeights needs
  HasHeights-follows f follows (h, height) =
      heights needs (λ a. h (f a))
      (λ a b need. Depends-falls needs' h (FallsAlong-height needs' h height) (f a) (f b) (follows a b need))
