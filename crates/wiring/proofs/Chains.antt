-- Chains of needs: where no net needs itself, no chain is longer than a list of the nets that have needs.
-- This is the pigeonhole principle, by positions in the list: no two nets are ever compared.
use Rattle.std.proofs.Common.{◌≡◌, ℕ, zero, suc, ◌+◌, ◌<◌, ◌≤◌, ◌⊎◌, List, [], ◌∷◌, length, refl, sym, ap, subst, ◌∙◌, inl, inr, arith, zero-add, suc-add}
use Rattle.wiring.specs.Wiring.{In, Chain, Depends, IsAcyclic, IsWithin, FallsAlong}

module _ {A : Type 0} where
  -- the list without the member that stands at the position `here`
  abbrev pub without : (x : A) (xs : List A) → In x xs → List A
  without x [] here = []
  without x (y ∷ ys) (inl same) = ys
  without x (y ∷ ys) (inr here) = y ∷ without x ys here

  pub length-without : (x : A) (xs : List A) (here : In x xs) → length xs ≡ suc (length (without x xs here))
  length-without x [] here = absurd here
  length-without x (y ∷ ys) (inl same) = refl
  length-without x (y ∷ ys) (inr here) = ap suc (length-without x ys here)

  -- the other members stay
  pub In-without : (x y : A) (xs : List A) (here : In x xs) → In y xs → (y ≡ x) ⊎ In y (without x xs here)
  In-without x y [] here there = absurd here
  In-without x y (z ∷ zs) (inl same) (inl also) = inl (also ∙ sym same)
  In-without x y (z ∷ zs) (inl same) (inr there) = inr there
  In-without x y (z ∷ zs) (inr here) (inl also) = inr (inl also)
  In-without x y (z ∷ zs) (inr here) (inr there) = following (In-without x y zs here there)
    where
      following : (y ≡ x) ⊎ In y (without x zs here) → (y ≡ x) ⊎ In y (z ∷ without x zs here)
      following (inl same) = inl same
      following (inr stays) = inr (inr stays)

module _ {A : Type 0} (needs : A → List A) where
  pub Chain-append : (j k : ℕ) (a b c : A) → Chain needs j a b → Chain needs k b c → Chain needs (j + k) a c
  Chain-append zero k a b c first second =
      subst (λ n. Chain needs n a c) (sym (zero-add k)) (subst (λ d. Chain needs k d c) (sym first) second)
  Chain-append (suc j) k a b c (d, need, first) second =
      subst (λ n. Chain needs n a c) (sym (suc-add j k)) (d, need, Chain-append j k d b c first second)

  pub Depends-direct : (a b : A) → In b (needs a) → Depends needs a b
  Depends-direct a b need = (0, (b, need, refl))

  pub Depends-trans : (a b c : A) → Depends needs a b → Depends needs b c → Depends needs a c
  Depends-trans a b c (j, first) (k, second) =
      (j + suc k, subst (λ m. Chain needs m a c) (suc-add j (suc k)) (Chain-append (suc j) (suc k) a b c first second))

  pub Depends-step : (a b c : A) → In b (needs a) → Depends needs b c → Depends needs a c
  Depends-step a b c need (k, chain) = (suc k, (b, need, chain))

  -- a net that is needed is needed directly, or by a net that is
  pub Depends_cases : (a c : A) → Depends needs a c → (b : A) × In b (needs a) × ((b ≡ c) ⊎ Depends needs b c)
  Depends_cases a c (zero, (b, need, same)) = (b, need, inl same)
  Depends_cases a c (suc k, (b, need, chain)) = (b, need, inr (k, chain))

  -- the nets that chains from a reach and that need others stand in the list
  abbrev ReachesWithin : A → List A → Type 0
  ReachesWithin a nets = (k : ℕ) (b c : A) → Chain needs k a b → In c (needs b) → In b nets

  -- by induction on the chain: its first net is taken out of the list, and no later one is the same
  chain_within : IsAcyclic needs → (k : ℕ) (nets : List A) (a b : A) → ReachesWithin a nets → Chain needs k a b → k ≤ length nets
  chain_within acyclic zero nets a b within chain = omega arith
  chain_within acyclic (suc k) nets a b within (c, need, chain) =
      let here : In a nets = within 0 a c refl need in
      let shorter : k ≤ length (without a nets here) = chain_within acyclic k (without a nets here) c b (later here) chain in
      let size : length nets ≡ suc (length (without a nets here)) = length-without a nets here in
      omega arith
    where
      later : (here : In a nets) → ReachesWithin c (without a nets here)
      later here j d e reached needed = other (In-without a d nets here (within (suc j) d e (c, need, reached) needed))
        where
          other : (d ≡ a) ⊎ In d (without a nets here) → In d (without a nets here)
          other (inl same) = absurd (acyclic a (j, (c, need, subst (Chain needs j c) same reached)))
          other (inr stays) = stays

  -- no chain is longer than a list of the nets that have needs
  pub Chain-le : (nets : List A) → IsWithin needs nets → IsAcyclic needs → (k : ℕ) (a b : A) → Chain needs k a b → k ≤ length nets
  Chain-le nets within acyclic k a b chain =
      chain_within acyclic k nets a b (λ j c d reached needed. within c d needed) chain

  -- numbers that fall along needs fall along chains
  pub Chain-falls : (h : A → ℕ) → FallsAlong needs h → (k : ℕ) (a b : A) → Chain needs k a b → h b + k ≤ h a
  Chain-falls h falls zero a b same = let is : h a ≡ h b = ap h same in omega arith
  Chain-falls h falls (suc k) a b (c, need, chain) =
      let lower : h c < h a = falls a c need in
      let rest : h b + k ≤ h c = Chain-falls h falls k c b chain in
      omega arith

  pub Depends-falls : (h : A → ℕ) → FallsAlong needs h → (a b : A) → Depends needs a b → h b < h a
  Depends-falls h falls a b (k, chain) = let bound : h b + suc k ≤ h a = Chain-falls h falls (suc k) a b chain in omega arith

  pub IsAcyclic-falling : (h : A → ℕ) → FallsAlong needs h → IsAcyclic needs
  IsAcyclic-falling h falls a around = let lower : h a < h a = Depends-falls h falls a a around in absurd (omega arith)
