-- The chains that links and heads stand for.
use Rattle.std.proofs.Common.{◌≡◌, ℕ, zero, suc, ◌<◌, ◌≤◌, Bool, true, false, cond, nat_eq, eqb, List, [], ◌∷◌, map, length, get_or, set, refl, ap, sym, ◌∙◌, arith}
use Rattle.std.specs.Prelude.{Option}
use Rattle.std.specs.List.{IsDistinct, AllByRecursion, list_any}
use Rattle.std.proofs.lemmas.List.{get_or-set_same, get_or-set_other, length-set, length-map, ext_get_or}
use Rattle.std.proofs.lemmas.Bool.{eqb-true, eqb-false}
use Rattle.std.proofs.lemmas.Map.Steps.{length-le_from_distinct_below}
use Rattle.linked_lists.specs.declared.links.Link.{Link}
use Rattle.linked_lists.specs.Ids.{times}
use Rattle.linked_lists.specs.Links.{none, next_at, first_of, IsLinked}
use Rattle.linked_lists.specs.Chains.{AreChains, HasChains, has_head, once_if, walk_on, chain_in, chains_in}
use Rattle.linked_lists.proofs.Linking.{first_once, rest_once}
use Rattle.linked_lists.proofs.Chaining.{unlike, chain_once, chain_bare}

-- ---- a chain is no longer than there are links

unlike_each : (x : ℕ) (xs : List ℕ) → times x xs ≡ 0 → AllByRecursion (λ y. eqb x y ≡ false) xs
unlike_each x [] e = tt
unlike_each x (y ∷ ys) e = go (nat_eq y x) refl e (unlike_each x ys)
  where
    go : (b : Bool) → nat_eq y x ≡ b → cond b (suc (times x ys)) (times x ys) ≡ 0 → (times x ys ≡ 0 → AllByRecursion (λ z. eqb x z ≡ false) ys) → AllByRecursion (λ z. eqb x z ≡ false) (y ∷ ys)
    go true t e r = absurd (omega (arith, e))
    go false t e r = (unlike x y (λ d. eqb-false y x t (sym d)), r e)

distinct : (xs : List ℕ) → ((v : ℕ) → times v xs ≤ 1) → IsDistinct eqb xs
unfolding IsDistinct
distinct [] once = tt
distinct (x ∷ xs) once = (unlike_each x xs (first_once x xs once), distinct xs (rest_once x xs once))

among : (q : ℕ) (xs : List ℕ) → list_any (eqb q) xs ≡ true → 0 < times q xs
among q [] h = cc
among q (x ∷ xs) h = go (nat_eq x q) refl (among q xs)
  where
    go : (b : Bool) → nat_eq x q ≡ b → (list_any (eqb q) xs ≡ true → 0 < times q xs) → 0 < cond b (suc (times q xs)) (times q xs)
    go true t r = omega arith
    go false t r =
        let n : eqb q x ≡ false = unlike q x (λ d. eqb-false x q t (sym d)) in
        r (rw n at h)

-- ---- the walk from a head

walk_on_none : (links : List Link) (n : ℕ) → walk_on links n none ≡ []
unfolding walk_on
walk_on_none links zero = refl
walk_on_none links (suc n) = refl

pub walk_on_is : (links : List Link) (n a : ℕ) (xs : List ℕ) → IsLinked links a xs none → length xs ≤ n → times none xs ≡ 0 → walk_on links n (first_of xs none) ≡ xs
unfolding walk_on
walk_on_is links n a [] h k bare = walk_on_none links n
walk_on_is links zero a (x ∷ xs) h k bare = absurd (omega (arith, k))
walk_on_is links (suc n) a (x ∷ xs) h k bare = go (nat_eq x none) bare (λ e. walk_on_is links n x xs h.1 (omega (arith, k)) e)
  where
    go : (b : Bool) → cond b (suc (times none xs)) (times none xs) ≡ 0 → (times none xs ≡ 0 → walk_on links n (first_of xs none) ≡ xs) → cond b [] (x ∷ walk_on links n (next_at links x)) ≡ x ∷ xs
    go true e r = absurd (omega (arith, e))
    go false e r =
        let next : next_at links x ≡ first_of xs none = ap (λ (l : Link). l.next) h.0 in
        rw next (ap (λ ys. x ∷ ys) (r e))

module _ (links : List Link) (heads : List ℕ) (chain : ℕ → List ℕ) (head : ℕ → Option ℕ) (ok : AreChains links heads chain head) where
  pub within : (s q : ℕ) → 0 < times q (chain s) → q < length links
  within s q h = below_unless q (length links) (λ k. omega (arith, h, ok.members s q, (ap (λ o. once_if (has_head o s)) (ok.below q k))))
    where
      below_unless : (i n : ℕ) → (n ≤ i → ⊥) → i < n
      below_unless zero zero f = absurd (f (omega arith))
      below_unless zero (suc n) f = omega arith
      below_unless (suc i) zero f = absurd (f (omega arith))
      below_unless (suc i) (suc n) f = omega (arith, below_unless i n (λ t. f (omega (arith, t))))

  pub chain_is : (s : ℕ) → chain_in links heads s ≡ chain s
  chain_is s =
      let short = length-le_from_distinct_below (chain s) (length links) (distinct (chain s) (chain_once links heads chain head ok s)) (λ q h. within s q (among q (chain s) h)) in
      rw (ok.first s) (walk_on_is links (length links) none (chain s) (ok.linked s) short (chain_bare links heads chain head ok s))

  -- the chains of the heads are these
  pub has_chains : HasChains links heads
  has_chains = record {
    head = head;
    ok = record {
      few = ok.few;
      linked = λ s. rw (chain_is s) (ok.linked s);
      first = λ s. rw (chain_is s) (ok.first s);
      members = λ s v. rw (chain_is s) (ok.members s v);
      below = ok.below;
    };
  }

-- the chain of a head among all
pub chain_at : (links : List Link) (heads : List ℕ) (s : ℕ) → get_or (chains_in links heads) s [] ≡ chain_in links heads s
chain_at links heads s = go heads s
  where
    go : (hs : List ℕ) (s : ℕ) → get_or (map (walk_on links (length links)) hs) s [] ≡ walk_on links (length links) (get_or hs s none)
    go [] s = sym (walk_on_none links (length links))
    go (h ∷ hs) zero = refl
    go (h ∷ hs) (suc s) = go hs s

-- ---- the chains after a change, told head by head

module _ (links ms : List Link) (heads hs : List ℕ) (chain : ℕ → List ℕ) (head : ℕ → Option ℕ) (ok : AreChains ms hs chain head) (size : length hs ≡ length heads) where
  all_chains : (cs : List (List ℕ)) → length cs ≡ length heads → ((t : ℕ) → t < length heads → chain t ≡ get_or cs t []) → chains_in ms hs ≡ cs
  all_chains cs n each =
      ext_get_or [] (chains_in ms hs) cs (omega (arith, length-map hs (walk_on ms (length ms)), size, n))
      (λ t h. chain_at ms hs t ∙ (chain_is ms hs chain head ok t ∙ each t (omega (arith, h, length-map hs (walk_on ms (length ms)), size))))

  pub one_changed : (s : ℕ) (xs : List ℕ) → s < length heads → ((t : ℕ) → chain t ≡ cond (nat_eq s t) xs (chain_in links heads t)) → chains_in ms hs ≡ set (chains_in links heads) s xs
  one_changed s xs there each =
      let n : length (chains_in links heads) ≡ length heads = length-map heads (walk_on links (length links)) in
      all_chains (set (chains_in links heads) s xs) (omega (arith, length-set (chains_in links heads) s xs, n))
      (λ t h. each t ∙ go t (nat_eq s t) refl (omega (arith, n, there)))
    where
      go : (t : ℕ) (b : Bool) → nat_eq s t ≡ b → s < length (chains_in links heads) → cond b xs (chain_in links heads t) ≡ get_or (set (chains_in links heads) s xs) t []
      go t true e k = rw (← eqb-true s t e) (sym (get_or-set_same (chains_in links heads) s xs [] k))
      go t false e k = sym (get_or-set_other (chains_in links heads) s t xs [] (λ d. eqb-false s t e (sym d)) ∙ chain_at links heads t)
