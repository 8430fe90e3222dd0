-- Chains of cells: what putting one in and taking one out does to each of them.
use Rattle.std.proofs.Common.{◌≡◌, ℕ, suc, ◌+◌, ◌<◌, ◌≤◌, Bool, true, false, cond, nat_eq, List, [], ◌∷◌, ◌++◌, length, get_or, set, refl, ap, sym, ◌∙◌, subst, arith}
use Rattle.std.specs.Prelude.{Option, Some, None}
use Rattle.std.proofs.lemmas.List.{get_or-set_same, get_or-set_other}
use Rattle.std.proofs.lemmas.Bool.{eqb-true, eqb-false}
use Rattle.linked_lists.specs.declared.links.Link.{Link}
use Rattle.linked_lists.specs.Ids.{times, put_at}
use Rattle.linked_lists.specs.Links.{none, no_link, new_link, free_link, link_at, next_at, prev_at, first_of, last_of, IsLinked, with_next, with_prev, linked_in, linked_out}
use Rattle.linked_lists.specs.Chains.{AreChains, has_head, once_if, with_prefix, cut, without, with_head}
use Rattle.linked_lists.proofs.IdLemmas.{times-append, get_or-put_at_other, length-put_at}
use Rattle.linked_lists.proofs.Linking.{next_other, prev_other, first_there, last_there, linked_same, linked_back, linked_more, linked_less, length-linked_in, length-linked_out}

pub once_at_most : (b : Bool) → once_if b ≤ 1
once_at_most true = omega arith
once_at_most false = omega arith

pub eq_self : (x : ℕ) → nat_eq x x ≡ true
eq_self x = go (nat_eq x x) refl
  where
    go : (b : Bool) → nat_eq x x ≡ b → nat_eq x x ≡ true
    go true t = t
    go false t = absurd (eqb-false x x t refl)

pub unlike : (x y : ℕ) → (x ≡ y → ⊥) → nat_eq x y ≡ false
unlike x y n = go (nat_eq x y) refl
  where
    go : (b : Bool) → nat_eq x y ≡ b → nat_eq x y ≡ false
    go true t = absurd (n (eqb-true x y t))
    go false t = t

-- a cell has at most one head
one_head : (o : Option ℕ) (s t : ℕ) → 0 < once_if (has_head o s) → 0 < once_if (has_head o t) → s ≡ t
one_head None s t h k = absurd (omega (arith, h))
one_head (Some u) s t h k = go (nat_eq u s) (nat_eq u t) refl refl h k
  where
    go : (a b : Bool) → nat_eq u s ≡ a → nat_eq u t ≡ b → 0 < once_if a → 0 < once_if b → s ≡ t
    go true true x y h k = sym (eqb-true u s x) ∙ eqb-true u t y
    go false b x y h k = absurd (omega (arith, h))
    go true false x y h k = absurd (omega (arith, k))

-- ---- other links

in_other : (id p q v : ℕ) (ls : List Link) → id ≤ length ls → (v ≡ id → ⊥) → (v ≡ p → ⊥) → (v ≡ q → ⊥) → link_at (linked_in id p q ls) v ≡ link_at ls v
in_other id p q v ls room a b c =
    let l1 = put_at id (new_link p q) ls in
    let l2 = with_next p id l1 in
    prev_other q v id l2 c ∙ (next_other p v id l1 b ∙ get_or-put_at_other id v (new_link p q) no_link ls room a)

out_other : (id p q f v : ℕ) (ls : List Link) → (v ≡ id → ⊥) → (v ≡ p → ⊥) → (v ≡ q → ⊥) → link_at (linked_out id p q f ls) v ≡ link_at ls v
out_other id p q f v ls a b c =
    let l1 = with_next p q ls in
    let l2 = with_prev q p l1 in
    get_or-set_other l2 id v (free_link f) no_link a ∙ (prev_other q v p l1 c ∙ next_other p v q ls b)

-- ---- cells of a chain

module _ (links : List Link) (heads : List ℕ) (chain : ℕ → List ℕ) (head : ℕ → Option ℕ) (ok : AreChains links heads chain head) where
  pub chain_once : (s v : ℕ) → times v (chain s) ≤ 1
  chain_once s v = omega (arith, ok.members s v, once_at_most (has_head (head v) s))

  pub chain_bare : (s : ℕ) → times none (chain s) ≡ 0
  chain_bare s =
      let e : head none ≡ None = ok.below none (omega (arith, ok.few)) in
      ok.members s none ∙ ap (λ o. once_if (has_head o s)) e

  pub chain_new : (s v : ℕ) → head v ≡ None → times v (chain s) ≡ 0
  chain_new s v e = ok.members s v ∙ ap (λ o. once_if (has_head o s)) e

  pub chain_here : (s v : ℕ) → head v ≡ Some s → times v (chain s) ≡ 1
  chain_here s v e = ok.members s v ∙ (ap (λ o. once_if (has_head o s)) e ∙ ap once_if (eq_self s))

  -- no cell is in two chains
  pub chains_apart : (s t v w : ℕ) → (s ≡ t → ⊥) → 0 < times v (chain s) → 0 < times w (chain t) → v ≡ w → ⊥
  chains_apart s t v w n a b e =
      n (one_head (head v) s t (omega (arith, a, ok.members s v)) (omega (arith, (rw (← e) at b), ok.members t v)))

  -- the first of another chain
  first_apart_of : (s t v : ℕ) (xs : List ℕ) → xs ≡ chain s → (s ≡ t → ⊥) → 0 < times v (chain t) → v ≡ first_of xs none → ⊥
  first_apart_of s t v [] e n h d = omega (arith, (rw d at h), chain_bare t)
  first_apart_of s t v (x ∷ xs) e n h d = chains_apart t s v x (λ r. n (sym r)) h (rw (← e) (first_there x xs)) d

  last_apart_of : (s t v : ℕ) (xs ys : List ℕ) → chain s ≡ xs ++ ys → (s ≡ t → ⊥) → 0 < times v (chain t) → v ≡ last_of none xs → ⊥
  last_apart_of s t v [] ys e n h d = omega (arith, (rw d at h), chain_bare t)
  last_apart_of s t v (x ∷ xs) ys e n h d =
      chains_apart t s v (last_of x xs) (λ r. n (sym r)) h (rw e (omega (arith, last_there x xs, times-append (last_of x xs) (x ∷ xs) ys))) d

  -- ---- a cell is put in before the others

  module _ (s cell : ℕ) (room : cell ≤ length links) (few : cell < none) (there : s < length heads) (new : head cell ≡ None) where
    abbrev more : List Link
    more = linked_in cell none (get_or heads s none) links

    more_linked : (t : ℕ) (b : Bool) → nat_eq s t ≡ b → IsLinked more none (cond b (cell ∷ chain t) (chain t)) none
    more_linked t true e =
        let same : s ≡ t = eqb-true s t e in
        let r : IsLinked (linked_in cell none (first_of (chain s) none) links) none (cell ∷ chain s) none =
        linked_more links [] (chain s) cell room (λ d. omega (arith, d, few)) (chain_once s) (chain_bare s) (chain_new s cell new) (ok.linked s) in
        rw (← same) (subst (λ q. IsLinked (linked_in cell none q links) none (cell ∷ chain s) none) (sym (ok.first s)) r)
    more_linked t false e =
        let other : s ≡ t → ⊥ = eqb-false s t e in
        linked_same links more none (chain t) none
        (λ v h. in_other cell none (get_or heads s none) v links room
        (λ d. omega (arith, (rw d at h), chain_new t cell new))
        (λ d. omega (arith, (rw d at h), chain_bare t))
        (λ d. first_apart_of s t v (chain s) refl other h (d ∙ ok.first s)))
        (ok.linked t)

    more_first : (t : ℕ) (b : Bool) → nat_eq s t ≡ b → get_or (set heads s cell) t none ≡ first_of (cond b (cell ∷ chain t) (chain t)) none
    more_first t true e = rw (← eqb-true s t e) (get_or-set_same heads s cell none there)
    more_first t false e = get_or-set_other heads s t cell none (λ d. eqb-false s t e (sym d)) ∙ ok.first t

    more_members : (t v : ℕ) (b c : Bool) → nat_eq s t ≡ b → nat_eq cell v ≡ c → times v (cond b (cell ∷ chain t) (chain t)) ≡ once_if (has_head (cond c (Some s) (head v)) t)
    more_members t v true true e d =
        rw (d, e) (let n : times v (chain t) ≡ 0 = rw (← eqb-true cell v d) (chain_new t cell new) in rw n refl)
    more_members t v true false e d = rw d (ok.members t v)
    more_members t v false true e d = rw (e, ← eqb-true cell v d) (chain_new t cell new)
    more_members t v false false e d = ok.members t v

    more_below : (v : ℕ) (c : Bool) → nat_eq cell v ≡ c → length more ≤ v → cond c (Some s) (head v) ≡ None
    more_below v true d h =
        absurd (omega (arith, h, length-linked_in cell none (get_or heads s none) links, length-put_at cell (new_link none (get_or heads s none)) links room, eqb-true cell v d))
    more_below v false d h =
        ok.below v (omega (arith, h, length-linked_in cell none (get_or heads s none) links, length-put_at cell (new_link none (get_or heads s none)) links room))

    pub chained_more : AreChains more (set heads s cell) (with_prefix s cell chain) (with_head cell (Some s) head)
    chained_more = record {
      few = omega (arith, ok.few, few, length-linked_in cell none (get_or heads s none) links, length-put_at cell (new_link none (get_or heads s none)) links room);
      linked = λ t. more_linked t (nat_eq s t) refl;
      first = λ t. more_first t (nat_eq s t) refl;
      members = λ t v. more_members t v (nat_eq s t) (nat_eq cell v) refl refl;
      below = λ v h. more_below v (nat_eq cell v) refl h;
    }

-- ---- a cell is taken out

-- the cells before and after one that is there
pub record PartsAt (cell : ℕ) (zs : List ℕ) : Type 0 where
  pub prefix : List ℕ
  pub back : List ℕ
  pub whole : zs ≡ prefix ++ cell ∷ back
  pub rest : cut cell zs ≡ prefix ++ back

pub parts_at : (cell : ℕ) (zs : List ℕ) → 0 < times cell zs → PartsAt cell zs
parts_at cell [] h = absurd (omega (arith, h))
parts_at cell (z ∷ zs) h = go (nat_eq z cell) refl h (parts_at cell zs)
  where
    go : (b : Bool) → nat_eq z cell ≡ b → 0 < cond b (suc (times cell zs)) (times cell zs) → (0 < times cell zs → PartsAt cell zs) → PartsAt cell (z ∷ zs)
    go true t h r = record {
      prefix = [];
      back = zs;
      whole = ap (λ y. y ∷ zs) (eqb-true z cell t);
      rest = rw t refl;
    }
    go false t h r =
        let p = r h in
        record {
          prefix = z ∷ p.prefix;
          back = p.back;
          whole = ap (λ ys. z ∷ ys) p.whole;
          rest = rw t (ap (λ ys. z ∷ ys) p.rest);
        }

-- how often a cell stands there once one is taken out
pub times-cut : (cell v : ℕ) (zs : List ℕ) → 0 < times cell zs → times v (cut cell zs) + once_if (nat_eq cell v) ≡ times v zs
times-cut cell v zs h =
    let p = parts_at cell zs h in
    let e : times v (cut cell zs) ≡ times v (p.prefix ++ p.back) = ap (times v) p.rest in
    let f : times v zs ≡ times v (p.prefix ++ cell ∷ p.back) = ap (times v) p.whole in
    omega (arith, e, f, go (nat_eq cell v) refl p.prefix p.back)
  where
    go : (b : Bool) → nat_eq cell v ≡ b → (xs ys : List ℕ) → times v (xs ++ ys) + once_if (nat_eq cell v) ≡ times v (xs ++ cell ∷ ys)
    go true t xs ys =
        let n : once_if (nat_eq cell v) ≡ 1 = rw t refl in
        omega (arith, times-append v xs ys, times-append v xs (cell ∷ ys), here t ys, n)
      where
        here : nat_eq cell v ≡ true → (ys : List ℕ) → times v (cell ∷ ys) ≡ suc (times v ys)
        here t ys = rw t refl
    go false t xs ys =
        let n : once_if (nat_eq cell v) ≡ 0 = rw t refl in
        omega (arith, times-append v xs ys, times-append v xs (cell ∷ ys), there t ys, n)
      where
        there : nat_eq cell v ≡ false → (ys : List ℕ) → times v (cell ∷ ys) ≡ times v ys
        there t ys = rw t refl

module _ (links : List Link) (heads : List ℕ) (chain : ℕ → List ℕ) (head : ℕ → Option ℕ) (ok : AreChains links heads chain head) (s cell : ℕ) (at : head cell ≡ Some s) where
  abbrev prev : ℕ
  prev = prev_at links cell

  abbrev next : ℕ
  next = next_at links cell

  abbrev less : List Link
  less = linked_out cell prev next none links

  abbrev heads_2 : List ℕ
  heads_2 = set heads s (cond (nat_eq prev none) next (get_or heads s none))

  is_here : 0 < times cell (chain s)
  is_here = omega (arith, chain_here links heads chain head ok s cell at)

  parts : PartsAt cell (chain s)
  parts = parts_at cell (chain s) is_here

  link_here : link_at links cell ≡ new_link (last_of none parts.prefix) (first_of parts.back none)
  link_here =
      let h : IsLinked links none (parts.prefix ++ cell ∷ parts.back) none = rw (← parts.whole) (ok.linked s) in
      (linked_back links none parts.prefix (cell ∷ parts.back) none h).0

  prev_is : prev ≡ last_of none parts.prefix
  prev_is = ap (λ (l : Link). l.prev) link_here

  next_is : next ≡ first_of parts.back none
  next_is = ap (λ (l : Link). l.next) link_here

  back_apart : (t v : ℕ) (ys : List ℕ) → chain s ≡ parts.prefix ++ cell ∷ ys → (s ≡ t → ⊥) → 0 < times v (chain t) → v ≡ first_of ys none → ⊥
  back_apart t v [] e n h d = omega (arith, (rw d at h), chain_bare links heads chain head ok t)
  back_apart t v (y ∷ ys) e n h d =
      chains_apart links heads chain head ok t s v y (λ r. n (sym r)) h
      (rw e (omega (arith, first_there y ys, times-append y parts.prefix (cell ∷ y ∷ ys), rest y (y ∷ ys)))) d
    where
      rest : (y : ℕ) (zs : List ℕ) → times y zs ≤ times y (cell ∷ zs)
      rest y zs = go (nat_eq cell y)
        where
          go : (b : Bool) → times y zs ≤ cond b (suc (times y zs)) (times y zs)
          go true = omega arith
          go false = omega arith

  less_linked : (t : ℕ) (b : Bool) → nat_eq s t ≡ b → IsLinked less none (cond b (cut cell (chain t)) (chain t)) none
  less_linked t true e =
      let h : IsLinked links none (parts.prefix ++ cell ∷ parts.back) none = rw (← parts.whole) (ok.linked s) in
      let once : (v : ℕ) → times v (parts.prefix ++ cell ∷ parts.back) ≤ 1 = λ v. rw (← parts.whole) (chain_once links heads chain head ok s v) in
      let bare : times none (parts.prefix ++ cell ∷ parts.back) ≡ 0 = rw (← parts.whole) (chain_bare links heads chain head ok s) in
      rw (← eqb-true s t e, parts.rest, prev_is, next_is) (linked_less links parts.prefix parts.back cell none once bare h)
  less_linked t false e =
      let other : s ≡ t → ⊥ = eqb-false s t e in
      linked_same links less none (chain t) none
      (λ v h. out_other cell prev next none v links
      (chains_apart links heads chain head ok t s v cell (λ r. other (sym r)) h is_here)
      (λ d. last_apart_of links heads chain head ok s t v parts.prefix (cell ∷ parts.back) parts.whole other h (d ∙ prev_is))
      (λ d. back_apart t v parts.back parts.whole other h (d ∙ next_is)))
      (ok.linked t)

  head_less : (xs ys zs : List ℕ) → zs ≡ xs ++ cell ∷ ys → times none zs ≡ 0 → cond (nat_eq (last_of none xs) none) (first_of ys none) (first_of zs none) ≡ first_of (xs ++ ys) none
  head_less [] ys zs e n = refl
  head_less (x ∷ xs) ys zs e n = go (nat_eq (last_of x xs) none) refl
    where
      go : (b : Bool) → nat_eq (last_of x xs) none ≡ b → cond b (first_of ys none) (first_of zs none) ≡ x
      go false t = rw e refl
      go true t =
          let here : 0 < times (last_of x xs) zs = rw e (omega (arith, last_there x xs, times-append (last_of x xs) (x ∷ xs) (cell ∷ ys))) in
          let same : times (last_of x xs) zs ≡ times none zs = rw (eqb-true (last_of x xs) none t) refl in
          absurd (omega (arith, n, here, same))

  less_first : s < length heads → (t : ℕ) (b : Bool) → nat_eq s t ≡ b → get_or heads_2 t none ≡ first_of (cond b (cut cell (chain t)) (chain t)) none
  less_first there t true e =
      rw (← eqb-true s t e, get_or-set_same heads s (cond (nat_eq prev none) next (get_or heads s none)) none there, ok.first s, parts.rest, prev_is, next_is)
      (head_less parts.prefix parts.back (chain s) parts.whole (chain_bare links heads chain head ok s))
  less_first there t false e = get_or-set_other heads s t (cond (nat_eq prev none) next (get_or heads s none)) none (λ d. eqb-false s t e (sym d)) ∙ ok.first t

  less_members : (t v : ℕ) (b c : Bool) → nat_eq s t ≡ b → nat_eq cell v ≡ c → times v (cond b (cut cell (chain t)) (chain t)) ≡ once_if (has_head (cond c None (head v)) t)
  less_members t v true true e d =
      let n = times-cut cell v (chain s) is_here in
      let one : once_if (nat_eq cell v) ≡ 1 = rw d refl in
      rw (← eqb-true s t e) (omega (arith, n, one, chain_once links heads chain head ok s v))
  less_members t v true false e d =
      let n = times-cut cell v (chain s) is_here in
      let other : once_if (nat_eq cell v) ≡ 0 = rw d refl in
      rw (← eqb-true s t e) (omega (arith, n, other, ok.members s v))
  less_members t v false true e d =
      let h : has_head (head v) t ≡ false = rw (← eqb-true cell v d, at) e in
      rw (ok.members t v, h) refl
  less_members t v false false e d = ok.members t v

  less_below : (v : ℕ) (c : Bool) → nat_eq cell v ≡ c → length links ≤ v → cond c None (head v) ≡ None
  less_below v true d h = refl
  less_below v false d h = ok.below v h

  pub chained_less : s < length heads → AreChains less heads_2 (without s cell chain) (with_head cell None head)
  chained_less there = record {
    few = omega (arith, ok.few, length-linked_out cell prev next none links);
    linked = λ t. less_linked t (nat_eq s t) refl;
    first = λ t. less_first there t (nat_eq s t) refl;
    members = λ t v. less_members t v (nat_eq s t) (nat_eq cell v) refl refl;
    below = λ v h. less_below v (nat_eq cell v) refl (omega (arith, h, length-linked_out cell prev next none links));
  }
