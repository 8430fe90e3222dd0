-- Chains after a call.
use Rattle.std.proofs.Common.{◌≡◌, ℕ, zero, suc, ◌+◌, ◌<◌, ◌≤◌, Bool, true, false, cond, nat_eq, List, [], ◌∷◌, ◌++◌, map, length, replicate, get_or, set, refl, ap, sym, ◌∙◌, subst, arith}
use Rattle.std.specs.Prelude.{Option, Some, None, max, Contains}
use Rattle.std.proofs.lemmas.List.{length-set, length-map, get_or_default}
use Rattle.std.proofs.lemmas.Bool.{eqb-true}
use Rattle.linked_lists.specs.declared.links.Link.{Link}
use Rattle.linked_lists.specs.Ids.{times}
use Rattle.linked_lists.specs.Links.{none, new_link, next_at, prev_at, first_of, IsLinked, linked_in, linked_out}
use Rattle.linked_lists.specs.Chains.{AreChains, HasChains, IsAlone, has_head, once_if, with_prefix, with_head, cut, without, cell_or_none, cell_unless_none, walk_on, chain_in, chains_in}
use Rattle.linked_lists.proofs.IdLemmas.{contained_times, times-append, length-put_at}
use Rattle.linked_lists.proofs.Linking.{linked_back, length-linked_in}
use Rattle.linked_lists.proofs.Chaining.{eq_self, chain_bare, chained_more, chained_less}
use Rattle.linked_lists.proofs.ChainLists.{within, has_chains, chain_at, one_changed}

-- what is so of the chains after a call
pub record AreSeen (links : List Link) (heads : List ℕ) (chains : List (List ℕ)) : Type 0 where
  pub has : HasChains links heads
  pub seen : chains_in links heads ≡ chains

-- ---- a cell put before the others

headless : (links : List Link) (heads : List ℕ) (h : HasChains links heads) (cell : ℕ) → IsAlone cell (chains_in links heads) → h.head cell ≡ None
headless links heads h cell alone = go (h.head cell) refl
  where
    go : (o : Option ℕ) → h.head cell ≡ o → h.head cell ≡ None
    go None e = e
    go (Some t) e =
        let n : times cell (chain_in links heads t) ≡ 0 = rw (chain_at links heads t) at (alone t) in
        let m : times cell (chain_in links heads t) ≡ 1 = h.ok.members t cell ∙ (ap (λ o. once_if (has_head o t)) e ∙ ap once_if (eq_self t)) in
        absurd (omega (arith, n, m))

pub put_seen : (links ms : List Link) (heads : List ℕ) (s cell first : ℕ) → HasChains links heads → s < length (chains_in links heads) → cell ≤ length links → cell < none → IsAlone cell (chains_in links heads) →
    first ≡ get_or heads s first → ms ≡ linked_in cell none first links → AreSeen ms (set heads s cell) (set (chains_in links heads) s (cell ∷ get_or (chains_in links heads) s []))
put_seen links ms heads s cell first h there room few alone e m =
    let s_in : s < length heads = omega (arith, there, length-map heads (walk_on links (length links))) in
    let f : get_or heads s none ≡ first = get_or_default heads s none first s_in ∙ sym e in
    let links_are : linked_in cell none (get_or heads s none) links ≡ ms = ap (λ q. linked_in cell none q links) f ∙ sym m in
    let ok = subst (λ ls. AreChains ls (set heads s cell) (with_prefix s cell (chain_in links heads)) (with_head cell (Some s) h.head)) links_are
    (chained_more links heads (chain_in links heads) h.head h.ok s cell room few s_in (headless links heads h cell alone)) in
    record {
      has = has_chains ms (set heads s cell) (with_prefix s cell (chain_in links heads)) (with_head cell (Some s) h.head) ok;
      seen =
          one_changed links ms heads (set heads s cell) (with_prefix s cell (chain_in links heads)) (with_head cell (Some s) h.head) ok (length-set heads s cell) s (cell ∷ chain_in links heads s) s_in (λ t. same t (nat_eq s t) refl)
          ∙ ap (λ xs. set (chains_in links heads) s (cell ∷ xs)) (sym (chain_at links heads s));
    }
  where
    same : (t : ℕ) (b : Bool) → nat_eq s t ≡ b → cond b (cell ∷ chain_in links heads t) (chain_in links heads t) ≡ cond b (cell ∷ chain_in links heads s) (chain_in links heads t)
    same t true d = ap (λ u. cell ∷ chain_in links heads u) (sym (eqb-true s t d))
    same t false d = refl

pub cells_put : (links ms : List Link) (cell first : ℕ) → cell ≤ length links → ms ≡ linked_in cell none first links → length ms ≡ max (length links) (cell + 1)
cells_put links ms cell first room m = ap length m ∙ (length-linked_in cell none first links ∙ length-put_at cell (new_link none first) links room)

-- ---- a cell taken out

-- a head that has a cell is one of the heads
head_in : (f : ℕ → List ℕ) (hs : List ℕ) (s cell : ℕ) → Contains (get_or (map f hs) s []) cell → s < length hs
head_in f [] s cell (k, l, e) = absurd (omega (arith, l))
head_in f (h ∷ hs) zero cell c = omega arith
head_in f (h ∷ hs) (suc s) cell c = omega (arith, head_in f hs s cell c)

head_of : (links : List Link) (heads : List ℕ) (h : HasChains links heads) (s cell : ℕ) → Contains (get_or (chains_in links heads) s []) cell → h.head cell ≡ Some s
head_of links heads h s cell c = go (h.head cell) refl
  where
    there : 0 < once_if (has_head (h.head cell) s)
    there =
        let d : Contains (chain_in links heads s) cell = rw (chain_at links heads s) at c in
        omega (arith, contained_times (chain_in links heads s) cell d, h.ok.members s cell)

    is_s : (t : ℕ) (b : Bool) → nat_eq t s ≡ b → 0 < once_if b → Some t ≡ Some s
    is_s t true e k = ap (λ u. Some u) (eqb-true t s e)
    is_s t false e k = absurd (omega (arith, k))

    go : (o : Option ℕ) → h.head cell ≡ o → h.head cell ≡ Some s
    go None e = absurd (omega (arith, there, ap (λ o. once_if (has_head o s)) e))
    go (Some t) e = e ∙ is_s t (nat_eq t s) refl (omega (arith, there, ap (λ o. once_if (has_head o s)) e))

pub cell_in : (links : List Link) (heads : List ℕ) (s cell : ℕ) → HasChains links heads → Contains (get_or (chains_in links heads) s []) cell → cell < length links
cell_in links heads s cell h c =
    let d : Contains (chain_in links heads s) cell = rw (chain_at links heads s) at c in
    within links heads (chain_in links heads) h.head h.ok s cell (contained_times (chain_in links heads s) cell d)

pub is_head : (links : List Link) (heads : List ℕ) (s cell : ℕ) → Contains (get_or (chains_in links heads) s []) cell → s < length heads
is_head links heads s cell c = head_in (walk_on links (length links)) heads s cell c

pub out_seen : (links ms : List Link) (heads : List ℕ) (s cell prev next first kept : ℕ) → HasChains links heads → Contains (get_or (chains_in links heads) s []) cell →
    prev ≡ prev_at links cell → next ≡ next_at links cell → kept ≡ get_or heads s kept → first ≡ cond (nat_eq prev none) next kept → ms ≡ linked_out cell prev next none links →
    AreSeen ms (set heads s first) (set (chains_in links heads) s (cut cell (get_or (chains_in links heads) s [])))
out_seen links ms heads s cell prev next first kept h c e_prev e_next e_kept e_first m =
    let s_in : s < length heads = is_head links heads s cell c in
    let k : get_or heads s none ≡ kept = get_or_default heads s none kept s_in ∙ sym e_kept in
    let f : first ≡ cond (nat_eq (prev_at links cell) none) (next_at links cell) (get_or heads s none) = rw (← e_prev, ← e_next, k) e_first in
    let links_are : ms ≡ linked_out cell (prev_at links cell) (next_at links cell) none links = rw (← e_prev, ← e_next) m in
    let ok : AreChains ms (set heads s first) (without s cell (chain_in links heads)) (with_head cell None h.head) = rw (links_are, f) (chained_less links heads (chain_in links heads) h.head h.ok s cell (head_of links heads h s cell c) s_in) in
    record {
      has = has_chains ms (set heads s first) (without s cell (chain_in links heads)) (with_head cell None h.head) ok;
      seen =
          one_changed links ms heads (set heads s first) (without s cell (chain_in links heads)) (with_head cell None h.head) ok (length-set heads s first) s (cut cell (chain_in links heads s)) s_in (λ t. same t (nat_eq s t) refl)
          ∙ ap (λ xs. set (chains_in links heads) s (cut cell xs)) (sym (chain_at links heads s));
    }
  where
    same : (t : ℕ) (b : Bool) → nat_eq s t ≡ b → cond b (cut cell (chain_in links heads t)) (chain_in links heads t) ≡ cond b (cut cell (chain_in links heads s)) (chain_in links heads t)
    same t true d = ap (λ u. cut cell (chain_in links heads u)) (sym (eqb-true s t d))
    same t false d = refl

-- ---- cells that are read

pub first_read : (links : List Link) (heads : List ℕ) (s : ℕ) → HasChains links heads → cell_unless_none (get_or heads s none) ≡ cell_or_none (get_or (chains_in links heads) s [])
first_read links heads s h =
    ap cell_unless_none (h.ok.first s) ∙ (real (chain_in links heads s) (chain_bare links heads (chain_in links heads) h.head h.ok s) ∙ ap cell_or_none (sym (chain_at links heads s)))
  where
    real : (xs : List ℕ) → times none xs ≡ 0 → cell_unless_none (first_of xs none) ≡ cell_or_none xs
    real [] e = refl
    real (x ∷ xs) e = go (nat_eq x none) e
      where
        go : (b : Bool) → cond b (suc (times none xs)) (times none xs) ≡ 0 → cond b None (Some x) ≡ Some x
        go true e = absurd (omega (arith, e))
        go false e = refl

pub next_read : (links : List Link) (heads : List ℕ) (s cell : ℕ) (xs ys : List ℕ) → HasChains links heads → get_or (chains_in links heads) s [] ≡ xs ++ cell ∷ ys → cell_unless_none (next_at links cell) ≡ cell_or_none ys
next_read links heads s cell xs ys h e =
    let c : chain_in links heads s ≡ xs ++ cell ∷ ys = sym (chain_at links heads s) ∙ e in
    let k : IsLinked links none (xs ++ cell ∷ ys) none = rw (← c) (h.ok.linked s) in
    let next : next_at links cell ≡ first_of ys none = ap (λ (l : Link). l.next) (linked_back links none xs (cell ∷ ys) none k).0 in
    let bare : times none (xs ++ cell ∷ ys) ≡ 0 = rw (← c) (chain_bare links heads (chain_in links heads) h.head h.ok s) in
    rw next (real ys (omega (arith, bare, times-append none xs (cell ∷ ys), rest ys)))
  where
    rest : (ys : List ℕ) → times none ys ≤ times none (cell ∷ ys)
    rest ys = go (nat_eq cell none)
      where
        go : (b : Bool) → times none ys ≤ cond b (suc (times none ys)) (times none ys)
        go true = omega arith
        go false = omega arith

    real : (ys : List ℕ) → times none ys ≡ 0 → cell_unless_none (first_of ys none) ≡ cell_or_none ys
    real [] e = refl
    real (y ∷ ys) e = go (nat_eq y none) e
      where
        go : (b : Bool) → cond b (suc (times none ys)) (times none ys) ≡ 0 → cond b None (Some y) ≡ Some y
        go true e = absurd (omega (arith, e))
        go false e = refl

-- ---- no cells

pub none_chained : (heads : List ℕ) → ((s : ℕ) → get_or heads s none ≡ none) → HasChains [] heads
unfolding walk_on
none_chained heads each = record {
  head = λ v. None;
  ok = record {
    few = omega arith;
    linked = λ s. tt;
    first = λ s. each s;
    members = λ s v. refl;
    below = λ v h. refl;
  };
}

pub none_in : (n : ℕ) → map (walk_on [] 0) (replicate n none) ≡ replicate n []
unfolding walk_on
none_in zero = refl
none_in (suc n) = ap (λ cs. [] ∷ cs) (none_in n)

pub none_first : (n s : ℕ) → get_or (replicate n none) s none ≡ none
none_first zero s = refl
none_first (suc n) zero = refl
none_first (suc n) (suc s) = none_first n s
