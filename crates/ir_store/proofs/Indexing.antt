-- Values whose cells are in the chains of their heads: what a change of one value does.
use Rattle.std.proofs.Common.{◌≡◌, ℕ, zero, suc, ◌+◌, ◌<◌, ◌≤◌, ◌^◌, Bool, true, false, cond, nat_eq, List, [], ◌∷◌, ◌++◌, length, take, get_or, set, refl, ap, sym, ◌∙◌, arith, length-append, length-take}
use Rattle.std.specs.Prelude.{Option, Some, None, Contains, max}
use Rattle.std.proofs.lemmas.List.{get_or-set_same, get_or-set_other, length-set}
use Rattle.std.proofs.lemmas.Bool.{eqb-true, eqb-false}
use Rattle.ir_store.specs.declared.operation.Value.{Value}
use Rattle.linked_lists.specs.Ids.{times}
use Rattle.linked_lists.specs.Chains.{ChainTable, has_head, once_if, cut, with_head, IsAlone}
use Rattle.ir_store.specs.ChainedValues.{AreIndexed, head_of, head_at}
use Rattle.linked_lists.proofs.IdLemmas.{times_contained}
use Rattle.linked_lists.proofs.Chaining.{eq_self, unlike, times-cut}

-- the cells of each head are those that have it
pub AreMembers : List (List ℕ) → (ℕ → Option ℕ) → Type 0
AreMembers chains head = (s v : ℕ) → times v (get_or chains s []) ≡ once_if (has_head (head v) s)

-- ---- a cell taken out of the chain of its head

pub out_members : (chains : List (List ℕ)) (head : ℕ → Option ℕ) (s cell : ℕ) → s < length chains → head cell ≡ Some s → AreMembers chains head →
    AreMembers (set chains s (cut cell (get_or chains s []))) (with_head cell None head)
unfolding AreMembers
out_members chains head s cell there e m t v = go (nat_eq s t) (nat_eq cell v) refl refl
  where
    here : times cell (get_or chains s []) ≡ 1
    here = m s cell ∙ (ap (λ o. once_if (has_head o s)) e ∙ ap once_if (eq_self s))

    go : (b c : Bool) → nat_eq s t ≡ b → nat_eq cell v ≡ c → times v (get_or (set chains s (cut cell (get_or chains s []))) t []) ≡ once_if (has_head (cond c None (head v)) t)
    go true true d f =
        let one : once_if (nat_eq cell v) ≡ 1 = ap once_if f in
        let same : times v (get_or chains s []) ≡ 1 = rw (← eqb-true cell v f) here in
        rw (← eqb-true s t d, get_or-set_same chains s (cut cell (get_or chains s [])) [] there) (omega (arith, times-cut cell v (get_or chains s []) (omega (arith, here)), one, same))
    go true false d f =
        let other : once_if (nat_eq cell v) ≡ 0 = ap once_if f in
        rw (← eqb-true s t d, get_or-set_same chains s (cut cell (get_or chains s [])) [] there) (omega (arith, times-cut cell v (get_or chains s []) (omega (arith, here)), other, m s v))
    go false true d f =
        let none : times v (get_or chains t []) ≡ 0 = rw (← eqb-true cell v f) (m t cell ∙ (ap (λ o. once_if (has_head o t)) e ∙ ap once_if d)) in
        ap (times v) (get_or-set_other chains s t (cut cell (get_or chains s [])) [] (λ r. eqb-false s t d (sym r))) ∙ none
    go false false d f = ap (times v) (get_or-set_other chains s t (cut cell (get_or chains s [])) [] (λ r. eqb-false s t d (sym r))) ∙ m t v

-- ---- a cell put into a chain

pub in_members : (chains : List (List ℕ)) (head : ℕ → Option ℕ) (s cell : ℕ) → s < length chains → IsAlone cell chains → AreMembers chains head →
    AreMembers (set chains s (cell ∷ get_or chains s [])) (with_head cell (Some s) head)
unfolding AreMembers
in_members chains head s cell there alone m t v = go (nat_eq s t) (nat_eq cell v) refl refl
  where
    go : (b c : Bool) → nat_eq s t ≡ b → nat_eq cell v ≡ c → times v (get_or (set chains s (cell ∷ get_or chains s [])) t []) ≡ once_if (has_head (cond c (Some s) (head v)) t)
    go true true d f =
        let n : times v (get_or chains s []) ≡ 0 = rw (← eqb-true cell v f) (alone s) in
        let more : times v (cell ∷ get_or chains s []) ≡ 1 = rw (f, n) refl in
        rw (← eqb-true s t d) (ap (times v) (get_or-set_same chains s (cell ∷ get_or chains s []) [] there) ∙ (more ∙ sym (ap once_if (eq_self s))))
    go true false d f =
        let more : times v (cell ∷ get_or chains s []) ≡ times v (get_or chains s []) = rw f refl in
        rw (← eqb-true s t d) (ap (times v) (get_or-set_same chains s (cell ∷ get_or chains s []) [] there) ∙ (more ∙ m s v))
    go false true d f =
        let n : times v (get_or chains t []) ≡ 0 = rw (← eqb-true cell v f) (alone t) in
        let not_s : once_if (nat_eq s t) ≡ 0 = ap once_if d in
        ap (times v) (get_or-set_other chains s t (cell ∷ get_or chains s []) [] (λ r. eqb-false s t d (sym r))) ∙ (n ∙ sym not_s)
    go false false d f = ap (times v) (get_or-set_other chains s t (cell ∷ get_or chains s []) [] (λ r. eqb-false s t d (sym r))) ∙ m t v

pub alone_out : (chains : List (List ℕ)) (head : ℕ → Option ℕ) (cell : ℕ) → AreMembers chains (with_head cell None head) → IsAlone cell chains
unfolding AreMembers
alone_out chains head cell m s = m s cell ∙ rw (eq_self cell) refl

pub alone_none : (chains : List (List ℕ)) (head : ℕ → Option ℕ) (cell : ℕ) → head cell ≡ None → AreMembers chains head → IsAlone cell chains
unfolding AreMembers
alone_none chains head cell e m s = m s cell ∙ ap (λ o. once_if (has_head o s)) e

-- where heads are told otherwise
members_as : (chains : List (List ℕ)) (head heads : ℕ → Option ℕ) → ((v : ℕ) → head v ≡ heads v) → AreMembers chains head → AreMembers chains heads
unfolding AreMembers
members_as chains head heads same m s v = m s v ∙ ap (λ o. once_if (has_head o s)) (same v)

as_members : (chains : List (List ℕ)) (head : ℕ → Option ℕ) → AreMembers chains head → (s v : ℕ) → times v (get_or chains s []) ≡ once_if (has_head (head v) s)
unfolding AreMembers
as_members chains head m = m

-- ---- the heads of values

eq_suc : (a b : ℕ) → nat_eq (suc a) (suc b) ≡ nat_eq a b
eq_suc a b = go (nat_eq a b) refl
  where
    go : (c : Bool) → nat_eq a b ≡ c → nat_eq (suc a) (suc b) ≡ c
    go true e = rw (eqb-true a b e) (eq_self (suc b))
    go false e = unlike (suc a) (suc b) (λ d. eqb-false a b e (omega (arith, d)))

-- one more value after the others
pub heads_more : (n : ℕ) (x : Value) (ws : List Value) (v : ℕ) → head_at n (ws ++ x ∷ []) v ≡ with_head (length ws) (Some (head_of n x)) (head_at n ws) v
heads_more n x [] zero = refl
heads_more n x [] (suc v) = rw (unlike 0 (suc v) (λ d. omega (arith, d))) refl
heads_more n x (w ∷ ws) zero = rw (unlike (suc (length ws)) 0 (λ d. omega (arith, d))) refl
heads_more n x (w ∷ ws) (suc v) = rw (eq_suc (length ws) v) (heads_more n x ws v)

-- past the end there is no value
pub heads_end : (n : ℕ) (ws : List Value) → head_at n ws (length ws) ≡ None
heads_end n [] = refl
heads_end n (w ∷ ws) = heads_end n ws

-- another value in the place of one
pub heads_set : (n : ℕ) (x : Value) (ws : List Value) (cell v : ℕ) → cell < length ws → head_at n (set ws cell x) v ≡ with_head cell (Some (head_of n x)) (head_at n ws) v
heads_set n x [] cell v h = absurd (omega (arith, h))
heads_set n x (w ∷ ws) zero zero h = refl
heads_set n x (w ∷ ws) zero (suc v) h = rw (unlike 0 (suc v) (λ d. omega (arith, d))) refl
heads_set n x (w ∷ ws) (suc cell) zero h = rw (unlike (suc cell) 0 (λ d. omega (arith, d))) refl
heads_set n x (w ∷ ws) (suc cell) (suc v) h = rw (eq_suc cell v) (heads_set n x ws cell v (omega (arith, h)))

-- the value of a cell
pub heads_here : (n : ℕ) (ws : List Value) (cell : ℕ) (x : Value) → cell < length ws → x ≡ get_or ws cell x → head_at n ws cell ≡ Some (head_of n x)
heads_here n [] cell x h e = absurd (omega (arith, h))
heads_here n (w ∷ ws) zero x h e = ap (λ y. Some (head_of n y)) (sym e)
heads_here n (w ∷ ws) (suc cell) x h e = heads_here n ws cell x (omega (arith, h)) e

-- putting one in after it was taken out is putting it in
pub with_head_twice : (cell s : ℕ) (head : ℕ → Option ℕ) (v : ℕ) → with_head cell (Some s) (with_head cell None head) v ≡ with_head cell (Some s) head v
with_head_twice cell s head v = go (nat_eq cell v)
  where
    go : (b : Bool) → cond b (Some s) (cond b None (head v)) ≡ cond b (Some s) (head v)
    go true = refl
    go false = refl

-- taking one out that was put in where there was none
pub without_head : (cell s : ℕ) (head : ℕ → Option ℕ) (v : ℕ) → head cell ≡ None → with_head cell None (with_head cell (Some s) head) v ≡ head v
without_head cell s head v e = go (nat_eq cell v) refl
  where
    go : (b : Bool) → nat_eq cell v ≡ b → cond b None (cond b (Some s) (head v)) ≡ head v
    go true d = rw (← eqb-true cell v d) (sym e)
    go false d = refl

-- the last value taken out
pub heads_less : (n k : ℕ) (ws : List Value) (v : ℕ) → k + 1 ≡ length ws → head_at n (take k ws) v ≡ with_head k None (head_at n ws) v
heads_less n zero [] v e = absurd (omega (arith, e))
heads_less n zero (w ∷ []) zero e = refl
heads_less n zero (w ∷ []) (suc v) e = rw (unlike 0 (suc v) (λ d. omega (arith, d))) refl
heads_less n zero (w ∷ x ∷ ws) v e = absurd (omega (arith, e))
heads_less n (suc k) [] v e = absurd (omega (arith, e))
heads_less n (suc k) (w ∷ ws) zero e = rw (unlike (suc k) 0 (λ d. omega (arith, d))) refl
heads_less n (suc k) (w ∷ ws) (suc v) e = rw (eq_suc k v) (heads_less n k ws v (omega (arith, e)))

-- ---- values that are indexed

module _ (values : List Value) (table : ChainTable) (ok : AreIndexed values table) where
  abbrev heads : ℕ → Option ℕ
  heads = head_at (length table.chains) values

  members : AreMembers table.chains heads
  unfolding AreMembers
  members = ok.members

  -- a value's cell is in the chain of its head
  pub there_in : (cell s : ℕ) (x : Value) → cell < length values → x ≡ get_or values cell x → s ≡ head_of (length table.chains) x → Contains (get_or table.chains s []) cell
  there_in cell s x h e d =
      let here : heads cell ≡ Some s = heads_here (length table.chains) values cell x h e ∙ ap (λ t. Some t) (sym d) in
      let one : times cell (get_or table.chains s []) ≡ 1 = ok.members s cell ∙ (ap (λ o. once_if (has_head o s)) here ∙ ap once_if (eq_self s)) in
      times_contained (get_or table.chains s []) cell (omega (arith, one))

  out_of : (cell s : ℕ) (x : Value) → cell < length values → x ≡ get_or values cell x → s ≡ head_of (length table.chains) x → s < length table.chains →
      AreMembers (set table.chains s (cut cell (get_or table.chains s []))) (with_head cell None heads)
  out_of cell s x h e d within =
      out_members table.chains heads s cell within (heads_here (length table.chains) values cell x h e ∙ ap (λ t. Some t) (sym d)) members

  -- once it is taken out it is in none
  pub alone_after : (cell s : ℕ) (x : Value) (chains : List (List ℕ)) → cell < length values → x ≡ get_or values cell x → s ≡ head_of (length table.chains) x → s < length table.chains →
      chains ≡ set table.chains s (cut cell (get_or table.chains s [])) → IsAlone cell chains
  alone_after cell s x chains h e d within c = rw c (alone_out (set table.chains s (cut cell (get_or table.chains s []))) heads cell (out_of cell s x h e d within))

  -- a position that has no value yet is in none
  pub alone_end : (cell : ℕ) → cell ≡ length values → IsAlone cell table.chains
  alone_end cell e = alone_none table.chains heads cell (rw e (heads_end (length table.chains) values)) members

  pub indexed_set : (t1 t2 : ChainTable) (cell s t : ℕ) (x y : Value) → cell < length values → x ≡ get_or values cell x → s ≡ head_of (length table.chains) x → s < length table.chains →
      t ≡ head_of (length table.chains) y → t < length table.chains → t1.chains ≡ set table.chains s (cut cell (get_or table.chains s [])) →
      t2.chains ≡ set t1.chains t (cell ∷ get_or t1.chains t []) → t1.cells ≡ table.cells → t2.cells ≡ max t1.cells (cell + 1) → t1.room ≡ table.room → t2.room ≡ t1.room → AreIndexed (set values cell y) t2
  indexed_set t1 t2 cell s t x y h e d within f within_2 c1 c2 n1 n2 r1 r2 =
      let size_1 : length t1.chains ≡ length table.chains = ap length c1 ∙ length-set table.chains s (cut cell (get_or table.chains s [])) in
      let size_2 : length t2.chains ≡ length table.chains = (ap length c2 ∙ length-set t1.chains t (cell ∷ get_or t1.chains t [])) ∙ size_1 in
      let out : AreMembers t1.chains (with_head cell None heads) = rw c1 (out_of cell s x h e d within) in
      let inside : AreMembers t2.chains (with_head cell (Some t) (with_head cell None heads)) =
      rw c2 (in_members t1.chains (with_head cell None heads) t cell (omega (arith, within_2, size_1)) (alone_out t1.chains heads cell out) out) in
      let same : (v : ℕ) → with_head cell (Some t) (with_head cell None heads) v ≡ head_at (length t2.chains) (set values cell y) v =
      λ v. with_head_twice cell t heads v ∙ rw (size_2, f) (sym (heads_set (length table.chains) y values cell v h)) in
      let n : length (set values cell y) ≡ length values = length-set values cell y in
      record {
        few = omega (arith, n, ok.few);
        enough = omega (arith, n, size_2, ok.enough);
        known = omega (arith, n, n1, n2, ok.known);
        small = omega (arith, n, r1, r2, ok.small);
        members = as_members t2.chains (head_at (length t2.chains) (set values cell y)) (members_as t2.chains (with_head cell (Some t) (with_head cell None heads)) (head_at (length t2.chains) (set values cell y)) same inside);
      }

  pub indexed_more : (t1 : ChainTable) (cell s : ℕ) (y : Value) → cell ≡ length values → s ≡ head_of (length table.chains) y → s < length table.chains →
      t1.chains ≡ set table.chains s (cell ∷ get_or table.chains s []) → t1.cells ≡ max table.cells (cell + 1) → t1.room ≡ table.room →
      length values + 1 ≤ length table.chains → length values + 1 ≤ table.room → length values + 1 < 2 ^ 32 → AreIndexed (values ++ y ∷ []) t1
  indexed_more t1 cell s y e f within c1 n1 r1 enough small few =
      let size : length t1.chains ≡ length table.chains = ap length c1 ∙ length-set table.chains s (cell ∷ get_or table.chains s []) in
      let inside : AreMembers t1.chains (with_head cell (Some s) heads) = rw c1 (in_members table.chains heads s cell within (alone_end cell e) members) in
      let same : (v : ℕ) → with_head cell (Some s) heads v ≡ head_at (length t1.chains) (values ++ y ∷ []) v =
      λ v. rw (size, e, f) (sym (heads_more (length table.chains) y values v)) in
      let n : length (values ++ y ∷ []) ≡ length values + 1 = length-append values (y ∷ []) in
      record {
        few = omega (arith, n, few);
        enough = omega (arith, n, size, enough);
        known = omega (arith, n, n1, e);
        small = omega (arith, n, r1, small);
        members = as_members t1.chains (head_at (length t1.chains) (values ++ y ∷ [])) (members_as t1.chains (with_head cell (Some s) heads) (head_at (length t1.chains) (values ++ y ∷ [])) same inside);
      }

  pub indexed_less : (t1 : ChainTable) (cell s : ℕ) (x : Value) → cell + 1 ≡ length values → x ≡ get_or values cell x → s ≡ head_of (length table.chains) x → s < length table.chains →
      t1.chains ≡ set table.chains s (cut cell (get_or table.chains s [])) → t1.cells ≡ table.cells → t1.room ≡ table.room → AreIndexed (take cell values) t1
  indexed_less t1 cell s x e here f within c1 n1 r1 =
      let size : length t1.chains ≡ length table.chains = ap length c1 ∙ length-set table.chains s (cut cell (get_or table.chains s [])) in
      let out : AreMembers t1.chains (with_head cell None heads) = rw c1 (out_of cell s x (omega (arith, e)) here f within) in
      let same : (v : ℕ) → with_head cell None heads v ≡ head_at (length t1.chains) (take cell values) v =
      λ v. rw size (sym (heads_less (length table.chains) cell values v e)) in
      let n : length (take cell values) ≤ length values = omega (arith, length-take cell values) in
      record {
        few = omega (arith, n, ok.few);
        enough = omega (arith, n, size, ok.enough);
        known = omega (arith, n, n1, ok.known);
        small = omega (arith, n, r1, ok.small);
        members = as_members t1.chains (head_at (length t1.chains) (take cell values)) (members_as t1.chains (with_head cell None heads) (head_at (length t1.chains) (take cell values)) same out);
      }
