-- Values of which one takes the place of another, cell by cell.
use Rattle.std.proofs.Common.{◌≡◌, ℕ, zero, suc, ◌<◌, Bool, true, false, cond, nat_eq, List, [], ◌∷◌, ◌++◌, map, length, get_or, set, refl, ap, sym, ◌∙◌, arith}
use Rattle.std.specs.Prelude.{Option, Some, None}
use Rattle.std.proofs.lemmas.List.{get_or-set_same, get_or-set_other, length-set}
use Rattle.std.proofs.lemmas.Bool.{eqb-true, eqb-false}
use Rattle.ir_store.specs.declared.operation.Value.{Value}
use Rattle.ir_store.specs.BodyOps.{same_value, replace_value}
use Rattle.linked_lists.specs.Ids.{times}
use Rattle.linked_lists.specs.Chains.{once_if, cell_or_none, cut}
use Rattle.ir_store.specs.ChainedValues.{has_value, cells_with}
use Rattle.ir_store.specs.declared.operation.Value.TheVariants.{Undefined}
use Rattle.linked_lists.proofs.Chaining.{eq_self}
use Rattle.linked_lists.proofs.Linking.{first_there}
use Rattle.ir_store.proofs.Seeking.{same_is}

-- how many of some values are one value
abbrev pub value_count : Value → List Value → ℕ
value_count v [] = 0
value_count v (x ∷ xs) = cond (same_value v x) (suc (value_count v xs)) (value_count v xs)

-- a cell that has the value, written with another
pub record CellWritten (from to : Value) (xs : List Value) (cell : ℕ) : Type 0 where
  pub within : cell < length xs
  pub kept : map (replace_value from to) (set xs cell to) ≡ map (replace_value from to) xs
  pub fewer : same_value from to ≡ false → value_count from (set xs cell to) < value_count from xs

to_is : (from to : Value) → replace_value from to to ≡ to
to_is from to = go (same_value from to)
  where
    go : (b : Bool) → cond b to to ≡ to
    go true = refl
    go false = refl

pub cell_written : (from to : Value) (xs : List Value) (cell : ℕ) → has_value from xs cell ≡ true → CellWritten from to xs cell
cell_written from to [] cell h = cc
cell_written from to (x ∷ xs) zero h = record {
  within = omega arith;
  kept =
      let e : replace_value from to to ≡ replace_value from to x = rw (to_is from to, h) refl in
      ap (λ y. y ∷ map (replace_value from to) xs) e;
  fewer = λ n. rw (n, h) (omega arith);
}
cell_written from to (x ∷ xs) (suc cell) h =
    let r = cell_written from to xs cell h in
    record {
      within = omega (arith, r.within);
      kept = ap (λ ys. replace_value from to x ∷ ys) r.kept;
      fewer = λ n. more (same_value from x) (r.fewer n);
    }
  where
    more : (b : Bool) {m n : ℕ} → m < n → cond b (suc m) m < cond b (suc n) n
    more true k = omega (arith, k)
    more false k = k

-- where no cell has the value there is nothing to do
pub none_left : (from to : Value) (xs : List Value) → ((c : ℕ) → has_value from xs c ≡ false) → xs ≡ map (replace_value from to) xs
none_left from to [] h = refl
none_left from to (x ∷ xs) h =
    let e : same_value from x ≡ false = h zero in
    rw e (ap (λ ys. x ∷ ys) (none_left from to xs (λ c. h (suc c))))

-- a value in the place of itself
pub same_kept : (from to : Value) (xs : List Value) → same_value from to ≡ true → xs ≡ map (replace_value from to) xs
same_kept from to [] e = refl
same_kept from to (x ∷ xs) e =
    let r : x ≡ replace_value from to x = go (same_value from x) refl in
    rw (← r) (ap (λ ys. x ∷ ys) (same_kept from to xs e))
  where
    go : (b : Bool) → same_value from x ≡ b → x ≡ cond b to x
    go true f = sym (same_is from x f) ∙ same_is from to e
    go false f = refl

-- the first of some cells is among them
pub first_among : (c : ℕ) (cells : List ℕ) → cell_or_none cells ≡ Some c → 0 < times c cells
first_among c [] e = absurd (cc e)
first_among c (x ∷ cells) e = let d : x ≡ c = cc e in rw d (first_there c cells)

pub none_among : (c : ℕ) (cells : List ℕ) → cell_or_none cells ≡ None → times c cells ≡ 0
none_among c [] e = refl
none_among c (x ∷ cells) e = absurd (cc e)

pub is_once : (b : Bool) → 0 < once_if b → b ≡ true
is_once true h = refl
is_once false h = absurd (omega (arith, h))

pub is_never : (b : Bool) → 0 ≡ once_if b → b ≡ false
is_never true h = absurd (omega (arith, h))
is_never false h = refl

-- a cell that has a value
pub value_is : (v : Value) (zs : List Value) (c : ℕ) → has_value v zs c ≡ true → get_or zs c Undefined ≡ v
value_is v [] c e = absurd (cc e)
value_is v (z ∷ zs) zero e = sym (same_is v z e)
value_is v (z ∷ zs) (suc c) e = value_is v zs c e

-- the one after the first of some cells is the first of the others
pub next_after : (c : ℕ) (cells : List ℕ) (next : Option ℕ) → cell_or_none cells ≡ Some c → ((xs ys : List ℕ) → cells ≡ xs ++ c ∷ ys → next ≡ cell_or_none ys) → next ≡ cell_or_none (cut c cells)
next_after c [] next e f = absurd (cc e)
next_after c (x ∷ cells) next e f =
    let d : x ≡ c = cc e in
    let t : nat_eq x c ≡ true = ap (λ w. nat_eq w c) d ∙ eq_self c in
    f [] cells (ap (λ y. y ∷ cells) d) ∙ sym (ap (λ b. cell_or_none (cond b cells (x ∷ cut c cells))) t)

-- ---- a cell that gets another value leaves the cells of the one that it had

module _ (v to : Value) (xs : List Value) (cell : ℕ) (was : has_value v xs cell ≡ true) (other : same_value v to ≡ false) where
  elsewhere : (d : ℕ) → (d ≡ cell → ⊥) → has_value v (set xs cell to) d ≡ has_value v xs d
  elsewhere d n = go xs cell d n
    where
      go : (zs : List Value) (c e : ℕ) → (e ≡ c → ⊥) → has_value v (set zs c to) e ≡ has_value v zs e
      go [] c e n = refl
      go (z ∷ zs) zero zero n = absurd (n refl)
      go (z ∷ zs) zero (suc e) n = refl
      go (z ∷ zs) (suc c) zero n = refl
      go (z ∷ zs) (suc c) (suc e) n = go zs c e (λ s. n (ap suc s))

  here : has_value v (set xs cell to) cell ≡ false
  here = go xs cell was
    where
      go : (zs : List Value) (c : ℕ) → has_value v zs c ≡ true → has_value v (set zs c to) c ≡ false
      go [] c h = absurd (cc h)
      go (z ∷ zs) zero h = other
      go (z ∷ zs) (suc c) h = go zs c h

  -- cells without the written one
  without_it : (cells : List ℕ) → times cell cells ≡ 0 → cells_with v (set xs cell to) cells ≡ cells_with v xs cells
  without_it [] e = refl
  without_it (x ∷ cells) e = go (nat_eq x cell) refl e (without_it cells)
    where
      go : (b : Bool) → nat_eq x cell ≡ b → cond b (suc (times cell cells)) (times cell cells) ≡ 0 →
          (times cell cells ≡ 0 → cells_with v (set xs cell to) cells ≡ cells_with v xs cells) → cells_with v (set xs cell to) (x ∷ cells) ≡ cells_with v xs (x ∷ cells)
      go true t n r = absurd (omega (arith, n))
      go false t n r =
          ap (λ b. cond b (x ∷ cells_with v (set xs cell to) cells) (cells_with v (set xs cell to) cells)) (elsewhere x (eqb-false x cell t))
          ∙ ap (λ zs. cond (has_value v xs x) (x ∷ zs) zs) (r n)

  -- the written one left out
  left_out : (cells : List ℕ) → times cell cells ≡ 1 → cells_with v (set xs cell to) (cut cell cells) ≡ cut cell (cells_with v xs cells)
  left_out [] e = absurd (omega (arith, e))
  left_out (x ∷ cells) e = go (nat_eq x cell) refl e (left_out cells)
    where
      keep : (b : Bool) → nat_eq x cell ≡ false → cond b (x ∷ cut cell (cells_with v xs cells)) (cut cell (cells_with v xs cells)) ≡ cut cell (cond b (x ∷ cells_with v xs cells) (cells_with v xs cells))
      keep true t = sym (ap (λ s. cond s (cells_with v xs cells) (x ∷ cut cell (cells_with v xs cells))) t)
      keep false t = refl

      go : (b : Bool) → nat_eq x cell ≡ b → cond b (suc (times cell cells)) (times cell cells) ≡ 1 →
          (times cell cells ≡ 1 → cells_with v (set xs cell to) (cut cell cells) ≡ cut cell (cells_with v xs cells)) →
          cells_with v (set xs cell to) (cond b cells (x ∷ cut cell cells)) ≡ cut cell (cells_with v xs (x ∷ cells))
      go true t n r =
          let d : x ≡ cell = eqb-true x cell t in
          let h : has_value v xs x ≡ true = ap (has_value v xs) d ∙ was in
          without_it cells (omega (arith, n))
          ∙ sym (ap (λ b. cut cell (cond b (x ∷ cells_with v xs cells) (cells_with v xs cells))) h ∙ ap (λ b. cond b (cells_with v xs cells) (x ∷ cut cell (cells_with v xs cells))) t)
      go false t n r =
          ap (λ b. cond b (x ∷ cells_with v (set xs cell to) (cut cell cells)) (cells_with v (set xs cell to) (cut cell cells))) (elsewhere x (eqb-false x cell t))
          ∙ (ap (λ zs. cond (has_value v xs x) (x ∷ zs) zs) (r n) ∙ keep (has_value v xs x) t)

  -- in the chains where the cell is in another one, or before the same one
  pub moved : (chains : List (List ℕ)) (s t : ℕ) → s < length chains → t < length chains → times cell (get_or chains s []) ≡ 1 →
      cells_with v (set xs cell to) (get_or (set (set chains s (cut cell (get_or chains s []))) t (cell ∷ get_or (set chains s (cut cell (get_or chains s []))) t [])) s []) ≡ cut cell (cells_with v xs (get_or chains s []))
  moved chains s t s_in t_in once = go (nat_eq s t) refl
    where
      out : List (List ℕ)
      out = set chains s (cut cell (get_or chains s []))

      at_s : get_or out s [] ≡ cut cell (get_or chains s [])
      at_s = get_or-set_same chains s (cut cell (get_or chains s [])) [] s_in

      all_in : t < length out
      all_in = omega (arith, t_in, length-set chains s (cut cell (get_or chains s [])))

      go : (b : Bool) → nat_eq s t ≡ b → cells_with v (set xs cell to) (get_or (set out t (cell ∷ get_or out t [])) s []) ≡ cut cell (cells_with v xs (get_or chains s []))
      go true e =
          let d : s ≡ t = eqb-true s t e in
          let q : get_or (set out t (cell ∷ get_or out t [])) s [] ≡ cell ∷ get_or out s [] =
          ap (λ u. get_or (set out t (cell ∷ get_or out t [])) u []) d ∙ (get_or-set_same out t (cell ∷ get_or out t []) [] all_in ∙ ap (λ u. cell ∷ get_or out u []) (sym d)) in
          ap (cells_with v (set xs cell to)) (q ∙ ap (λ zs. cell ∷ zs) at_s)
          ∙ (ap (λ b. cond b (cell ∷ cells_with v (set xs cell to) (cut cell (get_or chains s []))) (cells_with v (set xs cell to) (cut cell (get_or chains s [])))) here ∙ left_out (get_or chains s []) once)
      go false e =
          ap (cells_with v (set xs cell to)) (get_or-set_other out t s (cell ∷ get_or out t []) [] (eqb-false s t e) ∙ at_s)
          ∙ left_out (get_or chains s []) once
