-- Walks along a chain to the cells of one value.
use Rattle.std.proofs.Common.{◌≡◌, ℕ, suc, ◌<◌, ◌≤◌, Bool, true, false, cond, nat_eq, List, [], ◌∷◌, ◌++◌, length, get_or, refl, ap, sym, ◌∙◌, subst, arith}
use Rattle.std.specs.Prelude.{Option, Some, None, Contains, IfSome, ◌&&◌, option_map, slice_get}
use Rattle.std.proofs.lemmas.Bool.{eqb-true, eqb-false}
use Rattle.ir_store.specs.declared.operation.Value.{Value}
use Rattle.ir_store.specs.declared.operation.Value.TheVariants.{Port, Result, Undefined}
use Rattle.ir_store.specs.BodyOps.{same_value}
use Rattle.linked_lists.specs.Ids.{times}
use Rattle.linked_lists.specs.Chains.{ChainTable, has_head, once_if, cell_or_none}
use Rattle.ir_store.specs.ChainedValues.{AreIndexed, head_of, head_at, is_value, has_value, cells_with, from_cell, rest_at}
use Rattle.linked_lists.proofs.IdLemmas.{times-append, contained_times, times_contained}
use Rattle.linked_lists.proofs.Linking.{first_there}
use Rattle.linked_lists.proofs.Chaining.{eq_self, once_at_most}

-- a cell that is there, what stands before it and what stands after it
pub record FoundAt (c : ℕ) (cells : List ℕ) : Type 0 where
  pub prefix : List ℕ
  pub back : List ℕ
  pub whole : cells ≡ prefix ++ c ∷ back
  pub rest : from_cell c cells ≡ c ∷ back

pub found_at : (c : ℕ) (cells : List ℕ) → Contains cells c → FoundAt c cells
found_at c cells h = go cells (contained_times cells c h)
  where
    go : (xs : List ℕ) → 0 < times c xs → FoundAt c xs
    go [] k = absurd (omega (arith, k))
    go (x ∷ xs) k = pick (nat_eq x c) refl k (go xs)
      where
        pick : (b : Bool) → nat_eq x c ≡ b → 0 < cond b (suc (times c xs)) (times c xs) → (0 < times c xs → FoundAt c xs) → FoundAt c (x ∷ xs)
        pick true t k r = record {
          prefix = [];
          back = xs;
          whole = ap (λ y. y ∷ xs) (eqb-true x c t);
          rest = rw t (ap (λ y. y ∷ xs) (eqb-true x c t));
        }
        pick false t k r =
            let p = r k in
            record {
              prefix = x ∷ p.prefix;
              back = p.back;
              whole = ap (λ ys. x ∷ ys) p.whole;
              rest = rw t p.rest;
            }

-- the cells from the first of a part on are that part
pub rest_here : (xs ys : List ℕ) → ((v : ℕ) → times v (xs ++ ys) ≤ 1) → rest_at (cell_or_none ys) (xs ++ ys) ≡ ys
rest_here xs [] once = refl
rest_here xs (y ∷ ys) once = go xs (omega (arith, once y, times-append y xs (y ∷ ys), first_there y ys))
  where
    go : (zs : List ℕ) → times y zs ≡ 0 → from_cell y (zs ++ y ∷ ys) ≡ y ∷ ys
    go [] n = here (nat_eq y y) refl
      where
        here : (b : Bool) → nat_eq y y ≡ b → cond b (y ∷ ys) (from_cell y ys) ≡ y ∷ ys
        here true t = refl
        here false t = absurd (eqb-false y y t refl)
    go (z ∷ zs) n = pick (nat_eq z y) n (go zs)
      where
        pick : (b : Bool) → cond b (suc (times y zs)) (times y zs) ≡ 0 → (times y zs ≡ 0 → from_cell y (zs ++ y ∷ ys) ≡ y ∷ ys) → cond b (z ∷ zs ++ y ∷ ys) (from_cell y (zs ++ y ∷ ys)) ≡ y ∷ ys
        pick true n r = absurd (omega (arith, n))
        pick false n r = r n

-- the step from a cell to the one after it
pub record Step (c : ℕ) (next : Option ℕ) (cells : List ℕ) : Type 0 where
  pub shorter : length (rest_at next cells) < length (rest_at (Some c) cells)
  pub skips : (v : Value) (values : List Value) → has_value v values c ≡ false → cells_with v values (rest_at (Some c) cells) ≡ cells_with v values (rest_at next cells)
  pub there : (d : ℕ) → next ≡ Some d → Contains cells d
  pub whole : rest_at (Some c) cells ≡ c ∷ rest_at next cells

contains_part : (xs ys : List ℕ) (d : ℕ) → Contains ys d → Contains (xs ++ ys) d
contains_part [] ys d h = h
contains_part (x ∷ xs) ys d h = let r = contains_part xs ys d h in (suc r.0, omega (arith, r.1), r.2)

split_after : (c : ℕ) (xs ys : List ℕ) → xs ++ c ∷ ys ≡ (xs ++ c ∷ []) ++ ys
split_after c [] ys = refl
split_after c (x ∷ xs) ys = ap (λ zs. x ∷ zs) (split_after c xs ys)

-- what stands after a cell begins at the one after it
rest_after : (c : ℕ) (next : Option ℕ) (cells prefix back : List ℕ) → cells ≡ prefix ++ c ∷ back → next ≡ cell_or_none back → ((v : ℕ) → times v cells ≤ 1) → rest_at next cells ≡ back
rest_after c next cells prefix back whole n once =
    let w : cells ≡ (prefix ++ c ∷ []) ++ back = whole ∙ split_after c prefix back in
    rw (n, w) (rest_here (prefix ++ c ∷ []) back (λ v. rw (← w) (once v)))

pub step : (c : ℕ) (next : Option ℕ) (cells : List ℕ) → Contains cells c → ((v : ℕ) → times v cells ≤ 1) → ((xs ys : List ℕ) → cells ≡ xs ++ c ∷ ys → next ≡ cell_or_none ys) → Step c next cells
step c next cells h once after =
    let f = found_at c cells h in
    let n : next ≡ cell_or_none f.back = after f.prefix f.back f.whole in
    let rest : rest_at next cells ≡ f.back = rest_after c next cells f.prefix f.back f.whole n once in
    record {
      shorter = omega (arith, ap length rest, ap length f.rest);
      skips = λ v values e. rw (f.rest, rest, e) refl;
      whole = f.rest ∙ ap (λ ys. c ∷ ys) (sym rest);
      there = λ d e. subst (λ zs. Contains zs d) (sym f.whole) (contains_part f.prefix (c ∷ f.back) d (later d f.back (sym n ∙ e)));
    }
  where
    later : (d : ℕ) (ys : List ℕ) → cell_or_none ys ≡ Some d → Contains (c ∷ ys) d
    later d [] e = absurd (cc e)
    later d (y ∷ ys) e = (1, omega arith, cc e)

-- a cell that has the value is the first that has it
pub found_first : (v : Value) (values : List Value) (c : ℕ) (cells : List ℕ) → Contains cells c → has_value v values c ≡ true → Some c ≡ cell_or_none (cells_with v values (rest_at (Some c) cells))
found_first v values c cells h e =
    let f = found_at c cells h in
    rw (f.rest, e) refl

pub if_some : (o : Option ℕ) (P : ℕ → Type 0) → ((d : ℕ) → o ≡ Some d → P d) → IfSome o P
if_some None P h = tt
if_some (Some d) P h = h d refl

-- ---- the cells of a value

-- how often a cell stands among those of a value
pub times-with : (v : Value) (values : List Value) (c : ℕ) (cells : List ℕ) → times c (cells_with v values cells) ≡ cond (has_value v values c) (times c cells) 0
times-with v values c [] = go (has_value v values c) 0 refl
  where
    go : (b : Bool) (n : ℕ) → n ≡ 0 → n ≡ cond b n 0
    go true n e = refl
    go false n e = e
times-with v values c (x ∷ cells) = go (nat_eq x c) (has_value v values x) (has_value v values c) refl refl refl (times-with v values c cells)
  where
    go : (b h k : Bool) → nat_eq x c ≡ b → has_value v values x ≡ h → has_value v values c ≡ k → times c (cells_with v values cells) ≡ cond k (times c cells) 0 →
        times c (cond h (x ∷ cells_with v values cells) (cells_with v values cells)) ≡ cond k (cond b (suc (times c cells)) (times c cells)) 0
    go true true true e f g r = rw e (ap suc r)
    go true true false e f g r = let d : true ≡ false = sym f ∙ (ap (has_value v values) (eqb-true x c e) ∙ g) in absurd (cc d)
    go true false true e f g r = let d : false ≡ true = sym f ∙ (ap (has_value v values) (eqb-true x c e) ∙ g) in absurd (cc d)
    go true false false e f g r = r
    go false true true e f g r = rw e r
    go false true false e f g r = rw e r
    go false false true e f g r = r
    go false false false e f g r = r

pub with-append : (v : Value) (values : List Value) (xs ys : List ℕ) → cells_with v values (xs ++ ys) ≡ cells_with v values xs ++ cells_with v values ys
with-append v values [] ys = refl
with-append v values (x ∷ xs) ys = go (has_value v values x) (with-append v values xs ys)
  where
    go : (b : Bool) → cells_with v values (xs ++ ys) ≡ cells_with v values xs ++ cells_with v values ys →
        cond b (x ∷ cells_with v values (xs ++ ys)) (cells_with v values (xs ++ ys)) ≡ cond b (x ∷ cells_with v values xs) (cells_with v values xs) ++ cells_with v values ys
    go true r = ap (λ zs. x ∷ zs) r
    go false r = r

-- a cell among those of a value is one of all, and has the value
pub with_part : (v : Value) (values : List Value) (c : ℕ) (cells : List ℕ) → Contains (cells_with v values cells) c → (Contains cells c) × (has_value v values c ≡ true)
with_part v values c cells h = go (has_value v values c) refl (omega (arith, contained_times (cells_with v values cells) c h, times-with v values c cells))
  where
    go : (b : Bool) → has_value v values c ≡ b → 0 < cond (has_value v values c) (times c cells) 0 → (Contains cells c) × (has_value v values c ≡ true)
    go true e k = (times_contained cells c (rw e at k), e)
    go false e k = absurd (omega (arith, (rw e at k)))

pub same_is : (v x : Value) → same_value v x ≡ true → v ≡ x
same_is (Port m) (Port n) e = ap Port (eqb-true m n e)
same_is (Port m) (Result j n) e = cc
same_is (Port m) Undefined e = cc
same_is (Result i m) (Port n) e = cc
same_is (Result i m) (Result j n) e = go (nat_eq i.index j.index) (nat_eq m n) refl refl e
  where
    go : (a b : Bool) → nat_eq i.index j.index ≡ a → nat_eq m n ≡ b → a && b ≡ true → Result i m ≡ Result j n
    go true true f g h =
        let ids : i ≡ j = ap (λ k. record { index = k }) (eqb-true i.index j.index f) in
        rw (ids, eqb-true m n g) refl
    go true false f g h = cc
    go false b f g h = cc
same_is (Result i m) Undefined e = cc
same_is Undefined (Port n) e = cc
same_is Undefined (Result j n) e = cc
same_is Undefined Undefined e = refl

-- a cell that has a value has the value's head
same_head : (n : ℕ) (v : Value) (values : List Value) (c : ℕ) → has_value v values c ≡ true → head_at n values c ≡ Some (head_of n v)
same_head n v values c e = go (slice_get values c) e
  where
    go : (o : Option Value) → is_value v o ≡ true → option_map (head_of n) o ≡ Some (head_of n v)
    go None h = cc
    go (Some x) h = ap (λ y. Some (head_of n y)) (sym (same_is v x h))

abbrev tail : List ℕ → List ℕ
tail [] = []
tail (z ∷ zs) = zs

module _ (values : List Value) (table : ChainTable) (ok : AreIndexed values table) where
  pub chain_most : (s v : ℕ) → times v (get_or table.chains s []) ≤ 1
  chain_most s v = omega (arith, ok.members s v, once_at_most (has_head (head_at (length table.chains) values v) s))

  -- each cell that has the value stands once among those of its head that have it, and no other one does
  pub each_once : (v : Value) (s c : ℕ) → s ≡ head_of (length table.chains) v → times c (cells_with v values (get_or table.chains s [])) ≡ once_if (has_value v values c)
  each_once v s c e = times-with v values c (get_or table.chains s []) ∙ go (has_value v values c) refl
    where
      go : (b : Bool) → has_value v values c ≡ b → cond b (times c (get_or table.chains s [])) 0 ≡ once_if b
      go true f =
          let here : head_at (length table.chains) values c ≡ Some s = same_head (length table.chains) v values c f ∙ ap (λ t. Some t) (sym e) in
          ok.members s c ∙ (ap (λ o. once_if (has_head o s)) here ∙ ap once_if (eq_self s))
      go false f = refl

  -- the next one of the value after a cell
  pub next_with : (v : Value) (s c : ℕ) (next : Option ℕ) (xs ys : List ℕ) → ((us ws : List ℕ) → get_or table.chains s [] ≡ us ++ c ∷ ws → next ≡ cell_or_none ws) →
      cells_with v values (get_or table.chains s []) ≡ xs ++ c ∷ ys → cells_with v values (rest_at next (get_or table.chains s [])) ≡ ys
  next_with v s c next xs ys after e =
      let cells = get_or table.chains s [] in
      let in_with : Contains (xs ++ c ∷ ys) c = contains_part xs (c ∷ ys) c (0, omega arith, refl) in
      let both = with_part v values c cells (rw e in_with) in
      let f = found_at c cells both.0 in
      let n : next ≡ cell_or_none f.back = after f.prefix f.back f.whole in
      let rest : rest_at next cells ≡ f.back = rest_after c next cells f.prefix f.back f.whole n (chain_most s) in
      let parts : cells_with v values cells ≡ cells_with v values f.prefix ++ c ∷ cells_with v values f.back = ap (cells_with v values) f.whole ∙ (with-append v values f.prefix (c ∷ f.back) ∙ kept f.prefix f.back both.1) in
      let most : (w : ℕ) → times w (cells_with v values cells) ≤ 1 = λ w. omega (arith, times-with v values w cells, fewer (has_value v values w) (times w cells), chain_most s w) in
      let left : rest_at (Some c) (xs ++ c ∷ ys) ≡ c ∷ ys = rest_here xs (c ∷ ys) (λ w. rw (← e) (most w)) in
      let right : rest_at (Some c) (cells_with v values f.prefix ++ c ∷ cells_with v values f.back) ≡ c ∷ cells_with v values f.back =
      rest_here (cells_with v values f.prefix) (c ∷ cells_with v values f.back) (λ w. rw (← parts) (most w)) in
      let same : c ∷ ys ≡ c ∷ cells_with v values f.back = sym left ∙ (ap (rest_at (Some c)) (sym e ∙ parts) ∙ right) in
      ap (cells_with v values) rest ∙ sym (ap tail same)
    where
      kept : (us ws : List ℕ) → has_value v values c ≡ true → cells_with v values us ++ cells_with v values (c ∷ ws) ≡ cells_with v values us ++ c ∷ cells_with v values ws
      kept us ws t = rw t refl

      fewer : (b : Bool) (n : ℕ) → cond b n 0 ≤ n
      fewer true n = omega arith
      fewer false n = omega arith
