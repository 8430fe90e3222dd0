-- How often a position stands among uses.
use Rattle.std.proofs.Common.{◌≡◌, ℕ, zero, suc, ◌+◌, ◌<◌, ◌≤◌, Bool, true, false, cond, nat_eq, List, [], ◌∷◌, ◌++◌, map, get_or, refl, ap, sym, ◌∙◌, arith}
use Rattle.std.specs.Prelude.{Option, Some, None, ◌&&◌}
use Rattle.std.proofs.lemmas.Bool.{eqb-true, eqb-false}
use Rattle.linked_lists.specs.declared.links.Link.{Link}
use Rattle.ir_store.specs.declared.blocks.Block.{Block}
use Rattle.ir_store.specs.declared.operation.UsePosition.{UsePosition}
use Rattle.ir_store.specs.declared.operation.Value.{Value}
use Rattle.ir_store.specs.OperationViews.{OpParts}
use Rattle.linked_lists.specs.Ids.{times}
use Rattle.linked_lists.specs.Links.{is_live_at}
use Rattle.linked_lists.specs.Chains.{once_if}
use Rattle.ir_store.specs.Blocks.{AreBlocks, block_at, lists_in}
use Rattle.ir_store.specs.ChainedValues.{is_value, has_value}
use Rattle.ir_store.specs.BodyOps.{stored_op, same_value}
use Rattle.ir_store.specs.Uses.{use_at, positions_in, uses_in, same_position, use_times, use_of, with_use, positions_of}
use Rattle.ir_store.proofs.BlockLists.{split, list_at}
use Rattle.linked_lists.proofs.Chaining.{eq_self}
use Rattle.ir_store.proofs.UseCells.{used, use_there, block_get, block_past}

-- ---- among the cells of a chain

times-with : (p : UsePosition) (o : Option UsePosition) (ps : List UsePosition) → use_times p (with_use o ps) ≡ use_times p (with_use o []) + use_times p ps
times-with p None ps = omega arith
times-with p (Some q) ps = go (same_position q p)
  where
    go : (b : Bool) → cond b (suc (use_times p ps)) (use_times p ps) ≡ cond b 1 0 + use_times p ps
    go true = omega arith
    go false = omega arith

module _ (p : UsePosition) (links : List Link) (os : List ℕ) (bs : List Block) where
  sum_none : ((c : ℕ) → use_times p (with_use (use_of links os bs c) []) ≡ 0) → (cells : List ℕ) → use_times p (positions_of links os bs cells) ≡ 0
  sum_none each [] = refl
  sum_none each (c ∷ cells) = omega (arith, times-with p (use_of links os bs c) (positions_of links os bs cells), each c, sum_none each cells)

  sum_one : (x : ℕ) → ((c : ℕ) → use_times p (with_use (use_of links os bs c) []) ≡ once_if (nat_eq c x)) → (cells : List ℕ) → use_times p (positions_of links os bs cells) ≡ times x cells
  sum_one x each [] = refl
  sum_one x each (c ∷ cells) =
      times-with p (use_of links os bs c) (positions_of links os bs cells) ∙ (ap (λ n. n + use_times p (positions_of links os bs cells)) (each c) ∙ go (nat_eq c x) (sum_one x each cells))
    where
      go : (b : Bool) → use_times p (positions_of links os bs cells) ≡ times x cells → once_if b + use_times p (positions_of links os bs cells) ≡ cond b (suc (times x cells)) (times x cells)
      go true e = omega (arith, e)
      go false e = omega (arith, e)

-- a position is found among the cells of a value once, where it is an operand of a live operation that is the value, and else never
pub chain_uses : (links : List Link) (xs : List Value) (os : List ℕ) (bs : List Block) (live : ℕ) → AreBlocks xs os bs live → (v : Value) (cells : List ℕ) → ((c : ℕ) → times c cells ≡ once_if (has_value v xs c)) →
    (p : UsePosition) → use_times p (positions_of links os bs cells) ≡ once_if (is_live_at links p.op.index && has_value v (get_or (lists_in xs bs) p.op.index []) p.at)
chain_uses links xs os bs live ok v cells each p = alive (is_live_at links p.op.index) refl
  where
    q : ℕ
    q = p.op.index

    x : ℕ
    x = (block_at bs q).start + p.at

    -- where the position is there, its cell alone has it
    one : is_live_at links q ≡ true → p.at < (block_at bs q).len → (c : ℕ) → use_times p (with_use (use_of links os bs c) []) ≡ once_if (nat_eq c x)
    one l h c = go (nat_eq c x) refl
      where
        go : (b : Bool) → nat_eq c x ≡ b → use_times p (with_use (use_of links os bs c) []) ≡ once_if b
        go true e = rw (eqb-true c x e, use_there links xs os bs live ok q p.at l h) (rw (eq_self q, eq_self p.at) refl)
        go false e = used links xs os bs live ok p c (λ n. n) (λ i. absurd (eqb-false c x e i.cell))

    inside : is_live_at links q ≡ true → p.at < (block_at bs q).len → use_times p (positions_of links os bs cells) ≡ once_if (has_value v (get_or (lists_in xs bs) q []) p.at)
    inside l h =
        sum_one p links os bs x (one l h) cells
        ∙ (each x ∙ ap (λ o. once_if (is_value v o)) (sym (block_get xs (block_at bs q) p.at h)) ∙ ap (λ ls. once_if (has_value v ls p.at)) (sym (list_at xs bs q)))

    outside : (block_at bs q).len ≤ p.at → use_times p (positions_of links os bs cells) ≡ once_if (has_value v (get_or (lists_in xs bs) q []) p.at)
    outside h =
        sum_none p links os bs (λ c. used links xs os bs live ok p c (λ n. n) (λ i. absurd (omega (arith, i.within, h)))) cells
        ∙ (ap (λ o. once_if (is_value v o)) (sym (block_past xs (block_at bs q) p.at h)) ∙ ap (λ ls. once_if (has_value v ls p.at)) (sym (list_at xs bs q)))

    alive : (b : Bool) → is_live_at links q ≡ b → use_times p (positions_of links os bs cells) ≡ once_if (b && has_value v (get_or (lists_in xs bs) q []) p.at)
    alive true l = split p.at (block_at bs q).len (inside l) outside
    alive false l = sum_none p links os bs (λ c. used links xs os bs live ok p c (λ n. n) (λ i. absurd (cc (sym l ∙ i.lives)))) cells

-- ---- among the operands of operations

use_times-append : (p : UsePosition) (xs ys : List UsePosition) → use_times p (xs ++ ys) ≡ use_times p xs + use_times p ys
use_times-append p [] ys = omega arith
use_times-append p (x ∷ xs) ys = go (same_position x p) (use_times-append p xs ys)
  where
    go : (b : Bool) → use_times p (xs ++ ys) ≡ use_times p xs + use_times p ys → cond b (suc (use_times p (xs ++ ys))) (use_times p (xs ++ ys)) ≡ cond b (suc (use_times p xs)) (use_times p xs) + use_times p ys
    go true e = omega (arith, e)
    go false e = e

module _ (v : Value) (p : UsePosition) where
  -- a step over one operand
  step : (id k : ℕ) (x : Value) (xs : List Value) → same_position (use_at id k) p ≡ false → use_times p (positions_in v id k (x ∷ xs)) ≡ use_times p (positions_in v id (suc k) xs)
  step id k x xs e = go (same_value v x)
    where
      go : (b : Bool) → use_times p (cond b (use_at id k ∷ positions_in v id (suc k) xs) (positions_in v id (suc k) xs)) ≡ use_times p (positions_in v id (suc k) xs)
      go true = rw e refl
      go false = refl

  others : (id k : ℕ) (xs : List Value) → ((j : ℕ) → k ≤ j → same_position (use_at id j) p ≡ false) → use_times p (positions_in v id k xs) ≡ 0
  others id k [] e = refl
  others id k (x ∷ xs) e = step id k x xs (e k (omega arith)) ∙ others id (suc k) xs (λ j h. e j (omega (arith, h)))

  unlike_at : (id j : ℕ) → (j ≡ p.at → ⊥) → same_position (use_at id j) p ≡ false
  unlike_at id j n = go (nat_eq id p.op.index) (nat_eq j p.at) refl
    where
      go : (a b : Bool) → nat_eq j p.at ≡ b → a && b ≡ false
      go false b e = refl
      go true false e = refl
      go true true e = absurd (n (eqb-true j p.at e))

  here : (j k : ℕ) (xs : List Value) → p.at ≡ k + j → use_times p (positions_in v p.op.index k xs) ≡ once_if (has_value v xs j)
  here j k [] e = refl
  here zero k (x ∷ xs) e = go (same_value v x)
    where
      same : same_position (use_at p.op.index k) p ≡ true
      same =
          let d : k ≡ p.at = omega (arith, e) in
          rw (d, eq_self p.op.index, eq_self p.at) refl

      rest : use_times p (positions_in v p.op.index (suc k) xs) ≡ 0
      rest = others p.op.index (suc k) xs (λ j h. unlike_at p.op.index j (λ d. omega (arith, d, h, e)))

      go : (b : Bool) → use_times p (cond b (use_at p.op.index k ∷ positions_in v p.op.index (suc k) xs) (positions_in v p.op.index (suc k) xs)) ≡ once_if b
      go true = rw (same, rest) refl
      go false = rest
  here (suc j) k (x ∷ xs) e = step p.op.index k x xs (unlike_at p.op.index k (λ d. omega (arith, d, e))) ∙ here j (suc k) xs (omega (arith, e))

  module _ (ps : List OpParts) (ls : List (List Value)) where
    uses_absent : (ids : List ℕ) → times p.op.index ids ≡ 0 → use_times p (uses_in v (map (stored_op ps ls) ids)) ≡ 0
    uses_absent [] e = refl
    uses_absent (i ∷ ids) e =
        use_times-append p (positions_in v i 0 (get_or ls i [])) (uses_in v (map (stored_op ps ls) ids)) ∙ go (nat_eq i p.op.index) refl e (uses_absent ids)
      where
        go : (b : Bool) → nat_eq i p.op.index ≡ b → cond b (suc (times p.op.index ids)) (times p.op.index ids) ≡ 0 →
            (times p.op.index ids ≡ 0 → use_times p (uses_in v (map (stored_op ps ls) ids)) ≡ 0) →
            use_times p (positions_in v i 0 (get_or ls i [])) + use_times p (uses_in v (map (stored_op ps ls) ids)) ≡ 0
        go true t n r = absurd (omega (arith, n))
        go false t n r = omega (arith, others i 0 (get_or ls i []) (λ j _. rw t refl), r n)

    pub uses_count : (ids : List ℕ) → times p.op.index ids ≤ 1 → (b : Bool) → times p.op.index ids ≡ once_if b → use_times p (uses_in v (map (stored_op ps ls) ids)) ≡ once_if (b && has_value v (get_or ls p.op.index []) p.at)
    uses_count ids most false e = uses_absent ids e
    uses_count [] most true e = absurd (omega (arith, e))
    uses_count (i ∷ ids) most true e =
        use_times-append p (positions_in v i 0 (get_or ls i [])) (uses_in v (map (stored_op ps ls) ids)) ∙ go (nat_eq i p.op.index) refl e (λ m n. uses_count ids m true n)
      where
        go : (b : Bool) → nat_eq i p.op.index ≡ b → cond b (suc (times p.op.index ids)) (times p.op.index ids) ≡ 1 →
            (times p.op.index ids ≤ 1 → times p.op.index ids ≡ 1 → use_times p (uses_in v (map (stored_op ps ls) ids)) ≡ once_if (has_value v (get_or ls p.op.index []) p.at)) →
            use_times p (positions_in v i 0 (get_or ls i [])) + use_times p (uses_in v (map (stored_op ps ls) ids)) ≡ once_if (has_value v (get_or ls p.op.index []) p.at)
        go true t n r =
            let d : i ≡ p.op.index = eqb-true i p.op.index t in
            let first : use_times p (positions_in v i 0 (get_or ls i [])) ≡ once_if (has_value v (get_or ls p.op.index []) p.at) = rw d (here p.at 0 (get_or ls p.op.index []) (omega arith)) in
            omega (arith, first, uses_absent ids (omega (arith, n)))
        go false t n r = omega (arith, others i 0 (get_or ls i []) (λ j _. rw t refl), r (omega (arith, n)) n)
