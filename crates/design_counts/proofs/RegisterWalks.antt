-- The registers of a body, along the ids of its operations.
use Rattle.std.proofs.Common.{◌≡◌, ℕ, suc, ◌+◌, ◌-◌, ◌≤◌, Bool, true, false, cond, List, [], ◌∷◌, map, length, Some, refl, sym, ap, ◌∙◌, is_some, arith}
use Rattle.hw_model.specs.Design.{register_form}
use Rattle.hw_model.specs.Kinds.{Kind}
use Rattle.ir_store.specs.declared.operation.OpId.{OpId}
use Rattle.ir_store.specs.BodyOps.{BodyOp, op_at, ids_in}
use Rattle.ir_store.specs.Bodies.{op_id}
use Rattle.ir_store.specs.Numbered.{position_of, op_by, ops_by_position}
use Rattle.ir_store.specs.Live.{AreDistinct}
use Rattle.ir_store.proofs.Walks.{ops_at, through_all, walk}
use Rattle.design_counts.specs.Counts.{register_count}

-- whether a kind is a register's
abbrev pub registers : Kind → Bool
registers k = is_some (register_form k)

-- how many registers there are among stored operations
abbrev pub stored_count : List BodyOp → ℕ
stored_count [] = 0
stored_count (o ∷ os) = cond (registers o.parts.kind) (suc (stored_count os)) (stored_count os)

-- positions decide nothing of it
pub by_position : (ops : List BodyOp) → register_count (ops_by_position ops) ≡ stored_count ops
by_position ops = go ops
  where
    go : (os : List BodyOp) → register_count (map (op_by (position_of (ids_in ops))) os) ≡ stored_count os
    go [] = refl
    go (o ∷ os) = ap (λ n. cond (registers o.parts.kind) (suc n) n) (go os)

-- no more than there are operations
within : (ops : List BodyOp) → stored_count ops ≤ length ops
within [] = omega arith
within (o ∷ os) = go (registers o.parts.kind) (within os)
  where
    go : (b : Bool) → stored_count os ≤ length os → cond b (suc (stored_count os)) (stored_count os) ≤ suc (length os)
    go true h = omega (arith, h)
    go false h = omega (arith, h)

-- what is left of a walk has so many registers beside which so much is counted
pub record IsLeft (ops : List BodyOp) (left : List OpId) (count : ℕ) : Type 0 where
  pub total : count + stored_count (ops_at ops left) ≡ stored_count ops + length (ops_at ops left)

module _ (ops : List BodyOp) where
  -- at first it is all operations
  pub left_all : (left : List OpId) (count : ℕ) → AreDistinct (ids_in ops) → left ≡ map op_id (ids_in ops) → count ≡ length (ids_in ops) → IsLeft ops left count
  left_all left count once all is =
      let whole : ops_at ops left ≡ ops = ap (ops_at ops) all ∙ through_all ops once in
      let size : length (ids_in ops) ≡ length ops = ids_length ops in
      record { total = rw whole (omega (arith, is, size)) }
    where
      ids_length : (os : List BodyOp) → length (ids_in os) ≡ length os
      ids_length [] = refl
      ids_length (o ∷ os) = ap suc (ids_length os)

  -- one operation less
  pub left_on : (i : OpId) (before after : List OpId) (o : BodyOp) (count : ℕ) → op_at ops i.index ≡ Some o → before ≡ i ∷ after → registers o.parts.kind ≡ true
      → IsLeft ops before count → IsLeft ops after count
  left_on i before after o count found steps is h =
      let whole : ops_at ops before ≡ o ∷ ops_at ops after = walk ops i before after o found steps in
      let all : stored_count (ops_at ops before) ≡ suc (stored_count (ops_at ops after)) =
      ap stored_count whole ∙ ap (λ b. cond b (suc (stored_count (ops_at ops after))) (stored_count (ops_at ops after))) is in
      let size : length (ops_at ops before) ≡ suc (length (ops_at ops after)) = ap length whole in
      record { total = omega (arith, h.total, all, size) }

  -- one that is no register: it was counted, and is taken off
  module _ (i : OpId) (before after : List OpId) (o : BodyOp) (count : ℕ) (found : op_at ops i.index ≡ Some o) (steps : before ≡ i ∷ after) (is : registers o.parts.kind ≡ false) (h : IsLeft ops before count) where
    whole : ops_at ops before ≡ o ∷ ops_at ops after
    whole = walk ops i before after o found steps

    all : stored_count (ops_at ops before) ≡ stored_count (ops_at ops after)
    all = ap stored_count whole ∙ ap (λ b. cond b (suc (stored_count (ops_at ops after))) (stored_count (ops_at ops after))) is

    size : length (ops_at ops before) ≡ suc (length (ops_at ops after))
    size = ap length whole

    pub left_counted : 1 ≤ count
    left_counted = let few = within (ops_at ops after) in omega (arith, few, h.total, all, size)

    pub left_off : IsLeft ops after (count - 1)
    left_off = let one = left_counted in record { total = omega (arith, h.total, all, size, one) }

  -- at last nothing is left
  pub left_none : (left : List OpId) (count : ℕ) → left ≡ [] → IsLeft ops left count → count ≡ register_count (ops_by_position ops)
  left_none left count none h =
      let gone : ops_at ops left ≡ [] = ap (ops_at ops) none in
      let zero : stored_count (ops_at ops left) ≡ 0 = ap stored_count gone in
      let empty : length (ops_at ops left) ≡ 0 = ap length gone in
      let e : count ≡ stored_count ops = omega (arith, h.total, zero, empty) in
      e ∙ sym (by_position ops)
