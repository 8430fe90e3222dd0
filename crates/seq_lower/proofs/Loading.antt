-- A register that loads what muxes before it give.
use Rattle.std.proofs.Common.{◌≡◌, ℕ, zero, suc, ◌≤◌, true, List, [], ◌∷◌, map, drop, set, Some, slice_get, refl, sym, ap, ap₂, ◌∙◌, arith}
use Rattle.std.specs.Prelude.{insert}
use Rattle.hw_model.specs.KindViews.{kind_of}
use Rattle.hw_model.specs.Design.{Op}
use Rattle.hw_model.specs.Design.Ref.{result}
use Rattle.hw_model.specs.declared.registers.ResetBy.{ResetBy as CodeReset}
use Rattle.edit_laws.specs.Laws.{up_ref, insert_op}
use Rattle.ir_store.specs.declared.body.Body.{Body}
use Rattle.ir_store.specs.declared.body.Op.{Op as ReadOp}
use Rattle.ir_store.specs.declared.operation.NewOp.{NewOp}
use Rattle.ir_store.specs.declared.operation.OpId.{OpId}
use Rattle.ir_store.specs.declared.operation.Value.{Value}
use Rattle.ir_store.specs.declared.operation.Value.TheVariants.{Result}
use Rattle.ir_store.specs.Bodies.{ids_of, ops_of, read_op, read_parts}
use Rattle.ir_store.specs.BodyOps.{op_at}
use Rattle.ir_store.specs.OperationViews.{OpParts, new_parts}
use Rattle.ir_store.proofs.Living.{first_of_all, rest_of_all, all_none, all_with}
use Rattle.body_edits.specs.Replaced.{plain_op, IsReplaced}
use Rattle.body_edits.specs.Views.{body_ops, position_in, op_seen, value_ref}
use Rattle.body_edits.proofs.ReadBodies.{op_seen_at}
use Rattle.seq_lower.specs.declared.new_ops.Choice.{Choice}
use Rattle.seq_lower.specs.Lowered.{plain_register, mux_for}
use Rattle.seq_lower.specs.LoweredOps.{IsClocked, IsLoadedByOne, IsLoadedByTwo}
use Rattle.seq_lower.specs.NewOps.{is_clocked_kind, mux_parts, plain_parts, choice_values}
use Rattle.seq_lower.specs.Puts.{MayBeOperand, MayBeOperands, HasRoom, new_with, IsPutBefore}

-- ---- lists

module _ {A : Type 0} where
  drop_set : (xs : List A) (i : ℕ) (x : A) → drop (suc i) (set xs i x) ≡ drop (suc i) xs
  drop_set [] i x = refl
  drop_set (y ∷ ys) zero x = refl
  drop_set (y ∷ ys) (suc i) x = drop_set ys i x

  drop_insert : (xs : List A) (i : ℕ) (x : A) → drop (suc (suc i)) (insert xs i x) ≡ drop (suc i) xs
  drop_insert xs zero x = refl
  drop_insert [] (suc i) x = refl
  drop_insert (y ∷ ys) (suc i) x = drop_insert ys i x

-- room for more is room for less
pub smaller_room : (b : Body) (more operands : ℕ) → more ≤ 3 → operands ≤ 8 → HasRoom b 3 8 → HasRoom b more operands
smaller_room b more operands few less room = record { few = omega (arith, few, room.few); ops = omega (arith, few, room.ops); uses = omega (arith, less, room.uses) }

-- ---- the operation that is read

module _ (b : Body) (op : OpId) (found : ReadOp) (at : op_at (ops_of b) op.index ≡ Some (read_op op found)) where
  pub seen_is : (o : Op) → slice_get (body_ops b) (position_in b op) ≡ Some o → op_seen b found ≡ o
  seen_is o there = let both : Some (op_seen b found) ≡ Some o = sym (op_seen_at b op found at) ∙ there in cc

  pub clocked_kind : IsClocked b op → is_clocked_kind (kind_of found.kind.now) ≡ true
  clocked_kind clocked = ap (λ (o : Op). is_clocked_kind o.kind) (seen_is clocked.found clocked.there) ∙ clocked.kind

-- ---- operands

module _ (b b1 : Body) (op id : OpId) (o : Op) (n : ℕ) (put : IsPutBefore b b1 op id o n) where
  -- what is put in and a value of before may be operands
  pub own_and : (v : Value) → MayBeOperand b op v → MayBeOperands b1 op (Result id 0 ∷ v ∷ [])
  own_and v may =
      all_with (MayBeOperand b1 op) (Result id 0) (v ∷ []) put.own_may
      (all_with (MayBeOperand b1 op) v [] (put.may v may) (all_none (MayBeOperand b1 op)))

  pub two_and_own : (v w : Value) → MayBeOperand b op v → MayBeOperand b op w → MayBeOperands b1 op (v ∷ w ∷ Result id 0 ∷ [])
  two_and_own v w may could =
      all_with (MayBeOperand b1 op) v (w ∷ Result id 0 ∷ []) (put.may v may)
      (all_with (MayBeOperand b1 op) w (Result id 0 ∷ []) (put.may w could)
      (all_with (MayBeOperand b1 op) (Result id 0) [] put.own_may (all_none (MayBeOperand b1 op))))

-- a clock, a reset and its value that may be operands, with others
pub record ClockAndReset (b : Body) (op : OpId) (c s v : Value) (vs : List Value) : Type 0 where
  pub clock : MayBeOperand b op c
  pub signal : MayBeOperand b op s
  pub value : MayBeOperand b op v
  pub others : MayBeOperands b op vs

pub clock_and_reset : (b : Body) (op : OpId) (c s v : Value) (vs : List Value) → MayBeOperands b op (c ∷ s ∷ v ∷ vs) → ClockAndReset b op c s v vs
clock_and_reset b op c s v vs may =
    let second = rest_of_all (MayBeOperand b op) c (s ∷ v ∷ vs) may in
    let third = rest_of_all (MayBeOperand b op) s (v ∷ vs) second in
    record {
      clock = first_of_all (MayBeOperand b op) c (s ∷ v ∷ vs) may;
      signal = first_of_all (MayBeOperand b op) s (v ∷ vs) second;
      value = first_of_all (MayBeOperand b op) v vs third;
      others = rest_of_all (MayBeOperand b op) v vs third;
    }

-- ---- one mux

module _ (b b1 : Body) (op id : OpId) (found : ReadOp) (at : op_at (ops_of b) op.index ≡ Some (read_op op found)) (loaded : Choice) (mux : NewOp)
    (mux_is : new_parts mux ≡ mux_parts (read_parts found)) (put : IsPutBefore b b1 op id (new_with b mux (choice_values loaded)) 3) where
  mux_seen : new_with b mux (choice_values loaded) ≡ mux_for (op_seen b found) (value_ref b loaded.condition) (value_ref b loaded.high) (value_ref b loaded.low)
  mux_seen = ap (λ (p : OpParts). record (plain_op p) { operands = map (value_ref b) (choice_values loaded) }) mux_is

  put_seen : body_ops b1 ≡ insert_op (position_in b op) (mux_for (op_seen b found) (value_ref b loaded.condition) (value_ref b loaded.high) (value_ref b loaded.low)) (body_ops b)
  put_seen = put.ops ∙ ap (λ z. insert_op (position_in b op) z (body_ops b)) mux_seen

  module _ (clock : Value) (clock_may : MayBeOperand b op clock) (register : NewOp) (register_is : new_parts register ≡ plain_parts (read_parts found)) (b2 : Body)
      (replaced : IsReplaced b1 b2 (position_in b1 op) (new_with b1 register (Result id 0 ∷ clock ∷ []))) where
    register_seen : new_with b1 register (Result id 0 ∷ clock ∷ [])
        ≡ plain_register (op_seen b found) (result (position_in b op) 0) (up_ref (position_in b op) (value_ref b clock))
    register_seen =
        ap (λ (p : OpParts). record (plain_op p) { operands = map (value_ref b1) (Result id 0 ∷ clock ∷ []) }) register_is
        ∙ ap₂ (λ x y. plain_register (op_seen b found) x y) put.own (put.values clock clock_may)

    pub loaded_by_one : IsLoadedByOne b b2 op loaded clock
    loaded_by_one = record {
      ops = λ o there.
          replaced.ops
          ∙ ap₂ (λ os z. set os (position_in b1 op) z) put_seen register_seen
          ∙ ap₂ (λ j z. set (insert_op (position_in b op) (mux_for z (value_ref b loaded.condition) (value_ref b loaded.high) (value_ref b loaded.low)) (body_ops b)) j
          (plain_register z (result (position_in b op) 0) (up_ref (position_in b op) (value_ref b clock)))) put.position (seen_is b op found at o there);
      rest = ap (drop (suc (suc (position_in b op)))) (replaced.ids ∙ ap₂ (λ ids j. set ids j replaced.fresh) put.ids put.position)
          ∙ drop_set (insert (ids_of b) (position_in b op) id.index) (suc (position_in b op)) replaced.fresh
          ∙ drop_insert (ids_of b) (position_in b op) id.index;
    }

  -- ---- two muxes

  module _ (b2 : Body) (id2 : OpId) (reset : CodeReset Value) (signal_may : MayBeOperand b op reset.signal) (value_may : MayBeOperand b op reset.value) (mux2 : NewOp)
      (mux2_is : new_parts mux2 ≡ mux_parts (read_parts found))
      (again : IsPutBefore b1 b2 op id2 (new_with b1 mux2 (reset.signal ∷ reset.value ∷ Result id 0 ∷ [])) 3) where
    second_seen : new_with b1 mux2 (reset.signal ∷ reset.value ∷ Result id 0 ∷ [])
        ≡ mux_for (op_seen b found) (up_ref (position_in b op) (value_ref b reset.signal)) (up_ref (position_in b op) (value_ref b reset.value)) (result (position_in b op) 0)
    second_seen =
        ap (λ (p : OpParts). record (plain_op p) { operands = map (value_ref b1) (reset.signal ∷ reset.value ∷ Result id 0 ∷ []) }) mux2_is
        ∙ ap (λ x. mux_for (op_seen b found) x (value_ref b1 reset.value) (value_ref b1 (Result id 0))) (put.values reset.signal signal_may)
        ∙ ap₂ (λ x y. mux_for (op_seen b found) (up_ref (position_in b op) (value_ref b reset.signal)) x y) (put.values reset.value value_may) put.own

    both_seen : body_ops b2 ≡ insert_op (suc (position_in b op))
        (mux_for (op_seen b found) (up_ref (position_in b op) (value_ref b reset.signal)) (up_ref (position_in b op) (value_ref b reset.value)) (result (position_in b op) 0))
        (insert_op (position_in b op) (mux_for (op_seen b found) (value_ref b loaded.condition) (value_ref b loaded.high) (value_ref b loaded.low)) (body_ops b))
    both_seen =
        again.ops
        ∙ ap₂ (λ j z. insert_op j z (body_ops b1)) put.position second_seen
        ∙ ap (insert_op (suc (position_in b op))
        (mux_for (op_seen b found) (up_ref (position_in b op) (value_ref b reset.signal)) (up_ref (position_in b op) (value_ref b reset.value)) (result (position_in b op) 0))) put_seen

    module _ (clock : Value) (clock_may : MayBeOperand b op clock) (register : NewOp) (register_is : new_parts register ≡ plain_parts (read_parts found)) (b3 : Body)
        (replaced : IsReplaced b2 b3 (position_in b2 op) (new_with b2 register (Result id2 0 ∷ clock ∷ []))) where
      last_seen : new_with b2 register (Result id2 0 ∷ clock ∷ [])
          ≡ plain_register (op_seen b found) (result (suc (position_in b op)) 0) (up_ref (suc (position_in b op)) (up_ref (position_in b op) (value_ref b clock)))
      last_seen =
          ap (λ (p : OpParts). record (plain_op p) { operands = map (value_ref b2) (Result id2 0 ∷ clock ∷ []) }) register_is
          ∙ ap₂ (λ x y. plain_register (op_seen b found) x y) again.own (again.values clock (put.may clock clock_may))
          ∙ ap₂ (λ j y. plain_register (op_seen b found) (result j 0) (up_ref j y)) put.position (put.values clock clock_may)

      position_then : position_in b2 op ≡ suc (suc (position_in b op))
      position_then = again.position ∙ ap suc put.position

      pub loaded_by_two : IsLoadedByTwo b b3 op loaded reset clock
      loaded_by_two = record {
        ops = λ o there.
            replaced.ops
            ∙ ap₂ (λ os z. set os (position_in b2 op) z) both_seen last_seen
            ∙ ap₂ (λ j z. set (insert_op (suc (position_in b op))
            (mux_for z (up_ref (position_in b op) (value_ref b reset.signal)) (up_ref (position_in b op) (value_ref b reset.value)) (result (position_in b op) 0))
            (insert_op (position_in b op) (mux_for z (value_ref b loaded.condition) (value_ref b loaded.high) (value_ref b loaded.low)) (body_ops b))) j
            (plain_register z (result (suc (position_in b op)) 0) (up_ref (suc (position_in b op)) (up_ref (position_in b op) (value_ref b clock)))))
            position_then (seen_is b op found at o there);
        rest = ap (drop (suc (suc (suc (position_in b op)))))
            (replaced.ids ∙ ap₂ (λ ids j. set ids j replaced.fresh) (again.ids ∙ ap₂ (λ j ids. insert ids j id2.index) put.position put.ids) position_then)
            ∙ drop_set (insert (insert (ids_of b) (position_in b op) id.index) (suc (position_in b op)) id2.index) (suc (suc (position_in b op))) replaced.fresh
            ∙ drop_insert (insert (ids_of b) (position_in b op) id.index) (suc (position_in b op)) id2.index
            ∙ drop_insert (ids_of b) (position_in b op) id.index;
      }
