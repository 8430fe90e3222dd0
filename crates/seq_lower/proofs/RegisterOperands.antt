-- The operands of a register of a body of a fit design may be those of new operations, and what lowering makes of it.
use Rattle.std.proofs.Common.{◌≡◌, ℕ, suc, true, false, ◌&&◌, List, [], ◌∷◌, drop, set, Option, Some, None, slice_get, refl, sym, ap, ap₂, subst, ◌∙◌, option_and_then}
use Rattle.std.specs.Prelude.{is_some, is_none, option_map}
use Rattle.wiring.specs.Wiring.{In}
use Rattle.wiring.proofs.Members.{In-slice_get, position_of_In}
use Rattle.hw_model.specs.Design.{OpResult, Op, Module, Design, result_type}
use Rattle.hw_model.specs.Design.Ref.{result}
use Rattle.hw_model.specs.Flat.{Register}
use Rattle.hw_model.specs.RegisterViews.{reset_by_of, register_of}
use Rattle.hw_model.specs.Sound.{type_in}
use Rattle.hw_model.specs.declared.registers.Register.{Register as CodeRegister}
use Rattle.hw_model.specs.declared.registers.ResetBy.{ResetBy as CodeReset}
use Rattle.edit_laws.specs.Laws.{up_ref, insert_op}
use Rattle.ir_store.specs.declared.body.Body.{Body}
use Rattle.ir_store.specs.declared.body.Op.{Op as ReadOp}
use Rattle.ir_store.specs.declared.operation.OpId.{OpId}
use Rattle.ir_store.specs.declared.operation.Value.{Value}
use Rattle.ir_store.specs.declared.operation.Value.TheVariants.{Port, Result, Undefined}
use Rattle.ir_store.specs.Bodies.{ids_of, ops_of, read_op}
use Rattle.ir_store.specs.BodyOps.{ids_in, op_at}
use Rattle.ir_store.specs.Live.{IsLive}
use Rattle.ir_store.specs.Numbered.{position_of, ref_by, ops_by_position}
use Rattle.ir_store.proofs.Living.{all_none, all_with}
use Rattle.acceptance_laws.specs.Keeps.{IsFit}
use Rattle.acceptance_laws.proofs.FitBodies.{operand_there}
use Rattle.body_edits.specs.FitBodies.{IsOfFit}
use Rattle.body_edits.specs.Replaceable.{HaveNoFurther}
use Rattle.body_edits.specs.Replaced.{IsNamed}
use Rattle.body_edits.specs.Views.{HasOp, body_ops, position_in, op_seen, value_ref}
use Rattle.body_edits.proofs.FitOps.{fit_live, operand_within}
use Rattle.body_edits.proofs.Positions.{position_there}
use Rattle.body_edits.proofs.ReadBodies.{op_seen_at}
use Rattle.seq_lower.specs.Lowered.{clocked_register, plain_register, mux_for, lowered_by, lowered_register, lowered_op, lowered_at, after_muxes, after_register, next_position}
use Rattle.seq_lower.specs.LoweredOps.{HasRegister, IsClocked, IsLoweredIn, IsLoadedByOne, IsLoadedByTwo}
use Rattle.seq_lower.specs.NewOps.{is_clocked_kind}
use Rattle.seq_lower.specs.Puts.{IsReady, MayBeOperand, MayBeOperands}
use Rattle.seq_lower.proofs.RegisterFacts.{AreParts, form_of, only_type, is_register_of}

-- ---- operands

-- nothing names a further result of a register of a fit design
register_alone : (d : Design) (fit : IsFit d) (k : ℕ) (md : Module) (at : slice_get d k ≡ Some md) (i : ℕ) (o : Op) (there : slice_get md.body i ≡ Some o) (r : Register)
    → clocked_register o ≡ Some r → HaveNoFurther i md.body
register_alone d fit k md at i o there r clocked y in_body q here n is =
    let position = position_of_In y md.body in_body in
    let some : is_some (type_in md.ports md.body (result i (suc n))) ≡ true = ap (λ x. is_some (type_in md.ports md.body x)) (sym is) ∙ operand_there d fit k md at position.0 y q position.1 here in
    let none : type_in md.ports md.body (result i (suc n)) ≡ None =
    ap (λ x. option_and_then (λ (z : Op). result_type z (suc n)) x) there
    ∙ ap (λ (rs : List OpResult). option_map (λ (x : OpResult). x.type) (slice_get rs (suc n))) (is_register_of d fit k md at i o there r clocked).results in
    let clash : false ≡ true = ap is_some (sym none) ∙ some in
    cc

-- a value that is named by positions is there
named_live : (b : Body) → IsOfFit b → (v : Value) → IsNamed (body_ops b) (value_ref b v) → IsLive (ids_of b) v
unfolding value_ref
named_live b of (Port n) named = tt
named_live b of Undefined named = tt
named_live b of (Result id k) named = position_there (ids_of b) id.index (operand_within b of (position_of (ids_of b) id.index) k named)

own_ref : (b : Body) (op : OpId) → value_ref b (Result op 0) ≡ result (position_in b op) 0
unfolding value_ref position_in
own_ref b op = refl

-- what is known of a register of a body
pub record RegisterMay (b : Body) (op : OpId) (r : CodeRegister Value) : Type 0 where
  pub ready : IsReady b op
  pub clocked : IsClocked b op
  pub held : MayBeOperand b op (Result op 0)
  pub next : MayBeOperand b op r.next
  pub clock : MayBeOperand b op r.clock
  pub enable : (e : Value) → r.enable ≡ Some e → MayBeOperand b op e
  pub reset : (x : CodeReset Value) → r.reset ≡ Some x → MayBeOperand b op x.signal × MayBeOperand b op x.value

module _ (b : Body) (op : OpId) (of : IsOfFit b) (live : HasOp b op) (r : CodeRegister Value) (has : HasRegister b op r) where
  in_owner : slice_get of.owner.body (position_in b op) ≡ Some has.found
  in_owner = ap (λ os. slice_get os (position_in b op)) of.is_body ∙ has.there

  alone : HaveNoFurther (position_in b op) (body_ops b)
  alone = subst (HaveNoFurther (position_in b op)) of.is_body (register_alone of.design of.fit of.number of.owner of.there (position_in b op) has.found in_owner (register_of (value_ref b) r) has.clocked)

  parts : AreParts (type_in of.owner.ports of.owner.body) (only_type of.design of.fit of.number of.owner of.there (position_in b op) has.found in_owner (register_of (value_ref b) r) has.clocked).0
      has.found.operands (register_of (value_ref b) r)
  parts = (is_register_of of.design of.fit of.number of.owner of.there (position_in b op) has.found in_owner (register_of (value_ref b) r) has.clocked).parts

  found_in : In has.found (body_ops b)
  found_in = In-slice_get has.found (body_ops b) (position_in b op) has.there

  named_may : (v : Value) → In (value_ref b v) has.found.operands → MayBeOperand b op v
  named_may v here = record {
    live = named_live b of v (record { op = has.found; there = found_in; named = here });
    alone = alone has.found found_in (value_ref b v) here;
  }

  pub register_may : RegisterMay b op r
  register_may = record {
    ready = record { there = live; live = fit_live b of; alone = alone };
    clocked = record { found = has.found; there = has.there; kind = ap is_clocked_kind (form_of has.found (register_of (value_ref b) r) has.clocked).kind };
    held = record { live = live; alone = λ k is. let clash : result (position_in b op) 0 ≡ result (position_in b op) (suc k) = sym (own_ref b op) ∙ is in cc };
    next = named_may r.next parts.next_named;
    clock = named_may r.clock parts.clock_named;
    enable = λ e is. named_may e (parts.enable (value_ref b e) (ap (option_map (value_ref b)) is)).1;
    reset = λ x is.
        let both = parts.reset (reset_by_of (value_ref b) x) (ap (option_map (reset_by_of (value_ref b))) is) in
        (named_may x.signal both.2, named_may x.value both.3);
  }

-- lists of values that may be operands
pub four_may : (b : Body) (op : OpId) (v w x y : Value) → MayBeOperand b op v → MayBeOperand b op w → MayBeOperand b op x → MayBeOperand b op y → MayBeOperands b op (v ∷ w ∷ x ∷ y ∷ [])
four_may b op v w x y p q s t =
    all_with (MayBeOperand b op) v (w ∷ x ∷ y ∷ []) p
    (all_with (MayBeOperand b op) w (x ∷ y ∷ []) q (all_with (MayBeOperand b op) x (y ∷ []) s (all_with (MayBeOperand b op) y [] t (all_none (MayBeOperand b op)))))

pub six_may : (b : Body) (op : OpId) (u z v w x y : Value) → MayBeOperand b op u → MayBeOperand b op z → MayBeOperand b op v → MayBeOperand b op w → MayBeOperand b op x → MayBeOperand b op y
    → MayBeOperands b op (u ∷ z ∷ v ∷ w ∷ x ∷ y ∷ [])
six_may b op u z v w x y m n p q s t =
    all_with (MayBeOperand b op) u (z ∷ v ∷ w ∷ x ∷ y ∷ []) m (all_with (MayBeOperand b op) z (v ∷ w ∷ x ∷ y ∷ []) n (four_may b op v w x y p q s t))

-- ---- what lowering makes of it

module _ (b : Body) (op : OpId) (r : CodeRegister Value) (has : HasRegister b op r) (e : Option Value) (x : Option (CodeReset Value)) (enable : r.enable ≡ e) (reset : r.reset ≡ x) where
  lowered_is : lowered_at (position_in b op) (body_ops b)
      ≡ lowered_by (position_in b op) has.found (value_ref b r.next) (value_ref b r.clock) (option_map (value_ref b) e) (option_map (reset_by_of (value_ref b)) x) (body_ops b)
  lowered_is =
      ap (λ z. lowered_op (position_in b op) z (body_ops b)) has.there
      ∙ ap (λ z. lowered_register (position_in b op) has.found z (body_ops b)) has.clocked
      ∙ ap₂ (λ y z. lowered_by (position_in b op) has.found (value_ref b r.next) (value_ref b r.clock) (option_map (value_ref b) y) (option_map (reset_by_of (value_ref b)) z) (body_ops b)) enable reset

  next_is : next_position (position_in b op) (body_ops b) ≡ after_muxes (suc (position_in b op)) (option_map (value_ref b) e) (option_map (reset_by_of (value_ref b)) x)
  next_is =
      ap (λ z. after_register (suc (position_in b op)) (option_and_then clocked_register z)) has.there
      ∙ ap (after_register (suc (position_in b op))) has.clocked
      ∙ ap₂ (λ y z. after_muxes (suc (position_in b op)) (option_map (value_ref b) y) (option_map (reset_by_of (value_ref b)) z)) enable reset

  pub lowered_in : (after : Body)
      → body_ops after ≡ lowered_by (position_in b op) has.found (value_ref b r.next) (value_ref b r.clock) (option_map (value_ref b) e) (option_map (reset_by_of (value_ref b)) x) (body_ops b)
      → drop (after_muxes (suc (position_in b op)) (option_map (value_ref b) e) (option_map (reset_by_of (value_ref b)) x)) (ids_of after) ≡ drop (suc (position_in b op)) (ids_of b)
      → IsLoweredIn b after op
  lowered_in after ops rest = record { ops = ops ∙ sym lowered_is; rest = ap (λ n. drop n (ids_of after)) next_is ∙ rest }

module _ (b after : Body) (op : OpId) (r : CodeRegister Value) (has : HasRegister b op r) where
  -- a mux for its enable
  pub enable_lowered : (e : Value) → r.enable ≡ Some e → r.reset ≡ None → IsLoadedByOne b after op (record { condition = e; high = r.next; low = Result op 0 }) r.clock → IsLoweredIn b after op
  enable_lowered e enable reset one =
      lowered_in b op r has (Some e) None enable reset after (subst (λ z. body_ops after ≡ set (insert_op (position_in b op) (mux_for has.found (value_ref b e) (value_ref b r.next) z) (body_ops b))
      (suc (position_in b op)) (plain_register has.found (result (position_in b op) 0) (up_ref (position_in b op) (value_ref b r.clock)))) (own_ref b op) (one.ops has.found has.there)) one.rest

  -- for its reset
  pub reset_lowered : (x : CodeReset Value) → r.enable ≡ None → r.reset ≡ Some x → IsLoadedByOne b after op (record { condition = x.signal; high = x.value; low = r.next }) r.clock → IsLoweredIn b after op
  reset_lowered x enable reset one = lowered_in b op r has None (Some x) enable reset after (one.ops has.found has.there) one.rest

  -- for both
  pub both_lowered : (e : Value) (x : CodeReset Value) → r.enable ≡ Some e → r.reset ≡ Some x → IsLoadedByTwo b after op (record { condition = e; high = r.next; low = Result op 0 }) x r.clock
      → IsLoweredIn b after op
  both_lowered e x enable reset two =
      lowered_in b op r has (Some e) (Some x) enable reset after (subst (λ z. body_ops after ≡ set (insert_op (suc (position_in b op))
      (mux_for has.found (up_ref (position_in b op) (value_ref b x.signal)) (up_ref (position_in b op) (value_ref b x.value)) (result (position_in b op) 0))
      (insert_op (position_in b op) (mux_for has.found (value_ref b e) (value_ref b r.next) z) (body_ops b))) (suc (suc (position_in b op)))
      (plain_register has.found (result (suc (position_in b op)) 0) (up_ref (suc (position_in b op)) (up_ref (position_in b op) (value_ref b r.clock))))) (own_ref b op) (two.ops has.found has.there)) two.rest

-- without them it stays
pub plain_lowered : (b : Body) (op : OpId) (r : CodeRegister Value) → HasRegister b op r → r.enable ≡ None → r.reset ≡ None → IsLoweredIn b b op
plain_lowered b op r has enable reset = lowered_in b op r has None None enable reset b refl refl

pub none_of_both : (b : Body) (op : OpId) (r : CodeRegister Value) → HasRegister b op r → is_none r.enable && is_none r.reset ≡ true → IsLoweredIn b b op
none_of_both b op r has none = go r.enable refl r.reset refl none
  where
    go : (e : Option Value) → r.enable ≡ e → (x : Option (CodeReset Value)) → r.reset ≡ x → is_none e && is_none x ≡ true → IsLoweredIn b b op
    go None enable None reset h = plain_lowered b op r has enable reset
    go None enable (Some x) reset h = cc
    go (Some e) enable x reset h = cc

-- so does what is no register
pub other_lowered : (b : Body) (op : OpId) (o : Op) → slice_get (body_ops b) (position_in b op) ≡ Some o → clocked_register o ≡ None → IsLoweredIn b b op
other_lowered b op o there none = record {
  ops = sym (ap (λ z. lowered_op (position_in b op) z (body_ops b)) there ∙ ap (λ z. lowered_register (position_in b op) o z (body_ops b)) none);
  rest = ap (λ n. drop n (ids_of b)) (ap (λ z. after_register (suc (position_in b op)) (option_and_then clocked_register z)) there ∙ ap (after_register (suc (position_in b op))) none);
}

-- ---- the same operations

module _ (b b1 : Body) (same : ops_of b1 ≡ ops_of b) where
  pub fit_same : IsOfFit b → IsOfFit b1
  unfolding body_ops
  fit_same of = record { design = of.design; fit = of.fit; number = of.number; owner = of.owner; there = of.there; is_body = of.is_body ∙ sym (ap ops_by_position same) }

  pub register_same : (op : OpId) (r : CodeRegister Value) → HasRegister b op r → HasRegister b1 op r
  unfolding body_ops position_in value_ref
  register_same op r has = record {
    found = has.found;
    there = subst (λ ops. slice_get (ops_by_position ops) (position_of (ids_in ops) op.index) ≡ Some has.found) (sym same) has.there;
    clocked = subst (λ ops. clocked_register has.found ≡ Some (register_of (ref_by (position_of (ids_in ops))) r)) (sym same) has.clocked;
  }

  pub lowered_same : (op : OpId) (after : Body) → IsLoweredIn b1 after op → IsLoweredIn b after op
  unfolding body_ops position_in
  lowered_same op after lowered = record {
    ops = subst (λ ops. body_ops after ≡ lowered_at (position_of (ids_in ops) op.index) (ops_by_position ops)) same lowered.ops;
    rest = subst (λ ops. drop (next_position (position_of (ids_in ops) op.index) (ops_by_position ops)) (ids_of after) ≡ drop (suc (position_of (ids_in ops) op.index)) (ids_in ops)) same lowered.rest;
  }

-- ---- the operation that is read

module _ (b : Body) (op : OpId) (found : ReadOp) (at : op_at (ops_of b) op.index ≡ Some (read_op op found)) where
  pub read_register : (r : CodeRegister Value) (x : Option (CodeRegister Value)) → x ≡ Some r → ((z : Body) → option_map (register_of (value_ref z)) x ≡ clocked_register (op_seen z found)) → HasRegister b op r
  read_register r x is reads = record {
    found = op_seen b found;
    there = op_seen_at b op found at;
    clocked = sym (reads b) ∙ ap (option_map (register_of (value_ref b))) is;
  }

  pub read_other : (x : Option (CodeRegister Value)) → x ≡ None → ((z : Body) → option_map (register_of (value_ref z)) x ≡ clocked_register (op_seen z found)) → IsLoweredIn b b op
  read_other x is reads = other_lowered b op (op_seen b found) (op_seen_at b op found at) (sym (reads b) ∙ ap (option_map (register_of (value_ref b))) is)
