-- A body in code in which uses of a result that an instance passes through take the instance's operand.
use Rattle.std.proofs.Common.{◌≡◌, ℕ, zero, suc, ◌+◌, ◌<◌, ◌≤◌, Bool, true, false, cond, nat_eq, List, [], ◌∷◌, ◌++◌, length, map, Option, Some, None, slice_get, refl, sym, ap, ap₂, subst, ◌∙◌, arith, option_map}
use Rattle.std.specs.Prelude.{All, Contains, IfSome}
use Rattle.std.proofs.lemmas.Bool.{eqb-true}
use Rattle.std.proofs.lemmas.List.{length-map, map-id}
use Rattle.std.proofs.lemmas.Option.{slice_get-map, slice_get_within}
use Rattle.wiring.specs.Wiring.{In}
use Rattle.wiring.proofs.Lists.{slice_get_some}
use Rattle.wiring.proofs.Members.{from_In-map, In-slice_get}
use Rattle.hw_model.specs.Types.{Name, HwType}
use Rattle.hw_model.specs.Design.{Ref, Op, OpResult, Module, output_refs}
use Rattle.hw_model.specs.Design.Ref.{port, result, undefined}
use Rattle.hw_model.specs.Flat.{port_ref}
use Rattle.linked_lists.specs.Ids.{times}
use Rattle.linked_lists.proofs.IdLemmas.{contained_times}
use Rattle.ir_store.specs.declared.body.Body.{Body}
use Rattle.ir_store.specs.declared.operation.OpId.{OpId}
use Rattle.ir_store.specs.declared.operation.Value.{Value}
use Rattle.ir_store.specs.declared.operation.Value.TheVariants.{Port, Result, Undefined}
use Rattle.ir_store.specs.Bodies.{ids_of, ops_of}
use Rattle.ir_store.specs.BodyOps.{BodyOp, ids_in, op_at, is_of, all_replaced, replace_value}
use Rattle.ir_store.specs.Numbered.{position_of, ref_by, op_by, ops_by_position}
use Rattle.ir_store.specs.Positions.{same_ref, replaced_ref}
use Rattle.ir_store.proofs.Living.{ids-all_replaced, first_of_all, rest_of_all, all_with, all_none}
use Rattle.op_checks.proofs.Widths.{neither}
use Rattle.std.specs.List.{list_any}
use Rattle.inline_pass.proofs.InliningOps.{outputs_seen}
use Rattle.ir_store.proofs.Numbering.{numbered-all_replaced}
use Rattle.edit_laws.specs.Edit.{retarget}
use Rattle.inline_laws.specs.Inline.{ref_or_undefined}
use Rattle.body_edits.specs.Views.{body_ops, position_in}
use Rattle.body_edits.specs.WiresOut.{value_or_undefined}
use Rattle.body_edits.proofs.IdLists.{parted, middle_found}
use Rattle.body_edits.proofs.Positions.{op_at_position, position_there}
use Rattle.inline_pass.specs.Flattening.{inline_all, by_kind, by_symbol}
use Rattle.inline_pass.specs.Forwarding.{joined_to, passed_value, IsFinal, IsPassed, InlinesAlike}
use Rattle.inline_pass.specs.MovedOps.{joined_values, output_values}
use Rattle.inline_pass.specs.OperandsThere.{IsResultThere, IsThereFrom, HaveThereFrom}
use Rattle.inline_pass.proofs.BodyInlined.{there_live}
use Rattle.inline_pass.proofs.ForwardedWalk.{Passes, IsEnd, all_moved}
use Rattle.inline_pass.proofs.InliningPositions.{joined_seen}
use Rattle.inline_pass.proofs.OperandsThere.{none_there, joined_named}
use Rattle.inline_pass.proofs.ResultsReplaced.{not_replaced}

-- ---- bodies that make the same

pub alike_itself : (inner : Op → Option Module) (b : Body) → HaveThereFrom 0 (body_ops b) → InlinesAlike inner b b
alike_itself inner b there = record { ids = refl; there = there; alike = refl }

pub alike_then : (inner : Op → Option Module) (a b c : Body) → InlinesAlike inner a b → InlinesAlike inner b c → InlinesAlike inner a c
alike_then inner a b c first second = record { ids = second.ids ∙ first.ids; there = second.there; alike = second.alike ∙ first.alike }

-- ---- the instance stays

pub instance_stays : (op : OpId) (k : ℕ) (v : Value) (ops : List BodyOp) (x : BodyOp) → op_at ops op.index ≡ Some x → All (λ y. is_of op.index y ≡ false) x.operands
    → op_at (all_replaced (Result op k) v ops) op.index ≡ op_at ops op.index
instance_stays op k v [] x found others = refl
instance_stays op k v (o ∷ ops) x found others = go (nat_eq o.id op.index) found (λ at. instance_stays op k v ops x at others)
  where
    same : (vs : List Value) → All (λ y. is_of op.index y ≡ false) vs → map (replace_value (Result op k) v) vs ≡ vs
    same [] all = refl
    same (y ∷ vs) all =
        ap₂ (λ z zs. z ∷ zs) (not_replaced op k v y (first_of_all (λ y. is_of op.index y ≡ false) y vs all)) (same vs (rest_of_all (λ y. is_of op.index y ≡ false) y vs all))

    go : (b : Bool) → cond b (Some o) (op_at ops op.index) ≡ Some x → (op_at ops op.index ≡ Some x → op_at (all_replaced (Result op k) v ops) op.index ≡ op_at ops op.index)
        → cond b (Some (record o { operands = map (replace_value (Result op k) v) o.operands })) (op_at (all_replaced (Result op k) v ops) op.index) ≡ cond b (Some o) (op_at ops op.index)
    go true at rest =
        let is : o ≡ x = cc in
        ap (λ (vs : List Value). Some (record o { operands = vs })) (same o.operands (subst (λ (z : BodyOp). All (λ y. is_of op.index y ≡ false) z.operands) (sym is) others))
    go false at rest = rest at

-- ---- one result

module _ (look : Name → Option Module) (b : Body) (all : HaveThereFrom 0 (body_ops b)) (op : OpId) (k : ℕ) (v : Value) (passed : IsPassed look (ops_of b) op k v) where
  at_own : slice_get (map (op_by (position_of (ids_of b))) (ops_of b)) (position_of (ids_of b) op.index) ≡ Some (op_by (position_of (ids_of b)) passed.instance)
  at_own = op_at_position (op_by (position_of (ids_of b))) op.index (ops_of b) passed.instance passed.found

  -- an operation at the position of an id has the id
  there_by : (id : ℕ) (z : Op) → slice_get (map (op_by (position_of (ids_of b))) (ops_of b)) (position_of (ids_of b) id) ≡ Some z → Contains (ids_of b) id
  there_by id z at =
      let within = slice_get_within (map (op_by (position_of (ids_of b))) (ops_of b)) (position_of (ids_of b) id) z at in
      let long = length-map (ops_of b) (op_by (position_of (ids_of b))) in
      let many = length-map (ops_of b) (λ (o : BodyOp). o.id) in
      position_there (ids_of b) id (omega (arith, within, long, many))

  value_is : ref_or_undefined (port_ref passed.callee.ports (map (ref_by (position_of (ids_of b))) passed.instance.operands) passed.input) ≡ ref_by (position_of (ids_of b)) v
  value_is =
      sym (joined_seen (ref_by (position_of (ids_of b))) (λ r. r) (ref_by (position_of (ids_of b))) refl passed.callee.ports passed.instance.operands (λ n d below. refl) passed.input
      ∙ plain (port_ref passed.callee.ports (map (ref_by (position_of (ids_of b))) passed.instance.operands) passed.input))
      ∙ ap (ref_by (position_of (ids_of b))) passed.takes
    where
      plain : (x : Option Ref) → ref_or_undefined (option_map (λ r. r) x) ≡ ref_or_undefined x
      plain None = refl
      plain (Some r) = refl

  value_there : IsThereFrom 0 (body_ops b) (ref_by (position_of (ids_of b)) v)
  unfolding body_ops
  value_there =
      subst (IsThereFrom 0 (body_ops b)) value_is
      (go (port_ref passed.callee.ports (map (ref_by (position_of (ids_of b))) passed.instance.operands) passed.input)
      (λ r is. joined_named passed.callee.ports (map (ref_by (position_of (ids_of b))) passed.instance.operands) passed.input r is))
    where
      go : (x : Option Ref) → ((r : Ref) → x ≡ Some r → In r (map (ref_by (position_of (ids_of b))) passed.instance.operands)) → IsThereFrom 0 (body_ops b) (ref_or_undefined x)
      go None named = none_there 0 (body_ops b)
      go (Some r) named =
          all (op_by (position_of (ids_of b)) passed.instance) r
          (In-slice_get (op_by (position_of (ids_of b)) passed.instance) (map (op_by (position_of (ids_of b))) (ops_of b)) (position_of (ids_of b) op.index) at_own) (named r refl)

  value_ends : IsFinal look (ops_of b) v → IsEnd look 0 (body_ops b) (ref_by (position_of (ids_of b)) v)
  unfolding body_ops
  value_ends final = go v final
    where
      found_in : (id : OpId) (z : Op) (x : Option BodyOp) → op_at (ops_of b) id.index ≡ x → IfSome x (λ o. by_kind look o.parts.kind ≡ None)
          → slice_get (map (op_by (position_of (ids_of b))) (ops_of b)) (position_of (ids_of b) id.index) ≡ Some z → by_symbol look z ≡ None
      found_in id z None is none at =
          let p = parted id.index (ops_of b) (contained_times (ids_of b) id.index (there_by id.index z at)) in
          let found : op_at (ops_of b) id.index ≡ Some p.op = ap₂ op_at p.all (sym p.is) ∙ middle_found p.prefix p.op p.back (ap (λ n. times n (ids_in p.prefix)) p.is ∙ p.none) in
          let clash : None ≡ Some p.op = sym is ∙ found in cc
      found_in id z (Some o) is none at =
          let both : Some (op_by (position_of (ids_of b)) o) ≡ Some z = sym (op_at_position (op_by (position_of (ids_of b))) id.index (ops_of b) o is) ∙ at in
          let same : op_by (position_of (ids_of b)) o ≡ z = cc in
          ap (by_symbol look) (sym same) ∙ none

      go : (w : Value) → IsFinal look (ops_of b) w → IsEnd look 0 (map (op_by (position_of (ids_of b))) (ops_of b)) (ref_by (position_of (ids_of b)) w)
      go (Port n) none j l is past z at = cc
      go Undefined none j l is past z at = cc
      go (Result id m) none j l is past z at =
          let same : position_of (ids_of b) id.index ≡ j = cc in
          found_in id z (op_at (ops_of b) id.index) refl none (ap (slice_get (map (op_by (position_of (ids_of b))) (ops_of b))) same ∙ at)

  passes : IsFinal look (ops_of b) v → Passes look 0 (position_of (ids_of b) op.index) k (ref_by (position_of (ids_of b)) v) (body_ops b)
  unfolding body_ops
  passes final =
      let typed = slice_get_some passed.instance.parts.results k passed.within in
      record {
        op = op_by (position_of (ids_of b)) passed.instance;
        there = ap (slice_get (map (op_by (position_of (ids_of b))) (ops_of b))) (let e : 0 + position_of (ids_of b) op.index ≡ position_of (ids_of b) op.index = omega arith in e) ∙ at_own;
        callee = passed.callee;
        is = passed.is;
        type = typed.0.type;
        typed = ap (option_map (λ (q : OpResult). q.type)) typed.1;
        input = passed.input;
        gives = passed.gives;
        takes = value_is;
        ends = value_ends final;
      }

  pub forwarded : (b' : Body) → ops_of b' ≡ all_replaced (Result op k) v (ops_of b) → IsFinal look (ops_of b) v → InlinesAlike (by_symbol look) b b'
  unfolding body_ops
  forwarded b' now final = record {
    ids = ap ids_in now ∙ ids-all_replaced (Result op k) v (ops_of b);
    there = subst (HaveThereFrom 0) (sym is) still;
    alike = ap (inline_all (by_symbol look)) is ∙ all_moved look (position_of (ids_of b) op.index) k (ref_by (position_of (ids_of b)) v) (body_ops b) (passes final);
  }
    where
      f : Ref → Ref
      f = replaced_ref (result (position_of (ids_of b) op.index) k) (ref_by (position_of (ids_of b)) v)

      is : body_ops b' ≡ map (retarget (replaced_ref (result (position_of (ids_of b) op.index) k) (ref_by (position_of (ids_of b)) v))) (body_ops b)
      is =
          ap ops_by_position now
          ∙ numbered-all_replaced (Result op k) v (ops_of b) (there_live b op (λ o r here named j n e. let was = all o r here named j n e in record { op = was.op; there = was.there; within = λ h. was.within (omega arith) }))
          (there_by op.index (op_by (position_of (ids_of b)) passed.instance) at_own)

      moved_there : (r : Ref) → IsThereFrom 0 (body_ops b) r
          → IsThereFrom 0 (map (retarget (replaced_ref (result (position_of (ids_of b) op.index) k) (ref_by (position_of (ids_of b)) v))) (body_ops b)) r
      moved_there r at j n e =
          let was = at j n e in
          record {
            op = retarget (replaced_ref (result (position_of (ids_of b) op.index) k) (ref_by (position_of (ids_of b)) v)) was.op;
            there = slice_get-map (retarget (replaced_ref (result (position_of (ids_of b) op.index) k) (ref_by (position_of (ids_of b)) v))) (body_ops b) j
                ∙ ap (option_map (retarget (replaced_ref (result (position_of (ids_of b) op.index) k) (ref_by (position_of (ids_of b)) v)))) was.there;
            within = was.within;
          }

      pick : (r : Ref) (t : Bool) → IsThereFrom 0 (body_ops b) r → IsThereFrom 0 (body_ops b) (cond t (ref_by (position_of (ids_of b)) v) r)
      pick r true at = value_there
      pick r false at = at

      still : HaveThereFrom 0 (map (retarget (replaced_ref (result (position_of (ids_of b) op.index) k) (ref_by (position_of (ids_of b)) v))) (body_ops b))
      still o r here named =
          let from = from_In-map (retarget (replaced_ref (result (position_of (ids_of b) op.index) k) (ref_by (position_of (ids_of b)) v))) o (body_ops b) here in
          let was = from_In-map (replaced_ref (result (position_of (ids_of b) op.index) k) (ref_by (position_of (ids_of b)) v)) r from.0.operands
          (subst (λ (z : Op). In r z.operands) from.2 named) in
          subst (IsThereFrom 0 (map (retarget (replaced_ref (result (position_of (ids_of b) op.index) k) (ref_by (position_of (ids_of b)) v))) (body_ops b))) (sym was.2)
          (moved_there (replaced_ref (result (position_of (ids_of b) op.index) k) (ref_by (position_of (ids_of b)) v) was.0)
          (pick was.0 (same_ref (result (position_of (ids_of b) op.index) k) was.0) (all from.0 was.0 from.1 was.1)))

-- ---- what an instance passes through

pub none_own : (op : OpId) (vs : List Value) → list_any (is_of op.index) vs ≡ false → All (λ y. is_of op.index y ≡ false) vs
none_own op [] none = all_none (λ y. is_of op.index y ≡ false)
none_own op (v ∷ vs) none =
    let both = neither (is_of op.index v) (list_any (is_of op.index) vs) none in
    all_with (λ y. is_of op.index y ≡ false) v vs both.0 (none_own op vs both.1)

pub passed_input : (given joined : List Value) (k : ℕ) (v : Value) → Some v ≡ passed_value given joined k
    → (j : ℕ) × (slice_get given k ≡ Some (Port j)) × (value_or_undefined (slice_get joined j) ≡ v)
passed_input given joined k v is = go (slice_get given k) refl is
  where
    go : (x : Option Value) → slice_get given k ≡ x → Some v ≡ joined_to joined x → (j : ℕ) × (slice_get given k ≡ Some (Port j)) × (value_or_undefined (slice_get joined j) ≡ v)
    go None at e = cc
    go (Some (Port j)) at e = (j, at, let same : value_or_undefined (slice_get joined j) ≡ v = cc in same)
    go (Some (Result id n)) at e = cc
    go (Some Undefined) at e = cc

pub is_passed : (look : Name → Option Module) (ops : List BodyOp) (op : OpId) (k : ℕ) (v : Value) (x : BodyOp) (c : Module) (own : List BodyOp) (given joined : List Value)
    → op_at ops op.index ≡ Some x → c.body ≡ ops_by_position own → by_kind look x.parts.kind ≡ Some c → k < length x.parts.results
    → given ≡ output_values own → joined ≡ joined_values c.ports x.operands → Some v ≡ passed_value given joined k → list_any (is_of op.index) x.operands ≡ false
    → IsPassed look ops op k v
is_passed look ops op k v x c own given joined found body is within given_are joined_are passed none =
    let p = passed_input given joined k v passed in
    record {
      instance = x;
      found = found;
      callee = c;
      is = is;
      within = within;
      input = p.0;
      gives =
          ap (λ os. slice_get (output_refs os) k) body ∙ ap (λ rs. slice_get rs k) (outputs_seen (position_of (ids_in own)) own)
          ∙ slice_get-map (ref_by (position_of (ids_in own))) (output_values own) k
          ∙ ap (option_map (ref_by (position_of (ids_in own)))) (ap (λ vs. slice_get vs k) (sym given_are) ∙ p.1);
      takes = ap (λ vs. value_or_undefined (slice_get vs p.0)) (sym joined_are) ∙ p.2;
      others = none_own op x.operands none;
    }

pub if_passed : (look : Name → Option Module) (ops : List BodyOp) (op : OpId) (k : ℕ) (r : Option Value) (x : BodyOp) (c : Module) (own : List BodyOp) (given joined : List Value)
    → op_at ops op.index ≡ Some x → c.body ≡ ops_by_position own → by_kind look x.parts.kind ≡ Some c → k < length x.parts.results
    → given ≡ output_values own → joined ≡ joined_values c.ports x.operands → r ≡ passed_value given joined k → list_any (is_of op.index) x.operands ≡ false
    → IfSome r (λ v. IsPassed look ops op k v)
if_passed look ops op k None x c own given joined found body is within given_are joined_are passed none = tt
if_passed look ops op k (Some v) x c own given joined found body is within given_are joined_are passed none =
    is_passed look ops op k v x c own given joined found body is within given_are joined_are passed none
