-- A body in code in which an instance is inlined.
use Rattle.std.proofs.Common.{◌≡◌, ℕ, zero, suc, ◌<◌, true, List, [], ◌∷◌, ◌++◌, length, map, take, drop, Option, Some, None, slice_get, refl, sym, ap, ap₂, subst, ◌∙◌, arith, option_and_then, option_map}
use Rattle.std.specs.Prelude.{All, IfSome, is_some}
use Rattle.wiring.specs.Wiring.{In}
use Rattle.wiring.proofs.Members.{In-map, position_of_In, All-from_members, All-member}
use Rattle.hw_model.specs.Types.{Name}
use Rattle.hw_model.specs.Kinds.{Kind}
use Rattle.hw_model.specs.Kinds.Kind.{instance}
use Rattle.hw_model.specs.Design.{Op, OpResult, Module, result_type}
use Rattle.hw_model.specs.Design.Ref.{result}
use Rattle.linked_lists.specs.Ids.{times}
use Rattle.linked_lists.proofs.IdLemmas.{contained_times}
use Rattle.ir_store.specs.declared.body.Body.{Body}
use Rattle.ir_store.specs.declared.operation.OpId.{OpId}
use Rattle.ir_store.specs.declared.operation.Value.{Value}
use Rattle.ir_store.specs.declared.operation.Value.TheVariants.{Port, Result, Undefined}
use Rattle.ir_store.specs.Bodies.{ids_of, ops_of}
use Rattle.ir_store.specs.BodyOps.{BodyOp, ids_in, op_at}
use Rattle.ir_store.specs.Live.{IsLive, HasLive, AreLive}
use Rattle.ir_store.specs.Numbered.{position_of, ref_by, op_by, ops_by_position}
use Rattle.ir_store.proofs.BodyLemmas.{ids_once}
use Rattle.inline_laws.specs.Inline.{wire_count, inline_op}
use Rattle.inline_laws.specs.Unwire.{unwire}
use Rattle.body_edits.specs.FitBodies.{IsOfFit}
use Rattle.acceptance_laws.proofs.FitBodies.{operand_there}
use Rattle.body_edits.specs.Views.{HasOp, body_ops, position_in}
use Rattle.body_edits.proofs.Positions.{op_at_position, position_there}
use Rattle.inline_pass.specs.Flattening.{instance_name, inlined_at}
use Rattle.inline_pass.specs.Renaming.{renamed}
use Rattle.inline_pass.specs.Inlinable.{IsInlinedAt, own_name}
use Rattle.inline_pass.specs.MovedOps.{ArePutBefore}
use Rattle.inline_pass.specs.OperandsThere.{IsResultThere, HaveThereFrom}
use Rattle.std.proofs.lemmas.List.{length-map}
use Rattle.std.proofs.lemmas.Option.{slice_get_within}
use Rattle.body_edits.specs.WiresOut.{first_position, ids_without}
use Rattle.body_edits.proofs.IdLists.{ids_append, parted, middle_found}
use Rattle.inline_pass.proofs.InliningValues.{numbers, IsOld}
use Rattle.inline_pass.proofs.InliningOps.{take_prefix, drop_prefix}
use Rattle.inline_pass.proofs.InstanceInlined.{apart, out, finished, finished_ids, stood, many_moved}

-- ---- results that operands name

module _ (b : Body) (op : OpId) (there : HaveThereFrom (position_in b op) (body_ops b)) where
  named_there : (y : BodyOp) (v : OpId) (k : ℕ) → In y (ops_of b) → In (Result v k) y.operands → IsResultThere (position_in b op) (body_ops b) (position_of (ids_of b) v.index) k
  unfolding body_ops
  named_there y v k among named =
      there (op_by (position_of (ids_of b)) y) (result (position_of (ids_of b) v.index) k) (In-map (op_by (position_of (ids_of b))) y (ops_of b) among)
      (In-map (ref_by (position_of (ids_of b))) (Result v k) y.operands named) (position_of (ids_of b) v.index) k refl

  -- operands are there
  pub there_live : AreLive (ops_of b)
  unfolding body_ops
  there_live = All-from_members (HasLive (ids_of b)) (ops_of b) (λ y among. All-from_members (IsLive (ids_of b)) y.operands (λ v named. live y v among named))
    where
      live : (y : BodyOp) (v : Value) → In y (ops_of b) → In v y.operands → IsLive (ids_of b) v
      live y (Port n) among named = tt
      live y Undefined among named = tt
      live y (Result v k) among named =
          let at = named_there y v k among named in
          let within = slice_get_within (body_ops b) (position_of (ids_of b) v.index) at.op at.there in
          let long = length-map (ops_of b) (op_by (position_of (ids_of b))) in
          let many = length-map (ops_of b) (λ (o : BodyOp). o.id) in
          position_there (ids_of b) v.index (omega (arith, within, long, many))

  -- an operand is one of the results that the operation has
  results_within : (x y : BodyOp) (v : OpId) (k : ℕ) → op_at (ops_of b) op.index ≡ Some x → In y (ops_of b) → In (Result v k) y.operands → v.index ≡ op.index → k < length x.parts.results
  unfolding body_ops position_in
  results_within x y v k found among named is =
      let at = named_there y v k among named in
      let here : slice_get (body_ops b) (position_of (ids_of b) v.index) ≡ Some (op_by (position_of (ids_of b)) x) =
      ap (λ n. slice_get (body_ops b) (position_of (ids_of b) n)) is ∙ op_at_position (op_by (position_of (ids_of b))) op.index (ops_of b) x found in
      let both : Some (op_by (position_of (ids_of b)) x) ≡ Some at.op = sym here ∙ at.there in
      let same : op_by (position_of (ids_of b)) x ≡ at.op = cc in
      let position : position_of (ids_of b) op.index ≡ position_of (ids_of b) v.index = ap (position_of (ids_of b)) (sym is) in
      subst (λ (z : Op). k < length z.results) (sym same) (at.within (omega (arith, position)))

pub fit_there : (b : Body) → IsOfFit b → HaveThereFrom 0 (body_ops b)
fit_there b of o r here named j k is =
    let at = position_of_In o of.owner.body (subst (In o) (sym of.is_body) here) in
    let some = operand_there of.design of.fit of.number of.owner of.there at.0 o (result j k) at.1 (subst (λ z. In z o.operands) is named) in
    go (slice_get (body_ops b) j) refl (sym (ap (λ os. is_some (option_and_then (λ (z : Op). result_type z k) (slice_get os j))) of.is_body) ∙ some)
  where
    typed : (rs : List OpResult) (n : ℕ) → is_some (option_map (λ (q : OpResult). q.type) (slice_get rs n)) ≡ true → n < length rs
    typed [] n some = cc
    typed (q ∷ rs) zero some = omega arith
    typed (q ∷ rs) (suc n) some = let h = typed rs n some in omega (arith, h)

    go : (x : Option Op) → slice_get (body_ops b) j ≡ x → is_some (option_and_then (λ (z : Op). result_type z k) x) ≡ true → IsResultThere 0 (body_ops b) j k
    go None at some = cc
    go (Some z) at some = record { op = z; there = at; within = λ h. typed z.results k some }

-- ---- the parts of the body

pub record IsPut (b : Body) (op : OpId) (c : Module) (own : List BodyOp) (wires : List OpId) (after : List BodyOp) : Type 0 where
  pub prefix : List BodyOp
  pub x : BodyOp
  pub back : List BodyOp
  pub same : x.id ≡ op.index
  pub found : op_at (ops_of b) op.index ≡ Some x
  pub all : ops_of b ≡ prefix ++ (x ∷ back)
  pub put : ArePutBefore (own_name x.parts.kind) c.ports own x (prefix ++ (x ∷ back)) after wires

pub is_put : (b : Body) (op : OpId) (c : Module) (own : List BodyOp) (wires : List OpId) (after : List BodyOp) → HasOp b op
    → IfSome (op_at (ops_of b) op.index) (λ (o : BodyOp). ArePutBefore (own_name o.parts.kind) c.ports own o (ops_of b) after wires) → IsPut b op c own wires after
is_put b op c own wires after there put =
    let p = parted op.index (ops_of b) (contained_times (ids_of b) op.index there) in
    let found : op_at (ops_of b) op.index ≡ Some p.op =
    ap₂ op_at p.all (sym p.is) ∙ middle_found p.prefix p.op p.back (ap (λ v. times v (ids_in p.prefix)) p.is ∙ p.none) in
    record {
      prefix = p.prefix;
      x = p.op;
      back = p.back;
      same = p.is;
      found = found;
      all = p.all;
      put = subst (λ os. ArePutBefore (own_name p.op.parts.kind) c.ports own p.op os after wires) p.all
          (subst (λ (z : Option BodyOp). IfSome z (λ (o : BodyOp). ArePutBefore (own_name o.parts.kind) c.ports own o (ops_of b) after wires)) found put);
    }

module _ (b b1 : Body) (op : OpId) (there : HaveThereFrom (position_in b op) (body_ops b)) (c : Module) (own : List BodyOp) (wires : List OpId) (p : IsPut b op c own wires (ops_of b1)) where
  old_ids_are : ids_of b ≡ ids_in p.prefix ++ (op.index ∷ ids_in p.back)
  old_ids_are = ap ids_in p.all ∙ ids_append p.prefix (p.x ∷ p.back) ∙ ap (λ n. ids_in p.prefix ++ (n ∷ ids_in p.back)) p.same

  abbrev pub Old : Value → Type 0
  Old = IsOld (ids_in p.prefix) op (ids_in p.back) wires p.put.copies (apart p.prefix p.x p.back op p.same (own_name p.x.parts.kind) c own wires (ops_of b1) p.put (ids_once b1))

  -- what the operands of the body are
  pub olds : All (λ (o : BodyOp). All Old o.operands) (p.prefix ++ (p.x ∷ p.back))
  olds =
      subst (All (λ (o : BodyOp). All Old o.operands)) p.all
      (All-from_members (λ (o : BodyOp). All Old o.operands) (ops_of b)
      (λ y among. All-from_members Old y.operands (λ v named. record {
        live = subst (λ ids. IsLive ids v) old_ids_are
            (All-member (IsLive (ids_of b)) y.operands (All-member (HasLive (ids_of b)) (ops_of b) (there_live b op there) y among) v named);
        within = λ id k is own_id. subst (λ n. k < n) (sym p.put.many_wires)
            (results_within b op there p.x y id k p.found among (subst (λ (z : Value). In z y.operands) is named) own_id);
      })))

-- ---- the name of an instance

name_is : (o : Op) (k : Kind) → instance_name (record o { kind = k }) ≡ own_name k
name_is o (instance i) = refl
name_is o _ = refl

-- ---- the body at the end

module _ (b b1 b3 b4 : Body) (op : OpId) (all : HaveThereFrom (position_in b op) (body_ops b)) (c : Module) (own : List BodyOp) (wires : List OpId) (p : IsPut b op c own wires (ops_of b1))
    (left : ops_of b3 ≡ out p.prefix p.x p.back op p.same (own_name p.x.parts.kind) c own wires (ops_of b1) p.put (ids_once b1))
    (ops_are : body_ops b4 ≡ unwire (first_position (ids_of b3) wires) (length wires) (body_ops b3)) (ids_are : ids_of b4 ≡ ids_without wires (ids_of b3)) where
  position_is : position_of (ids_of b) op.index ≡ length (ids_in p.prefix)
  position_is =
      ap (λ ids. position_of ids op.index) (old_ids_are b b1 op all c own wires p)
      ∙ stood p.prefix p.x p.back op p.same (own_name p.x.parts.kind) c own wires (ops_of b1) p.put (ids_once b1) (olds b b1 op all c own wires p)

  pub inlined : (o : Op) → slice_get (body_ops b) (position_in b op) ≡ Some o → IsInlinedAt b b4 (position_in b op) o (record c { body = ops_by_position own })
  unfolding body_ops position_in
  inlined o there =
      let seen : ops_by_position (ops_of b) ≡ map (op_by (position_of (ids_in p.prefix ++ (op.index ∷ ids_in p.back)))) (p.prefix ++ (p.x ∷ p.back)) =
      ap₂ (λ (ids : List ℕ) (os : List BodyOp). map (op_by (position_of ids)) os) (old_ids_are b b1 op all c own wires p) p.all in
      let here : op_by (position_of (ids_in p.prefix ++ (op.index ∷ ids_in p.back))) p.x ≡ o = own_op o there in
      let name : own_name p.x.parts.kind ≡ instance_name o = sym (name_is o o.kind ∙ ap (λ (z : Op). own_name z.kind) (sym here)) in
      record {
        ops = ops_are
            ∙ ap (λ (os : List BodyOp). unwire (first_position (ids_in os) wires) (length wires) (ops_by_position os)) left
            ∙ finished p.prefix p.x p.back op p.same (own_name p.x.parts.kind) c own wires (ops_of b1) p.put (ids_once b1) (olds b b1 op all c own wires p)
            ∙ ap (λ (z : Op). unwire (length (ids_in p.prefix)) (wire_count z) (inline_op (renamed (own_name p.x.parts.kind)) (length (ids_in p.prefix)) z (record c { body = ops_by_position own })
            (map (op_by (position_of (ids_in p.prefix ++ (op.index ∷ ids_in p.back)))) (p.prefix ++ (p.x ∷ p.back))))) here
            ∙ ap₂ (λ (u : Name) (n : ℕ). unwire n (wire_count o) (inline_op (renamed u) n o (record c { body = ops_by_position own })
            (map (op_by (position_of (ids_in p.prefix ++ (op.index ∷ ids_in p.back)))) (p.prefix ++ (p.x ∷ p.back))))) name (sym position_is)
            ∙ ap (inlined_at (position_of (ids_of b) op.index) o (record c { body = ops_by_position own })) (sym seen);
        fresh = numbers p.put.copies;
        many = many_moved p.prefix p.x p.back op p.same (own_name p.x.parts.kind) c own wires (ops_of b1) p.put (ids_once b1) (olds b b1 op all c own wires p);
        ids = ids_are ∙ ap (λ (os : List BodyOp). ids_without wires (ids_in os)) left
            ∙ finished_ids p.prefix p.x p.back op p.same (own_name p.x.parts.kind) c own wires (ops_of b1) p.put (ids_once b1)
            ∙ sym (ap₂ (λ (n : ℕ) (ids : List ℕ). take n ids ++ (numbers p.put.copies ++ drop (suc n) ids)) position_is (old_ids_are b b1 op all c own wires p)
            ∙ ap₂ (λ ps qs. ps ++ (numbers p.put.copies ++ qs)) (take_prefix (ids_in p.prefix) (op.index ∷ ids_in p.back)) (drop_prefix (ids_in p.prefix) op.index (ids_in p.back)));
      }
    where
      own_op : (o : Op) → slice_get (ops_by_position (ops_of b)) (position_of (ids_of b) op.index) ≡ Some o
          → op_by (position_of (ids_in p.prefix ++ (op.index ∷ ids_in p.back))) p.x ≡ o
      own_op o there =
          let at : Some (op_by (position_of (ids_of b)) p.x) ≡ Some o = sym (op_at_position (op_by (position_of (ids_of b))) op.index (ops_of b) p.x p.found) ∙ there in
          let is : op_by (position_of (ids_of b)) p.x ≡ o = cc in
          ap (λ ids. op_by (position_of ids) p.x) (sym (old_ids_are b b1 op all c own wires p)) ∙ is
