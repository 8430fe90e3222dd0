-- A body whose operations are inlined one after another.
use Rattle.std.proofs.Common.{◌≡◌, ℕ, suc, ◌+◌, Bool, true, false, cond, List, [], ◌∷◌, ◌++◌, length, map, take, drop, Option, Some, None, slice_get, refl, sym, ap, ap₂, subst, ◌∙◌, arith, option_and_then}
use Rattle.std.proofs.lemmas.List.{append_assoc, length-map, length-append}
use Rattle.wiring.specs.Wiring.{In}
use Rattle.wiring.proofs.Members.{In-slice_get}
use Rattle.hw_model.specs.Types.{Name}
use Rattle.hw_model.specs.Kinds.{Instance}
use Rattle.hw_model.specs.Design.{Op, Module, Design, find_module, instance_in, callee}
use Rattle.hw_model.specs.Hierarchy.{callee_symbols}
use Rattle.hw_model.specs.Sound.{body_of}
use Rattle.hw_model.proofs.Gone.{called_In}
use Rattle.edit_laws.specs.Laws.{with_body}
use Rattle.edit_laws.proofs.Follows.{set_each}
use Rattle.edit_laws.proofs.ResetsKept.{find_symbol}
use Rattle.design_cycles.proofs.Callees.{found_at}
use Rattle.op_verifier.proofs.Distinct.{distinct_symbols}
use Rattle.linked_lists.specs.Ids.{times}
use Rattle.linked_lists.proofs.IdLemmas.{contained_times, times_contained, times-append}
use Rattle.ir_store.specs.declared.body.Body.{Body}
use Rattle.ir_store.specs.declared.operation.OpId.{OpId}
use Rattle.ir_store.specs.Bodies.{ids_of, ops_of, op_id}
use Rattle.ir_store.specs.BodyOps.{BodyOp, ids_in, op_at}
use Rattle.ir_store.specs.Live.{AreDistinct}
use Rattle.ir_store.specs.Numbered.{position_of, op_by}
use Rattle.ir_store.proofs.BodyLemmas.{ids_once, index_ids}
use Rattle.acceptance_laws.specs.Keeps.{IsFit}
use Rattle.pass_laws.proofs.Steps.{module_there}
use Rattle.inline_laws.specs.Inline.{moved_count}
use Rattle.body_edits.specs.Views.{HasOp, body_ops, position_in}
use Rattle.body_edits.proofs.Positions.{op_at_position}
use Rattle.inline_pass.specs.Flattening.{inlined_at, inline_at, inline_from, inline_all, if_private, by_kind, by_symbol}
use Rattle.inline_pass.specs.Inlinable.{IsStep, IsStepAt}
use Rattle.inline_pass.specs.Forwarding.{InlinesAlike}
use Rattle.inline_pass.specs.OperandsThere.{HaveThereFrom}
use Rattle.inline_pass.proofs.OperandsThere.{later_there, inlined_there}
use Rattle.body_edits.proofs.IdLists.{once_before, times_self, position_back, position_self, parted, middle_found}
use Rattle.inline_pass.proofs.InliningValues.{numbers}
use Rattle.inline_pass.proofs.InliningOps.{take_prefix, drop_prefix}

-- ---- the module of an instance

pub private_is : (x : Option Module) (c : Module) → option_and_then if_private x ≡ Some c → x ≡ Some c
private_is None c is = cc
private_is (Some y) c is = go y.is_private is
  where
    go : (b : Bool) → cond b (Some y) None ≡ Some c → Some y ≡ Some c
    go true e = e
    go false e = cc

-- ---- one step after another

pub record IsWalking (inner : Op → Option Module) (old now : Body) (rest : List OpId) : Type 0 where
  pub done : List ℕ
  pub ids : ids_of now ≡ done ++ numbers rest
  pub there : HaveThereFrom (length done) (body_ops now)
  pub left : inline_from inner (length rest) (length done) (body_ops now) ≡ inline_all inner (body_ops old)

pub walk_begins : (inner : Op → Option Module) (old b : Body) (all : List OpId) → all ≡ map op_id (ids_of old) → InlinesAlike inner old b → IsWalking inner old b all
unfolding body_ops
walk_begins inner old b all was alike = let is : all ≡ map op_id (ids_of b) = was ∙ ap (map op_id) (sym alike.ids) in record {
  done = [];
  ids = sym (ap numbers is ∙ index_ids (ids_of b));
  there = alike.there;
  left = ap (λ n. inline_from inner n 0 (body_ops b))
      (ap length is ∙ length-map (ids_of b) op_id ∙ length-map (ops_of b) (λ (o : BodyOp). o.id) ∙ sym (length-map (ops_of b) (op_by (position_of (ids_of b)))))
      ∙ alike.alike;
}

pub next_there : (inner : Op → Option Module) (old now : Body) (id : OpId) (rest : List OpId) → IsWalking inner old now (id ∷ rest) → HasOp now id
next_there inner old now id rest w =
    let all = ap (times id.index) w.ids ∙ times-append id.index w.done (id.index ∷ numbers rest) in
    let own = times_self id.index (numbers rest) in
    times_contained (ids_of now) id.index (omega (arith, all, own))

-- where it is
pub next_position : (inner : Op → Option Module) (old now : Body) (id : OpId) (rest : List OpId) (w : IsWalking inner old now (id ∷ rest)) → position_in now id ≡ length w.done
unfolding position_in
next_position inner old now id rest w =
    let once : AreDistinct (w.done ++ (id.index ∷ numbers rest)) = subst AreDistinct w.ids (ids_once now) in
    let none = once_before w.done id.index (numbers rest) once in
    let back = ap (λ ids. position_of ids id.index) w.ids ∙ position_back w.done (id.index ∷ numbers rest) id.index none in
    let zero_is = position_self id.index (numbers rest) in
    omega (arith, back, zero_is)

-- its operands, and those of the others, are there
pub next_operands : (inner : Op → Option Module) (old now : Body) (id : OpId) (rest : List OpId) → IsWalking inner old now (id ∷ rest) → HaveThereFrom (position_in now id) (body_ops now)
next_operands inner old now id rest w = subst (λ n. HaveThereFrom n (body_ops now)) (sym (next_position inner old now id rest w)) w.there

at_none : (inner : Op → Option Module) (rest : ℕ → List Op → List Op) (i : ℕ) (os : List Op) (o : Op) → slice_get os i ≡ Some o → inner o ≡ None → inline_at inner rest i os ≡ rest (suc i) os
at_none inner rest i os o there none = rw (there, none) refl

at_some : (inner : Op → Option Module) (rest : ℕ → List Op → List Op) (i : ℕ) (os : List Op) (o : Op) (c : Module) → slice_get os i ≡ Some o → inner o ≡ Some c
    → inline_at inner rest i os ≡ rest (i + moved_count c) (inlined_at i o c os)
at_some inner rest i os o c there some = rw (there, some) refl

pub walk_goes : (inner : Op → Option Module) (old now next : Body) (id : OpId) (rest : List OpId) → IsWalking inner old now (id ∷ rest) → IsStepAt inner now next (position_in now id)
    → IsWalking inner old next rest
unfolding body_ops position_in
walk_goes inner old now next id rest w step =
    let position : position_of (ids_of now) id.index ≡ length w.done = next_position inner old now id rest w in
    let p = parted id.index (ops_of now) (contained_times (ids_of now) id.index (next_there inner old now id rest w)) in
    let found = ap₂ op_at p.all (sym p.is) ∙ middle_found p.prefix p.op p.back (ap (λ v. times v (ids_in p.prefix)) p.is ∙ p.none) in
    let there = op_at_position (op_by (position_of (ids_of now))) id.index (ops_of now) p.op found in
    go (op_by (position_of (ids_of now)) p.op) (ap (slice_get (body_ops now)) (sym position) ∙ there) (inner (op_by (position_of (ids_of now)) p.op)) refl
    (subst (λ n. IsStep now next n (op_by (position_of (ids_of now)) p.op) (inner (op_by (position_of (ids_of now)) p.op))) position (step (op_by (position_of (ids_of now)) p.op) there))
  where
    go : (o : Op) → slice_get (body_ops now) (length w.done) ≡ Some o → (x : Option Module) → inner o ≡ x → IsStep now next (length w.done) o x → IsWalking inner old next rest
    go o there None is (same, same_ids) = record {
      done = w.done ++ (id.index ∷ []);
      ids = same_ids ∙ w.ids ∙ sym (append_assoc w.done (id.index ∷ []) (numbers rest));
      there = subst (λ os. HaveThereFrom (length (w.done ++ (id.index ∷ []))) os) (sym same)
          (subst (λ n. HaveThereFrom n (body_ops now)) (let h = length-append w.done (id.index ∷ []) in omega (arith, h)) (later_there (length w.done) (body_ops now) w.there));
      left =
          let long : length (w.done ++ (id.index ∷ [])) ≡ suc (length w.done) = (let h = length-append w.done (id.index ∷ []) in omega (arith, h)) in
          ap₂ (λ n os. inline_from inner (length rest) n os) long same
          ∙ sym (at_none inner (λ j xs. inline_from inner (length rest) j xs) (length w.done) (body_ops now) o there is) ∙ w.left;
    }
    go o there (Some c) is made = record {
      done = w.done ++ made.fresh;
      ids = made.ids ∙ ap (λ ids. take (length w.done) ids ++ (made.fresh ++ drop (suc (length w.done)) ids)) w.ids
          ∙ ap₂ (λ ps qs. ps ++ (made.fresh ++ qs)) (take_prefix w.done (id.index ∷ numbers rest)) (drop_prefix w.done id.index (numbers rest))
          ∙ sym (append_assoc w.done made.fresh (numbers rest));
      there = subst (λ os. HaveThereFrom (length (w.done ++ made.fresh)) os) (sym made.ops)
          (subst (λ n. HaveThereFrom n (inlined_at (length w.done) o c (body_ops now))) (sym (length-append w.done made.fresh ∙ ap (λ n. length w.done + n) made.many))
          (inlined_there (length w.done) o c (body_ops now) there w.there));
      left =
          let long : length (w.done ++ made.fresh) ≡ length w.done + moved_count c = length-append w.done made.fresh ∙ ap (λ n. length w.done + n) made.many in
          ap₂ (λ n os. inline_from inner (length rest) n os) long made.ops
          ∙ sym (at_some inner (λ j xs. inline_from inner (length rest) j xs) (length w.done) (body_ops now) o c there is) ∙ w.left;
    }

-- ---- the operation that is worked on

pub seen_there : (b : Body) (op : OpId) (x : BodyOp) → op_at (ops_of b) op.index ≡ Some x → slice_get (body_ops b) (position_in b op) ≡ Some (op_by (position_of (ids_of b)) x)
unfolding body_ops position_in
seen_there b op x found = op_at_position (op_by (position_of (ids_of b))) op.index (ops_of b) x found

-- what its module is by its kind
pub module_is : (b : Body) (op : OpId) (x : BodyOp) (look : Name → Option Module) (y : Option Module) → op_at (ops_of b) op.index ≡ Some x → y ≡ by_kind look x.parts.kind → (o : Op)
    → slice_get (body_ops b) (position_in b op) ≡ Some o → by_symbol look o ≡ y
module_is b op x look y found is o there =
    let both : Some (op_by (position_of (ids_of b)) x) ≡ Some o = sym (seen_there b op x found) ∙ there in
    let same : op_by (position_of (ids_of b)) x ≡ o = cc in
    ap (λ (z : Op). by_kind look z.kind) (sym same) ∙ sym is
