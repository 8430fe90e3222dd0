-- What is known of the operations of the body of a module of a fit design.
use Rattle.std.proofs.Common.{◌≡◌, ℕ, zero, suc, ◌<◌, ◌≤◌, ◌||◌, ℤ, true, false, List, [], ◌∷◌, map, length, Option, Some, None, slice_get, refl, sym, ap, subst, ◌∙◌, arith, option_and_then, option_map}
use Rattle.std.specs.Prelude.{is_some, nat_lt, ◌==◌}
use Rattle.std.specs.List.{list_any}
use Rattle.std.proofs.lemmas.Bool.{ltb-false}
use Rattle.std.proofs.lemmas.Bool.Decides.{nat_tests}
use Rattle.std.proofs.lemmas.List.{length-map}
use Rattle.std.proofs.lemmas.Option.{slice_get_within}
use Rattle.wiring.specs.Wiring.{In}
use Rattle.wiring.proofs.Members.{In-map, position_of_In, All-from_members}
use Rattle.hw_model.specs.Types.{HwType, width, leaves}
use Rattle.hw_model.specs.Types.HwType.{int}
use Rattle.hw_model.specs.Kinds.Kind.{constant}
use Rattle.hw_model.specs.Design.{Ref, OpResult, Op, Module, Design, result_type}
use Rattle.hw_model.specs.Design.Ref.{result}
use Rattle.hw_model.specs.Sound.{type_in}
use Rattle.hw_model.specs.Value.{nth_type}
use Rattle.ir_store.specs.declared.body.Body.{Body}
use Rattle.ir_store.specs.declared.operation.OpId.{OpId}
use Rattle.ir_store.specs.declared.operation.Value.{Value}
use Rattle.ir_store.specs.declared.operation.Value.TheVariants.{Port, Result, Undefined}
use Rattle.ir_store.specs.Bodies.{ids_of, ops_of}
use Rattle.type_inference.specs.ResultTypes.{result_types, result_type as type_of_result}
use Rattle.op_checks.specs.CountChecks.{type_count}
use Rattle.op_checks.specs.TypeChecks.{has_bad_part, is_outside}
use Rattle.op_checks.proofs.Widths.{neither}
use Rattle.op_verifier.proofs.NoCauseAlone.{no_cause_alone}
use Rattle.printing_laws.specs.Printable.{IsPrintableOp, settled_result}
use Rattle.ir_store.specs.BodyOps.{BodyOp, ids_in, all_replaced, IsUnused}
use Rattle.ir_store.specs.Live.{IsLive, HasLive, AreLive}
use Rattle.ir_store.specs.Numbered.{position_of, ref_by, op_by, ops_by_position}
use Rattle.acceptance_laws.specs.Keeps.{IsPrintableBody, IsFit}
use Rattle.acceptance_laws.proofs.Accepted.{each_at}
use Rattle.acceptance_laws.proofs.FitBodies.{own_cause_none, operand_there}
use Rattle.fold_laws.proofs.MadeKinds.{is_made}
use Rattle.fold_laws.proofs.Stands.{op_has_one}
use Rattle.body_edits.specs.FitBodies.{IsOfFit}
use Rattle.body_edits.specs.Readable.{IsWidth, IsReadable}
use Rattle.body_edits.specs.Replaceable.{HaveNoFurther, MayStand}
use Rattle.body_edits.specs.Replaced.{IsNamed}
use Rattle.body_edits.specs.Views.{body_ops, position_in, value_ref}
use Rattle.body_edits.proofs.Naming.{unused_replaced, first_named, other_value}
use Rattle.body_edits.proofs.Positions.{position_there}

module _ (d : Design) (fit : IsFit d) (k : ℕ) (md : Module) (at : slice_get d k ≡ Some md) where
  -- a value that some operation names has a type
  typed : (o : Op) (r : Ref) → In o md.body → In r o.operands → is_some (type_in md.ports md.body r) ≡ true
  typed o r there here =
      let position = position_of_In o md.body there in
      operand_there d fit k md at position.0 o r position.1 here

  -- a result that has a type is one of an operation that is there
  result_there : (j n : ℕ) → is_some (type_in md.ports md.body (result j n)) ≡ true → j < length md.body
  result_there j n some = go (slice_get md.body j) refl some
    where
      go : (x : Option Op) → slice_get md.body j ≡ x → is_some (option_and_then (λ (o : Op). result_type o n) x) ≡ true → j < length md.body
      go None is some = cc
      go (Some o) is some = slice_get_within md.body j o is

  -- nothing names a further result of an operation that has one
  pub no_further : (i : ℕ) (o : Op) → slice_get md.body i ≡ Some o → is_made o.kind ≡ true → HaveNoFurther i md.body
  no_further i o there made y in_body r here n is =
      let some : is_some (type_in md.ports md.body (result i (suc n))) ≡ true = ap (λ x. is_some (type_in md.ports md.body x)) (sym is) ∙ typed y r in_body here in
      let none : type_in md.ports md.body (result i (suc n)) ≡ None =
      ap (λ x. option_and_then (λ (z : Op). result_type z (suc n)) x) there ∙ op_has_one d fit k md at i o there made n in
      let clash : false ≡ true = ap is_some (sym none) ∙ some in
      cc

-- the operands of a body by ids are those of operations that are there
lives : (d : Design) → IsFit d → (k : ℕ) (md : Module) → slice_get d k ≡ Some md → (ops : List BodyOp) → md.body ≡ ops_by_position ops → AreLive ops
lives d fit k md at ops is =
    All-from_members (HasLive (ids_in ops)) ops
    (λ o here. All-from_members (IsLive (ids_in ops)) o.operands (λ v named. of_value v
    (typed d fit k md at (op_by (position_of (ids_in ops)) o) (ref_by (position_of (ids_in ops)) v)
    (subst (In (op_by (position_of (ids_in ops)) o)) (sym is) (In-map (op_by (position_of (ids_in ops))) o ops here))
    (In-map (ref_by (position_of (ids_in ops))) v o.operands named))))
  where
    of_value : (v : Value) → is_some (type_in md.ports md.body (ref_by (position_of (ids_in ops)) v)) ≡ true → IsLive (ids_in ops) v
    of_value (Port n) some = tt
    of_value Undefined some = tt
    of_value (Result id n) some =
        let below = result_there d fit k md at (position_of (ids_in ops) id.index) n some in
        let many = ap length is in
        let same = length-map ops (op_by (position_of (ids_in ops))) in
        let ids = length-map ops (λ (o : BodyOp). o.id) in
        position_there (ids_in ops) id.index (omega (arith, below, many, same, ids))

-- an operand by positions that is a result is one of an operation that is there
pub operand_within : (b : Body) → IsOfFit b → (j n : ℕ) → IsNamed (body_ops b) (result j n) → j < length (ids_of b)
unfolding body_ops
operand_within b of j n is =
    let here = subst (In is.op) (sym of.is_body) is.there in
    let below = result_there of.design of.fit of.number of.owner of.there j n (typed of.design of.fit of.number of.owner of.there is.op (result j n) here is.named) in
    let many = ap length of.is_body in
    let same = length-map (ops_of b) (op_by (position_of (ids_of b))) in
    let ids = length-map (ops_of b) (λ (o : BodyOp). o.id) in
    omega (arith, below, many, same, ids)

pub fit_live : (b : Body) → IsOfFit b → AreLive (ops_of b)
unfolding body_ops
fit_live b of = lives of.design of.fit of.number of.owner of.there (ops_of b) of.is_body

pub fit_no_further : (b : Body) → IsOfFit b → (i : ℕ) (o : Op) → slice_get (body_ops b) i ≡ Some o → is_made o.kind ≡ true → HaveNoFurther i (body_ops b)
fit_no_further b of i o there made =
    subst (HaveNoFurther i) of.is_body (no_further of.design of.fit of.number of.owner of.there i o (ap (λ os. slice_get os i) of.is_body ∙ there) made)

-- ---- the widths of constants

pub within_limits : (w : ℕ) → is_outside (int w) ≡ false → IsWidth w
unfolding is_outside
within_limits w within =
    let bad = (neither _ _ within).0 in
    let parts = neither (w == 0) (nat_lt 128 w) bad in
    let some : w == 0 ≡ false = parts.0 in
    record { some = grind (arith, nat_tests, some); few = ltb-false 128 w parts.1 }

first_bits : (z : ℤ) (ts : List HwType) (n w : ℕ) → list_any is_outside ts ≡ false → length ts ≡ type_count (constant z) n
    → option_map (λ (r : OpResult). r.type) (slice_get (map settled_result (result_types (constant z) ts n)) 0) ≡ Some (int w) → IsWidth w
unfolding result_types type_of_result type_count
first_bits z [] n w limits count typed = absurd (omega (arith, count))
first_bits z (t ∷ ts) n w limits count typed =
    let same : t ≡ int w = cc in
    within_limits w (ap is_outside (sym same) ∙ (neither (is_outside t) (list_any is_outside ts) limits).0)

constant_width : (d : Design) → IsFit d → (k : ℕ) (md : Module) → slice_get d k ≡ Some md → (i : ℕ) (o : Op) (z : ℤ) (w : ℕ)
    → slice_get md.body i ≡ Some o → o.kind ≡ constant z → result_type o 0 ≡ Some (int w) → IsWidth w
constant_width d fit k md at i o z w there kind typed =
    let printable = each_at (IsPrintableOp md.ports md.body) md.body i o (each_at IsPrintableBody d k md fit.printable at).operations there in
    let own = no_cause_alone md.ports md.body o (own_cause_none d fit k md at i o there) in
    first_bits z o.types (length o.operands) w own.written
    (printable.types ∙ ap (λ x. type_count x (length o.operands)) kind)
    (ap (λ x. option_map (λ (r : OpResult). r.type) (slice_get (map settled_result (result_types x o.types (length o.operands))) 0)) (sym kind)
    ∙ ap (λ (rs : List OpResult). option_map (λ (r : OpResult). r.type) (slice_get rs 0)) (sym printable.results) ∙ typed)

pub fit_readable : (b : Body) → IsOfFit b → IsReadable b
fit_readable b of = record {
  live = fit_live b of;
  words = λ i o z w there. constant_width of.design of.fit of.number of.owner of.there i o z w (ap (λ os. slice_get os i) of.is_body ∙ there);
}

-- ---- the widths of types

nth_within : (ts : List HwType) (n : ℕ) → list_any is_outside ts ≡ false → width (nth_type ts n) ≤ 4096
unfolding is_outside
nth_within [] n limits = omega arith
nth_within (t ∷ ts) zero limits =
    let outside = (neither (is_outside t) (list_any is_outside ts) limits).0 in
    let large = (neither (has_bad_part t) (nat_lt 4096 (width t) || nat_lt 1024 (length (leaves t))) outside).1 in
    ltb-false 4096 (width t) (neither (nat_lt 4096 (width t)) (nat_lt 1024 (length (leaves t))) large).0
nth_within (t ∷ ts) (suc n) limits = nth_within ts n (neither (is_outside t) (list_any is_outside ts) limits).1

pub fit_narrow : (b : Body) → IsOfFit b → (i : ℕ) (o : Op) → slice_get (body_ops b) i ≡ Some o → (n : ℕ) → width (nth_type o.types n) ≤ 4096
fit_narrow b of i o there n =
    nth_within o.types n
    (no_cause_alone of.owner.ports of.owner.body o
    (own_cause_none of.design of.fit of.number of.owner of.there i o (ap (λ os. slice_get os i) of.is_body ∙ there))).written

-- nothing names an operation once a value stands for it that may
pub fit_unused : (b : Body) (op : OpId) (x : Value) → MayStand (body_ops b) (position_in b op) (value_ref b x) → IsUnused op.index (all_replaced (Result op 0) x (ops_of b))
unfolding body_ops position_in value_ref
fit_unused b op x may = unused_replaced op x (ops_of b) (other_value op x (ids_of b) may.other) (first_named op (ops_of b) may.no_further)
