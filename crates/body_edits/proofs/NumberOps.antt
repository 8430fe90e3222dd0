-- Operations that become constants: what their patterns give, and what code makes of them.
use Rattle.std.proofs.Common.{◌≡◌, ℕ, true, false, List, [], ◌∷◌, map, Option, Some, None, slice_get, refl, sym, ap, subst, ◌∙◌, option_and_then, option_map}
use Rattle.std.specs.Prelude.{is_some}
use Rattle.wiring.specs.Wiring.{In}
use Rattle.hw_model.specs.Types.{HwType}
use Rattle.hw_model.specs.Design.{Location, Op, result_type}
use Rattle.ir_store.specs.declared.body.Body.{Body}
use Rattle.ir_store.specs.declared.operation.NewOp.{NewOp}
use Rattle.ir_store.specs.declared.operation.Value.{Value}
use Rattle.ir_store.specs.OperationViews.{new_parts}
use Rattle.fold_laws.specs.Edits.Edit.{replaced}
use Rattle.fold_laws.specs.Numbers.{Numbering, number_op, with_number, by_number}
use Rattle.fold_laws.proofs.Numbered.{IsNumbering}
use Rattle.body_edits.specs.FitBodies.{IsOfFit}
use Rattle.body_edits.specs.Folded.{IsFolded}
use Rattle.body_edits.specs.Replaceable.{HaveNoFurther}
use Rattle.body_edits.specs.Replaced.{first_type_at, plain_op, new_seen, HasNamed, IsNumberOp, IsReplaced, HasNumber}
use Rattle.body_edits.specs.declared.site.Site.{Site}
use Rattle.body_edits.specs.Sites.{kind_at, types_at, number_of}
use Rattle.body_edits.specs.Views.{body_ops, value_ref, op_seen}
use Rattle.body_edits.proofs.FitOps.{fit_no_further}

-- ---- the type of a first result

-- an operation whose first result has a type has one
pub untyped_none : (os : List Op) (i : ℕ) (o : Op) → slice_get os i ≡ Some o → is_some (first_type_at os i) ≡ true → result_type o 0 ≡ None → ⊥
untyped_none os i o there typed none =
    let clash : false ≡ true = sym (ap is_some (ap (λ x. option_and_then (λ (y : Op). result_type y 0) x) there ∙ none)) ∙ typed in cc

-- a constant has no operands
pub number_named : (b : Body) (n : ℕ) (t : HwType) (location : Location) (new : NewOp) → IsNumberOp n t location new → HasNamed (body_ops b) (new_seen b new)
number_named b n t location new made r here = absurd (subst (λ (vs : List Value). In r (map (value_ref b) vs)) made.operands here)

pub has_number : (b b' : Body) (i n : ℕ) (o : Op) (t : HwType) (new : NewOp) → slice_get (body_ops b) i ≡ Some o → result_type o 0 ≡ Some t
    → IsNumberOp n t o.location new → IsReplaced b b' i (new_seen b new) → HasNumber b b' i n
has_number b b' i n o t new there typed made put = record {
  op = o;
  there = there;
  type = t;
  typed = typed;
  replaced = subst (IsReplaced b b' i) (ap (λ (vs : List Value). record (plain_op (new_parts new)) { operands = map (value_ref b) vs }) made.operands ∙ made.is) put;
}

-- ---- the pattern

-- the type of the first result, and the number, where the pattern matches
pub record IsFound (numbering : Numbering) (os : List Op) (o : Op) : Type 0 where
  pub type : HwType
  pub typed : result_type o 0 ≡ Some type
  pub number : ℕ
  pub gives : numbering os o.kind o.types type o.operands ≡ Some number

module _ (numbering : Numbering) (os : List Op) (i : ℕ) (o : Op) (there : slice_get os i ≡ Some o) where
  pattern_there : by_number numbering os i ≡ option_and_then (with_number numbering os i o) (result_type o 0)
  pattern_there = ap (λ x. option_and_then (λ (y : Op). option_and_then (with_number numbering os i y) (result_type y 0)) x) there

  pattern_of : (t : HwType) → result_type o 0 ≡ Some t → by_number numbering os i ≡ with_number numbering os i o t
  pattern_of t typed = pattern_there ∙ ap (λ x. option_and_then (with_number numbering os i o) x) typed

  pub pattern_found : is_some (by_number numbering os i) ≡ true → IsFound numbering os o
  pattern_found matches = go (result_type o 0) refl (sym (ap is_some pattern_there) ∙ matches)
    where
      given : (t : HwType) → result_type o 0 ≡ Some t → (x : Option ℕ) → numbering os o.kind o.types t o.operands ≡ x
          → is_some (option_map (λ (n : ℕ). replaced i (number_op n t o.location) ∷ []) x) ≡ true → IsFound numbering os o
      given t typed None is met = cc
      given t typed (Some n) is met = record { type = t; typed = typed; number = n; gives = is }

      go : (x : Option HwType) → result_type o 0 ≡ x → is_some (option_and_then (with_number numbering os i o) x) ≡ true → IsFound numbering os o
      go None typed met = cc
      go (Some t) typed met = given t typed (numbering os o.kind o.types t o.operands) refl met

-- the number of an operation that is read of a body
pub number_at : (b : Body) (s : Site) → s.body.now ≡ b → (numbering : Numbering) (t : HwType)
    → number_of numbering t s ≡ numbering (body_ops b) (op_seen b s.op).kind (op_seen b s.op).types t (op_seen b s.op).operands
number_at b s is numbering t = ap (λ (x : Body). numbering (body_ops x) (kind_at s) (types_at s) t (map (value_ref x) s.op.operands.now)) is

-- in a fit design nothing names a further result of an operation at which the pattern matches
pub pattern_alone : (b : Body) → IsOfFit b → (numbering : Numbering) → IsNumbering numbering → (i : ℕ) (o : Op) → slice_get (body_ops b) i ≡ Some o
    → is_some (by_number numbering (body_ops b) i) ≡ true → HaveNoFurther i (body_ops b)
pattern_alone b of numbering shown i o there matches =
    let found = pattern_found numbering (body_ops b) i o there matches in
    fit_no_further b of i o there (shown.made (body_ops b) o.kind o.types found.type o.operands found.number found.gives)

-- what code makes of an operation is what the pattern says
pub number_folded : (b b' : Body) (i : ℕ) (o : Op) (n : ℕ) (numbering : Numbering) → slice_get (body_ops b) i ≡ Some o
    → ((t : HwType) → result_type o 0 ≡ Some t → Some n ≡ numbering (body_ops b) o.kind o.types t o.operands)
    → HasNumber b b' i n → IsFolded (by_number numbering) b b' i
number_folded b b' i o n numbering there is has = record {
  edits = replaced i (number_op n has.type has.op.location) ∷ [];
  matches = pattern_of numbering (body_ops b) i has.op has.there has.type has.typed
      ∙ ap (option_map (λ (m : ℕ). replaced i (number_op m has.type has.op.location) ∷ [])) (sym number);
  form = refl;
  ops = has.replaced.ops;
  fresh = has.replaced.fresh;
  is_fresh = has.replaced.is_fresh;
  ids = has.replaced.ids;
}
  where
    same : o ≡ has.op
    same = let both : Some o ≡ Some has.op = sym there ∙ has.there in cc

    number : Some n ≡ numbering (body_ops b) has.op.kind has.op.types has.type has.op.operands
    number = subst (λ (p : Op). Some n ≡ numbering (body_ops b) p.kind p.types has.type p.operands) same (is has.type (ap (λ (p : Op). result_type p 0) same ∙ has.typed))
