-- What the fold of an operation without uses finds.
use Rattle.std.proofs.Common.{◌≡◌, ℕ, zero, suc, Bool, true, false, cond, not, ◌&&◌, List, [], ◌∷◌, Some, None, slice_get, refl, sym, ap, subst, ◌∙◌, inl, inr}
use Rattle.std.specs.List.{list_any}
use Rattle.wiring.specs.Wiring.{In}
use Rattle.wiring.proofs.Options.{and_then_some}
use Rattle.op_checks.proofs.Widths.{neither}
use Rattle.hw_model.specs.Equality.{both_of, number_self}
use Rattle.hw_model.specs.Design.{Ref, Op}
use Rattle.hw_model.specs.Design.Ref.{undefined}
use Rattle.edit_laws.specs.Laws.{IsNotOf}
use Rattle.fold_laws.specs.Edits.{Edit}
use Rattle.fold_laws.specs.Edits.Edit.{erased}
use Rattle.fold_laws.specs.Unused.{is_pure, is_result_of, is_used, fold_unused}

-- a pure operation that nothing names, and that it goes
pub record UnusedFound (os : List Op) (i : ℕ) (es : List Edit) : Type 0 where
  pub op : Op
  pub there : slice_get os i ≡ Some op
  pub pure : is_pure op.kind ≡ true
  pub unused : is_used i os ≡ false
  pub edits : es ≡ erased i undefined ∷ []

pub unused_found : (os : List Op) (i : ℕ) (es : List Edit) → fold_unused os i ≡ Some es → UnusedFound os i es
unused_found os i es is =
    let found = and_then_some (slice_get os i) (λ (o : Op). cond (is_pure o.kind && not (is_used i os)) (Some (erased i undefined ∷ [])) None) is in
    go found.0 found.1 (is_pure found.0.kind && not (is_used i os)) refl found.2
  where
    unnamed : (b : Bool) → not b ≡ true → b ≡ false
    unnamed false h = refl
    unnamed true h = cc

    go : (o : Op) → slice_get os i ≡ Some o → (b : Bool) → (is_pure o.kind && not (is_used i os)) ≡ b
        → cond b (Some (erased i undefined ∷ [])) None ≡ Some es → UnusedFound os i es
    go o there true both made =
        let parts = both_of (is_pure o.kind) (not (is_used i os)) both in
        record { op = o; there = there; pure = parts.0; unused = unnamed (is_used i os) parts.1; edits = cc }
    go o there false both made = cc

-- ---- uses

no_result : (i : ℕ) (r : Ref) → is_result_of i r ≡ false → IsNotOf i r
no_result i r none k same =
    let clash : true ≡ false = sym (number_self i) ∙ sym (ap (is_result_of i) same) ∙ none in
    cc

none_of : (i : ℕ) (rs : List Ref) → list_any (is_result_of i) rs ≡ false → (r : Ref) → In r rs → IsNotOf i r
none_of i [] none r here = absurd here
none_of i (q ∷ rs) none r (inl same) = no_result i r (ap (is_result_of i) same ∙ (neither (is_result_of i q) (list_any (is_result_of i) rs) none).0)
none_of i (q ∷ rs) none r (inr here) = none_of i rs (neither (is_result_of i q) (list_any (is_result_of i) rs) none).1 r here

-- no operand is a result of what nothing names
pub unused_operands : (i : ℕ) (os : List Op) → is_used i os ≡ false → (j : ℕ) (y : Op) (r : Ref) → slice_get os j ≡ Some y → In r y.operands → IsNotOf i r
unused_operands i [] none j y r at here = cc
unused_operands i (o ∷ os) none zero y r at here =
    let same : o ≡ y = cc in
    none_of i o.operands (neither (list_any (is_result_of i) o.operands) (is_used i os) none).0 r (subst (λ (z : Op). In r z.operands) (sym same) here)
unused_operands i (o ∷ os) none (suc j) y r at here = unused_operands i os (neither (list_any (is_result_of i) o.operands) (is_used i os) none).1 j y r at here
