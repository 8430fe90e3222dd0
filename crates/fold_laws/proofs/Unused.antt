-- An operation without uses may go.
use Rattle.std.proofs.Common.{◌≡◌, ℕ, zero, suc, Bool, true, false, cond, not, ◌&&◌, List, [], ◌∷◌, Some, None, slice_get, refl, sym, ap, subst, ◌∙◌, inl, inr}
use Rattle.std.specs.List.{list_any}
use Rattle.wiring.specs.Wiring.{In}
use Rattle.wiring.proofs.Options.{and_then_some}
use Rattle.hw_model.specs.Equality.{both_of, number_self}
use Rattle.hw_model.specs.Kinds.{Kind}
use Rattle.hw_model.specs.Kinds.Kind.{instance, output, register, async_firreg}
use Rattle.hw_model.specs.Design.{Ref, Op, Module, Design}
use Rattle.hw_model.specs.Design.Ref.{undefined}
use Rattle.op_checks.proofs.Widths.{neither}
use Rattle.edit_laws.specs.Laws.{IsNotOf, erase_op, IsUnused}
use Rattle.edit_laws.proofs.Unused.{erase_dead_op_preserves}
use Rattle.edit_laws.proofs.Weights.{out_is_lighter}
use Rattle.acceptance_laws.specs.Keeps.{IsFit}
use Rattle.acceptance_laws.proofs.Accepted.{fit_found}
use Rattle.acceptance_laws.proofs.TakenOut.{fit_without_dead}
use Rattle.pass_laws.proofs.Shapes.{shape_erase}
use Rattle.pass_laws.proofs.Steady.{steady_with_body}
use Rattle.fold_laws.specs.Edits.{Edit, edited_by, fold_by}
use Rattle.fold_laws.specs.Edits.Edit.{erased}
use Rattle.fold_laws.specs.Fold.{IsFold, FoldLaw}
use Rattle.fold_laws.specs.Unused.{is_pure, is_result_of, is_used, fold_unused}
use Rattle.fold_laws.proofs.MadeKinds.{anchors_kind}
use Rattle.fold_laws.proofs.Measures.{measure_taken_out}
use Rattle.fold_laws.proofs.Patterns.{PatternLaw, pattern_is_fold}

pure_plain : (kind : Kind) → is_pure kind ≡ true → anchors_kind kind ≡ false
pure_plain (instance i) is = cc
pure_plain output is = cc
pure_plain (register f r) is = cc
pure_plain async_firreg is = cc
pure_plain _ is = refl

no_result : (i : ℕ) (r : Ref) → is_result_of i r ≡ false → IsNotOf i r
no_result i r none k same =
    let clash : true ≡ false = sym (number_self i) ∙ sym (ap (is_result_of i) same) ∙ none in
    cc

none_of : (i : ℕ) (rs : List Ref) → list_any (is_result_of i) rs ≡ false → (r : Ref) → In r rs → IsNotOf i r
none_of i [] none r here = absurd here
none_of i (q ∷ rs) none r (inl same) = no_result i r (ap (is_result_of i) same ∙ (neither (is_result_of i q) (list_any (is_result_of i) rs) none).0)
none_of i (q ∷ rs) none r (inr here) = none_of i rs (neither (is_result_of i q) (list_any (is_result_of i) rs) none).1 r here

none_used : (i : ℕ) (os : List Op) → is_used i os ≡ false → (j : ℕ) (y : Op) (r : Ref) → slice_get os j ≡ Some y → In r y.operands → IsNotOf i r
none_used i [] none j y r at here = cc
none_used i (o ∷ os) none zero y r at here =
    let same : o ≡ y = cc in
    none_of i o.operands (neither (list_any (is_result_of i) o.operands) (is_used i os) none).0 r (subst (λ (z : Op). In r z.operands) (sym same) here)
none_used i (o ∷ os) none (suc j) y r at here = none_used i os (neither (list_any (is_result_of i) o.operands) (is_used i os) none).1 j y r at here

module _ (d : Design) (fit : IsFit d) (k : ℕ) (md : Module) (at : slice_get d k ≡ Some md) (i : ℕ) (o : Op) (there : slice_get md.body i ≡ Some o)
    (pure : is_pure o.kind ≡ true) (none : is_used i md.body ≡ false) where
  unused : IsUnused md i o
  unused = record {
    there = there;
    plain = pure_plain o.kind pure;
    fits = (fit.valid.sound md.symbol md (fit_found d fit k md at)).ops i o there;
    unnamed = none_used i md.body none;
  }

  pub unused_taken : IsFold d k md (erase_op i undefined md.body)
  unused_taken = record {
    steady = steady_with_body d k md (erase_op i undefined md.body) at (erase_dead_op_preserves d k md i o fit.valid at unused)
        (fit_without_dead d k md i o fit at unused) (shape_erase md.body i o undefined there (pure_plain o.kind pure));
    lighter = out_is_lighter d k md i o undefined at there;
    smaller = inl (measure_taken_out md.body i o undefined there);
  }

unused_pattern : PatternLaw fold_unused
unused_pattern d k md i es fit at is =
    let found = and_then_some (slice_get md.body i) (λ (o : Op). cond (is_pure o.kind && not (is_used i md.body)) (Some (erased i undefined ∷ [])) None) is in
    go found.0 found.1 (is_pure found.0.kind && not (is_used i md.body)) refl found.2
  where
    go : (o : Op) → slice_get md.body i ≡ Some o → (b : Bool) → (is_pure o.kind && not (is_used i md.body)) ≡ b
        → cond b (Some (erased i undefined ∷ [])) None ≡ Some es → IsFold d k md (edited_by es md.body)
    go o there true both made =
        let parts = both_of (is_pure o.kind) (not (is_used i md.body)) both in
        let same : erased i undefined ∷ [] ≡ es = cc in
        subst (λ (qs : List Edit). IsFold d k md (edited_by qs md.body)) same (unused_taken d fit k md at i o there parts.0 (unnamed (is_used i md.body) parts.1))
      where
        unnamed : (b : Bool) → not b ≡ true → b ≡ false
        unnamed false h = refl
        unnamed true h = cc
    go o there false both made = cc

pub unused_is_fold : FoldLaw (fold_by fold_unused)
unused_is_fold = pattern_is_fold fold_unused unused_pattern
