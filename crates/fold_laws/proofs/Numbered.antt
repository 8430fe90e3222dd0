-- A number that an operation always gives: what must be shown of it, and that the constant in its place makes a fold.
use Rattle.std.proofs.Common.{◌≡◌, ℕ, zero, suc, ◌^◌, ◌<◌, ◌≤◌, true, false, List, [], ◌∷◌, length, map, set, Option, Some, None, slice_get, refl, sym, ap, subst, ◌∙◌, inl, arith, option_and_then}
use Rattle.wiring.proofs.Options.{and_then_some, option_map_some}
use Rattle.bits_core.specs.Word.{Word, bits}
use Rattle.hw_model.specs.Types.{Name, HwType, width}
use Rattle.hw_model.specs.Types.HwType.{int}
use Rattle.hw_model.specs.Kinds.{Kind}
use Rattle.hw_model.specs.Kinds.Kind.{constant}
use Rattle.hw_model.specs.Design.{Ref, Op, Module, Design, result_type}
use Rattle.hw_model.specs.Sound.{type_in}
use Rattle.hw_model.specs.Value.{op_value}
use Rattle.hw_model.specs.Weight.{kind_weight}
use Rattle.type_inference.specs.ResultTypes.{result_type as type_of_result}
use Rattle.stored_form.specs.ResultTypes.{type_or_none}
use Rattle.op_checks.specs.TypeChecks.{is_outside}
use Rattle.edit_laws.specs.Edit.{result_word, HoldsBut}
use Rattle.edit_laws.specs.Follows.{Wide}
use Rattle.edit_laws.specs.Laws.{InPlace}
use Rattle.edit_laws.proofs.ChangeInPlace.{replace_op_preserves}
use Rattle.edit_laws.proofs.Weights.{position_is_lighter}
use Rattle.acceptance_laws.specs.Forms.{InPlaceFits}
use Rattle.acceptance_laws.specs.Keeps.{IsFitting, IsFit}
use Rattle.acceptance_laws.proofs.ChangedInPlace.{fit_in_place}
use Rattle.pass_laws.proofs.Shapes.{shape_set}
use Rattle.pass_laws.proofs.Steady.{steady_with_body}
use Rattle.fold_laws.specs.Edits.{Edit, edited_by, fold_by}
use Rattle.fold_laws.specs.Edits.Edit.{replaced}
use Rattle.fold_laws.specs.Fold.{kind_measure, IsFold, FoldLaw}
use Rattle.fold_laws.specs.Numbers.{Numbering, number_op, with_number, by_number}
use Rattle.fold_laws.proofs.MadeKinds.{is_made, made_no_number}
use Rattle.fold_laws.proofs.Measures.{measure_changed}
use Rattle.fold_laws.proofs.NumberOps.{number_fits}
use Rattle.fold_laws.proofs.Patterns.{PatternLaw, pattern_is_fold}
use Rattle.fold_laws.proofs.Stands.{Known, Held, op_plain, op_typed, op_has_one, op_known, op_held}

-- ---- what must be shown

-- the type is an integer's within the limits, the number fits it and is the one of the word that the operation gives, and
-- the operation weighs something
pub record Makes (os : List Op) (kind : Kind) (ts : List HwType) (rs : List Ref) (n : ℕ) (type_of : Ref → Option HwType) (t : HwType) : Type 0 where
  pub bits_of : ℕ
  pub type_is : t ≡ int bits_of
  pub within : is_outside (int bits_of) ≡ false
  pub small : n < 2 ^ bits_of
  pub weighs : (inner : Name → ℕ) → 1 ≤ kind_weight inner kind ts (length rs)
  pub words : (τ : Ref → Word) → Held os type_of τ → op_value kind ts t 0 (map τ rs) ≡ bits bits_of n

pub record IsNumbering (numbering : Numbering) : Type 0 where
  pub made : (os : List Op) (kind : Kind) (ts : List HwType) (t : HwType) (rs : List Ref) (n : ℕ) → numbering os kind ts t rs ≡ Some n → is_made kind ≡ true
  pub makes : (os : List Op) (kind : Kind) (ts : List HwType) (rs : List Ref) (n : ℕ) (type_of : Ref → Option HwType) (t : HwType)
      → numbering os kind ts t rs ≡ Some n → Known os kind ts rs type_of t → Makes os kind ts rs n type_of t

-- an operation that is no constant measures more than one
more_than_constant : (kind : Kind) (n : ℕ) → is_made kind ≡ true → 1 < kind_measure kind n
more_than_constant (constant z) n made = cc
more_than_constant _ n made = omega arith

-- ---- an operation of a fit design

module _ (d : Design) (fit : IsFit d) (k : ℕ) (md : Module) (at : slice_get d k ≡ Some md) (i : ℕ) (o : Op) (there : slice_get md.body i ≡ Some o)
    (made : is_made o.kind ≡ true) (t : HwType) (typed : result_type o 0 ≡ Some t) (n : ℕ)
    (makes : Makes md.body o.kind o.types o.operands n (type_in md.ports md.body) t) where
  new_types : (j : ℕ) → result_type (number_op n t o.location) j ≡ result_type o j
  new_types zero = sym typed
  new_types (suc j) = sym (op_has_one d fit k md at i o there made j)

  same_words : (τ : Ref → Word) → HoldsBut md.body τ (λ j. j ≡ i) → Wide md.ports md.body τ → (j : ℕ) (u : HwType) → result_type o j ≡ Some u
      → result_word τ o j (Some u) ≡ result_word τ (number_op n t o.location) j (Some u)
  same_words τ holds wide zero u is =
      let both : Some t ≡ Some u = sym typed ∙ is in
      let same : t ≡ u = cc in
      subst (λ v. result_word τ o 0 (Some v) ≡ bits (width v) n) same
      (makes.words τ (op_held d fit k md at i o there made τ holds wide) ∙ ap (λ v. bits (width v) n) (sym makes.type_is))
  same_words τ holds wide (suc j) u is = let clash : None ≡ Some u = sym (op_has_one d fit k md at i o there made j) ∙ is in cc

  change : InPlace md i o (number_op n t o.location)
  change = record {
    there = there;
    old_plain = op_plain d fit k md at i o there made;
    new_plain = refl;
    same_types = new_types;
    fits = λ j u is. refl;
    lower = λ h local j u is r here. absurd here;
    words = same_words;
  }

  fits : InPlaceFits md o (number_op n t o.location)
  fits = record {
    known = λ is. let clash : true ≡ false = sym is ∙ made_no_number o.kind made in cc;
    constant = λ is. refl;
    fits = subst (λ u. IsFitting md.ports md.body (number_op n u o.location)) (sym makes.type_is) (number_fits md.ports md.body makes.bits_of n o.location makes.within makes.small);
  }

  pub number_put : IsFold d k md (set md.body i (number_op n t o.location))
  number_put = record {
    steady = steady_with_body d k md (set md.body i (number_op n t o.location)) at (replace_op_preserves d k md i o (number_op n t o.location) fit.valid at change)
        (fit_in_place d k md i o (number_op n t o.location) fit at change fits)
        (shape_set md.body i o (number_op n t o.location) there (op_plain d fit k md at i o there made) refl);
    lighter = position_is_lighter d k md i o (number_op n t o.location) at there (λ inner. makes.weighs inner);
    smaller = inl (measure_changed md.body i o (number_op n t o.location) there (more_than_constant o.kind (length o.operands) made));
  }

-- ---- the law

number_pattern : (numbering : Numbering) → IsNumbering numbering → PatternLaw (by_number numbering)
number_pattern numbering shown d k md i es fit at is =
    let found = and_then_some (slice_get md.body i) (λ (o : Op). option_and_then (with_number numbering md.body i o) (result_type o 0)) is in
    let typed = and_then_some (result_type found.0 0) (with_number numbering md.body i found.0) found.2 in
    let given = option_map_some (λ (n : ℕ). replaced i (number_op n typed.0 found.0.location) ∷ []) (numbering md.body found.0.kind found.0.types typed.0 found.0.operands) typed.2 in
    let made = shown.made md.body found.0.kind found.0.types typed.0 found.0.operands given.0 given.1 in
    let settled : Some (type_or_none (type_of_result found.0.kind found.0.types (length found.0.operands))) ≡ Some typed.0 =
    sym (op_typed d fit k md at i found.0 found.1 made) ∙ typed.1 in
    let same : type_or_none (type_of_result found.0.kind found.0.types (length found.0.operands)) ≡ typed.0 = cc in
    subst (λ (qs : List Edit). IsFold d k md (edited_by qs md.body)) given.2
    (number_put d fit k md at i found.0 found.1 made typed.0 typed.1 given.0
    (shown.makes md.body found.0.kind found.0.types found.0.operands given.0 (type_in md.ports md.body) typed.0 given.1
    (subst (Known md.body found.0.kind found.0.types found.0.operands (type_in md.ports md.body)) same (op_known d fit k md at i found.0 found.1 made))))

pub number_is_fold : (numbering : Numbering) → IsNumbering numbering → FoldLaw (fold_by (by_number numbering))
number_is_fold numbering shown = pattern_is_fold (by_number numbering) (number_pattern numbering shown)
