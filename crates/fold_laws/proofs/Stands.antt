-- A value that stands for the only result of an operation: what must be shown of it, and that it makes a fold.
use Rattle.std.proofs.Common.{◌≡◌, ℕ, suc, ◌<◌, true, false, List, [], ◌∷◌, length, map, Option, Some, None, slice_get, refl, sym, ap, subst, ◌∙◌, inl, arith, option_map}
use Rattle.std.specs.Prelude.{is_some}
use Rattle.std.specs.List.{list_any}
use Rattle.wiring.specs.Wiring.{In}
use Rattle.wiring.proofs.Members.{map_same}
use Rattle.wiring.proofs.Options.{and_then_some, option_map_some}
use Rattle.bits_core.specs.Word.{Word}
use Rattle.hw_model.specs.Types.{HwType, width}
use Rattle.hw_model.specs.Types.HwType.{int}
use Rattle.hw_model.specs.Kinds.{Kind}
use Rattle.hw_model.specs.Design.{Ref, OpResult, Op, Module, Design, find_module, result_type}
use Rattle.hw_model.specs.Design.Ref.{result}
use Rattle.hw_model.specs.Sound.{HasWidth, type_in, Fits}
use Rattle.hw_model.specs.Value.{op_value}
use Rattle.type_inference.specs.ResultTypes.{result_type as type_of_result}
use Rattle.stored_form.specs.ResultTypes.{type_or_none}
use Rattle.op_checks.specs.CountChecks.{operands_written, type_count}
use Rattle.op_checks.specs.LimitChecks.{has_wide_concat}
use Rattle.op_checks.specs.OperandChecks.{has_other_form, has_other_operand}
use Rattle.op_checks.specs.TypeChecks.{is_outside}
use Rattle.op_verifier.specs.OpChecks.{settled_type}
use Rattle.op_verifier.proofs.NoCauseAlone.{NoCauseAlone, no_cause_alone}
use Rattle.printing_laws.specs.Printable.{IsPrintableOp, settled_result}
use Rattle.edit_laws.specs.Edit.{is_anchor, HoldsBut}
use Rattle.edit_laws.specs.Follows.{Wide}
use Rattle.edit_laws.specs.Laws.{erase_op, Erased}
use Rattle.edit_laws.proofs.TakeOut.{erase_op_preserves}
use Rattle.edit_laws.proofs.Uses.{operand_lower, operand_other}
use Rattle.edit_laws.proofs.Weights.{out_is_lighter}
use Rattle.acceptance_laws.specs.Forms.{ErasedFits}
use Rattle.acceptance_laws.specs.Keeps.{IsPrintableBody, IsFit}
use Rattle.acceptance_laws.proofs.Accepted.{each_at, fit_found}
use Rattle.acceptance_laws.proofs.FitBodies.{own_cause_none, operand_there, settled_here}
use Rattle.acceptance_laws.proofs.TakenOut.{fit_erased}
use Rattle.pass_laws.proofs.Shapes.{shape_erase}
use Rattle.pass_laws.proofs.Steady.{steady_with_body}
use Rattle.fold_laws.specs.Constants.{constant_at}
use Rattle.fold_laws.specs.Edits.{Edit, edited_by, fold_by}
use Rattle.fold_laws.specs.Edits.Edit.{erased}
use Rattle.fold_laws.specs.Fold.{IsFold, FoldLaw}
use Rattle.fold_laws.specs.Standing.{Stand, by_stand}
use Rattle.fold_laws.proofs.Constants.{constant_typed, constant_held}
use Rattle.fold_laws.proofs.MadeKinds.{is_made, made_plain, made_no_constant, made_no_number, made_one_result}
use Rattle.fold_laws.proofs.Measures.{measure_taken_out}
use Rattle.fold_laws.proofs.Patterns.{PatternLaw, pattern_is_fold}

-- ---- what is known

-- of an operation with one result of type t, from the types of values
pub record Known (os : List Op) (kind : Kind) (ts : List HwType) (rs : List Ref) (type_of : Ref → Option HwType) (t : HwType) : Type 0 where
  pub fits : Fits kind ts (map type_of rs) t 0
  pub settled : t ≡ type_or_none (type_of_result kind ts (length rs))
  pub written : length ts ≡ type_count kind (length rs)
  pub form : has_other_form kind ts ≡ false
  pub limits : list_any is_outside ts ≡ false
  pub narrow : has_wide_concat kind ts ≡ false
  pub operands : length rs ≡ operands_written kind (length rs)
  pub asked : has_other_operand kind ts (map type_of rs) ≡ false
  pub there : (r : Ref) → In r rs → is_some (type_of r) ≡ true
  pub constants : (r : Ref) (w : Word) → constant_at os r ≡ Some w → type_of r ≡ Some (int (length w))

-- of the words of values
pub record Held (os : List Op) (type_of : Ref → Option HwType) (τ : Ref → Word) : Type 0 where
  pub wide : (r : Ref) → HasWidth (type_of r) (τ r)
  pub constants : (r : Ref) (w : Word) → constant_at os r ≡ Some w → τ r ≡ w

-- a word is as wide as the type of its value
pub held_width : {os : List Op} {type_of : Ref → Option HwType} {τ : Ref → Word} → Held os type_of τ → (r : Ref) (t : HwType) → type_of r ≡ Some t → length (τ r) ≡ width t
held_width {os} {type_of} {τ} held r t typed = subst (λ u. HasWidth u (τ r)) typed (held.wide r)

-- ---- what must be shown

-- x is an operand of the result's type, and has the word that the operation gives
pub record Stands (os : List Op) (kind : Kind) (ts : List HwType) (rs : List Ref) (x : Ref) (type_of : Ref → Option HwType) (t : HwType) : Type 0 where
  pub named : In x rs
  pub typed : type_of x ≡ Some t
  pub words : (τ : Ref → Word) → Held os type_of τ → op_value kind ts t 0 (map τ rs) ≡ τ x

pub record IsStand (stand : Stand) : Type 0 where
  pub made : (os : List Op) (kind : Kind) (ts : List HwType) (rs : List Ref) (x : Ref) → stand os kind ts rs ≡ Some x → is_made kind ≡ true
  pub stands : (os : List Op) (kind : Kind) (ts : List HwType) (rs : List Ref) (x : Ref) (type_of : Ref → Option HwType) (t : HwType)
      → stand os kind ts rs ≡ Some x → Known os kind ts rs type_of t → Stands os kind ts rs x type_of t

-- ---- an operation of a fit design

module _ (d : Design) (fit : IsFit d) (k : ℕ) (md : Module) (at : slice_get d k ≡ Some md) (i : ℕ) (o : Op) (there : slice_get md.body i ≡ Some o)
    (made : is_made o.kind ≡ true) where
  pub op_found : find_module d md.symbol ≡ Some md
  op_found = fit_found d fit k md at

  pub op_printable : IsPrintableOp md.ports md.body o
  op_printable = each_at (IsPrintableOp md.ports md.body) md.body i o (each_at IsPrintableBody d k md fit.printable at).operations there

  pub op_own : NoCauseAlone md.ports md.body o
  op_own = no_cause_alone md.ports md.body o (own_cause_none d fit k md at i o there)

  -- it is no register, instance or output
  pub op_plain : is_anchor o ≡ false
  op_plain = made_plain o.kind made

  -- the type of its result
  abbrev pub result_of : HwType
  result_of = type_or_none (type_of_result o.kind o.types (length o.operands))

  pub op_results : o.results ≡ settled_result (type_of_result o.kind o.types (length o.operands)) ∷ []
  op_results = op_printable.results ∙ ap (map settled_result) (made_one_result o.kind o.types (length o.operands) made)

  pub op_typed : result_type o 0 ≡ Some (type_or_none (type_of_result o.kind o.types (length o.operands)))
  op_typed = ap (λ (rs : List OpResult). option_map (λ (r : OpResult). r.type) (slice_get rs 0)) op_results

  pub op_has_one : (n : ℕ) → result_type o (suc n) ≡ None
  op_has_one n = ap (λ (rs : List OpResult). option_map (λ (r : OpResult). r.type) (slice_get rs (suc n))) op_results

  pub op_known : Known md.body o.kind o.types o.operands (type_in md.ports md.body) (type_or_none (type_of_result o.kind o.types (length o.operands)))
  op_known = record {
    fits = (fit.valid.sound md.symbol md op_found).ops i o there 0 (type_or_none (type_of_result o.kind o.types (length o.operands))) op_typed;
    settled = refl;
    written = op_printable.types;
    form = op_own.form;
    limits = op_own.written;
    narrow = op_own.wide;
    operands = op_printable.operands;
    asked = ap (has_other_operand o.kind o.types) (sym (map_same (settled_type md.ports md.body) (type_in md.ports md.body) o.operands (λ r here. settled_here d fit k md at r))) ∙ op_own.operand;
    there = λ r here. operand_there d fit k md at i o r there here;
    constants = constant_typed md.ports md.body;
  }

  pub op_held : (τ : Ref → Word) → HoldsBut md.body τ (λ j. j ≡ i) → Wide md.ports md.body τ → Held md.body (type_in md.ports md.body) τ
  op_held τ holds wide = record { wide = wide; constants = constant_held md.body τ i o there made holds }

  -- where an operand stands for its result, it may be taken out
  module _ (x : Ref) (stands : Stands md.body o.kind o.types o.operands x (type_in md.ports md.body) (type_or_none (type_of_result o.kind o.types (length o.operands)))) where
    change : Erased md i o (type_or_none (type_of_result o.kind o.types (length o.operands))) x
    change = record {
      there = there;
      plain = op_plain;
      result_is = op_typed;
      no_more = op_has_one;
      stand_is = stands.typed;
      stand_stays = operand_other d md fit.valid op_found i o result_of result_of there op_plain op_typed op_has_one x stands.named stands.typed;
      lower = λ h local.
          let below : h x < h (result i 0) = operand_lower md.body h local i 0 o result_of there op_plain op_typed x stands.named in
          omega arith;
      words = λ τ holds wide. stands.words τ (op_held τ holds wide);
    }

    fits : ErasedFits md o x
    fits = record {
      known = λ is. let clash : true ≡ false = sym is ∙ made_no_number o.kind made in cc;
      constant = λ is. let clash : true ≡ false = sym is ∙ made_no_constant o.kind made in cc;
    }

    pub operand_taken : IsFold d k md (erase_op i x md.body)
    operand_taken = record {
      steady = steady_with_body d k md (erase_op i x md.body) at (erase_op_preserves d k md i o result_of x fit.valid at change)
          (fit_erased d k md i o result_of x fit at change fits) (shape_erase md.body i o x there op_plain);
      lighter = out_is_lighter d k md i o x at there;
      smaller = inl (measure_taken_out md.body i o x there);
    }

-- ---- the law

stand_pattern : (stand : Stand) → IsStand stand → PatternLaw (by_stand stand)
stand_pattern stand shown d k md i es fit at is =
    let found = and_then_some (slice_get md.body i) (λ (o : Op). option_map (λ (x : Ref). erased i x ∷ []) (stand md.body o.kind o.types o.operands)) is in
    let taken = option_map_some (λ (x : Ref). erased i x ∷ []) (stand md.body found.0.kind found.0.types found.0.operands) found.2 in
    let made = shown.made md.body found.0.kind found.0.types found.0.operands taken.0 taken.1 in
    subst (λ (qs : List Edit). IsFold d k md (edited_by qs md.body)) taken.2
    (operand_taken d fit k md at i found.0 found.1 made taken.0
    (shown.stands md.body found.0.kind found.0.types found.0.operands taken.0 (type_in md.ports md.body)
    (type_or_none (type_of_result found.0.kind found.0.types (length found.0.operands))) taken.1
    (op_known d fit k md at i found.0 found.1 made)))

pub stand_is_fold : (stand : Stand) → IsStand stand → FoldLaw (fold_by (by_stand stand))
stand_is_fold stand shown = pattern_is_fold (by_stand stand) (stand_pattern stand shown)
