-- An operand of the operation that made an operand, in the place of an only result: what must be shown of it, and that it makes a
-- fold.
use Rattle.std.proofs.Common.{◌≡◌, ℕ, zero, suc, ◌<◌, true, false, List, [], ◌∷◌, length, map, Option, Some, None, slice_get, sym, ap, subst, ◌∙◌, inl, arith, option_and_then, option_map}
use Rattle.wiring.specs.Wiring.{In}
use Rattle.wiring.proofs.Options.{and_then_some, option_map_some}
use Rattle.bits_core.specs.Word.{Word}
use Rattle.hw_model.specs.Types.{HwType}
use Rattle.hw_model.specs.Kinds.{Kind}
use Rattle.hw_model.specs.Design.{Ref, Op, Module, Design, result_type}
use Rattle.hw_model.specs.Design.Ref.{result}
use Rattle.hw_model.specs.Sound.{type_in}
use Rattle.hw_model.specs.Value.{op_value}
use Rattle.type_inference.specs.ResultTypes.{result_type as type_of_result}
use Rattle.stored_form.specs.ResultTypes.{type_or_none}
use Rattle.edit_laws.specs.Edit.{result_word, word_of, HoldsBut}
use Rattle.edit_laws.specs.Falls.{LocalHeight}
use Rattle.edit_laws.specs.Laws.{IsNotOf, erase_op, Erased}
use Rattle.edit_laws.proofs.ChangeInPlace.{plain_word}
use Rattle.edit_laws.proofs.TakeOut.{erase_op_preserves}
use Rattle.edit_laws.proofs.Uses.{own_height, operand_lower, operand_other}
use Rattle.edit_laws.proofs.Weights.{out_is_lighter}
use Rattle.acceptance_laws.specs.Forms.{ErasedFits}
use Rattle.acceptance_laws.specs.Keeps.{IsFit}
use Rattle.acceptance_laws.proofs.TakenOut.{fit_erased}
use Rattle.pass_laws.proofs.Shapes.{shape_erase}
use Rattle.pass_laws.proofs.Steady.{steady_with_body}
use Rattle.fold_laws.specs.Edits.{Edit, edited_by, fold_by}
use Rattle.fold_laws.specs.Edits.Edit.{erased}
use Rattle.fold_laws.specs.Fold.{IsFold, FoldLaw}
use Rattle.fold_laws.specs.Standing.{Stand, by_stand}
use Rattle.fold_laws.proofs.MadeKinds.{is_made, made_plain, made_no_constant, made_no_number}
use Rattle.fold_laws.proofs.Measures.{measure_taken_out}
use Rattle.fold_laws.proofs.Patterns.{PatternLaw, pattern_is_fold}
use Rattle.fold_laws.proofs.Stands.{Known, Held, op_found, op_plain, op_typed, op_has_one, op_known, op_held}

-- ---- what must be shown

-- an operand is the first result of an operation that is made of its operands, of which x is one
pub record Maker (os : List Op) (rs : List Ref) (x : Ref) : Type 0 where
  pub position : ℕ
  pub op : Op
  pub there : slice_get os position ≡ Some op
  pub made : is_made op.kind ≡ true
  pub operand : In (result position 0) rs
  pub named : In x op.operands

-- x has the type of the result, and the word of the operation where its maker holds
pub record MakerOperandStands (os : List Op) (kind : Kind) (ts : List HwType) (rs : List Ref) (x : Ref) (maker : Maker os rs x) (type_of : Ref → Option HwType) (t u : HwType) : Type 0 where
  pub typed : type_of x ≡ Some t
  pub words : (τ : Ref → Word) → Held os type_of τ → τ (result maker.position 0) ≡ op_value maker.op.kind maker.op.types u 0 (map τ maker.op.operands)
      → op_value kind ts t 0 (map τ rs) ≡ τ x

pub record IsMakerOperand (stand : Stand) : Type 0 where
  pub made : (os : List Op) (kind : Kind) (ts : List HwType) (rs : List Ref) (x : Ref) → stand os kind ts rs ≡ Some x → is_made kind ≡ true
  pub maker : (os : List Op) (kind : Kind) (ts : List HwType) (rs : List Ref) (x : Ref) → stand os kind ts rs ≡ Some x → Maker os rs x
  pub stands : (os : List Op) (kind : Kind) (ts : List HwType) (rs : List Ref) (x : Ref) (type_of : Ref → Option HwType) (t u : HwType)
      → (is : stand os kind ts rs ≡ Some x) → Known os kind ts rs type_of t → type_of (result (maker os kind ts rs x is).position 0) ≡ Some u
      → Known os (maker os kind ts rs x is).op.kind (maker os kind ts rs x is).op.types (maker os kind ts rs x is).op.operands type_of u
      → MakerOperandStands os kind ts rs x (maker os kind ts rs x is) type_of t u

-- ---- an operation of a fit design

module _ (d : Design) (fit : IsFit d) (k : ℕ) (md : Module) (at : slice_get d k ≡ Some md) (i : ℕ) (o : Op) (there : slice_get md.body i ≡ Some o)
    (made : is_made o.kind ≡ true) (t : HwType) (typed : result_type o 0 ≡ Some t) (x : Ref) (maker : Maker md.body o.operands x) (u : HwType)
    (maker_typed : type_in md.ports md.body (result maker.position 0) ≡ Some u) where
  made_type : result_type maker.op 0 ≡ Some u
  made_type = sym (ap (λ z. option_and_then (λ (y : Op). result_type y 0) z) maker.there) ∙ maker_typed

  maker_other : IsNotOf i (result maker.position 0)
  maker_other =
      operand_other d md fit.valid (op_found d fit k md at i o there made) i o t u there (op_plain d fit k md at i o there made) typed
      (op_has_one d fit k md at i o there made) (result maker.position 0) maker.operand maker_typed

  below : (h : Ref → ℕ) → LocalHeight md.body h → h x < h (result i 0)
  below h local =
      let first : h x < h (result maker.position 0) = operand_lower md.body h local maker.position 0 maker.op u maker.there (made_plain maker.op.kind maker.made) made_type x maker.named in
      let second : h (result maker.position 0) < h (result i 0) = operand_lower md.body h local i 0 o t there (op_plain d fit k md at i o there made) typed (result maker.position 0) maker.operand in
      omega arith

  module _ (stands : MakerOperandStands md.body o.kind o.types o.operands x maker (type_in md.ports md.body) t u) where
    stays : IsNotOf i x
    stays n same = go n same
      where
        go : (n : ℕ) → x ≡ result i n → ⊥
        go zero is =
            let high = own_height d md fit.valid (op_found d fit k md at i o there made) in
            let lower : high.0 x < high.0 (result i 0) = below high.0 high.1 in
            let equal : high.0 x ≡ high.0 (result i 0) = ap high.0 is in
            absurd (omega arith)
        go (suc n) is =
            let clash : Some t ≡ None =
            sym stands.typed ∙ ap (type_in md.ports md.body) is ∙ ap (λ z. option_and_then (λ (y : Op). result_type y (suc n)) z) there ∙ op_has_one d fit k md at i o there made n in
            cc

    maker_word : (τ : Ref → Word) → HoldsBut md.body τ (λ j. j ≡ i) → τ (result maker.position 0) ≡ result_word τ maker.op 0 (Some u)
    maker_word τ holds =
        holds.result_is maker.position 0 (result_word τ maker.op 0 (Some u)) (λ same. maker_other 0 (ap (λ j. result j 0) same))
        (ap (word_of τ 0) maker.there ∙ plain_word τ 0 maker.op (made_plain maker.op.kind maker.made) ∙ ap (λ z. Some (result_word τ maker.op 0 z)) made_type)

    change : Erased md i o t x
    change = record {
      there = there;
      plain = op_plain d fit k md at i o there made;
      result_is = typed;
      no_more = op_has_one d fit k md at i o there made;
      stand_is = stands.typed;
      stand_stays = stays;
      lower = λ h local. let less : h x < h (result i 0) = below h local in omega arith;
      words = λ τ holds wide. stands.words τ (op_held d fit k md at i o there made τ holds wide) (maker_word τ holds);
    }

    fits : ErasedFits md o x
    fits = record {
      known = λ is. let clash : true ≡ false = sym is ∙ made_no_number o.kind made in cc;
      constant = λ is. let clash : true ≡ false = sym is ∙ made_no_constant o.kind made in cc;
    }

    pub after_taken : IsFold d k md (erase_op i x md.body)
    after_taken = record {
      steady = steady_with_body d k md (erase_op i x md.body) at (erase_op_preserves d k md i o t x fit.valid at change)
          (fit_erased d k md i o t x fit at change fits) (shape_erase md.body i o x there (op_plain d fit k md at i o there made));
      lighter = out_is_lighter d k md i o x at there;
      smaller = inl (measure_taken_out md.body i o x there);
    }

-- ---- the law

after_pattern : (stand : Stand) → IsMakerOperand stand → PatternLaw (by_stand stand)
after_pattern stand shown d k md i es fit at is =
    let found = and_then_some (slice_get md.body i) (λ (o : Op). option_map (λ (x : Ref). erased i x ∷ []) (stand md.body o.kind o.types o.operands)) is in
    let taken = option_map_some (λ (x : Ref). erased i x ∷ []) (stand md.body found.0.kind found.0.types found.0.operands) found.2 in
    subst (λ (qs : List Edit). IsFold d k md (edited_by qs md.body)) taken.2 (of_op found.0 found.1 taken.0 taken.1)
  where
    of_op : (o : Op) → slice_get md.body i ≡ Some o → (x : Ref) → stand md.body o.kind o.types o.operands ≡ Some x → IsFold d k md (erase_op i x md.body)
    of_op o there x chosen =
        let made = shown.made md.body o.kind o.types o.operands x chosen in
        let maker = shown.maker md.body o.kind o.types o.operands x chosen in
        let typed = op_typed d fit k md at i o there made in
        let maker_type = op_typed d fit k md at maker.position maker.op maker.there maker.made in
        let maker_typed = ap (λ z. option_and_then (λ (y : Op). result_type y 0) z) maker.there ∙ maker_type in
        after_taken d fit k md at i o there made (type_or_none (type_of_result o.kind o.types (length o.operands))) typed x maker
        (type_or_none (type_of_result maker.op.kind maker.op.types (length maker.op.operands))) maker_typed
        (shown.stands md.body o.kind o.types o.operands x (type_in md.ports md.body) (type_or_none (type_of_result o.kind o.types (length o.operands)))
        (type_or_none (type_of_result maker.op.kind maker.op.types (length maker.op.operands))) chosen
        (op_known d fit k md at i o there made) maker_typed (op_known d fit k md at maker.position maker.op maker.there maker.made))

pub maker_operand_is_fold : (stand : Stand) → IsMakerOperand stand → FoldLaw (fold_by (by_stand stand))
maker_operand_is_fold stand shown = pattern_is_fold (by_stand stand) (after_pattern stand shown)
