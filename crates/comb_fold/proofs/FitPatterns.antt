-- That a value which stands for a result in a fit design is no result of that operation.
use Rattle.std.proofs.Common.{◌≡◌, ℕ, zero, suc, ◌<◌, false, length, Some, None, slice_get, sym, ap, ◌∙◌, arith, option_and_then}
use Rattle.wiring.specs.Wiring.{In}
use Rattle.hw_model.specs.Types.{HwType}
use Rattle.hw_model.specs.Design.{Ref, Op, Module, Design, result_type}
use Rattle.hw_model.specs.Design.Ref.{result}
use Rattle.hw_model.specs.Sound.{type_in}
use Rattle.type_inference.specs.ResultTypes.{result_type as type_of_result}
use Rattle.stored_form.specs.ResultTypes.{type_or_none}
use Rattle.acceptance_laws.specs.Keeps.{IsFit}
use Rattle.edit_laws.specs.Edit.{is_anchor}
use Rattle.edit_laws.specs.Falls.{LocalHeight}
use Rattle.edit_laws.specs.Laws.{IsNotOf}
use Rattle.edit_laws.proofs.Uses.{own_height, operand_lower, operand_other}
use Rattle.fold_laws.specs.Standing.{Stand}
use Rattle.fold_laws.proofs.MakerOperands.{IsMakerOperand}
use Rattle.fold_laws.proofs.MadeKinds.{made_plain}
use Rattle.fold_laws.proofs.Stands.{IsStand, op_found, op_plain, op_typed, op_has_one, op_known}
use Rattle.body_edits.specs.Replaceable.{MayStand}
use Rattle.comb_fold.specs.Patterns.{StandsInFit}
use Rattle.body_edits.proofs.FitOps.{no_further}

-- an operand of the operation
of_stand : (stand : Stand) → IsStand stand → (d : Design) (k : ℕ) (md : Module) (i : ℕ) (o : Op) (x : Ref) → IsFit d → slice_get d k ≡ Some md → slice_get md.body i ≡ Some o
    → stand md.body o.kind o.types o.operands ≡ Some x → MayStand md.body i x
of_stand stand shown d k md i o x fit at there is =
    let made = shown.made md.body o.kind o.types o.operands x is in
    let typed = op_typed d fit k md at i o there made in
    let t = type_or_none (type_of_result o.kind o.types (length o.operands)) in
    let stands = shown.stands md.body o.kind o.types o.operands x (type_in md.ports md.body) t is (op_known d fit k md at i o there made) in
    record {
      other = operand_other d md fit.valid (op_found d fit k md at i o there made) i o t t there (op_plain d fit k md at i o there made) typed
          (op_has_one d fit k md at i o there made) x stands.named stands.typed;
      no_further = no_further d fit k md at i o there made;
    }

pub stands_in_fit : (stand : Stand) → IsStand stand → StandsInFit stand
stands_in_fit stand shown = record { may = of_stand stand shown }

-- what stands lower than an operand is no result
not_its_own : (md : Module) (i : ℕ) (o : Op) (t u : HwType) → (h : Ref → ℕ) × LocalHeight md.body h → slice_get md.body i ≡ Some o → is_anchor o ≡ false
    → result_type o 0 ≡ Some t → ((n : ℕ) → result_type o (suc n) ≡ None) → (j : ℕ) (c : Op) → slice_get md.body j ≡ Some c → is_anchor c ≡ false
    → result_type c 0 ≡ Some u → In (result j 0) o.operands → (x : Ref) → In x c.operands → type_in md.ports md.body x ≡ Some t → IsNotOf i x
not_its_own md i o t u (h, local) there plain typed has_one j c made_there plain_made made_typed operand x named x_typed n same = go n same
  where
    go : (n : ℕ) → x ≡ result i n → ⊥
    go zero is =
        let first : h x < h (result j 0) = operand_lower md.body h local j 0 c u made_there plain_made made_typed x named in
        let second : h (result j 0) < h (result i 0) = operand_lower md.body h local i 0 o t there plain typed (result j 0) operand in
        let equal : h x ≡ h (result i 0) = ap h is in
        absurd (omega (arith, first, second, equal))
    go (suc n) is =
        let clash : Some t ≡ None =
        sym x_typed ∙ ap (type_in md.ports md.body) is ∙ ap (λ z. option_and_then (λ (y : Op). result_type y (suc n)) z) there ∙ has_one n in
        cc

-- an operand of the operation that made an operand
of_maker_operand : (stand : Stand) → IsMakerOperand stand → (d : Design) (k : ℕ) (md : Module) (i : ℕ) (o : Op) (x : Ref) → IsFit d → slice_get d k ≡ Some md
    → slice_get md.body i ≡ Some o → stand md.body o.kind o.types o.operands ≡ Some x → MayStand md.body i x
of_maker_operand stand shown d k md i o x fit at there is =
    let made = shown.made md.body o.kind o.types o.operands x is in
    let maker = shown.maker md.body o.kind o.types o.operands x is in
    let t = type_or_none (type_of_result o.kind o.types (length o.operands)) in
    let u = type_or_none (type_of_result maker.op.kind maker.op.types (length maker.op.operands)) in
    let typed : result_type o 0 ≡ Some t = op_typed d fit k md at i o there made in
    let made_type : result_type maker.op 0 ≡ Some u = op_typed d fit k md at maker.position maker.op maker.there maker.made in
    let maker_typed : type_in md.ports md.body (result maker.position 0) ≡ Some u = ap (λ z. option_and_then (λ (y : Op). result_type y 0) z) maker.there ∙ made_type in
    let stands = shown.stands md.body o.kind o.types o.operands x (type_in md.ports md.body) t u is (op_known d fit k md at i o there made) maker_typed
    (op_known d fit k md at maker.position maker.op maker.there maker.made) in
    record {
      other = not_its_own md i o t u (own_height d md fit.valid (op_found d fit k md at i o there made)) there (op_plain d fit k md at i o there made) typed
          (op_has_one d fit k md at i o there made) maker.position maker.op maker.there (made_plain maker.op.kind maker.made) made_type maker.operand x maker.named stands.typed;
      no_further = no_further d fit k md at i o there made;
    }

pub maker_operand_in_fit : (stand : Stand) → IsMakerOperand stand → StandsInFit stand
maker_operand_in_fit stand shown = record { may = of_maker_operand stand shown }
