-- Extracts and concats in the body of a module of a fit design.
use Rattle.std.proofs.Common.{◌≡◌, ℕ, ◌≤◌, ◌+◌, false, List, [], ◌∷◌, length, map, Option, Some, slice_get, sym, ap, subst, ◌∙◌, arith}
use Rattle.std.specs.List.{list_any}
use Rattle.hw_model.specs.Types.{HwType, width}
use Rattle.hw_model.specs.Kinds.Kind.{extract, concat}
use Rattle.hw_model.specs.Design.{Op}
use Rattle.hw_model.specs.Sound.{type_in, Fits}
use Rattle.ir_store.specs.declared.body.Body.{Body}
use Rattle.type_inference.specs.ResultTypes.{result_type as type_of_result}
use Rattle.stored_form.specs.ResultTypes.{type_or_none}
use Rattle.op_checks.specs.CountChecks.{type_count}
use Rattle.op_checks.specs.OperandChecks.{has_other_operand}
use Rattle.op_checks.specs.TypeChecks.{is_outside}
use Rattle.op_checks.specs.TypeLists.{differs}
use Rattle.op_checks.proofs.Agreeing.{agreed}
use Rattle.op_checks.proofs.Widths.{neither, bits_within}
use Rattle.fold_laws.proofs.MadeKinds.{is_made}
use Rattle.fold_laws.proofs.Stands.{Known, op_known}
use Rattle.body_edits.specs.FitBodies.{IsOfFit}
use Rattle.body_edits.specs.Views.{body_ops}

-- one that reaches no further than its operand takes low bits
reaches : (low : ℕ) (ts : List HwType) (xs : List (Option HwType)) (t : HwType) → length ts ≡ 2 → has_other_operand (extract low) ts xs ≡ false → list_any is_outside ts ≡ false
    → Fits (extract low) ts xs t 0 → low ≤ 4096
unfolding has_other_operand
reaches low [] xs t two asked limits fits = absurd (omega (arith, two))
reaches low (p ∷ []) xs t two asked limits fits = absurd (omega (arith, two))
reaches low (p ∷ q ∷ r ∷ ts) xs t two asked limits fits = absurd (omega (arith, two))
reaches low (p ∷ q ∷ []) xs t two asked limits fits =
    let alone : has_other_operand (extract low) (p ∷ q ∷ []) (Some fits.0 ∷ []) ≡ false = ap (has_other_operand (extract low) (p ∷ q ∷ [])) (sym fits.1) ∙ asked in
    let same : fits.0 ≡ p = agreed fits.0 p (neither (differs (Some fits.0) (Some p)) false alone).0 in
    let within : width p ≤ 4096 = bits_within p (neither (is_outside p) (list_any is_outside (q ∷ [])) limits).0 in
    let room : low + width t ≤ width p = subst (λ z. low + width t ≤ width z) same fits.2 in
    omega (arith, within, room)

module _ (b : Body) (of : IsOfFit b) (i : ℕ) (o : Op) (there : slice_get (body_ops b) i ≡ Some o) (low : ℕ) (kind : o.kind ≡ extract low) where
  known : Known of.owner.body (extract low) o.types o.operands (type_in of.owner.ports of.owner.body) (type_or_none (type_of_result o.kind o.types (length o.operands)))
  known =
      subst (λ z. Known of.owner.body z o.types o.operands (type_in of.owner.ports of.owner.body) (type_or_none (type_of_result o.kind o.types (length o.operands)))) kind
      (op_known of.design of.fit of.number of.owner of.there i o (ap (λ os. slice_get os i) of.is_body ∙ there) (ap is_made kind))

  -- it writes two types
  pub extract_types : length o.types ≡ 2
  unfolding type_count
  extract_types = known.written

  -- its lowest bit is that of a type
  pub low_within : low ≤ 4096
  low_within = reaches low o.types (map (type_in of.owner.ports of.owner.body) o.operands) (type_or_none (type_of_result o.kind o.types (length o.operands))) extract_types known.asked known.limits known.fits

-- a concat writes the type of each operand
pub concat_types : (b : Body) → IsOfFit b → (i : ℕ) (o : Op) → slice_get (body_ops b) i ≡ Some o → o.kind ≡ concat → length o.types ≡ length o.operands
unfolding type_count
concat_types b of i o there kind =
    (op_known of.design of.fit of.number of.owner of.there i o (ap (λ os. slice_get os i) of.is_body ∙ there) (ap is_made kind)).written
    ∙ ap (λ k. type_count k (length o.operands)) kind
