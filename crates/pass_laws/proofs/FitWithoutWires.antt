-- A fit design stays fit without wires that stand side by side.
use Rattle.std.proofs.Common.{◌≡◌, ℕ, zero, suc, true, false, List, [], ◌∷◌, ◌++◌, length, map, set, Some, slice_get, refl, sym, ap, subst, ◌∙◌, inl, inr, option_and_then}
use Rattle.std.proofs.lemmas.List.{length-map}
use Rattle.std.proofs.lemmas.Option.{slice_get_within}
use Rattle.wiring.specs.Wiring.{In}
use Rattle.wiring.proofs.Lists.{slice_get-append_at, slice_get-set_same, set_some}
use Rattle.wiring.proofs.Members.{from_In-map}
use Rattle.hw_model.specs.Resets.{is_constant}
use Rattle.hw_model.specs.Design.{Ref, Op, Module, Design}
use Rattle.hw_model.specs.Design.Ref.{undefined}
use Rattle.op_verifier.specs.OpChecks.{is_nonzero_kind}
use Rattle.edit_laws.specs.Edit.{retarget}
use Rattle.edit_laws.specs.Laws.{without, erase_op, with_body}
use Rattle.acceptance_laws.specs.Keeps.{IsFit}
use Rattle.acceptance_laws.proofs.Accepted.{fit_found}
use Rattle.acceptance_laws.proofs.TakenOut.{fit_erased}
use Rattle.inline_laws.specs.Inline.{ref_or_undefined}
use Rattle.inline_laws.specs.Unwire.{IsWireAt, operand_at, unwire}
use Rattle.inline_laws.proofs.Unwired.{wire_erased_in}
use Rattle.inline_laws.proofs.WithoutWires.{IsBareWire, bare_retarget, erased_is, set_twice}

pub fit_without_wires : (n : ℕ) (prefix ws back : List Op) → length ws ≡ n → ((y : Op) → In y ws → IsBareWire y)
    → (d : Design) (k : ℕ) (m : Module) → IsFit d → slice_get d k ≡ Some m → m.body ≡ prefix ++ (ws ++ back)
    → IsFit (with_body d k m (unwire (length prefix) n m.body))
fit_without_wires zero prefix ws back size bare d k m fit at body_is = subst IsFit (sym (set_some d k m at)) fit
fit_without_wires (suc n) prefix [] back size bare d k m fit at body_is = cc
fit_without_wires (suc n) prefix (w ∷ ws) back size bare d k m fit at body_is =
    subst IsFit (set_twice d k m' (record m { body = unwire (length prefix) n os }))
    (subst (λ i. IsFit (set e k (record m { body = unwire i n os }))) (length-map prefix (retarget f))
    (fit_without_wires n (map (retarget f) prefix) (map (retarget f) ws) (map (retarget f) back) (length-map ws (retarget f) ∙ less size) bare_still e k m' fit_once
    (slice_get-set_same d k m' (slice_get_within d k m at)) (ap (erase_op (length prefix) x) body_is ∙ erased_is prefix w ws back x)))
  where
    x : Ref
    x = operand_at (length prefix) m.body

    f : Ref → Ref
    f = without (length prefix) (without (length prefix) undefined x)

    os : List Op
    os = erase_op (length prefix) x m.body

    m' : Module
    m' = record m { body = os }

    e : Design
    e = with_body d k m os

    less : suc (length ws) ≡ suc n → length ws ≡ n
    less same = cc

    there : slice_get m.body (length prefix) ≡ Some w
    there = ap (λ zs. slice_get zs (length prefix)) body_is ∙ slice_get-append_at prefix w (ws ++ back)

    wire_is : IsBareWire w
    wire_is = bare w (inl refl)

    operand_is : x ≡ wire_is.operand
    operand_is = ap (λ y. ref_or_undefined (option_and_then (λ (o : Op). slice_get o.operands 0) y)) there ∙ ap (λ rs. ref_or_undefined (slice_get rs 0)) wire_is.operand_is

    wire_at : IsWireAt m.body (length prefix) w wire_is.type x
    wire_at = record { there = there; kind_is = wire_is.kind_is; operand_is = wire_is.operand_is ∙ ap (λ r. r ∷ []) (sym operand_is); result_is = wire_is.result_is }

    fit_once : IsFit e
    fit_once =
        fit_erased d k m (length prefix) w wire_is.type x fit at
        (wire_erased_in d m.symbol m (length prefix) w wire_is.type x fit.valid (fit_found d fit k m at) wire_at)
        (record {
          known = λ h. let clash : false ≡ true = sym (ap is_nonzero_kind wire_is.kind_is) ∙ h in cc;
          constant = λ h. let clash : false ≡ true = sym (ap is_constant wire_is.kind_is) ∙ h in cc;
        })

    bare_still : (y : Op) → In y (map (retarget f) ws) → IsBareWire y
    bare_still y here =
        let from = from_In-map (retarget f) y ws here in
        subst IsBareWire (sym from.2) (bare_retarget f from.0 (bare from.0 (inr from.1)))
