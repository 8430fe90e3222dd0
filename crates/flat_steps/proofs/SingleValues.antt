-- Operations with one result.
use Rattle.std.proofs.Common.{◌≡◌, sym, ap, ◌∙◌, ℕ, zero, suc, false, List, [], slice_get, Some, inl, inr, refl}
use Rattle.std.specs.Prelude.{option_map}
use Rattle.hw_model.specs.Types.{HwType}
use Rattle.hw_model.specs.Design.{OpResult, Op, is_output_op, result_type}
use Rattle.flat_module_gates.proofs.Linking.{HasOne}

-- an operation that has a value has it first, and is no output
pub value_first : (o : Op) (k : ℕ) (t : HwType) → HasOne o → result_type o k ≡ Some t → (k ≡ 0) × (is_output_op o ≡ false)
value_first o k t (inl (given, empty)) typed =
    let none : option_map (λ (r : OpResult). r.type) (slice_get [] k) ≡ Some t = sym (ap (λ (rs : List OpResult). option_map (λ (r : OpResult). r.type) (slice_get rs k)) empty) ∙ typed in
    absurd (let no : ⊥ = cc in no)
value_first o zero t (inr (r, one, given)) typed = (refl, given)
value_first o (suc k) t (inr (r, one, given)) typed =
    let none : option_map (λ (s : OpResult). s.type) (slice_get [] k) ≡ Some t = sym (ap (λ (rs : List OpResult). option_map (λ (s : OpResult). s.type) (slice_get rs (suc k))) one) ∙ typed in
    absurd (let no : ⊥ = cc in no)
