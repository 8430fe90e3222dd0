-- The results of operations on integers are of integer types within the limits.
use Rattle.std.proofs.Common.{◌≡◌, ℕ, ◌≤◌, ◌==◌, false, not, List, [], ◌∷◌, length, map, Some, refl, sym, ap, ◌∙◌, arith}
use Rattle.std.specs.List.{list_any}
use Rattle.std.proofs.lemmas.Bool.{ltb-false}
use Rattle.std.proofs.lemmas.Bool.Decides.{nat_tests}
use Rattle.wiring.specs.Lists.{total}
use Rattle.hw_model.specs.Types.{HwType, width}
use Rattle.hw_model.specs.Types.HwType.{int, clock, array, struct}
use Rattle.type_inference.specs.ResultTypes.{first_type, second_type, joined_width, kept_size, as_int}
use Rattle.stored_form.specs.ResultTypes.{type_or_none}
use Rattle.op_checks.specs.LimitChecks.{is_too_wide}
use Rattle.op_checks.specs.TypeChecks.{is_int, is_outside}
use Rattle.op_checks.proofs.FitIntegers.{joined_sum}
use Rattle.op_checks.proofs.Widths.{neither}

-- an integer's type within the limits
pub record IsIntegerType (t : HwType) : Type 0 where
  pub bits_of : ℕ
  pub type_is : t ≡ int bits_of
  pub within : is_outside (int bits_of) ≡ false

-- the only written type, where it is an integer's
pub integer_first : (ts : List HwType) (t : HwType) → length ts ≡ 1 → list_any (λ (u : HwType). not (is_int u)) ts ≡ false → list_any is_outside ts ≡ false
    → t ≡ type_or_none (first_type ts) → IsIntegerType t
integer_first [] t one form limits settled = absurd (omega arith)
integer_first (int w ∷ []) t one form limits settled =
    record { bits_of = w; type_is = settled; within = (neither (is_outside (int w)) false limits).0 }
integer_first (clock ∷ []) t one form limits settled = cc
integer_first (array n u ∷ []) t one form limits settled = cc
integer_first (struct fs ∷ []) t one form limits settled = cc
integer_first (u ∷ v ∷ ts) t one form limits settled = absurd (omega arith)

-- the second of two
pub integer_second : (ts : List HwType) (t : HwType) → length ts ≡ 2 → list_any (λ (u : HwType). not (is_int u)) ts ≡ false → list_any is_outside ts ≡ false
    → t ≡ type_or_none (second_type ts) → IsIntegerType t
integer_second [] t two form limits settled = absurd (omega arith)
integer_second (u ∷ []) t two form limits settled = absurd (omega arith)
integer_second (u ∷ v ∷ []) t two form limits settled =
    integer_first (v ∷ []) t refl (neither (not (is_int u)) (list_any (λ (z : HwType). not (is_int z)) (v ∷ [])) form).1
    (neither (is_outside u) (list_any is_outside (v ∷ [])) limits).1 settled
integer_second (u ∷ v ∷ w ∷ ts) t two form limits settled = absurd (omega arith)

-- i1
pub integer_bit : (t : HwType) → t ≡ int 1 → IsIntegerType t
unfolding is_outside
integer_bit t is = record { bits_of = 1; type_is = is; within = refl }

-- ---- joined integers

within_limits : (n : ℕ) → 1 ≤ n → n ≤ 128 → is_outside (int n) ≡ false
unfolding is_outside
within_limits n some few = grind (arith, nat_tests, some, few)

some_bits : (t : HwType) (ts : List HwType) → list_any (λ (u : HwType). not (is_int u)) (t ∷ ts) ≡ false → list_any is_outside (t ∷ ts) ≡ false → 1 ≤ width t
unfolding is_outside
some_bits (int w) ts form limits =
    let within = (neither (is_outside (int w)) (list_any is_outside ts) limits).0 in
    let part = (neither _ _ within).0 in
    let some = (neither (w == 0) _ part).0 in
    grind (arith, nat_tests, some)
some_bits clock ts form limits = cc
some_bits (array n u) ts form limits = cc
some_bits (struct fs) ts form limits = cc

-- an integer of as many bits as the operands of a concat
pub integer_joined : (ts : List HwType) (t : HwType) → 1 ≤ length ts → list_any (λ (u : HwType). not (is_int u)) ts ≡ false → list_any is_outside ts ≡ false
    → is_too_wide (joined_width ts) ≡ false → t ≡ type_or_none (as_int (joined_width ts)) → IsIntegerType t
integer_joined [] t some form limits narrow settled = absurd (omega arith)
integer_joined (u ∷ ts) t some form limits narrow settled =
    let sum : joined_width (u ∷ ts) ≡ Some (total (map width (u ∷ ts))) = joined_sum (u ∷ ts) form in
    let few : total (map width (u ∷ ts)) ≤ 128 = ltb-false 128 (total (map width (u ∷ ts))) (ap is_too_wide (sym sum) ∙ narrow) in
    let more : 1 ≤ width u = some_bits u ts form limits in
    let kept : kept_size (total (map width (u ∷ ts))) ≡ total (map width (u ∷ ts)) = omega arith in
    record {
      bits_of = total (map width (u ∷ ts));
      type_is = settled ∙ ap (λ x. type_or_none (as_int x)) sum ∙ ap int kept;
      within = within_limits (total (map width (u ∷ ts))) (omega arith) few;
    }
