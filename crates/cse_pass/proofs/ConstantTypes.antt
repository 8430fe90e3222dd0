-- What a constant is that is not refused by itself: it has one result, and its number is in the range of its type.
use Rattle.std.proofs.Common.{◌≡◌, ◌≤◌, ℕ, suc, ℤ, ◌==◌, Bool, false, not, List, [], ◌∷◌, length, Option, Some, None, slice_get, refl, sym, ap, ◌∙◌, arith, option_map}
use Rattle.std.specs.List.{list_any}
use Rattle.std.proofs.lemmas.Bool.Decides.{nat_tests}
use Rattle.hw_model.specs.Types.{HwType}
use Rattle.hw_model.specs.Types.HwType.{int, clock, array, struct}
use Rattle.hw_model.specs.Kinds.{Kind}
use Rattle.hw_model.specs.Kinds.Kind.{constant, aggregate_constant}
use Rattle.hw_model.specs.Opcodes.{opcode_of}
use Rattle.hw_model.specs.Resets.{is_constant}
use Rattle.hw_model.specs.Design.{OpResult}
use Rattle.type_inference.specs.ResultTypes.{first_type, result_count}
use Rattle.op_checks.specs.CountChecks.{type_count}
use Rattle.op_checks.specs.LimitChecks.{of_type, has_constant_outside}
use Rattle.op_checks.specs.LiteralChecks.{is_out_of_range, is_outside_type}
use Rattle.op_checks.specs.OperandChecks.{has_other_form}
use Rattle.op_checks.specs.TypeChecks.{is_int, is_outside}
use Rattle.op_checks.proofs.NoOwnCause.{NoOwnCause}
use Rattle.op_checks.proofs.Widths.{neither}
use Rattle.fold_laws.specs.Unused.{is_pure}
use Rattle.cse_pass.specs.EqualOps.{value_kind}

-- the written types of a constant with a number: one of an integer, in whose range the number is
pub record IsNumber (ts : List HwType) (y : ℤ) : Type 0 where
  pub bits_of : ℕ
  pub types_are : ts ≡ int bits_of ∷ []
  pub some : 1 ≤ bits_of
  pub within : is_out_of_range y bits_of ≡ false

some_bits : (w : ℕ) → is_outside (int w) ≡ false → 1 ≤ w
unfolding is_outside
some_bits w limits =
    let part = (neither _ _ limits).0 in
    let some = (neither (w == 0) _ part).0 in
    grind (arith, nat_tests, some)

number_types : (ts : List HwType) (y : ℤ) → length ts ≡ 1 → list_any (λ (u : HwType). not (is_int u)) ts ≡ false → list_any is_outside ts ≡ false
    → of_type (is_outside_type y) (first_type ts) ≡ false → IsNumber ts y
number_types [] y one form limits range = absurd (omega (arith, one))
number_types (int w ∷ []) y one form limits range =
    record { bits_of = w; types_are = refl; some = some_bits w (neither (is_outside (int w)) false limits).0; within = range }
number_types (clock ∷ []) y one form limits range = cc
number_types (array n u ∷ []) y one form limits range = cc
number_types (struct fs ∷ []) y one form limits range = cc
number_types (u ∷ v ∷ ts) y one form limits range = absurd (omega (arith, one))

pub number_own : (kind : Kind) (ts rs : List HwType) (named n : ℕ) (xs : List (Option HwType)) (known : Bool) (y : ℤ) → kind ≡ constant y
    → NoOwnCause kind ts rs named n xs known → IsNumber ts y
unfolding has_other_form has_constant_outside type_count
number_own kind ts rs named n xs known y is own =
    number_types ts y (own.types ∙ ap (λ z. type_count z n) is) (sym (ap (λ z. has_other_form z ts) is) ∙ own.form) own.written
    (sym (ap (λ z. has_constant_outside z ts) is) ∙ own.constant)

-- a constant has one result
pub constant_results : (kind : Kind) (ts : List HwType) (y : ℤ) → kind ≡ constant y → result_count kind ts ≡ 1
unfolding result_count
constant_results kind ts y is = ap (λ z. result_count z ts) is

pub one_result : (rs : List OpResult) (k : ℕ) → length rs ≡ 1 → option_map (λ (r : OpResult). r.type) (slice_get rs (suc k)) ≡ None
one_result [] k one = refl
one_result (r ∷ []) k one = refl
one_result (r ∷ q ∷ rs) k one = absurd (omega (arith, one))

-- ---- kinds, whose numbers are read by types

-- a kind is pure, and a constant, as it is with its numbers read by types
pub pure_value : (x : Option HwType) (kind : Kind) → is_pure (value_kind x kind) ≡ is_pure kind
pure_value (Some t) (constant z) = refl
pure_value None (constant z) = refl
pure_value (Some t) (aggregate_constant ls) = refl
pure_value None (aggregate_constant ls) = refl
pure_value (Some t) _ = refl
pure_value None _ = refl

pub constant_value : (x : Option HwType) (kind : Kind) → is_constant (value_kind x kind) ≡ is_constant kind
constant_value (Some t) (constant z) = refl
constant_value None (constant z) = refl
constant_value (Some t) (aggregate_constant ls) = refl
constant_value None (aggregate_constant ls) = refl
constant_value (Some t) _ = refl
constant_value None _ = refl

pub opcode_value : (x : Option HwType) (kind : Kind) → opcode_of (value_kind x kind) ≡ opcode_of kind
opcode_value (Some t) (constant z) = refl
opcode_value None (constant z) = refl
opcode_value (Some t) (aggregate_constant ls) = refl
opcode_value None (aggregate_constant ls) = refl
opcode_value (Some t) _ = refl
opcode_value None _ = refl
