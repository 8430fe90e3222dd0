-- A body that can be written as expressions: a constant, a signed quotient by it, and a shift of that.
use Rattle.std.proofs.Common.{◌≡◌, ℕ, zero, suc, ◌<◌, ◌≤◌, ◌^◌, true, false, List, [], ◌∷◌, length, Option, Some, None, is_some, slice_get, decimal, pos, codes, refl, subst, inl, inr, arith}
use Rattle.std.proofs.lemmas.Bool.{true≢false, false≢true}
use Rattle.wiring.specs.Wiring.{IsAcyclic, FallsAlong}
use Rattle.wiring.proofs.Chains.{IsAcyclic-falling}
use Rattle.hw_model.specs.Types.{Name, HwType, width}
use Rattle.hw_model.specs.Types.HwType.{int}
use Rattle.hw_model.specs.Kinds.{Kind}
use Rattle.hw_model.specs.Kinds.Division.{divs}
use Rattle.hw_model.specs.Kinds.Shift.{shru}
use Rattle.hw_model.specs.Kinds.Kind.{division, shift, constant}
use Rattle.hw_model.specs.Design.{Ref, Port, Op, result_type}
use Rattle.hw_model.specs.Design.Ref.{port, result, undefined}
use Rattle.hw_model.specs.Flat.{width_of}
use Rattle.hw_model.specs.Sound.{type_in, OpFits}
use Rattle.verilog_model.specs.Tree.Operator.{over, right_shift}
use Rattle.verilog_model.specs.Tree.Expr.{name, literal, as_signed, as_unsigned, binary}
use Rattle.verilog_model.specs.Digits.{hex}
use Rattle.verilog_expr.specs.declared.extending.Extending.TheVariants.{Off}
use Rattle.verilog_expr.specs.Expressions.{value_width, constant_of, expr_to}
use Rattle.verilog_expr.specs.Spilling.{is_pure, is_narrower, height_limit, height, spilled, inner_needs}
use Rattle.verilog_expr.specs.Values.{is_aggregate_kind, is_division, is_variadic, IsDivision, IsWritable}

abbrev of_byte : Kind → List Ref → Op
of_byte kind rs = record {
  kind = kind;
  operands = rs;
  types = int 8 ∷ [];
  results = record { type = int 8; again = false } ∷ [];
  named = 1;
  name = [];
  dictionary = [];
  bin = false;
  location = record { line = 1; col = 1 };
}

abbrev ports : List Port
ports = record { name = codes "a"; is_output = false; type = int 8; again = false } ∷ []

abbrev divisor : Op
divisor = of_byte (constant (pos 253)) []

abbrev quotient : Op
quotient = of_byte (division divs) (port 0 ∷ result 0 0 ∷ [])

abbrev shifted : Op
shifted = of_byte (shift shru) (result 1 0 ∷ port 0 ∷ [])

abbrev body : List Op
body = divisor ∷ quotient ∷ shifted ∷ []

abbrev named : Ref → Option Name
named (port zero) = Some (codes "a")
named _ = None

-- its last value is written by the input's name alone
last_value : expr_to named ports body (suc height_limit) Off (result 2 0)
    ≡ binary right_shift (as_unsigned (binary over (as_signed (name (codes "a"))) (literal (decimal 8) true (codes "FD")))) (name (codes "a"))
unfolding expr_to hex
last_value = refl

last_height : height ports body (result 2 0) ≡ 2
unfolding height
last_height = refl

each_op : (P : ℕ → Op → Type 0) → P 0 divisor → P 1 quotient → P 2 shifted → (i : ℕ) (o : Op) → slice_get body i ≡ Some o → P i o
each_op P first second third zero o is = let same : divisor ≡ o = cc in subst (P 0) same first
each_op P first second third (suc zero) o is = let same : quotient ≡ o = cc in subst (P 1) same second
each_op P first second third (suc (suc zero)) o is = let same : shifted ≡ o = cc in subst (P 2) same third
each_op P first second third (suc (suc (suc i))) o is = absurd (let bad : true ≡ false = cc in true≢false bad)

its_result : (P : ℕ → HwType → Type 0) (kind : Kind) (rs : List Ref) → P 0 (int 8) → (k : ℕ) (t : HwType) → result_type (of_byte kind rs) k ≡ Some t → P k t
its_result P kind rs holds zero t is = let same : int 8 ≡ t = cc in subst (P 0) same holds
its_result P kind rs holds (suc k) t is = absurd (let bad : true ≡ false = cc in true≢false bad)

each_result : (P : ℕ → ℕ → Op → HwType → Type 0) → P 0 0 divisor (int 8) → P 1 0 quotient (int 8) → P 2 0 shifted (int 8)
    → (i k : ℕ) (o : Op) (t : HwType) → slice_get body i ≡ Some o → result_type o k ≡ Some t → P i k o t
each_result P first second third i k o t there is =
    each_op (λ j q. (k : ℕ) (t : HwType) → result_type q k ≡ Some t → P j k q t)
    (its_result (λ k t. P 0 k divisor t) (constant (pos 253)) [] first) (its_result (λ k t. P 1 k quotient t) (division divs) (port 0 ∷ result 0 0 ∷ []) second)
    (its_result (λ k t. P 2 k shifted t) (shift shru) (result 1 0 ∷ port 0 ∷ []) third) i o there k t is

input_named : (j : ℕ) (t : HwType) → type_in ports body (port j) ≡ Some t → is_some (named (port j)) ≡ true
input_named zero t is = refl
input_named (suc j) t is = absurd (let bad : true ≡ false = cc in true≢false bad)

narrow_values : (r : Ref) → value_width ports body r < 2 ^ 64
narrow_values (port zero) = omega arith
narrow_values (port (suc j)) = omega arith
narrow_values (result zero zero) = omega arith
narrow_values (result zero (suc k)) = omega arith
narrow_values (result (suc zero) zero) = omega arith
narrow_values (result (suc zero) (suc k)) = omega arith
narrow_values (result (suc (suc zero)) zero) = omega arith
narrow_values (result (suc (suc zero)) (suc k)) = omega arith
narrow_values (result (suc (suc (suc i))) k) = omega arith
narrow_values undefined = omega arith

body_writable : IsWritable named ports body
unfolding spilled height
body_writable = record {
  fits = each_op (λ i o. OpFits (type_in ports body) o) (λ k t is. refl)
      (its_result (λ k t. type_in ports body (port 0) ∷ type_in ports body (result 0 0) ∷ [] ≡ Some t ∷ Some t ∷ []) (division divs) (port 0 ∷ result 0 0 ∷ []) refl)
      (its_result (λ k t. type_in ports body (result 1 0) ∷ type_in ports body (port 0) ∷ [] ≡ Some t ∷ Some t ∷ []) (shift shru) (result 1 0 ∷ port 0 ∷ []) refl);
  integers = each_op (λ i o. is_aggregate_kind o.kind ≡ false) refl refl refl;
  filled = each_op (λ i o. is_variadic o.kind ≡ true → 1 ≤ length o.operands) (λ v. absurd (false≢true v)) (λ v. absurd (false≢true v)) (λ v. absurd (false≢true v));
  bits = each_result (λ i k o t. 1 ≤ width t) (omega arith) (omega arith) (omega arith);
  narrow = narrow_values;
  divisions = each_op (λ i o. is_division o.kind ≡ true → IsDivision body o) (λ d. absurd (false≢true d))
      (λ d. record {
        dividend = port 0;
        divisor = 0;
        operands = refl;
        by = divisor;
        there = refl;
        constant = refl;
        not_zero = λ t is. its_result (λ k t. 0 < constant_of (Some divisor) (width t))
            (division divs) (port 0 ∷ result 0 0 ∷ []) (omega arith) 0 t is;
      })
      (λ d. absurd (false≢true d));
  inputs = input_named;
  owned = λ i k o t there is. each_result (λ i k o t. is_pure o ≡ false → is_some (named (result i k)) ≡ true) (λ p. absurd (true≢false p)) (λ p. absurd (true≢false p)) (λ p. absurd (true≢false p)) i k o t there is;
  wires = λ i k o t there is. each_result (λ i k o t. named (result i k) ≡ None → spilled ports body (result i k) ≡ false) (λ n. refl) (λ n. refl) (λ n. refl) i k o t there is;
  cuts = λ i o r there. each_op (λ i o. o.operands ≡ r ∷ [] → is_narrower o.kind (width_of (result_type o 0)) (value_width ports body r) ≡ true → is_some (named r) ≡ true)
      (λ e n. absurd (false≢true n)) (λ e n. absurd (false≢true n)) (λ e n. absurd (false≢true n)) i o there;
  one_result = λ i k o t there v is. each_result (λ i k o t. k ≡ 0) refl refl refl i k o t there is;
}

height_of : Ref → ℕ
height_of (result i k) = suc i
height_of _ = 0

needs_fall : FallsAlong (inner_needs body) height_of
unfolding height_of
needs_fall (port j) b need = absurd need
needs_fall undefined b need = absurd need
needs_fall (result i (suc k)) b need = absurd need
needs_fall (result zero zero) b need = absurd need
needs_fall (result (suc zero) zero) b (inl same) = rw same (omega arith)
needs_fall (result (suc zero) zero) b (inr (inl same)) = rw same (omega arith)
needs_fall (result (suc zero) zero) b (inr (inr need)) = absurd need
needs_fall (result (suc (suc zero)) zero) b (inl same) = rw same (omega arith)
needs_fall (result (suc (suc zero)) zero) b (inr (inl same)) = rw same (omega arith)
needs_fall (result (suc (suc zero)) zero) b (inr (inr need)) = absurd need
needs_fall (result (suc (suc (suc i))) zero) b need = absurd need

body_acyclic : IsAcyclic (inner_needs body)
body_acyclic = IsAcyclic-falling (inner_needs body) height_of needs_fall
