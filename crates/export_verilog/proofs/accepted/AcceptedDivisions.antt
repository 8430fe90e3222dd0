-- The divisor of an accepted division is a constant that is not 0 in its type.
use Rattle.std.proofs.Common.{◌≡◌, ℕ, ℤ, zero, suc, pos, negsuc, ◌-◌, ◌*◌, ◌≤◌, ◌<◌, ◌^◌, Bool, true, false, not, ◌&&◌, List, [], ◌∷◌, map, length, slice_get, Option, Some, None, refl, sym, ap, ◌∙◌}
use Rattle.std.proofs.Common.{subst, arith, option_map, pow-suc, option_and_then}
use Rattle.std.specs.Prelude.{nat_eq}
use Rattle.std.specs.List.{list_any}
use Rattle.std.proofs.lemmas.Bool.{eqb-true, not-false}
use Rattle.std.proofs.lemmas.Bool.Decides.{nat_tests}
use Rattle.bits_core.specs.Word.{number, bits, bits_of_ℤ}
use Rattle.bits_core.proofs.Numbers.{length-bits, number-bits-below}
use Rattle.bits_core.proofs.Complement.{number-not}
use Rattle.hw_model.specs.Types.{HwType, width}
use Rattle.hw_model.specs.Types.HwType.{int, clock, array, struct}
use Rattle.hw_model.specs.Kinds.{Kind}
use Rattle.hw_model.specs.Kinds.Kind.{division, constant}
use Rattle.hw_model.specs.Design.{Ref, Port, OpResult, Op, result_type}
use Rattle.hw_model.specs.Design.Ref.{port, result, undefined}
use Rattle.hw_model.specs.Sound.{type_in, OpFits}
use Rattle.type_inference.specs.ResultTypes.{result_type as kind_result_type, result_types}
use Rattle.op_checks.specs.TypeChecks.{is_outside}
use Rattle.op_checks.specs.TypeLists.{known_types}
use Rattle.op_checks.specs.LiteralChecks.{is_out_of_range}
use Rattle.op_checks.specs.OperandChecks.{has_other_form}
use Rattle.op_checks.specs.LimitChecks.{has_constant_outside, has_unknown_divisor}
use Rattle.op_checks.specs.CountChecks.{operands_written, operand_count}
use Rattle.op_verifier.specs.OpChecks.{is_nonzero, is_nonzero_kind, is_nonzero_op, divides_by_constant}
use Rattle.op_verifier.proofs.NoCauseAlone.{types_of, NoCauseAlone}
use Rattle.op_checks.proofs.Settled.{settles}
use Rattle.op_checks.proofs.Widths.{neither}
use Rattle.verilog_expr.specs.Expressions.{constant_number}
use Rattle.verilog_expr.specs.Spilling.{is_constant_kind}
use Rattle.verilog_expr.specs.Values.{is_division, IsDivision}
use Rattle.export_verilog.proofs.accepted.AcceptedTypes.{some_bits}
use Rattle.verilog_expr.proofs.Bodies.{division_types}

-- ---- numbers

in_range : (n w : ℕ) → is_out_of_range (pos n) w ≡ false → n < 2 ^ w
unfolding is_out_of_range
in_range n w h = grind (arith, nat_tests)

in_lower_range : (n w : ℕ) → is_out_of_range (negsuc n) w ≡ false → n < 2 ^ (w - 1)
unfolding is_out_of_range
in_lower_range n w h = grind (arith, nat_tests)

not_zero : (n : ℕ) → not (nat_eq n 0) ≡ true → 0 < n
not_zero zero h = cc
not_zero (suc n) h = omega arith

-- an integer other than 0 within the range of a type is no word of zeros
nonzero_number : (z : ℤ) (w : ℕ) → 1 ≤ w → is_nonzero z ≡ true → is_out_of_range z w ≡ false → 0 < number (bits_of_ℤ w z)
nonzero_number (pos n) w some nonzero h = rw (number-bits-below w n (in_range n w h)) (not_zero n nonzero)
nonzero_number (negsuc n) zero some nonzero h = absurd (omega (arith, some))
nonzero_number (negsuc n) (suc v) some nonzero h =
    let less : suc v - 1 ≡ v = omega arith in
    let low : n < 2 ^ v = subst (λ (k : ℕ). n < 2 ^ k) less (in_lower_range n (suc v) h) in
    let twice : 2 ^ suc v ≡ 2 ^ v * 2 = pow-suc 2 v in
    let below : n < 2 ^ suc v = omega (arith, low, twice) in
    let is : number (bits (suc v) n) ≡ n = number-bits-below (suc v) n below in
    let both = number-not (bits (suc v) n) in
    let long : 2 ^ length (bits (suc v) n) ≡ 2 ^ suc v = ap (λ (k : ℕ). 2 ^ k) (length-bits (suc v) n) in
    omega (arith, low, twice, is, both, long)

-- ---- constants

-- whether a kind is a nonzero constant, whether it is a constant
constant_from : (kind : Kind) → is_nonzero_kind kind ≡ true → is_constant_kind kind ≡ true
constant_from (constant z) h = refl
constant_from _ h = cc

first_settled : (x : Option HwType) (rs : List OpResult) (t : HwType) → x ∷ [] ≡ known_types (types_of rs) → option_map (λ (r : OpResult). r.type) (slice_get rs 0) ≡ Some t → x ≡ Some t
first_settled x [] t h is = cc
first_settled x (r ∷ rs) t h is = let e : x ≡ Some r.type = cc in e ∙ is

-- a constant that is not refused is not 0 in the type of its result
constant_worth : (kind : Kind) (ts : List HwType) (rs : List OpResult) (n : ℕ) (t : HwType) → is_nonzero_kind kind ≡ true → has_other_form kind ts ≡ false
    → list_any is_outside ts ≡ false → has_constant_outside kind ts ≡ false → result_types kind ts n ≡ known_types (types_of rs)
    → option_map (λ (r : OpResult). r.type) (slice_get rs 0) ≡ Some t → 0 < constant_number kind (width t)
unfolding result_types kind_result_type has_constant_outside has_other_form
constant_worth (constant z) [] rs n t nonzero form outside range same is = let e : None ≡ Some t = first_settled None rs t same is in cc
constant_worth (constant z) (int w ∷ ts) rs n t nonzero form outside range same is =
    let e : Some (int w) ≡ Some t = first_settled (Some (int w)) rs t same is in
    let f : int w ≡ t = cc in
    let some : 1 ≤ w = some_bits w (neither (is_outside (int w)) (list_any is_outside ts) outside).0 in
    let p : 0 < number (bits_of_ℤ w z) = nonzero_number z w some nonzero range in
    subst (λ (u : HwType). 0 < number (bits_of_ℤ (width u) z)) f p
constant_worth (constant z) (clock ∷ ts) rs n t nonzero form outside range same is = cc
constant_worth (constant z) (array k u ∷ ts) rs n t nonzero form outside range same is = cc
constant_worth (constant z) (struct fs ∷ ts) rs n t nonzero form outside range same is = cc
constant_worth kind ts rs n t nonzero form outside range same is = cc

-- ---- divisions

known_divisor : (kind : Kind) (b : Bool) → is_division kind ≡ true → has_unknown_divisor kind b ≡ false → b ≡ true
unfolding has_unknown_divisor
known_divisor (division d) b h e = not-false b e
known_divisor kind b h e = cc

two_operands : (kind : Kind) (ts : List HwType) (n : ℕ) → is_division kind ≡ true → n ≡ operand_count kind ts n → n ≡ 2
unfolding operands_written operand_count
two_operands (division d) ts n h e = e
two_operands kind ts n h e = cc

-- two operands, of which the second is the result of a nonzero constant
record IsDivided (os : List Op) (rs : List Ref) : Type 0 where
  dividend : Ref
  divisor : ℕ
  operands : rs ≡ dividend ∷ result divisor 0 ∷ []
  by : Op
  there : slice_get os divisor ≡ Some by
  nonzero : is_nonzero_kind by.kind ≡ true

divided_by : (os : List Op) (a : Ref) (j k : ℕ) → nat_eq k 0 && is_nonzero_op (slice_get os j) ≡ true → IsDivided os (a ∷ result j k ∷ [])
divided_by os a j k h = go (slice_get os j) refl (first_true (nat_eq k 0) (is_nonzero_op (slice_get os j)) h)
  where
    first_true : (p q : Bool) → p && q ≡ true → (p ≡ true) × (q ≡ true)
    first_true true q h = (refl, h)
    first_true false q h = cc

    go : (x : Option Op) → slice_get os j ≡ x → (nat_eq k 0 ≡ true) × (is_nonzero_op (slice_get os j) ≡ true) → IsDivided os (a ∷ result j k ∷ [])
    go None e both = let f : is_nonzero_op None ≡ true = ap is_nonzero_op (sym e) ∙ both.1 in cc
    go (Some p) e both = record {
      dividend = a;
      divisor = j;
      operands = ap (λ (n : ℕ). a ∷ result j n ∷ []) (eqb-true k 0 both.0);
      by = p;
      there = e;
      nonzero = ap is_nonzero_op (sym e) ∙ both.1;
    }

divided : (os : List Op) (rs : List Ref) → length rs ≡ 2 → divides_by_constant os rs ≡ true → IsDivided os rs
divided os [] n h = cc
divided os (a ∷ []) n h = cc
divided os (a ∷ port j ∷ rs) n h = cc
divided os (a ∷ undefined ∷ rs) n h = cc
divided os (a ∷ result j k ∷ []) n h = divided_by os a j k h
divided os (a ∷ result j k ∷ r ∷ rs) n h = absurd (omega (arith, n))

second_is : (x y : Option HwType) (t : HwType) → x ∷ y ∷ [] ≡ Some t ∷ Some t ∷ [] → y ≡ Some t
second_is x y t h = cc

-- the divisor of a division that is not refused, in a body of which nothing is
pub constant_division : (ports : List Port) (os : List Op) → ((j : ℕ) (o : Op) → slice_get os j ≡ Some o → NoCauseAlone ports os o)
    → (o : Op) → NoCauseAlone ports os o → OpFits (type_in ports os) o → is_division o.kind ≡ true → IsDivision os o
constant_division ports os all o tests fits is =
    let two = two_operands o.kind o.types (length o.operands) is tests.operands in
    let by : IsDivided os o.operands = divided os o.operands two (known_divisor o.kind (divides_by_constant os o.operands) is tests.divisor) in
    let own = all by.divisor by.by by.there in
    record {
      dividend = by.dividend;
      divisor = by.divisor;
      operands = by.operands;
      by = by.by;
      there = by.there;
      constant = constant_from by.by.kind by.nonzero;
      not_zero = λ t typed. constant_worth by.by.kind by.by.types by.by.results (length by.by.operands) t by.nonzero own.form own.written own.constant (settles by.by.kind by.by.types (types_of by.by.results) own)
          (ap (λ (x : Option Op). option_and_then (λ (p : Op). result_type p 0) x) (sym by.there)
          ∙ second_is (type_in ports os by.dividend) (type_in ports os (result by.divisor 0)) t
          (ap (map (type_in ports os)) (sym by.operands) ∙ division_types o.kind o.types (map (type_in ports os) o.operands) t 0 is (fits 0 t typed)));
    }
