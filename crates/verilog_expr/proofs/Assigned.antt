-- What an assignment gives to a name: its own value, where the widths are the same, and always as many bits as the name has.
use Rattle.std.proofs.Common.{◌≡◌, ℕ, zero, suc, ◌+◌, ◌-◌, ◌≤◌, max, Bool, true, false, cond, ◌&&◌, [], ◌∷◌, length, drop, replicate, sym, ap, ◌∙◌, arith, length-append, length-drop}
use Rattle.std.proofs.Math.ListN.{length-replicate}
use Rattle.bits_core.specs.Word.{Word, number, bits, sign, flag, extract, copies, parity, bitwise}
use Rattle.bits_core.proofs.Arithmetic.{length-add, length-sub, length-mul, length-quotient, length-rest, length-signed_quotient, length-signed_rest}
use Rattle.bits_core.proofs.Shifts.{length-shift_left, length-shift_right, length-shift_right_signed}
use Rattle.hw_model.specs.Types.{Name}
use Rattle.verilog_model.specs.Numerals.{decimal_number, hex_number}
use Rattle.verilog_model.specs.Tree.{Operator, Expr}
use Rattle.verilog_model.specs.Tree.Operator.{times, over, modulo, plus, minus, left_shift, right_shift, signed_right_shift, below, at_most, above, at_least, equals, differs, bit_and, bit_xor, bit_or}
use Rattle.verilog_model.specs.Tree.Expr.{name, bit_select, part_select, literal, joined, repeated, as_signed, as_unsigned, paren, odd, binary, choice}
use Rattle.verilog_model.specs.Expression.{is_signed, length_of, extend, is_true, compare_words, low_bits, value, values, own_value, assigned}
use Rattle.verilog_expr.specs.Values.{value_in, HasBits}
use Rattle.verilog_expr.proofs.Own.{long_most, own_in}

extended_long : (k : ℕ) (s : Bool) (x : Word) → k ≤ length (extend k s x)
extended_long k s x = omega (arith, length-append (replicate (k - length x) (s && sign x)) x, length-replicate (k - length x) (s && sign x))

as_long : (k : ℕ) (x y : Word) → length y ≡ length x → k ≤ length x → k ≤ length y
as_long k x y same long = omega arith

bitwise_long : (f : Bool → Bool → Bool) (k : ℕ) (x y : Word) → k ≤ length x → k ≤ length y → k ≤ length (bitwise f x y)
bitwise_long f k [] y first second = first
bitwise_long f k (a ∷ x) [] first second = second
bitwise_long f zero (a ∷ x) (b ∷ y) first second = omega arith
bitwise_long f (suc k) (a ∷ x) (b ∷ y) first second = let rest : k ≤ length (bitwise f x y) = bitwise_long f k x y (omega arith) (omega arith) in omega arith

chosen_long : (k : ℕ) (b : Bool) (x y : Word) → k ≤ length x → k ≤ length y → k ≤ length (cond b x y)
chosen_long k true x y first second = first
chosen_long k false x y first second = second

module _ (widths : Name → ℕ) (ρ : Name → Word) where
  compared_long : (o : Operator) (k : ℕ) (s : Bool) (a b : Expr)
      → k ≤ length (extend k s (flag (compare_words o (is_signed a && is_signed b) (value widths ρ (max (length_of widths a) (length_of widths b)) (is_signed a && is_signed b) a)
      (value widths ρ (max (length_of widths a) (length_of widths b)) (is_signed a && is_signed b) b))))
  compared_long o k s a b =
      extended_long k s (flag (compare_words o (is_signed a && is_signed b) (value widths ρ (max (length_of widths a) (length_of widths b)) (is_signed a && is_signed b) a)
      (value widths ρ (max (length_of widths a) (length_of widths b)) (is_signed a && is_signed b) b)))

  binary_long : (o : Operator) (k : ℕ) (s : Bool) (a b : Expr) → k ≤ length (value widths ρ k s a) → k ≤ length (value widths ρ k s b)
      → k ≤ length (value widths ρ k s (binary o a b))
  binary_long times k s a b first second = as_long k _ _ (length-mul (value widths ρ k s a) (value widths ρ k s b)) first
  binary_long over k s a b first second =
      chosen_long k s _ _ (as_long k _ _ (length-signed_quotient (value widths ρ k s a) (value widths ρ k s b)) first)
      (as_long k _ _ (length-quotient (value widths ρ k s a) (value widths ρ k s b)) first)
  binary_long modulo k s a b first second =
      chosen_long k s _ _ (as_long k _ _ (length-signed_rest (value widths ρ k s a) (value widths ρ k s b)) first)
      (as_long k _ _ (length-rest (value widths ρ k s a) (value widths ρ k s b)) first)
  binary_long plus k s a b first second = as_long k _ _ (length-add (value widths ρ k s a) (value widths ρ k s b)) first
  binary_long minus k s a b first second = as_long k _ _ (length-sub (value widths ρ k s a) (value widths ρ k s b)) first
  binary_long left_shift k s a b first second = as_long k _ _ (length-shift_left (value widths ρ k s a) (number (own_value widths ρ b))) first
  binary_long right_shift k s a b first second = as_long k _ _ (length-shift_right (value widths ρ k s a) (number (own_value widths ρ b))) first
  binary_long signed_right_shift k s a b first second =
      chosen_long k s _ _ (as_long k _ _ (length-shift_right_signed (value widths ρ k s a) (number (own_value widths ρ b))) first)
      (as_long k _ _ (length-shift_right (value widths ρ k s a) (number (own_value widths ρ b))) first)
  binary_long below k s a b first second = compared_long below k s a b
  binary_long at_most k s a b first second = compared_long at_most k s a b
  binary_long above k s a b first second = compared_long above k s a b
  binary_long at_least k s a b first second = compared_long at_least k s a b
  binary_long equals k s a b first second = compared_long equals k s a b
  binary_long differs k s a b first second = compared_long differs k s a b
  binary_long bit_and k s a b first second = bitwise_long _ k (value widths ρ k s a) (value widths ρ k s b) first second
  binary_long bit_xor k s a b first second = bitwise_long _ k (value widths ρ k s a) (value widths ρ k s b) first second
  binary_long bit_or k s a b first second = bitwise_long _ k (value widths ρ k s a) (value widths ρ k s b) first second

  -- an expression gives no fewer bits than are asked
  value_long : (k : ℕ) (s : Bool) (e : Expr) → k ≤ length (value widths ρ k s e)
  value_long k s (name n) = extended_long k s (ρ n)
  value_long k s (bit_select n i) = extended_long k s (extract (decimal_number i) 1 (ρ n))
  value_long k s (part_select n h l) = extended_long k s (extract (decimal_number l) (decimal_number h - decimal_number l + 1) (ρ n))
  value_long k s (literal w t h) = extended_long k s (bits (decimal_number w) (hex_number h))
  value_long k s (joined es) = extended_long k s (values widths ρ es)
  value_long k s (repeated n es) = extended_long k s (copies (decimal_number n) (values widths ρ es))
  value_long k s (as_signed e) = extended_long k s (own_value widths ρ e)
  value_long k s (as_unsigned e) = extended_long k s (own_value widths ρ e)
  value_long k s (paren e) = value_long k s e
  value_long k s (odd e) = extended_long k s (flag (parity (own_value widths ρ e)))
  value_long k s (binary o a b) = binary_long o k s a b (value_long k s a) (value_long k s b)
  value_long k s (choice c a b) = chosen_long k (is_true (own_value widths ρ c)) _ _ (value_long k s a) (value_long k s b)

  pub assigned_long : (w : ℕ) (e : Expr) → length (assigned widths ρ w e) ≡ w
  assigned_long w e =
      let x : Word = value widths ρ (max w (length_of widths e)) (is_signed e) e in
      let long : max w (length_of widths e) ≤ length x = value_long (max w (length_of widths e)) (is_signed e) e in
      omega (arith, length-drop (length x - w) x)

  low_all : (w : ℕ) (x : Word) → length x ≡ w → low_bits w x ≡ x
  low_all w x size = let none : length x - w ≡ 0 = omega arith in ap (λ n. drop n x) none

  -- an assignment to a name of w bits gives them the value of an expression that has no more
  pub assigned_in : (given : Bool) (w : ℕ) (e : Expr) → HasBits widths ρ given w e → assigned widths ρ w e ≡ value_in widths ρ w e
  assigned_in given w e has =
      let most : length_of widths e ≤ w = long_most given w (length_of widths e) has.long in
      let wide : max w (length_of widths e) ≡ w = omega arith in
      ap (λ k. low_bits w (value widths ρ k (is_signed e) e)) wide ∙ low_all w (value_in widths ρ w e) has.worth

  pub assigned_same : (w : ℕ) (e : Expr) → HasBits widths ρ false w e → assigned widths ρ w e ≡ own_value widths ρ e
  assigned_same w e has = assigned_in false w e has ∙ sym (own_in widths ρ w e has)
