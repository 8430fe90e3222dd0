-- The width, sign and value of expressions (IEEE 1364-2005, 5.4: bit lengths; 5.5: signed expressions), over values of
-- two states: `widths` gives the width of each name, ρ its word.
use Rattle.std.specs.Prelude.{ℕ, ◌+◌, ◌-◌, ◌*◌, max, Bool, true, false, cond, not, ◌&&◌, ◌||◌, [], ◌∷◌, ◌++◌, length, drop, replicate}
use Rattle.bits_core.specs.Word.{Word, number, bits, sign, flag, extract, copies, add, sub, mul, quotient, rest, signed_quotient, signed_rest, and_words, or_words, xor_words, parity, shift_left}
use Rattle.bits_core.specs.Word.{shift_right, shift_right_signed, less, signed_less, same_word}
use Rattle.hw_model.specs.Types.{Name}
use Rattle.verilog_model.specs.Numerals.{decimal_number, hex_number}
use Rattle.verilog_model.specs.Tree.{Operator, Expr, Exprs}
use Rattle.verilog_model.specs.Tree.Operator.{times, over, modulo, plus, minus, left_shift, right_shift, signed_right_shift, below, at_most, above, at_least, equals, differs, bit_and, bit_xor, bit_or}
use Rattle.verilog_model.specs.Tree.Expr.{name, bit_select, part_select, literal, joined, repeated, as_signed, as_unsigned, paren, odd, binary, choice}
use Rattle.verilog_model.specs.Tree.Exprs.{last, more}

-- ---- operators by what decides their width and sign

-- of arithmetic and bitwise operators both operands stand in the context, of shifts the left one, of comparisons none
pub data Context : Type 0 where
  both_operands left_operand no_operand : Context

abbrev pub context_of : Operator → Context
context_of times = both_operands
context_of over = both_operands
context_of modulo = both_operands
context_of plus = both_operands
context_of minus = both_operands
context_of left_shift = left_operand
context_of right_shift = left_operand
context_of signed_right_shift = left_operand
context_of below = no_operand
context_of at_most = no_operand
context_of above = no_operand
context_of at_least = no_operand
context_of equals = no_operand
context_of differs = no_operand
context_of bit_and = both_operands
context_of bit_xor = both_operands
context_of bit_or = both_operands

-- ---- width (table 5-22)

abbrev pub binary_length : Context → ℕ → ℕ → ℕ
binary_length both_operands a b = max a b
binary_length left_operand a b = a
binary_length no_operand a b = 1

abbrev mutual
  pub length_of : (Name → ℕ) → Expr → ℕ
  length_of widths (name n) = widths n
  length_of widths (bit_select n k) = 1
  length_of widths (part_select n h l) = decimal_number h - decimal_number l + 1
  length_of widths (literal w s h) = decimal_number w
  length_of widths (joined es) = lengths_of widths es
  length_of widths (repeated n es) = decimal_number n * lengths_of widths es
  length_of widths (as_signed e) = length_of widths e
  length_of widths (as_unsigned e) = length_of widths e
  length_of widths (paren e) = length_of widths e
  length_of widths (odd e) = 1
  length_of widths (binary o a b) = binary_length (context_of o) (length_of widths a) (length_of widths b)
  length_of widths (choice c a b) = max (length_of widths a) (length_of widths b)

  pub lengths_of : (Name → ℕ) → Exprs → ℕ
  lengths_of widths (last e) = length_of widths e
  lengths_of widths (more e es) = length_of widths e + lengths_of widths es

-- ---- sign (5.5.1)

abbrev pub binary_signed : Context → Bool → Bool → Bool
binary_signed both_operands a b = a && b
binary_signed left_operand a b = a
binary_signed no_operand a b = false

abbrev pub is_signed : Expr → Bool
is_signed (literal w s h) = s
is_signed (as_signed e) = true
is_signed (paren e) = is_signed e
is_signed (binary o a b) = binary_signed (context_of o) (is_signed a) (is_signed b)
is_signed (choice c a b) = is_signed a && is_signed b
is_signed _ = false

-- ---- value (5.5.2, 5.5.3): the width k and the sign s are pushed down to the operands that the context determines

-- a simple operand, extended to k bits, by its sign only where the pushed sign is signed
abbrev pub extend : ℕ → Bool → Word → Word
extend k s x = replicate (k - length x) (s && sign x) ++ x

-- whether a condition holds: whether a bit of its word is 1
abbrev pub is_true : Word → Bool
is_true [] = false
is_true (b ∷ bs) = b || is_true bs

-- `a` by `b` in the sign s, where both stand in the context
abbrev pub arithmetic : Operator → Bool → Word → Word → Word
arithmetic times s a b = mul a b
arithmetic over s a b = cond s (signed_quotient a b) (quotient a b)
arithmetic modulo s a b = cond s (signed_rest a b) (rest a b)
arithmetic plus s a b = add a b
arithmetic minus s a b = sub a b
arithmetic bit_and s a b = and_words a b
arithmetic bit_xor s a b = xor_words a b
arithmetic bit_or s a b = or_words a b
arithmetic _ s a b = []

-- `a` shifted by a number of bits in the sign s
abbrev pub shift_word : Operator → Bool → Word → ℕ → Word
shift_word left_shift s a n = shift_left a n
shift_word right_shift s a n = shift_right a n
shift_word signed_right_shift s a n = cond s (shift_right_signed a n) (shift_right a n)
shift_word _ s a n = []

-- whether `a` and `b`, read in the sign s, stand in the order that is asked
abbrev pub compare_words : Operator → Bool → Word → Word → Bool
compare_words below s a b = cond s (signed_less a b) (less a b)
compare_words at_most s a b = not (cond s (signed_less b a) (less b a))
compare_words above s a b = cond s (signed_less b a) (less b a)
compare_words at_least s a b = not (cond s (signed_less a b) (less a b))
compare_words equals s a b = same_word a b
compare_words differs s a b = not (same_word a b)
compare_words _ s a b = false

-- an operand: its value under each width and sign, its own width, its own sign
pub record Operand : Type 0 where
  pub value_at : ℕ → Bool → Word
  pub long : ℕ
  pub is_signed : Bool

-- the operand by its own width and sign
abbrev pub own : Operand → Word
own x = x.value_at x.long x.is_signed

abbrev pub binary_value : Context → Operator → ℕ → Bool → Operand → Operand → Word
binary_value both_operands o k s a b = arithmetic o s (a.value_at k s) (b.value_at k s)
binary_value left_operand o k s a b = shift_word o s (a.value_at k s) (number (own b))
binary_value no_operand o k s a b =
    extend k s (flag (compare_words o (a.is_signed && b.is_signed)
    (a.value_at (max a.long b.long) (a.is_signed && b.is_signed))
    (b.value_at (max a.long b.long) (a.is_signed && b.is_signed))))

-- the low k bits
abbrev pub low_bits : ℕ → Word → Word
low_bits k x = drop (length x - k) x

module _ (widths : Name → ℕ) (ρ : Name → Word) where
  abbrev mutual
    pub value : ℕ → Bool → Expr → Word
    value k s (name n) = extend k s (ρ n)
    value k s (bit_select n i) = extend k s (extract (decimal_number i) 1 (ρ n))
    value k s (part_select n h l) = extend k s (extract (decimal_number l) (decimal_number h - decimal_number l + 1) (ρ n))
    value k s (literal w signed h) = extend k s (bits (decimal_number w) (hex_number h))
    value k s (joined es) = extend k s (values es)
    value k s (repeated n es) = extend k s (copies (decimal_number n) (values es))
    value k s (as_signed e) = extend k s (value (length_of widths e) (is_signed e) e)
    value k s (as_unsigned e) = extend k s (value (length_of widths e) (is_signed e) e)
    value k s (paren e) = value k s e
    value k s (odd e) = extend k s (flag (parity (value (length_of widths e) (is_signed e) e)))
    value k s (binary o a b) = binary_value (context_of o) o k s
        (record { value_at = λ l t. value l t a; long = length_of widths a; is_signed = is_signed a })
        (record { value_at = λ l t. value l t b; long = length_of widths b; is_signed = is_signed b })
    value k s (choice c a b) = cond (is_true (value (length_of widths c) (is_signed c) c)) (value k s a) (value k s b)

    -- the parts of a concatenation, each by its own width and sign
    pub values : Exprs → Word
    values (last e) = value (length_of widths e) (is_signed e) e
    values (more e es) = value (length_of widths e) (is_signed e) e ++ values es

  -- the value of an expression by its own width and sign
  abbrev pub own_value : Expr → Word
  own_value e = value (length_of widths e) (is_signed e) e

  -- what an assignment gives to a name of k bits: the left side widens the context and has no say in the sign
  abbrev pub assigned : ℕ → Expr → Word
  assigned k e = low_bits k (value (max k (length_of widths e)) (is_signed e) e)
