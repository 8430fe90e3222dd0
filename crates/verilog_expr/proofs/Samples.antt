-- Expressions, their trees and texts, computed.
use Rattle.std.proofs.Common.{◌≡◌, true, false, List, [], ◌∷◌, ◌++◌, map, Some, None, refl, codes, decimal}
use Rattle.hw_model.specs.Kinds.{Kind}
use Rattle.hw_model.specs.Kinds.Predicate.{eq, slt}
use Rattle.hw_model.specs.Kinds.Variadic.{add, xor}
use Rattle.hw_model.specs.Kinds.Division.{divs}
use Rattle.hw_model.specs.Kinds.Shift.{shrs, shru}
use Rattle.hw_model.specs.Kinds.Kind.{variadic, sub, division, shift, icmp, parity, extract, concat, replicate, mux}
use Rattle.verilog_model.specs.Tree.{Expr}
use Rattle.verilog_model.specs.Tree.Operator.{plus, minus, bit_xor}
use Rattle.verilog_model.specs.Tree.Expr.{name, bit_select, part_select, repeated, paren, binary}
use Rattle.verilog_model.specs.Tree.Exprs.{last}
use Rattle.verilog_model.specs.Grammar.{expr_spelled, fits}
use Rattle.verilog_model.specs.Tokens.{tokens}
use Rattle.verilog_model.specs.Digits.{hex, high_of}
use Rattle.verilog_expr.specs.Building.{kind_expr}
use Rattle.verilog_model.specs.Text.{question_text, expr_text}
use Rattle.verilog_expr.specs.Parentheses.{tight, opened}
use Rattle.verilog_expr.specs.Signs.{keeps_signs}

abbrev a : Expr
a = name (codes "a")

abbrev b : Expr
b = name (codes "b")

abbrev c : Expr
c = name (codes "c")

abbrev s : Expr
s = name (codes "s")

-- an operation of a kind on operands of 8 bits with a result of 8 bits
abbrev of_bytes : Kind → List Expr → Expr
of_bytes kind es = kind_expr kind 8 (map (λ e. 8) es) 0 es

-- ---- numerals

hexadecimals : (hex 0 ≡ codes "0") × (hex 9 ≡ codes "9") × (hex 10 ≡ codes "A") × (hex 16 ≡ codes "10") × (hex 255 ≡ codes "FF") × (hex 48879 ≡ codes "BEEF")
unfolding hex
hexadecimals = (refl, refl, refl, refl, refl, refl)

one_bit_without_range : high_of 1 ≡ None
one_bit_without_range = refl

byte_range : high_of 8 ≡ Some (decimal 7)
byte_range = refl

-- ---- grouping

minus_difference : of_bytes sub (a ∷ of_bytes sub (b ∷ c ∷ []) ∷ []) ≡ binary minus a (paren (binary minus b c))
minus_difference = refl

minus_difference_text : expr_text (of_bytes sub (a ∷ of_bytes sub (b ∷ c ∷ []) ∷ [])) [] ≡ codes "a - (b - c)"
unfolding expr_text
minus_difference_text = refl

two_minuses : of_bytes sub (of_bytes sub (a ∷ b ∷ []) ∷ c ∷ []) ≡ binary minus (binary minus a b) c
two_minuses = refl

two_minuses_text : expr_text (of_bytes sub (of_bytes sub (a ∷ b ∷ []) ∷ c ∷ [])) [] ≡ codes "a - b - c"
unfolding expr_text
two_minuses_text = refl

sum_of_three_text : expr_text (of_bytes (variadic add) (a ∷ b ∷ c ∷ [])) [] ≡ codes "a + b + c"
unfolding expr_text
sum_of_three_text = refl

sum_alone : of_bytes (variadic add) (a ∷ []) ≡ a
sum_alone = refl

-- ---- signs

-- `a` shifted with copies of its top bit
abbrev shifted_down : Expr
shifted_down = of_bytes (shift shrs) (a ∷ b ∷ [])

shifted_text : expr_text shifted_down [] ≡ codes "$signed(a) >>> b"
unfolding expr_text
shifted_text = refl

-- where it stands with others, its sign is taken off
shifted_xor_text : expr_text (of_bytes (variadic xor) (shifted_down ∷ c ∷ [])) [] ≡ codes "$unsigned($signed(a) >>> b) ^ c"
unfolding expr_text
shifted_xor_text = refl

chosen_text : expr_text (kind_expr mux 8 (1 ∷ 8 ∷ 8 ∷ []) 0 (s ∷ shifted_down ∷ c ∷ [])) [] ≡ codes "s" ++ (question_text ++ codes "$unsigned($signed(a) >>> b) : c")
unfolding expr_text
chosen_text = refl

compared_text : expr_text (of_bytes (icmp eq) (shifted_down ∷ c ∷ [])) [] ≡ codes "$unsigned($signed(a) >>> b) == c"
unfolding expr_text
compared_text = refl

signed_compared_text : expr_text (of_bytes (icmp slt) (shifted_down ∷ c ∷ [])) [] ≡ codes "$signed($signed(a) >>> b) < $signed(c)"
unfolding expr_text
signed_compared_text = refl

-- a quotient by 253 of 8 bits, which is -3; decimal numerals do not compute
divided_text : expr_text (of_bytes (shift shru) (kind_expr (division divs) 8 (8 ∷ 8 ∷ []) 253 (a ∷ c ∷ []) ∷ b ∷ [])) []
    ≡ codes "$unsigned($signed(a) / " ++ (decimal 8 ++ codes "'shFD) >> b")
unfolding expr_text hex
divided_text = refl

-- ---- selects and joins

odd_difference_text : expr_text (kind_expr parity 1 (8 ∷ []) 0 (of_bytes sub (a ∷ b ∷ []) ∷ [])) [] ≡ codes "^(a - b)"
unfolding expr_text
odd_difference_text = refl

joined_text : expr_text (kind_expr concat 16 (8 ∷ 8 ∷ []) 0 (of_bytes sub (a ∷ b ∷ []) ∷ c ∷ [])) [] ≡ codes "{a - b, c}"
unfolding expr_text
joined_text = refl

all_bits_are_the_operand : kind_expr (extract 0) 8 (8 ∷ []) 0 (a ∷ []) ≡ a
all_bits_are_the_operand = refl

one_bit_select : kind_expr (extract 3) 1 (8 ∷ []) 0 (a ∷ []) ≡ bit_select (codes "a") (decimal 3)
one_bit_select = refl

two_bit_select : kind_expr (extract 3) 2 (8 ∷ []) 0 (a ∷ []) ≡ part_select (codes "a") (decimal 4) (decimal 3)
two_bit_select = refl

three_copies : kind_expr replicate 24 (8 ∷ []) 0 (a ∷ []) ≡ repeated (decimal 3) (last a)
three_copies = refl

-- ---- the texts are read as the trees

minus_difference_read : tokens (expr_text (of_bytes sub (a ∷ of_bytes sub (b ∷ c ∷ []) ∷ [])) []) ≡ expr_spelled (of_bytes sub (a ∷ of_bytes sub (b ∷ c ∷ []) ∷ [])) []
unfolding expr_text
minus_difference_read = refl

shifted_xor_read : tokens (expr_text (of_bytes (variadic xor) (shifted_down ∷ c ∷ [])) []) ≡ expr_spelled (of_bytes (variadic xor) (shifted_down ∷ c ∷ [])) []
unfolding expr_text
shifted_xor_read = refl

shifted_xor_fits : fits (of_bytes (variadic xor) (shifted_down ∷ c ∷ [])) ≡ true
shifted_xor_fits = refl

-- ---- parentheses and signs that do not pass

-- `(a) + b` and `(a - b) - c`, but not `a - (b - c)`
spare_parentheses : (tight (binary plus (paren a) b) ≡ false) × (tight (binary minus (paren (binary minus a b)) c) ≡ false)
    × (tight (binary minus a (paren (binary minus b c))) ≡ true)
spare_parentheses = (refl, refl, refl)

difference_opened : opened (binary minus a (paren (binary minus b c))) ≡ binary minus a (binary minus b c) ∷ []
difference_opened = refl

-- `$signed(a) >>> b ^ c`, where the shift would be unsigned
bare_signed_shift : (keeps_signs (binary bit_xor shifted_down c) ≡ false) × (keeps_signs (of_bytes (variadic xor) (shifted_down ∷ c ∷ [])) ≡ true)
bare_signed_shift = (refl, refl)
