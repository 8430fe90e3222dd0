-- Texts, their trees and values, computed.
use Rattle.std.proofs.Common.{◌≡◌, ℕ, true, false, cond, List, [], ◌∷◌, None, refl, codes}
use Rattle.bits_core.specs.Word.{Word, bits}
use Rattle.hw_model.specs.Types.{Name}
use Rattle.hw_model.specs.Design.{same_name}
use Rattle.verilog_model.specs.Tokens.{tokens}
use Rattle.verilog_model.specs.Tokens.Piece.{word, operator, mark}
use Rattle.verilog_model.specs.Tree.{Expr, VModule}
use Rattle.verilog_model.specs.Tree.Operator.{plus, minus, over, right_shift, signed_right_shift, equals, bit_xor}
use Rattle.verilog_model.specs.Tree.Expr.{name, literal, as_signed, as_unsigned, paren, odd, binary, choice}
use Rattle.verilog_model.specs.Tree.Item.{instance}
use Rattle.verilog_model.specs.Grammar.{expr_spelled, fits}
use Rattle.verilog_model.specs.Expression.{assigned}
use Rattle.verilog_model.specs.Reserved.{reserved_words}
use Rattle.verilog_model.specs.Checks.{Declared, expr_checks, tree_checks}
use Rattle.verilog_model.specs.Checks.Role.{net}

abbrev a : Expr
a = name (codes "a")

abbrev b : Expr
b = name (codes "b")

abbrev c : Expr
c = name (codes "c")

-- ---- grouping

abbrev minus_difference : Expr
minus_difference = binary minus a (paren (binary minus b c))

abbrev two_minuses : Expr
two_minuses = binary minus (binary minus a b) c

minus_difference_text : tokens (codes "a - (b - c)") ≡ expr_spelled minus_difference []
minus_difference_text = refl

two_minuses_text : tokens (codes "a - b - c") ≡ expr_spelled two_minuses []
two_minuses_text = refl

minus_difference_fits : fits minus_difference ≡ true
minus_difference_fits = refl

two_minuses_fit : fits two_minuses ≡ true
two_minuses_fit = refl

-- a difference on the right without parentheses has the other's text, and does not fit
bare_difference_text : expr_spelled (binary minus a (binary minus b c)) [] ≡ expr_spelled two_minuses []
bare_difference_text = refl

bare_difference_does_not_fit : fits (binary minus a (binary minus b c)) ≡ false
bare_difference_does_not_fit = refl

-- a unary operator may touch what is before it
touching_texts : (tokens (codes "a+^b") ≡ expr_spelled (binary plus a (odd b)) []) × (tokens (codes "a^^b") ≡ expr_spelled (binary bit_xor a (odd b)) [])
    × (tokens (codes "a?^b:^c") ≡ expr_spelled (choice a (odd b) (odd c)) [])
touching_texts = (refl, refl, refl)

-- after a word with a base `?` is a digit of that number, so that this is no choice
question_digits : tokens (codes "s == 1'h1?a:b") ≡ word (codes "s") ∷ operator (codes "==") ∷ word (codes "1'h1?a") ∷ mark 58 ∷ word (codes "b") ∷ []
question_digits = refl

-- and with a blank between it is one
question_mark : tokens (codes "s == 1'h1 ?a:b") ≡ expr_spelled (choice (binary equals (name (codes "s")) (literal (codes "1") false (codes "1"))) a b) []
question_mark = refl

-- ---- values at 8 bits

-- the numbers of `a`, `b` and `c`
abbrev words : ℕ → ℕ → ℕ → Name → Word
words x y z n = bits 8 (cond (same_name n (codes "a")) x (cond (same_name n (codes "b")) y z))

-- what an assignment of the expression gives to 8 bits
abbrev gives : ℕ → ℕ → ℕ → Expr → Word
gives x y z e = assigned (λ (n : Name). 8) (words x y z) 8 e

differences : (gives 9 5 3 minus_difference ≡ bits 8 7) × (gives 9 5 3 two_minuses ≡ bits 8 1)
differences = (refl, refl)

-- a signed shift inside `$unsigned` keeps its sign beside an unsigned operand, and without it does not

abbrev arithmetic_shift : Expr
arithmetic_shift = binary bit_xor (as_unsigned (binary signed_right_shift (as_signed a) b)) c

abbrev bare_shift : Expr
bare_shift = binary bit_xor (binary signed_right_shift (as_signed a) b) c

arithmetic_shift_text : tokens (codes "$unsigned($signed(a) >>> b) ^ c") ≡ expr_spelled arithmetic_shift []
arithmetic_shift_text = refl

bare_shift_text : tokens (codes "$signed(a) >>> b ^ c") ≡ expr_spelled bare_shift []
bare_shift_text = refl

shifts_fit : (fits arithmetic_shift ≡ true) × (fits bare_shift ≡ true)
shifts_fit = (refl, refl)

arithmetic_shift_value : gives 128 1 0 arithmetic_shift ≡ bits 8 192
arithmetic_shift_value = refl

bare_shift_value : gives 128 1 0 bare_shift ≡ bits 8 64
bare_shift_value = refl

-- a signed quotient, shifted without its sign

abbrev signed_division : Expr
signed_division = binary right_shift (as_unsigned (binary over (as_signed a) (literal (codes "8") true (codes "FD")))) b

signed_division_text : tokens (codes "$unsigned($signed(a) / 8'shFD) >> b") ≡ expr_spelled signed_division []
signed_division_text = refl

signed_division_fits : fits signed_division ≡ true
signed_division_fits = refl

signed_division_value : gives 7 1 0 signed_division ≡ bits 8 127
signed_division_value = refl

-- a divisor is not 0 in its width

abbrev declared_a : List Declared
declared_a = record { name = codes "a"; role = net; high = None } ∷ []

divisors : (expr_checks declared_a (binary over a (literal (codes "8") false (codes "3"))) ≡ true) × (expr_checks declared_a (binary over a (literal (codes "1") false (codes "2"))) ≡ false)
divisors = (refl, refl)

-- no module is within itself

abbrev holder : Name → Name → VModule
holder n m = record { name = n; ports = []; items = instance m (codes "u") [] ∷ [] }

abbrev leaf : VModule
leaf = record { name = codes "Leaf"; ports = []; items = [] }

nested_checks : tree_checks (holder (codes "Top") (codes "Mid") ∷ holder (codes "Mid") (codes "Leaf") ∷ leaf ∷ []) ≡ true
unfolding reserved_words
nested_checks = refl

cyclic_does_not_check : tree_checks (holder (codes "Top") (codes "Mid") ∷ holder (codes "Mid") (codes "Top") ∷ []) ≡ false
unfolding reserved_words
cyclic_does_not_check = refl
