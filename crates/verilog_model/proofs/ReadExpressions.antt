-- The reader reads each expression back from its spelling.
use Rattle.std.proofs.Common.{◌≡◌, ℕ, suc, ◌<◌, ◌≤◌, Bool, true, false, ◌==◌, List, [], ◌∷◌, ◌++◌, refl, ◌∙◌, ap, IsTrue, arith, le-leb}
use Rattle.std.proofs.lemmas.Bool.{lt-leb}
use Rattle.std.proofs.lemmas.Bool.Decides.{nat_tests}
use Rattle.hw_model.specs.Types.{Name}
use Rattle.verilog_model.specs.Tokens.{Piece, is_name_start, is_digit}
use Rattle.verilog_model.specs.Tokens.Piece.{word}
use Rattle.verilog_model.specs.Tree.{Operator, Expr, Exprs}
use Rattle.verilog_model.specs.Tree.Operator.{times, over, modulo, plus, minus, left_shift, right_shift, signed_right_shift, below, at_most, above, at_least, equals, differs, bit_and, bit_xor, bit_or}
use Rattle.verilog_model.specs.Tree.Expr.{name, bit_select, part_select, literal, joined, repeated, as_signed, as_unsigned, paren, odd, binary, choice}
use Rattle.verilog_model.specs.Tree.Exprs.{last, more}
use Rattle.verilog_model.specs.Numerals.{all_bytes, is_decimal}
use Rattle.verilog_model.specs.Grammar.{operator_token, base_mark, expr_spelled, exprs_spelled, strength, level, choice_level, primary_level, close_paren, open_bracket, close_bracket, open_brace, close_brace, comma, colon, question}
use Rattle.verilog_model.specs.Checks.{starts_name}
use Rattle.verilog_model.proofs.Numerals.{and_first, and_second}
use Rattle.verilog_model.proofs.TokenReader.{Around, State, Class, class_of, weight, push, next, after_name, token_class, before_quote, after_quote, number_or_literal, begin_word, run}
use Rattle.verilog_model.proofs.TokenReader.Around.{bottom, left_of, tested, chosen, odd_of, inside, listed}
use Rattle.verilog_model.proofs.TokenReader.State.{take, operand, complete}
use Rattle.verilog_model.proofs.TokenReader.Class.{joins, ask, select}
use Rattle.verilog_model.proofs.TokenReader.TokenClass.{identifier, number, based}

-- what the reader needs of an expression: its operands bind as strongly as their positions ask, its names begin as names,
-- its numerals are decimal
abbrev mutual
  pub Clear : Expr → Type 0
  Clear (name n) = IsTrue (starts_name n)
  Clear (bit_select n k) = IsTrue (starts_name n)
  Clear (part_select n h l) = IsTrue (starts_name n)
  Clear (literal w s h) = IsTrue (is_decimal w)
  Clear (joined es) = AllClear es
  Clear (repeated n es) = IsTrue (is_decimal n) × AllClear es
  Clear (as_signed e) = Clear e
  Clear (as_unsigned e) = Clear e
  Clear (paren e) = Clear e
  Clear (odd e) = (primary_level ≤ level e) × Clear e
  Clear (binary o a b) = ((strength o ≤ level a) × (suc (strength o) ≤ level b)) × (Clear a × Clear b)
  Clear (choice c a b) = (suc choice_level ≤ level c) × (Clear c × (Clear a × Clear b))

  pub AllClear : Exprs → Type 0
  AllClear (last e) = Clear e
  AllClear (more e es) = Clear e × AllClear es

-- ---- words

digit_starts_no_name : (b : ℕ) → IsTrue (is_digit b) → is_name_start b ≡ false
digit_starts_no_name b h = grind (arith, nat_tests)

digit_is_no_dollar : (b : ℕ) → IsTrue (is_digit b) → (b == 36) ≡ false
digit_is_no_dollar b h = grind (arith, nat_tests)

digit_is_no_quote : (b : ℕ) → IsTrue (is_digit b) → (b == 39) ≡ false
digit_is_no_quote b h = grind (arith, nat_tests)

no_quote : (w : Name) → IsTrue (all_bytes is_digit w) → after_quote w ≡ []
no_quote [] h = refl
no_quote (b ∷ w) h = rw (digit_is_no_quote b (and_first (is_digit b) (all_bytes is_digit w) h)) (no_quote w (and_second (is_digit b) (all_bytes is_digit w) h))

before_first : (w rest : Name) → IsTrue (all_bytes is_digit w) → before_quote (w ++ (39 ∷ rest)) ≡ w
before_first [] rest h = refl
before_first (b ∷ w) rest h = rw (digit_is_no_quote b (and_first (is_digit b) (all_bytes is_digit w) h)) (ap (λ v. b ∷ v) (before_first w rest (and_second (is_digit b) (all_bytes is_digit w) h)))

after_first : (w rest : Name) → IsTrue (all_bytes is_digit w) → after_quote (w ++ (39 ∷ rest)) ≡ rest
after_first [] rest h = refl
after_first (b ∷ w) rest h = rw (digit_is_no_quote b (and_first (is_digit b) (all_bytes is_digit w) h)) (after_first w rest (and_second (is_digit b) (all_bytes is_digit w) h))

identifier_word : (n : Name) → IsTrue (starts_name n) → token_class n ≡ identifier
identifier_word [] h = cc
identifier_word (b ∷ n) h = rw h refl

-- a word that begins with a digit
digit_word : (b : ℕ) (w : Name) → IsTrue (is_digit b) → token_class (b ∷ w) ≡ number_or_literal (before_quote (b ∷ w)) (after_quote (b ∷ w))
digit_word b w h = rw (digit_starts_no_name b h, digit_is_no_dollar b h) refl

number_word : (w : Name) → IsTrue (is_decimal w) → token_class w ≡ number
number_word [] h = cc
number_word (b ∷ w) h = digit_word b w (and_first (is_digit b) (all_bytes is_digit w) h) ∙ ap (number_or_literal (before_quote (b ∷ w))) (no_quote (b ∷ w) h)

based_word : (w h : Name) (s : Bool) → IsTrue (is_decimal w) → token_class (w ++ (base_mark s ++ h)) ≡ based w s h
based_word [] h s d = cc
based_word (b ∷ w) h s d =
    digit_word b (w ++ (base_mark s ++ h)) (and_first (is_digit b) (all_bytes is_digit w) d) ∙ parts s where
      parts : (s : Bool) → number_or_literal (before_quote ((b ∷ w) ++ (base_mark s ++ h))) (after_quote ((b ∷ w) ++ (base_mark s ++ h))) ≡ based (b ∷ w) s h
      parts false = rw (before_first (b ∷ w) (104 ∷ h) d, after_first (b ∷ w) (104 ∷ h) d) refl
      parts true = rw (before_first (b ∷ w) (115 ∷ 104 ∷ h) d, after_first (b ∷ w) (115 ∷ 104 ∷ h) d) refl

-- ---- strengths

class_of_operator : (o : Operator) → class_of (operator_token o) ≡ joins o
class_of_operator times = refl
class_of_operator over = refl
class_of_operator modulo = refl
class_of_operator plus = refl
class_of_operator minus = refl
class_of_operator left_shift = refl
class_of_operator right_shift = refl
class_of_operator signed_right_shift = refl
class_of_operator below = refl
class_of_operator at_most = refl
class_of_operator above = refl
class_of_operator at_least = refl
class_of_operator equals = refl
class_of_operator differs = refl
class_of_operator bit_and = refl
class_of_operator bit_xor = refl
class_of_operator bit_or = refl

strength_within : (o : Operator) → (2 ≤ strength o) × (strength o ≤ 9)
strength_within times = omega arith
strength_within over = omega arith
strength_within modulo = omega arith
strength_within plus = omega arith
strength_within minus = omega arith
strength_within left_shift = omega arith
strength_within right_shift = omega arith
strength_within signed_right_shift = omega arith
strength_within below = omega arith
strength_within at_most = omega arith
strength_within above = omega arith
strength_within at_least = omega arith
strength_within equals = omega arith
strength_within differs = omega arith
strength_within bit_and = omega arith
strength_within bit_xor = omega arith
strength_within bit_or = omega arith

-- how strongly the position holds what is read there
abbrev pub grip : Around → ℕ
grip (left_of o a s) = strength o
grip (chosen c a s) = 1
grip (odd_of s) = 10
grip _ = 0

-- how strong the first operator that is read of an expression is
abbrev pub pull : Expr → ℕ
pull (choice c a b) = 2
pull e = level e

pull_level : (e : Expr) → level e ≤ pull e
pull_level (choice c a b) = omega arith
pull_level e = omega arith

level_positive : (e : Expr) → 1 ≤ level e
level_positive (binary o a b) = omega (arith, strength_within o)
level_positive e = omega arith

pub pull_two : (e : Expr) → 2 ≤ pull e
pull_two (binary o a b) = omega (arith, strength_within o)
pull_two e = omega arith

push_operator : (s : Around) (e : Expr) (o : Operator) → grip s < strength o → next s e (joins o) ≡ push s e (joins o)
push_operator (bottom k) e o h = refl
push_operator (left_of q a s) e o h = rw (lt-leb (strength o) (strength q) h) refl
push_operator (tested d s) e o h = refl
push_operator (chosen d a s) e o h = rw (lt-leb (strength o) 1 h) refl
push_operator (odd_of s) e o h = absurd (omega (arith, strength_within o))
push_operator (inside g s) e o h = refl
push_operator (listed k s) e o h = refl

push_question : (s : Around) (e : Expr) → grip s < 2 → next s e ask ≡ operand (tested e s)
push_question (bottom k) e h = refl
push_question (left_of q a s) e h = rw (lt-leb 2 (strength q) h) refl
push_question (tested d s) e h = refl
push_question (chosen d a s) e h = refl
push_question (odd_of s) e h = absurd (omega arith)
push_question (inside g s) e h = refl
push_question (listed k s) e h = refl

join_right : (o : Operator) (a b : Expr) (s : Around) (c : Class) → weight c ≤ strength o → next (left_of o a s) b c ≡ next s (binary o a b) c
join_right o a b s c h = rw (le-leb (weight c) (strength o) h) refl

choose_right : (d a b : Expr) (s : Around) (c : Class) → weight c ≤ 1 → next (chosen d a s) b c ≡ next s (choice d a b) c
choose_right d a b s c h = rw (le-leb (weight c) 1 h) refl

name_ends : (n : Name) (s : Around) (c : Class) → weight c ≤ 11 → after_name n s c ≡ next s (name n) c
name_ends n s select h = absurd (omega arith)
name_ends n s c h = refl

-- ---- the reading

mutual
  -- up to the token after it an expression is read as itself
  pub read_expr : (e : Expr) (s : Around) (p : Piece) (ps : List Piece) → Clear e → grip s < pull e → weight (class_of p) ≤ level e →
      run (operand s) (expr_spelled e (p ∷ ps)) ≡ run (next s e (class_of p)) ps
  read_expr (name n) s p ps h g w = ap (λ l. run (begin_word n s l) (p ∷ ps)) (identifier_word n h) ∙ ap (λ t. run t ps) (name_ends n s (class_of p) w)
  read_expr (bit_select n k) s p ps h g w = ap (λ l. run (begin_word n s l) (open_bracket ∷ word k ∷ close_bracket ∷ p ∷ ps)) (identifier_word n h)
  read_expr (part_select n k l) s p ps h g w =
      ap (λ x. run (begin_word n s x) (open_bracket ∷ word k ∷ colon ∷ word l ∷ close_bracket ∷ p ∷ ps)) (identifier_word n h)
  read_expr (literal v m d) s p ps h g w = ap (λ l. run (begin_word (v ++ (base_mark m ++ d)) s l) (p ∷ ps)) (based_word v d m h)
  read_expr (joined es) s p ps h g w = read_list es (λ (xs : Exprs). complete (joined xs) s) s (p ∷ ps) h
  read_expr (repeated n es) s p ps h g w =
      ap (λ l. run (begin_word n (listed (λ (xs : Exprs). complete (joined xs) s) s) l) (open_brace ∷ exprs_spelled es (close_brace ∷ close_brace ∷ p ∷ ps))) (number_word n h.0)
      ∙ read_list es (λ (xs : Exprs). take (λ (q : Piece). complete (repeated n xs) s)) s (close_brace ∷ p ∷ ps) h.1
  read_expr (as_signed e) s p ps h g w = read_expr e (inside as_signed s) close_paren (p ∷ ps) h (omega (arith, pull_two e)) (omega arith)
  read_expr (as_unsigned e) s p ps h g w = read_expr e (inside as_unsigned s) close_paren (p ∷ ps) h (omega (arith, pull_two e)) (omega arith)
  read_expr (paren e) s p ps h g w = read_expr e (inside paren s) close_paren (p ∷ ps) h (omega (arith, pull_two e)) (omega arith)
  read_expr (odd e) s p ps h g w = read_expr e (odd_of s) p ps h.1 (omega (arith, h.0, pull_level e)) (omega (arith, h.0, w))
  read_expr (binary o a b) s p ps h g w =
      read_expr a s (operator_token o) (expr_spelled b (p ∷ ps)) h.1.0 (omega (arith, g, h.0.0, pull_level a)) (rw (class_of_operator o) h.0.0)
      ∙ ap (λ t. run t (expr_spelled b (p ∷ ps))) (ap (next s a) (class_of_operator o) ∙ push_operator s a o g)
      ∙ read_expr b (left_of o a s) p ps h.1.1 (omega (arith, h.0.1, pull_level b)) (omega (arith, w, h.0.1))
      ∙ ap (λ t. run t ps) (join_right o a b s (class_of p) w)
  read_expr (choice c a b) s p ps h g w =
      read_expr c s question (expr_spelled a (colon ∷ expr_spelled b (p ∷ ps))) h.1.0 (omega (arith, g, h.0, pull_level c)) (omega (arith, h.0))
      ∙ ap (λ t. run t (expr_spelled a (colon ∷ expr_spelled b (p ∷ ps)))) (push_question s c g)
      ∙ read_expr a (tested c s) colon (expr_spelled b (p ∷ ps)) h.1.1.0 (omega (arith, pull_two a)) (omega arith)
      ∙ read_expr b (chosen c a s) p ps h.1.1.1 (omega (arith, pull_two b)) (omega (arith, w, level_positive b))
      ∙ ap (λ t. run t ps) (choose_right c a b s (class_of p) w)

  -- and a list up to its closing brace
  read_list : (es : Exprs) (k : Exprs → State) (s : Around) (ps : List Piece) → AllClear es →
      run (operand (listed k s)) (exprs_spelled es (close_brace ∷ ps)) ≡ run (k es) ps
  read_list (last e) k s ps h = read_expr e (listed k s) close_brace ps h (omega (arith, pull_two e)) (omega arith)
  read_list (more e es) k s ps h =
      read_expr e (listed k s) comma (exprs_spelled es (close_brace ∷ ps)) h.0 (omega (arith, pull_two e)) (omega arith)
      ∙ read_list es (λ (xs : Exprs). k (more e xs)) s ps h.1
