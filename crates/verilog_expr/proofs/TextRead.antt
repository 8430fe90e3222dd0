-- The text of an expression, read as tokens, is the expression's spelling.
use Rattle.std.proofs.Common.{◌≡◌, ℕ, Bool, true, false, List, [], ◌∷◌, ◌++◌, codes, refl, ◌∙◌, ap, IsTrue}
use Rattle.hw_model.specs.Types.{Name}
use Rattle.verilog_model.specs.Tokens.{pieces, without_gaps, tokens, is_word_byte}
use Rattle.verilog_model.specs.Tokens.Piece.{word, mark}
use Rattle.verilog_model.specs.Numerals.{all_bytes, is_nonempty}
use Rattle.verilog_model.specs.Tree.{Operator, Expr, Exprs}
use Rattle.verilog_model.specs.Tree.Operator.{times, over, modulo, plus, minus, left_shift, right_shift, signed_right_shift, below, at_most, above, at_least, equals, differs, bit_and, bit_xor, bit_or}
use Rattle.verilog_model.specs.Tree.Expr.{name, bit_select, part_select, literal, joined, repeated, as_signed, as_unsigned, paren, odd, binary, choice}
use Rattle.verilog_model.specs.Tree.Exprs.{last, more}
use Rattle.verilog_model.specs.Grammar.{base_mark, operator_token, expr_spelled, exprs_spelled}
use Rattle.verilog_model.proofs.Numerals.{all_bytes-append, is_nonempty-append}
use Rattle.verilog_model.proofs.Reread.{begins_no_word, pieces_word}
use Rattle.verilog_model.specs.Text.{question_text, operator_text, expr_text, exprs_text}

-- a word: some bytes, all of words
pub record IsWord (w : Name) : Type 0 where
  pub some : IsTrue (is_nonempty w)
  pub bytes : IsTrue (all_bytes is_word_byte w)

-- each name and numeral of an expression is a word
abbrev mutual
  pub IsSpellable : Expr → Type 0
  IsSpellable (name n) = IsWord n
  IsSpellable (bit_select n k) = IsWord n × IsWord k
  IsSpellable (part_select n h l) = IsWord n × (IsWord h × IsWord l)
  IsSpellable (literal w s h) = IsWord w × IsWord h
  IsSpellable (joined es) = AreSpellable es
  IsSpellable (repeated n es) = IsWord n × AreSpellable es
  IsSpellable (as_signed e) = IsSpellable e
  IsSpellable (as_unsigned e) = IsSpellable e
  IsSpellable (paren e) = IsSpellable e
  IsSpellable (odd e) = IsSpellable e
  IsSpellable (binary o a b) = IsSpellable a × IsSpellable b
  IsSpellable (choice c a b) = IsSpellable c × (IsSpellable a × IsSpellable b)

  pub AreSpellable : Exprs → Type 0
  AreSpellable (last e) = IsSpellable e
  AreSpellable (more e es) = IsSpellable e × AreSpellable es

-- the text goes on with no word
abbrev pub GoesOn : List ℕ → Type 0
GoesOn rest = IsTrue (begins_no_word (pieces rest))

pub word_read : (w rest : List ℕ) → IsWord w → GoesOn rest → tokens (w ++ rest) ≡ word w ∷ tokens rest
word_read w rest is apart = ap without_gaps (pieces_word w rest is.some is.bytes apart)

-- a word and some bytes of words after it are a word
word_joined : (w v : List ℕ) → IsWord w → IsWord v → IsWord (w ++ v)
word_joined w v a b = record {
  some = is_nonempty-append w v b.some;
  bytes = all_bytes-append is_word_byte w v a.bytes b.bytes;
}

base_word : (s : Bool) → IsWord (base_mark s)
base_word false = record { some = refl; bytes = refl }
base_word true = record { some = refl; bytes = refl }

append_assoc3 : (a b c d : List ℕ) → a ++ (b ++ (c ++ d)) ≡ (a ++ (b ++ c)) ++ d
append_assoc3 [] [] c d = refl
append_assoc3 [] (x ∷ b) c d = ap (λ l. x ∷ l) (append_assoc3 [] b c d)
append_assoc3 (x ∷ a) b c d = ap (λ l. x ∷ l) (append_assoc3 a b c d)

literal_read : (w h rest : List ℕ) (s : Bool) → IsWord w → IsWord h → GoesOn rest →
    tokens (w ++ (base_mark s ++ (h ++ rest))) ≡ word (w ++ (base_mark s ++ h)) ∷ tokens rest
literal_read w h rest s a b apart =
    ap tokens (append_assoc3 w (base_mark s) h rest)
    ∙ word_read (w ++ (base_mark s ++ h)) rest (word_joined w (base_mark s ++ h) a (word_joined (base_mark s) h (base_word s) b)) apart

pub operator_apart : (o : Operator) (rest : List ℕ) → GoesOn (operator_text o ++ rest)
operator_apart times rest = refl
operator_apart over rest = refl
operator_apart modulo rest = refl
operator_apart plus rest = refl
operator_apart minus rest = refl
operator_apart left_shift rest = refl
operator_apart right_shift rest = refl
operator_apart signed_right_shift rest = refl
operator_apart below rest = refl
operator_apart at_most rest = refl
operator_apart above rest = refl
operator_apart at_least rest = refl
operator_apart equals rest = refl
operator_apart differs rest = refl
operator_apart bit_and rest = refl
operator_apart bit_xor rest = refl
operator_apart bit_or rest = refl

pub operator_read : (o : Operator) (rest : List ℕ) → tokens (operator_text o ++ rest) ≡ operator_token o ∷ tokens rest
operator_read times rest = refl
operator_read over rest = refl
operator_read modulo rest = refl
operator_read plus rest = refl
operator_read minus rest = refl
operator_read left_shift rest = refl
operator_read right_shift rest = refl
operator_read signed_right_shift rest = refl
operator_read below rest = refl
operator_read at_most rest = refl
operator_read above rest = refl
operator_read at_least rest = refl
operator_read equals rest = refl
operator_read differs rest = refl
operator_read bit_and rest = refl
operator_read bit_xor rest = refl
operator_read bit_or rest = refl

mutual
  unfolding expr_text exprs_text

  pub expr_read : (e : Expr) (rest : List ℕ) → IsSpellable e → GoesOn rest → tokens (expr_text e rest) ≡ expr_spelled e (tokens rest)
  expr_read (name n) rest is apart = word_read n rest is apart
  expr_read (bit_select n k) rest is apart =
      word_read n (codes "[" ++ (k ++ (codes "]" ++ rest))) is.0 refl
      ∙ ap (λ ts. word n ∷ mark 91 ∷ ts) (word_read k (codes "]" ++ rest) is.1 refl)
  expr_read (part_select n h l) rest is apart =
      word_read n (codes "[" ++ (h ++ (codes ":" ++ (l ++ (codes "]" ++ rest))))) is.0 refl
      ∙ (ap (λ ts. word n ∷ mark 91 ∷ ts) (word_read h (codes ":" ++ (l ++ (codes "]" ++ rest))) is.1.0 refl)
      ∙ ap (λ ts. word n ∷ mark 91 ∷ word h ∷ mark 58 ∷ ts) (word_read l (codes "]" ++ rest) is.1.1 refl))
  expr_read (literal w s h) rest is apart = literal_read w h rest s is.0 is.1 apart
  expr_read (joined es) rest is apart = ap (λ ts. mark 123 ∷ ts) (exprs_read es (codes "}" ++ rest) is refl)
  expr_read (repeated n es) rest is apart =
      ap (λ ts. mark 123 ∷ ts) (word_read n (codes "{" ++ exprs_text es (codes "}}" ++ rest)) is.0 refl
      ∙ ap (λ ts. word n ∷ mark 123 ∷ ts) (exprs_read es (codes "}}" ++ rest) is.1 refl))
  expr_read (as_signed e) rest is apart = ap (λ ts. word (codes "$signed") ∷ mark 40 ∷ ts) (expr_read e (codes ")" ++ rest) is refl)
  expr_read (as_unsigned e) rest is apart = ap (λ ts. word (codes "$unsigned") ∷ mark 40 ∷ ts) (expr_read e (codes ")" ++ rest) is refl)
  expr_read (paren e) rest is apart = ap (λ ts. mark 40 ∷ ts) (expr_read e (codes ")" ++ rest) is refl)
  expr_read (odd e) rest is apart = ap (λ ts. mark 94 ∷ ts) (expr_read e rest is apart)
  expr_read (binary o a b) rest is apart =
      expr_read a (operator_text o ++ expr_text b rest) is.0 (operator_apart o (expr_text b rest))
      ∙ ap (expr_spelled a) (operator_read o (expr_text b rest) ∙ ap (λ ts. operator_token o ∷ ts) (expr_read b rest is.1 apart))
  expr_read (choice c a b) rest is apart =
      expr_read c (question_text ++ expr_text a (codes " : " ++ expr_text b rest)) is.0 refl
      ∙ ap (λ ts. expr_spelled c (mark 63 ∷ ts)) (expr_read a (codes " : " ++ expr_text b rest) is.1.0 refl
      ∙ ap (λ ts. expr_spelled a (mark 58 ∷ ts)) (expr_read b rest is.1.1 apart))

  pub exprs_read : (es : Exprs) (rest : List ℕ) → AreSpellable es → GoesOn rest → tokens (exprs_text es rest) ≡ exprs_spelled es (tokens rest)
  exprs_read (last e) rest is apart = expr_read e rest is apart
  exprs_read (more e es) rest is apart =
      expr_read e (codes ", " ++ exprs_text es rest) is.0 refl
      ∙ ap (λ ts. expr_spelled e (mark 44 ∷ ts)) (exprs_read es rest is.1 apart)
