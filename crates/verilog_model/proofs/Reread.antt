-- A word in a text is read as that word where no other follows it at once.
use Rattle.std.proofs.Common.{◌≡◌, ℕ, Bool, true, false, cond, not, ◌&&◌, ◌||◌, List, [], ◌∷◌, ◌++◌, refl, ◌∙◌, ap, IsTrue, ◌==◌, eqb-true}
use Rattle.verilog_model.specs.Tokens.{Sort, Piece, sort_in, goes_on, join, pieces_in, pieces, is_word_byte, is_name_byte, is_name_start, is_digit}
use Rattle.verilog_model.specs.Tokens.Sort.{word_byte}
use Rattle.verilog_model.specs.Tokens.Piece.{word, operator, mark, gap}
use Rattle.verilog_model.specs.Numerals.{all_bytes, is_nonempty}
use Rattle.verilog_model.proofs.Numerals.{and_first, and_second, all_bytes_weaker}

-- the text goes on with no word, and not with `?`, which might be a digit of the word before
abbrev pub begins_no_word : List Piece → Bool
begins_no_word [] = true
begins_no_word (word w ∷ ps) = false
begins_no_word (operator w ∷ ps) = true
begins_no_word (mark b ∷ ps) = not (b == 63)
begins_no_word (gap ∷ ps) = true

sort_of_word : (based : Bool) (b : ℕ) → IsTrue (is_word_byte b) → sort_in based b ≡ word_byte
sort_of_word based b h = go (based && b == 63) (is_word_byte b) _ h where
  go : (x w : Bool) (s : Sort) → IsTrue w → cond x word_byte (cond w word_byte s) ≡ word_byte
  go true w s h = refl
  go false true s h = refl
  go false false s h = cc

join_apart : (b : ℕ) (ps : List Piece) → IsTrue (begins_no_word ps) → join word_byte b ps ≡ word (b ∷ []) ∷ ps
join_apart b [] h = refl
join_apart b (word w ∷ ps) h = cc
join_apart b (operator w ∷ ps) h = refl
join_apart b (mark c ∷ ps) h = refl
join_apart b (gap ∷ ps) h = refl

word_joined : (b : ℕ) (ps : List Piece) → IsTrue (begins_no_word (join word_byte b ps)) → ⊥
word_joined b [] h = cc
word_joined b (word w ∷ ps) h = cc
word_joined b (operator w ∷ ps) h = cc
word_joined b (mark c ∷ ps) h = cc
word_joined b (gap ∷ ps) h = cc

-- what goes on with no word and no `?` is read alike after each word
apart_in : (based : Bool) (rest : List ℕ) → IsTrue (begins_no_word (pieces rest)) → pieces_in based rest ≡ pieces rest
apart_in false rest h = refl
apart_in true [] h = refl
apart_in true (b ∷ rest) h = question (b == 63) refl where
  other : (w : Bool) (s : Sort) (x y : Bool) → IsTrue (begins_no_word (join (cond w word_byte s) b (pieces_in (cond w y false) rest)))
      → join (cond w word_byte s) b (pieces_in (cond w x false) rest) ≡ join (cond w word_byte s) b (pieces_in (cond w y false) rest)
  other true s x y h = absurd (word_joined b (pieces_in y rest) h)
  other false s x y h = refl

  question : (q : Bool) → (b == 63) ≡ q → pieces_in true (b ∷ rest) ≡ pieces (b ∷ rest)
  question true e = let is : b ≡ 63 = eqb-true b 63 e in let no : IsTrue (begins_no_word (pieces (63 ∷ rest))) = rw is at h in cc
  question false e = rw e (other (is_word_byte b) _ _ _ h)

-- a word before what is no word, in a number with a base or elsewhere
word_in : (based : Bool) (w rest : List ℕ) → IsTrue (is_nonempty w) → IsTrue (all_bytes is_word_byte w) → IsTrue (begins_no_word (pieces rest))
    → pieces_in based (w ++ rest) ≡ word w ∷ pieces rest
word_in based [] rest some h apart = cc
word_in based (b ∷ []) rest some h apart =
    ap (λ s. join s b (pieces_in (goes_on based b) rest)) (sort_of_word based b (and_first (is_word_byte b) true h))
    ∙ ap (join word_byte b) (apart_in (goes_on based b) rest apart)
    ∙ join_apart b (pieces rest) apart
word_in based (b ∷ c ∷ w) rest some h apart =
    ap (λ s. join s b (pieces_in (goes_on based b) (c ∷ w ++ rest))) (sort_of_word based b (and_first (is_word_byte b) (all_bytes is_word_byte (c ∷ w)) h))
    ∙ ap (join word_byte b) (word_in (goes_on based b) (c ∷ w) rest refl (and_second (is_word_byte b) (all_bytes is_word_byte (c ∷ w)) h) apart)

-- a word before what is no word
pub pieces_word : (w rest : List ℕ) → IsTrue (is_nonempty w) → IsTrue (all_bytes is_word_byte w) → IsTrue (begins_no_word (pieces rest)) → pieces (w ++ rest) ≡ word w ∷ pieces rest
pieces_word = word_in false

name_byte_is_word : (b : ℕ) → IsTrue (is_name_byte b) → IsTrue (is_word_byte b)
name_byte_is_word b h = rw h refl

-- the bytes of names are bytes of words
pub all_name_bytes : (w : List ℕ) → IsTrue (all_bytes is_name_byte w) → IsTrue (all_bytes is_word_byte w)
all_name_bytes = all_bytes_weaker is_name_byte is_word_byte name_byte_is_word

digit_is_word : (b : ℕ) → IsTrue (is_digit b) → IsTrue (is_word_byte b)
digit_is_word b h = go (is_name_start b) (is_digit b) (b == 36) (b == 39) h where
  go : (s d m q : Bool) → IsTrue d → IsTrue ((s || (d || m)) || q)
  go true d m q h = refl
  go false true m q h = refl
  go false false m q h = cc

-- and so are digits
pub all_digits_are_word : (w : List ℕ) → IsTrue (all_bytes is_digit w) → IsTrue (all_bytes is_word_byte w)
all_digits_are_word = all_bytes_weaker is_digit is_word_byte digit_is_word
