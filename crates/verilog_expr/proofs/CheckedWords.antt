-- Words of expressions: literals and names that are checked.
use Rattle.std.proofs.Common.{◌≡◌, ℕ, ◌<◌, ◌≤◌, ◌^◌, Bool, true, false, ◌||◌, ◌==◌, nat_le, nat_lt, decimal, refl, arith, IsTrue, lt-ltb, le-leb, leb-true}
use Rattle.verilog_model.specs.Tokens.{is_word_byte, is_digit, is_between}
use Rattle.verilog_model.specs.Numerals.{is_nonempty, all_bytes}
use Rattle.verilog_model.proofs.Numerals.{and_intro, and_first, and_second, is_decimal-decimal}
use Rattle.verilog_model.proofs.Reread.{all_digits_are_word}
use Rattle.verilog_expr.proofs.TextRead.{IsWord}

abbrev pub is_hex_byte : ℕ → Bool
is_hex_byte b = is_digit b || (is_between 65 70 b || is_between 97 102 b)

-- a decimal numeral is a word
pub decimal_word : (n : ℕ) → n < 2 ^ 64 → IsWord (decimal n)
decimal_word n small = let d = is_decimal-decimal n small in record {
  some = and_first (is_nonempty (decimal n)) (all_bytes is_digit (decimal n)) d;
  bytes = all_digits_are_word (decimal n) (and_second (is_nonempty (decimal n)) (all_bytes is_digit (decimal n)) d);
}

pub lt_true : (m n : ℕ) → m < n → IsTrue (nat_lt m n)
lt_true m n h = lt-ltb m n h

pub le_true : (m n : ℕ) → m ≤ n → IsTrue (nat_le m n)
le_true m n h = le-leb m n h

-- what stands between two numbers stands between any further apart
wider : (a b c x : ℕ) → b ≤ c → IsTrue (is_between a b x) → IsTrue (is_between a c x)
wider a b c x further h =
    and_intro (nat_le a x) (nat_le x c) (and_first (nat_le a x) (nat_le x b) h)
    (le_true x c (let le : x ≤ b = leb-true x b (and_second (nat_le a x) (nat_le x b) h) in omega (arith, le, further)))

pub hex_byte_is_word : (b : ℕ) → IsTrue (is_hex_byte b) → IsTrue (is_word_byte b)
hex_byte_is_word b h = go (is_digit b) (is_between 65 70 b) (is_between 97 102 b) refl refl refl h where
  finish : (l u e d m q : Bool) → IsTrue (l || (u || d)) → IsTrue (((l || (u || e)) || (d || m)) || q)
  finish true u e d m q t = refl
  finish false true e d m q t = refl
  finish false false true true m q t = refl
  finish false false false true m q t = refl
  finish false false e false m q t = cc

  lower : (l u d : Bool) → IsTrue l → IsTrue (l || (u || d))
  lower l u d t = rw t refl

  upper : (l u d : Bool) → IsTrue u → IsTrue (l || (u || d))
  upper true u d t = refl
  upper false u d t = rw t refl

  digit : (l u d : Bool) → IsTrue d → IsTrue (l || (u || d))
  digit true u d t = refl
  digit false true d t = refl
  digit false false d t = t

  go : (d u l : Bool) → is_digit b ≡ d → is_between 65 70 b ≡ u → is_between 97 102 b ≡ l → IsTrue (d || (u || l)) → IsTrue (is_word_byte b)
  go true u l x y z h = finish (is_between 97 122 b) (is_between 65 90 b) (b == 95) (is_digit b) (b == 36) (b == 39) (digit (is_between 97 122 b) (is_between 65 90 b) (is_digit b) x)
  go false true l x y z h = finish (is_between 97 122 b) (is_between 65 90 b) (b == 95) (is_digit b) (b == 36) (b == 39)
      (upper (is_between 97 122 b) (is_between 65 90 b) (is_digit b) (wider 65 70 90 b (omega arith) y))
  go false false true x y z h = finish (is_between 97 122 b) (is_between 65 90 b) (b == 95) (is_digit b) (b == 36) (b == 39)
      (lower (is_between 97 122 b) (is_between 65 90 b) (is_digit b) (wider 97 102 122 b (omega arith) z))
  go false false false x y z h = cc
