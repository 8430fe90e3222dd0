-- Expressions under one width and sign: what each form gives where its parts stand under the same ones.
use Rattle.std.proofs.Common.{◌≡◌, ℕ, ◌-◌, ◌<◌, ◌≤◌, ◌^◌, max, Bool, true, false, cond, ◌&&◌, nat_le, ◌++◌, length, replicate, decimal, refl, sym, ap, ap₂, subst, ◌∙◌, arith}
use Rattle.std.proofs.lemmas.Bool.{false≢true}
use Rattle.bits_core.specs.Word.{Word, number, bits, sign, flag}
use Rattle.bits_core.proofs.Numbers.{length-bits}
use Rattle.hw_model.specs.Types.{Name}
use Rattle.verilog_model.specs.Numerals.{decimal_number}
use Rattle.verilog_model.specs.Tree.{Operator, Expr}
use Rattle.verilog_model.specs.Tree.Expr.{as_signed, as_unsigned, paren, binary, choice}
use Rattle.verilog_model.specs.Grammar.{level}
use Rattle.verilog_model.specs.Expression.{context_of, binary_length, is_signed, length_of, binary_signed, Operand, binary_value, extend, is_true, arithmetic, shift_word, compare_words, value, own_value}
use Rattle.verilog_model.specs.Expression.Context.{both_operands, left_operand, no_operand}
use Rattle.verilog_model.proofs.Numerals.{decimal_number-decimal}
use Rattle.verilog_model.specs.Digits.{literal_of}
use Rattle.verilog_expr.specs.Building.{unsigned, parenthesize, unsigned_at}
use Rattle.verilog_expr.specs.Values.{IsAsLong, value_in, HasBits}
use Rattle.verilog_expr.proofs.Numerals.{hex_number-hex}

-- a word that is wide enough is not extended
pub extended_full : (k : ℕ) (s : Bool) (x : Word) → length x ≡ k → extend k s x ≡ x
extended_full k s x full =
    let none : k - length x ≡ 0 = omega arith in
    ap (λ n. replicate n (s && sign x) ++ x) none

-- ---- lengths that a context may give

pub long_same : (given : Bool) (w n : ℕ) → n ≡ w → IsAsLong given w n
long_same false w n same = same
long_same true w n same = omega arith

pub long_most : (given : Bool) (w n : ℕ) → IsAsLong given w n → n ≤ w
long_most false w n long = omega arith
long_most true w n long = long

pub long_weaker : (g h : Bool) (w n : ℕ) → (g ≡ true → h ≡ true) → IsAsLong g w n → IsAsLong h w n
long_weaker false h w n weaker long = long_same h w n long
long_weaker true h w n weaker long = subst (λ b. IsAsLong b w n) (sym (weaker refl)) long

long_max : (given : Bool) (w m n : ℕ) → IsAsLong given w m → IsAsLong given w n → IsAsLong given w (max m n)
long_max false w m n first second = omega arith
long_max true w m n first second = omega arith

-- an expression of w bits, or of at most as many, and of a sign, with its value under these
pub record Is (widths : Name → ℕ) (ρ : Name → Word) (given : Bool) (w : ℕ) (s : Bool) (e : Expr) (x : Word) : Type 0 where
  pub long : IsAsLong given w (length_of widths e)
  pub full : s ≡ true → length_of widths e ≡ w
  pub signed : is_signed e ≡ s
  pub worth : value widths ρ w s e ≡ x
  pub size : length x ≡ w

module _ (widths : Name → ℕ) (ρ : Name → Word) where
  pub Is-value : (given : Bool) (w : ℕ) (s : Bool) (e : Expr) (x : Word) → Is widths ρ given w s e x → value_in widths ρ w e ≡ x
  Is-value given w s e x is = ap (λ t. value widths ρ w t e) is.signed ∙ is.worth

  pub HasBits-Is : (given : Bool) (w : ℕ) (s : Bool) (e : Expr) (x : Word) → Is widths ρ given w s e x → HasBits widths ρ given w e
  HasBits-Is given w s e x is = record {
    long = is.long;
    full = λ signed. is.full (sym is.signed ∙ signed);
    worth = ap length (Is-value given w s e x is) ∙ is.size;
  }

  -- what has its bits by itself has its value in the context
  pub own_in : (w : ℕ) (e : Expr) → HasBits widths ρ false w e → own_value widths ρ e ≡ value_in widths ρ w e
  own_in w e has = ap (λ k. value widths ρ k (is_signed e) e) has.long

  pub bits_weaker : (g h : Bool) (w : ℕ) (e : Expr) → (g ≡ true → h ≡ true) → HasBits widths ρ g w e → HasBits widths ρ h w e
  bits_weaker g h w e weaker has = record { long = long_weaker g h w (length_of widths e) weaker has.long; full = has.full; worth = has.worth }

  pub bits_anywhere : (given : Bool) (w : ℕ) (e : Expr) → HasBits widths ρ false w e → HasBits widths ρ given w e
  bits_anywhere given w e has = bits_weaker false given w e (λ h. absurd (false≢true h)) has

  -- ---- parentheses change nothing

  placed_value : (k l : ℕ) (s : Bool) (e : Expr) → value widths ρ k s (parenthesize l e) ≡ value widths ρ k s e
  placed_value k l s e = go (nat_le l (level e)) where
    go : (b : Bool) → value widths ρ k s (cond b e (paren e)) ≡ value widths ρ k s e
    go true = refl
    go false = refl

  placed_length : (l : ℕ) (e : Expr) → length_of widths (parenthesize l e) ≡ length_of widths e
  placed_length l e = go (nat_le l (level e)) where
    go : (b : Bool) → length_of widths (cond b e (paren e)) ≡ length_of widths e
    go true = refl
    go false = refl

  placed_sign : (l : ℕ) (e : Expr) → is_signed (parenthesize l e) ≡ is_signed e
  placed_sign l e = go (nat_le l (level e)) where
    go : (b : Bool) → is_signed (cond b e (paren e)) ≡ is_signed e
    go true = refl
    go false = refl

  pub placed_own : (l : ℕ) (e : Expr) → own_value widths ρ (parenthesize l e) ≡ own_value widths ρ e
  placed_own l e =
      ap₂ (λ k s. value widths ρ k s (parenthesize l e)) (placed_length l e) (placed_sign l e) ∙ placed_value (length_of widths e) l (is_signed e) e

  pub placed_is : (given : Bool) (l w : ℕ) (s : Bool) (e : Expr) (x : Word) → Is widths ρ given w s e x → Is widths ρ given w s (parenthesize l e) x
  placed_is given l w s e x is = record {
    long = subst (IsAsLong given w) (sym (placed_length l e)) is.long;
    full = λ signed. placed_length l e ∙ is.full signed;
    signed = placed_sign l e ∙ is.signed;
    worth = placed_value w l s e ∙ is.worth;
    size = is.size;
  }

  -- ---- operands by their own sign

  unsigned_length : (e : Expr) → length_of widths (unsigned e) ≡ length_of widths e
  unsigned_length e = go (is_signed e) where
    go : (b : Bool) → length_of widths (cond b (as_unsigned e) e) ≡ length_of widths e
    go true = refl
    go false = refl

  pub unsigned_at_length : (l : ℕ) (e : Expr) → length_of widths (unsigned_at l e) ≡ length_of widths e
  unsigned_at_length l e = placed_length l (unsigned e) ∙ unsigned_length e

  -- an expression that is made signed or unsigned has its bits by itself
  cast_worth : (w : ℕ) (s : Bool) (e : Expr) → length_of widths e ≡ w → length (value_in widths ρ w e) ≡ w → extend w s (own_value widths ρ e) ≡ value_in widths ρ w e
  cast_worth w s e full size = ap (λ k. extend w s (value widths ρ k (is_signed e) e)) full ∙ extended_full w s (value_in widths ρ w e) size

  pub unsigned_is : (given : Bool) (w : ℕ) (e : Expr) → HasBits widths ρ given w e → Is widths ρ given w false (unsigned e) (value_in widths ρ w e)
  unsigned_is given w e has = go (is_signed e) refl where
    go : (b : Bool) → is_signed e ≡ b → Is widths ρ given w false (cond b (as_unsigned e) e) (value_in widths ρ w e)
    go true is = record {
      long = long_same given w (length_of widths e) (has.full is);
      full = λ h. absurd (false≢true h);
      signed = refl;
      worth = cast_worth w false e (has.full is) has.worth;
      size = has.worth;
    }
    go false is = record {
      long = has.long;
      full = λ h. absurd (false≢true h);
      signed = is;
      worth = ap (λ s. value widths ρ w s e) (sym is);
      size = has.worth;
    }

  pub unsigned_at_is : (given : Bool) (l w : ℕ) (e : Expr) → HasBits widths ρ given w e → Is widths ρ given w false (unsigned_at l e) (value_in widths ρ w e)
  unsigned_at_is given l w e has = placed_is given l w false (unsigned e) (value_in widths ρ w e) (unsigned_is given w e has)

  pub signed_is : (given : Bool) (w : ℕ) (e : Expr) → HasBits widths ρ false w e → Is widths ρ given w true (as_signed e) (value_in widths ρ w e)
  signed_is given w e has = record {
    long = long_same given w (length_of widths e) has.long;
    full = λ h. has.long;
    signed = refl;
    worth = cast_worth w true e has.long has.worth;
    size = has.worth;
  }

  pub literal_is : (given : Bool) (w : ℕ) (s : Bool) (n : ℕ) → w < 2 ^ 64 → Is widths ρ given w s (literal_of w s n) (bits w n)
  literal_is given w s n small =
      let wide : decimal_number (decimal w) ≡ w = decimal_number-decimal w small in
      record {
        long = long_same given w (decimal_number (decimal w)) wide;
        full = λ h. wide;
        signed = refl;
        worth = ap₂ (λ k m. extend w s (bits k m)) wide (hex_number-hex n) ∙ extended_full w s (bits w n) (length-bits w n);
        size = length-bits w n;
      }

  -- ---- operators

  abbrev operand : Expr → Operand
  operand e = record { value_at = λ l t. value widths ρ l t e; long = length_of widths e; is_signed = is_signed e }

  signs : (s a b : Bool) → a ≡ s → b ≡ s → (a && b) ≡ s
  signs s a b first second = ap₂ (λ p q. p && q) first second ∙ both s where
    both : (b : Bool) → (b && b) ≡ b
    both true = refl
    both false = refl

  pub both_is : (given : Bool) (o : Operator) (w : ℕ) (s : Bool) (a b : Expr) (x y : Word) → context_of o ≡ both_operands → Is widths ρ given w s a x
      → Is widths ρ given w s b y → length (arithmetic o s x y) ≡ w → Is widths ρ given w s (binary o a b) (arithmetic o s x y)
  both_is given o w s a b x y context first second size = record {
    long = subst (IsAsLong given w) (sym greater) (long_max given w (length_of widths a) (length_of widths b) first.long second.long);
    full = λ h. greater ∙ long_max false w (length_of widths a) (length_of widths b) (first.full h) (second.full h);
    signed = ap (λ c. binary_signed c (is_signed a) (is_signed b)) context ∙ signs s (is_signed a) (is_signed b) first.signed second.signed;
    worth = ap (λ c. binary_value c o w s (operand a) (operand b)) context ∙ ap₂ (λ u v. arithmetic o s u v) first.worth second.worth;
    size = size;
  } where
    greater : length_of widths (binary o a b) ≡ max (length_of widths a) (length_of widths b)
    greater = ap (λ c. binary_length c (length_of widths a) (length_of widths b)) context

  pub shift_is : (given : Bool) (o : Operator) (w : ℕ) (s : Bool) (a b : Expr) (x : Word) → context_of o ≡ left_operand → Is widths ρ given w s a x
      → length (shift_word o s x (number (own_value widths ρ b))) ≡ w → Is widths ρ given w s (binary o a b) (shift_word o s x (number (own_value widths ρ b)))
  shift_is given o w s a b x context first size = record {
    long = subst (IsAsLong given w) (sym left) first.long;
    full = λ h. left ∙ first.full h;
    signed = ap (λ c. binary_signed c (is_signed a) (is_signed b)) context ∙ first.signed;
    worth = ap (λ c. binary_value c o w s (operand a) (operand b)) context ∙ ap (λ u. shift_word o s u (number (own_value widths ρ b))) first.worth;
    size = size;
  } where
    left : length_of widths (binary o a b) ≡ length_of widths a
    left = ap (λ c. binary_length c (length_of widths a) (length_of widths b)) context

  -- one of the two has all bits
  pub compare_is : (given g h : Bool) (o : Operator) (w : ℕ) (s : Bool) (a b : Expr) (x y : Word) → context_of o ≡ no_operand → Is widths ρ g w s a x
      → Is widths ρ h w s b y → max (length_of widths a) (length_of widths b) ≡ w → Is widths ρ given 1 false (binary o a b) (flag (compare_words o s x y))
  compare_is given g h o w s a b x y context first second greater = record {
    long = long_same given 1 (length_of widths (binary o a b)) one;
    full = λ e. one;
    signed = ap (λ c. binary_signed c (is_signed a) (is_signed b)) context;
    worth = ap (λ c. binary_value c o 1 false (operand a) (operand b)) context
        ∙ ap₂ (λ k t. extend 1 false (flag (compare_words o t (value widths ρ k t a) (value widths ρ k t b)))) greater (signs s (is_signed a) (is_signed b) first.signed second.signed)
        ∙ ap₂ (λ u v. extend 1 false (flag (compare_words o s u v))) first.worth second.worth
        ∙ extended_full 1 false (flag (compare_words o s x y)) refl;
    size = refl;
  } where
    one : length_of widths (binary o a b) ≡ 1
    one = ap (λ c. binary_length c (length_of widths a) (length_of widths b)) context

  pub choice_is : (given : Bool) (w : ℕ) (c a b : Expr) (x y : Word) → Is widths ρ given w false a x → Is widths ρ given w false b y
      → Is widths ρ given w false (choice c a b) (cond (is_true (own_value widths ρ c)) x y)
  choice_is given w c a b x y first second = record {
    long = long_max given w (length_of widths a) (length_of widths b) first.long second.long;
    full = λ h. absurd (false≢true h);
    signed = signs false (is_signed a) (is_signed b) first.signed second.signed;
    worth = ap₂ (λ u v. cond (is_true (own_value widths ρ c)) u v) first.worth second.worth;
    size = go (is_true (own_value widths ρ c));
  } where
    go : (b : Bool) → length (cond b x y) ≡ w
    go true = first.size
    go false = second.size
