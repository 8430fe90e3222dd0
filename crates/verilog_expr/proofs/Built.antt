-- The expression of an operation has the width of its result and the operation's value, for each kind.
use Rattle.std.proofs.Common.{◌≡◌, ℕ, suc, ◌/◌, ◌<◌, ◌≤◌, ◌^◌, max, Bool, true, false, not, ◌&&◌, ◌||◌, List, [], ◌∷◌, map, length, decimal, Option, Some, refl, sym, ap, ap₂, subst, ◌∙◌, inl, inr, arith}
use Rattle.std.proofs.lemmas.Bool.{true≢false}
use Rattle.wiring.specs.Lists.{total}
use Rattle.wiring.specs.Wiring.{In}
use Rattle.bits_core.specs.Word.{Word, number, bits, bits_of_ℤ, flag, extract as bits_from, copies, sub as difference, parity as parity_of, bitwise, ones, zeros, and_words, or_words, xor_words}
use Rattle.bits_core.proofs.Numbers.{bits-number}
use Rattle.bits_core.proofs.Arithmetic.{length-add, length-mul, length-sub}
use Rattle.bits_core.proofs.Bitwise.{length-bitwise, and_words_assoc, or_words_assoc, xor_words_assoc, and_words-ones, or_words-zeros, xor_words-zeros}
use Rattle.bits_core.proofs.Complement.{length-bits_of_ℤ}
use Rattle.hw_model.specs.Types.{Name, HwType, width}
use Rattle.hw_model.specs.Types.HwType.{int}
use Rattle.hw_model.specs.Kinds.{Kind, Predicate, Variadic, Division, Shift}
use Rattle.hw_model.specs.Kinds.Variadic.{add, mul, and, or, xor}
use Rattle.hw_model.specs.Kinds.Kind.{variadic, sub, division, shift, icmp, parity, extract, concat, replicate, mux, constant, aggregate_constant, on_array, on_struct, bitcast, wire, instance, output, register, async_firreg}
use Rattle.hw_model.specs.Value.{product, and_all, or_all, xor_all, of_one, of_two, of_three, concat_words, compare, variadic_value, division_value, shift_value, op_value}
use Rattle.hw_model.specs.Flat.{width_of}
use Rattle.hw_model.specs.Sound.{AllAre, Fits}
use Rattle.verilog_model.specs.Tree.{Operator, Expr}
use Rattle.verilog_model.specs.Tree.Operator.{times, plus, minus, bit_and, bit_xor, bit_or}
use Rattle.verilog_model.specs.Tree.Expr.{as_signed, odd, repeated}
use Rattle.verilog_model.specs.Tree.Exprs.{last}
use Rattle.verilog_model.specs.Grammar.{strength, primary_level}
use Rattle.verilog_model.specs.Checks.{divides}
use Rattle.verilog_model.specs.Expression.{context_of, length_of, arithmetic, shift_word, own_value}
use Rattle.verilog_model.specs.Expression.Context.{both_operands, left_operand}
use Rattle.verilog_model.specs.Digits.{literal_of}
use Rattle.verilog_expr.specs.Building.{parenthesize, unsigned_at, of_one_expr, of_two_exprs, of_three_exprs, unsigned_pair, variadic_expr, unsigned_shift, signed_shift, unsigned_division}
use Rattle.verilog_expr.specs.Building.{signed_division, comparison, select_bits, first_width, concatenation, conditional, kind_expr, division_expr, shift_expr, variadic_operator, division_operator, shift_operator}
use Rattle.verilog_expr.specs.Building.{is_signed_division, is_signed_shift}
use Rattle.verilog_expr.specs.Signs.{is_signed_order}
use Rattle.verilog_expr.specs.Values.{value_in, values_in, given_to, HasBits, HaveBits, IsBuildable, IsDividedBy}
use Rattle.verilog_expr.proofs.Operators.{division_context, shift_context, divides_division, division_computes, shift_computes, length-divided, length-shifted}
use Rattle.verilog_expr.proofs.Own.{Is, Is-value, HasBits-Is, own_in, bits_weaker, placed_own, unsigned_at_is, signed_is, literal_is, both_is, shift_is}
use Rattle.verilog_expr.proofs.Templates.{Gives, gives, AllBits, folded, added, multiplied, from_right, variadic_gives, comparison_gives, odd_gives}
use Rattle.verilog_expr.proofs.Parts.{selected_gives, concatenation_gives, repeated_gives, conditional_gives}

or_none : (b : Bool) → (b || false) ≡ b
or_none true = refl
or_none false = refl

module _ (widths : Name → ℕ) (ρ : Name → Word) (given : Bool) where
  abbrev InContext : List (Option HwType) → List Expr → List Word
  InContext xs es = values_in widths ρ (map width_of xs) es

  -- ---- one, two or three operands

  one_gives : (P : Type 0) (at : ℕ → Bool) (w : ℕ) (f : Expr → Expr) (g : Word → Word) (x : Option HwType) (xs : List (Option HwType)) (es : List Expr) → xs ≡ x ∷ []
      → HaveBits widths ρ at xs es
      → ((a : Expr) → es ≡ a ∷ [] → HasBits widths ρ (at 0) (width_of x) a → Gives widths ρ P given w (f a) (g (value_in widths ρ (width_of x) a)))
      → Gives widths ρ P given w (of_one_expr f es) (of_one g (InContext xs es))
  one_gives P at w f g x xs es is have each =
      subst (λ ys. Gives widths ρ P given w (of_one_expr f es) (of_one g (InContext ys es))) (sym is) (go es refl (subst (λ ys. HaveBits widths ρ at ys es) is have))
    where
      go : (fs : List Expr) → es ≡ fs → HaveBits widths ρ at (x ∷ []) fs → Gives widths ρ P given w (of_one_expr f fs) (of_one g (InContext (x ∷ []) fs))
      go [] same have = absurd have
      go (a ∷ []) same have = each a same have.0
      go (a ∷ b ∷ fs) same have = absurd have.1

  two_give : (P : Type 0) (at : ℕ → Bool) (w : ℕ) (f : Expr → Expr → Expr) (g : Word → Word → Word) (x y : Option HwType) (xs : List (Option HwType)) (es : List Expr)
      → xs ≡ x ∷ y ∷ [] → HaveBits widths ρ at xs es
      → ((a b : Expr) → es ≡ a ∷ b ∷ [] → HasBits widths ρ (at 0) (width_of x) a → HasBits widths ρ (at 1) (width_of y) b
      → Gives widths ρ P given w (f a b) (g (value_in widths ρ (width_of x) a) (value_in widths ρ (width_of y) b)))
      → Gives widths ρ P given w (of_two_exprs f es) (of_two g (InContext xs es))
  two_give P at w f g x y xs es is have each =
      subst (λ ys. Gives widths ρ P given w (of_two_exprs f es) (of_two g (InContext ys es))) (sym is) (go es refl (subst (λ ys. HaveBits widths ρ at ys es) is have))
    where
      go : (fs : List Expr) → es ≡ fs → HaveBits widths ρ at (x ∷ y ∷ []) fs → Gives widths ρ P given w (of_two_exprs f fs) (of_two g (InContext (x ∷ y ∷ []) fs))
      go [] same have = absurd have
      go (a ∷ []) same have = absurd have.1
      go (a ∷ b ∷ []) same have = each a b same have.0 have.1.0
      go (a ∷ b ∷ c ∷ fs) same have = absurd have.1.1

  three_give : (P : Type 0) (at : ℕ → Bool) (w : ℕ) (f : Expr → Expr → Expr → Expr) (g : Word → Word → Word → Word) (x y z : Option HwType) (xs : List (Option HwType))
      (es : List Expr) → xs ≡ x ∷ y ∷ z ∷ [] → HaveBits widths ρ at xs es
      → ((a b c : Expr) → HasBits widths ρ (at 0) (width_of x) a → HasBits widths ρ (at 1) (width_of y) b → HasBits widths ρ (at 2) (width_of z) c
      → Gives widths ρ P given w (f a b c) (g (value_in widths ρ (width_of x) a) (value_in widths ρ (width_of y) b) (value_in widths ρ (width_of z) c)))
      → Gives widths ρ P given w (of_three_exprs f es) (of_three g (InContext xs es))
  three_give P at w f g x y z xs es is have each =
      subst (λ ys. Gives widths ρ P given w (of_three_exprs f es) (of_three g (InContext ys es))) (sym is) (go es (subst (λ ys. HaveBits widths ρ at ys es) is have))
    where
      go : (fs : List Expr) → HaveBits widths ρ at (x ∷ y ∷ z ∷ []) fs → Gives widths ρ P given w (of_three_exprs f fs) (of_three g (InContext (x ∷ y ∷ z ∷ []) fs))
      go [] have = absurd have
      go (a ∷ []) have = absurd have.1
      go (a ∷ b ∷ []) have = absurd have.1.1
      go (a ∷ b ∷ c ∷ []) have = each a b c have.0 have.1.0 have.1.1.0
      go (a ∷ b ∷ c ∷ d ∷ fs) have = absurd have.1.1.1

  -- ---- any number of operands

  all_bits : (t : HwType) (at : ℕ → Bool) → ((i : ℕ) → at i ≡ true → given ≡ true) → (xs : List (Option HwType)) (es : List Expr) → AllAre t xs → HaveBits widths ρ at xs es
      → AllBits widths ρ given (width t) es
  all_bits t at weaker [] [] all have e here = absurd here
  all_bits t at weaker [] (f ∷ es) all have e here = absurd have
  all_bits t at weaker (x ∷ xs) [] all have e here = absurd have
  all_bits t at weaker (x ∷ xs) (f ∷ es) all have e (inl same) =
      let first : HasBits widths ρ (at 0) (width t) f = subst (λ y. HasBits widths ρ (at 0) (width_of y) f) (all x (inl refl)) have.0 in
      subst (HasBits widths ρ given (width t)) (sym same) (bits_weaker widths ρ (at 0) given (width t) f (weaker 0) first)
  all_bits t at weaker (x ∷ xs) (f ∷ es) all have e (inr here) =
      all_bits t (λ i. at (suc i)) (λ i. weaker (suc i)) xs es (λ y there. all y (inr there)) have.1 e here

  as_many : (at : ℕ → Bool) (xs : List (Option HwType)) (es : List Expr) → HaveBits widths ρ at xs es → length xs ≡ length es
  as_many at [] [] have = refl
  as_many at [] (e ∷ es) have = absurd have
  as_many at (x ∷ xs) [] have = absurd have
  as_many at (x ∷ xs) (e ∷ es) have = let rest : length xs ≡ length es = as_many (λ i. at (suc i)) xs es have.1 in omega arith

  -- all in a context of one width
  in_one_context : (t : HwType) (at : ℕ → Bool) (xs : List (Option HwType)) (es : List Expr) → AllAre t xs → HaveBits widths ρ at xs es
      → InContext xs es ≡ map (value_in widths ρ (width t)) es
  in_one_context t at [] [] all have = refl
  in_one_context t at [] (f ∷ es) all have = absurd have
  in_one_context t at (x ∷ xs) [] all have = absurd have
  in_one_context t at (x ∷ xs) (f ∷ es) all have =
      ap₂ (λ y ys. value_in widths ρ (width_of y) f ∷ ys) (all x (inl refl))
      (in_one_context t (λ i. at (suc i)) xs es (λ y there. all y (inr there)) have.1)

  -- an operator between all operands
  template : (P : Type 0) (o : Operator) (t : HwType) (op : List Word → Word) → context_of o ≡ both_operands
      → ((x y : Word) → length x ≡ width t → length y ≡ width t → length (arithmetic o false x y) ≡ width t)
      → ((x : Word) (ys : List Word) → length x ≡ width t → ((y : Word) → In y ys → length y ≡ width t) → folded (arithmetic o false) x ys ≡ op (x ∷ ys))
      → (xs : List (Option HwType)) (es : List Expr) → AllAre t xs → 1 ≤ length xs → HaveBits widths ρ (λ i. given) xs es
      → Gives widths ρ P given (width t) (variadic_expr o es) (op (InContext xs es))
  template P o t op context keeps folds xs es fits some have =
      subst (λ ys. Gives widths ρ P given (width t) (variadic_expr o es) (op ys)) (sym (in_one_context t (λ i. given) xs es fits have))
      (variadic_gives widths ρ P given o (width t) op context keeps folds es (all_bits t (λ i. given) (λ i h. h) xs es fits have)
      (let same : length xs ≡ length es = as_many (λ i. given) xs es have in omega arith))

  bitwise_keeps : (f : Bool → Bool → Bool) (w : ℕ) (x y : Word) → length x ≡ w → length y ≡ w → length (bitwise f x y) ≡ w
  bitwise_keeps f w x y first second = length-bitwise f x y (first ∙ sym second) ∙ first

  -- ---- pairs, shifts and divisions

  pair_gives : (P : Type 0) (o : Operator) (w : ℕ) (a b : Expr) → context_of o ≡ both_operands
      → ((x y : Word) → length (arithmetic o false x y) ≡ length x) → HasBits widths ρ given w a → HasBits widths ρ given w b
      → Gives widths ρ P given w (unsigned_pair o a b) (arithmetic o false (value_in widths ρ w a) (value_in widths ρ w b))
  pair_gives P o w a b context keeps first second =
      gives widths ρ P given w false (unsigned_pair o a b) _ _
      (both_is widths ρ given o w false (unsigned_at (strength o) a) (unsigned_at (suc (strength o)) b) (value_in widths ρ w a) (value_in widths ρ w b) context
      (unsigned_at_is widths ρ given (strength o) w a first) (unsigned_at_is widths ρ given (suc (strength o)) w b second)
      (keeps (value_in widths ρ w a) (value_in widths ρ w b) ∙ first.worth))
      refl

  -- the amount of a shift stands by itself
  amount_own : (l w : ℕ) (b : Expr) → HasBits widths ρ false w b → own_value widths ρ (parenthesize l b) ≡ value_in widths ρ w b
  amount_own l w b has = placed_own widths ρ l b ∙ own_in widths ρ w b has

  unsigned_shift_gives : (P : Type 0) (o : Operator) (w : ℕ) (a b : Expr) → context_of o ≡ left_operand
      → ((x : Word) (n : ℕ) → length (shift_word o false x n) ≡ length x) → HasBits widths ρ given w a → HasBits widths ρ false w b
      → Gives widths ρ P given w (unsigned_shift o a b) (shift_word o false (value_in widths ρ w a) (number (value_in widths ρ w b)))
  unsigned_shift_gives P o w a b context keeps first second =
      let c : Expr = parenthesize (suc (strength o)) b in
      gives widths ρ P given w false (unsigned_shift o a b) _ _
      (shift_is widths ρ given o w false (unsigned_at (strength o) a) c (value_in widths ρ w a) context (unsigned_at_is widths ρ given (strength o) w a first)
      (keeps (value_in widths ρ w a) (number (own_value widths ρ c)) ∙ first.worth))
      (ap (λ x. shift_word o false (value_in widths ρ w a) (number x)) (amount_own (suc (strength o)) w b second))

  signed_shift_gives : (P : Type 0) (o : Operator) (w : ℕ) (a b : Expr) → context_of o ≡ left_operand
      → ((x : Word) (n : ℕ) → length (shift_word o true x n) ≡ length x) → HasBits widths ρ false w a → HasBits widths ρ false w b
      → Gives widths ρ P given w (signed_shift o a b) (shift_word o true (value_in widths ρ w a) (number (value_in widths ρ w b)))
  signed_shift_gives P o w a b context keeps first second =
      let c : Expr = parenthesize (suc (strength o)) b in
      gives widths ρ P given w true (signed_shift o a b) _ _
      (shift_is widths ρ given o w true (as_signed a) c (value_in widths ρ w a) context (signed_is widths ρ given w a first)
      (keeps (value_in widths ρ w a) (number (own_value widths ρ c)) ∙ first.worth))
      (ap (λ x. shift_word o true (value_in widths ρ w a) (number x)) (amount_own (suc (strength o)) w b second))

  unsigned_division_gives : (P : Type 0) (o : Operator) (w divisor : ℕ) (a b : Expr) → context_of o ≡ both_operands
      → ((x y : Word) → length (arithmetic o false x y) ≡ length x) → w < 2 ^ 64 → HasBits widths ρ given w a → (P → value_in widths ρ w b ≡ bits w divisor)
      → Gives widths ρ P given w (unsigned_division o w divisor a) (arithmetic o false (value_in widths ρ w a) (value_in widths ρ w b))
  unsigned_division_gives P o w divisor a b context keeps small first always =
      let is : Is widths ρ given w false (unsigned_division o w divisor a) (arithmetic o false (value_in widths ρ w a) (bits w divisor)) =
      both_is widths ρ given o w false (unsigned_at (strength o) a) (literal_of w false divisor) (value_in widths ρ w a) (bits w divisor) context
      (unsigned_at_is widths ρ given (strength o) w a first) (literal_is widths ρ given w false divisor small) (keeps (value_in widths ρ w a) (bits w divisor) ∙ first.worth) in
      record {
        bits = HasBits-Is widths ρ given w false (unsigned_division o w divisor a) _ is;
        worth = λ p. Is-value widths ρ given w false (unsigned_division o w divisor a) _ is ∙ ap (λ y. arithmetic o false (value_in widths ρ w a) y) (sym (always p));
      }

  signed_division_gives : (P : Type 0) (o : Operator) (w divisor : ℕ) (a b : Expr) → context_of o ≡ both_operands
      → ((x y : Word) → length (arithmetic o true x y) ≡ length x) → w < 2 ^ 64 → HasBits widths ρ false w a → (P → value_in widths ρ w b ≡ bits w divisor)
      → Gives widths ρ P given w (signed_division o w divisor a) (arithmetic o true (value_in widths ρ w a) (value_in widths ρ w b))
  signed_division_gives P o w divisor a b context keeps small first always =
      let is : Is widths ρ given w true (signed_division o w divisor a) (arithmetic o true (value_in widths ρ w a) (bits w divisor)) =
      both_is widths ρ given o w true (as_signed a) (literal_of w true divisor) (value_in widths ρ w a) (bits w divisor) context
      (signed_is widths ρ given w a first) (literal_is widths ρ given w true divisor small) (keeps (value_in widths ρ w a) (bits w divisor) ∙ first.worth) in
      record {
        bits = HasBits-Is widths ρ given w true (signed_division o w divisor a) _ is;
        worth = λ p. Is-value widths ρ given w true (signed_division o w divisor a) _ is ∙ ap (λ y. arithmetic o true (value_in widths ρ w a) y) (sym (always p));
      }

  -- a width that is another one's
  widened : (P : Type 0) (v w : ℕ) (e : Expr) (x : Word) → v ≡ w → Gives widths ρ P given v e x → Gives widths ρ P given w e x
  widened P v w e x same it = subst (λ k. Gives widths ρ P given k e x) same it

  constant_gives : (P : Type 0) (w : ℕ) (x : Word) → length x ≡ w → w < 2 ^ 64 → Gives widths ρ P given w (literal_of w false (number x)) x
  constant_gives P w x size small =
      gives widths ρ P given w false (literal_of w false (number x)) (bits w (number x)) x (literal_is widths ρ given w false (number x) small)
      (ap (λ k. bits k (number x)) (sym size) ∙ bits-number x)

  -- ---- families

  variadic_built : {P : Type 0} (v : Variadic) (t : HwType) (xs : List (Option HwType)) (es : List Expr) → AllAre t xs → 1 ≤ length xs → HaveBits widths ρ (λ i. given) xs es
      → Gives widths ρ P given (width t) (variadic_expr (variadic_operator v) es) (variadic_value v (width t) (InContext xs es))
  variadic_built add t xs es fits some have =
      template _ plus t (λ ys. bits (width t) (total (map number ys))) refl (λ x y first second. length-add x y ∙ first) (λ x ys size sizes. added (width t) x ys size) xs es fits some have
  variadic_built mul t xs es fits some have =
      template _ times t (λ ys. bits (width t) (product (map number ys))) refl (λ x y first second. length-mul x y ∙ first) (λ x ys size sizes. multiplied (width t) x ys size) xs es fits some have
  variadic_built and t xs es fits some have =
      template _ bit_and t (and_all (width t)) refl (bitwise_keeps _ (width t))
      (from_right and_words (and_all (width t)) (width t) and_words_assoc (λ x size. ap (λ n. and_words x (ones n)) (sym size) ∙ and_words-ones x) (λ y ys. refl) (bitwise_keeps _ (width t)))
      xs es fits some have
  variadic_built or t xs es fits some have =
      template _ bit_or t (or_all (width t)) refl (bitwise_keeps _ (width t))
      (from_right or_words (or_all (width t)) (width t) or_words_assoc (λ x size. ap (λ n. or_words x (zeros n)) (sym size) ∙ or_words-zeros x) (λ y ys. refl) (bitwise_keeps _ (width t)))
      xs es fits some have
  variadic_built xor t xs es fits some have =
      template _ bit_xor t (xor_all (width t)) refl (bitwise_keeps _ (width t))
      (from_right xor_words (xor_all (width t)) (width t) xor_words_assoc (λ x size. ap (λ n. xor_words x (zeros n)) (sym size) ∙ xor_words-zeros x) (λ y ys. refl) (bitwise_keeps _ (width t)))
      xs es fits some have

  either_division_gives : (P : Type 0) (s : Bool) (o : Operator) (w divisor : ℕ) (a b : Expr) → context_of o ≡ both_operands → divides o ≡ true
      → w < 2 ^ 64 → HasBits widths ρ ((not s && true) && given) w a → (P → value_in widths ρ w b ≡ bits w divisor)
      → Gives widths ρ P given w (division_expr s o w divisor a) (arithmetic o s (value_in widths ρ w a) (value_in widths ρ w b))
  either_division_gives P false o w divisor a b context divided small first always =
      unsigned_division_gives P o w divisor a b context (λ x y. length-divided o false x y divided) small first always
  either_division_gives P true o w divisor a b context divided small first always =
      signed_division_gives P o w divisor a b context (λ x y. length-divided o true x y divided) small first always

  division_gives : (P : Type 0) (d : Division) (w divisor : ℕ) (a b : Expr) → w < 2 ^ 64 → HasBits widths ρ ((not (is_signed_division d) && true) && given) w a
      → (P → value_in widths ρ w b ≡ bits w divisor)
      → Gives widths ρ P given w (division_expr (is_signed_division d) (division_operator d) w divisor a) (division_value d (value_in widths ρ w a) (value_in widths ρ w b))
  division_gives P d w divisor a b small first always =
      subst (Gives widths ρ P given w (division_expr (is_signed_division d) (division_operator d) w divisor a))
      (division_computes d (value_in widths ρ w a) (value_in widths ρ w b))
      (either_division_gives P (is_signed_division d) (division_operator d) w divisor a b (division_context d) (divides_division d) small first always)

  either_shift_gives : (P : Type 0) (s : Bool) (o : Operator) (w : ℕ) (a b : Expr) → context_of o ≡ left_operand → HasBits widths ρ ((not s && true) && given) w a
      → HasBits widths ρ ((not s && false) && given) w b
      → Gives widths ρ P given w (shift_expr s o a b) (shift_word o s (value_in widths ρ w a) (number (value_in widths ρ w b)))
  either_shift_gives P false o w a b context first second = unsigned_shift_gives P o w a b context (λ x n. length-shifted o false x n context) first second
  either_shift_gives P true o w a b context first second = signed_shift_gives P o w a b context (λ x n. length-shifted o true x n context) first second

  shift_gives : (P : Type 0) (s : Shift) (w : ℕ) (a b : Expr) → HasBits widths ρ ((not (is_signed_shift s) && true) && given) w a
      → HasBits widths ρ ((not (is_signed_shift s) && false) && given) w b
      → Gives widths ρ P given w (shift_expr (is_signed_shift s) (shift_operator s) a b) (shift_value s (value_in widths ρ w a) (number (value_in widths ρ w b)))
  shift_gives P s w a b first second =
      subst (Gives widths ρ P given w (shift_expr (is_signed_shift s) (shift_operator s) a b))
      (shift_computes s (value_in widths ρ w a) (number (value_in widths ρ w b)))
      (either_shift_gives P (is_signed_shift s) (shift_operator s) w a b (shift_context s) first second)

  compared_gives : (P : Type 0) (p : Predicate) (w : ℕ) (a b : Expr) → HasBits widths ρ (not (is_signed_order p) || false) w a → HasBits widths ρ (not (is_signed_order p) || false) w b
      → (not (is_signed_order p) ≡ true → max (length_of widths a) (length_of widths b) ≡ w)
      → Gives widths ρ P given 1 (comparison p a b) (flag (compare p (value_in widths ρ w a) (value_in widths ρ w b)))
  compared_gives P p w a b first second greater =
      comparison_gives widths ρ P given p w a b (subst (λ g. HasBits widths ρ g w a) (or_none (not (is_signed_order p))) first)
      (subst (λ g. HasBits widths ρ g w b) (or_none (not (is_signed_order p))) second) greater

  -- ---- each kind

  abbrev Divided : Kind → HwType → ℕ → List Expr → Type 0
  Divided kind t divisor es = IsDividedBy widths ρ kind (width t) divisor es

  pub built_gives : (kind : Kind) (ts : List HwType) (xs : List (Option HwType)) (t : HwType) (k divisor : ℕ) (es : List Expr)
      → Fits kind ts xs t k → IsBuildable widths ρ given kind xs t es
      → Gives widths ρ (IsDividedBy widths ρ kind (width t) divisor es) given (width t) (kind_expr kind (width t) (map width_of xs) divisor es)
      (op_value kind ts t k (values_in widths ρ (map width_of xs) es))
  built_gives (variadic v) ts xs t k divisor es fits can = variadic_built v t xs es fits (can.filled refl) can.operands
  built_gives sub ts xs t k divisor es fits can =
      two_give (Divided sub t divisor es) (λ i. given) (width t) (unsigned_pair minus) difference (Some t) (Some t) xs es fits can.operands
      (λ a b same first second. pair_gives (Divided sub t divisor es) minus (width t) a b refl length-sub first second)
  built_gives (division d) ts xs t k divisor es fits can =
      two_give (Divided (division d) t divisor es) (given_to given (division d)) (width t) _ (division_value d) (Some t) (Some t) xs es fits can.operands
      (λ a b same first second. division_gives (Divided (division d) t divisor es) d (width t) divisor a b can.narrow first (λ by. by refl a b same))
  built_gives (shift s) ts xs t k divisor es fits can =
      two_give (Divided (shift s) t divisor es) (given_to given (shift s)) (width t) (shift_expr (is_signed_shift s) (shift_operator s)) (λ x y. shift_value s x (number y))
      (Some t) (Some t) xs es fits can.operands
      (λ a b same first second. shift_gives (Divided (shift s) t divisor es) s (width t) a b first second)
  built_gives (icmp p) ts xs t k divisor es (u, is, one) can =
      widened (Divided (icmp p) t divisor es) 1 (width t) _ _ (sym (ap width one))
      (two_give (Divided (icmp p) t divisor es) (given_to given (icmp p)) 1 (comparison p) (λ x y. flag (compare p x y)) (Some u) (Some u) xs es is can.operands
      (λ a b same first second. compared_gives (Divided (icmp p) t divisor es) p (width u) a b first second (λ h. can.compared h (Some u) (Some u) a b is same)))
  built_gives parity ts xs t k divisor es (u, is, one) can =
      widened (Divided parity t divisor es) 1 (width t) _ _ (sym (ap width one))
      (one_gives (Divided parity t divisor es) (λ i. false) 1 (λ a. odd (parenthesize primary_level a)) (λ x. flag (parity_of x)) (Some u) xs es is can.operands
      (λ a same first. odd_gives widths ρ (Divided parity t divisor es) given primary_level (width u) a first))
  built_gives (extract low) ts xs t k divisor es (u, is, room) can =
      let operand_width : first_width (map width_of xs) ≡ width u = ap (λ ys. first_width (map width_of ys)) is in
      let small : width u < 2 ^ 64 = can.narrow_operands (Some u) (subst (In (Some u)) (sym is) (inl refl)) in
      one_gives (Divided (extract low) t divisor es) (λ i. given) (width t) (select_bits low (first_width (map width_of xs)) (width t)) (bits_from low (width t)) (Some u) xs es is can.operands
      (λ a same first. subst (λ v. Gives widths ρ (Divided (extract low) t divisor es) given (width t) (select_bits low v (width t) a) (bits_from low (width t) (value_in widths ρ (width u) a)))
      (sym operand_width)
      (selected_gives widths ρ (Divided (extract low) t divisor es) given low (width t) (width u) a first room can.bits small (can.cut (Some u) a is same)))
  built_gives concat ts xs t k divisor es (us, is, sum) can =
      subst (λ ys. Gives widths ρ (Divided concat t divisor es) given (width t) (concatenation es) (concat_words (values_in widths ρ (map width_of ys) es))) (sym is)
      (widened (Divided concat t divisor es) (total (map width us)) (width t) _ _ (sym sum)
      (concatenation_gives widths ρ (Divided concat t divisor es) given (λ i. false) (λ i. refl) us es (subst (λ ys. HaveBits widths ρ (λ i. false) ys es) is can.operands)
      (subst (λ n. 1 ≤ n) sum can.bits)))
  built_gives replicate ts xs t k divisor es (u, n, is, positive, multiple) can =
      let operand_width : first_width (map width_of xs) ≡ width u = ap (λ ys. first_width (map width_of ys)) is in
      one_gives (Divided replicate t divisor es) (λ i. false) (width t) (λ a. repeated (decimal (width t / first_width (map width_of xs))) (last a)) (λ x. copies (width t / length x) x) (Some u) xs es is
      can.operands
      (λ a same first. subst (λ v. Gives widths ρ (Divided replicate t divisor es) given (width t) (repeated (decimal (width t / v)) (last a))
      (copies (width t / length (value_in widths ρ (width u) a)) (value_in widths ρ (width u) a))) (sym operand_width)
      (repeated_gives widths ρ (Divided replicate t divisor es) given (width t) n (width u) a first positive multiple can.narrow))
  built_gives mux ts xs t k divisor es fits can =
      three_give (Divided mux t divisor es) (given_to given mux) (width t) conditional _ (Some (int 1)) (Some t) (Some t) xs es fits can.operands
      (λ c a b first second third. conditional_gives widths ρ (Divided mux t divisor es) given (width t) c a b first second third)
  built_gives (constant z) ts xs t k divisor es fits can =
      constant_gives (Divided (constant z) t divisor es) (width t) (bits_of_ℤ (width t) z) (length-bits_of_ℤ (width t) z) can.narrow
  built_gives bitcast ts xs t k divisor es (u, is, same) can =
      widened (Divided bitcast t divisor es) (width u) (width t) _ _ same
      (one_gives (Divided bitcast t divisor es) (λ i. given) (width u) (λ a. a) (λ x. x) (Some u) xs es is can.operands (λ a e first. record { bits = first; worth = λ p. refl }))
  built_gives wire ts xs t k divisor es fits can =
      one_gives (Divided wire t divisor es) (λ i. given) (width t) (λ a. a) (λ x. x) (Some t) xs es fits can.operands (λ a e first. record { bits = first; worth = λ p. refl })
  built_gives (aggregate_constant ls) ts xs t k divisor es fits can = absurd (true≢false can.integers)
  built_gives (on_array a) ts xs t k divisor es fits can = absurd (true≢false can.integers)
  built_gives (on_struct s) ts xs t k divisor es fits can = absurd (true≢false can.integers)
  built_gives (instance i) ts xs t k divisor es fits can = absurd (true≢false can.values)
  built_gives output ts xs t k divisor es fits can = absurd fits
  built_gives (register f r) ts xs t k divisor es fits can = absurd (true≢false can.values)
  built_gives async_firreg ts xs t k divisor es fits can = absurd (true≢false can.values)

  pub built_bits : (kind : Kind) (ts : List HwType) (xs : List (Option HwType)) (t : HwType) (k divisor : ℕ) (es : List Expr)
      → Fits kind ts xs t k → IsBuildable widths ρ given kind xs t es → HasBits widths ρ given (width t) (kind_expr kind (width t) (map width_of xs) divisor es)
  built_bits kind ts xs t k divisor es fits can = (built_gives kind ts xs t k divisor es fits can).bits

  pub built_worth : (kind : Kind) (ts : List HwType) (xs : List (Option HwType)) (t : HwType) (k divisor : ℕ) (es : List Expr)
      → Fits kind ts xs t k → IsBuildable widths ρ given kind xs t es → IsDividedBy widths ρ kind (width t) divisor es
      → value_in widths ρ (width t) (kind_expr kind (width t) (map width_of xs) divisor es) ≡ op_value kind ts t k (values_in widths ρ (map width_of xs) es)
  built_worth kind ts xs t k divisor es fits can by = (built_gives kind ts xs t k divisor es fits can).worth by
