-- Expressions meet the checks of a text: names are known, selects are in range, divisors are literals that are not 0; and
-- their names and numerals are words.
use Rattle.std.proofs.Common.{◌≡◌, ℕ, suc, ◌+◌, ◌-◌, ◌*◌, ◌/◌, ◌%◌, ◌<◌, ◌≤◌, ◌^◌, Bool, true, false, cond, not, ◌&&◌, ◌||◌, ◌==◌, nat_le, nat_lt, List, [], ◌∷◌, map, length, decimal, Option, Some}
use Rattle.std.proofs.Common.{is_some, refl, sym, ap, subst, ◌∙◌, inl, inr, arith, IsTrue, eq-eqb}
use Rattle.std.proofs.Math.Nat.{mul-div_cancel}
use Rattle.wiring.specs.Lists.{total}
use Rattle.wiring.specs.Wiring.{In}
use Rattle.bits_core.specs.Word.{number, bits_of_ℤ}
use Rattle.hw_model.specs.Types.{Name, HwType, width}
use Rattle.hw_model.specs.Types.HwType.{int}
use Rattle.hw_model.specs.Kinds.{Kind, Predicate}
use Rattle.hw_model.specs.Kinds.Predicate.{eq, ne, slt, sle, sgt, sge, ult, ule, ugt, uge, ceq, cne, weq, wne}
use Rattle.hw_model.specs.Kinds.Kind.{variadic, sub, division, shift, icmp, parity, extract, concat, replicate, mux, constant, aggregate_constant, on_array, on_struct, bitcast, wire, instance, output, register, async_firreg}
use Rattle.hw_model.specs.Flat.{width_of}
use Rattle.hw_model.specs.Sound.{Fits}
use Rattle.verilog_model.specs.Tokens.{is_word_byte}
use Rattle.verilog_model.specs.Numerals.{decimal_number, is_decimal, is_hex, is_nonempty, all_bytes}
use Rattle.verilog_model.specs.Tree.{Operator, Expr, Exprs}
use Rattle.verilog_model.specs.Tree.Operator.{minus, below, at_most, above, at_least, equals, differs}
use Rattle.verilog_model.specs.Tree.Expr.{name, bit_select, part_select, repeated, as_signed, as_unsigned, paren, odd, binary}
use Rattle.verilog_model.specs.Tree.Exprs.{last}
use Rattle.verilog_model.specs.Grammar.{level, strength, choice_level, primary_level}
use Rattle.verilog_model.specs.Expression.{is_signed}
use Rattle.verilog_model.specs.Checks.{Declared, find_declared, has_bit, is_divisor, divides, expr_checks, exprs_check}
use Rattle.verilog_model.proofs.Numerals.{and_intro, and_first, and_second, decimal_number-decimal, is_decimal-decimal, all_bytes_weaker}
use Rattle.verilog_model.specs.Digits.{literal_of, hex}
use Rattle.verilog_expr.specs.Building.{unsigned, parenthesize, unsigned_at, of_one_expr, of_two_exprs, of_three_exprs, unsigned_pair, chain, variadic_expr, signed_pair, unsigned_shift, signed_shift}
use Rattle.verilog_expr.specs.Building.{comparison, select, select_bits, exprs_of, concatenation, conditional, kind_expr, division_expr, shift_expr, variadic_operator, division_operator}
use Rattle.verilog_expr.specs.Building.{shift_operator, is_signed_division, is_signed_shift}
use Rattle.verilog_expr.specs.Values.{is_aggregate_kind, is_division, is_variadic, is_item_kind}
use Rattle.verilog_expr.specs.Spilling.{is_narrower}
use Rattle.verilog_expr.proofs.Operators.{plain_operator, plain_shift}
use Rattle.verilog_expr.proofs.Numerals.{hex_number-hex, is_hex-hex}
use Rattle.verilog_expr.proofs.TextRead.{IsWord, IsSpellable, AreSpellable}
use Rattle.verilog_expr.proofs.CheckedWords.{is_hex_byte, decimal_word, lt_true, le_true, hex_byte_is_word}

module _ (known : List Declared) where
  -- an expression that is spelled in words and meets the checks after what is known
  pub record IsWell (e : Expr) : Type 0 where
    pub words : IsSpellable e
    pub checks : IsTrue (expr_checks known e)

  pub record AreWell (es : Exprs) : Type 0 where
    pub words : AreSpellable es
    pub checks : IsTrue (exprs_check known es)

  -- ---- forms

  well_unsigned : (e : Expr) → IsWell e → IsWell (unsigned e)
  well_unsigned e is = go (is_signed e) where
    go : (b : Bool) → IsWell (cond b (as_unsigned e) e)
    go true = record { words = is.words; checks = is.checks }
    go false = is

  well_placed : (l : ℕ) (e : Expr) → IsWell e → IsWell (parenthesize l e)
  well_placed l e is = go (nat_le l (level e)) where
    go : (b : Bool) → IsWell (cond b e (paren e))
    go true = is
    go false = record { words = is.words; checks = is.checks }

  well_unsigned_at : (l : ℕ) (e : Expr) → IsWell e → IsWell (unsigned_at l e)
  well_unsigned_at l e is = well_placed l (unsigned e) (well_unsigned e is)

  well_signed : (e : Expr) → IsWell e → IsWell (as_signed e)
  well_signed e is = record { words = is.words; checks = is.checks }

  -- an operator that does not divide
  well_binary : (o : Operator) (a b : Expr) → divides o ≡ false → IsWell a → IsWell b → IsWell (binary o a b)
  well_binary o a b plain x y = record {
    words = (x.words, y.words);
    checks = and_intro (not (divides o) || is_divisor b) (expr_checks known a && expr_checks known b) (rw plain refl) (and_intro (expr_checks known a) (expr_checks known b) x.checks y.checks);
  }

  well_divided : (o : Operator) (a b : Expr) → IsTrue (is_divisor b) → IsWell a → IsWell b → IsWell (binary o a b)
  well_divided o a b by x y = record {
    words = (x.words, y.words);
    checks = and_intro (not (divides o) || is_divisor b) (expr_checks known a && expr_checks known b) (go (divides o) (is_divisor b) by) (and_intro (expr_checks known a) (expr_checks known b) x.checks y.checks);
  } where
    go : (d i : Bool) → IsTrue i → IsTrue (not d || i)
    go true i h = h
    go false i h = refl

  well_pair : (o : Operator) (a b : Expr) → divides o ≡ false → IsWell a → IsWell b → IsWell (unsigned_pair o a b)
  well_pair o a b plain x y = well_binary o (unsigned_at (strength o) a) (unsigned_at (suc (strength o)) b) plain (well_unsigned_at (strength o) a x) (well_unsigned_at (suc (strength o)) b y)

  well_signed_pair : (o : Operator) (a b : Expr) → divides o ≡ false → IsWell a → IsWell b → IsWell (signed_pair o a b)
  well_signed_pair o a b plain x y = well_binary o (as_signed a) (as_signed b) plain (well_signed a x) (well_signed b y)

  well_shift : (o : Operator) (a b : Expr) → divides o ≡ false → IsWell a → IsWell b → IsWell (unsigned_shift o a b)
  well_shift o a b plain x y = well_binary o (unsigned_at (strength o) a) (parenthesize (suc (strength o)) b) plain (well_unsigned_at (strength o) a x) (well_placed (suc (strength o)) b y)

  well_signed_shift : (o : Operator) (a b : Expr) → divides o ≡ false → IsWell a → IsWell b → IsWell (signed_shift o a b)
  well_signed_shift o a b plain x y = well_binary o (as_signed a) (parenthesize (suc (strength o)) b) plain (well_signed a x) (well_placed (suc (strength o)) b y)

  AllWell : List Expr → Type 0
  AllWell es = (e : Expr) → In e es → IsWell e

  well_chained : (o : Operator) (a : Expr) (es : List Expr) → divides o ≡ false → IsWell a → AllWell es → IsWell (chain o a es)
  unfolding AllWell
  well_chained o a [] plain x are = x
  well_chained o a (e ∷ es) plain x are =
      well_chained o (binary o a (unsigned_at (suc (strength o)) e)) es plain
      (well_binary o a (unsigned_at (suc (strength o)) e) plain x (well_unsigned_at (suc (strength o)) e (are e (inl refl)))) (λ f h. are f (inr h))

  well_variadic : (o : Operator) (es : List Expr) → divides o ≡ false → 1 ≤ length es → AllWell es → IsWell (variadic_expr o es)
  unfolding AllWell
  well_variadic o [] plain some are = absurd (omega (arith, some))
  well_variadic o (a ∷ []) plain some are = are a (inl refl)
  well_variadic o (a ∷ b ∷ es) plain some are =
      well_chained o (unsigned_at (strength o) a) (b ∷ es) plain (well_unsigned_at (strength o) a (are a (inl refl))) (λ f h. are f (inr h))

  well_exprs : (a : Expr) (es : List Expr) → AllWell (a ∷ es) → AreWell (exprs_of a es)
  unfolding AllWell
  well_exprs a [] are = let x = are a (inl refl) in record { words = x.words; checks = x.checks }
  well_exprs a (b ∷ es) are = let x = are a (inl refl) in let rest = well_exprs b es (λ f h. are f (inr h)) in record {
    words = (x.words, rest.words);
    checks = and_intro (expr_checks known a) (exprs_check known (exprs_of b es)) x.checks rest.checks;
  }

  -- ---- numerals

  hex_words : (n : ℕ) → IsWord (hex n)
  hex_words n = let d = is_hex-hex n in record {
    some = and_first (is_nonempty (hex n)) (all_bytes is_hex_byte (hex n)) d;
    bytes = all_bytes_weaker is_hex_byte is_word_byte hex_byte_is_word (hex n) (and_second (is_nonempty (hex n)) (all_bytes is_hex_byte (hex n)) d);
  }

  well_literal : (w n : ℕ) (s : Bool) → 1 ≤ w → w < 2 ^ 64 → IsWell (literal_of w s n)
  well_literal w n s some small = record {
    words = (decimal_word w small, hex_words n);
    checks = and_intro (is_decimal (decimal w) && is_hex (hex n)) (nat_lt 0 (decimal_number (decimal w)))
        (and_intro (is_decimal (decimal w)) (is_hex (hex n)) (is_decimal-decimal w small) (is_hex-hex n))
        (rw (decimal_number-decimal w small) (lt_true 0 w some));
  }

  divisor_literal : (w n : ℕ) (s : Bool) → w < 2 ^ 64 → 0 < n % 2 ^ w → IsTrue (is_divisor (literal_of w s n))
  divisor_literal w n s small some = rw (decimal_number-decimal w small, hex_number-hex n) (lt_true 0 (n % 2 ^ w) some)

  -- ---- selects

  -- a name whose bits below w are all there
  pub record IsWide (w : ℕ) (e : Expr) : Type 0 where
    pub called : Name
    pub same : e ≡ name called
    pub word : IsWord called
    pub bits : (k : ℕ) → k < w → IsTrue (has_bit (find_declared known called) k)

  well_select : (low w whole : ℕ) (e : Expr) → 1 ≤ w → low + w ≤ whole → whole < 2 ^ 64 → IsWide whole e → IsWell (select low w e)
  well_select low w whole e some within small wide = rw wide.same (go (w == 1) refl) where
    n : Name
    n = wide.called

    high_small : low + w - 1 < 2 ^ 64
    high_small = omega (arith, some, within, small)

    low_small : low < 2 ^ 64
    low_small = omega (arith, some, within, small)

    go : (b : Bool) → (w == 1) ≡ b → IsWell (cond b (bit_select n (decimal low)) (part_select n (decimal (low + w - 1)) (decimal low)))
    go true one = record {
      words = (wide.word, decimal_word low low_small);
      checks = and_intro (is_decimal (decimal low)) (has_bit (find_declared known n) (decimal_number (decimal low))) (is_decimal-decimal low low_small)
          (rw (decimal_number-decimal low low_small) (wide.bits low (omega (arith, some, within))));
    }
    go false one = record {
      words = (wide.word, (decimal_word (low + w - 1) high_small, decimal_word low low_small));
      checks = and_intro (is_decimal (decimal (low + w - 1)) && is_decimal (decimal low))
          (nat_le (decimal_number (decimal low)) (decimal_number (decimal (low + w - 1))) && has_bit (find_declared known n) (decimal_number (decimal (low + w - 1))))
          (and_intro (is_decimal (decimal (low + w - 1))) (is_decimal (decimal low)) (is_decimal-decimal (low + w - 1) high_small) (is_decimal-decimal low low_small))
          (rw (decimal_number-decimal low low_small, decimal_number-decimal (low + w - 1) high_small)
          (and_intro (nat_le low (low + w - 1)) (has_bit (find_declared known n) (low + w - 1)) (le_true low (low + w - 1) (omega (arith, some)))
          (wide.bits (low + w - 1) (omega (arith, some, within)))));
    }

  -- ---- templates

  -- each operand that has a type is well
  unfoldable pub HaveWell : List (Option HwType) → List Expr → Type 0
  HaveWell [] [] = Unit {0}
  HaveWell [] (e ∷ es) = ⊥
  HaveWell (x ∷ xs) [] = ⊥
  HaveWell (x ∷ xs) (e ∷ es) = (is_some x ≡ true → IsWell e) × HaveWell xs es

  -- the divisor of a division is not 0
  unfoldable pub IsDivided : Kind → ℕ → ℕ → Type 0
  IsDivided kind w divisor = is_division kind ≡ true → 0 < divisor % 2 ^ w

  -- what is cut is a name
  unfoldable pub IsCut : Kind → ℕ → List (Option HwType) → List Expr → Type 0
  IsCut kind w xs es = (x : Option HwType) (e : Expr) → xs ≡ x ∷ [] → es ≡ e ∷ [] → is_narrower kind w (width_of x) ≡ true → IsWide (width_of x) e

  some_is : {A : Type 0} (x : Option A) (a : A) → x ≡ Some a → is_some x ≡ true
  some_is x a e = ap is_some e

  one_well : (f : Expr → Expr) (x : HwType) (xs : List (Option HwType)) (es : List Expr) → xs ≡ Some x ∷ [] → HaveWell xs es
      → ((a : Expr) → es ≡ a ∷ [] → IsWell a → IsWell (f a)) → IsWell (of_one_expr f es)
  unfolding HaveWell
  one_well f x xs es is are each = go es refl (subst (λ ys. HaveWell ys es) is are) where
    go : (fs : List Expr) → es ≡ fs → HaveWell (Some x ∷ []) fs → IsWell (of_one_expr f fs)
    go [] e h = absurd h
    go (a ∷ []) e h = each a e (h.0 refl)
    go (a ∷ b ∷ fs) e h = absurd h.1

  two_well : (f : Expr → Expr → Expr) (x y : HwType) (xs : List (Option HwType)) (es : List Expr) → xs ≡ Some x ∷ Some y ∷ [] → HaveWell xs es
      → ((a b : Expr) → IsWell a → IsWell b → IsWell (f a b)) → IsWell (of_two_exprs f es)
  unfolding HaveWell
  two_well f x y xs es is are each = go es (subst (λ ys. HaveWell ys es) is are) where
    go : (fs : List Expr) → HaveWell (Some x ∷ Some y ∷ []) fs → IsWell (of_two_exprs f fs)
    go [] h = absurd h
    go (a ∷ []) h = absurd h.1
    go (a ∷ b ∷ []) h = each a b (h.0 refl) (h.1.0 refl)
    go (a ∷ b ∷ c ∷ fs) h = absurd h.1.1

  three_well : (f : Expr → Expr → Expr → Expr) (x y z : HwType) (xs : List (Option HwType)) (es : List Expr) → xs ≡ Some x ∷ Some y ∷ Some z ∷ [] → HaveWell xs es
      → ((a b c : Expr) → IsWell a → IsWell b → IsWell c → IsWell (f a b c)) → IsWell (of_three_exprs f es)
  unfolding HaveWell
  three_well f x y z xs es is are each = go es (subst (λ ys. HaveWell ys es) is are) where
    go : (fs : List Expr) → HaveWell (Some x ∷ Some y ∷ Some z ∷ []) fs → IsWell (of_three_exprs f fs)
    go [] h = absurd h
    go (a ∷ []) h = absurd h.1
    go (a ∷ b ∷ []) h = absurd h.1.1
    go (a ∷ b ∷ c ∷ []) h = each a b c (h.0 refl) (h.1.0 refl) (h.1.1.0 refl)
    go (a ∷ b ∷ c ∷ d ∷ fs) h = absurd h.1.1.1

  -- where all operands have types all are well
  all_well : (xs : List (Option HwType)) (es : List Expr) → ((x : Option HwType) → In x xs → is_some x ≡ true) → HaveWell xs es → AllWell es
  unfolding HaveWell AllWell
  all_well [] [] some are e here = absurd here
  all_well [] (f ∷ es) some are e here = absurd are
  all_well (x ∷ xs) [] some are e here = absurd here
  all_well (x ∷ xs) (f ∷ es) some are e (inl same) = rw same (are.0 (some x (inl refl)))
  all_well (x ∷ xs) (f ∷ es) some are e (inr here) = all_well xs es (λ y h. some y (inr h)) are.1 e here

  as_many : (xs : List (Option HwType)) (es : List Expr) → HaveWell xs es → length es ≡ length xs
  unfolding HaveWell
  as_many [] [] are = refl
  as_many [] (e ∷ es) are = absurd are
  as_many (x ∷ xs) [] are = absurd are
  as_many (x ∷ xs) (e ∷ es) are = let rest : length es ≡ length xs = as_many xs es are.1 in omega (arith, rest)

  all_variadic : (o : Operator) (t : HwType) (xs : List (Option HwType)) (es : List Expr) → divides o ≡ false → 1 ≤ length xs
      → ((x : Option HwType) → In x xs → x ≡ Some t) → HaveWell xs es → IsWell (variadic_expr o es)
  all_variadic o t xs es plain some fits are =
      let many : length es ≡ length xs = as_many xs es are in
      well_variadic o es plain (omega (arith, some, many)) (all_well xs es (λ x h. some_is x t (fits x h)) are)

  well_division : (s : Bool) (o : Operator) (w divisor : ℕ) (a : Expr) → 1 ≤ w → w < 2 ^ 64 → 0 < divisor % 2 ^ w → IsWell a → IsWell (division_expr s o w divisor a)
  well_division false o w divisor a some small positive x =
      well_divided o (unsigned_at (strength o) a) (literal_of w false divisor) (divisor_literal w divisor false small positive) (well_unsigned_at (strength o) a x) (well_literal w divisor false some small)
  well_division true o w divisor a some small positive x =
      well_divided o (as_signed a) (literal_of w true divisor) (divisor_literal w divisor true small positive) (well_signed a x) (well_literal w divisor true some small)

  either_shift_well : (s : Bool) (o : Operator) (a b : Expr) → divides o ≡ false → IsWell a → IsWell b → IsWell (shift_expr s o a b)
  either_shift_well false o a b plain x y = well_shift o a b plain x y
  either_shift_well true o a b plain x y = well_signed_shift o a b plain x y

  well_comparison : (p : Predicate) (a b : Expr) → IsWell a → IsWell b → IsWell (comparison p a b)
  well_comparison eq a b x y = well_pair equals a b refl x y
  well_comparison ne a b x y = well_pair differs a b refl x y
  well_comparison slt a b x y = well_signed_pair below a b refl x y
  well_comparison sle a b x y = well_signed_pair at_most a b refl x y
  well_comparison sgt a b x y = well_signed_pair above a b refl x y
  well_comparison sge a b x y = well_signed_pair at_least a b refl x y
  well_comparison ult a b x y = well_pair below a b refl x y
  well_comparison ule a b x y = well_pair at_most a b refl x y
  well_comparison ugt a b x y = well_pair above a b refl x y
  well_comparison uge a b x y = well_pair at_least a b refl x y
  well_comparison ceq a b x y = well_pair equals a b refl x y
  well_comparison cne a b x y = well_pair differs a b refl x y
  well_comparison weq a b x y = well_pair equals a b refl x y
  well_comparison wne a b x y = well_pair differs a b refl x y

  well_conditional : (c a b : Expr) → IsWell c → IsWell a → IsWell b → IsWell (conditional c a b)
  well_conditional c a b x y z =
      let u = well_placed (suc choice_level) c x in
      let v = well_unsigned a y in
      let w = well_unsigned_at choice_level b z in record {
        words = (u.words, (v.words, w.words));
        checks = and_intro (expr_checks known (parenthesize (suc choice_level) c)) (expr_checks known (unsigned a) && expr_checks known (unsigned_at choice_level b)) u.checks
            (and_intro (expr_checks known (unsigned a)) (expr_checks known (unsigned_at choice_level b)) v.checks w.checks);
      }

  well_odd : (a : Expr) → IsWell a → IsWell (odd (parenthesize primary_level a))
  well_odd a x = let u = well_placed primary_level a x in record { words = u.words; checks = u.checks }

  well_concatenation : (xs : List (Option HwType)) (es : List Expr) → 1 ≤ length xs → ((x : Option HwType) → In x xs → is_some x ≡ true) → HaveWell xs es → IsWell (concatenation es)
  unfolding HaveWell AllWell
  well_concatenation [] es some typed are = absurd (omega (arith, some))
  well_concatenation (x ∷ xs) [] some typed are = absurd are
  well_concatenation (x ∷ xs) (e ∷ es) some typed are =
      let u = well_exprs e es (all_well (x ∷ xs) (e ∷ es) typed are) in record { words = u.words; checks = u.checks }

  well_repeated : (n : ℕ) (a : Expr) → 1 ≤ n → n < 2 ^ 64 → IsWell a → IsWell (repeated (decimal n) (last a))
  well_repeated n a some small x = record {
    words = (decimal_word n small, x.words);
    checks = and_intro (is_decimal (decimal n) && nat_lt 0 (decimal_number (decimal n))) (expr_checks known a)
        (and_intro (is_decimal (decimal n)) (nat_lt 0 (decimal_number (decimal n))) (is_decimal-decimal n small) (rw (decimal_number-decimal n small) (lt_true 0 n some)))
        x.checks;
  }

  well_selected : (low whole w : ℕ) (a : Expr) → 1 ≤ w → low + w ≤ whole → whole < 2 ^ 64 → IsWell a → (nat_lt w whole ≡ true → IsWide whole a) → IsWell (select_bits low whole w a)
  well_selected low whole w a some within small is wide = go (low == 0) (w == whole) refl refl where
    go : (b c : Bool) → (low == 0) ≡ b → (w == whole) ≡ c → IsWell (cond (b && c) a (select low w a))
    go true true x y = is
    go true false x y =
        well_select low w whole a some within small (wide (lt_true w whole (let apart : (w ≡ whole → ⊥) = (λ e. (let f : (w == whole) ≡ true = eq-eqb w whole e in cc)) in omega (arith, within, apart))))
    go false c x y =
        well_select low w whole a some within small (wide (lt_true w whole (let apart : (low ≡ 0 → ⊥) = (λ e. (let f : (low == 0) ≡ true = eq-eqb low 0 e in cc)) in omega (arith, within, apart))))

  -- the types of a concatenation
  typed_map : (us : List HwType) (x : Option HwType) → In x (map (λ (u : HwType). Some u) us) → is_some x ≡ true
  typed_map [] x here = absurd here
  typed_map (u ∷ us) x (inl same) = ap is_some same
  typed_map (u ∷ us) x (inr here) = typed_map us x here

  filled_concat : (us : List HwType) (w : ℕ) → 1 ≤ w → w ≡ total (map width us) → 1 ≤ length (map (λ (u : HwType). Some u) us)
  filled_concat [] w some sum = absurd (omega (arith, some, sum))
  filled_concat (u ∷ us) w some sum = omega arith

  copies_bound : (n v : ℕ) → 0 < v → 1 ≤ n * v → n * v < 2 ^ 64 → (1 ≤ n) × (n < 2 ^ 64)
  copies_bound n v positive some small = (grind arith, grind arith)

  copies_well : (w n v : ℕ) (a : Expr) → 1 ≤ w → w < 2 ^ 64 → 0 < v → w ≡ n * v → IsWell a → IsWell (repeated (decimal (w / v)) (last a))
  copies_well w n v a some small positive sum x =
      let count : w / v ≡ n = ap (λ k. k / v) sum ∙ mul-div_cancel n positive in
      let bounds = copies_bound n v positive (subst (λ k. 1 ≤ k) sum some) (subst (λ k. k < 2 ^ 64) sum small) in
      subst (λ m. IsWell (repeated (decimal m) (last a))) (sym count) (well_repeated n a bounds.0 bounds.1 x)

  -- the expression of an operation whose operands' are well
  pub built_well : (kind : Kind) (ts : List HwType) (xs : List (Option HwType)) (t : HwType) (k divisor : ℕ) (es : List Expr) → Fits kind ts xs t k
      → is_aggregate_kind kind ≡ false → is_item_kind kind ≡ false → (is_variadic kind ≡ true → 1 ≤ length xs) → 1 ≤ width t → width t < 2 ^ 64
      → ((x : Option HwType) → In x xs → width_of x < 2 ^ 64) → HaveWell xs es → IsDivided kind (width t) divisor → IsCut kind (width t) xs es
      → IsWell (kind_expr kind (width t) (map width_of xs) divisor es)
  unfolding IsDivided IsCut
  built_well (variadic v) ts xs t k divisor es fits whole values filled some small narrow are divided cut = all_variadic (variadic_operator v) t xs es (plain_operator v) (filled refl) fits are
  built_well sub ts xs t k divisor es fits whole values filled some small narrow are divided cut = two_well (unsigned_pair minus) t t xs es fits are (λ a b x y. well_pair minus a b refl x y)
  built_well (division d) ts xs t k divisor es fits whole values filled some small narrow are divided cut =
      two_well (λ a b. division_expr (is_signed_division d) (division_operator d) (width t) divisor a) t t xs es fits are
      (λ a b x y. well_division (is_signed_division d) (division_operator d) (width t) divisor a some small (divided refl) x)
  built_well (shift s) ts xs t k divisor es fits whole values filled some small narrow are divided cut =
      two_well (shift_expr (is_signed_shift s) (shift_operator s)) t t xs es fits are (λ a b x y. either_shift_well (is_signed_shift s) (shift_operator s) a b (plain_shift s) x y)
  built_well (icmp p) ts xs t k divisor es (u, is, one) whole values filled some small narrow are divided cut = two_well (comparison p) u u xs es is are (λ a b x y. well_comparison p a b x y)
  built_well parity ts xs t k divisor es (u, is, one) whole values filled some small narrow are divided cut = one_well (λ a. odd (parenthesize primary_level a)) u xs es is are (λ a e x. well_odd a x)
  built_well (extract low) ts xs t k divisor es (u, is, within) whole values filled some small narrow are divided cut =
      rw is (one_well (select_bits low (width u) (width t)) u xs es is are
      (λ a e x. well_selected low (width u) (width t) a some within (narrow (Some u) (rw is (inl refl))) x (λ less. cut (Some u) a is e less)))
  built_well concat ts xs t k divisor es (us, is, sum) whole values filled some small narrow are divided cut =
      well_concatenation xs es (rw is (filled_concat us (width t) some sum)) (λ x h. typed_map us x (subst (λ ys. In x ys) is h)) are
  built_well replicate ts xs t k divisor es (u, n, is, large, sum) whole values filled some small narrow are divided cut =
      rw is (one_well (λ a. repeated (decimal (width t / width u)) (last a)) u xs es is are
      (λ a e x. copies_well (width t) n (width u) a some small large sum x))
  built_well mux ts xs t k divisor es fits whole values filled some small narrow are divided cut = three_well conditional (int 1) t t xs es fits are (λ a b c x y z. well_conditional a b c x y z)
  built_well (constant z) ts xs t k divisor es fits whole values filled some small narrow are divided cut = well_literal (width t) (number (bits_of_ℤ (width t) z)) false some small
  built_well bitcast ts xs t k divisor es (u, is, same) whole values filled some small narrow are divided cut = one_well (λ a. a) u xs es is are (λ a e x. x)
  built_well wire ts xs t k divisor es fits whole values filled some small narrow are divided cut = one_well (λ a. a) t xs es fits are (λ a e x. x)
  built_well (aggregate_constant ls) ts xs t k divisor es fits whole values filled some small narrow are divided cut = cc
  built_well (on_array a) ts xs t k divisor es fits whole values filled some small narrow are divided cut = cc
  built_well (on_struct s) ts xs t k divisor es fits whole values filled some small narrow are divided cut = cc
  built_well (instance i) ts xs t k divisor es fits whole values filled some small narrow are divided cut = cc
  built_well output ts xs t k divisor es fits whole values filled some small narrow are divided cut = cc
  built_well (register f r) ts xs t k divisor es fits whole values filled some small narrow are divided cut = cc
  built_well async_firreg ts xs t k divisor es fits whole values filled some small narrow are divided cut = cc
