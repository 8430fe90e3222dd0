-- Operands stand under one sign with what stands round them.
use Rattle.std.proofs.Common.{◌≡◌, ℕ, suc, ◌+◌, ◌-◌, Bool, true, false, cond, not, ◌&&◌, ◌==◌, nat_le, ◌⊎◌, List, [], ◌∷◌, length, decimal, refl, ap, ◌∙◌, inl, inr, arith}
use Rattle.wiring.specs.Wiring.{In}
use Rattle.hw_model.specs.Kinds.{Kind, Predicate}
use Rattle.hw_model.specs.Kinds.Predicate.{eq, ne, slt, sle, sgt, sge, ult, ule, ugt, uge, ceq, cne, weq, wne}
use Rattle.hw_model.specs.Kinds.Kind.{variadic, sub, division, shift, icmp, parity, extract, concat, replicate, mux, constant, bitcast, wire}
use Rattle.verilog_model.specs.Tree.{Operator, Expr}
use Rattle.verilog_model.specs.Tree.Operator.{minus}
use Rattle.verilog_model.specs.Tree.Expr.{name, bit_select, part_select, as_signed, as_unsigned, paren, binary}
use Rattle.verilog_model.specs.Grammar.{strength, choice_level, primary_level, level}
use Rattle.verilog_model.specs.Expression.{Context, context_of, binary_signed, is_signed}
use Rattle.verilog_model.specs.Expression.Context.{both_operands, left_operand, no_operand}
use Rattle.verilog_model.proofs.Numerals.{and_intro}
use Rattle.verilog_model.specs.Digits.{literal_of}
use Rattle.verilog_expr.specs.Building.{unsigned, parenthesize, unsigned_at, of_one_expr, of_two_exprs, of_three_exprs, unsigned_pair, chain, variadic_expr, signed_pair, unsigned_division}
use Rattle.verilog_expr.specs.Building.{signed_division, comparison, select, select_bits, exprs_of, concatenation, conditional, kind_expr, division_expr, shift_expr, variadic_operator}
use Rattle.verilog_expr.specs.Building.{division_operator, shift_operator, is_signed_division, is_signed_shift}
use Rattle.verilog_expr.specs.Signs.{alike, signs_kept, keeps_signs, all_keep_signs, is_signed_kind}
use Rattle.verilog_expr.proofs.Operators.{division_context, shift_context}
use Rattle.verilog_expr.proofs.Carried.{IsCarried}
use Rattle.verilog_expr.proofs.Passing.{Passes, built_passes}

abbrev Keep : List Expr → Type 0
Keep es = (e : Expr) → In e es → keeps_signs e ≡ true

-- ---- positions

pub placed_signed : (l : ℕ) (e : Expr) → is_signed (parenthesize l e) ≡ is_signed e
placed_signed l e = go (nat_le l (level e)) where
  go : (b : Bool) → is_signed (cond b e (paren e)) ≡ is_signed e
  go true = refl
  go false = refl

pub unsigned_signed : (e : Expr) → is_signed (unsigned e) ≡ false
unsigned_signed e = go (is_signed e) refl where
  go : (b : Bool) → is_signed e ≡ b → is_signed (cond b (as_unsigned e) e) ≡ false
  go true is = refl
  go false is = is

pub unsigned_at_signed : (l : ℕ) (e : Expr) → is_signed (unsigned_at l e) ≡ false
unsigned_at_signed l e = placed_signed l (unsigned e) ∙ unsigned_signed e

placed_keeps : (l : ℕ) (e : Expr) → keeps_signs e ≡ true → keeps_signs (parenthesize l e) ≡ true
placed_keeps l e h = go (nat_le l (level e)) where
  go : (b : Bool) → keeps_signs (cond b e (paren e)) ≡ true
  go true = h
  go false = h

unsigned_keeps : (e : Expr) → keeps_signs e ≡ true → keeps_signs (unsigned e) ≡ true
unsigned_keeps e h = go (is_signed e) where
  go : (b : Bool) → keeps_signs (cond b (as_unsigned e) e) ≡ true
  go true = h
  go false = h

unsigned_at_keeps : (l : ℕ) (e : Expr) → keeps_signs e ≡ true → keeps_signs (unsigned_at l e) ≡ true
unsigned_at_keeps l e h = placed_keeps l (unsigned e) (unsigned_keeps e h)

-- ---- templates

both_unsigned : (x : Context) → signs_kept x false false ≡ true
both_unsigned both_operands = refl
both_unsigned left_operand = refl
both_unsigned no_operand = refl

both_signed : (x : Context) → signs_kept x true true ≡ true
both_signed both_operands = refl
both_signed left_operand = refl
both_signed no_operand = refl

left_unsigned : (x : Context) (b : Bool) → binary_signed x false b ≡ false
left_unsigned both_operands b = refl
left_unsigned left_operand b = refl
left_unsigned no_operand b = refl

-- an operator between two unsigned operands, and between two signed ones
unsigned_keep : (o : Operator) (a b : Expr) → is_signed a ≡ false → is_signed b ≡ false → keeps_signs a ≡ true → keeps_signs b ≡ true → keeps_signs (binary o a b) ≡ true
unsigned_keep o a b p q first second =
    and_intro (signs_kept (context_of o) (is_signed a) (is_signed b)) (keeps_signs a && keeps_signs b)
    (ap (λ s. signs_kept (context_of o) s (is_signed b)) p ∙ ap (signs_kept (context_of o) false) q ∙ both_unsigned (context_of o))
    (and_intro (keeps_signs a) (keeps_signs b) first second)

signed_keep : (o : Operator) (a b : Expr) → is_signed a ≡ true → is_signed b ≡ true → keeps_signs a ≡ true → keeps_signs b ≡ true → keeps_signs (binary o a b) ≡ true
signed_keep o a b p q first second =
    and_intro (signs_kept (context_of o) (is_signed a) (is_signed b)) (keeps_signs a && keeps_signs b)
    (ap (λ s. signs_kept (context_of o) s (is_signed b)) p ∙ ap (signs_kept (context_of o) true) q ∙ both_signed (context_of o))
    (and_intro (keeps_signs a) (keeps_signs b) first second)

-- a shift, whose amount stands by itself
shift_keeps : (o : Operator) (a b : Expr) → context_of o ≡ left_operand → keeps_signs a ≡ true → keeps_signs b ≡ true → keeps_signs (binary o a b) ≡ true
shift_keeps o a b is first second =
    and_intro (signs_kept (context_of o) (is_signed a) (is_signed b)) (keeps_signs a && keeps_signs b)
    (ap (λ x. signs_kept x (is_signed a) (is_signed b)) is) (and_intro (keeps_signs a) (keeps_signs b) first second)

unsigned_pair_keeps : (o : Operator) (a b : Expr) → keeps_signs a ≡ true → keeps_signs b ≡ true → keeps_signs (unsigned_pair o a b) ≡ true
unsigned_pair_keeps o a b first second =
    unsigned_keep o (unsigned_at (strength o) a) (unsigned_at (suc (strength o)) b) (unsigned_at_signed (strength o) a) (unsigned_at_signed (suc (strength o)) b)
    (unsigned_at_keeps (strength o) a first) (unsigned_at_keeps (suc (strength o)) b second)

signed_pair_keeps : (o : Operator) (a b : Expr) → keeps_signs a ≡ true → keeps_signs b ≡ true → keeps_signs (signed_pair o a b) ≡ true
signed_pair_keeps o a b first second = signed_keep o (as_signed a) (as_signed b) refl refl first second

pair_unsigned : (o : Operator) (a b : Expr) → is_signed a ≡ false → is_signed (binary o a b) ≡ false
pair_unsigned o a b is = ap (λ s. binary_signed (context_of o) s (is_signed b)) is ∙ left_unsigned (context_of o) (is_signed b)

chained_keeps : (o : Operator) (a : Expr) (bs : List Expr) → is_signed a ≡ false → keeps_signs a ≡ true → Keep bs → keeps_signs (chain o a bs) ≡ true
chained_keeps o a [] is first all = first
chained_keeps o a (b ∷ bs) is first all =
    chained_keeps o (binary o a (unsigned_at (suc (strength o)) b)) bs (pair_unsigned o a (unsigned_at (suc (strength o)) b) is)
    (unsigned_keep o a (unsigned_at (suc (strength o)) b) is (unsigned_at_signed (suc (strength o)) b) first (unsigned_at_keeps (suc (strength o)) b (all b (inl refl))))
    (λ e here. all e (inr here))

variadic_keeps : (o : Operator) (es : List Expr) → Keep es → keeps_signs (variadic_expr o es) ≡ true
variadic_keeps o [] all = refl
variadic_keeps o (a ∷ []) all = all a (inl refl)
variadic_keeps o (a ∷ b ∷ bs) all =
    chained_keeps o (unsigned_at (strength o) a) (b ∷ bs) (unsigned_at_signed (strength o) a) (unsigned_at_keeps (strength o) a (all a (inl refl))) (λ e here. all e (inr here))

unsigned_division_keeps : (o : Operator) (w divisor : ℕ) (a : Expr) → keeps_signs a ≡ true → keeps_signs (unsigned_division o w divisor a) ≡ true
unsigned_division_keeps o w divisor a h =
    unsigned_keep o (unsigned_at (strength o) a) (literal_of w false divisor) (unsigned_at_signed (strength o) a) refl (unsigned_at_keeps (strength o) a h) refl

signed_division_keeps : (o : Operator) (w divisor : ℕ) (a : Expr) → keeps_signs a ≡ true → keeps_signs (signed_division o w divisor a) ≡ true
signed_division_keeps o w divisor a h = signed_keep o (as_signed a) (literal_of w true divisor) refl refl h refl

division_keeps : (b : Bool) (o : Operator) (w divisor : ℕ) (a : Expr) → keeps_signs a ≡ true → keeps_signs (division_expr b o w divisor a) ≡ true
division_keeps false o w divisor a h = unsigned_division_keeps o w divisor a h
division_keeps true o w divisor a h = signed_division_keeps o w divisor a h

either_shift_keeps : (s : Bool) (o : Operator) (a b : Expr) → context_of o ≡ left_operand → keeps_signs a ≡ true → keeps_signs b ≡ true → keeps_signs (shift_expr s o a b) ≡ true
either_shift_keeps false o a b is first second =
    shift_keeps o (unsigned_at (strength o) a) (parenthesize (suc (strength o)) b) is (unsigned_at_keeps (strength o) a first) (placed_keeps (suc (strength o)) b second)
either_shift_keeps true o a b is first second = shift_keeps o (as_signed a) (parenthesize (suc (strength o)) b) is first (placed_keeps (suc (strength o)) b second)

select_keeps : (low w : ℕ) (a : Expr) → keeps_signs (select low w a) ≡ true
select_keeps low w (name n) = go (w == 1) where
  go : (b : Bool) → keeps_signs (cond b (bit_select n (decimal low)) (part_select n (decimal (low + w - 1)) (decimal low))) ≡ true
  go true = refl
  go false = refl
select_keeps low w _ = refl

selected_keeps : (low v w : ℕ) (a : Expr) → keeps_signs a ≡ true → keeps_signs (select_bits low v w a) ≡ true
selected_keeps low v w a h = go (low == 0 && w == v) where
  go : (b : Bool) → keeps_signs (cond b a (select low w a)) ≡ true
  go true = h
  go false = select_keeps low w a

parts_keep : (a : Expr) (es : List Expr) → keeps_signs a ≡ true → Keep es → all_keep_signs (exprs_of a es) ≡ true
parts_keep a [] h all = h
parts_keep a (b ∷ es) h all = and_intro (keeps_signs a) (all_keep_signs (exprs_of b es)) h (parts_keep b es (all b (inl refl)) (λ e here. all e (inr here)))

concatenation_keeps : (es : List Expr) → Keep es → keeps_signs (concatenation es) ≡ true
concatenation_keeps [] all = refl
concatenation_keeps (a ∷ es) all = parts_keep a es (all a (inl refl)) (λ e here. all e (inr here))

conditional_keeps : (c a b : Expr) → keeps_signs c ≡ true → keeps_signs a ≡ true → keeps_signs b ≡ true → keeps_signs (conditional c a b) ≡ true
conditional_keeps c a b condition first second =
    and_intro (alike (is_signed (unsigned a)) (is_signed (unsigned_at choice_level b)))
    (keeps_signs (parenthesize (suc choice_level) c) && (keeps_signs (unsigned a) && keeps_signs (unsigned_at choice_level b)))
    (ap (λ s. alike s (is_signed (unsigned_at choice_level b))) (unsigned_signed a) ∙ ap not (unsigned_at_signed choice_level b))
    (and_intro _ _ (placed_keeps (suc choice_level) c condition) (and_intro _ _ (unsigned_keeps a first) (unsigned_at_keeps choice_level b second)))

-- ---- each kind

keeps_signs_pass : Passes keeps_signs
keeps_signs_pass = record {
  none = refl;
  numeral = λ w n. refl;
  chained = variadic_keeps;
  paired = unsigned_pair_keeps;
  signed = signed_pair_keeps;
  divided = division_keeps;
  shifted = λ s a b first second. either_shift_keeps (is_signed_shift s) (shift_operator s) a b (shift_context s) first second;
  counted = λ a h. placed_keeps primary_level a h;
  selected = selected_keeps;
  listed = concatenation_keeps;
  copied = λ w v a h. h;
  chosen = conditional_keeps;
}

pub built_keeps : (kind : Kind) (w : ℕ) (ws : List ℕ) (divisor : ℕ) (es : List Expr) → ((e : Expr) → In e es → keeps_signs e ≡ true) → keeps_signs (kind_expr kind w ws divisor es) ≡ true
built_keeps = built_passes keeps_signs keeps_signs_pass

pub signs_carried : IsCarried keeps_signs
signs_carried = record { none = refl; called = λ n. refl; each = built_keeps }

-- ---- which expressions are signed

chained_unsigned : (o : Operator) (a : Expr) (bs : List Expr) → is_signed a ≡ false → is_signed (chain o a bs) ≡ false
chained_unsigned o a [] is = is
chained_unsigned o a (b ∷ bs) is = chained_unsigned o (binary o a (unsigned_at (suc (strength o)) b)) bs (pair_unsigned o a (unsigned_at (suc (strength o)) b) is)

-- an expression that is not signed, or stands as one of its operands does
abbrev IsPlain : Expr → List Expr → Type 0
IsPlain e es = (is_signed e ≡ false) ⊎ In e es

variadic_plain : (o : Operator) (es : List Expr) → IsPlain (variadic_expr o es) es
variadic_plain o [] = inl refl
variadic_plain o (a ∷ []) = inr (inl refl)
variadic_plain o (a ∷ b ∷ bs) = inl (chained_unsigned o (unsigned_at (strength o) a) (b ∷ bs) (unsigned_at_signed (strength o) a))

one_plain : (f : Expr → Expr) → ((a : Expr) → IsPlain (f a) (a ∷ [])) → (es : List Expr) → IsPlain (of_one_expr f es) es
one_plain f each [] = inl refl
one_plain f each (a ∷ []) = each a
one_plain f each (a ∷ b ∷ es) = inl refl

two_plain : (f : Expr → Expr → Expr) → ((a b : Expr) → is_signed (f a b) ≡ false) → (es : List Expr) → IsPlain (of_two_exprs f es) es
two_plain f each [] = inl refl
two_plain f each (a ∷ []) = inl refl
two_plain f each (a ∷ b ∷ []) = inl (each a b)
two_plain f each (a ∷ b ∷ c ∷ es) = inl refl

three_plain : (f : Expr → Expr → Expr → Expr) → ((a b c : Expr) → is_signed (f a b c) ≡ false) → (es : List Expr) → IsPlain (of_three_exprs f es) es
three_plain f each [] = inl refl
three_plain f each (a ∷ []) = inl refl
three_plain f each (a ∷ b ∷ []) = inl refl
three_plain f each (a ∷ b ∷ c ∷ []) = inl (each a b c)
three_plain f each (a ∷ b ∷ c ∷ d ∷ es) = inl refl

first_unsigned : (o : Operator) (l : ℕ) (a b : Expr) → is_signed (binary o (unsigned_at l a) b) ≡ false
first_unsigned o l a b = pair_unsigned o (unsigned_at l a) b (unsigned_at_signed l a)

comparison_unsigned : (p : Predicate) (a b : Expr) → is_signed (comparison p a b) ≡ false
comparison_unsigned eq a b = refl
comparison_unsigned ne a b = refl
comparison_unsigned slt a b = refl
comparison_unsigned sle a b = refl
comparison_unsigned sgt a b = refl
comparison_unsigned sge a b = refl
comparison_unsigned ult a b = refl
comparison_unsigned ule a b = refl
comparison_unsigned ugt a b = refl
comparison_unsigned uge a b = refl
comparison_unsigned ceq a b = refl
comparison_unsigned cne a b = refl
comparison_unsigned weq a b = refl
comparison_unsigned wne a b = refl

pub select_unsigned : (low w : ℕ) (a : Expr) → is_signed (select low w a) ≡ false
select_unsigned low w (name n) = go (w == 1) where
  go : (b : Bool) → is_signed (cond b (bit_select n (decimal low)) (part_select n (decimal (low + w - 1)) (decimal low))) ≡ false
  go true = refl
  go false = refl
select_unsigned low w _ = refl

selected_plain : (low v w : ℕ) (a : Expr) → IsPlain (select_bits low v w a) (a ∷ [])
selected_plain low v w a = go (low == 0 && w == v) where
  go : (b : Bool) → IsPlain (cond b a (select low w a)) (a ∷ [])
  go true = inr (inl refl)
  go false = inl (select_unsigned low w a)

conditional_unsigned : (c a b : Expr) → is_signed (conditional c a b) ≡ false
conditional_unsigned c a b = ap (λ s. s && is_signed (unsigned_at choice_level b)) (unsigned_signed a)

division_plain : (b : Bool) (o : Operator) (w divisor : ℕ) (a : Expr) → b ≡ false → is_signed (division_expr b o w divisor a) ≡ false
division_plain false o w divisor a is = first_unsigned o (strength o) a (literal_of w false divisor)
division_plain true o w divisor a is = cc

shift_plain : (s : Bool) (o : Operator) (a b : Expr) → s ≡ false → is_signed (shift_expr s o a b) ≡ false
shift_plain false o a b is = first_unsigned o (strength o) a (parenthesize (suc (strength o)) b)
shift_plain true o a b is = cc

built_plain : (kind : Kind) (w : ℕ) (ws : List ℕ) (divisor : ℕ) (es : List Expr) → is_signed_kind kind ≡ false → IsPlain (kind_expr kind w ws divisor es) es
built_plain (variadic v) w ws divisor es is = variadic_plain (variadic_operator v) es
built_plain sub w ws divisor es is = two_plain _ (λ a b. first_unsigned minus 8 a (unsigned_at 9 b)) es
built_plain (division d) w ws divisor es is = two_plain _ (λ a b. division_plain (is_signed_division d) (division_operator d) w divisor a is) es
built_plain (shift s) w ws divisor es is = two_plain _ (λ a b. shift_plain (is_signed_shift s) (shift_operator s) a b is) es
built_plain (icmp p) w ws divisor es is = two_plain _ (comparison_unsigned p) es
built_plain parity w ws divisor es is = one_plain _ (λ a. inl refl) es
built_plain (extract low) w ws divisor es is = one_plain _ (selected_plain low _ w) es
built_plain concat w ws divisor [] is = inl refl
built_plain concat w ws divisor (a ∷ es) is = inl refl
built_plain replicate w ws divisor es is = one_plain _ (λ a. inl refl) es
built_plain mux w ws divisor es is = three_plain _ conditional_unsigned es
built_plain (constant z) w ws divisor es is = inl refl
built_plain bitcast w ws divisor es is = one_plain _ (λ a. inr (inl refl)) es
built_plain wire w ws divisor es is = one_plain _ (λ a. inr (inl refl)) es
built_plain _ w ws divisor es is = inl refl

-- what is signed is of a signed kind, or stands as an operand does
pub signed_only : (kind : Kind) (w : ℕ) (ws : List ℕ) (divisor : ℕ) (es : List Expr) → is_signed (kind_expr kind w ws divisor es) ≡ true
    → (is_signed_kind kind ≡ true) ⊎ In (kind_expr kind w ws divisor es) es
signed_only kind w ws divisor es is = go (is_signed_kind kind) refl where
  later : IsPlain (kind_expr kind w ws divisor es) es → (is_signed_kind kind ≡ true) ⊎ In (kind_expr kind w ws divisor es) es
  later (inl plain) = cc
  later (inr here) = inr here

  go : (b : Bool) → is_signed_kind kind ≡ b → (is_signed_kind kind ≡ true) ⊎ In (kind_expr kind w ws divisor es) es
  go true signed = inl signed
  go false other = later (built_plain kind w ws divisor es other)

two_signed : (f : Expr → Expr → Expr) → ((a b : Expr) → is_signed (f a b) ≡ true) → (es : List Expr) → length es ≡ 2 → is_signed (of_two_exprs f es) ≡ true
two_signed f each [] two = absurd (omega (arith, two))
two_signed f each (a ∷ []) two = absurd (omega (arith, two))
two_signed f each (a ∷ b ∷ []) two = each a b
two_signed f each (a ∷ b ∷ c ∷ es) two = absurd (omega (arith, two))

division_signed : (b : Bool) (o : Operator) (w divisor : ℕ) (a : Expr) → context_of o ≡ both_operands → b ≡ true → is_signed (division_expr b o w divisor a) ≡ true
division_signed true o w divisor a is h = ap (λ x. binary_signed x true true) is
division_signed false o w divisor a is h = cc

shift_signed : (s : Bool) (o : Operator) (a b : Expr) → context_of o ≡ left_operand → s ≡ true → is_signed (shift_expr s o a b) ≡ true
shift_signed true o a b is h = ap (λ x. binary_signed x true (is_signed (parenthesize (suc (strength o)) b))) is
shift_signed false o a b is h = cc

pub signed_kinds : (kind : Kind) (w : ℕ) (ws : List ℕ) (divisor : ℕ) (es : List Expr) → is_signed_kind kind ≡ true → length es ≡ 2 → is_signed (kind_expr kind w ws divisor es) ≡ true
signed_kinds (division d) w ws divisor es is two =
    two_signed _ (λ a b. division_signed (is_signed_division d) (division_operator d) w divisor a (division_context d) is) es two
signed_kinds (shift s) w ws divisor es is two = two_signed _ (λ a b. shift_signed (is_signed_shift s) (shift_operator s) a b (shift_context s) is) es two
signed_kinds _ w ws divisor es is two = cc
