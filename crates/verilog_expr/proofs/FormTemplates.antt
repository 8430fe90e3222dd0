-- The expression of an operation, by the template of its kind.
use Rattle.std.proofs.Common.{◌≡◌, ℕ, suc, ◌+◌, ◌-◌, ◌/◌, ◌≤◌, ◌≢◌, Bool, true, false, cond, ◌&&◌, ◌==◌, List, [], ◌∷◌, length, None, decimal, refl, sym, ap, subst, ◌∙◌, arith, ne_eqb}
use Rattle.hw_model.specs.Kinds.{Kind, Predicate, Variadic, Division, Shift}
use Rattle.hw_model.specs.Kinds.Predicate.{eq, ne, slt, sle, sgt, sge, ult, ule, ugt, uge, ceq, cne, weq, wne}
use Rattle.hw_model.specs.Kinds.Kind.{variadic, sub, division, shift, icmp, parity, extract, concat, replicate, mux, constant, bitcast, wire}
use Rattle.verilog_model.specs.Tree as tree
use Rattle.verilog_model.specs.Tree.{Expr}
use Rattle.verilog_model.specs.Tree.Expr.{name, bit_select, part_select, repeated, odd, binary}
use Rattle.verilog_model.specs.Tree.Exprs.{last}
use Rattle.verilog_model.specs.Grammar.{level, strength, primary_level}
use Rattle.verilog_model.specs.Expression.{Context, is_signed, context_of, binary_signed}
use Rattle.verilog_model.specs.Expression.Context.{both_operands, left_operand, no_operand}
use Rattle.verilog_model.specs.Digits.{literal_of}
use Rattle.verilog_expr.specs.Building.{no_expr, parenthesize, unsigned_at, of_one_expr, of_two_exprs, of_three_exprs, unsigned_pair, chain, variadic_expr, signed_pair, unsigned_shift}
use Rattle.verilog_expr.specs.Building.{unsigned_division, signed_division, comparison, select, select_bits, concatenation, conditional, first_width, kind_expr, division_expr, shift_expr}
use Rattle.verilog_expr.specs.Building.{variadic_operator, division_operator, shift_operator, is_signed_division, is_signed_shift}
use Rattle.verilog_expr.specs.Forms.{operator_of, operator_in_code}
use Rattle.verilog_expr.specs.Templates.{chain_template, template_of_count, division_form, shift_form, comparison_form, extract_template, template_for, sole_name, no_name, IsTemplate}
use Rattle.verilog_expr.specs.declared.form.Operator.{Operator}
use Rattle.verilog_expr.specs.declared.form.Operator.TheVariants as signs
use Rattle.verilog_expr.specs.declared.form.Form.{Form}
use Rattle.verilog_expr.specs.declared.form.Form.TheVariants.{Same, Chain, SignedPair, UnsignedShift, UnsignedDivision, SignedDivision, Parity, Braces, Copies, Choice}
use Rattle.verilog_expr.specs.declared.template.Template.TheVariants.{Missing, Select, Operands}
use Rattle.verilog_expr.proofs.Operators.{division_context, shift_context, operator_back}
use Rattle.verilog_expr.proofs.FormTexts.{same_text, chain_text, signed_pair_text, unsigned_shift_text, signed_shift_text, unsigned_division_text, signed_division_text, parity_text, braces_text, copies_text, choice_text}
use Rattle.verilog_expr.specs.Extensions.{is_simple}
use Rattle.verilog_expr.proofs.Simple.{chain_wide, bits_wide}
use Rattle.verilog_expr.proofs.Signed.{select_unsigned, unsigned_at_signed, unsigned_signed}

pub missing_is : (es : List Expr) → IsTemplate no_expr Missing es
missing_is es = record { text = refl; signed = refl; level_is = refl; called = refl; simple = refl }

same_is : (a : Expr) → IsTemplate a (Operands Same) (a ∷ [])
same_is a = record { text = same_text a; signed = refl; level_is = refl; called = refl; simple = refl }

-- ---- signs

binary_not : (o : tree.Operator) (a b : Expr) → is_signed a ≡ false → is_signed (binary o a b) ≡ false
binary_not o a b is = ap (λ s. binary_signed (context_of o) s (is_signed b)) is ∙ go (context_of o)
  where
    go : (c : Context) → binary_signed c false (is_signed b) ≡ false
    go both_operands = refl
    go left_operand = refl
    go no_operand = refl

-- ---- chains

chained_sign : (o : tree.Operator) (a : Expr) (bs : List Expr) → is_signed a ≡ false → is_signed (chain o a bs) ≡ false
chained_sign o a [] is = is
chained_sign o a (b ∷ bs) is = chained_sign o (binary o a (unsigned_at (suc (strength o)) b)) bs (binary_not o a (unsigned_at (suc (strength o)) b) is)

chained_level : (o : tree.Operator) (a b : Expr) (bs : List Expr) → level (chain o (binary o a b) bs) ≡ strength o
chained_level o a b [] = refl
chained_level o a b (c ∷ bs) = chained_level o (binary o a b) (unsigned_at (suc (strength o)) c) bs

chained_name : (o : tree.Operator) (a b : Expr) (bs : List Expr) → sole_name (chain o (binary o a b) bs) ≡ None
chained_name o a b [] = refl
chained_name o a b (c ∷ bs) = chained_name o (binary o a b) (unsigned_at (suc (strength o)) c) bs

chain_is : (o : Operator) (a b : Expr) (bs : List Expr)
    → IsTemplate (chain (operator_of o) (unsigned_at (strength (operator_of o)) a) (b ∷ bs)) (Operands (Chain o)) (a ∷ b ∷ bs)
chain_is o a b bs = record {
  text = chain_text o a (b ∷ bs);
  signed = chained_sign (operator_of o) (unsigned_at (strength (operator_of o)) a) (b ∷ bs) (unsigned_at_signed (strength (operator_of o)) a);
  level_is = chained_level (operator_of o) (unsigned_at (strength (operator_of o)) a) (unsigned_at (suc (strength (operator_of o))) b) bs;
  called = chained_name (operator_of o) (unsigned_at (strength (operator_of o)) a) (unsigned_at (suc (strength (operator_of o))) b) bs;
  simple = chain_wide (operator_of o) (unsigned_at (strength (operator_of o)) a) (unsigned_at (suc (strength (operator_of o))) b) bs;
}

many : (o : Operator) (n : ℕ) → 2 ≤ n → chain_template n o ≡ Operands (Chain o)
many o n some =
    ap (λ b. cond b Missing (cond (n == 1) (Operands Same) (Operands (Chain o)))) (ne_eqb n 0 (λ e. omega (arith, e, some)))
    ∙ ap (λ b. cond b (Operands Same) (Operands (Chain o))) (ne_eqb n 1 (λ e. omega (arith, e, some)))

variadic_is : (o : Operator) (es : List Expr) → IsTemplate (variadic_expr (operator_of o) es) (chain_template (length es) o) es
variadic_is o [] = missing_is []
variadic_is o (a ∷ []) = same_is a
variadic_is o (a ∷ b ∷ bs) = subst (λ r. IsTemplate (variadic_expr (operator_of o) (a ∷ b ∷ bs)) r (a ∷ b ∷ bs)) (sym (many o (suc (suc (length bs))) (omega arith))) (chain_is o a b bs)

-- ---- so many operands

apart : (n m : ℕ) (f : Form) → n ≢ m → template_of_count n m f ≡ Missing
apart n m f other = ap (λ b. cond b (Operands f) Missing) (ne_eqb n m other)

one_is : (f : Form) (g : Expr → Expr) → ((a : Expr) → IsTemplate (g a) (Operands f) (a ∷ [])) → (es : List Expr) → IsTemplate (of_one_expr g es) (template_of_count (length es) 1 f) es
one_is f g h [] = missing_is []
one_is f g h (a ∷ []) = h a
one_is f g h (a ∷ b ∷ es) = subst (λ r. IsTemplate no_expr r (a ∷ b ∷ es)) (sym (apart (suc (suc (length es))) 1 f (λ e. omega (arith, e)))) (missing_is (a ∷ b ∷ es))

two_is : (f : Form) (g : Expr → Expr → Expr) → ((a b : Expr) → IsTemplate (g a b) (Operands f) (a ∷ b ∷ [])) → (es : List Expr)
    → IsTemplate (of_two_exprs g es) (template_of_count (length es) 2 f) es
two_is f g h [] = missing_is []
two_is f g h (a ∷ []) = missing_is (a ∷ [])
two_is f g h (a ∷ b ∷ []) = h a b
two_is f g h (a ∷ b ∷ c ∷ es) =
    subst (λ r. IsTemplate no_expr r (a ∷ b ∷ c ∷ es)) (sym (apart (suc (suc (suc (length es)))) 2 f (λ e. omega (arith, e)))) (missing_is (a ∷ b ∷ c ∷ es))

three_is : (f : Form) (g : Expr → Expr → Expr → Expr) → ((a b c : Expr) → IsTemplate (g a b c) (Operands f) (a ∷ b ∷ c ∷ [])) → (es : List Expr)
    → IsTemplate (of_three_exprs g es) (template_of_count (length es) 3 f) es
three_is f g h [] = missing_is []
three_is f g h (a ∷ []) = missing_is (a ∷ [])
three_is f g h (a ∷ b ∷ []) = missing_is (a ∷ b ∷ [])
three_is f g h (a ∷ b ∷ c ∷ []) = h a b c
three_is f g h (a ∷ b ∷ c ∷ d ∷ es) =
    subst (λ r. IsTemplate no_expr r (a ∷ b ∷ c ∷ d ∷ es)) (sym (apart (suc (suc (suc (suc (length es))))) 3 f (λ e. omega (arith, e)))) (missing_is (a ∷ b ∷ c ∷ d ∷ es))

pair_is : (o : Operator) (a b : Expr) → IsTemplate (unsigned_pair (operator_of o) a b) (Operands (Chain o)) (a ∷ b ∷ [])
pair_is o a b = chain_is o a b []

signed_is : (o : Operator) (a b : Expr) → is_signed (signed_pair (operator_of o) a b) ≡ false → IsTemplate (signed_pair (operator_of o) a b) (Operands (SignedPair o)) (a ∷ b ∷ [])
signed_is o a b sign = record { text = signed_pair_text o a b; signed = sign; level_is = refl; called = refl; simple = refl }

shift_is : (o : Operator) (a b : Expr) → IsTemplate (unsigned_shift (operator_of o) a b) (Operands (UnsignedShift o)) (a ∷ b ∷ [])
shift_is o a b = record {
  text = unsigned_shift_text o a b;
  signed = binary_not (operator_of o) (unsigned_at (strength (operator_of o)) a) (parenthesize (suc (strength (operator_of o))) b) (unsigned_at_signed (strength (operator_of o)) a);
  level_is = refl;
  called = refl;
  simple = refl;
}

division_is : (o : Operator) (w d : ℕ) (a b : Expr) → IsTemplate (unsigned_division (operator_of o) w d a) (Operands (UnsignedDivision o w d)) (a ∷ b ∷ [])
division_is o w d a b = record {
  text = unsigned_division_text o w d a;
  signed = binary_not (operator_of o) (unsigned_at (strength (operator_of o)) a) (literal_of w false d) (unsigned_at_signed (strength (operator_of o)) a);
  level_is = refl;
  called = refl;
  simple = refl;
}

signed_division_is : (o : Operator) (w d : ℕ) (a b : Expr) → is_signed (signed_division (operator_of o) w d a) ≡ true
    → IsTemplate (signed_division (operator_of o) w d a) (Operands (SignedDivision o w d)) (a ∷ b ∷ [])
signed_division_is o w d a b sign = record { text = signed_division_text o w d a; signed = sign; level_is = refl; called = refl; simple = refl }

choice_is : (c a b : Expr) → IsTemplate (conditional c a b) (Operands Choice) (c ∷ a ∷ b ∷ [])
choice_is c a b = record {
  text = choice_text c a b;
  signed = ap (λ s. s && is_signed (unsigned_at 1 b)) (unsigned_signed a);
  level_is = refl;
  called = refl;
  simple = refl;
}

comparison_is : (p : Predicate) (es : List Expr) → IsTemplate (of_two_exprs (comparison p) es) (template_of_count (length es) 2 (comparison_form p)) es
comparison_is eq es = two_is (Chain signs.Equals) (comparison eq) (pair_is signs.Equals) es
comparison_is ne es = two_is (Chain signs.Differs) (comparison ne) (pair_is signs.Differs) es
comparison_is slt es = two_is (SignedPair signs.Below) (comparison slt) (λ a b. signed_is signs.Below a b refl) es
comparison_is sle es = two_is (SignedPair signs.AtMost) (comparison sle) (λ a b. signed_is signs.AtMost a b refl) es
comparison_is sgt es = two_is (SignedPair signs.Above) (comparison sgt) (λ a b. signed_is signs.Above a b refl) es
comparison_is sge es = two_is (SignedPair signs.AtLeast) (comparison sge) (λ a b. signed_is signs.AtLeast a b refl) es
comparison_is ult es = two_is (Chain signs.Below) (comparison ult) (pair_is signs.Below) es
comparison_is ule es = two_is (Chain signs.AtMost) (comparison ule) (pair_is signs.AtMost) es
comparison_is ugt es = two_is (Chain signs.Above) (comparison ugt) (pair_is signs.Above) es
comparison_is uge es = two_is (Chain signs.AtLeast) (comparison uge) (pair_is signs.AtLeast) es
comparison_is ceq es = two_is (Chain signs.Equals) (comparison ceq) (pair_is signs.Equals) es
comparison_is cne es = two_is (Chain signs.Differs) (comparison cne) (pair_is signs.Differs) es
comparison_is weq es = two_is (Chain signs.Equals) (comparison weq) (pair_is signs.Equals) es
comparison_is wne es = two_is (Chain signs.Differs) (comparison wne) (pair_is signs.Differs) es

-- ---- selects

select_level : (low w : ℕ) (a : Expr) → level (select low w a) ≡ 11
select_level low w (name n) = go (w == 1)
  where
    go : (b : Bool) → level (cond b (bit_select n (decimal low)) (part_select n (decimal (low + w - 1)) (decimal low))) ≡ 11
    go true = refl
    go false = refl
select_level low w _ = refl

select_name : (low w : ℕ) (a : Expr) → sole_name (select low w a) ≡ None
select_name low w (name n) = go (w == 1)
  where
    go : (b : Bool) → sole_name (cond b (bit_select n (decimal low)) (part_select n (decimal (low + w - 1)) (decimal low))) ≡ None
    go true = refl
    go false = refl
select_name low w _ = refl

select_simple : (low w : ℕ) (a : Expr) → is_simple (select low w a) ≡ no_name (sole_name a)
select_simple low w (name n) = bits_wide n low w (w == 1)
select_simple low w _ = refl

extract_is : (low w v : ℕ) (es : List Expr) → IsTemplate (of_one_expr (select_bits low v w) es) (extract_template (length es) low w v) es
extract_is low w v [] = missing_is []
extract_is low w v (a ∷ []) = go (low == 0 && w == v)
  where
    go : (b : Bool) → IsTemplate (cond b a (select low w a)) (cond b (Operands Same) (Select low w)) (a ∷ [])
    go true = same_is a
    go false = record { text = refl; signed = select_unsigned low w a; level_is = select_level low w a; called = select_name low w a; simple = select_simple low w a }
extract_is low w v (a ∷ b ∷ es) =
    subst (λ r. IsTemplate no_expr r (a ∷ b ∷ es))
    (sym (ap (λ t. cond t (cond (low == 0 && w == v) (Operands Same) (Select low w)) Missing) (ne_eqb (suc (suc (length es))) 1 (λ e. omega (arith, e))))) (missing_is (a ∷ b ∷ es))

concat_is : (es : List Expr) → IsTemplate (concatenation es) (cond (length es == 0) Missing (Operands Braces)) es
concat_is [] = missing_is []
concat_is (a ∷ rest) =
    subst (λ r. IsTemplate (concatenation (a ∷ rest)) r (a ∷ rest)) (sym (ap (λ t. cond t Missing (Operands Braces)) (ne_eqb (suc (length rest)) 0 (λ e. omega (arith, e)))))
    (record { text = braces_text a rest; signed = refl; level_is = refl; called = refl; simple = refl })

-- ---- families

either_division_is : (b : Bool) (o : Operator) (w d : ℕ) (x y : Expr) → context_of (operator_of o) ≡ both_operands
    → IsTemplate (division_expr b (operator_of o) w d x) (Operands (division_form b o w d)) (x ∷ y ∷ [])
either_division_is false o w d x y is = division_is o w d x y
either_division_is true o w d x y is = signed_division_is o w d x y (ap (λ c. binary_signed c true true) is)

either_shift_is : (b : Bool) (o : Operator) (x y : Expr) → context_of (operator_of o) ≡ left_operand
    → IsTemplate (shift_expr b (operator_of o) x y) (Operands (shift_form b o)) (x ∷ y ∷ [])
either_shift_is false o x y is = shift_is o x y
either_shift_is true o x y is = record {
  text = signed_shift_text o x y;
  signed = ap (λ c. binary_signed c true (is_signed (parenthesize (suc (strength (operator_of o))) y))) is;
  level_is = refl;
  called = refl;
  simple = refl;
}

variadic_template : (v : Variadic) (es : List Expr) → IsTemplate (variadic_expr (variadic_operator v) es) (chain_template (length es) (operator_in_code (variadic_operator v))) es
variadic_template v es =
    subst (λ o. IsTemplate (variadic_expr o es) (chain_template (length es) (operator_in_code (variadic_operator v))) es) (operator_back (variadic_operator v))
    (variadic_is (operator_in_code (variadic_operator v)) es)

division_template : (v : Division) (w d : ℕ) (x y : Expr)
    → IsTemplate (division_expr (is_signed_division v) (division_operator v) w d x) (Operands (division_form (is_signed_division v) (operator_in_code (division_operator v)) w d)) (x ∷ y ∷ [])
division_template v w d x y =
    subst (λ o. IsTemplate (division_expr (is_signed_division v) o w d x) (Operands (division_form (is_signed_division v) (operator_in_code (division_operator v)) w d)) (x ∷ y ∷ []))
    (operator_back (division_operator v))
    (either_division_is (is_signed_division v) (operator_in_code (division_operator v)) w d x y (ap context_of (operator_back (division_operator v)) ∙ division_context v))

shift_template : (v : Shift) (x y : Expr)
    → IsTemplate (shift_expr (is_signed_shift v) (shift_operator v) x y) (Operands (shift_form (is_signed_shift v) (operator_in_code (shift_operator v)))) (x ∷ y ∷ [])
shift_template v x y =
    subst (λ o. IsTemplate (shift_expr (is_signed_shift v) o x y) (Operands (shift_form (is_signed_shift v) (operator_in_code (shift_operator v)))) (x ∷ y ∷ []))
    (operator_back (shift_operator v))
    (either_shift_is (is_signed_shift v) (operator_in_code (shift_operator v)) x y (ap context_of (operator_back (shift_operator v)) ∙ shift_context v))

-- ---- kinds

pub built_is : (kind : Kind) (w : ℕ) (ws : List ℕ) (d : ℕ) (es : List Expr) → IsTemplate (kind_expr kind w ws d es) (template_for kind w (first_width ws) d (length es)) es
built_is (variadic v) w ws d es = variadic_template v es
built_is sub w ws d es = two_is (Chain signs.Minus) (unsigned_pair tree.Operator.minus) (pair_is signs.Minus) es
built_is (division v) w ws d es =
    two_is (division_form (is_signed_division v) (operator_in_code (division_operator v)) w d)
    (λ a b. division_expr (is_signed_division v) (division_operator v) w d a) (division_template v w d) es
built_is (shift v) w ws d es =
    two_is (shift_form (is_signed_shift v) (operator_in_code (shift_operator v))) (shift_expr (is_signed_shift v) (shift_operator v)) (shift_template v) es
built_is (icmp p) w ws d es = comparison_is p es
built_is parity w ws d es = one_is Parity (λ a. odd (parenthesize primary_level a)) (λ a. record { text = parity_text a; signed = refl; level_is = refl; called = refl; simple = refl }) es
built_is (extract low) w ws d es = extract_is low w (first_width ws) es
built_is concat w ws d es = concat_is es
built_is replicate w ws d es =
    one_is (Copies (w / first_width ws)) (λ a. repeated (decimal (w / first_width ws)) (last a))
    (λ a. record { text = copies_text (w / first_width ws) a; signed = refl; level_is = refl; called = refl; simple = refl }) es
built_is mux w ws d es = three_is Choice conditional choice_is es
built_is (constant z) w ws d es = record { text = refl; signed = refl; level_is = refl; called = refl; simple = refl }
built_is bitcast w ws d es = one_is Same (λ a. a) same_is es
built_is wire w ws d es = one_is Same (λ a. a) same_is es
built_is _ w ws d es = missing_is es
