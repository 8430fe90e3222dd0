-- The places of operands, by the template of the operation's kind.
use Rattle.std.proofs.Common.{◌≡◌, ℕ, ◌+◌, ◌/◌, ◌⊎◌, Bool, true, false, cond, not, ◌&&◌, ◌||◌, ◌==◌, List, [], ◌∷◌, length, Some, None, refl, sym, ap, ap₂, subst, ◌∙◌, inl, inr}
use Rattle.hw_model.specs.Kinds.{Kind, Predicate, Variadic}
use Rattle.hw_model.specs.Kinds.Predicate.{eq, ne, slt, sle, sgt, sge, ult, ule, ugt, uge, ceq, cne, weq, wne}
use Rattle.hw_model.specs.Kinds.Variadic.{add, mul, and, or, xor}
use Rattle.hw_model.specs.Kinds.Kind.{variadic, sub, division, shift, icmp, parity, extract, concat, replicate, mux, constant, bitcast, wire}
use Rattle.hw_model.specs.Design.{Ref, Port, Op}
use Rattle.verilog_model.specs.Tree.{Expr}
use Rattle.verilog_expr.specs.Building.{variadic_operator, division_operator, shift_operator, is_signed_division, is_signed_shift}
use Rattle.verilog_expr.specs.Extensions.{is_simple, passes_width, compares_unsigned, place_of, is_concat, is_zero_in}
use Rattle.verilog_expr.specs.Expressions.{op_at, value_width, lends, operand_exprs, extended_in}
use Rattle.verilog_expr.specs.Forms.{operator_in_code}
use Rattle.verilog_expr.specs.Places.{form_compares, form_passes, place_in, place_under, placed_exprs, is_braces, alone_in}
use Rattle.verilog_expr.specs.Templates.{chain_template, template_of_count, division_form, shift_form, comparison_form, extract_template, template_for, IsTemplate}
use Rattle.verilog_expr.specs.declared.extending.Extending.{Extending}
use Rattle.verilog_expr.specs.declared.extending.Extending.TheVariants.{Off, Own, Given}
use Rattle.verilog_expr.specs.declared.form.Operator.{Operator}
use Rattle.verilog_expr.specs.declared.form.Operator.TheVariants as signs
use Rattle.verilog_expr.specs.declared.form.Form.{Form}
use Rattle.verilog_expr.specs.declared.form.Form.TheVariants.{Same, Chain, Parity, Braces, Copies, Choice}
use Rattle.verilog_expr.specs.declared.template.Template.{Template}
use Rattle.verilog_expr.specs.declared.template.Template.TheVariants.{Missing, Number, Select, Operands}

-- a form gives its operands the places that a kind does
record HasPlaces (kind : Kind) (f : Form) : Type 0 where
  passes : (i : ℕ) → passes_width kind i ≡ form_passes f i
  compares : compares_unsigned kind ≡ form_compares f

-- ---- the form of a template

chain_form : (n : ℕ) (o : Operator) (f : Form) → chain_template n o ≡ Operands f → (f ≡ Same) ⊎ (f ≡ Chain o)
chain_form n o f is = go (n == 0) (n == 1) is where
  go : (b c : Bool) → cond b Missing (cond c (Operands Same) (Operands (Chain o))) ≡ Operands f → (f ≡ Same) ⊎ (f ≡ Chain o)
  go true c e = cc
  go false true e = let same : Same ≡ f = cc in inl (sym same)
  go false false e = let same : Chain o ≡ f = cc in inr (sym same)

count_form : (n m : ℕ) (g f : Form) → template_of_count n m g ≡ Operands f → f ≡ g
count_form n m g f is = go (n == m) is where
  go : (b : Bool) → cond b (Operands g) Missing ≡ Operands f → f ≡ g
  go true e = let same : g ≡ f = cc in sym same
  go false e = cc

some_form : (n : ℕ) (g f : Form) → cond (n == 0) Missing (Operands g) ≡ Operands f → f ≡ g
some_form n g f is = go (n == 0) is where
  go : (b : Bool) → cond b Missing (Operands g) ≡ Operands f → f ≡ g
  go true e = cc
  go false e = let same : g ≡ f = cc in sym same

extract_form : (n low w v : ℕ) (f : Form) → extract_template n low w v ≡ Operands f → f ≡ Same
extract_form n low w v f is = go (n == 1) (low == 0 && w == v) is where
  go : (b c : Bool) → cond b (cond c (Operands Same) (Select low w)) Missing ≡ Operands f → f ≡ Same
  go true true e = let same : Same ≡ f = cc in sym same
  go true false e = cc
  go false c e = cc

-- ---- places of each kind

moved : (kind : Kind) (f g : Form) → f ≡ g → HasPlaces kind g → HasPlaces kind f
moved kind f g same it = subst (HasPlaces kind) (sym same) it

variadic_places : (v : Variadic) → HasPlaces (variadic v) (Chain (operator_in_code (variadic_operator v)))
variadic_places add = record { passes = λ i. refl; compares = refl }
variadic_places mul = record { passes = λ i. refl; compares = refl }
variadic_places and = record { passes = λ i. refl; compares = refl }
variadic_places or = record { passes = λ i. refl; compares = refl }
variadic_places xor = record { passes = λ i. refl; compares = refl }

division_passes : (b : Bool) (o : Operator) (w d i : ℕ) → (not b && (i == 0)) ≡ form_passes (division_form b o w d) i
division_passes false o w d i = refl
division_passes true o w d i = refl

division_compares : (b : Bool) (o : Operator) (w d : ℕ) → false ≡ form_compares (division_form b o w d)
division_compares false o w d = refl
division_compares true o w d = refl

shift_passes : (b : Bool) (o : Operator) (i : ℕ) → (not b && (i == 0)) ≡ form_passes (shift_form b o) i
shift_passes false o i = refl
shift_passes true o i = refl

shift_compares : (b : Bool) (o : Operator) → false ≡ form_compares (shift_form b o)
shift_compares false o = refl
shift_compares true o = refl

comparison_places : (p : Predicate) → HasPlaces (icmp p) (comparison_form p)
comparison_places eq = record { passes = λ i. refl; compares = refl }
comparison_places ne = record { passes = λ i. refl; compares = refl }
comparison_places slt = record { passes = λ i. refl; compares = refl }
comparison_places sle = record { passes = λ i. refl; compares = refl }
comparison_places sgt = record { passes = λ i. refl; compares = refl }
comparison_places sge = record { passes = λ i. refl; compares = refl }
comparison_places ult = record { passes = λ i. refl; compares = refl }
comparison_places ule = record { passes = λ i. refl; compares = refl }
comparison_places ugt = record { passes = λ i. refl; compares = refl }
comparison_places uge = record { passes = λ i. refl; compares = refl }
comparison_places ceq = record { passes = λ i. refl; compares = refl }
comparison_places cne = record { passes = λ i. refl; compares = refl }
comparison_places weq = record { passes = λ i. refl; compares = refl }
comparison_places wne = record { passes = λ i. refl; compares = refl }

either_form : (v : Variadic) (f : Form) → (f ≡ Same) ⊎ (f ≡ Chain (operator_in_code (variadic_operator v))) → HasPlaces (variadic v) f
either_form v f (inl same) = moved (variadic v) f Same same (record { passes = λ i. refl; compares = refl })
either_form v f (inr same) = moved (variadic v) f (Chain (operator_in_code (variadic_operator v))) same (variadic_places v)

form_places : (kind : Kind) (w v d n : ℕ) (f : Form) → template_for kind w v d n ≡ Operands f → HasPlaces kind f
form_places (variadic o) w v d n f is = either_form o f (chain_form n (operator_in_code (variadic_operator o)) f is)
form_places sub w v d n f is = moved sub f (Chain signs.Minus) (count_form n 2 (Chain signs.Minus) f is) (record { passes = λ i. refl; compares = refl })
form_places (division o) w v d n f is =
    moved (division o) f (division_form (is_signed_division o) (operator_in_code (division_operator o)) w d)
    (count_form n 2 (division_form (is_signed_division o) (operator_in_code (division_operator o)) w d) f is)
    (record {
      passes = division_passes (is_signed_division o) (operator_in_code (division_operator o)) w d;
      compares = division_compares (is_signed_division o) (operator_in_code (division_operator o)) w d;
    })
form_places (shift o) w v d n f is =
    moved (shift o) f (shift_form (is_signed_shift o) (operator_in_code (shift_operator o)))
    (count_form n 2 (shift_form (is_signed_shift o) (operator_in_code (shift_operator o))) f is)
    (record {
      passes = shift_passes (is_signed_shift o) (operator_in_code (shift_operator o));
      compares = shift_compares (is_signed_shift o) (operator_in_code (shift_operator o));
    })
form_places (icmp p) w v d n f is = moved (icmp p) f (comparison_form p) (count_form n 2 (comparison_form p) f is) (comparison_places p)
form_places parity w v d n f is = moved parity f Parity (count_form n 1 Parity f is) (record { passes = λ i. refl; compares = refl })
form_places (extract low) w v d n f is = moved (extract low) f Same (extract_form n low w v f is) (record { passes = λ i. refl; compares = refl })
form_places concat w v d n f is = moved concat f Braces (some_form n Braces f is) (record { passes = λ i. refl; compares = refl })
form_places replicate w v d n f is = moved replicate f (Copies (w / v)) (count_form n 1 (Copies (w / v)) f is) (record { passes = λ i. refl; compares = refl })
form_places mux w v d n f is = moved mux f Choice (count_form n 3 Choice f is) (record { passes = λ i. refl; compares = refl })
form_places (constant z) w v d n f is = cc
form_places bitcast w v d n f is = moved bitcast f Same (count_form n 1 Same f is) (record { passes = λ i. refl; compares = refl })
form_places wire w v d n f is = moved wire f Same (count_form n 1 Same f is) (record { passes = λ i. refl; compares = refl })
form_places _ w v d n f is = cc

place_same : (kind : Kind) (f : Form) → HasPlaces kind f → (x : Extending) (i : ℕ) (l : Bool) → place_of x kind i l ≡ place_in x f i l
place_same kind f it Off i l = refl
place_same kind f it Own i l = ap (λ c. cond (c && l) Given Own) it.compares
place_same kind f it Given i l = ap₂ (λ p c. cond (p || (c && l)) Given Own) (it.passes i) it.compares

-- ---- selects

never : (n m : ℕ) (g : Form) (low u : ℕ) → template_of_count n m g ≡ Select low u → ⊥
never n m g low u is = go (n == m) is where
  go : (b : Bool) → cond b (Operands g) Missing ≡ Select low u → ⊥
  go true e = cc
  go false e = cc

selects_pass : (kind : Kind) (w v d n low u : ℕ) → template_for kind w v d n ≡ Select low u → (x : Extending) (i : ℕ) (l : Bool) → place_of x kind i l ≡ x
selects_pass (extract a) w v d n low u is Off i l = refl
selects_pass (extract a) w v d n low u is Own i l = refl
selects_pass (extract a) w v d n low u is Given i l = refl
selects_pass (variadic o) w v d n low u is x i l = go (n == 0) (n == 1) is where
  go : (b c : Bool) → cond b Missing (cond c (Operands Same) (Operands (Chain (operator_in_code (variadic_operator o))))) ≡ Select low u → place_of x (variadic o) i l ≡ x
  go true c e = cc
  go false true e = cc
  go false false e = cc
selects_pass concat w v d n low u is x i l = go (n == 0) is where
  go : (b : Bool) → cond b Missing (Operands Braces) ≡ Select low u → place_of x concat i l ≡ x
  go true e = cc
  go false e = cc
selects_pass sub w v d n low u is x i l = absurd (never n 2 (Chain signs.Minus) low u is)
selects_pass (division o) w v d n low u is x i l = absurd (never n 2 (division_form (is_signed_division o) (operator_in_code (division_operator o)) w d) low u is)
selects_pass (shift o) w v d n low u is x i l = absurd (never n 2 (shift_form (is_signed_shift o) (operator_in_code (shift_operator o))) low u is)
selects_pass (icmp p) w v d n low u is x i l = absurd (never n 2 (comparison_form p) low u is)
selects_pass parity w v d n low u is x i l = absurd (never n 1 Parity low u is)
selects_pass replicate w v d n low u is x i l = absurd (never n 1 (Copies (w / v)) low u is)
selects_pass mux w v d n low u is x i l = absurd (never n 3 Choice low u is)
selects_pass bitcast w v d n low u is x i l = absurd (never n 1 Same low u is)
selects_pass wire w v d n low u is x i l = absurd (never n 1 Same low u is)
selects_pass _ w v d n low u is x i l = cc

-- ---- operands

module _ (ex : Extending → Ref → Expr) (kind : Kind) (x : Extending) where
  all_placed : (template : Template) → ((i : ℕ) (l : Bool) → place_of x kind i l ≡ place_under x template i l) → (all : List Ref) (i : ℕ) (rs : List Ref)
      → operand_exprs x ex kind all i rs ≡ placed_exprs x ex template all i rs
  all_placed template same all i [] = refl
  all_placed template same all i (r ∷ rs) =
      ap₂ (λ y es. ex y r ∷ es) (same i (lends ex all i)) (all_placed template same all (i + 1) rs)

  pub placed_is : (e : Expr) (template : Template) (w v d n : ℕ) → template_for kind w v d n ≡ template → (all : List Ref) (i : ℕ) (rs : List Ref)
      → IsTemplate e template (operand_exprs x ex kind all i rs) → IsTemplate e template (placed_exprs x ex template all i rs)
  placed_is e Missing w v d n is all i rs it = record { text = it.text; signed = it.signed; level_is = it.level_is; called = it.called; simple = it.simple }
  placed_is e (Number k m) w v d n is all i rs it = record { text = it.text; signed = it.signed; level_is = it.level_is; called = it.called; simple = it.simple }
  placed_is e (Select low u) w v d n is all i rs it =
      subst (IsTemplate e (Select low u)) (all_placed (Select low u) (selects_pass kind w v d n low u is x) all i rs) it
  placed_is e (Operands f) w v d n is all i rs it =
      subst (IsTemplate e (Operands f)) (all_placed (Operands f) (place_same kind f (form_places kind w v d n f is) x) all i rs) it

-- ---- zero extensions

never_braces : (b : Bool) (o : Operator) (w d : ℕ) → false ≡ is_braces (Operands (division_form b o w d))
never_braces false o w d = refl
never_braces true o w d = refl

shift_no_braces : (b : Bool) (o : Operator) → false ≡ is_braces (Operands (shift_form b o))
shift_no_braces false o = refl
shift_no_braces true o = refl

comparison_no_braces : (p : Predicate) → false ≡ is_braces (Operands (comparison_form p))
comparison_no_braces eq = refl
comparison_no_braces ne = refl
comparison_no_braces slt = refl
comparison_no_braces sle = refl
comparison_no_braces sgt = refl
comparison_no_braces sge = refl
comparison_no_braces ult = refl
comparison_no_braces ule = refl
comparison_no_braces ugt = refl
comparison_no_braces uge = refl
comparison_no_braces ceq = refl
comparison_no_braces cne = refl
comparison_no_braces weq = refl
comparison_no_braces wne = refl

extract_no_braces : (low w v : ℕ) → false ≡ is_braces (extract_template 2 low w v)
extract_no_braces low w v = refl

-- of two operands a concatenation alone stands in braces
braces_of_two : (kind : Kind) (w v d : ℕ) → is_concat kind ≡ is_braces (template_for kind w v d 2)
braces_of_two (variadic o) w v d = refl
braces_of_two sub w v d = refl
braces_of_two (division o) w v d = never_braces (is_signed_division o) (operator_in_code (division_operator o)) w d
braces_of_two (shift o) w v d = shift_no_braces (is_signed_shift o) (operator_in_code (shift_operator o))
braces_of_two (icmp p) w v d = comparison_no_braces p
braces_of_two parity w v d = refl
braces_of_two (extract low) w v d = extract_no_braces low w v
braces_of_two concat w v d = refl
braces_of_two replicate w v d = refl
braces_of_two mux w v d = refl
braces_of_two (constant z) w v d = refl
braces_of_two bitcast w v d = refl
braces_of_two wire w v d = refl
braces_of_two _ w v d = refl

pub alone_same : (ports : List Port) (os : List Op) (ex : Extending → Ref → Expr) (kind : Kind) (template : Template) (w v d n : ℕ) (rs : List Ref)
    → template_for kind w v d n ≡ template → n ≡ length rs → extended_in ports os ex kind rs ≡ alone_in ports os ex template rs
alone_same ports os ex kind template w v d n [] is many = refl
alone_same ports os ex kind template w v d n (a ∷ []) is many = refl
alone_same ports os ex kind template w v d n (a ∷ b ∷ c ∷ rs) is many = refl
alone_same ports os ex kind template w v d n (a ∷ b ∷ []) is many =
    ap (λ c. cond (c && (is_zero_in (op_at os a) (value_width ports os a) && is_simple (ex Off b))) (Some (ex Off b)) None)
    (braces_of_two kind w v d ∙ ap is_braces (ap (template_for kind w v d) (sym many) ∙ is))

pub alone_missing : (ports : List Port) (os : List Op) (ex : Extending → Ref → Expr) (rs : List Ref) → alone_in ports os ex Missing rs ≡ None
alone_missing ports os ex [] = refl
alone_missing ports os ex (a ∷ []) = refl
alone_missing ports os ex (a ∷ b ∷ []) = refl
alone_missing ports os ex (a ∷ b ∷ c ∷ rs) = refl
