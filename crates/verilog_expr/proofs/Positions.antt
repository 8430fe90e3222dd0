-- The positions of operands that ask for unsigned expressions are those of the kinds.
use Rattle.std.proofs.Common.{◌≡◌, ℕ, ◌/◌, Bool, true, false, cond, not, ◌&&◌, ◌==◌, refl, sym, ap, ◌∙◌}
use Rattle.hw_model.specs.Kinds.{Kind, Predicate}
use Rattle.hw_model.specs.Kinds.Predicate.{eq, ne, slt, sle, sgt, sge, ult, ule, ugt, uge, ceq, cne, weq, wne}
use Rattle.hw_model.specs.Kinds.Kind.{variadic, sub, division, shift, icmp, parity, extract, concat, replicate, mux, constant, bitcast, wire}
use Rattle.verilog_expr.specs.Building.{variadic_operator, division_operator, shift_operator, is_signed_division, is_signed_shift}
use Rattle.verilog_expr.specs.Forms.{asks_unsigned, operator_in_code}
use Rattle.verilog_expr.specs.Templates.{chain_template, template_of_count, division_form, shift_form, comparison_form, extract_template, template_for}
use Rattle.verilog_expr.specs.Signs.{is_signed_order, is_unsigned_position}
use Rattle.verilog_expr.specs.declared.form.Operator.{Operator}
use Rattle.verilog_expr.specs.declared.form.Operator.TheVariants as signs
use Rattle.verilog_expr.specs.declared.form.Form.{Form}
use Rattle.verilog_expr.specs.declared.form.Form.TheVariants.{Same, Chain, Parity, Braces, Copies, Choice}
use Rattle.verilog_expr.specs.declared.template.Template.TheVariants.{Missing, Select, Operands}

module _ (f : Form) (i : ℕ) (other : f ≡ Same → ⊥) where
  of_chain : (n : ℕ) (o : Operator) → chain_template n o ≡ Operands f → asks_unsigned f i ≡ true
  of_chain n o is = go (n == 0) (n == 1) is where
    go : (b c : Bool) → cond b Missing (cond c (Operands Same) (Operands (Chain o))) ≡ Operands f → asks_unsigned f i ≡ true
    go true c e = cc
    go false true e = let same : Same ≡ f = cc in absurd (other (sym same))
    go false false e = let same : Chain o ≡ f = cc in ap (λ g. asks_unsigned g i) (sym same)

  of_count : (n m : ℕ) (g : Form) → template_of_count n m g ≡ Operands f → asks_unsigned f i ≡ asks_unsigned g i
  of_count n m g is = go (n == m) is where
    go : (b : Bool) → cond b (Operands g) Missing ≡ Operands f → asks_unsigned f i ≡ asks_unsigned g i
    go true e = let same : g ≡ f = cc in ap (λ h. asks_unsigned h i) (sym same)
    go false e = cc

  of_some : (n : ℕ) (g : Form) → cond (n == 0) Missing (Operands g) ≡ Operands f → asks_unsigned f i ≡ asks_unsigned g i
  of_some n g is = go (n == 0) is where
    go : (b : Bool) → cond b Missing (Operands g) ≡ Operands f → asks_unsigned f i ≡ asks_unsigned g i
    go true e = cc
    go false e = let same : g ≡ f = cc in ap (λ h. asks_unsigned h i) (sym same)

  of_extract : (n low w v : ℕ) → extract_template n low w v ≡ Operands f → asks_unsigned f i ≡ false
  of_extract n low w v is = go (n == 1) (low == 0 && w == v) is where
    go : (b c : Bool) → cond b (cond c (Operands Same) (Select low w)) Missing ≡ Operands f → asks_unsigned f i ≡ false
    go true true e = let same : Same ≡ f = cc in absurd (other (sym same))
    go true false e = cc
    go false c e = cc

  compared : (p : Predicate) → asks_unsigned (comparison_form p) i ≡ not (is_signed_order p)
  compared eq = refl
  compared ne = refl
  compared slt = refl
  compared sle = refl
  compared sgt = refl
  compared sge = refl
  compared ult = refl
  compared ule = refl
  compared ugt = refl
  compared uge = refl
  compared ceq = refl
  compared cne = refl
  compared weq = refl
  compared wne = refl

division_position : (b : Bool) (o : Operator) (w divisor i : ℕ) → asks_unsigned (division_form b o w divisor) i ≡ not b
division_position false o w divisor i = refl
division_position true o w divisor i = refl

shift_position : (b : Bool) (o : Operator) (i : ℕ) → asks_unsigned (shift_form b o) i ≡ (not b && (i == 0))
shift_position false o i = refl
shift_position true o i = refl

pub positions_asked : (kind : Kind) (w v divisor n i : ℕ) (f : Form) → template_for kind w v divisor n ≡ Operands f → (f ≡ Same → ⊥) → asks_unsigned f i ≡ is_unsigned_position kind i
positions_asked (variadic o) w v divisor n i f is other = of_chain f i other n (operator_in_code (variadic_operator o)) is
positions_asked sub w v divisor n i f is other = of_count f i other n 2 (Chain signs.Minus) is
positions_asked (division d) w v divisor n i f is other =
    of_count f i other n 2 (division_form (is_signed_division d) (operator_in_code (division_operator d)) w divisor) is
    ∙ division_position (is_signed_division d) (operator_in_code (division_operator d)) w divisor i
positions_asked (shift s) w v divisor n i f is other =
    of_count f i other n 2 (shift_form (is_signed_shift s) (operator_in_code (shift_operator s))) is
    ∙ shift_position (is_signed_shift s) (operator_in_code (shift_operator s)) i
positions_asked (icmp p) w v divisor n i f is other = of_count f i other n 2 (comparison_form p) is ∙ compared f i other p
positions_asked parity w v divisor n i f is other = of_count f i other n 1 Parity is
positions_asked (extract low) w v divisor n i f is other = of_extract f i other n low w v is
positions_asked concat w v divisor n i f is other = of_some f i other n Braces is
positions_asked replicate w v divisor n i f is other = of_count f i other n 1 (Copies (w / v)) is
positions_asked mux w v divisor n i f is other = of_count f i other n 3 Choice is
positions_asked (constant z) w v divisor n i f is other = cc
positions_asked bitcast w v divisor n i f is other = of_count f i other n 1 Same is
positions_asked wire w v divisor n i f is other = of_count f i other n 1 Same is
positions_asked _ w v divisor n i f is other = cc
