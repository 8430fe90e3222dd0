-- The text of a form, operand by operand.
use Rattle.std.proofs.Common.{◌≡◌, ℕ, ◌+◌, Bool, List, [], ◌∷◌, ◌++◌, map, drop, refl, sym, ap, ◌∙◌}
use Rattle.ir_store.specs.declared.operation.Value.{Value}
use Rattle.verilog_model.specs.Text.{expr_text}
use Rattle.verilog_expr.specs.Expressions.{lends}
use Rattle.verilog_expr.specs.Places.{place_in}
use Rattle.verilog_expr.specs.Scopes.{scope_ref}
use Rattle.verilog_expr.specs.Forms.{asks_unsigned, asks_level, in_position, before, operand_text, form_text}
use Rattle.verilog_expr.specs.ExprNode.{expr_at, exprs_to, shown_at}
use Rattle.verilog_expr.specs.declared.extending.Extending.{Extending}
use Rattle.verilog_expr.specs.declared.form.Form.{Form}
use Rattle.verilog_expr.specs.declared.scope.Scope.{Scope}
use Rattle.verilog_expr.specs.declared.value_names.ValueNames.{ValueNames}
use Rattle.wiring.proofs.Joined.{three_added}

module _ (s : Scope) (v : ValueNames) (n : ℕ) (x : Extending) (f : Form) (all : List Value) (i : ℕ) where
  abbrev rest : List ℕ
  rest = form_text f (i + 1) (shown_at s v n x f all (i + 1) (drop (i + 1) all))

  -- the text of an operand in its place
  placed_text : (y : Value) (p : Extending) (u : Bool) (l : ℕ) → p ≡ place_in x f i (lends (exprs_to s v n) (map (scope_ref s) all) i) → u ≡ asks_unsigned f i → l ≡ asks_level f i
      → expr_text (in_position u l (expr_at s v n p y)) [] ≡ operand_text f i (expr_at s v n (place_in x f i (lends (exprs_to s v n) (map (scope_ref s) all) i)) y)
  placed_text y p u l placed asked bound =
      ap (λ b. expr_text (in_position b l (expr_at s v n p y)) []) asked
      ∙ ap (λ k. expr_text (in_position (asks_unsigned f i) k (expr_at s v n p y)) []) bound
      ∙ ap (λ z. operand_text f i (expr_at s v n z y)) placed

  -- once an operand is written, what is left is the text of those after it
  pub form_step : (y : Value) (p : Extending) (u : Bool) (l : ℕ) (out one two whole : List ℕ) → drop i all ≡ y ∷ drop (i + 1) all
      → p ≡ place_in x f i (lends (exprs_to s v n) (map (scope_ref s) all) i) → u ≡ asks_unsigned f i → l ≡ asks_level f i
      → out ++ form_text f i (shown_at s v n x f all i (drop i all)) ≡ whole → one ≡ out ++ before f i
      → two ≡ one ++ expr_text (in_position u l (expr_at s v n p y)) [] → two ++ rest ≡ whole
  form_step y p u l out one two whole at placed asked bound is first second =
      three_added out one two (two ++ rest) (before f i) (expr_text (in_position u l (expr_at s v n p y)) []) rest first second refl
      ∙ ap (λ b. out ++ (before f i ++ (b ++ rest))) (placed_text y p u l placed asked bound)
      ∙ sym (ap (λ ys. out ++ form_text f i (shown_at s v n x f all i ys)) at)
      ∙ is
