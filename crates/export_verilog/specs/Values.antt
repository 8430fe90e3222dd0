-- The values of a body as they are written, by the names that code holds.
use Rattle.std.specs.Prelude.{ℕ, zero, suc, ◌+◌, List, [], ◌∷◌}
use Rattle.hw_model.specs.Design.{Ref}
use Rattle.hw_model.specs.Design.Ref.{result}
use Rattle.hw_model.specs.Flat.{ResetBy}
use Rattle.verilog_model.specs.Tree.{Expr, Item}
use Rattle.verilog_model.specs.Tree.Item.{wire, reg}
use Rattle.verilog_model.specs.Digits.{high_of}
use Rattle.verilog_expr.specs.Expressions.{value_width, expr_to, own_expr, constant_expr}
use Rattle.verilog_expr.specs.Spilling.{height_limit}
use Rattle.verilog_model.specs.Text.{expr_text}
use Rattle.verilog_expr.specs.Scopes.{scope_ports, scope_ops}
use Rattle.verilog_expr.specs.Named.{named_of}
use Rattle.verilog_expr.specs.declared.scope.Scope.{Scope}
use Rattle.verilog_expr.specs.declared.value_names.ValueNames.{ValueNames}
use Rattle.verilog_expr.specs.declared.extending.Extending.{Extending}
use Rattle.lowering_options.specs.declared.lowering.Lowering.{Lowering}
use Rattle.export_verilog.specs.Lowerings.{load_place, own_place}
use Rattle.export_verilog.specs.Identifiers.{Emission, name_or_nothing}
use Rattle.export_verilog.specs.Identifiers.Emission.{inline, as_wire, as_reg, as_instance}
use Rattle.export_verilog.specs.Layout.{Text}
use Rattle.export_verilog.specs.Written.{WrittenReset}

-- the expression of a value
abbrev pub value_expr : Scope → ValueNames → Extending → Ref → Expr
value_expr s v x r = expr_to (named_of v) (scope_ports s) (scope_ops s) (suc height_limit) x r

-- the text of the expression of a value where it is used
abbrev pub used_text : Scope → ValueNames → Extending → Ref → Text
used_text s v x r = expr_text (value_expr s v x r) []

-- what is assigned to a value's own name
abbrev pub defined_text : Scope → ValueNames → Extending → Ref → Text
defined_text s v x r = expr_text (own_expr (named_of v) (scope_ports s) (scope_ops s) (value_expr s v) x r) []

-- the literal of the constant that a value is
abbrev pub value_literal : Scope → Ref → Expr
value_literal s r = constant_expr (scope_ports s) (scope_ops s) r

abbrev pub literal_text : Scope → Ref → Text
literal_text s r = expr_text (value_literal s r) []

-- a reset whose parts are written
abbrev pub reset_text : Lowering → Scope → ValueNames → ResetBy → WrittenReset
reset_text l s v r = record { signal = used_text s v (own_place l) r.signal; value = used_text s v (load_place l) r.value }

-- an asynchronous reset, whose signal is written by its name and whose value by its literal
abbrev pub async_text : Scope → ValueNames → ResetBy → WrittenReset
async_text s v r = record { signal = name_or_nothing (named_of v r.signal); value = literal_text s r.value }

-- ---- declarations

-- the declaration of the wire of a value (IEEE 1364-2005, 3.2.1: net declarations)
abbrev pub value_wire : Scope → ValueNames → Ref → Item
value_wire s v r = wire (high_of (value_width (scope_ports s) (scope_ops s) r)) (name_or_nothing (named_of v r))

-- that of the variable of a value (3.2.2: variable declarations)
abbrev pub value_variable : Scope → ValueNames → Ref → Item
value_variable s v r = reg (high_of (value_width (scope_ports s) (scope_ops s) r)) (name_or_nothing (named_of v r))

-- the wires of so many results of operation i, from the k-th on
abbrev pub value_wires : Scope → ValueNames → ℕ → ℕ → ℕ → List Item
value_wires s v i k zero = []
value_wires s v i k (suc n) = value_wire s v (result i k) ∷ value_wires s v i (k + 1) n

-- the declarations of operation i, which has so many results
abbrev pub declared_items : Scope → ValueNames → ℕ → ℕ → Emission → List Item
declared_items s v i n inline = []
declared_items s v i n as_wire = value_wire s v (result i 0) ∷ []
declared_items s v i n as_reg = value_variable s v (result i 0) ∷ []
declared_items s v i n as_instance = value_wires s v i 0 n
