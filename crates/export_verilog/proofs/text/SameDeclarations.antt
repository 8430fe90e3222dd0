-- The declarations of an operation, by names that code holds, are those of its module.
use Rattle.std.proofs.Common.{◌≡◌, ℕ, suc, ◌+◌, List, [], ◌∷◌, length, slice_get, Some, refl, sym, ◌∙◌, ap, ap₂, add-one, add-zero, add-suc, suc-add, zero-add, option_and_then, option_map}
use Rattle.hw_model.specs.Types.{width}
use Rattle.hw_model.specs.Design.{Ref, OpResult, Op, result_type}
use Rattle.hw_model.specs.Design.Ref.{result}
use Rattle.hw_model.specs.Flat.{width_of}
use Rattle.verilog_model.specs.Tree.Item.{wire, reg}
use Rattle.verilog_model.specs.Digits.{high_of}
use Rattle.verilog_expr.specs.Expressions.{value_width}
use Rattle.verilog_expr.specs.Scopes.{scope_ports, scope_ops}
use Rattle.verilog_expr.specs.Named.{named_of}
use Rattle.verilog_expr.specs.declared.scope.Scope.{Scope}
use Rattle.verilog_expr.specs.declared.value_names.ValueNames.{ValueNames}
use Rattle.export_verilog.specs.Identifiers.{Emission, name_or_nothing, value_name, identifier_text}
use Rattle.export_verilog.specs.Identifiers.Identifier.{value_identifier}
use Rattle.export_verilog.specs.Identifiers.Emission.{inline, as_wire, as_reg, as_instance}
use Rattle.export_verilog.specs.Exported.{result_wires, declared_as}
use Rattle.export_verilog.specs.ScopeModules.{scope_module}
use Rattle.export_verilog.specs.Values.{value_wire, value_variable, value_wires, declared_items}

module _ (s : Scope) (v : ValueNames) (i : ℕ) (o : Op) (there : slice_get (scope_ops s) i ≡ Some o) (values : (r : Ref) → named_of v r ≡ value_name (scope_module s) r) where
  width_at : (k : ℕ) → value_width (scope_ports s) (scope_ops s) (result i k) ≡ width_of (result_type o k)
  width_at k = ap (λ x. width_of (option_and_then (λ (p : Op). result_type p k) x)) there

  name_at : (k : ℕ) → name_or_nothing (named_of v (result i k)) ≡ identifier_text (scope_module s) (value_identifier i k)
  name_at k = ap name_or_nothing (values (result i k))

  wire_same : (k : ℕ) → value_wire s v (result i k) ≡ wire (high_of (width_of (result_type o k))) (identifier_text (scope_module s) (value_identifier i k))
  wire_same k = ap₂ (λ w n. wire (high_of w) n) (width_at k) (name_at k)

  variable_same : (k : ℕ) → value_variable s v (result i k) ≡ reg (high_of (width_of (result_type o k))) (identifier_text (scope_module s) (value_identifier i k))
  variable_same k = ap₂ (λ w n. reg (high_of w) n) (width_at k) (name_at k)

  wires_from : (k : ℕ) (rs : List OpResult) → ((j : ℕ) → slice_get o.results (k + j) ≡ slice_get rs j) → value_wires s v i k (length rs) ≡ result_wires (scope_module s) i k rs
  wires_from k [] at = refl
  wires_from k (r ∷ rs) at =
      let type : result_type o k ≡ Some r.type = ap (option_map (λ (x : OpResult). x.type)) (ap (slice_get o.results) (sym (add-zero k)) ∙ at 0) in
      ap (λ x. x ∷ value_wires s v i (k + 1) (length rs)) (wire_same k ∙ ap (λ t. wire (high_of (width_of t)) (identifier_text (scope_module s) (value_identifier i k))) type)
      ∙ ap (λ l. wire (high_of (width r.type)) (identifier_text (scope_module s) (value_identifier i k)) ∷ l)
      (ap (λ n. value_wires s v i n (length rs)) (add-one k) ∙ wires_from (suc k) rs (λ j. ap (slice_get o.results) (suc-add k j ∙ sym (add-suc k j)) ∙ at (suc j)))

  -- the declarations of an operation of a role
  pub declared_same : (r : Emission) → declared_items s v i (length o.results) r ≡ declared_as (scope_module s) i o r
  declared_same inline = refl
  declared_same as_wire = ap (λ x. x ∷ []) (wire_same 0)
  declared_same as_reg = ap (λ x. x ∷ []) (variable_same 0)
  declared_same as_instance = wires_from 0 o.results (λ j. ap (slice_get o.results) (zero-add j))
