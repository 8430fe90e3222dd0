-- The statements of an operation, by names that code holds, are those of its module.
use Rattle.std.proofs.Common.{◌≡◌, ℕ, suc, [], ◌∷◌, Option, Some, None, refl, ◌∙◌, ap, ap₂}
use Rattle.hw_model.specs.Types.{Name}
use Rattle.hw_model.specs.Design.{Ref, Op, Design}
use Rattle.hw_model.specs.Design.Ref.{result}
use Rattle.hw_model.specs.Flat.{Register, ResetBy, register_in, async_reset_in}
use Rattle.verilog_model.specs.Tree.{Expr}
use Rattle.verilog_model.specs.Tree.Block.{load, if_load, if_else, if_else_if, async_reset}
use Rattle.verilog_model.specs.Tree.Item.{assign, always}
use Rattle.verilog_expr.specs.Expressions.{own_expr}
use Rattle.verilog_expr.specs.Spilling.{height_limit}
use Rattle.verilog_expr.specs.Scopes.{scope_ports, scope_ops}
use Rattle.verilog_expr.specs.Named.{named_of}
use Rattle.verilog_expr.specs.declared.scope.Scope.{Scope}
use Rattle.verilog_expr.specs.declared.value_names.ValueNames.{ValueNames}
use Rattle.verilog_expr.specs.declared.extending.Extending.{Extending}
use Rattle.lowering_options.specs.declared.lowering.Lowering.{Lowering}
use Rattle.export_verilog.specs.Lowerings.{load_place, own_place}
use Rattle.export_verilog.specs.Identifiers.{name_or_nothing, value_name, identifier_text}
use Rattle.export_verilog.specs.Identifiers.Identifier.{value_identifier}
use Rattle.export_verilog.specs.Identifiers.Emission.{as_wire, as_reg}
use Rattle.export_verilog.specs.Exported.{expression, assigned_expr, loads, block_of, register_block, always_of, stated_as}
use Rattle.export_verilog.specs.ScopeModules.{scope_module}
use Rattle.export_verilog.specs.Statements.{register_items}
use Rattle.export_verilog.specs.Values.{value_expr, value_literal}
use Rattle.export_verilog.proofs.names.SameNames.{expr_same, own_same}

block_same : (ax ay : Ref → Expr) → ((r : Ref) → ax r ≡ ay r) → (ex ey : Ref → Expr) → ((r : Ref) → ex r ≡ ey r) → (q : Name) (next : Ref) (en : Option Ref) (by : Option ResetBy)
    → block_of ax ex q next en by ≡ block_of ay ey q next en by
block_same ax ay asked ex ey same q next None None = ap (λ x. load (loads q x)) (same next)
block_same ax ay asked ex ey same q next (Some en) None = ap₂ (λ x y. if_load y (loads q x)) (same next) (asked en)
block_same ax ay asked ex ey same q next None (Some by) =
    ap₂ (λ x y. if_else y (loads q (ex by.value)) (loads q x)) (same next) (asked by.signal)
    ∙ ap (λ x. if_else (ay by.signal) (loads q x) (loads q (ey next))) (same by.value)
block_same ax ay asked ex ey same q next (Some en) (Some by) =
    ap₂ (λ x y. if_else_if y (loads q (ex by.value)) (ax en) (loads q x)) (same next) (asked by.signal)
    ∙ ap₂ (λ x y. if_else_if (ay by.signal) (loads q x) y (loads q (ey next))) (same by.value) (asked en)

register_block_same : (f g : Ref → Option Name) → ((r : Ref) → f r ≡ g r) → (bx by ex ey : Ref → Expr) → ((r : Ref) → bx r ≡ by r) → ((r : Ref) → ex r ≡ ey r) → (literal : Ref → Expr) (q : Name)
    (r : Register) (a : Option ResetBy) → register_block f bx ex literal q r a ≡ register_block g by ey literal q r a
register_block_same f g names bx by ex ey asked same literal q r None = block_same bx by asked ex ey same q r.next r.enable r.reset
register_block_same f g names bx by ex ey asked same literal q r (Some b) = ap₂ (λ n x. async_reset (name_or_nothing n) (loads q (literal b.value)) (loads q x)) (names b.signal) (same r.next)

module _ (via : Lowering) (s : Scope) (v : ValueNames) (values : (r : Ref) → named_of v r ≡ value_name (scope_module s) r) where
  -- where a value is used
  pub used_same : (x : Extending) (r : Ref) → value_expr s v x r ≡ expression (scope_module s) x r
  used_same x r = expr_same (named_of v) (value_name (scope_module s)) (scope_ports s) (scope_ops s) values (suc height_limit) x r

  -- what is assigned to a value's own name
  pub assigned_same : (r : Ref) → own_expr (named_of v) (scope_ports s) (scope_ops s) (value_expr s v) (load_place via) r ≡ assigned_expr via (scope_module s) r
  assigned_same r = own_same (named_of v) (value_name (scope_module s)) (scope_ports s) (scope_ops s) (value_expr s v) (expression (scope_module s)) used_same (load_place via) r

  -- the statement of a register
  pub register_same : (q : Name) (a : Option ResetBy) (r : Option Register) → register_items (named_of v) (value_expr s v (own_place via)) (value_expr s v (load_place via)) (value_literal s) q a r ≡ always_of via (scope_module s) q a r
  register_same q a None = refl
  register_same q a (Some r) =
      ap₂ (λ n b. always (name_or_nothing n) b ∷ []) (values r.clock)
      (register_block_same (named_of v) (value_name (scope_module s)) values (value_expr s v (own_place via)) (expression (scope_module s) (own_place via))
      (value_expr s v (load_place via)) (expression (scope_module s) (load_place via)) (used_same (own_place via)) (used_same (load_place via)) (value_literal s) q r a)

  -- what is stated for an operation at a position
  module _ (d : Design) (i j : ℕ) (o : Op) (position : j ≡ i) where
    own_name : name_or_nothing (named_of v (result j 0)) ≡ identifier_text (scope_module s) (value_identifier i 0)
    own_name = ap (λ n. name_or_nothing (named_of v (result n 0))) position ∙ ap name_or_nothing (values (result i 0))

    pub net_same : assign (name_or_nothing (named_of v (result j 0))) (own_expr (named_of v) (scope_ports s) (scope_ops s) (value_expr s v) (load_place via) (result j 0)) ∷ []
        ≡ stated_as via d (scope_module s) i o as_wire
    net_same =
        ap₂ (λ n e. assign n e ∷ []) own_name
        (ap (λ n. own_expr (named_of v) (scope_ports s) (scope_ops s) (value_expr s v) (load_place via) (result n 0)) position ∙ assigned_same (result i 0))

    pub variable_same : (q : Name) → q ≡ name_or_nothing (named_of v (result j 0)) → register_items (named_of v) (value_expr s v (own_place via)) (value_expr s v (load_place via))
        (value_literal s) q (async_reset_in o) (register_in o) ≡ stated_as via d (scope_module s) i o as_reg
    variable_same q is = register_same q (async_reset_in o) (register_in o) ∙ ap (λ n. always_of via (scope_module s) n (async_reset_in o) (register_in o)) (is ∙ own_name)
