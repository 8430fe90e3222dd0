-- The names of a module's things, as code holds them.
use Rattle.std.specs.Prelude.{◌≡◌, ℕ, List, length, Some, slice_get}
use Rattle.hw_model.specs.Types.{Name}
use Rattle.hw_model.specs.Kinds.{Instance}
use Rattle.hw_model.specs.Design.{Ref, Port, Op, Module, instance_in}
use Rattle.verilog_expr.specs.Named.{named_of}
use Rattle.verilog_expr.specs.declared.value_names.ValueNames.{ValueNames}
use Rattle.export_verilog.specs.Identifiers.{identifier_text, value_name}
use Rattle.export_verilog.specs.Identifiers.Identifier.{port_identifier, instance_identifier}

-- a module's names: those of its ports in order, of values, and the operations' own names, which instances have
pub record AreModuleNames (m : Module) (ports : List Name) (values : ValueNames) (own : List Name) : Type 0 where
  -- the ports' names, in order
  pub many : length ports ≡ length m.ports
  pub ports_are : (j : ℕ) (p : Port) → slice_get m.ports j ≡ Some p → slice_get ports j ≡ Some (identifier_text m (port_identifier j))
  -- the names of values
  pub values_are : (r : Ref) → named_of values r ≡ value_name m r
  -- the operations' own names, which instances have
  pub own_many : length own ≡ length m.body
  pub own_are : (i : ℕ) (o : Op) (x : Instance) → slice_get m.body i ≡ Some o → instance_in o.kind ≡ Some x → slice_get own i ≡ Some (identifier_text m (instance_identifier i))
