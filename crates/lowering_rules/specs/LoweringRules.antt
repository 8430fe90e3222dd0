-- The rules by which the operations of a design are lowered, with the names of instances' operands and results (CIRCT, HW
-- dialect: `hw-lower-aggregates`).
use Rattle.std.specs.Prelude.{false, true, Option, Some, None}
use Rattle.hw_model.specs.Kinds.{Kind, Instance}
use Rattle.hw_model.specs.Kinds.Kind.{instance}
use Rattle.hw_model.specs.Design.{Op, Module, Design, find_module}
use Rattle.port_checks.specs.InstanceChecks.{port_names}
use Rattle.aggregate_laws.specs.LeafPorts.{split_ports}
use Rattle.aggregate_laws.specs.Rules.{Rules}
use Rattle.aggregate_laws.specs.Aggregates.{aggregate_rules}

-- an instance with the names of the leaves of its module's ports
abbrev pub named_by : Instance → Option Module → Kind
named_by i None = instance i
named_by i (Some c) = instance (record i { inputs = port_names false (split_ports c.ports); outputs = port_names true (split_ports c.ports) })

abbrev pub named_kind : Design → Kind → Kind
named_kind d (instance i) = named_by i (find_module d i.symbol)
named_kind d kind = kind

-- the kind of an operation of a design, with these names
abbrev pub leaf_named : Design → Op → Kind
leaf_named d o = named_kind d o.kind

-- the rules by which the operations of a design are lowered
abbrev pub lowering_rules : Design → Rules
lowering_rules d = aggregate_rules split_ports (leaf_named d)
