-- The designs that the code's designs stand for.
use Rattle.std.specs.Prelude.{false, [], List, map}
use Rattle.hw_model.specs.TypeViews.{type_of}
use Rattle.hw_model.specs.KindViews.{kind_of}
use Rattle.hw_model.specs.Types.{HwType}
use Rattle.hw_model.specs.Design.{Ref, Port as HwPort, OpResult as HwResult, Op, Module as HwModule, Design, no_location}
use Rattle.hw_model.specs.Design.Ref.{port, result, undefined}
use Rattle.hw_interpreter.specs.declared.design.Operand.{Operand}
use Rattle.hw_interpreter.specs.declared.design.Operand.TheVariants as operands
use Rattle.hw_interpreter.specs.declared.design.Port.{Port}
use Rattle.hw_interpreter.specs.declared.design.Operation.{Operation}
use Rattle.hw_interpreter.specs.declared.design.Module.{Module}

abbrev pub ref_of : Operand → Ref
ref_of (operands.Port j) = port j
ref_of (operands.OpResult i k) = result i k
ref_of operands.Undefined = undefined

abbrev pub port_of : Port → HwPort
port_of p = record { name = p.name; is_output = p.is_output; type = type_of p.ty; again = false }

abbrev pub result_of : HwType → HwResult
result_of t = record { type = t; again = false }

abbrev pub op_of : Operation → Op
op_of o = record {
  kind = kind_of o.kind;
  operands = map ref_of o.operands.items;
  types = map type_of o.types.items;
  results = map result_of (map type_of o.results.items);
  named = 0;
  name = [];
  dictionary = [];
  bin = false;
  location = no_location;
}

abbrev pub module_of : Module → HwModule
module_of m = record {
  symbol = m.symbol;
  is_private = m.is_private;
  ports = map port_of m.ports.items;
  dictionary = [];
  body = map op_of m.body.items;
  location = no_location;
}

abbrev pub design_of : List Module → Design
design_of = map module_of
