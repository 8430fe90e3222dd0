-- The operations of a body, each with the types that it settles.
use Rattle.std.specs.Prelude.{◌≡◌, List, length, map, Option}
use Rattle.hw_model.specs.Types.{HwType}
use Rattle.ir_store.specs.BodyOps.{BodyOp}
use Rattle.ir_store.specs.Bodies.{read_op}
use Rattle.type_inference.specs.ResultTypes.{result_types}
use Rattle.op_verifier.specs.declared.entries.Entry.{Entry}
use Rattle.op_verifier.specs.SettledViews.{types_settled}

-- the operation of an entry, and the types that stand beside it
abbrev pub op_in : Entry → BodyOp
op_in e = read_op e.id e.op

abbrev pub types_beside : Entry → List (Option HwType)
types_beside e = types_settled e.settled

-- the types that an operation of a body settles
abbrev pub settled_for : BodyOp → List (Option HwType)
settled_for o = result_types o.parts.kind o.parts.types (length o.operands)

-- beside each operation stand the types that it settles
abbrev pub AreSettled : List Entry → Type 0
AreSettled es = map types_beside es ≡ map settled_for (map op_in es)
