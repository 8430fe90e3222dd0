-- Operations that are made one after another.
use Rattle.std.specs.Prelude.{List, map}
use Rattle.hw_model.specs.KindViews.{kind_of}
use Rattle.hw_model.specs.TypeViews.{type_of}
use Rattle.hw_model.specs.Design.{Op}
use Rattle.ir_store.specs.OperationViews.{types_in}
use Rattle.ir_store.specs.declared.operation.NewOp.{NewOp}
use Rattle.aggregate_laws.specs.OperationRules.{made_op}
use Rattle.lowering_rules.specs.declared.made_ops.Recipe.{Recipe}
use Rattle.lowering_rules.specs.Reading.{new_refs, new_seen}

-- the operation that a recipe makes for another one
abbrev pub recipe_op : Op → Recipe → Op
recipe_op o r = made_op o (kind_of r.kind) (new_refs r.operands.now) (types_in r.types) r.name (type_of r.ty)

-- operations that are made
unfoldable pub made_in : List NewOp → List Op
made_in new = map new_seen new
