use Rattle.std.proofs.Common.{map}
use Rattle.hw_model.specs.TypeViews.{type_of}
use Rattle.hw_interpreter.proofs.Steps.{result_at}
use Rattle.hw_interpreter.proofs.nets.result_ty.Goals as goal

pub returns : goal.returns
returns c = rw (result_at (map type_of c.args.operation.now.results.items) c.args.number, ← c.as_slice.ensures.value) c.type_at.ensures
