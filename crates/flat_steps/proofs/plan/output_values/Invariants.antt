use Rattle.std.proofs.Common.{◌≡◌, drop}
use Rattle.hw_model.specs.Design.{output_refs}
use Rattle.ir_store.specs.Bodies.{ops_of}
use Rattle.ir_store.specs.Numbered.{ops_by_position}
use Rattle.flat_steps.proofs.plan.output_values.Given as goal

abbrev pub invariant-loop-position : goal.invariant-loop-position
invariant-loop-position l = output_refs (ops_by_position (ops_of l.ops.body.now)) ≡ output_refs (drop l.position (ops_by_position (ops_of l.ops.body.now)))
