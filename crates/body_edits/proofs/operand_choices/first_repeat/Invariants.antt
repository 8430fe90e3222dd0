use Rattle.std.proofs.Common.{◌≡◌, drop}
use Rattle.std.specs.Prelude.{option_map}
use Rattle.ir_store.specs.BodyOps.{same_value}
use Rattle.body_edits.specs.OperandEdits.{first_repeat}
use Rattle.body_edits.proofs.Repeats.{further}
use Rattle.body_edits.proofs.operand_choices.first_repeat.Given as goal

abbrev pub invariant-loop-first : goal.invariant-loop-first
invariant-loop-first l = first_repeat same_value l.site.op.operands.now ≡ option_map (further l.first) (first_repeat same_value (drop l.first l.site.op.operands.now))
