use Rattle.std.proofs.Common.{◌-◌, length, arith}
use Rattle.ir_store.specs.declared.operation.Value.TheVariants.{Port}
use Rattle.body_edits.proofs.MadeParts.{element_here, element_none}
use Rattle.body_edits.proofs.made_parts.element_operand.Goals as goal

pub returns-then-index-count : goal.returns-then-index-count
returns-then-index-count c = λ f. element_here f c.args.index (length c.args.operands.now - 1 - c.args.index) c.args.operands.now (Port 0) (omega arith)

pub returns-else-index-count : goal.returns-else-index-count
returns-else-index-count c = λ f. element_none f c.args.index c.args.operands.now (omega arith)
