use Rattle.std.proofs.Common.{◌+◌, ◌*◌}
use Rattle.verilog_interpreter.proofs.cursor.Cursor.+expression.Given as goal

abbrev pub decreases-primary : goal.decreases-primary
decreases-primary l = 6 * l.room

abbrev pub decreases-operand : goal.decreases-operand
decreases-operand l = 6 * l.room + 1

abbrev pub decreases-operands : goal.decreases-operands
decreases-operands l = 6 * l.room + 2

abbrev pub decreases-choice : goal.decreases-choice
decreases-choice l = 6 * l.room + 3

abbrev pub decreases-parenthesized_expression : goal.decreases-parenthesized_expression
decreases-parenthesized_expression l = 6 * l.room + 3

abbrev pub decreases-concat_parts : goal.decreases-concat_parts
decreases-concat_parts l = 6 * l.room + 3

abbrev pub decreases-concat_or_replicate : goal.decreases-concat_or_replicate
decreases-concat_or_replicate l = 6 * l.room + 4
