use Rattle.std.proofs.Common.{◌+◌, ◌*◌}
use Rattle.verilog_expr.proofs.info.+info.Given as goal

abbrev pub decreases-info_at : goal.decreases-info_at
decreases-info_at l = 8 * l.depth

abbrev pub decreases-only_name : goal.decreases-only_name
decreases-only_name l = 8 * l.depth + 1

abbrev pub decreases-is_simple : goal.decreases-is_simple
decreases-is_simple l = 8 * l.depth + 1

abbrev pub decreases-is_simple_template : goal.decreases-is_simple_template
decreases-is_simple_template l = 8 * l.depth + 3

abbrev pub decreases-is_simple_first : goal.decreases-is_simple_first
decreases-is_simple_first l = 8 * l.depth + 2

abbrev pub decreases-has_no_name : goal.decreases-has_no_name
decreases-has_no_name l = 8 * l.depth + 2

abbrev pub decreases-extended_at : goal.decreases-extended_at
decreases-extended_at l = 8 * l.depth + 4

abbrev pub decreases-alone_at : goal.decreases-alone_at
decreases-alone_at l = 8 * l.depth + 5
