use Rattle.std.proofs.Common.{◌+◌, ◌*◌}
use Rattle.verilog_interpreter.proofs.machine.Machine.+flattening.Given as goal

abbrev pub decreases-child : goal.decreases-child
decreases-child l = 2 * l.room

abbrev pub decreases-items : goal.decreases-items
decreases-items l = 2 * l.room + 1
