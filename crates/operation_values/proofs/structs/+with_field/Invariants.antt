use Rattle.std.proofs.Common.{length}
use Rattle.operation_values.proofs.structs.+with_field.Given as goal

abbrev pub decreases-with_field : goal.decreases-with_field
decreases-with_field l = length l.fields.now
