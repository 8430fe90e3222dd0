use Rattle.std.proofs.Common.{length}
use Rattle.operation_values.proofs.structs.+field_named.Given as goal

abbrev pub decreases-field_named : goal.decreases-field_named
decreases-field_named l = length l.fields.now
