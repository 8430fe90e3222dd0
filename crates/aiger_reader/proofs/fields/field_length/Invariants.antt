use Rattle.std.proofs.Common.{◌≡◌, ◌+◌, drop}
use Rattle.aiger_reader.specs.Saturated.{field_length}
use Rattle.aiger_reader.proofs.fields.field_length.Given as goal

abbrev pub invariant-loop-i : goal.invariant-loop-i
invariant-loop-i l = field_length (drop l.i l.line) + l.i ≡ field_length l.line
