use Rattle.std.proofs.Common.{◌≡◌, ◌≤◌, ◌^◌, length}
use Rattle.std.specs.Prelude.{option_map}
use Rattle.aiger_laws.specs.Fields.{number_from, numeral}
use Rattle.aiger_reader.specs.Saturated.{saturated}
use Rattle.aiger_reader.proofs.fields.number.Given as goal

abbrev pub invariant-loop-digit : goal.invariant-loop-digit
invariant-loop-digit l = record {
  left : option_map saturated (number_from l.value l.rest) ≡ option_map saturated (numeral l.field);
  small : l.value ≤ 2 ^ 32;
}

abbrev pub decreases-loop-digit : goal.decreases-loop-digit
decreases-loop-digit l = length l.rest
