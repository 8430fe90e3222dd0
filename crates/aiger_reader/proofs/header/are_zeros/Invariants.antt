use Rattle.std.proofs.Common.{◌≡◌, ◌-◌}
use Rattle.std.specs.Prelude.{option_copied}
use Rattle.aiger_laws.specs.Rows.{are_zeros}
use Rattle.aiger_reader.specs.Saturated.{fields_left}
use Rattle.aiger_reader.proofs.Zeros.{zeros_within}
use Rattle.aiger_reader.proofs.header.are_zeros.Given as goal

abbrev pub invariant-loop-looked_at : goal.invariant-loop-looked_at
invariant-loop-looked_at l = zeros_within (4 - l.looked_at) (fields_left (option_copied l.rest)) ≡ are_zeros (fields_left (option_copied l.fn.rest))
