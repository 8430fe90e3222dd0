use Rattle.flat_module_laws.proofs.FlatMiters.{flat_difference, flat_clauses}
use Rattle.flat_module_laws.proofs.laws.flat_miters_are_differences.Goals as goal

pub returns : goal.returns
returns c = record {
  differences = flat_difference;
  clauses = flat_clauses;
}
