use Rattle.flat_module_laws.proofs.FlatMiters.{flat_step_difference, flat_step_clauses}
use Rattle.flat_module_laws.proofs.laws.flat_register_miters_are_differences.Goals as goal

pub returns : goal.returns
returns c = record {
  differences = flat_step_difference;
  clauses = flat_step_clauses;
}
