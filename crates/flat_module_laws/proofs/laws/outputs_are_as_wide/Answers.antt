use Rattle.flat_module_laws.proofs.FlatMiters.{as_wide, same_outputs}
use Rattle.flat_module_laws.proofs.laws.outputs_are_as_wide.Goals as goal

pub returns : goal.returns
returns c = record {
  alike = as_wide;
  any = same_outputs;
}
