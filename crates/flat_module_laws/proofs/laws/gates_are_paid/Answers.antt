use Rattle.flat_module_laws.proofs.FlatMiters.{side_paid, miter_paid, register_miter_paid}
use Rattle.flat_module_laws.proofs.laws.gates_are_paid.Goals as goal

pub returns : goal.returns
returns c = record {
  nets = side_paid;
  outputs = miter_paid;
  steps = register_miter_paid;
}
