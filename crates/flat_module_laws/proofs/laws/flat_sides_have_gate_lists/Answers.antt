use Rattle.flat_module_laws.proofs.FlatMiters.{has_gate_lists, has_step_gate_lists}
use Rattle.flat_module_laws.proofs.laws.flat_sides_have_gate_lists.Goals as goal

pub returns : goal.returns
returns c = record {
  nets = has_gate_lists;
  steps = has_step_gate_lists;
}
