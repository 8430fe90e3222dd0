use Rattle.export_verilog.proofs.behaviour.BehaviourTheorem.{exported_behaves}
use Rattle.export_verilog.proofs.laws.exported_designs_behave.Goals as goal

pub returns : goal.returns
returns c = exported_behaves
