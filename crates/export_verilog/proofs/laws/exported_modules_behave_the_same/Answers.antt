use Rattle.export_verilog.proofs.behaviour.ModuleBehaviour.{exported_same}
use Rattle.export_verilog.proofs.laws.exported_modules_behave_the_same.Goals as goal

pub returns : goal.returns
returns c = exported_same
