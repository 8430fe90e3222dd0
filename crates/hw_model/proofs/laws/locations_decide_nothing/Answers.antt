use Rattle.hw_model.proofs.Locations.{same_design}
use Rattle.hw_model.proofs.laws.locations_decide_nothing.Goals as goal

pub returns : goal.returns
returns c = same_design
