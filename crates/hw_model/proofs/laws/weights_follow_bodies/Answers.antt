use Rattle.hw_model.proofs.Weights.{weight_not_raised}
use Rattle.hw_model.proofs.laws.weights_follow_bodies.Goals as goal

pub returns : goal.returns
returns c = weight_not_raised
