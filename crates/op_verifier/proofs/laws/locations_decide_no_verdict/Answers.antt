use Rattle.op_verifier.proofs.AcceptedDesigns.{same_accepted}
use Rattle.op_verifier.proofs.laws.locations_decide_no_verdict.Goals as goal

pub returns : goal.returns
returns c = same_accepted
