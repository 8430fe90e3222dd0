use Rattle.port_checks.proofs.Unlocated.{same_resets}
use Rattle.port_checks.proofs.laws.locations_decide_no_reset_port.Goals as goal

pub returns : goal.returns
returns c = same_resets
