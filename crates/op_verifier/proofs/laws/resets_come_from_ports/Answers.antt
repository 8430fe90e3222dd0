use Rattle.op_verifier.proofs.AcceptedDesigns.{accepted_resets}
use Rattle.op_verifier.proofs.laws.resets_come_from_ports.Goals as goal

pub returns : goal.returns
returns c = accepted_resets
