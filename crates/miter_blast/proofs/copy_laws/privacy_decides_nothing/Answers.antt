use Rattle.acceptance_laws.proofs.Accepted.{accepted_fit}
use Rattle.miter_blast.proofs.Marks.{marked_follows, marked_accepted}
use Rattle.miter_blast.proofs.copy_laws.privacy_decides_nothing.Goals as goal

pub returns-clause-accepted : goal.returns-clause-accepted
returns-clause-accepted c d is_marked accepted printable = (marked_accepted is_marked d accepted printable).0

pub returns-clause-printable : goal.returns-clause-printable
returns-clause-printable c d is_marked accepted printable = (marked_accepted is_marked d accepted printable).1

pub returns-clause-same : goal.returns-clause-same
returns-clause-same c d is_marked accepted printable s = (marked_follows is_marked d (accepted_fit d accepted printable)).same s
