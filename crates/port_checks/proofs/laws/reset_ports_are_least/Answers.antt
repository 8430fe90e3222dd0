use Rattle.port_checks.proofs.Least.{is_sound, is_complete}
use Rattle.port_checks.proofs.laws.reset_ports_are_least.Goals as goal

pub returns-clause-sound : goal.returns-clause-sound
returns-clause-sound c = is_sound

pub returns-clause-complete : goal.returns-clause-complete
returns-clause-complete c = is_complete
