use Rattle.flat_steps.proofs.WordWidths.{plain_ports}
use Rattle.flat_steps.proofs.laws.ports_are_words.Goals as goal

pub returns : goal.returns
returns c = plain_ports
