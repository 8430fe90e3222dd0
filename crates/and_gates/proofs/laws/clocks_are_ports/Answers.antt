use Rattle.and_gates.proofs.ClockPorts.{clocks_are_ports, several_clocks}
use Rattle.and_gates.proofs.laws.clocks_are_ports.Goals as goal

pub returns-clause-ports : goal.returns-clause-ports
returns-clause-ports c = clocks_are_ports

pub returns-clause-several : goal.returns-clause-several
returns-clause-several c = several_clocks
