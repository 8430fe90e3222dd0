use Rattle.std.proofs.Common.{◌≡◌, ◌++◌, [], replicate}
use Rattle.graphs.specs.Graphs.{lists_of}
use Rattle.port_checks.proofs.numbers.push_ports.Given as goal

abbrev pub invariant-loop-port : goal.invariant-loop-port
invariant-loop-port l = lists_of l.joined.items ≡ lists_of l.fn.joined.items ++ replicate l._port []
