use Rattle.std.proofs.Common.{◌≡◌, ◌-◌}
use Rattle.net_gates.specs.NetGateLists.{variables}
use Rattle.flat_module_gates.proofs.widths.variables.Given as goal

abbrev pub invariant-loop-before : goal.invariant-loop-before
invariant-loop-before l = l.word.items ≡ variables l.start (l.before - l.start)
