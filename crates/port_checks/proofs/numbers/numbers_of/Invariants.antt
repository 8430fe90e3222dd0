use Rattle.std.proofs.Common.{◌≡◌, take}
use Rattle.port_checks.specs.Numbers.{numbers_of}
use Rattle.port_checks.proofs.numbers.numbers_of.Given as goal

abbrev pub invariant-loop-position : goal.invariant-loop-position
invariant-loop-position l = l.numbers.items ≡ numbers_of l.starts (take l.position-index l.positions)
