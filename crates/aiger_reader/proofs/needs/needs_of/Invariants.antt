use Rattle.std.proofs.Common.{◌≡◌, map, take}
use Rattle.aiger_reader.specs.Kept.{drivers_of}
use Rattle.aiger_reader.specs.Searched.{places, lists_in}
use Rattle.aiger_reader.proofs.needs.needs_of.Given as goal

abbrev pub invariant-loop-gate : goal.invariant-loop-gate
invariant-loop-gate l = lists_in l.needs.items ≡ map (places (drivers_of l.drivers)) (take l.gate-index l.gates)
