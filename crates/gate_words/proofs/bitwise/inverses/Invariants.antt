use Rattle.std.proofs.Common.{◌≡◌, take}
use Rattle.gate_words.specs.GateLists.{inverses}
use Rattle.gate_words.proofs.bitwise.inverses.Given as goal

abbrev pub invariant-loop-x : goal.invariant-loop-x
invariant-loop-x l = l.made.items ≡ inverses (take l.x-index l.xs)
