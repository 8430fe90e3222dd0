use Rattle.inline_pass.specs.Received.{held, AreHeld}
use Rattle.inline_pass.proofs.received.by_number.Given as goal

abbrev pub invariant-loop-i : goal.invariant-loop-i
invariant-loop-i l = AreHeld l.numbers l.received l.i (held l.bodies)
