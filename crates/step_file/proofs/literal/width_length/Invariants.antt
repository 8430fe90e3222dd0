use Rattle.std.proofs.Common.{◌≡◌, ◌+◌, drop}
use Rattle.step_file.specs.Literals.{width_length}
use Rattle.step_file.proofs.literal.width_length.Given as goal

abbrev pub invariant-loop-i : goal.invariant-loop-i
invariant-loop-i l = width_length (drop l.i l.word) + l.i ≡ width_length l.word
