use Rattle.std.proofs.Common.{◌≡◌, ◌+◌, drop}
use Rattle.pass_pipeline.specs.Tokens.{name_length}
use Rattle.pass_pipeline.proofs.token.name_length.Given as goal

abbrev pub invariant-loop-i : goal.invariant-loop-i
invariant-loop-i l = name_length (drop l.i l.bytes) + l.i ≡ name_length l.bytes
