use Rattle.std.proofs.Common.{◌≡◌, drop, map}
use Rattle.std.specs.Prelude.{string_bytes}
use Rattle.command_line.specs.Normal.{has_reserved}
use Rattle.command_line.proofs.normalise.has_reserved.Given as goal

abbrev pub invariant-loop-word : goal.invariant-loop-word
invariant-loop-word l = has_reserved (map string_bytes l.words) ≡ has_reserved (map string_bytes (drop l.word-index l.words))
