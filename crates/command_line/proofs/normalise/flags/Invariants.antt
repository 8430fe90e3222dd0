use Rattle.std.proofs.Common.{◌≡◌, ◌++◌, drop, map}
use Rattle.std.specs.Prelude.{string_bytes}
use Rattle.command_line.specs.Normal.{flags}
use Rattle.command_line.proofs.normalise.flags.Given as goal

abbrev pub invariant-loop-word : goal.invariant-loop-word
invariant-loop-word l = l.passes.items ++ flags l.offered (map string_bytes (drop l.word-index l.words)) ≡ flags l.offered (map string_bytes l.words)
