use Rattle.std.proofs.Common.{◌≡◌, ◌++◌, drop}
use Rattle.std.specs.Prelude.{string_bytes}
use Rattle.command_line.specs.Normal.{passes_word, more_names}
use Rattle.command_line.proofs.normalise.passes_word.Given as goal

abbrev pub invariant-loop-pass : goal.invariant-loop-pass
invariant-loop-pass l = string_bytes l.word ++ more_names (drop l.pass-index l.more) ≡ passes_word l.fn.first l.more
