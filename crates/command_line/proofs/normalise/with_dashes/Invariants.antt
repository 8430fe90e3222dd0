use Rattle.std.proofs.Common.{◌≡◌, ◌++◌, cond, drop, map}
use Rattle.std.specs.Prelude.{string_bytes}
use Rattle.command_line.specs.Normal.{all_dashed}
use Rattle.command_line.proofs.normalise.with_dashes.Given as goal

abbrev pub invariant-loop-word : goal.invariant-loop-word
invariant-loop-word l =
    map string_bytes l.out.items
    ++ cond l.open (all_dashed (map string_bytes (drop l.word-index l.words))) (map string_bytes (drop l.word-index l.words))
    ≡ all_dashed (map string_bytes l.words)
