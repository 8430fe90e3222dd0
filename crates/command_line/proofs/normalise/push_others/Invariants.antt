use Rattle.std.proofs.Common.{◌≡◌, ◌++◌, cond, drop, map}
use Rattle.std.specs.Prelude.{string_bytes}
use Rattle.command_line.specs.Normal.{without_flags}
use Rattle.command_line.proofs.normalise.push_others.Given as goal

abbrev pub invariant-loop-word : goal.invariant-loop-word
invariant-loop-word l =
    map string_bytes l.words.items
    ++ cond l.ended (map string_bytes (drop l.word-index l.others)) (without_flags l.offered (map string_bytes (drop l.word-index l.others)))
    ≡ map string_bytes l.fn.words.items ++ without_flags l.offered (map string_bytes l.others)
