use Rattle.std.proofs.Common.{◌≡◌, ◌++◌}
use Rattle.circt_top.specs.Comparing.{value_lines}
use Rattle.circt_top.proofs.comparing.push_lines.Given as goal

abbrev pub invariant-loop-name : goal.invariant-loop-name
invariant-loop-name l = l.text ++ value_lines l.name-iterator.a.rest.now l.name-iterator.b.rest.now ≡ l.fn.text ++ value_lines l.names l.values
