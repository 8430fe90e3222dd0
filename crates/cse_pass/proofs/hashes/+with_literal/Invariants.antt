use Rattle.std.proofs.Common.{◌≡◌, drop, map}
use Rattle.hw_model.specs.KindViews.{literal_of, literals_of}
use Rattle.cse_pass.specs.EqualOps.{value_literals}
use Rattle.cse_pass.specs.Hashes.{with_literals}
use Rattle.cse_pass.proofs.hashes.+with_literal.Given as goal

abbrev pub invariant-with_literals-loop-literal : goal.invariant-with_literals-loop-literal
invariant-with_literals-loop-literal l =
    with_literals l.all (value_literals (literals_of (map literal_of (drop l.literal-index l.literals)))) ≡ with_literals l.hash (value_literals (literals_of (map literal_of l.literals)))
