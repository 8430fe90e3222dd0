use Rattle.std.proofs.Common.{◌≡◌, map, length}
use Rattle.hw_model.specs.KindViews.{literal_of, literals_of}
use Rattle.hw_model.specs.SameKind.{same_literals}
use Rattle.cse_pass.specs.EqualOps.{value_literals}
use Rattle.cse_pass.proofs.equal_constants.+same_literal.Given as goal

abbrev pub invariant-are_same_literals-loop-k : goal.invariant-are_same_literals-loop-k
invariant-are_same_literals-loop-k l = record {
  same : same_literals (value_literals (literals_of (map literal_of l.k-iterator.a.rest.now))) (value_literals (literals_of (map literal_of l.k-iterator.b.rest.now)))
      ≡ same_literals (value_literals (literals_of (map literal_of l.ks))) (value_literals (literals_of (map literal_of l.ls)));
  lengths : length l.k-iterator.a.rest.now ≡ length l.k-iterator.b.rest.now;
}
