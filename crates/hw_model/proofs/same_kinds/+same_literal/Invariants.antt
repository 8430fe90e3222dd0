use Rattle.std.proofs.Common.{◌≡◌, map, length}
use Rattle.hw_model.specs.KindViews.{literal_of, literals_of}
use Rattle.hw_model.specs.SameKind.{same_literals}
use Rattle.hw_model.proofs.same_kinds.+same_literal.Given as goal

abbrev pub invariant-same_lists-loop-k : goal.invariant-same_lists-loop-k
invariant-same_lists-loop-k l = record {
  same : same_literals (literals_of (map literal_of l.k-iterator.a.rest.now)) (literals_of (map literal_of l.k-iterator.b.rest.now)) ≡ same_literals (literals_of (map literal_of l.ks)) (literals_of (map literal_of l.ls));
  lengths : length l.k-iterator.a.rest.now ≡ length l.k-iterator.b.rest.now;
}
