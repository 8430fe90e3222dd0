use Rattle.std.proofs.Common.{◌≡◌, ◌++◌, [], drop}
use Rattle.fresh_names.specs.Fresh.{fresh}
use Rattle.fresh_names.specs.TakenViews.{taken_names}
use Rattle.lowering_rules.proofs.port_leaves.free_names.Given as goal

abbrev pub invariant-loop-name : goal.invariant-loop-name
invariant-loop-name l = record {
  names : l.names.items ≡ taken_names l.taken;
  left : taken_names l.taken ++ fresh (taken_names l.taken) (drop l.name-index l.wanted) ≡ fresh [] l.wanted;
}
