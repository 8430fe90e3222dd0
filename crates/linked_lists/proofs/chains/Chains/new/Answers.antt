use Rattle.std.proofs.Common.{[], refl}
use Rattle.linked_lists.proofs.ChainCalls.{none_chained}
use Rattle.linked_lists.proofs.chains.Chains.new.Goals as goal

pub invariant_of-result : goal.invariant_of-result
invariant_of-result c = rw (c.new.ensures.items, c.new-2.ensures.items) (none_chained [] (λ s. refl))
