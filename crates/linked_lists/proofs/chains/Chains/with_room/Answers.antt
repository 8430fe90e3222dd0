use Rattle.std.proofs.Common.{◌≡◌, replicate}
use Rattle.linked_lists.specs.Links.{none}
use Rattle.linked_lists.proofs.ChainCalls.{none_chained, none_in, none_first}
use Rattle.linked_lists.proofs.chains.Chains.with_room.Goals as goal

pub invariant_of-result : goal.invariant_of-result
invariant_of-result c =
    let heads : c.in_ok-heads.heads.items ≡ replicate c.args.heads none = c.in_ok-heads.ensures.items_if_clones_equal (λ y e. e) in
    rw (c.in_ok-links.ensures.items, heads) (none_chained (replicate c.args.heads none) (none_first c.args.heads))

pub returns-clause-chains : goal.returns-clause-chains
returns-clause-chains c =
    let heads : c.in_ok-heads.heads.items ≡ replicate c.args.heads none = c.in_ok-heads.ensures.items_if_clones_equal (λ y e. e) in
    rw (c.in_ok-links.ensures.items, heads) (none_in c.args.heads)
