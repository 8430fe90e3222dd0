use Rattle.std.proofs.Common.{◌≡◌, length, ap, ◌∙◌}
use Rattle.linked_lists.specs.Links.{none, next_at, prev_at}
use Rattle.linked_lists.proofs.ChainCalls.{out_seen, cell_in}
use Rattle.linked_lists.proofs.chains.Chains.take_out.Goals as goal
use Rattle.linked_lists.proofs.Linking.{length-linked_out}

pub link_out-requires : goal.link_out-requires
link_out-requires c =
    let there = rw (← c.self.view_is) at c.requires in
    record { position = cell_in c.self.inside.links.items c.self.inside.heads.items c.args.head c.args.cell c.self.invariant there }

pub invariant_of-self : goal.invariant_of-self
invariant_of-self c =
    let there = rw (← c.self.view_is) at c.requires in
    let prev : c.prev_of-prev.result ≡ prev_at c.self.inside.links.items c.args.cell = rw c.as_slice.ensures.value at c.prev_of-prev.ensures in
    let next : c.next_of-next.result ≡ next_at c.self.inside.links.items c.args.cell = rw c.as_slice-2.ensures.value at c.next_of-next.ensures in
    (out_seen c.self.inside.links.items c.link_out.new.links.items c.self.inside.heads.items c.args.head c.args.cell c.prev_of-prev.result c.next_of-next.result c.unless_none.result c.index.result.now
    c.self.invariant there prev next c.index.ensures c.unless_none.ensures c.link_out.ensures.items).has

pub returns-clause-chains : goal.returns-clause-chains
returns-clause-chains c =
    let there = rw (← c.self.view_is) at c.requires in
    let prev : c.prev_of-prev.result ≡ prev_at c.self.inside.links.items c.args.cell = rw c.as_slice.ensures.value at c.prev_of-prev.ensures in
    let next : c.next_of-next.result ≡ next_at c.self.inside.links.items c.args.cell = rw c.as_slice-2.ensures.value at c.next_of-next.ensures in
    rw (← c.self.view_is)
    (out_seen c.self.inside.links.items c.link_out.new.links.items c.self.inside.heads.items c.args.head c.args.cell c.prev_of-prev.result c.next_of-next.result c.unless_none.result c.index.result.now
    c.self.invariant there prev next c.index.ensures c.unless_none.ensures c.link_out.ensures.items).seen

pub returns-clause-cells : goal.returns-clause-cells
returns-clause-cells c =
    rw (← c.self.view_is) (ap length c.link_out.ensures.items ∙ length-linked_out c.args.cell c.prev_of-prev.result c.next_of-next.result none c.self.inside.links.items)
