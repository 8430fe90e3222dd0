use Rattle.std.proofs.Common.{arith}
use Rattle.linked_lists.proofs.ChainCalls.{put_seen, cells_put}
use Rattle.linked_lists.proofs.chains.Chains.put_first.Goals as goal

pub invariant_of-self : goal.invariant_of-self
invariant_of-self c =
    let r = rw (← c.self.view_is) at c.requires in
    (put_seen c.self.inside.links.items c.link_in.new.links.items c.self.inside.heads.items c.args.head c.args.cell c.index.result.now
    c.self.invariant r.head r.cell (omega (arith, r.room)) r.alone c.index.ensures c.link_in.ensures.items).has

pub returns-clause-chains : goal.returns-clause-chains
returns-clause-chains c =
    let r = rw (← c.self.view_is) at c.requires in
    rw (← c.self.view_is)
    (put_seen c.self.inside.links.items c.link_in.new.links.items c.self.inside.heads.items c.args.head c.args.cell c.index.result.now
    c.self.invariant r.head r.cell (omega (arith, r.room)) r.alone c.index.ensures c.link_in.ensures.items).seen

pub returns-clause-cells : goal.returns-clause-cells
returns-clause-cells c =
    let r = rw (← c.self.view_is) at c.requires in
    rw (← c.self.view_is) (cells_put c.self.inside.links.items c.link_in.new.links.items c.args.cell c.index.result.now r.cell c.link_in.ensures.items)
