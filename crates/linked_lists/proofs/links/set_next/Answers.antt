use Rattle.std.proofs.Common.{◌<◌, ◌≤◌, length, rules}
use Rattle.linked_lists.proofs.Linking.{with_next_set, with_next_past}
use Rattle.linked_lists.proofs.links.set_next.Goals as goal

pub returns-then-id-len-clause-items : goal.returns-then-id-len-clause-items
returns-then-id-len-clause-items c =
    let h : c.args.id < length c.args.links.now.items = search rules in
    with_next_set c.args.id c.args.next c.args.links.now.items c.index_mut.result.now h c.index_mut.ensures.value

pub returns-else-id-len-clause-items : goal.returns-else-id-len-clause-items
returns-else-id-len-clause-items c =
    let h : length c.args.links.now.items ≤ c.args.id = search rules in
    with_next_past c.args.id c.args.next c.args.links.now.items h
