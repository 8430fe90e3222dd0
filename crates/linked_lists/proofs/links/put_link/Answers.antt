use Rattle.std.proofs.Common.{◌<◌, length, rules, sym}
use Rattle.linked_lists.specs.Links.{new_link}
use Rattle.linked_lists.proofs.IdLemmas.{put_at_set}
use Rattle.linked_lists.proofs.links.put_link.Goals as goal

pub returns-else-id-len-clause-items : goal.returns-else-id-len-clause-items
returns-else-id-len-clause-items c =
    let h : c.args.id < length c.args.links.now.items = search rules in
    sym (put_at_set c.args.id (new_link c.args.prev c.args.next) c.args.links.now.items h)
