use Rattle.std.proofs.Common.{◌<◌, length, rules, sym}
use Rattle.linked_lists.proofs.IdLemmas.{put_at_set}
use Rattle.ir_store.proofs.body.put_parts.Goals as goal

pub returns-else-i-len-clause-items : goal.returns-else-i-len-clause-items
returns-else-i-len-clause-items c =
    let h : c.args.i < length c.args.parts.now.items = search rules in
    sym (put_at_set c.args.i c.args.one c.args.parts.now.items h)
