use Rattle.std.proofs.Common.{length, refl}
use Rattle.std.proofs.lemmas.Option.{slice_get_read}
use Rattle.module_sums.proofs.LeafRuns.{apart_at}
use Rattle.module_sums.proofs.registers.push_kept.Goals as goal

pub push_list-requires-clause-more : goal.push_list-requires-clause-more
push_list-requires-clause-more c =
    let h = c.in-Some.ensures.lookup in
    apart_at c.args.table.now c.requires.table c.args.number c.in-Some.more.now
    (slice_get_read c.args.table.now (length c.args.table.now) c.args.number c.in-Some.more.now refl h.3.0 h.1)
