use Rattle.ir_store.specs.ShortLists.{short_items}
use Rattle.body_edits.proofs.MadeParts.{no_second}
use Rattle.body_edits.proofs.site.Site.second_width.Goals as goal

pub returns-in_default : goal.returns-in_default
returns-in_default c = no_second c.as_slice.result.now (short_items c.args.self.now.op.types.now) c.as_slice.ensures c.in_default.len_below
