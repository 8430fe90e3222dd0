use Rattle.std.proofs.Common.{sym, ◌∙◌}
use Rattle.body_edits.proofs.SameValues.{others_of_three}
use Rattle.body_edits.proofs.site.Site.same_choice.Goals as goal

pub returns-else-is_same : goal.returns-else-is_same
returns-else-is_same c =
    others_of_three c.args.self.now.body.now c.args.self.now.op.operands.now _ _ c.requires.live c.in-len3.len_at_least c.in-len3.len_below
    (sym c.is_same.ensures ∙ c.if-is_same.false)
