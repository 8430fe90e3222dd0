use Rattle.std.proofs.Common.{sym, ◌∙◌}
use Rattle.body_edits.proofs.SameValues.{two_others}
use Rattle.body_edits.proofs.site.Site.number_of_same.Goals as goal

pub returns-in_default-2 : goal.returns-in_default-2
returns-in_default-2 c =
    two_others c.args.self.now.body.now c.args.self.now.op.operands.now _ _ c.args.number c.requires.live c.in-len2.len_at_least c.in-len2.len_below
    (sym c.is_same.ensures ∙ c.if-is_same.false)
