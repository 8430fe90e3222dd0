use Rattle.std.proofs.Common.{◌≡◌, ◌<◌, length, get_or, rules, ap, ◌∙◌}
use Rattle.std.proofs.lemmas.List.{get_or_default}
use Rattle.linked_lists.specs.Links.{none}
use Rattle.linked_lists.specs.Chains.{cell_unless_none}
use Rattle.linked_lists.proofs.ChainCalls.{first_read}
use Rattle.linked_lists.proofs.chains.Chains.first.Goals as goal

pub returns-in-Some : goal.returns-in-Some
returns-in-Some c =
    let there : c.args.head < length c.self.inside.heads.items = search rules in
    let read : c.in-Some.first.now ≡ get_or c.self.inside.heads.items c.args.head c.in-Some.first.now = search rules in
    rw (← c.self.view_is)
    (c.some_cell.ensures ∙ (ap cell_unless_none (read ∙ get_or_default c.self.inside.heads.items c.args.head c.in-Some.first.now none there) ∙ first_read c.self.inside.links.items c.self.inside.heads.items c.args.head c.self.invariant))
