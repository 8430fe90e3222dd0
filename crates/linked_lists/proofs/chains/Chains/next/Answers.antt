use Rattle.std.proofs.Common.{◌≡◌, ap, ◌∙◌}
use Rattle.linked_lists.specs.Links.{next_at}
use Rattle.linked_lists.specs.Chains.{cell_unless_none}
use Rattle.linked_lists.proofs.ChainCalls.{next_read}
use Rattle.linked_lists.proofs.chains.Chains.next.Goals as goal

pub returns : goal.returns
returns c =
    λ s xs ys e.
    let after : c.next_of.result ≡ next_at c.self.inside.links.items c.args.cell = rw c.as_slice.ensures.value at c.next_of.ensures in
    c.some_cell.ensures ∙ (ap cell_unless_none after ∙ next_read c.self.inside.links.items c.self.inside.heads.items s c.args.cell xs ys c.self.invariant (rw (← c.self.view_is) at e))
