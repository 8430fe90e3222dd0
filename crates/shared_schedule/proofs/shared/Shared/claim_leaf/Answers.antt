use Rattle.std.proofs.Common.{Some, ap, sym, ◌∙◌, arith}
use Rattle.shared_schedule.specs.Views.{callees_in}
use Rattle.shared_schedule.proofs.Drawing.{draws, leaf-within}
use Rattle.shared_schedule.proofs.shared.Shared.claim_leaf.Goals as goal

pub fetch_add-number-requires : goal.fetch_add-number-requires
fetch_add-number-requires g c = (
  c.requires.idle.table,
  omega (arith, c.args.self.now.words),
  draws g.P.Pieces.first g.P.Pieces.finished g.P.Pieces.copied c.args.self.now.table.shared.key _ _ c.args.seat.now.me (c.requires.idle.plan ∙ ap Some (sym c.args.self.now.key)) c.requires.more c.requires.idle.out,
)

pub returns-clause-within : goal.returns-clause-within
returns-clause-within g c = leaf-within (callees_in c.args.self.now.plan) c.fetch_add-number.result c.leaf_at.result c.leaf_at.ensures
