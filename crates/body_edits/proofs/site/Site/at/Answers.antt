use Rattle.body_edits.specs.Views.{position_in, op_seen}
use Rattle.body_edits.proofs.FitOps.{fit_live, fit_readable, fit_narrow}
use Rattle.body_edits.proofs.ReadBodies.{op_seen_at, op_live}
use Rattle.body_edits.proofs.site.Site.at.Goals as goal

pub returns-clause-there : goal.returns-clause-there
returns-clause-there c = op_seen_at c.args.body.now c.args.id c.op-op.result c.op-op.ensures

pub returns-clause-readable : goal.returns-clause-readable
returns-clause-readable c = record {
  readable = fit_readable c.args.body.now c.requires.fit;
  live = op_live c.args.body.now c.args.id c.op-op.result (fit_live c.args.body.now c.requires.fit) c.op-op.ensures;
  narrow = fit_narrow c.args.body.now c.requires.fit (position_in c.args.body.now c.args.id) (op_seen c.args.body.now c.op-op.result)
      (op_seen_at c.args.body.now c.args.id c.op-op.result c.op-op.ensures);
}
