use Rattle.std.proofs.Common.{◌∙◌}
use Rattle.command_line.proofs.Making.{next_subcommand, last_subcommand}
use Rattle.command_line.proofs.commands.with_subcommands.Goals as goal

pub loop-subcommand-preserved : goal.loop-subcommand-preserved
loop-subcommand-preserved c = record {
  shape = next_subcommand c.args.subcommands.now c.loop-subcommand.subcommand-index _ c.loop-subcommand.command c.in-Ok.more _ c.loop-subcommand-test.true c.in-Ok.ensures c.loop-subcommand.invariant.shape;
  globals = c.in-Ok.ensures.globals ∙ c.loop-subcommand.invariant.globals;
}

pub returns : goal.returns
returns c = record {
  shape = last_subcommand c.args.subcommands.now c.loop-subcommand.subcommand-index c.loop-subcommand.command _ c.loop-subcommand-test.false c.loop-subcommand.invariant.shape;
  globals = c.loop-subcommand.invariant.globals;
}
