use Rattle.std.proofs.Common.{◌∙◌}
use Rattle.command_line.proofs.Making.{next_argument, last_argument}
use Rattle.command_line.proofs.commands.with_arguments.Goals as goal

pub loop-argument-preserved : goal.loop-argument-preserved
loop-argument-preserved c = record {
  shape = next_argument c.args.arguments.now c.loop-argument.argument-index _ c.loop-argument.command c.in-Ok.more _ c.loop-argument-test.true c.in-Ok.ensures c.loop-argument.invariant.shape;
  globals = c.in-Ok.ensures.globals ∙ c.loop-argument.invariant.globals;
}

pub returns : goal.returns
returns c = record {
  shape = last_argument c.args.arguments.now c.loop-argument.argument-index c.loop-argument.command _ c.loop-argument-test.false c.loop-argument.invariant.shape;
  globals = c.loop-argument.invariant.globals;
}
