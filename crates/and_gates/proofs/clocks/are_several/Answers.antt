use Rattle.std.proofs.Common.{sym, ap, ◌∙◌}
use Rattle.and_gates.specs.Clocks.{are_several}
use Rattle.and_gates.proofs.Scanning.{several_none}
use Rattle.and_gates.proofs.clocks.are_several.Goals as goal

pub returns-in-None : goal.returns-in-None
returns-in-None c = several_none c.args.ports.now c.in-None.ensures.cases

pub returns-in-Some : goal.returns-in-Some
returns-in-Some c = c.has_other.ensures ∙ ap are_several (sym c.in-Some.ensures.cases.0)
