use Rattle.std.proofs.Common.{◌∙◌}
use Rattle.aiger_reader.specs.Kept.{tree_of}
use Rattle.aiger_reader.proofs.Adding.{driver_outputs}
use Rattle.aiger_reader.proofs.text.AigerText.add_output.Goals as goal

pub returns-clause-knows : goal.returns-clause-knows
returns-clause-knows c v = c.requires.knows v ∙ driver_outputs (tree_of c.args.self.now) c.push.new.self.items v
