use Rattle.std.proofs.Common.{◌∙◌}
use Rattle.fresh_names.proofs.Taken.{taken_any}
use Rattle.fresh_names.proofs.taken_names.TakenNames.is_taken.Goals as goal

pub returns : goal.returns
returns c = c.contains.ensures ∙ taken_any (λ name. name.items) c.args.self.now.names.keys c.args.name.now
