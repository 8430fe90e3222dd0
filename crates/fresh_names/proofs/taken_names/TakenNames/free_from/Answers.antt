use Rattle.fresh_names.specs.TakenViews.{taken_names}
use Rattle.fresh_names.proofs.Taken.{tried_same}
use Rattle.fresh_names.proofs.taken_names.TakenNames.free_from.Goals as goal

pub loop-number-init : goal.loop-number-init
loop-number-init c = record { tried = c.requires; same = tried_same (taken_names c.args.self.now) c.args.wanted.now c.args.first c.requires }
