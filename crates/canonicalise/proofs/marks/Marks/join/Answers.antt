use Rattle.std.proofs.Common.{refl}
use Rattle.canonicalise.specs.declared.marks.Marks.{Marks}
use Rattle.canonicalise.proofs.Losing.{on_ok, quiet_joined}
use Rattle.canonicalise.proofs.marks.Marks.join.Goals as goal

pub returns-clause-quiet : goal.returns-clause-quiet
returns-clause-quiet c =
    let new : Marks = record { settled = c.args.self.now.settled; runs = c.join.new.self } in
    on_ok c.join.result (quiet_joined c.args.self.now new c.args.op.index c.requires.settled c.requires.quiet refl) c.join.ensures.joins
