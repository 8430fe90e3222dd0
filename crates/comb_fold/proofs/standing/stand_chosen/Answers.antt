use Rattle.std.proofs.Common.{sym}
use Rattle.body_edits.specs.Views.{position_in, value_ref, op_seen}
use Rattle.comb_fold.proofs.StandingPatterns.{chosen_at, may_stand, stood_folded}
use Rattle.comb_fold.proofs.standing.stand_chosen.Goals as goal

pub stand_in-requires-clause-may : goal.stand_in-requires-clause-may
stand_in-requires-clause-may g c =
    may_stand g.S.Standing.stand c.args.body.now (position_in c.args.body.now c.args.op) (op_seen c.args.body.now c.at.result.op) (value_ref c.args.body.now c.in-Some.value)
    c.at.ensures.there (chosen_at g.S.Standing.stand c.args.body.now c.at.result c.in-Some.value c.at.ensures.body (sym c.in-Some.ensures)) c.requires.may c.requires.fit

pub returns : goal.returns
returns g c =
    stood_folded g.S.Standing.stand c.args.body.now (position_in c.args.body.now c.args.op) (op_seen c.args.body.now c.at.result.op) (value_ref c.args.body.now c.in-Some.value)
    c.at.ensures.there (chosen_at g.S.Standing.stand c.args.body.now c.at.result c.in-Some.value c.at.ensures.body (sym c.in-Some.ensures))
    c.stand_in.new.body c.stand_in.ensures.ops c.stand_in.ensures.ids
