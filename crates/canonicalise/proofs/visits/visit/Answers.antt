use Rattle.std.proofs.Common.{◌≡◌, None, refl, sym, ◌∙◌}
use Rattle.body_edits.specs.Views.{body_ops, position_in}
use Rattle.canonicalise.specs.Canonical.{table}
use Rattle.canonicalise.proofs.Tried.{settled_none, unmatched, settled_marks, joined_marks}
use Rattle.canonicalise.proofs.visits.visit.Goals as goal

pub join-requires-clause-settled : goal.join-requires-clause-settled
join-requires-clause-settled c = c.is_settled.ensures.0 c.if-is_settled.true

pub returns-then-is_settled-clause-tries : goal.returns-then-is_settled-clause-tries
returns-then-is_settled-clause-tries c =
    (settled_none c.args.body.now c.args.marks.now c.args.op c.requires.marks.settled (c.is_settled.ensures.0 c.if-is_settled.true), refl)

pub returns-then-is_settled-clause-settled : goal.returns-then-is_settled-clause-settled
returns-then-is_settled-clause-settled c =
    joined_marks c.args.body.now c.args.marks.now c.join.new.self c.requires.marks c.join.ensures.settled c.in_ok-join.ensures.quiet c.in_ok-join.ensures.linked

pub returns-clause-tries : goal.returns-clause-tries
returns-clause-tries c =
    (unmatched (table (body_ops c.args.body.now) (position_in c.args.body.now c.args.op)) (sym c.if-matches.false ∙ c.matches.ensures), refl)

pub returns-clause-settled : goal.returns-clause-settled
returns-clause-settled c =
    let none : table (body_ops c.args.body.now) (position_in c.args.body.now c.args.op) ≡ None =
    unmatched (table (body_ops c.args.body.now) (position_in c.args.body.now c.args.op)) (sym c.if-matches.false ∙ c.matches.ensures) in
    settled_marks c.args.body.now c.args.marks.now c.settle.new.self c.args.op c.requires.marks c.requires.live none
    c.in_ok-settle.ensures.settled c.in_ok-settle.ensures.stay c.in_ok-settle.ensures.runs
