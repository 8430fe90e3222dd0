use Rattle.std.proofs.Common.{sym, ◌∙◌}
use Rattle.body_edits.specs.Views.{body_ops}
use Rattle.cse_pass.proofs.InOrder.{earlier_found, along_merged}
use Rattle.cse_pass.proofs.MergeRuns.{no_merge}
use Rattle.cse_pass.proofs.along.visit_along.Goals as goal

pub op-own-requires : goal.op-own-requires
op-own-requires c = c.contains.ensures.0 c.if-not-contains.false

pub returns-then-not-contains-clause-merges : goal.returns-then-not-contains-clause-merges
returns-then-not-contains-clause-merges c = no_merge (body_ops c.args.body.now)

pub returns-then-not-is_pure-clause-merges : goal.returns-then-not-is_pure-clause-merges
returns-then-not-is_pure-clause-merges c = no_merge (body_ops c.args.body.now)

pub find_earlier-requires : goal.find_earlier-requires
find_earlier-requires c = c.contains.ensures.0 c.if-not-contains.false

pub returns-in_default-clause-merges : goal.returns-in_default-clause-merges
returns-in_default-clause-merges c = no_merge (body_ops c.args.body.now)

pub merge-requires-clause-live : goal.merge-requires-clause-live
merge-requires-clause-live c = c.contains.ensures.0 c.if-not-contains.false

pub merge-requires-clause-first : goal.merge-requires-clause-first
merge-requires-clause-first c = c.in-Some.ensures.there

pub merge-requires-clause-equal : goal.merge-requires-clause-equal
merge-requires-clause-equal c =
    earlier_found c.args.body.now c.requires.fit c.args.places.now c.requires.ordered c.args.op (c.contains.ensures.0 c.if-not-contains.false) c.op-own.result c.op-own.ensures
    (sym c.is_pure.ensures ∙ c.if-not-is_pure.false) c.in-Some.first c.in-Some.ensures

pub returns-clause-fit : goal.returns-clause-fit
returns-clause-fit c =
    (along_merged c.args.places.now c.args.body.now c.merge.new.body c.requires.fit c.requires.ordered c.args.op c.in-Some.first (c.contains.ensures.0 c.if-not-contains.false)
    (earlier_found c.args.body.now c.requires.fit c.args.places.now c.requires.ordered c.args.op (c.contains.ensures.0 c.if-not-contains.false) c.op-own.result c.op-own.ensures
    (sym c.is_pure.ensures ∙ c.if-not-is_pure.false) c.in-Some.first c.in-Some.ensures)
    c.merge.result c.merge.ensures.merged c.merge.ensures.kept).fit

pub returns-clause-ordered : goal.returns-clause-ordered
returns-clause-ordered c =
    (along_merged c.args.places.now c.args.body.now c.merge.new.body c.requires.fit c.requires.ordered c.args.op c.in-Some.first (c.contains.ensures.0 c.if-not-contains.false)
    (earlier_found c.args.body.now c.requires.fit c.args.places.now c.requires.ordered c.args.op (c.contains.ensures.0 c.if-not-contains.false) c.op-own.result c.op-own.ensures
    (sym c.is_pure.ensures ∙ c.if-not-is_pure.false) c.in-Some.first c.in-Some.ensures)
    c.merge.result c.merge.ensures.merged c.merge.ensures.kept).ordered

pub returns-clause-merges : goal.returns-clause-merges
returns-clause-merges c =
    (along_merged c.args.places.now c.args.body.now c.merge.new.body c.requires.fit c.requires.ordered c.args.op c.in-Some.first (c.contains.ensures.0 c.if-not-contains.false)
    (earlier_found c.args.body.now c.requires.fit c.args.places.now c.requires.ordered c.args.op (c.contains.ensures.0 c.if-not-contains.false) c.op-own.result c.op-own.ensures
    (sym c.is_pure.ensures ∙ c.if-not-is_pure.false) c.in-Some.first c.in-Some.ensures)
    c.merge.result c.merge.ensures.merged c.merge.ensures.kept).merges
