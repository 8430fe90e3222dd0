use Rattle.std.proofs.Common.{◌≡◌, true, false, sym, ◌∙◌}
use Rattle.body_edits.proofs.FitOps.{fit_live}
use Rattle.body_edits.proofs.NestedReads.{inner_alone, own_nested, other_kind, other_uses, absent_nested, found_nested}
use Rattle.body_edits.proofs.nested.nested_result.Goals as goal
use Rattle.body_edits.proofs.nested.nested_result.Goals.{then-eq-via-then-eq, then-eq-via-else-eq+then-not-contains, else-holds-via-then-holds+else-has_one_use, else-holds-via-else-holds}

pub returns-then-eq : goal.returns-then-eq
returns-then-eq c = elim c.then-eq.branch [
  | then-eq-via-then-eq w ↦ own_nested c.args.body.now c.args.op c.args.id c.args.kinds c.args.number (sym c.eq.ensures ∙ w.if-eq.true)
  | then-eq-via-else-eq+then-not-contains w ↦ absent_nested c.args.body.now c.args.op c.args.id c.args.kinds c.args.number (λ there. let clash : false ≡ true = sym w.if-not-contains.true ∙ w.contains.ensures.1 there in cc)
]

pub has_one_use-requires-clause-operands : goal.has_one_use-requires-clause-operands
has_one_use-requires-clause-operands c = fit_live c.args.body.now c.requires.fit

pub has_one_use-requires-clause-alone : goal.has_one_use-requires-clause-alone
has_one_use-requires-clause-alone c =
    inner_alone c.args.body.now c.args.id c.op-inner.result c.args.kinds c.requires.fit c.op-inner.ensures (sym c.holds.ensures ∙ c.if-holds.true)

pub returns-then-has_one_use : goal.returns-then-has_one_use
returns-then-has_one_use c =
    found_nested c.args.body.now c.args.op c.args.id c.args.kinds c.args.number c.op-inner.result c.op-inner.ensures (c.contains.ensures.0 c.if-not-contains.false) c.requires.live
    (sym c.eq.ensures ∙ c.if-eq.false) (sym c.holds.ensures ∙ c.if-holds.true) (sym c.has_one_use.ensures ∙ c.if-has_one_use.true)

pub returns-else-holds : goal.returns-else-holds
returns-else-holds c = elim c.else-holds.branch [
  | else-holds-via-then-holds+else-has_one_use w ↦ other_uses c.args.body.now c.args.op c.args.id c.args.kinds c.args.number c.op-inner.result c.op-inner.ensures (sym w.has_one_use.ensures ∙ w.if-has_one_use.false)
  | else-holds-via-else-holds w ↦ other_kind c.args.body.now c.args.op c.args.id c.args.kinds c.args.number c.op-inner.result c.op-inner.ensures (sym c.holds.ensures ∙ w.if-holds.false)
]
