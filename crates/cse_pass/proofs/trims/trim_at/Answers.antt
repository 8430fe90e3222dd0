use Rattle.std.proofs.Common.{◌≡◌, false, sym, ◌∙◌}
use Rattle.std.specs.Prelude.{is_some}
use Rattle.fold_laws.specs.Unused.{fold_unused}
use Rattle.body_edits.specs.Views.{body_ops, position_in}
use Rattle.body_edits.proofs.FitOps.{fit_live}
use Rattle.body_edits.proofs.UnusedPattern.{pure_test, other_test}
use Rattle.cse_pass.proofs.Trimming.{taken_trimmed, taken_ids, trimmed_fit, stays_trimmed}
use Rattle.cse_pass.proofs.trims.trim_at.Goals as goal
use Rattle.cse_pass.proofs.trims.trim_at.Goals.{else-is_pure-via-then-is_pure+else-is_unused, else-is_pure-via-else-is_pure}

pub returns-then-is_unused-clause-erased : goal.returns-then-is_unused-clause-erased
returns-then-is_unused-clause-erased c =
    sym c.if-is_unused.true
    ∙ pure_test c.args.body.now c.args.op c.op.result c.is_unused.result (fit_live c.args.body.now c.requires.fit) c.requires.live c.op.ensures (sym c.is_pure.ensures ∙ c.if-is_pure.true) c.is_unused.ensures

pub returns-then-is_unused-clause-ops : goal.returns-then-is_unused-clause-ops
returns-then-is_unused-clause-ops c =
    taken_trimmed c.args.body.now c.erase.new.self c.requires.fit c.args.op c.requires.live (c.is_unused.ensures.0 c.if-is_unused.true)
    (sym c.if-is_unused.true
    ∙ pure_test c.args.body.now c.args.op c.op.result c.is_unused.result (fit_live c.args.body.now c.requires.fit) c.requires.live c.op.ensures (sym c.is_pure.ensures ∙ c.if-is_pure.true) c.is_unused.ensures)
    c.erase.ensures.ops

pub returns-then-is_unused-clause-ids : goal.returns-then-is_unused-clause-ids
returns-then-is_unused-clause-ids c = taken_ids c.args.body.now c.erase.new.self c.requires.fit c.args.op c.requires.live c.erase.ensures.ops

pub returns-then-is_unused-clause-fit : goal.returns-then-is_unused-clause-fit
returns-then-is_unused-clause-fit c =
    trimmed_fit c.args.body.now c.erase.new.self c.requires.fit c.args.op c.requires.live
    (taken_trimmed c.args.body.now c.erase.new.self c.requires.fit c.args.op c.requires.live (c.is_unused.ensures.0 c.if-is_unused.true)
    (sym c.if-is_unused.true
    ∙ pure_test c.args.body.now c.args.op c.op.result c.is_unused.result (fit_live c.args.body.now c.requires.fit) c.requires.live c.op.ensures (sym c.is_pure.ensures ∙ c.if-is_pure.true) c.is_unused.ensures)
    c.erase.ensures.ops)

pub returns-clause-erased : goal.returns-clause-erased
returns-clause-erased c =
    elim c.else-is_pure.branch [
      | else-is_pure-via-then-is_pure+else-is_unused w ↦
          sym w.if-is_unused.false
          ∙ pure_test c.args.body.now c.args.op c.op.result w.is_unused.result (fit_live c.args.body.now c.requires.fit) c.requires.live c.op.ensures (sym c.is_pure.ensures ∙ w.if-is_pure.true) w.is_unused.ensures
      | else-is_pure-via-else-is_pure w ↦ other_test c.args.body.now c.args.op c.op.result c.op.ensures (sym c.is_pure.ensures ∙ w.if-is_pure.false)
    ]

pub returns-clause-ops : goal.returns-clause-ops
returns-clause-ops c =
    let stays : false ≡ is_some (fold_unused (body_ops c.args.body.now) (position_in c.args.body.now c.args.op)) =
    elim c.else-is_pure.branch [
      | else-is_pure-via-then-is_pure+else-is_unused w ↦
          sym w.if-is_unused.false
          ∙ pure_test c.args.body.now c.args.op c.op.result w.is_unused.result (fit_live c.args.body.now c.requires.fit) c.requires.live c.op.ensures (sym c.is_pure.ensures ∙ w.if-is_pure.true) w.is_unused.ensures
      | else-is_pure-via-else-is_pure w ↦ other_test c.args.body.now c.args.op c.op.result c.op.ensures (sym c.is_pure.ensures ∙ w.if-is_pure.false)
    ] in
    stays_trimmed (body_ops c.args.body.now) (position_in c.args.body.now c.args.op) stays
