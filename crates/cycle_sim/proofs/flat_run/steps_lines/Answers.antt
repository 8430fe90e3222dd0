use Rattle.std.proofs.Common.{◌∙◌}
use Rattle.flat_steps.specs.Plans.{ports_of, body_of}
use Rattle.cycle_sim.proofs.TableRuns.{row_fits, others_fit, lines_left}
use Rattle.cycle_sim.proofs.flat_run.steps_lines.Goals as goal

pub step-requires : goal.step-requires
step-requires c =
    row_fits (ports_of c.args.plan.now) (body_of c.args.plan.now) c.args.order.now c.loop-row.left.now c.in-Some.row.now c.in-Some.others.now c.in-Some.ensures.cases.0
    c.as_slice-inputs.result.now c.as_slice-inputs.ensures.value c.loop-row.tables.ports.items c.loop-row.tables.results.items c.loop-row.invariant.fits

pub loop-row-preserved : goal.loop-row-preserved
loop-row-preserved c =
    let ps = ports_of c.args.plan.now in
    let os = body_of c.args.plan.now in
    let rows = c.loop-row.left.now in
    record {
      lines = lines_left ps os c.args.order.now rows c.in-Some.row.now c.in-Some.others.now c.in-Some.ensures.cases.0
          c.as_slice-inputs.result.now c.as_slice-inputs.ensures.value c.loop-row.tables.ports.items c.loop-row.tables.results.items
          c.step.new.self.ports.items c.step.new.self.results.items c.in_ok-step.ensures.ports c.in_ok-step.ensures.results
          c.as_slice-words.result.now c.loop-row.text c.push_line.new.text (c.as_slice-words.ensures.value ∙ c.in_ok-step.ensures.outputs) c.in_ok-push_line.ensures
          ∙ c.loop-row.invariant.lines;
      fits = others_fit ps os c.args.order.now rows c.in-Some.row.now c.in-Some.others.now c.in-Some.ensures.cases.0
          c.as_slice-inputs.result.now c.as_slice-inputs.ensures.value c.loop-row.tables.ports.items c.loop-row.tables.results.items
          c.step.new.self.ports.items c.step.new.self.results.items c.in_ok-step.ensures.ports c.in_ok-step.ensures.results c.loop-row.invariant.fits;
    }
