use Rattle.std.proofs.Common.{◌≡◌, ◌++◌, length}
use Rattle.step_file.specs.Answers.{rows_in}
use Rattle.flat_steps.specs.Plans.{ports_of, body_of}
use Rattle.flat_steps.specs.Runs.{run_outputs}
use Rattle.cycle_sim.specs.RunLines.{words_lines}
use Rattle.cycle_sim.specs.FlatRuns.{StepsFit}
use Rattle.cycle_sim.proofs.flat_run.steps_lines.Given as goal

abbrev pub invariant-loop-row : goal.invariant-loop-row
invariant-loop-row l = record {
  lines : l.text ++ words_lines (run_outputs (ports_of l.plan) (body_of l.plan) l.order (rows_in l.left) l.tables.ports.items l.tables.results.items)
      ≡ words_lines (run_outputs (ports_of l.plan) (body_of l.plan) l.order (rows_in l.steps) l.fn.tables.ports.items l.fn.tables.results.items);
  fits : StepsFit (ports_of l.plan) (body_of l.plan) l.order (rows_in l.left) l.tables.ports.items l.tables.results.items;
}

abbrev pub decreases-loop-row : goal.decreases-loop-row
decreases-loop-row l = length l.left
