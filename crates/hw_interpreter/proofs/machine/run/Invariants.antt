use Rattle.std.proofs.Common.{◌≡◌, ◌++◌, drop, map}
use Rattle.hw_interpreter.specs.DesignViews.{module_of}
use Rattle.hw_interpreter.specs.Depth.{run_after_within, run_within}
use Rattle.hw_interpreter.specs.SuitsWithin.{TakesRunAfter, TakesRun}
use Rattle.hw_interpreter.proofs.machine.run.Given as goal

abbrev pub invariant-loop-inputs : goal.invariant-loop-inputs
invariant-loop-inputs l = record {
  outputs :
      l.outputs.items ++ run_after_within (map module_of l.modules) l.top l.depth l.before l.held (drop l.inputs-index l.steps)
      ≡ run_within (map module_of l.modules) l.top l.depth l.content l.steps;
  takes :
      TakesRun (map module_of l.modules) l.top l.depth l.content l.steps
      → TakesRunAfter (map module_of l.modules) l.top l.depth l.before l.held (drop l.inputs-index l.steps);
}
