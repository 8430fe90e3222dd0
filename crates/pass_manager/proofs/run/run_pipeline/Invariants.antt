use Rattle.std.proofs.Common.{drop, Option}
use Rattle.ir_store.specs.Designs.{design_of}
use Rattle.hw_model.specs.Design.{Design}
use Rattle.op_verifier.specs.Verdict.{IsAccepted}
use Rattle.printing_laws.specs.Printable.{Printable}
use Rattle.shared_schedule.specs.Visits.{History}
use Rattle.pass_manager.specs.Results.{IsResult}
use Rattle.pass_manager.specs.Visits.{AreToldOf}
use Rattle.pass_manager.proofs.run.run_pipeline.Given as goal

abbrev pub invariant-loop-pass : goal.invariant-loop-pass
invariant-loop-pass g l = record {
  accepted : IsAccepted (design_of l.made);
  printable : Printable (design_of l.made);
  made : (f : Design) → IsResult (drop l.pass-index l.pass-items) (design_of l.made) f → IsResult l.pass-items (design_of l.initial.made) f;
  told : (t : Option History) → AreToldOf (drop l.pass-index l.pass-items) (design_of l.made) (g.G.Gate.told l.gate) t
      → AreToldOf l.pass-items (design_of l.initial.made) (g.G.Gate.told l.fn.gate) t;
}
