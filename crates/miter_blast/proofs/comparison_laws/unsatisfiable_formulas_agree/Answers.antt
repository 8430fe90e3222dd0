use Rattle.miter_blast.proofs.ComparedCopies.{formula_agrees, formula_runs}
use Rattle.miter_blast.proofs.comparison_laws.unsatisfiable_formulas_agree.Goals as goal

pub returns : goal.returns
returns c = record {
  steps = formula_agrees;
  runs = formula_runs;
}
