use Rattle.miter_blast.proofs.ComparedCopies.{formula_difference, formula_shows, formula_clauses}
use Rattle.miter_blast.proofs.comparison_laws.formulas_are_differences.Goals as goal

pub returns : goal.returns
returns c = record {
  differences = formula_difference;
  shown = formula_shows;
  clauses = formula_clauses;
}
