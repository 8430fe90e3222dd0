use Rattle.ir_store.specs.Designs.{design_of}
use Rattle.lec_tool.proofs.Deciding.{decided}
use Rattle.lec_tool.proofs.verdict.decide.Goals as goal

pub returns-in-Ok-clause-decision : goal.returns-in-Ok-clause-decision
returns-in-Ok-clause-decision c =
    let d = design_of c.args.left.now.design in
    let e = design_of c.args.right.now.design in
    decided
    (record {
      differences = c.formulas_are_differences.ensures.differences;
      steps = c.unsatisfiable_formulas_agree.ensures.steps;
      runs = c.unsatisfiable_formulas_agree.ensures.runs;
    })
    d c.args.a.now e c.args.b.now
    c.args.left.now.accepted (c.what_is_canonical_is_printable.ensures d c.args.left.now.accepted c.args.left.now.canonical)
    c.args.right.now.accepted (c.what_is_canonical_is_printable.ensures e c.args.right.now.accepted c.args.right.now.canonical)
    c.in_ok-comparison.comparison c.in_ok-comparison.ensures.ok c.args.budget c.in-Ok.verdict c.in-Ok.ensures
