use Rattle.std.proofs.Common.{subst, sym}
use Rattle.graphs.specs.Graphs.{lists_of}
use Rattle.design_cycles.specs.Summing.{AreInputs}
use Rattle.design_cycles.proofs.Inputs.{if_ok, inputs_reached}
use Rattle.design_cycles.proofs.summaries.inputs_of.Goals as goal

pub returns-in_ok-marks-in-Some : goal.returns-in_ok-marks-in-Some
returns-in_ok-marks-in-Some c =
    if_ok _ _ c.marked_inputs.result
    (λ list are. subst (λ n. AreInputs (lists_of c.args.graph.now) c.args.inputs.now n list.nodes.items) (sym c.in-Some.is)
    (inputs_reached (lists_of c.args.graph.now) c.args.inputs.now c.in-Some.start c.in_ok-marks-in-Some.marks.items c.as_slice.result.now list.nodes.items c.in_ok-marks-in-Some.ensures
    c.as_slice.ensures.value are))
    c.marked_inputs.ensures
