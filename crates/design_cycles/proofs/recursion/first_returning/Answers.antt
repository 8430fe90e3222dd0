use Rattle.std.proofs.Common.{◌<◌, length, arith, ap, subst, MatchBool}
use Rattle.std.proofs.lemmas.List.{length-map}
use Rattle.ir_store.specs.Bodies.{ids_of, op_id}
use Rattle.ir_store.specs.Designs.{modules_of, design_of, module_of}
use Rattle.design_cycles.specs.Asked.{IsRecursiveAt}
use Rattle.graphs.specs.Graphs.{lists_of}
use Rattle.design_cycles.specs.Graphs.{LeadsTo}
use Rattle.design_cycles.specs.Positions.{ids_at}
use Rattle.design_cycles.proofs.Returning.{position_returns, position_not, none_more, first_found, recursive_within, id_at_position}
use Rattle.design_cycles.proofs.recursion.first_returning.Goals as goal

pub returns-then-branch : goal.returns-then-branch
returns-then-branch c =
    let leads = subst (λ b. MatchBool b (LeadsTo (lists_of c.args.graph.now) c.callee_of-callee.result c.args.number) (LeadsTo (lists_of c.args.graph.now) c.callee_of-callee.result c.args.number → ⊥))
    c.if-branch.true c.in_ok-leads_to.ensures in
    first_found (IsRecursiveAt (design_of c.args.design.now) c.args.number) (ids_at (modules_of c.args.design.now) c.args.number) c.loop-position.position c.index.result.now
    c.loop-position.invariant
    (position_returns (modules_of c.args.design.now) c.requires.distinct c.args.number (module_of c.module.result.now) c.module.ensures c.loop-position.position c.callee_of-callee.result
    c.callee_of-callee.ensures (subst (λ ls. LeadsTo ls c.callee_of-callee.result c.args.number) c.requires.calls leads))
    (id_at_position (modules_of c.args.design.now) c.args.number (module_of c.module.result.now) c.in_ok-ids.ids.items c.loop-position.position c.index.result.now c.index.result.now
    c.module.ensures c.in_ok-ids.ensures (omega (arith, c.len-position-end.ensures, c.in_ok-ids.ids.ok.0)) c.index.ensures)

pub loop-position-preserved : goal.loop-position-preserved
loop-position-preserved c =
    let not_leads = subst (λ b. MatchBool b (LeadsTo (lists_of c.args.graph.now) c.callee_of-callee.result c.args.number) (LeadsTo (lists_of c.args.graph.now) c.callee_of-callee.result c.args.number → ⊥))
    c.if-branch.false c.in_ok-leads_to.ensures in
    none_more (IsRecursiveAt (design_of c.args.design.now) c.args.number) c.loop-position.position c.loop-position.invariant
    (position_not (modules_of c.args.design.now) c.requires.distinct c.args.number (module_of c.module.result.now) c.module.ensures c.loop-position.position c.callee_of-callee.result
    c.callee_of-callee.ensures (subst (λ ls. LeadsTo ls c.callee_of-callee.result c.args.number → ⊥) c.requires.calls not_leads))

pub returns : goal.returns
returns c =
    λ j r.
    let bound : j < length (ids_of c.module.result.now.body) = recursive_within (modules_of c.args.design.now) c.args.number (module_of c.module.result.now) c.module.ensures j r in
    c.loop-position.invariant j
    (omega (arith, bound, c.loop-position-test.false, c.len-position-end.ensures, c.in_ok-ids.ids.ok.0, ap length c.in_ok-ids.ensures, length-map (ids_of c.module.result.now.body) op_id)) r
