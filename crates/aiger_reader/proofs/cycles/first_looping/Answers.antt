use Rattle.std.proofs.Common.{◌<◌, Bool, below_more, subst, arith, length}
use Rattle.std.specs.Prelude.{MatchBool}
use Rattle.graphs.proofs.Marking.{edges_within}
use Rattle.aiger_reader.specs.Searched.{lists_in, IsLooping}
use Rattle.aiger_reader.proofs.Searching.{length-lists}
use Rattle.aiger_reader.proofs.cycles.first_looping.Goals as goal

pub loop-place-preserved : goal.loop-place-preserved
loop-place-preserved c =
    below_more _ _ c.loop-place.invariant
    (subst (λ (b : Bool). MatchBool b (IsLooping (lists_in c.args.needs.now) c.loop-place.place) (IsLooping (lists_in c.args.needs.now) c.loop-place.place → ⊥)) c.if-branch.false c.in_ok-is_looping.ensures)

pub returns-clause-first : goal.returns-clause-first
returns-clause-first c j loop =
    let within : j < length (lists_in c.args.needs.now) = edges_within (lists_in c.args.needs.now) j loop.1 loop.2 in
    c.loop-place.invariant j (omega (arith, within, length-lists c.args.needs.now, c.loop-place-test.false)) loop
