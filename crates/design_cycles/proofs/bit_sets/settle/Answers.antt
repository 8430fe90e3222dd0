use Rattle.std.proofs.Common.{◌<◌, subst}
use Rattle.graphs.specs.Graphs.{lists_of}
use Rattle.design_cycles.proofs.BitSetLemmas.{settled}
use Rattle.graphs.proofs.Marking.{length-lists}
use Rattle.design_cycles.proofs.bit_sets.settle.Goals as goal

pub returns-then-not-spread : goal.returns-then-not-spread
returns-then-not-spread c =
    settled (lists_of c.args.graph.now) c.args.all.now c.args.bit_sets.now c.loop.bit_sets c.spread-in-loop.new.bit_sets c.spread-in-loop.result c.if-not-spread.true
    (λ v below. c.requires.all v (subst (λ n. v < n) (length-lists c.args.graph.now) below)) c.loop.invariant c.spread-in-loop.ensures
