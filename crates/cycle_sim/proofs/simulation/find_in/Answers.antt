use Rattle.std.proofs.Common.{map, ap, subst}
use Rattle.ir_store.specs.Designs.{numbered_module, design_of}
use Rattle.miter_blast.specs.Pairs.{IsFoundAt}
use Rattle.miter_blast.proofs.Finding.{found_at}
use Rattle.cycle_sim.proofs.simulation.find_in.Goals as goal

pub returns : goal.returns
returns c =
    subst (λ d. IsFoundAt d c.args.symbol.now c.find.result) (ap (map numbered_module) c.design.ensures)
    (found_at (design_of c.design.result.now) c.args.symbol.now c.find.result c.find.ensures.module c.find.ensures.some)
