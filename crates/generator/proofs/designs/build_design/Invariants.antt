use Rattle.std.proofs.Common.{◌≡◌, ◌*◌}
use Rattle.ir_store.specs.Designs.{design_of}
use Rattle.generator.specs.Draws.{state_after}
use Rattle.generator.specs.Generated.{first_modules}
use Rattle.generator.proofs.designs.build_design.Given as goal

abbrev pub invariant-loop-k : goal.invariant-loop-k
invariant-loop-k l = record {
  made : design_of l.design ≡ first_modules l.fn.seed l.fn.n l.k;
  state : l.draws.state ≡ state_after l.fn.seed (4 * l.k);
}
