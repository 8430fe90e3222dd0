use Rattle.std.proofs.Common.{◌≡◌, ◌<◌, ◌≤◌, length, arith}
use Rattle.ir_store.specs.Designs.{module_of, modules_of}
use Rattle.generator.proofs.Steps.{design_more, state_more, count_modules}
use Rattle.generator.proofs.designs.build_design.Goals as goal

pub add_module-requires : goal.add_module-requires
add_module-requires c =
    let count : length (modules_of c.loop-k.design) ≡ c.loop-k.k = count_modules c.args.seed c.args.n c.loop-k.k (modules_of c.loop-k.design) c.loop-k.invariant.made in
    let low : c.loop-k.k < c.args.n = c.loop-k-test.true in
    let few : c.args.n ≤ 10000 = c.requires in
    omega arith

pub loop-k-preserved : goal.loop-k-preserved
loop-k-preserved c = record {
  made = design_more c.args.seed c.args.n c.loop-k.k c.loop-k.draws.state (modules_of c.loop-k.design) (modules_of c.add_module.new.self)
      (module_of c.in_ok-generated_module.field-0) c.in_ok-add_module.ensures.ok c.loop-k.invariant.made c.loop-k.invariant.state c.in_ok-generated_module.ensures.made;
  state = state_more c.args.seed c.loop-k.k c.loop-k.draws.state c.generated_module.new.draws.state c.in_ok-generated_module.ensures.state c.loop-k.invariant.state;
}
