use Rattle.ir_store.specs.Designs.{design_of, modules_of, module_of}
use Rattle.shared_schedule.specs.Views.{callees_in}
use Rattle.pass_manager.proofs.FlatBodies.{header_within, kept_none, kept_all}
use Rattle.pass_manager.proofs.flat_work.FlatWorkWorkFlatBodies.keep.Goals as goal

pub module-requires : goal.module-requires
module-requires c = header_within (design_of c.args.plan.now.pieces.before.value) (modules_of c.args.plan.now.pieces.headers.now) (callees_in c.args.plan.now) c.args.m c.requires.lists c.requires.within

pub returns-then-module : goal.returns-then-module
returns-then-module c =
    kept_none (design_of c.args.plan.now.pieces.before.value) (modules_of c.args.plan.now.pieces.headers.now) (callees_in c.args.plan.now) c.args.m (module_of c.module.result.now)
    c.in_ok-new.field-0 c.new-empty.result c.requires.lists c.module.ensures c.if-module.true c.new-empty.ensures.ops c.in_ok-new.ensures.ok

pub returns : goal.returns
returns c =
    kept_all (design_of c.args.plan.now.pieces.before.value) (modules_of c.args.plan.now.pieces.headers.now) (callees_in c.args.plan.now) c.args.m (module_of c.module.result.now) c.args.body
    c.requires.lists c.module.ensures c.if-module.false c.requires.made
