use Rattle.std.proofs.Common.{[], ap, arith, length}
use Rattle.ir_store.specs.Designs.{modules_of}
use Rattle.inline_pass.proofs.FlatteningBodies.{length-with_ops, taken_inlinable, has_inlined}
use Rattle.inline_pass.proofs.flattening.flatten_body.Goals as goal

pub inline_into-requires : goal.inline_into-requires
inline_into-requires c =
    taken_inlinable (modules_of c.args.design.now) (modules_of c.take_body-body.new.self) c.args.number c.take_body-body.result c.requires.fit c.take_body-body.ensures.body
    c.take_body-body.ensures.modules

pub put_body-requires : goal.put_body-requires
put_body-requires c =
    omega (arith, c.requires.within, ap length c.take_body-body.ensures.modules, length-with_ops c.args.number [] (modules_of c.args.design.now))

pub returns : goal.returns
returns c =
    has_inlined (modules_of c.args.design.now) (modules_of c.take_body-body.new.self) c.args.number c.take_body-body.result c.requires.fit c.take_body-body.ensures.body
    c.take_body-body.ensures.modules c.inline_into.new.body (modules_of c.put_body.new.self) c.in_ok-inline_into.ensures c.put_body.ensures
