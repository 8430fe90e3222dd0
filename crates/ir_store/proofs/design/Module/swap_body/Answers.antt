use Rattle.std.proofs.Common.{refl}
use Rattle.ir_store.specs.Bodies.{ops_of}
use Rattle.ir_store.specs.declared.design.Module.{Module}
use Rattle.ir_store.proofs.DesignLemmas.{map_set_same, body_set, read_get}
use Rattle.ir_store.proofs.design.Module.swap_body.Goals as goal

pub returns-clause-symbols : goal.returns-clause-symbols
returns-clause-symbols c = map_set_same (λ (m : Module). m.symbol) c.args.modules.now.items c.args.m c.index_mut-one.result.now _ c.requires c.index_mut-one.ensures.value refl

pub returns-clause-modules : goal.returns-clause-modules
returns-clause-modules c = rw (← c.replace.ensures.after) (body_set c.args.modules.now.items c.args.m c.index_mut-one.result.now c.replace.new.dest c.requires c.index_mut-one.ensures.value)

pub returns-clause-taken : goal.returns-clause-taken
returns-clause-taken c = rw c.replace.ensures.value (read_get (λ (m : Module). ops_of m.body) c.args.modules.now.items c.args.m c.index_mut-one.result.now c.requires c.index_mut-one.ensures.value)
