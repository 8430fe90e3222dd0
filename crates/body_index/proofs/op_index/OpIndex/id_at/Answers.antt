use Rattle.std.proofs.Common.{ap, ◌∙◌, arith}
use Rattle.ir_store.specs.Bodies.{ids_of}
use Rattle.ir_store.specs.Numbered.{position_of}
use Rattle.ir_store.specs.declared.operation.OpId.{OpId}
use Rattle.body_index.proofs.ReadOps.{position_at, ids_numbered}
use Rattle.body_index.proofs.op_index.OpIndex.id_at.Goals as goal

pub index-requires : goal.index-requires
index-requires c =
    let s = c.args.self.now in
    omega (arith, c.requires, ids_numbered s.body.now s.ids.items s.all, s.ids.ok.0)

pub returns : goal.returns
returns c =
    let s = c.args.self.now in
    ap (λ (i : OpId). position_of (ids_of s.body.now) i.index) c.index.ensures
    ∙ position_at s.body.now s.ids.items s.all c.args.position (omega (arith, c.requires, ids_numbered s.body.now s.ids.items s.all)) c.index.result.now
