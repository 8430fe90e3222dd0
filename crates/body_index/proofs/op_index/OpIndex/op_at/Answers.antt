use Rattle.std.proofs.Common.{◌<◌, length, ap, sym, subst, ◌∙◌}
use Rattle.std.proofs.lemmas.List.{length-map}
use Rattle.ir_store.specs.BodyOps.{BodyOp}
use Rattle.ir_store.specs.Bodies.{ops_of, ids_of, op_id}
use Rattle.ir_store.specs.Numbered.{op_by, position_of}
use Rattle.body_index.proofs.op_index.OpIndex.op_at.Goals as goal

pub op_at-requires : goal.op_at-requires
op_at-requires c = record {
  all = c.as_slice.ensures.value ∙ c.args.self.now.all;
  within = subst (λ n. c.args.position < n)
      (length-map (ops_of c.args.self.now.body.now) (op_by (position_of (ids_of c.args.self.now.body.now)))
      ∙ sym (length-map (ops_of c.args.self.now.body.now) (λ (o : BodyOp). o.id))
      ∙ sym (length-map (ids_of c.args.self.now.body.now) op_id)
      ∙ ap length (sym (c.as_slice.ensures.value ∙ c.args.self.now.all))) c.requires;
}
