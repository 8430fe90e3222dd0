use Rattle.std.proofs.Common.{◌++◌, ◌∷◌, [], map, take, get_or, refl, sym, ap, ◌∙◌, arith, append_assoc}
use Rattle.ir_store.specs.declared.operation.Value.TheVariants.{Port}
use Rattle.ir_store.specs.Bodies.{ids_of}
use Rattle.ir_store.specs.Numbered.{position_of, ref_by}
use Rattle.flat_module_gates.specs.Orders.{makers_of}
use Rattle.flat_module_gates.proofs.Orders.{makers_more}
use Rattle.flat_module_gates.proofs.order.push_makers.Goals as goal

pub loop-value-preserved : goal.loop-value-preserved
loop-value-preserved c =
    let f = ref_by (position_of (ids_of c.args.ops.now.body.now)) in
    let vs = c.args.values.now in
    let i = c.loop-value.value-index in
    let v = get_or vs i (Port 0) in
    c.in_ok-push_maker.ensures {u = tt} ∙ ap (λ xs. xs ++ makers_of (f v ∷ [])) c.loop-value.invariant
    ∙ append_assoc c.args.nodes.now.items (makers_of (map f (take i vs))) (makers_of (f v ∷ []))
    ∙ ap (λ zs. c.args.nodes.now.items ++ zs) (sym (makers_more f vs i v (Port 0) (makers_of (f v ∷ [])) (omega arith) refl refl))
