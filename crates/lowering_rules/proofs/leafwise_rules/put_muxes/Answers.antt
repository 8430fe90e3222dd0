use Rattle.std.proofs.Common.{ℕ, ◌+◌, [], ◌∷◌, ◌++◌, map, drop, sym, ap, ap₂, ◌∙◌, arith}
use Rattle.wiring.proofs.Joined.{split_at}
use Rattle.hw_model.specs.Types.{HwType}
use Rattle.hw_model.specs.TypeViews.{type_of}
use Rattle.hw_model.specs.Kinds.Kind.{mux}
use Rattle.aggregate_laws.specs.Leaves.{part}
use Rattle.aggregate_laws.specs.OperationRules.{made_op, argument, for_each}
use Rattle.lowering_rules.specs.Reading.{plain_of}
use Rattle.lowering_rules.specs.LeafTables.{arguments_of}
use Rattle.lowering_rules.specs.Made.{made_in}
use Rattle.lowering_rules.proofs.ForEach.{for_each_more}
use Rattle.lowering_rules.proofs.leafwise_rules.put_muxes.Goals as goal

pub loop-number-preserved : goal.loop-number-preserved
loop-number-preserved c =
    let o = plain_of c.args.op.now in
    let args = arguments_of c.args.arguments in
    let i = c.loop-number.number in
    let t = type_of c.index-leaves-number.result in
    let each = λ (n : ℕ) (u : HwType). made_op o mux (part (argument 0 args) 0 ∷ part (argument 1 args) n ∷ part (argument 2 args) n ∷ []) (u ∷ []) [] u in
    let split = split_at c.args.leaves.now i c.index-leaves-number.result c.loop-number-test.true c.index-leaves-number.is in
    for_each_more each (made_in c.loop-number.made.items) (made_in c.put_plain.new.made.items) (made_in c.args.made.now.items ++ for_each each 0 (map type_of c.args.leaves.now)) i (i + 1) t (map type_of (drop (i + 1) c.args.leaves.now))
    (c.in_ok-put_plain.ensures
    ∙ ap₂ (λ r rs. made_in c.loop-number.made.items ++ (made_op o mux (r ∷ rs) (t ∷ []) [] t ∷ []))
    (c.part-condition.ensures ∙ ap (λ rs. part rs 0) c.nth.ensures)
    (ap₂ (λ r s. r ∷ s ∷ []) (c.part-high.ensures ∙ ap (λ rs. part rs i) c.nth-in-loop-number.ensures) (c.part-low.ensures ∙ ap (λ rs. part rs i) c.nth-in-loop-number-2.ensures)))
    (omega arith)
    (ap (λ ls. made_in c.loop-number.made.items ++ for_each each i (map type_of ls)) (sym split) ∙ c.loop-number.invariant)
