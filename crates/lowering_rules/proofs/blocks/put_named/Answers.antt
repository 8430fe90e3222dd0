use Rattle.std.proofs.Common.{◌≡◌, ℕ, ◌∷◌, ◌++◌, [], ap, ◌∙◌}
use Rattle.std.proofs.lemmas.Result.{on_ok_weaker}
use Rattle.hw_model.specs.Types.{HwType, Name}
use Rattle.hw_model.specs.Kinds.Kind.{wire}
use Rattle.aggregate_laws.specs.Leaves.{part}
use Rattle.aggregate_laws.specs.OperationRules.{made_op, joined_parts, all_leaves}
use Rattle.aggregate_laws.specs.Aggregates.{name_at, own_names}
use Rattle.lowering_rules.specs.LeafTables.{arguments_of}
use Rattle.lowering_rules.specs.Made.{made_in}
use Rattle.lowering_rules.specs.Reading.{plain_of}
use Rattle.lowering_rules.proofs.OwnNames.{own_name_same, each_same}
use Rattle.lowering_rules.proofs.blocks.put_named.Goals as goal

pub returns : goal.returns
returns c =
    let o = plain_of c.args.op.now in
    let args = arguments_of c.args.arguments in
    let names = c.as_slice.result.now in
    let one = λ (name : Name) (i : ℕ) (t : HwType). made_op o wire (part (joined_parts args) i ∷ []) (t ∷ []) name t in
    let same : (i : ℕ) → name_at names i ≡ own_names o i = λ i. ap (λ ns. name_at ns i) (c.as_slice.ensures.value ∙ c.in_ok-names.ensures) ∙ own_name_same o i in
    let wires = each_same (λ i t. one (name_at names i) i t) (λ i t. one (own_names o i) i t) 0 (all_leaves o) (λ i t. ap (λ name. one name i t) (same i)) in
    on_ok_weaker c.put_join.result (λ put. put ∙ ap (λ os. made_in c.args.made.now.items ++ os) wires) c.put_join.ensures
