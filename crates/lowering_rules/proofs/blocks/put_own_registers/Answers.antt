use Rattle.std.proofs.Common.{ℕ, ◌∷◌, ◌++◌, [], map, ap, ◌∙◌}
use Rattle.std.proofs.lemmas.Result.{on_ok_weaker}
use Rattle.hw_model.specs.Types.{HwType, Name}
use Rattle.hw_model.specs.TypeViews.{type_of}
use Rattle.hw_model.specs.Design.{result_type}
use Rattle.aggregate_laws.specs.Leaves.{leaf_operands, leaves_of}
use Rattle.aggregate_laws.specs.OperationRules.{made_op, for_each}
use Rattle.aggregate_laws.specs.Aggregates.{name_at, own_names}
use Rattle.lowering_rules.specs.FormRules.{register_form_of}
use Rattle.lowering_rules.specs.LeafTables.{arguments_of}
use Rattle.lowering_rules.specs.Made.{made_in}
use Rattle.lowering_rules.specs.Names.{own_name_list}
use Rattle.lowering_rules.specs.Reading.{plain_of}
use Rattle.lowering_rules.proofs.OwnNames.{own_name_same, each_same}
use Rattle.lowering_rules.proofs.blocks.put_own_registers.Goals as goal

pub returns : goal.returns
returns c =
    let o = plain_of c.args.op.now in
    let form = register_form_of c.args.form in
    let one = λ (name : Name) (i : ℕ) (t : HwType). made_op o o.kind (leaf_operands form.has_enable form.reset (arguments_of c.args.arguments) i) (t ∷ []) name t in
    let each = λ (i : ℕ) (t : HwType). one (name_at (own_name_list o) i) i t in
    let registers =
    ap (for_each each 0) (ap (map type_of) c.as_slice.ensures.value ∙ c.in_ok-leaves.ensures)
    ∙ each_same each (λ i t. one (own_names o i) i t) 0 (leaves_of (result_type o 0)) (λ i t. ap (λ name. one name i t) (own_name_same o i)) in
    on_ok_weaker c.put_registers.result (λ put. put ∙ ap (λ os. made_in c.args.made.now.items ++ os) registers) c.put_registers.ensures
