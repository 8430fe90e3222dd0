use Rattle.std.proofs.Common.{◌≡◌, ◌+◌, [], ◌∷◌, ◌++◌, length, sym, ap, ◌∙◌}
use Rattle.std.proofs.lemmas.List.{map-append}
use Rattle.std.specs.Global.{Vec}
use Rattle.ir_store.specs.declared.operation.Value.{Value}
use Rattle.aggregate_laws.specs.Leaves.{in_row}
use Rattle.aggregate_laws.specs.Rules.{Rule}
use Rattle.aggregate_laws.specs.OperationRules.{all_leaves}
use Rattle.aggregate_laws.specs.Aggregates.{rule_of}
use Rattle.lowering_rules.specs.FormRules.{form_rule}
use Rattle.lowering_rules.specs.Reading.{plain_of}
use Rattle.lowering_rules.specs.LeafTables.{all_refs_in, refs_in}
use Rattle.lowering_rules.proofs.SameRules.{same_shape}
use Rattle.lowering_rules.proofs.TableRules.{op_table}
use Rattle.lowering_rules.proofs.leaf_table.BlockTable.add.Goals as goal

pub returns : goal.returns
returns c named rs =
    let o = plain_of c.args.op.now in
    let form : form_rule named c.form_of.result o ≡ rule_of named o o.kind = c.form_of.ensures named in
    let has = c.in_ok-shape.ensures named in
    let count : c.in_ok-shape.shape.count ≡ (rule_of named o o.kind).count = has.count ∙ ap (λ (rule : Rule). rule.count) form in
    let offsets : c.in_ok-shape.shape.offsets.items ≡ in_row (rule_of named o o.kind).position 0 (length (all_leaves o)) = has.offsets ∙ ap (λ (rule : Rule). in_row rule.position 0 (length (all_leaves o))) form in
    let old = c.args.self.now.results.items in
    record {
      end_is = c.in_ok-end.ensures ∙ ap (λ n. c.args.start + n) (count ∙ sym ((same_shape named o rs o.kind).count));
      results = ap all_refs_in c.in_ok-push.ensures.items ∙ map-append (λ (vs : Vec (Vec Value)). refs_in vs.items) old (c.in_ok-leaves.leaves ∷ [])
          ∙ ap (λ own. all_refs_in old ++ own ∷ []) (c.in_ok-leaves.ensures ∙ op_table named o rs c.args.start c.in_ok-shape.shape.offsets.items offsets);
      starts = c.in_ok-push-2.ensures.items;
      ends = c.in_ok-push-3.ensures.items;
    }
