use Rattle.std.proofs.Common.{◌≡◌, ◌++◌, ◌-◌, true, length, map, replicate, refl, ap, ◌∙◌, arith}
use Rattle.hw_model.specs.KindViews.{kind_of}
use Rattle.ir_store.specs.Designs.{design_of}
use Rattle.aggregate_laws.specs.Aggregates.{rule_of}
use Rattle.lowering_rules.specs.LeafTables.{arguments_of}
use Rattle.lowering_rules.specs.LoweringRules.{leaf_named}
use Rattle.lowering_rules.specs.Made.{made_in}
use Rattle.lowering_rules.specs.Reading.{plain_of, new_refs}
use Rattle.aggregate_lower.specs.MadeBodies.{carried_ref}
use Rattle.aggregate_lower.proofs.MadeParts.{from_none, wires_added}
use Rattle.aggregate_lower.proofs.made.Made.add_wires.Goals as goal

pub returns : goal.returns
returns c =
    let block = (rule_of (leaf_named (design_of c.args.callees.now.design.now)) (plain_of c.args.op.now) (kind_of c.args.op.now.kind.now)).made (arguments_of c.args.arguments) c.args.start in
    let old = c.args.self.now in
    let size : c.put_block.new.made.len ≡ length c.put_block.new.made.items = omega (arith, c.put_block.new.made.ok.0) in
    wires_added block c.put_block.new.made.items old (record { kept = old.kept; flags = c.push_flags.new.flags; targets = c.push_carried.new.targets })
    (from_none c.new-wires.result.items c.put_block.new.made.items block c.new-wires.ensures.items c.in_ok-put_block.ensures) refl
    (c.in_ok-push_flags.ensures ∙ ap (λ n. old.flags.items ++ replicate (n - 0) true) (c.len.ensures ∙ size))
    (c.in_ok-push_carried.ensures ∙ ap (λ xs. new_refs old.targets.items ++ map carried_ref (made_in xs)) c.as_slice.ensures.value)
