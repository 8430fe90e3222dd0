use Rattle.std.proofs.Common.{rules, ◌≡◌, ◌∷◌, length, ap, arith}
use Rattle.ir_store.specs.Designs.{ports_in}
use Rattle.lec_tool.specs.LeafNames.{input_names}
use Rattle.lec_tool.proofs.LeafLists.{name_step}
use Rattle.lec_tool.proofs.names.input_names.Goals as goal

pub loop-name-preserved : goal.loop-name-preserved
loop-name-preserved c =
    let ps = ports_in c.args.ports.now in
    let left = c.next.new.self.rest.items in
    record {
      made = name_step ps c.loop-name.position c.in-Some.name left c.loop-name.kept.items c.push_unless.new.names.items (input_names ps c.args.names.items) c.loop-name.name-iterator.rest.items c.is_output.result
          c.is_output.ensures c.in_ok-push_unless.ensures c.in-Some.ensures.steps.0 c.loop-name.invariant.made;
      left = search rules;
      count = let one : length c.loop-name.name-iterator.rest.items ≡ length (c.in-Some.name ∷ left) = ap length c.in-Some.ensures.steps.0 in omega (arith, one, c.loop-name.invariant.count);
    }
