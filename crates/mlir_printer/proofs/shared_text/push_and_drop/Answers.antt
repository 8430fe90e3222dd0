use Rattle.std.proofs.Common.{◌++◌, map, rules, sym, ap, ◌∙◌}
use Rattle.std.proofs.lemmas.List.{append-nil, nil_from_length}
use Rattle.ir_store.specs.Designs.{module_of, numbered_module}
use Rattle.mlir_printer.specs.Modules.{module_bytes}
use Rattle.mlir_printer.specs.Texts.{module_shown, stored_bytes}
use Rattle.mlir_printer.proofs.steps.Steps.{added_one}
use Rattle.mlir_printer.proofs.shared_text.push_and_drop.Goals as goal

pub loop-one-preserved : goal.loop-one-preserved
unfolding stored_bytes
loop-one-preserved c = record {
  text =
      added_one c.loop-one.out c.push_with_names.new.out (module_bytes (module_shown (numbered_module (module_of c.in-Some.one))))
      (stored_bytes (map module_of c.next.new.self.rest.items)) (c.args.out.now ++ stored_bytes (map module_of c.args.modules.items))
      (sym (ap (λ l. c.loop-one.out ++ stored_bytes (map module_of l)) c.in-Some.ensures.steps.0) ∙ c.loop-one.invariant.text) c.in_ok-names.ensures;
  left = search rules;
}

pub returns : goal.returns
unfolding stored_bytes
returns c =
    let none = nil_from_length c.loop-one.one-iterator.rest.items (sym c.loop-one.invariant.left ∙ c.in-None.ensures.steps.0) in
    sym (append-nil c.loop-one.out) ∙ sym (ap (λ l. c.loop-one.out ++ stored_bytes (map module_of l)) none) ∙ c.loop-one.invariant.text
