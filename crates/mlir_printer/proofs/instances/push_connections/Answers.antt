use Rattle.std.proofs.Common.{◌≡◌, ◌++◌, map, length, drop, ap, ◌∙◌}
use Rattle.std.specs.Prelude.{codes}
use Rattle.hw_model.specs.TypeViews.{type_of}
use Rattle.mlir_printer.specs.Commas.{commas}
use Rattle.mlir_printer.specs.Elements.{input_bytes, output_bytes, inputs_joined, outputs_joined, connections_bytes}
use Rattle.mlir_printer.specs.Views.{value_held}
use Rattle.mlir_printer.proofs.steps.Steps.{five}
use Rattle.mlir_printer.proofs.steps.Entries.{map_drop}
use Rattle.mlir_printer.proofs.instances.push_connections.Goals as goal

pub returns : goal.returns
unfolding connections_bytes
returns c =
    let os = map (value_held c.args.names.now) c.args.operands.now in
    let ts = map type_of c.args.types.now in
    let ins = c.args.inputs.now in
    let outs = c.args.outputs.now in
    let e : map type_of c.rest_of-following.result.now ≡ drop (length ins) ts =
    ap (map type_of) c.rest_of-following.ensures ∙ map_drop type_of (length ins) c.args.types.now in
    five c.args.out.now c.push_bytes.new.self c.push_inputs.new.out c.push_bytes-2.new.self c.push_outputs.new.out c.push_bytes-3.new.self
    (codes "(") (commas input_bytes (inputs_joined ins os ts)) (codes ") -> (") (commas output_bytes (outputs_joined outs (drop (length ins) ts))) (codes ")")
    c.in_ok-push_bytes.ensures.ok c.in_ok-push_inputs.ensures c.in_ok-push_bytes-2.ensures.ok
    (c.in_ok-push_outputs.ensures ∙ ap (λ x. c.push_bytes-2.new.self ++ commas output_bytes (outputs_joined outs x)) e)
    c.in_ok-push_bytes-3.ensures.ok
