use Rattle.std.proofs.Common.{◌≡◌, ◌≤◌, ◌+◌, map, take, cond, Some, slice_get, refl, ap, ap₂, sym, ◌∙◌, arith}
use Rattle.hw_model.specs.Flat.{operand_for, input_count}
use Rattle.ir_store.specs.declared.design.Port.{Port}
use Rattle.ir_store.specs.Designs.{port_of}
use Rattle.graphs.specs.Graphs.{lists_of}
use Rattle.port_checks.specs.Joins.{bit_port}
use Rattle.port_checks.specs.Seen.{ref_seen}
use Rattle.port_checks.proofs.Operands.{input_count_le, input_count_more, port_here, operands_more}
use Rattle.port_checks.proofs.Pairs.{adds_none}
use Rattle.port_checks.proofs.joins.push_operands.Goals as goal

pub loop-number-init : goal.loop-number-init
loop-number-init c = record {
  inputs = refl;
  pairs = adds_none (lists_of c.args.joined.now.items);
}

pub inputs_after-inputs-requires : goal.inputs_after-inputs-requires
inputs_after-inputs-requires c =
    let ports = map port_of c.args.called.now.ports.now in
    let few : input_count (take c.loop-number.number ports) ≤ c.loop-number.number = input_count_le ports c.loop-number.number in
    omega (arith, few, c.loop-number.invariant.inputs, c.loop-number-test.true)

pub loop-number-preserved : goal.loop-number-preserved
loop-number-preserved c =
    let ports = map port_of c.args.called.now.ports.now in
    let outer = map port_of c.args.caller.now.ports.now in
    let operands = map ref_seen c.args.operands.now in
    let n = c.loop-number.number in
    let x = c.index-called-number.result in
    let here : slice_get ports n ≡ Some (port_of x) = port_here c.args.called.now.ports.now n x c.loop-number-test.true c.index-called-number.is in
    record {
      inputs =
          c.inputs_after-inputs.ensures
          ∙ ap (λ (y : Port). cond y.out c.loop-number.inputs (c.loop-number.inputs + 1)) (sym c.index-called-number.is)
          ∙ ap (λ k. cond x.out k (k + 1)) c.loop-number.invariant.inputs
          ∙ sym (input_count_more ports n (port_of x) here);
      pairs =
          operands_more c.args.starts.now c.args.called.now.number ports c.args.caller.now.number outer operands n
          (lists_of c.args.joined.now.items) (lists_of c.loop-number.joined.items) (lists_of c.push_joined.new.joined.items)
          c.port_number-to.result c.bit_port-value.result c.optional_number.result c.port_number-to.ensures
          (c.bit_port-value.ensures
          ∙ ap (bit_port outer) (c.operand_for.ensures ∙ ap (λ (y : Port). operand_for (Some (port_of y)) operands c.loop-number.inputs) (sym c.index-called-number.is)
          ∙ ap₂ (λ q k. operand_for q operands k) (sym here) c.loop-number.invariant.inputs))
          c.optional_number.ensures c.loop-number.invariant.pairs c.in_ok-push_joined.ensures;
    }
