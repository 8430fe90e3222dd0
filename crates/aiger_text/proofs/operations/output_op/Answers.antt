use Rattle.std.proofs.Common.{map, sym, ap, ◌∙◌}
use Rattle.std.proofs.lemmas.List.{length-map}
use Rattle.hw_model.specs.TypeViews.{type_of}
use Rattle.ir_store.specs.Numbered.{ref_by}
use Rattle.ir_store.specs.OperationViews.{types_in, result_of, results_in}
use Rattle.aiger_text.specs.Seen.{op_seen, bit_types}
use Rattle.aiger_text.proofs.MadeOps.{output_seen}
use Rattle.aiger_text.proofs.operations.output_op.Goals as goal

pub returns : goal.returns
returns c =
    output_seen (op_seen c.in_ok-op.op) (types_in c.of.result) (results_in c.new.result) (map (ref_by (λ i. i)) c.args.operands.items) c.in_ok-op.ensures
    (ap (map type_of) c.of.ensures ∙ c.in_ok-types.ensures ∙ ap bit_types (c.len.ensures.value ∙ sym (length-map c.args.operands.items (ref_by (λ i. i)))))
    (ap (map result_of) c.new.ensures)
