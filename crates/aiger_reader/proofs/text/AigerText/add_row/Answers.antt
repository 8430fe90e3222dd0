use Rattle.std.proofs.Common.{rules, ◌≡◌, ◌<◌, ◌≤◌, length, subst, arith}
use Rattle.std.specs.Prelude.{IfOk, Result}
use Rattle.aiger_laws.specs.declared.fault.Fault.{Fault}
use Rattle.aiger_laws.specs.Trees.{Aiger}
use Rattle.aiger_laws.specs.Fields.{fields}
use Rattle.aiger_reader.specs.Headers.{header_in}
use Rattle.aiger_reader.specs.Kept.{tree_of, Adds}
use Rattle.aiger_reader.proofs.SaturatedRows.{ample_parts}
use Rattle.aiger_reader.proofs.AddedRows.{row_input, row_latch, row_output, row_gate, gates_few}
use Rattle.aiger_reader.proofs.text.AigerText.add_row.Goals as goal

pub add_gate-requires-clause-few : goal.add_gate-requires-clause-few
add_gate-requires-clause-few c =
    let inputs : c.len.result ≡ length c.args.self.now.inputs.items = search rules in
    let latches : c.len-else-len-header.result ≡ length c.args.self.now.latches.items = search rules in
    let outputs : c.len-else-len-header-2.result ≡ length c.args.self.now.outputs.items = search rules in
    gates_few (header_in c.args.header) (tree_of c.args.self.now) c.requires.ample c.requires.more
    (omega (arith, inputs, c.if-len-header.false)) (omega (arith, latches, c.if-len-header-2.false)) (omega (arith, outputs, c.if-len-header-3.false))

pub returns-then-len-header-clause-adds : goal.returns-then-len-header-clause-adds
returns-then-len-header-clause-adds c =
    let inputs : c.len.result ≡ length c.args.self.now.inputs.items = search rules in
    subst (λ (r : Result Aiger Fault). IfOk c.add_input.result (λ fault. Adds r fault (tree_of c.add_input.new.self)))
    (row_input (header_in c.args.header) (tree_of c.args.self.now) (fields c.args.line.now) c.one_number.result c.one_number.ensures
    (ample_parts (header_in c.args.header) c.requires.ample).0 (omega (arith, inputs, c.if-len-header.true)))
    c.add_input.ensures.adds

pub returns-then-len-header-2-clause-adds : goal.returns-then-len-header-2-clause-adds
returns-then-len-header-2-clause-adds c =
    let inputs : c.len.result ≡ length c.args.self.now.inputs.items = search rules in
    let latches : c.len-else-len-header.result ≡ length c.args.self.now.latches.items = search rules in
    subst (λ (r : Result Aiger Fault). IfOk c.add_latch.result (λ fault. Adds r fault (tree_of c.add_latch.new.self)))
    (row_latch (header_in c.args.header) (tree_of c.args.self.now) (fields c.args.line.now) _ c.latch_of.ensures
    (ample_parts (header_in c.args.header) c.requires.ample).0 (omega (arith, inputs, c.if-len-header.false)) (omega (arith, latches, c.if-len-header-2.true)))
    c.add_latch.ensures.adds

pub returns-then-len-header-3-clause-adds : goal.returns-then-len-header-3-clause-adds
returns-then-len-header-3-clause-adds c =
    let inputs : c.len.result ≡ length c.args.self.now.inputs.items = search rules in
    let latches : c.len-else-len-header.result ≡ length c.args.self.now.latches.items = search rules in
    let outputs : c.len-else-len-header-2.result ≡ length c.args.self.now.outputs.items = search rules in
    subst (λ (r : Result Aiger Fault). IfOk c.add_output.result (λ fault. Adds r fault (tree_of c.add_output.new.self)))
    (row_output (header_in c.args.header) (tree_of c.args.self.now) (fields c.args.line.now) c.one_number-then-len-header-3.result c.one_number-then-len-header-3.ensures
    (ample_parts (header_in c.args.header) c.requires.ample).0 (omega (arith, inputs, c.if-len-header.false)) (omega (arith, latches, c.if-len-header-2.false))
    (omega (arith, outputs, c.if-len-header-3.true)))
    c.add_output.ensures.adds

pub returns-else-len-header-3-clause-adds : goal.returns-else-len-header-3-clause-adds
returns-else-len-header-3-clause-adds c =
    let inputs : c.len.result ≡ length c.args.self.now.inputs.items = search rules in
    let latches : c.len-else-len-header.result ≡ length c.args.self.now.latches.items = search rules in
    let outputs : c.len-else-len-header-2.result ≡ length c.args.self.now.outputs.items = search rules in
    subst (λ (r : Result Aiger Fault). IfOk c.add_gate.result (λ fault. Adds r fault (tree_of c.add_gate.new.self)))
    (row_gate (header_in c.args.header) (tree_of c.args.self.now) (fields c.args.line.now) _ c.gate_of.ensures
    (ample_parts (header_in c.args.header) c.requires.ample).0 (omega (arith, inputs, c.if-len-header.false)) (omega (arith, latches, c.if-len-header-2.false))
    (omega (arith, outputs, c.if-len-header-3.false)))
    c.add_gate.ensures.adds
