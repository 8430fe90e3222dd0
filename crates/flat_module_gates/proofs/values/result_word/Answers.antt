use Rattle.std.proofs.Common.{◌≡◌, ap, sym, subst, ◌∙◌, take, drop, slice_index_or, IfOk}
use Rattle.hw_model.specs.Flat.{held_width}
use Rattle.ir_store.specs.Bodies.{ops_of}
use Rattle.ir_store.specs.Numbered.{ops_by_position}
use Rattle.body_index.specs.OpIndexes.{op_view}
use Rattle.flat_module_gates.specs.FlatGateLists.{word_at, starts_from}
use Rattle.flat_module_gates.proofs.Building.{gate_list_held, gate_list_given, runs_is}
use Rattle.gates.proofs.Running.{runs-done}
use Rattle.flat_module_gates.proofs.values.result_word.Goals as goal

pub returns-then-is_register : goal.returns-then-is_register
returns-then-is_register c =
    let b = c.args.held.now.ops.now.body.now in
    let os = ops_by_position (ops_of b) in
    let o = op_view b c.op_at-op.result in
    let content = c.args.held.now.content.now in
    let begins = c.start_at.ensures ∙ ap (λ xs. slice_index_or xs c.args.position 0) c.args.held.now.begins in
    rw (gate_list_held os content (word_at c.args.words.now.ports.items c.args.words.now.results.items) c.args.position o c.op_at-op.ensures (sym c.is_register.ensures ∙ c.if-is_register.true))
    (runs_is (take (held_width o) (drop (slice_index_or (starts_from 0 os) c.args.position 0) content)) c.args.gates.now c.held_word.result
    (subst (λ n. IfOk c.held_word.result (λ w. w ≡ take (held_width o) (drop n content))) begins
    (subst (λ n. IfOk c.held_word.result (λ w. w ≡ take n (drop c.start_at.result content))) c.in_ok-width.ensures c.held_word.ensures)))

pub returns-then-is_output : goal.returns-then-is_output
returns-then-is_output c =
    let b = c.args.held.now.ops.now.body.now in
    let os = ops_by_position (ops_of b) in
    let o = op_view b c.op_at-op.result in
    rw (gate_list_given os c.args.held.now.content.now (word_at c.args.words.now.ports.items c.args.words.now.results.items) c.args.position o c.op_at-op.ensures
    (sym c.is_register.ensures ∙ c.if-is_register.false) (sym c.is_output.ensures ∙ c.if-is_output.true))
    (rw c.new.ensures runs-done)
