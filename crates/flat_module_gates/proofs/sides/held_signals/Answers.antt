use Rattle.std.proofs.Common.{sym, ap, ap₂, subst, ◌∙◌, ◌++◌, map}
use Rattle.gates.specs.Circuits.{Runs}
use Rattle.hw_model.specs.Design.{output_refs}
use Rattle.ir_store.specs.Bodies.{ops_of}
use Rattle.ir_store.specs.Numbered.{ops_by_position}
use Rattle.operation_gates.specs.OperationGateLists.{concatenation}
use Rattle.flat_module_gates.specs.FlatGateLists.{word_at}
use Rattle.flat_module_gates.specs.FlatSteps.{next_of, content_gate_list, RegistersTake}
use Rattle.flat_module_gates.proofs.Loading.{over_runs}
use Rattle.flat_module_gates.proofs.sides.held_signals.Goals as goal

pub next_content-requires-clause-takes : goal.next_content-requires-clause-takes
next_content-requires-clause-takes c =
    let os = ops_by_position (ops_of c.args.held.now.ops.now.body.now) in
    let results = c.in_ok-words.words.results.items in
    subst (λ p. RegistersTake os (word_at p results)) (sym c.in_ok-words.ensures.ports)
    (c.requires.registers c.built_words.new.gates results c.in_ok-words.ensures.results)

pub returns : goal.returns
returns c =
    let os = ops_by_position (ops_of c.args.held.now.ops.now.body.now) in
    let content = c.args.held.now.content.now in
    let t = c.built_words.new.gates in
    let u = c.next_content.new.gates in
    let results = c.in_ok-words.words.results.items in
    let next = c.in_ok-next.next.items in
    let ports = c.in_ok-words.ensures.ports in
    let second = subst (λ p. Runs (content_gate_list (next_of os (word_at p results)) os content) t u next) ports c.in_ok-next.ensures in
    let made = c.in_ok-extend_from_slice.ensures.items
    ∙ ap₂ (λ a b. a ++ b) (c.in_ok-made.ensures ∙ ap (λ p. concatenation (map (word_at p results) (output_refs os))) ports) c.as_slice.ensures.value in
    over_runs c.args.ports.items os c.args.order.now c.args.gates.now t u content results next c.extend_from_slice.new.self.items c.in_ok-words.ensures.results second made
