use Rattle.std.proofs.Common.{ap₂, subst, ◌∙◌, [], IfOk}
use Rattle.gates.specs.Circuits.{Runs}
use Rattle.ir_store.specs.Bodies.{ops_of}
use Rattle.ir_store.specs.Designs.{ports_in}
use Rattle.ir_store.specs.Numbered.{ops_by_position}
use Rattle.net_gates.specs.NetGateLists.{variables}
use Rattle.flat_module_gates.specs.FlatGateLists.{port_words, word_at}
use Rattle.flat_module_gates.specs.FlatSteps.{loaded_of, content_gate_list}
use Rattle.flat_module_gates.proofs.sides.first_content.Goals as goal

pub returns : goal.returns
returns c =
    let os = ops_by_position (ops_of c.args.ops.now.body.now) in
    let ps = ports_in c.args.module.now.ports in
    let r = c.loaded_content.result in
    let s = c.args.gates.now in
    let t = c.loaded_content.new.gates in
    let content = c.as_slice.ensures.value ∙ c.in_ok-content.ensures ∙ ap₂ variables c.in_ok-input_bits.ensures c.in_ok-content_bits.ensures in
    subst (λ xs. IfOk r (λ v. Runs (content_gate_list (loaded_of os (word_at (port_words 0 ps) [])) os xs) s t v.items)) content
    (subst (λ rs. IfOk r (λ v. Runs (content_gate_list (loaded_of os (word_at (port_words 0 ps) rs)) os c.as_slice.result.now) s t v.items)) c.new.ensures.items
    (subst (λ p. IfOk r (λ v. Runs (content_gate_list (loaded_of os (word_at p c.new.result.items)) os c.as_slice.result.now) s t v.items)) c.in_ok-port_words.ensures c.loaded_content.ensures))
