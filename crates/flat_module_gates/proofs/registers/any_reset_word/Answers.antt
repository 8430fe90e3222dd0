use Rattle.std.proofs.Common.{sym, ap, subst, ◌∙◌, option_map, IfOk}
use Rattle.gates.specs.Circuits.{Runs}
use Rattle.hw_model.specs.RegisterViews.{reset_by_of}
use Rattle.ir_store.specs.Bodies.{ids_of, ops_of}
use Rattle.ir_store.specs.Numbered.{position_of, ref_by, ops_by_position}
use Rattle.flat_module_gates.specs.FlatGateLists.{word_at}
use Rattle.flat_module_gates.specs.FlatSteps.{load_in, any_reset_in}
use Rattle.flat_module_gates.proofs.registers.any_reset_word.Goals as goal

pub returns-in-None : goal.returns-in-None
returns-in-None c =
    let b = c.args.body.now.ops.now.body.now in
    let os = ops_by_position (ops_of b) in
    let see = ref_by (position_of (ids_of b)) in
    let words = word_at c.args.body.now.words.now.ports.items c.args.body.now.words.now.results.items in
    let none = sym (c.async_reset_of.ensures see) ∙ ap (option_map (reset_by_of see)) c.in-None.is in
    subst (λ a. IfOk c.reset_word.result (λ v. Runs (any_reset_in os words a (option_map (reset_by_of see) c.args.reset) c.args.next.now) c.args.gates.now c.reset_word.new.gates v.items)) (sym none)
    c.reset_word.ensures

pub returns-in-Some : goal.returns-in-Some
returns-in-Some c =
    let b = c.args.body.now.ops.now.body.now in
    let os = ops_by_position (ops_of b) in
    let see = ref_by (position_of (ids_of b)) in
    let words = word_at c.args.body.now.words.now.ports.items c.args.body.now.words.now.results.items in
    let some = sym (c.async_reset_of.ensures see) ∙ ap (option_map (reset_by_of see)) c.in-Some.is in
    subst (λ a. IfOk c.loaded_word.result (λ v. Runs (any_reset_in os words a (option_map (reset_by_of see) c.args.reset) c.args.next.now) c.args.gates.now c.loaded_word.new.gates v.items)) (sym some)
    (subst (λ a. IfOk c.loaded_word.result (λ v. Runs (load_in os words a c.args.next.now) c.args.gates.now c.loaded_word.new.gates v.items)) some c.loaded_word.ensures)
