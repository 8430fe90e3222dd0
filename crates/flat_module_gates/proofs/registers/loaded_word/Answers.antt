use Rattle.std.proofs.Common.{sym, ap, subst, ◌∙◌, option_map}
use Rattle.gates.specs.Build.{done}
use Rattle.gates.specs.Circuits.{Runs}
use Rattle.gates.proofs.Running.{runs-done}
use Rattle.hw_model.specs.RegisterViews.{reset_by_of}
use Rattle.ir_store.specs.Bodies.{ids_of, ops_of}
use Rattle.ir_store.specs.Numbered.{position_of, ref_by, ops_by_position}
use Rattle.flat_module_gates.specs.FlatGateLists.{word_at}
use Rattle.flat_module_gates.specs.FlatSteps.{load_in}
use Rattle.flat_module_gates.proofs.registers.loaded_word.Goals as goal

pub returns-in_ok-kept-in-None : goal.returns-in_ok-kept-in-None
returns-in_ok-kept-in-None c =
    let b = c.args.body.now.ops.now.body.now in
    let os = ops_by_position (ops_of b) in
    let see = ref_by (position_of (ids_of b)) in
    let words = word_at c.args.body.now.words.now.ports.items c.args.body.now.words.now.results.items in
    let none = sym (c.async_reset_of.ensures see) ∙ ap (option_map (reset_by_of see)) c.in-None.is in
    subst (λ a. Runs (load_in os words a c.args.old.now) c.args.gates.now c.args.gates.now c.in_ok-kept-in-None.kept.items) (sym none)
    (subst (Runs (done c.args.old.now) c.args.gates.now c.args.gates.now) (sym c.in_ok-kept-in-None.ensures.items) runs-done)
