use Rattle.std.proofs.Common.{sym, ap, ◌∙◌, option_map}
use Rattle.hw_model.specs.Meaning.{next_value}
use Rattle.hw_model.specs.RegisterViews.{register_of}
use Rattle.ir_store.specs.Bodies.{ids_of}
use Rattle.ir_store.specs.Numbered.{position_of, ref_by}
use Rattle.flat_steps.specs.Tables.{word_in}
use Rattle.flat_steps.proofs.registers.next_of.Goals as goal

pub returns-in-None : goal.returns-in-None
returns-in-None c =
    let see = ref_by (position_of (ids_of c.args.body.now.ops.now.body.now)) in
    let none = sym (c.register_of.ensures see) ∙ ap (option_map (register_of see)) c.in-None.is in
    ap (λ r. next_value r (word_in c.args.body.now.ports.now c.args.body.now.results.now) c.args.old) (sym none)
