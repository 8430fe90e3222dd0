use Rattle.std.proofs.Common.{sym, ap, ◌∙◌, option_map}
use Rattle.hw_model.specs.RegisterViews.{register_of}
use Rattle.ir_store.specs.Bodies.{ids_of}
use Rattle.ir_store.specs.Numbered.{position_of, ref_by}
use Rattle.and_gates.specs.Clocks.{clock_in}
use Rattle.and_gates.proofs.clocks.clock_of.Goals as goal

pub returns-in-Some : goal.returns-in-Some
returns-in-Some c = λ b.
    let see = ref_by (position_of (ids_of b)) in
    c.port_in.ensures (position_of (ids_of b)) ∙ sym (ap clock_in (sym (c.register_of.ensures see) ∙ ap (option_map (register_of see)) c.in-Some.is))

pub returns-in-None : goal.returns-in-None
returns-in-None c = λ b.
    let see = ref_by (position_of (ids_of b)) in
    sym (ap clock_in (sym (c.register_of.ensures see) ∙ ap (option_map (register_of see)) c.in-None.is))
