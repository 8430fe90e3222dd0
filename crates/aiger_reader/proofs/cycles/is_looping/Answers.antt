use Rattle.std.proofs.Common.{get_or, sym, ◌∙◌}
use Rattle.aiger_reader.specs.declared.needs.GateNeeds.{GateNeeds}
use Rattle.aiger_reader.proofs.LoopingGates.{down_is_out}
use Rattle.aiger_reader.proofs.Searching.{needs_at}
use Rattle.aiger_reader.proofs.cycles.is_looping.Goals as goal

pub returns-then-goes_down : goal.returns-then-goes_down
returns-then-goes_down c =
    let none : GateNeeds = record { left = 0; right = 0 } in
    down_is_out c.args.ranks.now c.args.needs.now c.args.place (get_or c.args.needs.now c.args.place none) (sym c.requires.falls ∙ c.if-falls.true)
    (needs_at c.args.needs.now c.args.place none c.requires.within) (sym c.if-goes_down.ensures)
