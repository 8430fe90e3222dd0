use Rattle.std.proofs.Common.{List, map, ap, ◌∙◌}
use Rattle.aiger_laws.specs.declared.tree.AndGate.{AndGate}
use Rattle.aiger_reader.specs.declared.needs.GateNeeds.{GateNeeds}
use Rattle.aiger_reader.specs.Kept.{tree_of, drivers_of}
use Rattle.aiger_reader.specs.Searched.{lists_in, places}
use Rattle.aiger_reader.proofs.Answering.{told_cycle}
use Rattle.aiger_reader.proofs.cycles.first_cycle.Goals as goal

pub returns-clause-first : goal.returns-clause-first
returns-clause-first c =
    told_cycle (tree_of c.args.text.now) (drivers_of c.args.text.now.drivers) c.requires.knows c.requires.drives c.requires.few (lists_in c.deref-3.result.now)
    (ap (λ (ns : List GateNeeds). lists_in ns) c.deref-3.ensures.value ∙ c.in_ok-needs.ensures
    ∙ ap (λ (gs : List AndGate). map (places (drivers_of c.args.text.now.drivers)) gs) c.deref.ensures.value)
    c.first_looping.result c.first_looping.ensures.first
