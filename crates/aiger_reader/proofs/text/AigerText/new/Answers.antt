use Rattle.std.proofs.Common.{sym, ◌∙◌}
use Rattle.aiger_reader.proofs.Adding.{no_drivers}
use Rattle.aiger_reader.proofs.text.AigerText.new.Goals as goal

pub returns-clause-knows : goal.returns-clause-knows
returns-clause-knows c v =
    c.new-5.ensures v ∙ sym (no_drivers c.new.result.items c.new-2.result.items c.new-3.result.items c.new-4.result.items c.new.ensures.items c.new-2.ensures.items c.new-4.ensures.items v)
