use Rattle.module_sums.specs.RegisterWidths.{AreEmpty}
use Rattle.module_sums.proofs.registers.empty_runs.Given as goal

abbrev pub invariant-loop : goal.invariant-loop
invariant-loop l = AreEmpty l.counter l.table.items
