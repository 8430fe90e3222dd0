use Rattle.body_index.proofs.PositionTables.{indices, IsTable}
use Rattle.body_index.proofs.position_table.positions_of.Given as goal

abbrev pub invariant-loop-position : goal.invariant-loop-position
invariant-loop-position l = IsTable (indices l.ids) l.position l.positions.items
