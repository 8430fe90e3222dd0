use Rattle.std.proofs.Common.{length, ap, refl, arith}
use Rattle.ir_store.proofs.cells.Cells.close_gap.Goals as goal

pub loop-cell-init : goal.loop-cell-init
loop-cell-init c = (refl, ((λ d n. refl), ((λ d p q. absurd (omega (arith, p, q))), (refl, refl))))

pub offset_bounds-as_slice-cell : goal.offset_bounds-as_slice-cell
offset_bounds-as_slice-cell c = omega (arith, c.as_slice.ensures.few, ap length c.as_slice.ensures.items, c.loop-cell.invariant.0, c.requires, c.loop-cell-test.true)

pub bounds-as_slice-cell : goal.bounds-as_slice-cell
bounds-as_slice-cell c = omega (arith, ap length c.as_slice.ensures.items, c.loop-cell.invariant.0, c.requires, c.loop-cell-test.true)

pub set-requires : goal.set-requires
set-requires c = omega (arith, c.loop-cell.invariant.0, c.requires, c.loop-cell-test.true)

pub set-requires-2 : goal.set-requires-2
set-requires-2 c = omega (arith, c.loop-cell.invariant.0, c.requires)
