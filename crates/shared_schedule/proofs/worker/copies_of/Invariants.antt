use Rattle.shared_schedule.specs.Copies.{AreCopies}
use Rattle.shared_schedule.proofs.worker.copies_of.Given as goal

abbrev pub invariant-loop-caller : goal.invariant-loop-caller
invariant-loop-caller g l = AreCopies (g.P.Pieces.copied l.shared.plan.pieces l.m) l._caller l.copies.items
