use Rattle.design_cycles.proofs.Called.{HasCalled}
use Rattle.design_cycles.proofs.calls.called_modules.Given as goal

abbrev pub invariant-loop-list : goal.invariant-loop-list
invariant-loop-list l = HasCalled l.calls l.list-index l.marks.items
