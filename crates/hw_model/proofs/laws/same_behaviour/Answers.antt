use Rattle.std.proofs.Common.{sym}
use Rattle.hw_model.specs.Meaning.{machine}
use Rattle.hw_model.proofs.Machines.{same_self, same_sym, same_then, same_back, same_by, same_forth, steps_of_same, run_exists, run_outputs_unique}
use Rattle.hw_model.proofs.Finite.{settles_with_heights}
use Rattle.hw_model.proofs.laws.same_behaviour.Goals as goal

pub returns-clause-itself : goal.returns-clause-itself
returns-clause-itself c = λ d top heights. same_self (machine d top) (settles_with_heights d top heights)

pub returns-clause-symmetric : goal.returns-clause-symmetric
returns-clause-symmetric c = λ d e a b heights. same_sym (machine d a) (machine e b) (settles_with_heights d a heights)

pub returns-clause-composes : goal.returns-clause-composes
returns-clause-composes c = λ d e f x y z. same_then (machine d x) (machine e y) (machine f z)

pub returns-clause-back : goal.returns-clause-back
returns-clause-back c = λ d e a b to size first second.
    same_back (machine d a) (machine e b) to size (settles_with_heights d a first) (settles_with_heights e b second)

pub returns-clause-forth : goal.returns-clause-forth
returns-clause-forth c = λ d e a b to size first second.
    same_forth (machine d a) (machine e b) to size (settles_with_heights d a first) (settles_with_heights e b second)

pub returns-clause-both_ways : goal.returns-clause-both_ways
returns-clause-both_ways c = λ d e a b to back size heights.
    same_by (machine d a) (machine e b) to back size (settles_with_heights d a heights)

pub returns-clause-steps : goal.returns-clause-steps
returns-clause-steps c = λ d e a b. steps_of_same (machine d a) (machine e b)

pub returns-clause-runs_once : goal.returns-clause-runs_once
returns-clause-runs_once c = λ d top heights content steps.
    let one = run_exists (machine d top) (settles_with_heights d top heights) content steps in
    (one.0, one.1, λ others run. sym (run_outputs_unique (machine d top) (settles_with_heights d top heights) content steps one.0 others one.1 run))
