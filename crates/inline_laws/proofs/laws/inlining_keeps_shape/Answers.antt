use Rattle.inline_laws.proofs.WithoutWires.{inlined_alike}
use Rattle.inline_laws.proofs.Instances.{called_before, called_after, ends_after_inlining}
use Rattle.inline_laws.proofs.laws.inlining_keeps_shape.Goals as goal

pub returns-clause-registers : goal.returns-clause-registers
returns-clause-registers c = λ d m md i o callee rename only valid at_m is s. (inlined_alike d md i o callee rename is m at_m only valid).types s

pub returns-clause-called_before : goal.returns-clause-called_before
returns-clause-called_before c = called_before

pub returns-clause-called_after : goal.returns-clause-called_after
returns-clause-called_after c = called_after

pub returns-clause-ends : goal.returns-clause-ends
returns-clause-ends c = ends_after_inlining
