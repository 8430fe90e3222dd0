use Rattle.std.specs.Prelude.{IfSome}
use Rattle.ir_store.specs.UseChains.{IsUse}
use Rattle.model_tests.proofs.bodies.is_walked.Given as goal

abbrev pub invariant-loop-position : goal.invariant-loop-position
invariant-loop-position l = IfSome l.at (λ u. IsUse u l.body)
