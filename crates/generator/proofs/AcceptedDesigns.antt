-- A generated design is accepted, so no refusal of it is answered.
use Rattle.std.proofs.Common.{◌≡◌, ℕ, ◌≤◌, [], slice_get, Some, None, is_some, sym, ap, subst, ◌∙◌}
use Rattle.diag.specs.declared.refusal.Refusal.{Refusal}
use Rattle.hw_model.specs.Design.{Module, Design}
use Rattle.hw_model.specs.Design.Ref.{result}
use Rattle.hw_model.specs.Flat.{net}
use Rattle.hw_model.specs.Meaning.{Depends}
use Rattle.op_verifier.specs.Verdict.{IsAccepted, IsRefusal}
use Rattle.op_verifier.specs.Verdict.IsRefusal.{unfit, recursive, too_large, cyclic}
use Rattle.op_verifier.proofs.AcceptedDesigns.{no_fault}
use Rattle.generator.specs.Generated.{generated}
use Rattle.generator.proofs.Callees.{none_large, none_recursive}
use Rattle.generator.proofs.GeneratedModules.{made_at}
use Rattle.generator.proofs.NetHeights.{no_cycle}
use Rattle.generator.proofs.Unrefused.{nothing_refused}

pub accepted_design : (seed n : ℕ) → n ≤ 10000 → IsAccepted (generated seed n)
accepted_design seed n few = record {
  unrefused = ap is_some (nothing_refused seed n few);
  no_recursion = λ i j m o at around. none_recursive seed n few i j m o at.module_there at.op_there around;
  light = λ i m there large. none_large seed n few i m there large;
  no_cycle = λ i j m o at around. acyclic i j m at.module_there around.0 around.1;
}
  where
    acyclic : (i j : ℕ) (m : Module) → slice_get (generated seed n) i ≡ Some m → (k : ℕ)
        → Depends (generated seed n) m.symbol (net [] (result j k)) (net [] (result j k)) → ⊥
    acyclic i j m there k around =
        let is = made_at seed n i m there in
        no_cycle seed n few i is.0 (net [] (result j k))
        (subst (λ (x : Module). Depends (generated seed n) x.symbol (net [] (result j k)) (net [] (result j k))) is.1 around)

-- an accepted design has no refusal
pub never_refused : (d : Design) (r : Refusal) → IsAccepted d → IsRefusal d r → ⊥
never_refused d r accepted (unfit _ is) = let e : None ≡ Some r = sym (no_fault d accepted) ∙ is in cc
never_refused d r accepted (recursive n j m o none first) = accepted.no_recursion n j m o first.there first.meets
never_refused d r accepted (too_large n m none recursion first) = accepted.light n m first.there first.meets
never_refused d r accepted (cyclic n j m o none recursion light first) = accepted.no_cycle n j m o first.there first.meets
