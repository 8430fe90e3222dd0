-- Without a cycle there is exactly one assignment, one step and one run.
use Rattle.std.proofs.Common.{◌≡◌, ℕ, Bool, List, [], ◌∷◌, map, refl, ap, ap₂, subst, ◌∙◌}
use Rattle.wiring.specs.Wiring.{SettlesOnce}
use Rattle.wiring.proofs.Members.{map_same}
use Rattle.wiring.proofs.Settled.{settles_once}
use Rattle.aiger_laws.specs.declared.tree.Latch.{Latch}
use Rattle.aiger_laws.specs.Trees.{Aiger, variable, signed_bit}
use Rattle.aiger_laws.specs.Drivers.{needs, bit_of, gate_literals, HasNoCycle}
use Rattle.aiger_laws.specs.Steps.{literal_bit, given_bits, next_bits, Run, HasOneStep, HasOneRun}
use Rattle.aiger_laws.proofs.DriverPlaces.{needs_within}

-- exactly one assignment is settled
pub settles : (t : Aiger) (inputs content : List Bool) → HasNoCycle t → SettlesOnce (needs t) (bit_of t inputs content)
settles t inputs content acyclic = settles_once (needs t) (bit_of t inputs content) (map variable (gate_literals t.gates)) (needs_within t) acyclic

-- assignments with the same bits give and leave the same
pub given_same : (t : Aiger) (σ τ : ℕ → Bool) → ((v : ℕ) → σ v ≡ τ v) → given_bits t σ ≡ given_bits t τ
given_same t σ τ same = map_same (literal_bit σ) (literal_bit τ) t.outputs (λ l here. ap (signed_bit l) (same (variable l)))

pub next_same : (t : Aiger) (σ τ : ℕ → Bool) → ((v : ℕ) → σ v ≡ τ v) → next_bits t σ ≡ next_bits t τ
next_same t σ τ same =
    map_same (λ (l : Latch). literal_bit σ l.next) (λ (l : Latch). literal_bit τ l.next) t.latches (λ l here. ap (signed_bit l.next) (same (variable l.next)))

-- exactly one step
pub steps_once : (t : Aiger) (inputs content : List Bool) → HasNoCycle t → HasOneStep t inputs content
steps_once t inputs content acyclic =
    let once : SettlesOnce (needs t) (bit_of t inputs content) = settles t inputs content acyclic in
    record {
      given = given_bits t once.0;
      after = next_bits t once.0;
      step = record { bits = once.0; settled = once.1; read = refl; taken = refl };
      only = λ y q step. (
        step.read ∙ given_same t step.bits once.0 (once.2 step.bits step.settled),
        step.taken ∙ next_same t step.bits once.0 (once.2 step.bits step.settled),
      );
    }

-- exactly one run
pub runs_once : (t : Aiger) → HasNoCycle t → (content : List Bool) (steps : List (List Bool)) → HasOneRun t content steps
runs_once t acyclic content [] = record { given = []; run = tt; only = none }
  where
    none : (ys : List (List Bool)) → Run t content [] ys → ys ≡ []
    none [] run = refl
    none (y ∷ ys) run = absurd run
runs_once t acyclic content (x ∷ xs) = go (steps_once t x content acyclic) (runs_once t acyclic (steps_once t x content acyclic).after xs)
  where
    go : (first : HasOneStep t x content) → HasOneRun t first.after xs → HasOneRun t content (x ∷ xs)
    go first rest = record {
      given = first.given ∷ rest.given;
      run = (first.after, first.step, rest.run);
      only = only;
    }
      where
        only : (ys : List (List Bool)) → Run t content (x ∷ xs) ys → ys ≡ first.given ∷ rest.given
        only [] run = absurd run
        only (y ∷ ys) run =
            let same = first.only y run.0 run.1 in
            ap₂ (λ (z : List Bool) (zs : List (List Bool)). z ∷ zs) same.0 (rest.only ys (subst (λ (q : List Bool). Run t q xs ys) same.1 run.2))
