-- Steps and runs of a tree (AIGER 1.9): in a step all latches take their next bits at once.
use Rattle.std.specs.Prelude.{◌≡◌, ℕ, Bool, List, [], ◌∷◌, map}
use Rattle.aiger_laws.specs.declared.tree.Latch.{Latch}
use Rattle.aiger_laws.specs.Trees.{Aiger, variable, signed_bit}
use Rattle.aiger_laws.specs.Drivers.{IsSettled}

-- the bit of a literal under bits of variables
abbrev pub literal_bit : (ℕ → Bool) → ℕ → Bool
literal_bit σ l = signed_bit l (σ (variable l))

-- the bits of the outputs
abbrev pub given_bits : Aiger → (ℕ → Bool) → List Bool
given_bits t σ = map (literal_bit σ) t.outputs

-- the bits that the latches take
abbrev pub next_bits : Aiger → (ℕ → Bool) → List Bool
next_bits t σ = map (λ (l : Latch). literal_bit σ l.next) t.latches

-- a step: under the bits of inputs and latches the outputs are given, and the latches are left with others
pub record Step (t : Aiger) (inputs content given after : List Bool) : Type 0 where
  pub bits : ℕ → Bool
  pub settled : IsSettled t inputs content bits
  pub read : given ≡ given_bits t bits
  pub taken : after ≡ next_bits t bits

-- a run: from the bits of latches, steps with these inputs give these outputs
abbrev pub Run : Aiger → List Bool → List (List Bool) → List (List Bool) → Type 0
Run t content [] [] = Unit {0}
Run t content (x ∷ xs) (y ∷ ys) = (after : List Bool) × Step t x content y after × Run t after xs ys
Run t content [] (y ∷ ys) = ⊥
Run t content (x ∷ xs) [] = ⊥

-- there is a step, and each one gives the same outputs and leaves the same bits
pub record HasOneStep (t : Aiger) (inputs content : List Bool) : Type 0 where
  pub given : List Bool
  pub after : List Bool
  pub step : Step t inputs content given after
  pub only : (y q : List Bool) → Step t inputs content y q → (y ≡ given) × (q ≡ after)

-- there is a run, and each one gives the same outputs
pub record HasOneRun (t : Aiger) (content : List Bool) (steps : List (List Bool)) : Type 0 where
  pub given : List (List Bool)
  pub run : Run t content steps given
  pub only : (ys : List (List Bool)) → Run t content steps ys → ys ≡ given
