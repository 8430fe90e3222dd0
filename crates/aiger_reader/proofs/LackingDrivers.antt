-- Literals without a driver.
use Rattle.std.proofs.Common.{◌≡◌, ℕ, ◌+◌, ◌||◌, ◌&&◌, ◌==◌, Bool, cond, List, [], ◌∷◌, refl, ap, ap₂, ◌∙◌}
use Rattle.std.specs.Prelude.{Option, Some, not}
use Rattle.aiger_laws.specs.declared.tree.Latch.{Latch}
use Rattle.aiger_laws.specs.declared.tree.AndGate.{AndGate}
use Rattle.aiger_laws.specs.Trees.{Aiger, variable}
use Rattle.aiger_laws.specs.Drivers.{Driver, driver}
use Rattle.aiger_laws.specs.Rows.{is_driven}
use Rattle.aiger_laws.specs.Grammar.{is_undefined, first_from, or_later, latch_line, output_line, gate_line, undefined_line}
use Rattle.aiger_reader.specs.Searched.{lacks}

-- tests that answer alike find the same
first_same : {A : Type 0} (p q : A → Bool) → ((x : A) → p x ≡ q x) → (n : ℕ) (xs : List A) → first_from p n xs ≡ first_from q n xs
first_same p q same n [] = refl
first_same p q same n (x ∷ xs) = ap₂ (λ (b : Bool) (o : Option ℕ). cond b (Some n) o) (same x) (first_same p q same (n + 1) xs)

-- where the drivers are those of a tree, what lacks one is not defined there
lacks_known : (t : Aiger) (d : ℕ → Driver) → ((v : ℕ) → d v ≡ driver t v) → (l : ℕ) → lacks d l ≡ is_undefined t l
lacks_known t d knows l = ap (λ (e : Driver). not (variable l == 0) && not (is_driven e)) (knows (variable l))

pub undefined_known : (t : Aiger) (d : ℕ → Driver) → ((v : ℕ) → d v ≡ driver t v)
    → or_later (first_from (λ (l : Latch). lacks d l.next) (latch_line t) t.latches)
    (or_later (first_from (lacks d) (output_line t) t.outputs) (first_from (λ (g : AndGate). lacks d g.left || lacks d g.right) (gate_line t) t.gates))
    ≡ undefined_line t
unfolding undefined_line
undefined_known t d knows =
    ap₂ or_later (first_same (λ (l : Latch). lacks d l.next) (λ (l : Latch). is_undefined t l.next) (λ l. lacks_known t d knows l.next) (latch_line t) t.latches)
    (ap₂ or_later (first_same (lacks d) (is_undefined t) (lacks_known t d knows) (output_line t) t.outputs)
    (first_same (λ (g : AndGate). lacks d g.left || lacks d g.right) (λ (g : AndGate). is_undefined t g.left || is_undefined t g.right)
    (λ g. ap₂ (λ (a b : Bool). a || b) (lacks_known t d knows g.left) (lacks_known t d knows g.right)) (gate_line t) t.gates))
