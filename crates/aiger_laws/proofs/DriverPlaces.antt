-- What is known of a variable's driver.
use Rattle.std.proofs.Common.{◌≡◌, ℕ, ◌+◌, Bool, true, false, cond, eqb, List, [], ◌∷◌, map, Option, Some, None, option_map, refl, sym, inl, inr}
use Rattle.std.proofs.lemmas.Bool.{eqb-true}
use Rattle.wiring.specs.Wiring.{In, IsWithin}
use Rattle.aiger_laws.specs.Trees.{Aiger, variable}
use Rattle.aiger_laws.specs.Drivers.{place_of, driver_by, driver, gate_literals, latch_literals, joined, needs}

-- a variable that has a place is that of a literal
pub placed : (v : ℕ) (ls : List ℕ) (k : ℕ) → place_of v ls ≡ Some k → In v (map variable ls)
placed v [] k is = absurd (let w : ⊥ = cc in w)
placed v (l ∷ ls) k is = go (placed v ls) (eqb (variable l) v) refl (place_of v ls) refl is
  where
    go : ((j : ℕ) → place_of v ls ≡ Some j → In v (map variable ls)) → (b : Bool) → eqb (variable l) v ≡ b → (o : Option ℕ) → place_of v ls ≡ o → cond b (Some 0) (option_map (λ (j : ℕ). j + 1) o) ≡ Some k → In v (variable l ∷ map variable ls)
    go more true e o at h = inl (sym (eqb-true (variable l) v e))
    go more false e None at h = absurd (let w : ⊥ = cc in w)
    go more false e (Some j) at h = inr (more j at)

-- what needs another variable is the variable of a gate
pub needs_within : (t : Aiger) → IsWithin (needs t) (map variable (gate_literals t.gates))
unfolding driver
needs_within t a b need = go (place_of a t.inputs) (place_of a (latch_literals t.latches)) (place_of a (gate_literals t.gates)) refl need
  where
    go : (i l g : Option ℕ) → place_of a (gate_literals t.gates) ≡ g → In b (map variable (joined t.gates (driver_by i l g))) → In a (map variable (gate_literals t.gates))
    go (Some k) l g at h = absurd h
    go None (Some k) g at h = absurd h
    go None None (Some k) at h = placed a (gate_literals t.gates) k at
    go None None None at h = absurd h
