-- Places of variables among literals that are numbered one after another.
use Rattle.std.proofs.Common.{◌≡◌, ℕ, zero, suc, ◌+◌, ◌*◌, ◌/◌, ◌<◌, ◌≤◌, ◌==◌, ◌⊎◌, Bool, true, false, cond, List, [], ◌∷◌, map, length, slice_get, Option, Some, None, option_map, refl, sym, ap, ap₂, ◌∙◌, inl, inr, arith}
use Rattle.std.specs.Prelude.{nat_lt}
use Rattle.std.proofs.lemmas.Bool.{ltb-true, ltb-false, eq-eqb, ne_eqb}
use Rattle.gates.specs.declared.signal.Gate.{Gate}
use Rattle.gates.specs.declared.signal.Signal.{Signal}
use Rattle.aiger_laws.specs.declared.tree.AndGate.{AndGate}
use Rattle.aiger_laws.specs.Trees.{variable}
use Rattle.aiger_laws.specs.Drivers.{place_of, latch_literals, gate_literals}
use Rattle.aiger_circuits.specs.CircuitTrees.{literals_from, latches_from, gates_from, and_gate}

-- where the first literal is of another variable, the place is one behind that among the others
skipped : (v l : ℕ) (ls : List ℕ) → (variable l == v) ≡ false → place_of v (l ∷ ls) ≡ option_map (λ (k : ℕ). k + 1) (place_of v ls)
skipped v l ls other = ap (λ (b : Bool). cond b (Some 0) (option_map (λ (k : ℕ). k + 1) (place_of v ls))) other

other_even : (v s : ℕ) → (s ≡ v → ⊥) → (variable (2 * s) == v) ≡ false
other_even v s other = ne_eqb ((2 * s) / 2) v (λ same. let e : (2 * s) / 2 ≡ s = omega arith in other (sym e ∙ same))

-- a variable before them, or after them, has no place
pub place_before : (v s n : ℕ) → v < s → place_of v (literals_from s n) ≡ None
place_before v s zero low = refl
place_before v s (suc n) low =
    skipped v (2 * s) (literals_from (suc s) n) (other_even v s (λ same. omega (arith, low, same)))
    ∙ ap (option_map (λ (k : ℕ). k + 1)) (place_before v (suc s) n (omega (arith, low)))

pub place_after : (v s n : ℕ) → s + n ≤ v → place_of v (literals_from s n) ≡ None
place_after v s zero high = refl
place_after v s (suc n) high =
    skipped v (2 * s) (literals_from (suc s) n) (other_even v s (λ same. omega (arith, high, same)))
    ∙ ap (option_map (λ (k : ℕ). k + 1)) (place_after v (suc s) n (omega (arith, high)))

-- each of them has its own
place_among : (s n k : ℕ) → k < n → place_of (s + k) (literals_from s n) ≡ Some k
place_among s zero k within = absurd (omega (arith, within))
place_among s (suc n) zero within =
    let e : (2 * s) / 2 ≡ s + 0 = omega arith in
    ap (λ (b : Bool). cond b (Some 0) (option_map (λ (k : ℕ). k + 1) (place_of (s + 0) (literals_from (suc s) n)))) (eq-eqb ((2 * s) / 2) (s + 0) e)
place_among s (suc n) (suc k) within =
    let e : s + suc k ≡ suc s + k = omega arith in
    let f : k + 1 ≡ suc k = omega arith in
    skipped (s + suc k) (2 * s) (literals_from (suc s) n) (other_even (s + suc k) s (λ same. omega (arith, same)))
    ∙ ap (λ (v : ℕ). option_map (λ (j : ℕ). j + 1) (place_of v (literals_from (suc s) n))) e
    ∙ ap (option_map (λ (j : ℕ). j + 1)) (place_among (suc s) n k (omega (arith, within)))
    ∙ ap Some f

pub placed : (s n k v : ℕ) → k < n → v ≡ s + k → place_of v (literals_from s n) ≡ Some k
placed s n k v within is = ap (λ (w : ℕ). place_of w (literals_from s n)) is ∙ place_among s n k within

-- the literals of latches and of gates are so many
pub latch_literals_are : (s : ℕ) (ss : List Signal) → latch_literals (latches_from s ss) ≡ literals_from s (length ss)
latch_literals_are s [] = refl
latch_literals_are s (x ∷ xs) = ap (λ (ls : List ℕ). 2 * s ∷ ls) (latch_literals_are (suc s) xs)

pub gate_literals_are : (s : ℕ) (gs : List Gate) → gate_literals (gates_from s gs) ≡ literals_from s (length gs)
gate_literals_are s [] = refl
gate_literals_are s (g ∷ gs) = ap (λ (ls : List ℕ). 2 * s ∷ ls) (gate_literals_are (suc s) gs)

-- a gate at a place
pub gate_at : (s : ℕ) (gs : List Gate) (k : ℕ) (g : Gate) → slice_get gs k ≡ Some g → slice_get (gates_from s gs) k ≡ Some (and_gate (s + k) g)
gate_at s [] k g at = absurd (let no : ⊥ = cc in no)
gate_at s (x ∷ xs) zero g at =
    let same : x ≡ g = cc in
    let e : s ≡ s + 0 = omega arith in
    ap₂ (λ (v : ℕ) (y : Gate). Some (and_gate v y)) e same
gate_at s (x ∷ xs) (suc k) g at =
    let e : suc s + k ≡ s + suc k = omega arith in
    gate_at (suc s) xs k g at ∙ ap (λ (v : ℕ). Some (and_gate v g)) e

-- ---- where a variable stands

-- with so many inputs, latches and gates, numbered one after another from 1 on
pub data Standing (inputs latches gates v : ℕ) : Type 0 where
  nowhere : (v ≡ 0) ⊎ (inputs + latches + gates < v) → Standing inputs latches gates v
  among_inputs : (k : ℕ) → k < inputs → v ≡ suc k → Standing inputs latches gates v
  among_latches : (k : ℕ) → k < latches → v ≡ suc (inputs + k) → Standing inputs latches gates v
  among_gates : (k : ℕ) → k < gates → v ≡ suc (inputs + latches + k) → Standing inputs latches gates v

-- behind a number a variable has a number of its own
behind : (n v : ℕ) → n < v → (k : ℕ) × (v ≡ suc (n + k))
behind zero zero less = absurd (omega (arith, less))
behind zero (suc v) less = (v, omega arith)
behind (suc n) zero less = absurd (omega (arith, less))
behind (suc n) (suc v) less = let more = behind n v (omega (arith, less)) in (more.0, omega (arith, more.1))

pub standing : (inputs latches gates v : ℕ) → Standing inputs latches gates v
standing inputs latches gates zero = nowhere (inl refl)
standing inputs latches gates (suc v) = by_input (nat_lt v inputs) refl
  where
    by_gate : (k : ℕ) → v ≡ inputs + latches + k → (b : Bool) → nat_lt k gates ≡ b → Standing inputs latches gates (suc v)
    by_gate k is true less = among_gates k (ltb-true k gates less) (ap suc is)
    by_gate k is false less = let more : gates ≤ k = ltb-false k gates less in nowhere (inr (omega (arith, more, is)))

    by_latch : (k : ℕ) → v ≡ inputs + k → (b : Bool) → nat_lt k latches ≡ b → Standing inputs latches gates (suc v)
    by_latch k is true less = among_latches k (ltb-true k latches less) (ap suc is)
    by_latch k is false less =
        let more : latches ≤ k = ltb-false k latches less in
        let own = behind latches (suc k) (omega (arith, more)) in
        by_gate own.0 (omega (arith, is, own.1)) (nat_lt own.0 gates) refl

    by_input : (b : Bool) → nat_lt v inputs ≡ b → Standing inputs latches gates (suc v)
    by_input true less = among_inputs v (ltb-true v inputs less) refl
    by_input false less =
        let more : inputs ≤ v = ltb-false v inputs less in
        let own = behind inputs (suc v) (omega (arith, more)) in
        by_latch own.0 (omega (arith, own.1)) (nat_lt own.0 latches) refl
