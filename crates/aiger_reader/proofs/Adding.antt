-- One more line: what it makes of the tree, and of the drivers.
use Rattle.std.proofs.Common.{◌≡◌, ℕ, ◌+◌, ◌*◌, ◌<◌, ◌^◌, ◌||◌, ◌==◌, Bool, true, false, cond, List, [], ◌∷◌, ◌++◌, length, refl, sym, ap, ap₂, subst, ◌∙◌, arith}
use Rattle.std.specs.Prelude.{Option, Some, None}
use Rattle.std.specs.List.{list_any}
use Rattle.std.proofs.lemmas.Bool.{ltb-false}
use Rattle.aiger_laws.specs.declared.fault.Fault.{Fault}
use Rattle.aiger_laws.specs.declared.fault.Fault.TheVariants.{OutOfRange, DefinedTwice}
use Rattle.aiger_laws.specs.declared.tree.Latch.{Latch}
use Rattle.aiger_laws.specs.declared.tree.AndGate.{AndGate}
use Rattle.aiger_laws.specs.Trees.{Aiger, variable}
use Rattle.aiger_laws.specs.Drivers as laws
use Rattle.aiger_laws.specs.Rows.{is_beyond, is_undefinable, is_driven, defining_fault}
use Rattle.aiger_laws.proofs.MoreDrivers.{driver_input, driver_latch, driver_gate}
use Rattle.aiger_laws.proofs.GateDrivers.{free_of}
use Rattle.aiger_reader.specs.Kept.{driver_fault, Defines}

-- a latch and a gate of these literals
abbrev pub latch_of : ℕ → ℕ → Latch
latch_of l n = record { literal = l; next = n }

abbrev pub gate_of : ℕ → ℕ → ℕ → AndGate
gate_of l a b = record { literal = l; left = a; right = b }

either_false : (a b : Bool) → a || b ≡ false → (a ≡ false) × (b ≡ false)
either_false true b is = cc
either_false false b is = (refl, is)

-- where the drivers are those of a tree, so are the faults
pub fault_known : (most : ℕ) (d : ℕ → laws.Driver) (t : Aiger) (l : ℕ) (used : List ℕ) → ((v : ℕ) → d v ≡ laws.driver t v) → driver_fault most d l used ≡ defining_fault most t l used
fault_known most d t l used knows =
    ap (λ (e : laws.Driver). cond (is_undefinable most l || list_any (is_beyond most) used) (Some OutOfRange) (cond (is_driven e) (Some DefinedTwice) None)) (knows (variable l))

-- what is not beyond is below 2^32
pub beyond_small : (most l : ℕ) → most < 2 ^ 31 → is_beyond most l ≡ false → l < 2 ^ 32
beyond_small most l small is = let e : l < 2 * most + 2 = omega (arith, ltb-false (2 * most + 1) l is) in omega arith

in_range : (most : ℕ) (d : ℕ → laws.Driver) (l : ℕ) (used : List ℕ) → driver_fault most d l used ≡ None → (is_undefinable most l ≡ false) × (list_any (is_beyond most) used ≡ false)
in_range most d l used is = go (is_undefinable most l || list_any (is_beyond most) used) refl (is_driven (d (variable l))) is
  where
    go : (a : Bool) → (is_undefinable most l || list_any (is_beyond most) used) ≡ a → (b : Bool) → cond a (Some OutOfRange) (cond b (Some DefinedTwice) None) ≡ None
        → (is_undefinable most l ≡ false) × (list_any (is_beyond most) used ≡ false)
    go true e b h = absurd (let w : ⊥ = cc in w)
    go false e b h = either_false (is_undefinable most l) (list_any (is_beyond most) used) e

pub defined_small : (most : ℕ) (d : ℕ → laws.Driver) (l : ℕ) (used : List ℕ) → most < 2 ^ 31 → driver_fault most d l used ≡ None → l < 2 ^ 32
defined_small most d l used small is =
    let parts = in_range most d l used is in
    let first = either_false (is_beyond most l) _ parts.0 in
    beyond_small most l small first.0

pub used_small : (most : ℕ) (d : ℕ → laws.Driver) (l a : ℕ) (used : List ℕ) → most < 2 ^ 31 → driver_fault most d l (a ∷ used) ≡ None → a < 2 ^ 32
used_small most d l a used small is =
    let parts = in_range most d l (a ∷ used) is in
    let first = either_false (is_beyond most a) (list_any (is_beyond most) used) parts.1 in
    beyond_small most a small first.0

pub second_small : (most : ℕ) (d : ℕ → laws.Driver) (l a b : ℕ) → most < 2 ^ 31 → driver_fault most d l (a ∷ b ∷ []) ≡ None → b < 2 ^ 32
second_small most d l a b small is =
    let parts = in_range most d l (a ∷ b ∷ []) is in
    let first = either_false (is_beyond most a) (list_any (is_beyond most) (b ∷ [])) parts.1 in
    let second = either_false (is_beyond most b) false first.1 in
    beyond_small most b small second.0

-- a literal that is defined had no driver
pub free_before : (most : ℕ) (d : ℕ → laws.Driver) (t : Aiger) (l : ℕ) (used : List ℕ) → ((v : ℕ) → d v ≡ laws.driver t v) → driver_fault most d l used ≡ None
    → laws.driver t (variable l) ≡ laws.nothing
free_before most d t l used knows is = free_of most t l used (sym (fault_known most d t l used knows) ∙ is)

-- outputs drive nothing
pub driver_outputs : (t : Aiger) (items : List ℕ) (v : ℕ) → laws.driver t v ≡ laws.driver (record t { outputs = items }) v
unfolding laws.driver
driver_outputs t items v = refl

-- without lines nothing is driven
pub no_drivers : (inputs : List ℕ) (latches : List Latch) (outputs : List ℕ) (gates : List AndGate) → inputs ≡ [] → latches ≡ [] → gates ≡ [] → (v : ℕ)
    → laws.driver (record { inputs = inputs; latches = latches; outputs = outputs; gates = gates }) v ≡ laws.nothing
unfolding laws.driver
no_drivers inputs latches outputs gates no_inputs no_latches no_gates v =
    ap (λ (xs : List ℕ). laws.driver_by (laws.place_of v xs) (laws.place_of v (laws.latch_literals latches)) (laws.place_of v (laws.gate_literals gates))) no_inputs
    ∙ ap (λ (xs : List Latch). laws.driver_by None (laws.place_of v (laws.latch_literals xs)) (laws.place_of v (laws.gate_literals gates))) no_latches
    ∙ ap (λ (xs : List AndGate). laws.driver_by None None (laws.place_of v (laws.gate_literals xs))) no_gates

-- ---- the drivers once a line was added

module _ (most : ℕ) (old new : ℕ → laws.Driver) (t : Aiger) (l place : ℕ) (used : List ℕ) (fault : Option Fault) (knows : (v : ℕ) → old v ≡ laws.driver t v)
    (said : fault ≡ driver_fault most old l used) (none : fault ≡ None) where
  free : laws.driver t (variable l) ≡ laws.nothing
  free = free_before most old t l used knows (sym said ∙ none)

  pub knows_input : Defines fault l (laws.input_bit place) old new → place ≡ length t.inputs → (items : List ℕ) → items ≡ t.inputs ++ l ∷ []
      → (v : ℕ) → new v ≡ laws.driver (record t { inputs = items }) v
  knows_input defines at items is v =
      let changed : (w : ℕ) → new w ≡ cond (variable l == w) (laws.input_bit place) (old w) = subst (λ (f : Option Fault). Defines f l (laws.input_bit place) old new) none defines in
      changed v
      ∙ ap₂ (λ (n : ℕ) (e : laws.Driver). cond (variable l == v) (laws.input_bit n) e) at (knows v)
      ∙ sym (driver_input t l v free)
      ∙ ap (λ (xs : List ℕ). laws.driver (record t { inputs = xs }) v) (sym is)

  pub knows_latch : (next : ℕ) → Defines fault l (laws.held_bit place) old new → place ≡ length t.latches → (items : List Latch) → items ≡ t.latches ++ latch_of l next ∷ []
      → (v : ℕ) → new v ≡ laws.driver (record t { latches = items }) v
  knows_latch next defines at items is v =
      let changed : (w : ℕ) → new w ≡ cond (variable l == w) (laws.held_bit place) (old w) = subst (λ (f : Option Fault). Defines f l (laws.held_bit place) old new) none defines in
      changed v
      ∙ ap₂ (λ (n : ℕ) (e : laws.Driver). cond (variable l == v) (laws.held_bit n) e) at (knows v)
      ∙ sym (driver_latch t (latch_of l next) v free)
      ∙ ap (λ (xs : List Latch). laws.driver (record t { latches = xs }) v) (sym is)

  pub knows_gate : (a b : ℕ) → Defines fault l (laws.gate_bit place) old new → place ≡ length t.gates → (items : List AndGate) → items ≡ t.gates ++ gate_of l a b ∷ []
      → (v : ℕ) → new v ≡ laws.driver (record t { gates = items }) v
  knows_gate a b defines at items is v =
      let changed : (w : ℕ) → new w ≡ cond (variable l == w) (laws.gate_bit place) (old w) = subst (λ (f : Option Fault). Defines f l (laws.gate_bit place) old new) none defines in
      changed v
      ∙ ap₂ (λ (n : ℕ) (e : laws.Driver). cond (variable l == v) (laws.gate_bit n) e) at (knows v)
      ∙ sym (driver_gate t (gate_of l a b) v free)
      ∙ ap (λ (xs : List AndGate). laws.driver (record t { gates = xs }) v) (sym is)
