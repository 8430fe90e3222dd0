-- Drivers once a tree has one more line.
use Rattle.std.proofs.Common.{◌≡◌, ℕ, suc, ◌+◌, ◌==◌, Bool, true, false, cond, List, [], ◌∷◌, ◌++◌, length, Option, Some, None, option_map, refl, sym, ap, ap₂, ◌∙◌, add-one}
use Rattle.std.proofs.lemmas.List.{map-append, length-map}
use Rattle.std.proofs.lemmas.Bool.{eqb-true}
use Rattle.aiger_laws.specs.declared.tree.Latch.{Latch}
use Rattle.aiger_laws.specs.declared.tree.AndGate.{AndGate}
use Rattle.aiger_laws.specs.Trees.{Aiger, variable}
use Rattle.aiger_laws.specs.Drivers.{Driver, nothing, input_bit, held_bit, gate_bit, place_of, driver_by, driver, gate_literals, latch_literals}
use Rattle.aiger_laws.specs.Rows.{is_driven, with_input, with_latch, with_output, with_gate}

-- a place, or one behind those that were looked at
abbrev pub or_at : Bool → ℕ → Option ℕ → Option ℕ
or_at t n (Some k) = Some k
or_at t n None = cond t (Some n) None

pub place_more : (v l : ℕ) (ls : List ℕ) → place_of v (ls ++ l ∷ []) ≡ or_at (variable l == v) (length ls) (place_of v ls)
place_more v l [] = refl
place_more v l (x ∷ xs) = go (variable x == v) (variable l == v) (place_of v xs) (place_more v l xs)
  where
    go : (s t : Bool) (o : Option ℕ) → place_of v (xs ++ l ∷ []) ≡ or_at t (length xs) o
        → cond s (Some 0) (option_map (λ (k : ℕ). k + 1) (place_of v (xs ++ l ∷ []))) ≡ or_at t (suc (length xs)) (cond s (Some 0) (option_map (λ (k : ℕ). k + 1) o))
    go true t o ih = refl
    go false t (Some k) ih = ap (option_map (λ (j : ℕ). j + 1)) ih
    go false true None ih = ap (option_map (λ (j : ℕ). j + 1)) ih ∙ ap Some (add-one (length xs))
    go false false None ih = ap (option_map (λ (j : ℕ). j + 1)) ih

or_not : (n : ℕ) (o : Option ℕ) → or_at false n o ≡ o
or_not n None = refl
or_not n (Some k) = refl

some_place : (n : ℕ) (o : Option ℕ) → o ≡ None → or_at true n o ≡ Some n
some_place n None is = refl
some_place n (Some k) is = cc

-- what gives nothing has no place
no_input : (i l g : Option ℕ) → driver_by i l g ≡ nothing → i ≡ None
no_input None l g is = refl
no_input (Some k) l g is = cc

no_latch : (i l g : Option ℕ) → driver_by i l g ≡ nothing → l ≡ None
no_latch None None g is = refl
no_latch None (Some k) g is = cc
no_latch (Some j) l g is = cc

no_gate : (i l g : Option ℕ) → driver_by i l g ≡ nothing → g ≡ None
no_gate None None None is = refl
no_gate None None (Some k) is = cc
no_gate None (Some j) g is = cc
no_gate (Some i) l g is = cc

input_joins : (t : Bool) (n : ℕ) (i l g : Option ℕ) → (t ≡ true → driver_by i l g ≡ nothing) → driver_by (or_at t n i) l g ≡ cond t (input_bit n) (driver_by i l g)
input_joins true n i l g free = ap (λ (o : Option ℕ). driver_by o l g) (some_place n i (no_input i l g (free refl)))
input_joins false n i l g free = ap (λ (o : Option ℕ). driver_by o l g) (or_not n i)

latch_joins : (t : Bool) (n : ℕ) (i l g : Option ℕ) → (t ≡ true → driver_by i l g ≡ nothing) → driver_by i (or_at t n l) g ≡ cond t (held_bit n) (driver_by i l g)
latch_joins true n i l g free = ap₂ (λ (o p : Option ℕ). driver_by o p g) (no_input i l g (free refl)) (some_place n l (no_latch i l g (free refl)))
latch_joins false n i l g free = ap (λ (o : Option ℕ). driver_by i o g) (or_not n l)

gate_joins : (t : Bool) (n : ℕ) (i l g : Option ℕ) → (t ≡ true → driver_by i l g ≡ nothing) → driver_by i l (or_at t n g) ≡ cond t (gate_bit n) (driver_by i l g)
gate_joins true n i l g free =
    ap₂ (λ (o p : Option ℕ). driver_by o p (or_at true n g)) (no_input i l g (free refl)) (no_latch i l g (free refl))
    ∙ ap (driver_by None None) (some_place n g (no_gate i l g (free refl)))
gate_joins false n i l g free = ap (driver_by i l) (or_not n g)

-- a variable that is the literal's has no driver
pub free_at : (t : Aiger) (l v : ℕ) → driver t (variable l) ≡ nothing → variable l == v ≡ true → driver t v ≡ nothing
free_at t l v free is = sym (ap (driver t) (eqb-true (variable l) v is)) ∙ free

pub driver_input : (t : Aiger) (l v : ℕ) → driver t (variable l) ≡ nothing
    → driver (with_input t l) v ≡ cond (variable l == v) (input_bit (length t.inputs)) (driver t v)
unfolding driver
driver_input t l v free =
    ap (λ (o : Option ℕ). driver_by o (place_of v (latch_literals t.latches)) (place_of v (gate_literals t.gates))) (place_more v l t.inputs)
    ∙ input_joins (variable l == v) (length t.inputs) (place_of v t.inputs) (place_of v (latch_literals t.latches)) (place_of v (gate_literals t.gates)) (free_at t l v free)

pub driver_latch : (t : Aiger) (l : Latch) (v : ℕ) → driver t (variable l.literal) ≡ nothing
    → driver (with_latch t l) v ≡ cond (variable l.literal == v) (held_bit (length t.latches)) (driver t v)
unfolding driver
driver_latch t l v free =
    ap (λ (o : Option ℕ). driver_by (place_of v t.inputs) o (place_of v (gate_literals t.gates)))
    (ap (place_of v) (map-append (λ (k : Latch). k.literal) t.latches (l ∷ [])) ∙ place_more v l.literal (latch_literals t.latches)
    ∙ ap (λ (n : ℕ). or_at (variable l.literal == v) n (place_of v (latch_literals t.latches))) (length-map t.latches (λ (k : Latch). k.literal)))
    ∙ latch_joins (variable l.literal == v) (length t.latches) (place_of v t.inputs) (place_of v (latch_literals t.latches)) (place_of v (gate_literals t.gates))
    (free_at t l.literal v free)

pub driver_output : (t : Aiger) (l v : ℕ) → driver (with_output t l) v ≡ driver t v
unfolding driver
driver_output t l v = refl

pub driver_gate : (t : Aiger) (g : AndGate) (v : ℕ) → driver t (variable g.literal) ≡ nothing
    → driver (with_gate t g) v ≡ cond (variable g.literal == v) (gate_bit (length t.gates)) (driver t v)
unfolding driver
driver_gate t g v free =
    ap (driver_by (place_of v t.inputs) (place_of v (latch_literals t.latches)))
    (ap (place_of v) (map-append (λ (k : AndGate). k.literal) t.gates (g ∷ [])) ∙ place_more v g.literal (gate_literals t.gates)
    ∙ ap (λ (n : ℕ). or_at (variable g.literal == v) n (place_of v (gate_literals t.gates))) (length-map t.gates (λ (k : AndGate). k.literal)))
    ∙ gate_joins (variable g.literal == v) (length t.gates) (place_of v t.inputs) (place_of v (latch_literals t.latches)) (place_of v (gate_literals t.gates))
    (free_at t g.literal v free)

-- what is not driven has nothing that gives its bit
pub not_driven : (d : Driver) → is_driven d ≡ false → d ≡ nothing
not_driven nothing is = refl
not_driven (input_bit k) is = cc
not_driven (held_bit k) is = cc
not_driven (gate_bit k) is = cc
