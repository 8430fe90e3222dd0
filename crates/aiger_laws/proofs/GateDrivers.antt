-- Each gate of a text gives its variable its bit, since no literal is defined twice.
use Rattle.std.proofs.Common.{◌≡◌, ◌⊎◌, ℕ, zero, suc, ◌+◌, ◌==◌, ◌||◌, Bool, true, false, cond, List, [], ◌∷◌, ◌++◌, length, slice_get, Option, Some, None, option_map, refl, sym, ap, subst, ◌∙◌, inl, inr, add-one, eq-eqb}
use Rattle.std.specs.Prelude.{Result, Ok, Err, nat_lt}
use Rattle.std.specs.List.{list_any}
use Rattle.std.proofs.lemmas.Bool.{eqb-true}
use Rattle.text_lines.specs.Lines.{lines}
use Rattle.aiger_laws.specs.declared.fault.Fault.{Fault}
use Rattle.aiger_laws.specs.declared.fault.Fault.TheVariants.{BadLine, OutOfRange, DefinedTwice}
use Rattle.aiger_laws.specs.declared.tree.Latch.{Latch}
use Rattle.aiger_laws.specs.declared.tree.AndGate.{AndGate}
use Rattle.aiger_laws.specs.Trees.{Aiger, empty_tree, variable}
use Rattle.aiger_laws.specs.Fields.{fields}
use Rattle.aiger_laws.specs.Drivers.{Driver, nothing, input_bit, held_bit, gate_bit, place_of, driver_by, driver, gate_literals, latch_literals, GatesDrive}
use Rattle.aiger_laws.specs.Rows.{Header, header_of, is_defined, is_undefinable, is_beyond, defining_fault, unless, with_input, with_latch, with_output, with_gate, input_added, latch_added, output_added, gate_added, one_number, latch_of, gate_of, row_added, has_more}
use Rattle.aiger_laws.specs.Grammar.{no_symbol, when_ended, goes_on, tree_from, tree_behind, tree_of_lines, tree_of_text}
use Rattle.aiger_laws.proofs.MoreDrivers.{free_at, driver_input, driver_latch, driver_output, driver_gate, not_driven}

-- the gate that gives a variable its bit
gate_placed : (v : ℕ) (gs : List AndGate) (k : ℕ) → place_of v (gate_literals gs) ≡ Some k → (g : AndGate) × (slice_get gs k ≡ Some g) × (variable g.literal ≡ v)
gate_placed v [] k is = absurd (let w : ⊥ = cc in w)
gate_placed v (g ∷ gs) k is = go (gate_placed v gs) (variable g.literal == v) refl (place_of v (gate_literals gs)) refl k is
  where
    go : ((j : ℕ) → place_of v (gate_literals gs) ≡ Some j → (f : AndGate) × (slice_get gs j ≡ Some f) × (variable f.literal ≡ v))
        → (b : Bool) → (variable g.literal == v) ≡ b → (o : Option ℕ) → place_of v (gate_literals gs) ≡ o → (j : ℕ) → cond b (Some 0) (option_map (λ (i : ℕ). i + 1) o) ≡ Some j
        → (f : AndGate) × (slice_get (g ∷ gs) j ≡ Some f) × (variable f.literal ≡ v)
    go more true e o at zero h = (g, refl, eqb-true (variable g.literal) v e)
    go more true e o at (suc j) h = absurd (let w : ⊥ = cc in w)
    go more false e None at j h = absurd (let w : ⊥ = cc in w)
    go more false e (Some i) at j h =
        let found = more i at in
        let step : Some (i + 1) ≡ Some j = h in
        let place : suc i ≡ j = sym (add-one i) ∙ ap (λ (p : Option ℕ). in_some p) step in
        (found.0, subst (λ (n : ℕ). slice_get (g ∷ gs) n ≡ Some found.0) place found.1, found.2)
      where
        in_some : Option ℕ → ℕ
        in_some None = 0
        in_some (Some n) = n

pub driving_gate : (t : Aiger) (v k : ℕ) → driver t v ≡ gate_bit k → (g : AndGate) × (slice_get t.gates k ≡ Some g) × (variable g.literal ≡ v)
unfolding driver
driving_gate t v k is = go (place_of v t.inputs) (place_of v (latch_literals t.latches)) (place_of v (gate_literals t.gates)) refl is
  where
    number : Driver → ℕ
    number nothing = 0
    number (input_bit j) = 0
    number (held_bit j) = 0
    number (gate_bit j) = j

    go : (i l g : Option ℕ) → place_of v (gate_literals t.gates) ≡ g → driver_by i l g ≡ gate_bit k → (f : AndGate) × (slice_get t.gates k ≡ Some f) × (variable f.literal ≡ v)
    go (Some i) l g at h = absurd (let w : ⊥ = cc in w)
    go None (Some l) g at h = absurd (let w : ⊥ = cc in w)
    go None None None at h = absurd (let w : ⊥ = cc in w)
    go None None (Some j) at h = gate_placed v t.gates k (at ∙ ap Some (ap number h))

-- a variable that a gate drives keeps its driver
others_drive : (t : Aiger) (l v k : ℕ) (d : Driver) → driver t (variable l) ≡ nothing → driver t v ≡ gate_bit k → cond (variable l == v) d (driver t v) ≡ gate_bit k
others_drive t l v k d free is = go (variable l == v) refl
  where
    go : (b : Bool) → (variable l == v) ≡ b → cond b d (driver t v) ≡ gate_bit k
    go true e = let w : nothing ≡ gate_bit k = sym (free_at t l v free e) ∙ is in absurd (let no_way : ⊥ = cc in no_way)
    go false e = is

-- what stands in a list with one more item
added_at : (xs : List AndGate) (x : AndGate) (k : ℕ) (y : AndGate) → slice_get (xs ++ x ∷ []) k ≡ Some y → (slice_get xs k ≡ Some y) ⊎ ((k ≡ length xs) × (x ≡ y))
added_at [] x zero y is = inr (refl, ap (λ (o : Option AndGate). in_some o) is)
  where
    in_some : Option AndGate → AndGate
    in_some None = x
    in_some (Some z) = z
added_at [] x (suc k) y is = absurd (let w : ⊥ = cc in w)
added_at (z ∷ zs) x zero y is = inl is
added_at (z ∷ zs) x (suc k) y is = go (added_at zs x k y is)
  where
    go : (slice_get zs k ≡ Some y) ⊎ ((k ≡ length zs) × (x ≡ y)) → (slice_get zs k ≡ Some y) ⊎ ((suc k ≡ suc (length zs)) × (x ≡ y))
    go (inl there) = inl there
    go (inr last) = inr (ap suc last.0, last.1)

drive_gate : (t : Aiger) (g : AndGate) → driver t (variable g.literal) ≡ nothing → GatesDrive t → GatesDrive (with_gate t g)
drive_gate t g free drives k h at = driver_gate t g (variable h.literal) free ∙ go (added_at t.gates g k h at)
  where
    go : (slice_get t.gates k ≡ Some h) ⊎ ((k ≡ length t.gates) × (g ≡ h))
        → cond (variable g.literal == variable h.literal) (gate_bit (length t.gates)) (driver t (variable h.literal)) ≡ gate_bit k
    go (inl there) = others_drive t g.literal (variable h.literal) k (gate_bit (length t.gates)) free (drives k h there)
    go (inr last) =
        let same : (variable g.literal == variable h.literal) ≡ true = eq-eqb (variable g.literal) (variable h.literal) (ap (λ (f : AndGate). variable f.literal) last.1) in
        ap (λ (b : Bool). cond b (gate_bit (length t.gates)) (driver t (variable h.literal))) same ∙ ap gate_bit (sym last.0)

-- a literal that can be defined has no driver yet
pub free_of : (most : ℕ) (t : Aiger) (l : ℕ) (used : List ℕ) → defining_fault most t l used ≡ None → driver t (variable l) ≡ nothing
free_of most t l used is = go (is_undefinable most l || list_any (is_beyond most) used) (is_defined t (variable l)) refl is
  where
    go : (a b : Bool) → is_defined t (variable l) ≡ b → cond a (Some OutOfRange) (cond b (Some DefinedTwice) None) ≡ None → driver t (variable l) ≡ nothing
    go true b e h = absurd (let w : ⊥ = cc in w)
    go false true e h = absurd (let w : ⊥ = cc in w)
    go false false e h = not_driven (driver t (variable l)) e

-- a line that has no fault gives its tree
pub unless_ok : (f : Option Fault) (t s : Aiger) → unless f t ≡ Ok s → (f ≡ None) × (t ≡ s)
unless_ok None t s is = (refl, ap (λ (r : Result Aiger Fault). in_ok r) is)
  where
    in_ok : Result Aiger Fault → Aiger
    in_ok (Ok u) = u
    in_ok (Err fault) = t
unless_ok (Some fault) t s is = absurd (let w : ⊥ = cc in w)

input_drives : (most : ℕ) (t : Aiger) (o : Option ℕ) (s : Aiger) → input_added most t o ≡ Ok s → GatesDrive t → GatesDrive s
input_drives most t None s is drives = absurd (let w : ⊥ = cc in w)
input_drives most t (Some l) s is drives =
    let parts = unless_ok (defining_fault most t l []) (with_input t l) s is in
    let free : driver t (variable l) ≡ nothing = free_of most t l [] parts.0 in
    subst GatesDrive parts.1 (λ k g at. driver_input t l (variable g.literal) free ∙ others_drive t l (variable g.literal) k (input_bit (length t.inputs)) free (drives k g at))

latch_drives : (most : ℕ) (t : Aiger) (o : Option Latch) (s : Aiger) → latch_added most t o ≡ Ok s → GatesDrive t → GatesDrive s
latch_drives most t None s is drives = absurd (let w : ⊥ = cc in w)
latch_drives most t (Some l) s is drives =
    let parts = unless_ok (defining_fault most t l.literal (l.next ∷ [])) (with_latch t l) s is in
    let free : driver t (variable l.literal) ≡ nothing = free_of most t l.literal (l.next ∷ []) parts.0 in
    subst GatesDrive parts.1
    (λ k g at. driver_latch t l (variable g.literal) free ∙ others_drive t l.literal (variable g.literal) k (held_bit (length t.latches)) free (drives k g at))

output_drives : (most : ℕ) (t : Aiger) (o : Option ℕ) (s : Aiger) → output_added most t o ≡ Ok s → GatesDrive t → GatesDrive s
output_drives most t None s is drives = absurd (let w : ⊥ = cc in w)
output_drives most t (Some l) s is drives = go (is_beyond most l) is
  where
    in_ok : Result Aiger Fault → Aiger
    in_ok (Ok u) = u
    in_ok (Err fault) = t

    go : (b : Bool) → cond b (Err OutOfRange) (Ok (with_output t l)) ≡ Ok s → GatesDrive s
    go true h = absurd (let w : ⊥ = cc in w)
    go false h = subst GatesDrive (ap in_ok h) (λ k g at. driver_output t l (variable g.literal) ∙ drives k g at)

gate_drives : (most : ℕ) (t : Aiger) (o : Option AndGate) (s : Aiger) → gate_added most t o ≡ Ok s → GatesDrive t → GatesDrive s
gate_drives most t None s is drives = absurd (let w : ⊥ = cc in w)
gate_drives most t (Some g) s is drives =
    let parts = unless_ok (defining_fault most t g.literal (g.left ∷ g.right ∷ [])) (with_gate t g) s is in
    subst GatesDrive parts.1 (drive_gate t g (free_of most t g.literal (g.left ∷ g.right ∷ []) parts.0) drives)

row_drives : (h : Header) (t s : Aiger) (ws : List (List ℕ)) → row_added h t ws ≡ Ok s → GatesDrive t → GatesDrive s
unfolding row_added
row_drives h t s ws is drives = go (nat_lt (length t.inputs) h.inputs) (nat_lt (length t.latches) h.latches) (nat_lt (length t.outputs) h.outputs) is
  where
    go : (a b c : Bool) → cond a (input_added h.most t (one_number ws)) (cond b (latch_added h.most t (latch_of ws)) (cond c (output_added h.most t (one_number ws)) (gate_added h.most t (gate_of ws)))) ≡ Ok s
        → GatesDrive s
    go true b c at = input_drives h.most t (one_number ws) s at drives
    go false true c at = latch_drives h.most t (latch_of ws) s at drives
    go false false true at = output_drives h.most t (one_number ws) s at drives
    go false false false at = gate_drives h.most t (gate_of ws) s at drives

ended_drives : (t s : Aiger) (o : Option ℕ) → when_ended t o ≡ Ok s → GatesDrive t → GatesDrive s
ended_drives t s None is drives = subst GatesDrive (ap in_ok is) drives
  where
    in_ok : Result Aiger (ℕ × Fault) → Aiger
    in_ok (Ok u) = u
    in_ok (Err fault) = t
ended_drives t s (Some n) is drives = absurd (let w : ⊥ = cc in w)

-- the text ends before its time
abbrev ends_early : ℕ → Result Aiger (ℕ × Fault)
ends_early n = Err (n, BadLine)

from_drives : (h : Header) (n : ℕ) (t s : Aiger) (ls : List (List ℕ)) → tree_from h n t ls ≡ Ok s → GatesDrive t → GatesDrive s
unfolding tree_from
from_drives h n t s [] is drives = go (has_more h t) is
  where
    go : (b : Bool) → cond b (ends_early n) (Ok t) ≡ Ok s → GatesDrive s
    go true at = absurd (let w : ⊥ = cc in w)
    go false at = ended_drives t s None at drives
from_drives h n t s (l ∷ ls) is drives = go (λ u. from_drives h (n + 1) u s ls) (has_more h t) (row_added h t (fields l)) refl is
  where
    go : ((u : Aiger) → tree_from h (n + 1) u ls ≡ Ok s → GatesDrive u → GatesDrive s) → (b : Bool) (r : Result Aiger Fault) → row_added h t (fields l) ≡ r
        → cond b (goes_on n r (λ u. tree_from h (n + 1) u ls)) (when_ended t (no_symbol n (l ∷ ls))) ≡ Ok s → GatesDrive s
    go more true (Ok u) row at = more u at (row_drives h t u (fields l) row drives)
    go more true (Err fault) row at = absurd (let w : ⊥ = cc in w)
    go more false r row at = ended_drives t s (no_symbol n (l ∷ ls)) at drives

-- each gate of the tree that a text says gives its variable its bit
pub text_drives : (bytes : List ℕ) (t : Aiger) → tree_of_text bytes ≡ Ok t → GatesDrive t
unfolding tree_of_text
text_drives bytes t is = go (lines bytes) is
  where
    behind : (o : Option Header) (ls : List (List ℕ)) → tree_behind o ls ≡ Ok t → GatesDrive t
    behind None ls at = absurd (let w : ⊥ = cc in w)
    behind (Some h) ls at = from_drives h 2 empty_tree t ls at (λ k g there. absurd (let w : ⊥ = cc in w))

    go : (ls : List (List ℕ)) → tree_of_lines ls ≡ Ok t → GatesDrive t
    go [] at = absurd (let w : ⊥ = cc in w)
    go (l ∷ ls) at = behind (header_of (fields l)) ls at
