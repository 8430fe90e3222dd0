-- A line of numbers that are told up to 2^32 says what the line of the numbers says, since no literal is above 2^32.
use Rattle.std.proofs.Common.{◌≡◌, ◌⊎◌, ℕ, ◌+◌, ◌*◌, ◌<◌, ◌≤◌, ◌^◌, ◌||◌, Bool, true, false, cond, List, [], ◌∷◌, refl, sym, ap, ap₂, ◌∙◌, inl, inr, arith, nat_lt}
use Rattle.std.specs.Prelude.{Option, Some, None, option_map, Result, Ok, Err}
use Rattle.std.specs.List.{list_any}
use Rattle.std.proofs.lemmas.Bool.{lt-ltb}
use Rattle.aiger_laws.specs.declared.fault.Fault.{Fault}
use Rattle.aiger_laws.specs.declared.fault.Fault.TheVariants.{OutOfRange, DefinedTwice}
use Rattle.aiger_laws.specs.declared.tree.Latch.{Latch}
use Rattle.aiger_laws.specs.declared.tree.AndGate.{AndGate}
use Rattle.aiger_laws.specs.Trees.{Aiger, variable, is_negated}
use Rattle.aiger_laws.specs.Drivers as laws
use Rattle.aiger_laws.specs.Rows.{is_beyond, is_undefinable, is_defined, defining_fault, unless, with_input, with_latch, with_output, with_gate, input_added, latch_added, output_added, gate_added}
use Rattle.aiger_reader.specs.Saturated.{saturated, saturated_latch, saturated_gate}
use Rattle.aiger_reader.specs.Kept.{driver_fault}
use Rattle.aiger_reader.proofs.Adding.{beyond_small, defined_small, used_small, second_small}

pub small_same : (n : ℕ) → n < 2 ^ 32 → saturated n ≡ n
small_same n small = omega (arith, small)

pub beyond_saturated : (most n : ℕ) → most < 2 ^ 31 → is_beyond most (saturated n) ≡ is_beyond most n
beyond_saturated most n small = go (grind arith)
  where
    go : (n < 2 ^ 32) ⊎ (2 ^ 32 ≤ n) → is_beyond most (saturated n) ≡ is_beyond most n
    go (inl below) = ap (is_beyond most) (small_same n below)
    go (inr above) = lt-ltb (2 * most + 1) (saturated n) (omega (arith, above, small)) ∙ sym (lt-ltb (2 * most + 1) n (omega (arith, above, small)))

-- a literal that is beyond can not be defined
beyond_fault : (most : ℕ) (t : Aiger) (l : ℕ) (used : List ℕ) → is_beyond most l ≡ true → defining_fault most t l used ≡ Some OutOfRange
beyond_fault most t l used is =
    ap (λ (b : Bool). cond (b || (is_negated l || nat_lt l 2) || list_any (is_beyond most) used) (Some OutOfRange) (cond (is_defined t (variable l)) (Some DefinedTwice) None)) is

fault_saturated : (most : ℕ) (t : Aiger) (l : ℕ) (used told : List ℕ) → most < 2 ^ 31 → list_any (is_beyond most) told ≡ list_any (is_beyond most) used
    → defining_fault most t (saturated l) told ≡ defining_fault most t l used
fault_saturated most t l used told small same = go (is_beyond most l) refl
  where
    go : (b : Bool) → is_beyond most l ≡ b → defining_fault most t (saturated l) told ≡ defining_fault most t l used
    go true e = beyond_fault most t (saturated l) told (beyond_saturated most l small ∙ e) ∙ sym (beyond_fault most t l used e)
    go false e =
        ap (λ (n : ℕ). defining_fault most t n told) (small_same l (beyond_small most l small e))
        ∙ ap (λ (b : Bool). cond (is_undefinable most l || b) (Some OutOfRange) (cond (is_defined t (variable l)) (Some DefinedTwice) None)) same

-- the same tree where there is no fault
unless_same : (f : Option Fault) (s t : Aiger) → (f ≡ None → s ≡ t) → unless f s ≡ unless f t
unless_same None s t same = ap Ok (same refl)
unless_same (Some fault) s t same = refl

pub input_saturated : (most : ℕ) (t : Aiger) (o : Option ℕ) → most < 2 ^ 31 → input_added most t (option_map saturated o) ≡ input_added most t o
input_saturated most t None small = refl
input_saturated most t (Some l) small =
    ap (λ (f : Option Fault). unless f (with_input t (saturated l))) (fault_saturated most t l [] [] small refl)
    ∙ unless_same (defining_fault most t l []) (with_input t (saturated l)) (with_input t l)
    (λ none. ap (with_input t) (small_same l (defined_small most (laws.driver t) l [] small none)))

pub output_saturated : (most : ℕ) (t : Aiger) (o : Option ℕ) → most < 2 ^ 31 → output_added most t (option_map saturated o) ≡ output_added most t o
output_saturated most t None small = refl
output_saturated most t (Some l) small =
    ap (λ (b : Bool). cond b (Err OutOfRange) (Ok (with_output t (saturated l)))) (beyond_saturated most l small) ∙ go (is_beyond most l) refl
  where
    go : (b : Bool) → is_beyond most l ≡ b → cond b (Err OutOfRange) (Ok (with_output t (saturated l))) ≡ cond b (Err OutOfRange) (Ok (with_output t l))
    go true e = refl
    go false e = ap (λ (n : ℕ). Ok (with_output t n)) (small_same l (beyond_small most l small e))

abbrev latch_by : ℕ → ℕ → Latch
latch_by l n = record { literal = l; next = n }

abbrev gate_by : ℕ → ℕ → ℕ → AndGate
gate_by l a b = record { literal = l; left = a; right = b }

any_one : (most a : ℕ) → most < 2 ^ 31 → list_any (is_beyond most) (saturated a ∷ []) ≡ list_any (is_beyond most) (a ∷ [])
any_one most a small = ap (λ (b : Bool). b || false) (beyond_saturated most a small)

any_two : (most a b : ℕ) → most < 2 ^ 31 → list_any (is_beyond most) (saturated a ∷ saturated b ∷ []) ≡ list_any (is_beyond most) (a ∷ b ∷ [])
any_two most a b small = ap₂ (λ (x y : Bool). x || (y || false)) (beyond_saturated most a small) (beyond_saturated most b small)

pub latch_saturated : (most : ℕ) (t : Aiger) (o : Option Latch) → most < 2 ^ 31 → latch_added most t (option_map saturated_latch o) ≡ latch_added most t o
latch_saturated most t None small = refl
latch_saturated most t (Some l) small =
    ap (λ (f : Option Fault). unless f (with_latch t (saturated_latch l)))
    (fault_saturated most t l.literal (l.next ∷ []) (saturated l.next ∷ []) small (any_one most l.next small))
    ∙ unless_same (defining_fault most t l.literal (l.next ∷ [])) (with_latch t (saturated_latch l)) (with_latch t l)
    (λ none. ap (with_latch t) (ap₂ latch_by (small_same l.literal (defined_small most (laws.driver t) l.literal (l.next ∷ []) small none))
    (small_same l.next (used_small most (laws.driver t) l.literal l.next [] small none))))

pub gate_saturated : (most : ℕ) (t : Aiger) (o : Option AndGate) → most < 2 ^ 31 → gate_added most t (option_map saturated_gate o) ≡ gate_added most t o
gate_saturated most t None small = refl
gate_saturated most t (Some g) small =
    ap (λ (f : Option Fault). unless f (with_gate t (saturated_gate g)))
    (fault_saturated most t g.literal (g.left ∷ g.right ∷ []) (saturated g.left ∷ saturated g.right ∷ []) small (any_two most g.left g.right small))
    ∙ unless_same (defining_fault most t g.literal (g.left ∷ g.right ∷ [])) (with_gate t (saturated_gate g)) (with_gate t g)
    (λ none. ap (with_gate t)
    (ap (λ (n : ℕ). gate_by n (saturated g.left) (saturated g.right)) (small_same g.literal (defined_small most (laws.driver t) g.literal (g.left ∷ g.right ∷ []) small none))
    ∙ ap₂ (gate_by g.literal) (small_same g.left (used_small most (laws.driver t) g.literal g.left (g.right ∷ []) small none))
    (small_same g.right (second_small most (laws.driver t) g.literal g.left g.right small none))))
