-- The bits of inputs and gates: they keep the gates, and no other assignment that goes on from the inputs does.
use Rattle.std.proofs.Common.{◌≡◌, refl, sym, ap, ap₂, subst, ◌∙◌, ℕ, suc, ◌+◌, ◌-◌, ◌<◌, Bool, false, ◌&&◌, List, [], ◌∷◌, ◌++◌, length, slice_index_or, arith, append_assoc, length-append, append-nil, zero}
use Rattle.std.proofs.Math.Bool.{beq}
use Rattle.gates.specs.declared.signal.Pin.{Pin}
use Rattle.gates.specs.declared.signal.Gate.{Gate}
use Rattle.gates.specs.declared.signal.Signal.{Signal}
use Rattle.gates.specs.declared.signal.Signal.TheVariants.{Fixed, Wire}
use Rattle.gates.specs.Signals.{variable_bit, pin_bit, signal_bit, gate_bit}
use Rattle.gates.specs.Order.{IsPinWithin, IsSignalWithin, IsGateWithin, AreInOrder, AreKept, evaluated}

bit_before : (xs ys : List Bool) (i : ℕ) → i < length xs → slice_index_or (xs ++ ys) i false ≡ slice_index_or xs i false
bit_before [] ys i h = absurd (omega arith)
bit_before (x ∷ xs) ys zero h = refl
bit_before (x ∷ xs) ys (suc i) h = bit_before xs ys i (omega arith)

bit_at_end : (xs : List Bool) (b : Bool) (ys : List Bool) → slice_index_or (xs ++ b ∷ ys) (length xs) false ≡ b
bit_at_end [] b ys = refl
bit_at_end (x ∷ xs) b ys = bit_at_end xs b ys

-- more variables leave a pin's bit
pin_bit-append : (xs ys : List Bool) (p : Pin) → IsPinWithin (length xs) p → pin_bit (xs ++ ys) p ≡ pin_bit xs p
pin_bit-append xs ys p within = ap (λ b. beq b p.positive) (bit_before xs ys (p.variable - 1) (omega (arith, within.0, within.1)))

pub signal_bit-append : (xs ys : List Bool) (s : Signal) → IsSignalWithin (length xs) s → signal_bit (xs ++ ys) s ≡ signal_bit xs s
signal_bit-append xs ys (Fixed b) within = refl
signal_bit-append xs ys (Wire p) within = pin_bit-append xs ys p within

gate_bit-append : (xs ys : List Bool) (g : Gate) → IsGateWithin (length xs) g → gate_bit (xs ++ ys) g ≡ gate_bit xs g
gate_bit-append xs ys g fits = ap₂ (λ a b. a && b) (pin_bit-append xs ys g.first fits.first) (pin_bit-append xs ys g.second fits.second)

-- the bits of the gates go on from the inputs
pub evaluated_from : (m : List Bool) (gs : List Gate) → (r : List Bool) × (evaluated m gs ≡ m ++ r) × (length r ≡ length gs)
evaluated_from m [] = ([], (let e : m ≡ m ++ [] = simp append-nil refl in e), refl)
evaluated_from m (g ∷ gs) =
    let rest = evaluated_from (m ++ gate_bit m g ∷ []) gs in
    (gate_bit m g ∷ rest.0, rest.1 ∙ append_assoc m (gate_bit m g ∷ []) rest.0, ap suc rest.2)

pub length-evaluated : (m : List Bool) (gs : List Gate) → length (evaluated m gs) ≡ length m + length gs
length-evaluated m gs =
    let e = evaluated_from m gs in
    ap length e.1 ∙ length-append m e.0 ∙ ap (λ n. length m + n) e.2

-- they keep the gates
pub evaluated_keeps : (m : List Bool) (gs : List Gate) → AreInOrder (length m) gs → AreKept (evaluated m gs) (length m) gs
evaluated_keeps m [] order = tt
evaluated_keeps m (g ∷ gs) order =
    let next = m ++ gate_bit m g ∷ [] in
    let size : length next ≡ suc (length m) = omega (arith, length-append m (gate_bit m g ∷ [])) in
    let e = evaluated_from m (g ∷ gs) in
    let own : variable_bit (evaluated m (g ∷ gs)) (suc (length m)) ≡ gate_bit m g =
    ap (λ xs. variable_bit xs (suc (length m))) (evaluated_from next gs).1
    ∙ ap (λ xs. variable_bit xs (suc (length m))) (append_assoc m (gate_bit m g ∷ []) (evaluated_from next gs).0)
    ∙ at_end m (gate_bit m g) (evaluated_from next gs).0 in
    let gate : gate_bit (evaluated m (g ∷ gs)) g ≡ gate_bit m g =
    ap (λ xs. gate_bit xs g) e.1 ∙ gate_bit-append m e.0 g order.0 in
    (own ∙ sym gate, subst (λ n. AreKept (evaluated next gs) n gs) size (evaluated_keeps next gs (subst (λ n. AreInOrder n gs) (sym size) order.1)))
  where
    at_end : (xs : List Bool) (b : Bool) (ys : List Bool) → variable_bit (xs ++ b ∷ ys) (suc (length xs)) ≡ b
    at_end xs b ys = let e : suc (length xs) - 1 ≡ length xs = omega arith in
        ap (λ i. slice_index_or (xs ++ b ∷ ys) i false) e ∙ bit_at_end xs b ys

-- and an assignment that goes on from the inputs and keeps the gates is they
pub kept_is_evaluated : (m r : List Bool) (gs : List Gate) → AreInOrder (length m) gs → length r ≡ length gs → AreKept (m ++ r) (length m) gs
    → m ++ r ≡ evaluated m gs
kept_is_evaluated m [] [] order size kept = simp append-nil refl
kept_is_evaluated m [] (g ∷ gs) order size kept = absurd (omega arith)
kept_is_evaluated m (b ∷ r) [] order size kept = absurd (omega arith)
kept_is_evaluated m (b ∷ r) (g ∷ gs) order size kept =
    let own : b ≡ gate_bit m g = sym (at_end m b r) ∙ kept.0 ∙ gate_bit-append m (b ∷ r) g order.0 in
    let more : length (m ++ b ∷ []) ≡ suc (length m) = omega (arith, length-append m (b ∷ [])) in
    let parts : m ++ b ∷ r ≡ (m ++ b ∷ []) ++ r = sym (append_assoc m (b ∷ []) r) in
    let rest : (m ++ b ∷ []) ++ r ≡ evaluated (m ++ b ∷ []) gs =
    kept_is_evaluated (m ++ b ∷ []) r gs (subst (λ n. AreInOrder n gs) (sym more) order.1) (omega arith)
    (subst (λ n. AreKept ((m ++ b ∷ []) ++ r) n gs) (sym more) (subst (λ xs. AreKept xs (suc (length m)) gs) parts kept.1)) in
    parts ∙ rest ∙ ap (λ c. evaluated (m ++ c ∷ []) gs) own
  where
    at_end : (xs : List Bool) (b : Bool) (ys : List Bool) → variable_bit (xs ++ b ∷ ys) (suc (length xs)) ≡ b
    at_end xs b ys = let e : suc (length xs) - 1 ≡ length xs = omega arith in
        ap (λ i. slice_index_or (xs ++ b ∷ ys) i false) e ∙ bit_at_end xs b ys
