-- The tree of a circuit with one more input, latch, output or gate.
use Rattle.std.proofs.Common.{◌≡◌, ℕ, zero, suc, ◌+◌, ◌*◌, ◌/◌, ◌%◌, ◌<◌, ◌≤◌, ◌==◌, ◌||◌, Bool, true, false, cond, List, [], ◌∷◌, ◌++◌, map, length, Option, Some, None, refl, sym, ap, ap₂, ◌∙◌, inr, arith}
use Rattle.std.specs.Prelude.{nat_lt, Ok, Err}
use Rattle.std.specs.List.{list_any}
use Rattle.std.proofs.lemmas.Bool.{ltb-true}
use Rattle.std.proofs.lemmas.List.{map-append}
use Rattle.gates.specs.declared.signal.Pin.{Pin}
use Rattle.gates.specs.declared.signal.Gate.{Gate}
use Rattle.gates.specs.declared.signal.Signal.{Signal}
use Rattle.gates.specs.declared.signal.Signal.TheVariants.{Fixed, Wire}
use Rattle.gates.specs.Order.{IsPinWithin, IsSignalWithin}
use Rattle.aiger_laws.specs.declared.fault.Fault.{Fault}
use Rattle.aiger_laws.specs.declared.fault.Fault.TheVariants.{OutOfRange, DefinedTwice}
use Rattle.aiger_laws.specs.declared.tree.Latch.{Latch}
use Rattle.aiger_laws.specs.declared.tree.AndGate.{AndGate}
use Rattle.aiger_laws.specs.Trees.{Aiger, variable, is_negated}
use Rattle.aiger_laws.specs.Drivers.{Driver, nothing, driver}
use Rattle.aiger_laws.specs.Rows.{is_beyond, is_undefinable, is_driven, defining_fault, unless, with_input, with_latch, with_output, with_gate, input_added, latch_added, output_added, gate_added}
use Rattle.aiger_circuits.specs.CircuitTrees.{pin_literal, signal_literal, literals_from, latches_from, gates_from, and_gate, circuit_tree}
use Rattle.aiger_circuits.proofs.CircuitDrivers.{drives_nothing}

-- ---- lists with one more

literals_more : (s n : ℕ) → literals_from s n ++ 2 * (s + n) ∷ [] ≡ literals_from s (suc n)
literals_more s zero = let e : s + 0 ≡ s = omega arith in ap (λ (v : ℕ). 2 * v ∷ []) e
literals_more s (suc n) =
    let e : s + suc n ≡ suc s + n = omega arith in
    ap (λ (v : ℕ). 2 * s ∷ literals_from (suc s) n ++ 2 * v ∷ []) e ∙ ap (λ (ls : List ℕ). 2 * s ∷ ls) (literals_more (suc s) n)

latches_more : (s : ℕ) (ss : List Signal) (x : Signal) → latches_from s ss ++ record { literal = 2 * (s + length ss); next = signal_literal x } ∷ [] ≡ latches_from s (ss ++ x ∷ [])
latches_more s [] x = let e : s + 0 ≡ s = omega arith in ap (λ (v : ℕ). record { literal = 2 * v; next = signal_literal x } ∷ []) e
latches_more s (y ∷ ys) x =
    let e : s + suc (length ys) ≡ suc s + length ys = omega arith in
    ap (λ (v : ℕ). record { literal = 2 * s; next = signal_literal y } ∷ latches_from (suc s) ys ++ record { literal = 2 * v; next = signal_literal x } ∷ []) e
    ∙ ap (λ (ls : List Latch). record { literal = 2 * s; next = signal_literal y } ∷ ls) (latches_more (suc s) ys x)

gates_more : (s : ℕ) (gs : List Gate) (g : Gate) → gates_from s gs ++ and_gate (s + length gs) g ∷ [] ≡ gates_from s (gs ++ g ∷ [])
gates_more s [] g = let e : s + 0 ≡ s = omega arith in ap (λ (v : ℕ). and_gate v g ∷ []) e
gates_more s (h ∷ hs) g =
    let e : s + suc (length hs) ≡ suc s + length hs = omega arith in
    ap (λ (v : ℕ). and_gate s h ∷ gates_from (suc s) hs ++ and_gate v g ∷ []) e ∙ ap (λ (ls : List AndGate). and_gate s h ∷ ls) (gates_more (suc s) hs g)

-- ---- literals within bounds

even_fits : (most v : ℕ) → 1 ≤ v → v ≤ most → is_undefinable most (2 * v) ≡ false
even_fits most v some within = join (nat_lt (2 * most + 1) (2 * v)) (is_negated (2 * v)) (nat_lt (2 * v) 2) low even high
  where
    -- a test that does not hold
    not_less : (a b : ℕ) → b ≤ a → nat_lt a b ≡ false
    not_less a b le = go (nat_lt a b) refl
      where
        go : (t : Bool) → nat_lt a b ≡ t → t ≡ false
        go true is = absurd (let less : a < b = ltb-true a b is in omega (arith, le, less))
        go false is = refl

    low : nat_lt (2 * most + 1) (2 * v) ≡ false
    low = not_less (2 * most + 1) (2 * v) (omega (arith, within))

    even : is_negated (2 * v) ≡ false
    even = let e : (2 * v) % 2 ≡ 0 = omega arith in ap (λ (r : ℕ). r == 1) e

    high : nat_lt (2 * v) 2 ≡ false
    high = not_less (2 * v) 2 (omega (arith, some))

    join : (a b c : Bool) → a ≡ false → b ≡ false → c ≡ false → (a || (b || c)) ≡ false
    join false false false p q r = refl
    join true b c p q r = absurd (let no : ⊥ = cc in no)
    join false true c p q r = absurd (let no : ⊥ = cc in no)
    join false false true p q r = absurd (let no : ⊥ = cc in no)

literal_fits : (most l : ℕ) → l ≤ 2 * most + 1 → is_beyond most l ≡ false
literal_fits most l within = go (nat_lt (2 * most + 1) l) refl
  where
    go : (t : Bool) → nat_lt (2 * most + 1) l ≡ t → t ≡ false
    go true is = absurd (let less : 2 * most + 1 < l = ltb-true (2 * most + 1) l is in omega (arith, within, less))
    go false is = refl

pub pin_fits : (most : ℕ) (p : Pin) → p.variable ≤ most → pin_literal p ≤ 2 * most + 1
pin_fits most p within = go p.positive
  where
    go : (b : Bool) → 2 * p.variable + cond b 0 1 ≤ 2 * most + 1
    go true = omega (arith, within)
    go false = omega (arith, within)

pub signal_fits : (most : ℕ) (s : Signal) → IsSignalWithin most s → signal_literal s ≤ 2 * most + 1
signal_fits most (Fixed true) within = omega arith
signal_fits most (Fixed false) within = omega arith
signal_fits most (Wire p) within = pin_fits most p within.1

-- ---- one more line

-- a literal of a variable without a driver is defined once
fresh : (most : ℕ) (t : Aiger) (v : ℕ) (used : List ℕ) → 1 ≤ v → v ≤ most → driver t v ≡ nothing → list_any (is_beyond most) used ≡ false → defining_fault most t (2 * v) used ≡ None
fresh most t v used some within free fits =
    let e : variable (2 * v) ≡ v = omega arith in
    ap₂ (λ (a b : Bool). cond (a || b) (Some OutOfRange) (cond (is_driven (driver t (variable (2 * v)))) (Some DefinedTwice) None)) (even_fits most v some within) fits
    ∙ ap (λ (w : ℕ). cond (is_driven (driver t w)) (Some DefinedTwice) None) e
    ∙ ap (λ (d : Driver). cond (is_driven d) (Some DefinedTwice) None) free

module _ (most : ℕ) where
  pub one_input : (k : ℕ) → suc k ≤ most → input_added most (circuit_tree k [] [] []) (Some (2 * suc k)) ≡ Ok (circuit_tree (suc k) [] [] [])
  unfolding circuit_tree
  one_input k within =
      let past : k + 0 + 0 < suc k = omega arith in
      let free : driver (circuit_tree k [] [] []) (suc k) ≡ nothing = drives_nothing k [] [] [] (suc k) (inr past) in
      ap (λ (o : Option Fault). unless o (with_input (circuit_tree k [] [] []) (2 * suc k))) (fresh most (circuit_tree k [] [] []) (suc k) [] (omega arith) within free refl)
      ∙ ap (λ (ls : List ℕ). Ok (record { inputs = ls; latches = []; outputs = []; gates = [] })) (let e : 1 + k ≡ suc k = omega arith in ap (λ (v : ℕ). literals_from 1 k ++ 2 * v ∷ []) (sym e) ∙ literals_more 1 k)

  pub one_latch : (inputs : ℕ) (ss : List Signal) (s : Signal) → suc (inputs + length ss) ≤ most → IsSignalWithin most s
      → latch_added most (circuit_tree inputs [] ss []) (Some (record { literal = 2 * suc (inputs + length ss); next = signal_literal s })) ≡ Ok (circuit_tree inputs [] (ss ++ s ∷ []) [])
  unfolding circuit_tree
  one_latch inputs ss s within signal =
      let past : inputs + length ss + 0 < suc (inputs + length ss) = omega arith in
      let free : driver (circuit_tree inputs [] ss []) (suc (inputs + length ss)) ≡ nothing = drives_nothing inputs [] ss [] (suc (inputs + length ss)) (inr past) in
      let fits : list_any (is_beyond most) (signal_literal s ∷ []) ≡ false = ap (λ (t : Bool). t || false) (literal_fits most (signal_literal s) (signal_fits most s signal)) in
      let e : suc inputs + length ss ≡ suc (inputs + length ss) = omega arith in
      ap (λ (o : Option Fault). unless o (with_latch (circuit_tree inputs [] ss []) (record { literal = 2 * suc (inputs + length ss); next = signal_literal s })))
      (fresh most (circuit_tree inputs [] ss []) (suc (inputs + length ss)) (signal_literal s ∷ []) (omega arith) within free fits)
      ∙ ap (λ (ls : List Latch). Ok (record { inputs = literals_from 1 inputs; latches = ls; outputs = []; gates = [] }))
      (ap (λ (v : ℕ). latches_from (suc inputs) ss ++ record { literal = 2 * v; next = signal_literal s } ∷ []) (sym e) ∙ latches_more (suc inputs) ss s)

  pub one_output : (inputs : ℕ) (os nexts : List Signal) (s : Signal) → IsSignalWithin most s
      → output_added most (circuit_tree inputs os nexts []) (Some (signal_literal s)) ≡ Ok (circuit_tree inputs (os ++ s ∷ []) nexts [])
  unfolding circuit_tree
  one_output inputs os nexts s signal =
      ap (λ (t : Bool). cond t (Err OutOfRange) (Ok (with_output (circuit_tree inputs os nexts []) (signal_literal s)))) (literal_fits most (signal_literal s) (signal_fits most s signal))
      ∙ ap (λ (ls : List ℕ). Ok (record { inputs = literals_from 1 inputs; latches = latches_from (suc inputs) nexts; outputs = ls; gates = [] })) (sym (map-append signal_literal os (s ∷ [])))

  pub one_gate : (inputs : ℕ) (outputs nexts : List Signal) (gs : List Gate) (g : Gate) → suc (inputs + length nexts + length gs) ≤ most → g.first.variable ≤ most → g.second.variable ≤ most
      → gate_added most (circuit_tree inputs outputs nexts gs) (Some (and_gate (suc (inputs + length nexts + length gs)) g)) ≡ Ok (circuit_tree inputs outputs nexts (gs ++ g ∷ []))
  unfolding circuit_tree
  one_gate inputs outputs nexts gs g within first second =
      let past : inputs + length nexts + length gs < suc (inputs + length nexts + length gs) = omega arith in
      let free : driver (circuit_tree inputs outputs nexts gs) (suc (inputs + length nexts + length gs)) ≡ nothing = drives_nothing inputs outputs nexts gs (suc (inputs + length nexts + length gs)) (inr past) in
      let fits : list_any (is_beyond most) (pin_literal g.second ∷ pin_literal g.first ∷ []) ≡ false =
      ap₂ (λ (a b : Bool). a || (b || false)) (literal_fits most (pin_literal g.second) (pin_fits most g.second second)) (literal_fits most (pin_literal g.first) (pin_fits most g.first first)) in
      let e : suc (inputs + length nexts) + length gs ≡ suc (inputs + length nexts + length gs) = omega arith in
      ap (λ (o : Option Fault). unless o (with_gate (circuit_tree inputs outputs nexts gs) (and_gate (suc (inputs + length nexts + length gs)) g)))
      (fresh most (circuit_tree inputs outputs nexts gs) (suc (inputs + length nexts + length gs)) (pin_literal g.second ∷ pin_literal g.first ∷ []) (omega arith) within free fits)
      ∙ ap (λ (ls : List AndGate). Ok (record { inputs = literals_from 1 inputs; latches = latches_from (suc inputs) nexts; outputs = map signal_literal outputs; gates = ls }))
      (ap (λ (v : ℕ). gates_from (suc (inputs + length nexts)) gs ++ and_gate v g ∷ []) (sym e) ∙ gates_more (suc (inputs + length nexts)) gs g)
