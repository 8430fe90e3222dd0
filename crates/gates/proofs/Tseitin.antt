-- The clauses of gates are true exactly where each gate's variable has the gate's bit; and they are clauses.
use Rattle.std.proofs.Common.{◌≡◌, refl, sym, ap, ap₂, ◌∙◌, ℕ, suc, ◌+◌, ◌*◌, ◌<◌, ◌≤◌, Bool, true, false, not, ◌&&◌, ◌||◌, ◌==◌, nat_le, List, [], ◌∷◌, ◌++◌, length, arith}
use Rattle.std.proofs.Math.Bool.{beq}
use Rattle.std.specs.List.{list_all}
use Rattle.std.proofs.lemmas.Bool.Decides.{nat_tests}
use Rattle.resolution_proof.specs.declared.literal.Literal.{Literal}
use Rattle.resolution_proof.specs.Clause.{is_among, is_clause}
use Rattle.resolution_proof.specs.Literal.{is_once}
use Rattle.resolution_proof.specs.Formula.{is_true, makes_true, are_clauses}
use Rattle.gates.specs.declared.signal.Pin.{Pin}
use Rattle.gates.specs.declared.signal.Gate.{Gate}
use Rattle.gates.specs.Signals.{opposite, pin_of, variable_bit, pin_bit, gate_bit}
use Rattle.gates.specs.Order.{IsGateWithin, AreInOrder, AreKept}
use Rattle.gates.specs.Clauses.{literal_of, implies_pin, implied_by, gate_clauses, clauses_from}
use Rattle.gates.proofs.AndGates.{both_true, beq_same}

-- ---- one gate

-- three bits under the clauses of a gate
abbrev three_clauses : Bool → Bool → Bool → Bool
three_clauses v p q = (beq v false || (p || false)) && ((beq v false || (q || false)) && ((beq v true || (not p || (not q || false))) && true))

clauses_give : (v p q : Bool) → three_clauses v p q ≡ beq v (p && q)
clauses_give true true true = refl
clauses_give true true false = refl
clauses_give true false q = refl
clauses_give false true true = refl
clauses_give false true false = refl
clauses_give false false true = refl
clauses_give false false false = refl

beq_self : (b : Bool) → beq b b ≡ true
beq_self true = refl
beq_self false = refl

opposite_true : (m : List Bool) (p : Pin) → is_true m (literal_of (opposite p)) ≡ not (pin_bit m p)
opposite_true m p = go (variable_bit m p.variable) p.positive
  where
    go : (v s : Bool) → beq v (not s) ≡ not (beq v s)
    go true true = refl
    go true false = refl
    go false true = refl
    go false false = refl

-- the clauses of a gate are true exactly where the variable has the gate's bit
gate_clauses_true : (m : List Bool) (v : ℕ) (g : Gate) → list_all (makes_true m) (gate_clauses v g) ≡ beq (variable_bit m v) (gate_bit m g)
gate_clauses_true m v g =
    ap₂ (λ a b. (beq (variable_bit m v) false || (pin_bit m g.first || false)) && ((beq (variable_bit m v) false || (pin_bit m g.second || false))
    && ((beq (variable_bit m v) true || (a || (b || false))) && true))) (opposite_true m g.first) (opposite_true m g.second)
    ∙ clauses_give (variable_bit m v) (pin_bit m g.first) (pin_bit m g.second)

-- ---- all gates

pub list_all-append : {A : Type 0} (t : A → Bool) (xs ys : List A) → list_all t (xs ++ ys) ≡ (list_all t xs && list_all t ys)
list_all-append t [] ys = refl
list_all-append t (x ∷ xs) ys = ap (λ b. t x && b) (list_all-append t xs ys) ∙ assoc (t x) (list_all t xs) (list_all t ys)
  where
    assoc : (a b c : Bool) → (a && (b && c)) ≡ ((a && b) && c)
    assoc true b c = refl
    assoc false b c = refl

-- an assignment makes the clauses true where it keeps the gates
pub true_from_kept : (m : List Bool) (n : ℕ) (gs : List Gate) → AreKept m n gs → list_all (makes_true m) (clauses_from n gs) ≡ true
true_from_kept m n [] kept = refl
true_from_kept m n (g ∷ gs) kept =
    list_all-append (makes_true m) (gate_clauses (suc n) g) (clauses_from (suc n) gs)
    ∙ ap₂ (λ a b. a && b)
    (gate_clauses_true m (suc n) g ∙ ap (λ b. beq b (gate_bit m g)) kept.0 ∙ beq_self (gate_bit m g))
    (true_from_kept m (suc n) gs kept.1)

-- and only there
pub kept_from_true : (m : List Bool) (n : ℕ) (gs : List Gate) → list_all (makes_true m) (clauses_from n gs) ≡ true → AreKept m n gs
kept_from_true m n [] holds = tt
kept_from_true m n (g ∷ gs) holds =
    let both = both_true (list_all (makes_true m) (gate_clauses (suc n) g)) (list_all (makes_true m) (clauses_from (suc n) gs))
    (sym (list_all-append (makes_true m) (gate_clauses (suc n) g) (clauses_from (suc n) gs)) ∙ holds) in
    (beq_same _ _ (sym (gate_clauses_true m (suc n) g) ∙ both.0), kept_from_true m (suc n) gs both.1)

-- ---- they are clauses

among : (n k : ℕ) (p : Literal) → 1 ≤ p.variable → p.variable ≤ n → n ≤ k → is_among k p ≡ true
among n k p low high more = go (nat_le 1 p.variable) (nat_le p.variable k) refl refl
  where
    go : (a b : Bool) → nat_le 1 p.variable ≡ a → nat_le p.variable k ≡ b → (nat_le 1 p.variable && nat_le p.variable k) ≡ true
    go true true s t = ap₂ (λ a b. a && b) s t
    go false b s t = absurd (grind (arith, nat_tests))
    go true false s t = absurd (grind (arith, nat_tests))

apart : (v w : ℕ) → v < w → (v == w) ≡ false
apart v w h = grind (arith, nat_tests)

apart_turned : (v w : ℕ) → w < v → (v == w) ≡ false
apart_turned v w h = grind (arith, nat_tests)

-- the clauses of a gate have no variable twice
pub implies_once : (v : ℕ) (p : Pin) → p.variable < v → is_once (implies_pin v p) ≡ true
implies_once v p h = ap (λ t. not (t || false) && (not false && true)) (apart p.variable v h)

pub implied_once : (v : ℕ) (g : Gate) → g.first.variable < v → g.second.variable < v → g.first.variable < g.second.variable → is_once (implied_by v g) ≡ true
implied_once v g h k l =
    ap₂ (λ s t. not (s || (t || false)) && (not (g.second.variable == g.first.variable || false) && (not false && true)))
    (apart g.first.variable v h) (apart g.second.variable v k)
    ∙ ap (λ s. not (s || false) && (not false && true)) (apart_turned g.second.variable g.first.variable l)

-- and are over the variables up to the gate's own
gate_is_clauses : (n k : ℕ) (g : Gate) → IsGateWithin n g → suc n ≤ k → are_clauses k (gate_clauses (suc n) g) ≡ true
gate_is_clauses n k g fits more =
    let low : 1 ≤ suc n = omega arith in
    let last : suc n ≤ suc n = omega arith in
    let further : n ≤ k = omega arith in
    let first_before : g.first.variable < suc n = omega (arith, fits.first.1) in
    let second_before : g.second.variable < suc n = omega (arith, fits.second.1) in
    let first = among n k (literal_of g.first) fits.first.0 fits.first.1 further in
    let second = among n k (literal_of g.second) fits.second.0 fits.second.1 further in
    let own = among (suc n) k (literal_of (pin_of (suc n))) low last more in
    let one : is_clause k (implies_pin (suc n) g.first) ≡ true =
    ap₂ (λ s t. s && t) (implies_once (suc n) g.first first_before) (ap₂ (λ s t. s && (t && true)) own first) in
    let two : is_clause k (implies_pin (suc n) g.second) ≡ true =
    ap₂ (λ s t. s && t) (implies_once (suc n) g.second second_before) (ap₂ (λ s t. s && (t && true)) own second) in
    let three : is_clause k (implied_by (suc n) g) ≡ true =
    ap₂ (λ s t. s && t) (implied_once (suc n) g first_before second_before fits.ordered)
    (ap₂ (λ s t. s && t) own (ap₂ (λ s t. s && (t && true)) first second)) in
    ap₂ (λ s t. s && t) one (ap₂ (λ s t. s && (t && true)) two three)

pub clauses_are_clauses : (n k : ℕ) (gs : List Gate) → AreInOrder n gs → n + length gs ≤ k → are_clauses k (clauses_from n gs) ≡ true
clauses_are_clauses n k [] order more = refl
clauses_are_clauses n k (g ∷ gs) order more =
    list_all-append (is_clause k) (gate_clauses (suc n) g) (clauses_from (suc n) gs)
    ∙ ap₂ (λ s t. s && t) (gate_is_clauses n k g order.0 (omega arith)) (clauses_are_clauses (suc n) k gs order.1 (omega arith))

pub length-clauses_from : (n : ℕ) (gs : List Gate) → length (clauses_from n gs) ≡ 3 * length gs
length-clauses_from n [] = refl
length-clauses_from n (g ∷ gs) = omega (arith, length-clauses_from (suc n) gs)
