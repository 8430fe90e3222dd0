-- The building of an and: its bit under an assignment that keeps the gates, its number of gates, and their order.
use Rattle.std.proofs.Common.{◌≡◌, refl, sym, ap, ap₂, subst, ◌∙◌, ℕ, suc, ◌+◌, ◌≤◌, Bool, true, false, not, cond, ◌&&◌, ◌||◌, ◌==◌, nat_lt, List, [], ◌∷◌, length, arith}
use Rattle.std.proofs.Math.Bool.{beq}
use Rattle.std.proofs.lemmas.Bool.{eqb-true, ltb-true}
use Rattle.std.proofs.lemmas.Bool.Decides.{nat_tests}
use Rattle.std.specs.List.{list_any, position_or_len}
use Rattle.gates.specs.declared.signal.Pin.{Pin}
use Rattle.gates.specs.declared.signal.Gate.{Gate}
use Rattle.gates.specs.declared.signal.Signal.{Signal}
use Rattle.gates.specs.declared.signal.Signal.TheVariants.{Fixed, Wire}
use Rattle.gates.specs.Signals.{same_pin, same_gate, gate_of, ordered_gate, variable_bit, pin_bit, signal_bit, gate_bit}
use Rattle.gates.specs.Build.{Build, done, joined, and_pins, and}
use Rattle.gates.specs.Order.{IsPinWithin, IsSignalWithin, IsGateWithin, AreInOrder, AreKept}

-- ---- bits

pub beq_same : (a b : Bool) → beq a b ≡ true → a ≡ b
beq_same true true e = refl
beq_same true false e = sym e
beq_same false true e = e
beq_same false false e = refl

pub both_true : (a b : Bool) → (a && b) ≡ true → (a ≡ true) × (b ≡ true)
both_true true b e = (refl, e)
both_true false b e = (e, absurd cc)

and_same : (a : Bool) → a ≡ (a && a)
and_same true = refl
and_same false = refl

and_opposite : (v a b : Bool) → beq a b ≡ false → false ≡ (beq v a && beq v b)
and_opposite v true true e = absurd cc
and_opposite true true false e = refl
and_opposite false true false e = refl
and_opposite true false true e = refl
and_opposite false false true e = refl
and_opposite v false false e = absurd cc

and_one : (a : Bool) → a ≡ (a && true)
and_one true = refl
and_one false = refl

and_zero : (a : Bool) → false ≡ (a && false)
and_zero true = refl
and_zero false = refl

pub and_turned : (a b : Bool) → (a && b) ≡ (b && a)
and_turned true true = refl
and_turned true false = refl
and_turned false true = refl
and_turned false false = refl

beq_one : (a : Bool) → beq a true ≡ a
beq_one true = refl
beq_one false = refl

-- ---- a gate that stands already

same_pin_bit : (m : List Bool) (a b : Pin) → same_pin a b ≡ true → pin_bit m a ≡ pin_bit m b
same_pin_bit m a b e =
    let both = both_true (a.variable == b.variable) (beq a.positive b.positive) e in
    ap₂ (λ v s. beq (variable_bit m v) s) (eqb-true a.variable b.variable both.0) (beq_same a.positive b.positive both.1)

same_gate_bit : (m : List Bool) (g h : Gate) → same_gate g h ≡ true → gate_bit m g ≡ gate_bit m h
same_gate_bit m g h e =
    let both = both_true (same_pin g.first h.first) (same_pin g.second h.second) e in
    ap₂ (λ a b. a && b) (same_pin_bit m g.first h.first both.0) (same_pin_bit m g.second h.second both.1)

found_bit : (m : List Bool) (g : Gate) (n : ℕ) (gs : List Gate) → AreKept m n gs → list_any (same_gate g) gs ≡ true
    → variable_bit m (n + suc (position_or_len (same_gate g) gs)) ≡ gate_bit m g
found_bit m g n [] kept e = absurd cc
found_bit m g n (h ∷ gs) kept e = go (same_gate g h) refl (found_bit m g (suc n) gs kept.1)
  where
    go : (t : Bool) → same_gate g h ≡ t
        → (list_any (same_gate g) gs ≡ true → variable_bit m (suc n + suc (position_or_len (same_gate g) gs)) ≡ gate_bit m g)
        → variable_bit m (n + suc (position_or_len (same_gate g) (h ∷ gs))) ≡ gate_bit m g
    go true is rest =
        let position : n + suc (cond (not true) (1 + position_or_len (same_gate g) gs) 0) ≡ suc n = omega arith in
        ap (λ u. variable_bit m (n + suc (cond (not u) (1 + position_or_len (same_gate g) gs) 0))) is
        ∙ ap (variable_bit m) position ∙ kept.0 ∙ sym (same_gate_bit m g h is)
    go false is rest =
        let position : n + suc (cond (not false) (1 + position_or_len (same_gate g) gs) 0) ≡ suc n + suc (position_or_len (same_gate g) gs) = omega arith in
        ap (λ u. variable_bit m (n + suc (cond (not u) (1 + position_or_len (same_gate g) gs) 0))) is
        ∙ ap (variable_bit m) position
        ∙ rest (subst (λ u. (u || list_any (same_gate g) gs) ≡ true) is e)

found_within : (g : Gate) (gs : List Gate) → list_any (same_gate g) gs ≡ true → suc (position_or_len (same_gate g) gs) ≤ length gs
found_within g [] e = absurd cc
found_within g (h ∷ gs) e = go (same_gate g h) refl (found_within g gs)
  where
    go : (t : Bool) → same_gate g h ≡ t → (list_any (same_gate g) gs ≡ true → suc (position_or_len (same_gate g) gs) ≤ length gs)
        → suc (position_or_len (same_gate g) (h ∷ gs)) ≤ length (h ∷ gs)
    go true is rest = subst (λ u. suc (cond (not u) (1 + position_or_len (same_gate g) gs) 0) ≤ suc (length gs)) (sym is) (omega arith)
    go false is rest =
        subst (λ u. suc (cond (not u) (1 + position_or_len (same_gate g) gs) 0) ≤ suc (length gs)) (sym is)
        (omega (arith, rest (subst (λ u. (u || list_any (same_gate g) gs) ≡ true) is e)))

none_position : (g : Gate) (gs : List Gate) → list_any (same_gate g) gs ≡ false → position_or_len (same_gate g) gs ≡ length gs
none_position g [] e = refl
none_position g (h ∷ gs) e = go (same_gate g h) refl (none_position g gs)
  where
    go : (t : Bool) → same_gate g h ≡ t → (list_any (same_gate g) gs ≡ false → position_or_len (same_gate g) gs ≡ length gs)
        → position_or_len (same_gate g) (h ∷ gs) ≡ length (h ∷ gs)
    go true is last = absurd (let f : true ≡ false = subst (λ u. (u || list_any (same_gate g) gs) ≡ false) is e in cc)
    go false is last =
        let rest = last (subst (λ u. (u || list_any (same_gate g) gs) ≡ false) is e) in
        subst (λ u. cond (not u) (1 + position_or_len (same_gate g) gs) 0 ≡ suc (length gs)) (sym is) (omega arith)

-- ---- the bit

module _ (m : List Bool) (inputs : ℕ) (gs : List Gate) where
  -- the building gives that bit, where its new gates are kept
  abbrev Gives : Build Signal → Bool → Type 0
  Gives p b = AreKept m (inputs + length gs) (p inputs gs).gates → signal_bit m (p inputs gs).got ≡ b

  gives-done : (s : Signal) → Gives (done s) (signal_bit m s)
  unfolding done
  gives-done s new = refl

  gives-joined : (g : Gate) → AreKept m inputs gs → Gives (joined g) (gate_bit m g)
  unfolding joined
  gives-joined g kept new = beq_one (variable_bit m (inputs + suc (position_or_len (same_gate g) gs))) ∙ go (list_any (same_gate g) gs) refl
    where
      go : (t : Bool) → list_any (same_gate g) gs ≡ t → variable_bit m (inputs + suc (position_or_len (same_gate g) gs)) ≡ gate_bit m g
      go true is = found_bit m g inputs gs kept is
      go false is =
          let fresh : AreKept m (inputs + length gs) (g ∷ []) = subst (λ t. AreKept m (inputs + length gs) (cond t [] (g ∷ []))) is new in
          let position : inputs + suc (position_or_len (same_gate g) gs) ≡ suc (inputs + length gs) = omega (arith, none_position g gs is) in
          ap (variable_bit m) position ∙ fresh.0

  ordered_bit : (a b : Pin) → gate_bit m (ordered_gate a b) ≡ (pin_bit m a && pin_bit m b)
  ordered_bit a b = go (nat_lt a.variable b.variable)
    where
      go : (t : Bool) → gate_bit m (cond t (gate_of a b) (gate_of b a)) ≡ (pin_bit m a && pin_bit m b)
      go true = refl
      go false = and_turned (pin_bit m b) (pin_bit m a)

  gives-and_pins : (a b : Pin) → AreKept m inputs gs → Gives (and_pins a b) (pin_bit m a && pin_bit m b)
  unfolding done
  gives-and_pins a b kept = go (a.variable == b.variable) (beq a.positive b.positive) refl refl
    where
      one_variable : a.variable == b.variable ≡ true → pin_bit m b ≡ beq (variable_bit m a.variable) b.positive
      one_variable t = ap (λ v. beq (variable_bit m v) b.positive) (sym (eqb-true a.variable b.variable t))

      go : (t u : Bool) → a.variable == b.variable ≡ t → beq a.positive b.positive ≡ u
          → Gives (cond t (done (cond u (Wire a) (Fixed false))) (joined (ordered_gate a b))) (pin_bit m a && pin_bit m b)
      go true true t u new =
          and_same (pin_bit m a)
          ∙ ap (λ x. pin_bit m a && x) (ap (beq (variable_bit m a.variable)) (beq_same a.positive b.positive u) ∙ sym (one_variable t))
      go true false t u new =
          and_opposite (variable_bit m a.variable) a.positive b.positive u ∙ ap (λ x. pin_bit m a && x) (sym (one_variable t))
      go false u t e new = gives-joined (ordered_gate a b) kept new ∙ ordered_bit a b

  -- the signal of an and carries the and of the bits
  pub gives-and : (a b : Signal) → AreKept m inputs gs → Gives (and a b) (signal_bit m a && signal_bit m b)
  unfolding and done
  gives-and (Fixed true) b kept new = refl
  gives-and (Fixed false) b kept new = refl
  gives-and (Wire a) (Fixed true) kept new = and_one (pin_bit m a)
  gives-and (Wire a) (Fixed false) kept new = and_zero (pin_bit m a)
  gives-and (Wire a) (Wire b) kept new = gives-and_pins a b kept new

-- ---- how many gates, and in which order

few-joined : (g : Gate) (inputs : ℕ) (gs : List Gate) → length (joined g inputs gs).gates ≤ 1
unfolding joined
few-joined g inputs gs = go (list_any (same_gate g) gs)
  where
    go : (t : Bool) → length (cond t [] (g ∷ [])) ≤ 1
    go true = omega arith
    go false = omega arith

few-and_pins : (a b : Pin) (inputs : ℕ) (gs : List Gate) → length (and_pins a b inputs gs).gates ≤ 1
unfolding done
few-and_pins a b inputs gs = go (a.variable == b.variable)
  where
    go : (t : Bool) → length (cond t (done (cond (beq a.positive b.positive) (Wire a) (Fixed false))) (joined (ordered_gate a b)) inputs gs).gates ≤ 1
    go true = omega arith
    go false = few-joined (ordered_gate a b) inputs gs

-- an and adds one gate at most
pub few-and : (a b : Signal) (inputs : ℕ) (gs : List Gate) → length (and a b inputs gs).gates ≤ 1
unfolding and done
few-and (Fixed true) b inputs gs = omega arith
few-and (Fixed false) b inputs gs = omega arith
few-and (Wire a) (Fixed true) inputs gs = omega arith
few-and (Wire a) (Fixed false) inputs gs = omega arith
few-and (Wire a) (Wire b) inputs gs = few-and_pins a b inputs gs

module _ (inputs : ℕ) (gs : List Gate) where
  -- what is built: gates in order, and a signal of one of the variables there are then
  pub record Follows (p : Build Signal) : Type 0 where
    pub order : AreInOrder (inputs + length gs) (p inputs gs).gates
    pub within : IsSignalWithin (inputs + length gs + length (p inputs gs).gates) (p inputs gs).got

  follows-joined : (g : Gate) → IsGateWithin (inputs + length gs) g → Follows (joined g)
  unfolding joined
  follows-joined g fits = go (list_any (same_gate g) gs) refl
    where
      go : (t : Bool) → list_any (same_gate g) gs ≡ t → Follows (joined g)
      go true is = record {
        order = subst (λ t. AreInOrder (inputs + length gs) (cond t [] (g ∷ []))) (sym is) tt;
        within = (
          omega arith,
          subst (λ t. inputs + suc (position_or_len (same_gate g) gs) ≤ inputs + length gs + length (cond t [] (g ∷ [])))
              (sym is) (omega (arith, found_within g gs is)),
        );
      }
      go false is = record {
        order = subst (λ t. AreInOrder (inputs + length gs) (cond t [] (g ∷ []))) (sym is) (fits, tt);
        within = (
          omega arith,
          subst (λ t. inputs + suc (position_or_len (same_gate g) gs) ≤ inputs + length gs + length (cond t [] (g ∷ [])))
              (sym is) (omega (arith, none_position g gs is)),
        );
      }

  within_ordered : (n : ℕ) (a b : Pin) → a.variable == b.variable ≡ false → IsPinWithin n a → IsPinWithin n b → IsGateWithin n (ordered_gate a b)
  within_ordered n a b other ha hb = go (nat_lt a.variable b.variable) refl
    where
      go : (t : Bool) → nat_lt a.variable b.variable ≡ t → IsGateWithin n (cond t (gate_of a b) (gate_of b a))
      go true is = record { first = ha; second = hb; ordered = ltb-true a.variable b.variable is }
      go false is = record { first = hb; second = ha; ordered = grind (arith, nat_tests) }

  follows-and_pins : (a b : Pin) → IsPinWithin (inputs + length gs) a → IsPinWithin (inputs + length gs) b → Follows (and_pins a b)
  unfolding done
  follows-and_pins a b ha hb = go (a.variable == b.variable) (beq a.positive b.positive) refl
    where
      here : inputs + length gs ≡ inputs + length gs + 0
      here = omega arith

      go : (t u : Bool) → a.variable == b.variable ≡ t
          → Follows (cond t (done (cond u (Wire a) (Fixed false))) (joined (ordered_gate a b)))
      go true true t = record { order = tt; within = subst (λ n. IsPinWithin n a) here ha }
      go true false t = record { order = tt; within = tt }
      go false u t = follows-joined (ordered_gate a b) (within_ordered (inputs + length gs) a b t ha hb)

  -- an and of signals that are within the variables there are
  pub follows-and : (a b : Signal) → IsSignalWithin (inputs + length gs) a → IsSignalWithin (inputs + length gs) b → Follows (and a b)
  unfolding and done
  follows-and (Fixed true) b ha hb = record { order = tt; within = subst (λ n. IsSignalWithin n b) here hb }
    where
      here : inputs + length gs ≡ inputs + length gs + 0
      here = omega arith
  follows-and (Fixed false) b ha hb = record { order = tt; within = tt }
  follows-and (Wire a) (Fixed true) ha hb = record { order = tt; within = subst (λ n. IsPinWithin n a) here ha }
    where
      here : inputs + length gs ≡ inputs + length gs + 0
      here = omega arith
  follows-and (Wire a) (Fixed false) ha hb = record { order = tt; within = tt }
  follows-and (Wire a) (Wire b) ha hb = follows-and_pins a b ha hb
