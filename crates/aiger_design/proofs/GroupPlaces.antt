-- Where the operations of users stand in a body.
use Rattle.std.proofs.Common.{◌≡◌, ℕ, zero, suc, ◌+◌, ◌<◌, Bool, true, false, cond, List, [], ◌∷◌, ◌++◌, length, slice_get, Option, Some, None, refl, sym, ap, subst, ◌∙◌, append_assoc, length-append, arith, add-zero, add-one}
use Rattle.wiring.proofs.Lists.{slice_get-append_left, slice_get-append_right, slice_get-append_at}
use Rattle.hw_model.specs.Design.{Op}
use Rattle.aiger_laws.specs.Trees.{Aiger, variable}
use Rattle.aiger_design.specs.Operations.{inverter_op}
use Rattle.aiger_design.specs.Positions.{User, is_inverted, inverter_count, size, start_from, end_from, variable_ref, operands}
use Rattle.aiger_design.specs.Built.{inverters, group, groups}

-- two that stand at the same place are one
pub same_user : (u v : User) → Some u ≡ Some v → u ≡ v
same_user u v is = ap in_some is
  where
    in_some : Option User → User
    in_some None = u
    in_some (Some w) = w

module _ (t : Aiger) where
  -- there are as many inverters as are counted
  pub length-inverters : (ls : List ℕ) → length (inverters t ls) ≡ inverter_count ls
  length-inverters [] = refl
  length-inverters (l ∷ ls) = go (is_inverted l) (length-inverters ls)
    where
      go : (b : Bool) → length (inverters t ls) ≡ inverter_count ls
          → length (cond b (inverter_op (variable_ref t (variable l)) ∷ inverters t ls) (inverters t ls)) ≡ cond b (suc (inverter_count ls)) (inverter_count ls)
      go true rest = ap suc rest
      go false rest = rest

  pub length-group : (p : ℕ) (u : User) → length (group t p u) ≡ size u
  length-group p u =
      length-append (inverters t u.literals) (u.made (operands t p u.literals) ∷ [])
      ∙ ap (λ n. n + 1) (length-inverters u.literals)
      ∙ add-one (inverter_count u.literals)

  -- in the body the operations of users stand one after another, from a position on
  abbrev pub Stand : List Op → ℕ → List User → Type 0
  Stand os p us =
      (k : ℕ) (u : User) → slice_get us k ≡ Some u → (j : ℕ) → j < size u → slice_get os (start_from p us k + j) ≡ slice_get (group t (start_from p us k) u) j

  -- those behind the first user stand behind its operations
  pub stand_behind : (os : List Op) (p : ℕ) (u : User) (us : List User) → Stand os p (u ∷ us) → Stand os (p + size u) us
  stand_behind os p u us stand k v at = stand (suc k) v at

  pub groups_stand : (before : List Op) (p : ℕ) → length before ≡ p → (us : List User) → Stand (before ++ groups t p us) p us
  groups_stand before p is [] k u at j low = absurd (let w : ⊥ = cc in w)
  groups_stand before p is (v ∷ us) zero u at j low =
      let same : v ≡ u = same_user v u at in
      let wide : length (group t p v) ≡ size v = length-group p v in
      let below : j < size v = subst (λ (w : User). j < size w) (sym same) low in
      ap (λ n. slice_get (before ++ (group t p v ++ groups t (p + size v) us)) (n + j)) (sym is)
      ∙ slice_get-append_right before (group t p v ++ groups t (p + size v) us) j
      ∙ slice_get-append_left (group t p v) (groups t (p + size v) us) j (omega arith)
      ∙ ap (λ (w : User). slice_get (group t p w) j) same
  groups_stand before p is (v ∷ us) (suc k) u at j low =
      subst (λ os. slice_get os (start_from (p + size v) us k + j) ≡ slice_get (group t (start_from (p + size v) us k) u) j)
      (append_assoc before (group t p v) (groups t (p + size v) us))
      (groups_stand (before ++ group t p v) (p + size v) longer us k u at j low)
    where
      longer : length (before ++ group t p v) ≡ p + size v
      longer = length-append before (group t p v) ∙ ap (λ n. n + length (group t p v)) is ∙ ap (λ n. p + n) (length-group p v)

  -- the own operation of a user stands behind its inverters
  pub end_is : (us : List User) (p k : ℕ) (u : User) → slice_get us k ≡ Some u → end_from p us k ≡ start_from p us k + inverter_count u.literals
  end_is [] p k u at = absurd (let w : ⊥ = cc in w)
  end_is (v ∷ us) p zero u at = ap (λ (w : User). p + inverter_count w.literals) (same_user v u at)
  end_is (v ∷ us) p (suc k) u at = end_is us (p + size v) k u at

  -- inverters stand in the body from a position on
  abbrev pub InvertersStand : List Op → ℕ → List ℕ → Type 0
  InvertersStand os p ls = (j : ℕ) → j < inverter_count ls → slice_get os (p + j) ≡ slice_get (inverters t ls) j

  pub inverters_stand : (os : List Op) (p : ℕ) (us : List User) → Stand os p us → (k : ℕ) (u : User) → slice_get us k ≡ Some u → InvertersStand os (start_from p us k) u.literals
  inverters_stand os p us stand k u at j low =
      let wide : length (inverters t u.literals) ≡ inverter_count u.literals = length-inverters u.literals in
      stand k u at j (omega arith)
      ∙ slice_get-append_left (inverters t u.literals) (u.made (operands t (start_from p us k) u.literals) ∷ []) j (omega arith)

  pub own_at : (os : List Op) (p : ℕ) (us : List User) → Stand os p us → (k : ℕ) (u : User) → slice_get us k ≡ Some u
      → slice_get os (end_from p us k) ≡ Some (u.made (operands t (start_from p us k) u.literals))
  own_at os p us stand k u at =
      ap (slice_get os) (end_is us p k u at)
      ∙ stand k u at (inverter_count u.literals) (omega arith)
      ∙ ap (slice_get (group t (start_from p us k) u)) (sym (length-inverters u.literals))
      ∙ slice_get-append_at (inverters t u.literals) (u.made (operands t (start_from p us k) u.literals)) []

  -- inverters of the literals behind the first one
  pub stand_past : (os : List Op) (p l : ℕ) (ls : List ℕ) → is_inverted l ≡ true → InvertersStand os p (l ∷ ls)
      → (slice_get os p ≡ Some (inverter_op (variable_ref t (variable l)))) × InvertersStand os (suc p) ls
  stand_past os p l ls is stand = (first, rest)
    where
      count : inverter_count (l ∷ ls) ≡ suc (inverter_count ls)
      count = ap (λ b. cond b (suc (inverter_count ls)) (inverter_count ls)) is

      listed : inverters t (l ∷ ls) ≡ inverter_op (variable_ref t (variable l)) ∷ inverters t ls
      listed = ap (λ b. cond b (inverter_op (variable_ref t (variable l)) ∷ inverters t ls) (inverters t ls)) is

      first : slice_get os p ≡ Some (inverter_op (variable_ref t (variable l)))
      first = let n : inverter_count (l ∷ ls) ≡ suc (inverter_count ls) = count in ap (slice_get os) (sym (add-zero p)) ∙ stand 0 (omega arith) ∙ ap (λ os'. slice_get os' 0) listed

      rest : InvertersStand os (suc p) ls
      rest j low =
          let n : inverter_count (l ∷ ls) ≡ suc (inverter_count ls) = count in
          let sum : suc p + j ≡ p + suc j = omega arith in
          ap (slice_get os) sum ∙ stand (suc j) (omega arith) ∙ ap (λ os'. slice_get os' (suc j)) listed

  pub stand_same : (os : List Op) (p l : ℕ) (ls : List ℕ) → is_inverted l ≡ false → InvertersStand os p (l ∷ ls) → InvertersStand os p ls
  stand_same os p l ls is stand j low =
      let n : inverter_count (l ∷ ls) ≡ inverter_count ls = ap (λ b. cond b (suc (inverter_count ls)) (inverter_count ls)) is in
      stand j (omega arith) ∙ ap (λ os'. slice_get os' j) (ap (λ b. cond b (inverter_op (variable_ref t (variable l)) ∷ inverters t ls) (inverters t ls)) is)
