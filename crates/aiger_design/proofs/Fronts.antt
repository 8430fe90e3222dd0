-- The operations before the output: how many there are, and that each is of a form that gives a bit.
use Rattle.std.proofs.Common.{◌≡◌, ℕ, zero, suc, ◌+◌, ◌*◌, ◌<◌, ◌≤◌, ◌⊎◌, Bool, true, false, cond, List, [], ◌∷◌, ◌++◌, map, length, refl, sym, ap, subst, ◌∙◌, inl, inr, arith, append_assoc, length-append}
use Rattle.std.proofs.lemmas.List.{length-map}
use Rattle.wiring.specs.Wiring.{In}
use Rattle.wiring.proofs.Members.{In-append_cases, In-append_left, In-append_right, from_In-map, In-map}
use Rattle.hw_model.specs.Design.{Op}
use Rattle.aiger_laws.specs.declared.tree.Latch.{Latch}
use Rattle.aiger_laws.specs.declared.tree.AndGate.{AndGate}
use Rattle.aiger_laws.specs.Trees.{Aiger, variable}
use Rattle.aiger_design.specs.Operations.{constant_op, inverter_op, register_op, and_op, output_op}
use Rattle.aiger_design.specs.Positions.{User, latch_users, gate_user, output_user, users, needs_true, needs_false, constants, is_inverted, inverter_count, size, end_from, variable_ref, operands}
use Rattle.aiger_design.specs.Built.{inverters, group, groups, imported_body}
use Rattle.aiger_design.proofs.GroupPlaces.{length-inverters, length-group}
use Rattle.aiger_design.proofs.Forms.{sizes, HoldsOfUser, of_constants, of_inverters, of_groups}

-- ---- sizes

pub sizes-append : (us vs : List User) → sizes (us ++ vs) ≡ sizes us + sizes vs
sizes-append [] vs = omega arith
sizes-append (u ∷ us) vs = let rest : sizes (us ++ vs) ≡ sizes us + sizes vs = sizes-append us vs in omega (arith, rest)

-- the own operations of the first users end before those of others
pub end_low : (p : ℕ) (us vs : List User) (k : ℕ) → k < length us → end_from p (us ++ vs) k < p + sizes us
end_low p [] vs k low = absurd (omega (arith, low))
end_low p (u ∷ us) vs zero low = omega arith
end_low p (u ∷ us) vs (suc k) low = let rest : end_from (p + size u) (us ++ vs) k < p + size u + sizes us = end_low (p + size u) us vs k (omega (arith, low)) in omega (arith, rest)

module _ (t : Aiger) where
  pub length-groups : (p : ℕ) (us : List User) → length (groups t p us) ≡ sizes us
  length-groups p [] = refl
  length-groups p (u ∷ us) =
      let first : length (group t p u) ≡ size u = length-group t p u in
      let rest : length (groups t (p + size u) us) ≡ sizes us = length-groups (p + size u) us in
      let all : length (group t p u ++ groups t (p + size u) us) ≡ length (group t p u) + length (groups t (p + size u) us) = length-append (group t p u) (groups t (p + size u) us) in
      omega (arith, first, rest, all)

  pub groups-append : (p : ℕ) (us vs : List User) → groups t p (us ++ vs) ≡ groups t p us ++ groups t (p + sizes us) vs
  groups-append p [] vs = let at : p ≡ p + 0 = omega arith in ap (λ q. groups t q vs) at
  groups-append p (u ∷ us) vs =
      let at : p + size u + sizes us ≡ p + (size u + sizes us) = omega arith in
      ap (λ os. group t p u ++ os) (groups-append (p + size u) us vs ∙ ap (λ q. groups t (p + size u) us ++ groups t q vs) at)
      ∙ sym (append_assoc (group t p u) (groups t (p + size u) us) (groups t (p + (size u + sizes us)) vs))

  -- ---- the operations before the output

  -- the users before the output
  abbrev pub first_users : List User
  first_users = latch_users 0 t.latches ++ map gate_user t.gates

  pub users_are : users t ≡ first_users ++ output_user t.outputs ∷ []
  users_are = sym (append_assoc (latch_users 0 t.latches) (map gate_user t.gates) (output_user t.outputs ∷ []))

  -- where the operations of the output begin
  abbrev pub last_start : ℕ
  last_start = length (constants t) + sizes first_users

  -- the operations before the output
  abbrev pub front : List Op
  front = constants t ++ (groups t (length (constants t)) first_users ++ inverters t t.outputs)

  -- and the output
  abbrev pub last_op : Op
  last_op = output_op (operands t last_start t.outputs)

  pub body_is : imported_body t ≡ front ++ last_op ∷ []
  body_is =
      ap (λ us. constants t ++ groups t (length (constants t)) us) users_are
      ∙ ap (λ os. constants t ++ os) (groups-append (length (constants t)) first_users (output_user t.outputs ∷ []) ∙ ap (λ os. groups t (length (constants t)) first_users ++ os) one)
      ∙ ap (λ os. constants t ++ os) (sym (append_assoc (groups t (length (constants t)) first_users) (inverters t t.outputs) (last_op ∷ [])))
      ∙ sym (append_assoc (constants t) (groups t (length (constants t)) first_users ++ inverters t t.outputs) (last_op ∷ []))
    where
      one : groups t last_start (output_user t.outputs ∷ []) ≡ inverters t t.outputs ++ last_op ∷ []
      one = append_assoc (inverters t t.outputs) (last_op ∷ []) []

  pub length-front : length front ≡ last_start + inverter_count t.outputs
  length-front =
      let first : length front ≡ length (constants t) + length (groups t (length (constants t)) first_users ++ inverters t t.outputs) =
      length-append (constants t) (groups t (length (constants t)) first_users ++ inverters t t.outputs) in
      let second : length (groups t (length (constants t)) first_users ++ inverters t t.outputs) ≡ length (groups t (length (constants t)) first_users) + length (inverters t t.outputs) =
      length-append (groups t (length (constants t)) first_users) (inverters t t.outputs) in
      let third : length (groups t (length (constants t)) first_users) ≡ sizes first_users = length-groups (length (constants t)) first_users in
      let fourth : length (inverters t t.outputs) ≡ inverter_count t.outputs = length-inverters t t.outputs in
      omega (arith, first, second, third, fourth)

  -- the result of each user but the output is one of them
  pub user_low : (k : ℕ) → k < length first_users → end_from (length (constants t)) (users t) k < length front
  user_low k low =
      let ends : end_from (length (constants t)) (first_users ++ output_user t.outputs ∷ []) k < length (constants t) + sizes first_users =
      end_low (length (constants t)) first_users (output_user t.outputs ∷ []) k low in
      let all : length front ≡ last_start + inverter_count t.outputs = length-front in
      let same : end_from (length (constants t)) (users t) k ≡ end_from (length (constants t)) (first_users ++ output_user t.outputs ∷ []) k =
      ap (λ us. end_from (length (constants t)) us k) users_are in
      omega (arith, ends, all, same)

  latch_count : (k : ℕ) (ls : List Latch) → length (latch_users k ls) ≡ length ls
  latch_count k [] = refl
  latch_count k (l ∷ ls) = ap suc (latch_count (suc k) ls)

  pub first_count : length first_users ≡ length t.latches + length t.gates
  first_count =
      let all : length first_users ≡ length (latch_users 0 t.latches) + length (map gate_user t.gates) = length-append (latch_users 0 t.latches) (map gate_user t.gates) in
      let latches : length (latch_users 0 t.latches) ≡ length t.latches = latch_count 0 t.latches in
      let gates : length (map gate_user t.gates) ≡ length t.gates = length-map t.gates gate_user in
      omega (arith, all, latches, gates)

  constant_count : length (constants t) ≤ 2
  constant_count = go (needs_true t) (needs_false t)
    where
      go : (a b : Bool) → length (cond a (constant_op true ∷ []) [] ++ cond b (constant_op false ∷ []) []) ≤ 2
      go true true = omega arith
      go true false = omega arith
      go false true = omega arith
      go false false = omega arith

  count_low : (ls : List ℕ) → inverter_count ls ≤ length ls
  count_low [] = omega arith
  count_low (l ∷ ls) = go (is_inverted l) (count_low ls)
    where
      go : (b : Bool) → inverter_count ls ≤ length ls → cond b (suc (inverter_count ls)) (inverter_count ls) ≤ suc (length ls)
      go true rest = omega (arith, rest)
      go false rest = omega (arith, rest)

  latch_sizes : (k : ℕ) (ls : List Latch) → sizes (latch_users k ls) ≤ 2 * length ls
  latch_sizes k [] = omega arith
  latch_sizes k (l ∷ ls) =
      let rest : sizes (latch_users (suc k) ls) ≤ 2 * length ls = latch_sizes (suc k) ls in
      let one : inverter_count (l.next ∷ []) ≤ 1 = count_low (l.next ∷ []) in
      omega (arith, rest, one)

  gate_sizes : (gs : List AndGate) → sizes (map gate_user gs) ≤ 3 * length gs
  gate_sizes [] = omega arith
  gate_sizes (g ∷ gs) =
      let rest : sizes (map gate_user gs) ≤ 3 * length gs = gate_sizes gs in
      let one : inverter_count (g.left ∷ g.right ∷ []) ≤ 2 = count_low (g.left ∷ g.right ∷ []) in
      omega (arith, rest, one)

  -- so few are they
  pub front_few : length front ≤ 2 + 2 * length t.latches + 3 * length t.gates + length t.outputs
  front_few =
      let all : length front ≡ last_start + inverter_count t.outputs = length-front in
      let few : length (constants t) ≤ 2 = constant_count in
      let joined : sizes first_users ≡ sizes (latch_users 0 t.latches) + sizes (map gate_user t.gates) = sizes-append (latch_users 0 t.latches) (map gate_user t.gates) in
      let latches : sizes (latch_users 0 t.latches) ≤ 2 * length t.latches = latch_sizes 0 t.latches in
      let gates : sizes (map gate_user t.gates) ≤ 3 * length t.gates = gate_sizes t.gates in
      let outputs : inverter_count t.outputs ≤ length t.outputs = count_low t.outputs in
      omega (arith, all, few, joined, latches, gates, outputs)

  -- ---- what holds of them

  pub latch_user_in : (u : User) → In u (latch_users 0 t.latches) → In u (users t)
  latch_user_in u here = In-append_left u (latch_users 0 t.latches) (map gate_user t.gates ++ output_user t.outputs ∷ []) here

  pub gate_user_in : (g : AndGate) → In g t.gates → In (gate_user g) (users t)
  gate_user_in g here =
      In-append_right (gate_user g) (latch_users 0 t.latches) (map gate_user t.gates ++ output_user t.outputs ∷ [])
      (In-append_left (gate_user g) (map gate_user t.gates) (output_user t.outputs ∷ []) (In-map gate_user g t.gates here))

  pub output_user_in : In (output_user t.outputs) (users t)
  output_user_in =
      In-append_right (output_user t.outputs) (latch_users 0 t.latches) (map gate_user t.gates ++ output_user t.outputs ∷ [])
      (In-append_right (output_user t.outputs) (map gate_user t.gates) (output_user t.outputs ∷ []) (inl refl))

  module _ (P : Op → Type 0) where
    -- what holds of constants, of the inverters of literals that are used, of registers and of gates that end where the operations end
    pub record HoldsBefore : Type 0 where
      pub of_constants : (b : Bool) → P (constant_op b)
      pub of_inverters : (u : User) → In u (users t) → (l : ℕ) → In l u.literals → is_inverted l ≡ true → P (inverter_op (variable_ref t (variable l)))
      pub of_registers : (k : ℕ) (l : Latch) → k < length t.latches → (u : User) → In u (users t) → u.literals ≡ l.next ∷ [] → (p : ℕ) → p + inverter_count (l.next ∷ []) ≤ length front
          → P (register_op k (operands t p (l.next ∷ [])))
      pub of_gates : (g : AndGate) → In g t.gates → (p : ℕ) → p + inverter_count (g.left ∷ g.right ∷ []) ≤ length front → P (and_op (operands t p (g.left ∷ g.right ∷ [])))

    of_latch : (k : ℕ) (ls : List Latch) → k + length ls ≡ length t.latches → ((u : User) → In u (latch_users k ls) → In u (users t)) → HoldsBefore
        → (u : User) → In u (latch_users k ls) → HoldsOfUser t P (length front) u
    of_latch k [] all there holds u never = absurd never
    of_latch k (l ∷ ls) all there holds u (inl same) =
        subst (HoldsOfUser t P (length front)) (sym same)
        (record {
          inverters = holds.of_inverters (record { made = register_op k; literals = l.next ∷ [] }) (there (record { made = register_op k; literals = l.next ∷ [] }) (inl refl));
          own = λ p low. holds.of_registers k l (omega (arith, all)) (record { made = register_op k; literals = l.next ∷ [] }) (there (record { made = register_op k; literals = l.next ∷ [] }) (inl refl)) refl p
              (omega (arith, low));
        })
    of_latch k (l ∷ ls) all there holds u (inr here) = of_latch (suc k) ls (omega (arith, all)) (λ v within. there v (inr within)) holds u here

    of_first : HoldsBefore → (u : User) → In u first_users → HoldsOfUser t P (length front) u
    of_first holds u here = go (In-append_cases u (latch_users 0 t.latches) (map gate_user t.gates) here)
      where
        go : In u (latch_users 0 t.latches) ⊎ In u (map gate_user t.gates) → HoldsOfUser t P (length front) u
        go (inl latch) = of_latch 0 t.latches (omega arith) latch_user_in holds u latch
        go (inr gate) =
            let from = from_In-map gate_user u t.gates gate in
            subst (HoldsOfUser t P (length front)) (sym from.2)
            (record { inverters = holds.of_inverters (gate_user from.0) (gate_user_in from.0 from.1); own = λ p low. holds.of_gates from.0 from.1 p (omega (arith, low)) })

    -- it holds of each operation before the output
    pub of_front : HoldsBefore → (o : Op) → In o front → P o
    of_front holds o here = go (In-append_cases o (constants t) (groups t (length (constants t)) first_users ++ inverters t t.outputs) here)
      where
        later : In o (groups t (length (constants t)) first_users) ⊎ In o (inverters t t.outputs) → P o
        later (inl within) = let all : length front ≡ last_start + inverter_count t.outputs = length-front in
            of_groups t P (length front) (length (constants t)) first_users (omega (arith, all)) (of_first holds) o within
        later (inr last) = of_inverters t P t.outputs (holds.of_inverters (output_user t.outputs) output_user_in) o last

        go : In o (constants t) ⊎ In o (groups t (length (constants t)) first_users ++ inverters t t.outputs) → P o
        go (inl first) = of_constants t P holds.of_constants o first
        go (inr behind) = later (In-append_cases o (groups t (length (constants t)) first_users) (inverters t t.outputs) behind)
