-- Each operation of an imported design is a constant, an inverter, a register, a gate or the output.
use Rattle.std.proofs.Common.{◌≡◌, ℕ, suc, ◌+◌, ◌<◌, ◌≤◌, Bool, true, false, cond, List, [], ◌∷◌, ◌++◌, map, length, refl, sym, subst, inl, inr, arith, ◌⊎◌}
use Rattle.wiring.specs.Wiring.{In}
use Rattle.wiring.proofs.Members.{In-append_cases, from_In-map}
use Rattle.hw_model.specs.Design.{Ref, Op}
use Rattle.aiger_laws.specs.declared.tree.Latch.{Latch}
use Rattle.aiger_laws.specs.Trees.{Aiger, variable}
use Rattle.aiger_design.specs.Operations.{constant_op, inverter_op, register_op, and_op, output_op}
use Rattle.aiger_design.specs.Positions.{User, latch_users, gate_user, output_user, users, needs_true, needs_false, constants, is_inverted, size, variable_ref, operands}
use Rattle.aiger_design.specs.Built.{inverters, group, groups, imported_body}

-- what holds of constants, of inverters, of the registers of latches, of gates and of outputs
pub record HoldsOfForms (t : Aiger) (P : Op → Type 0) : Type 0 where
  pub of_constants : (b : Bool) → P (constant_op b)
  pub of_inverters : (x : Ref) → P (inverter_op x)
  pub of_registers : (k : ℕ) (xs : List Ref) → k < length t.latches → P (register_op k xs)
  pub of_gates : (xs : List Ref) → P (and_op xs)
  pub of_outputs : (xs : List Ref) → P (output_op xs)

-- how many operations users take
abbrev pub sizes : List User → ℕ
sizes [] = 0
sizes (u ∷ us) = size u + sizes us

module _ (t : Aiger) (P : Op → Type 0) where
  -- it holds of what a user makes
  abbrev pub HoldsOfMade : User → Type 0
  HoldsOfMade u = (xs : List Ref) → P (u.made xs)

  pub of_latches : (k : ℕ) (ls : List Latch) → ((j : ℕ) (xs : List Ref) → j < k + length ls → P (register_op j xs)) → (u : User) → In u (latch_users k ls) → HoldsOfMade u
  of_latches k [] holds u never = absurd never
  of_latches k (l ∷ ls) holds u (inl same) = subst HoldsOfMade (sym same) (λ xs. holds k xs (omega arith))
  of_latches k (l ∷ ls) holds u (inr here) = of_latches (suc k) ls (λ j xs low. holds j xs (omega arith)) u here

  of_users : HoldsOfForms t P → (u : User) → In u (users t) → HoldsOfMade u
  of_users holds u here = go (In-append_cases u (latch_users 0 t.latches) (map gate_user t.gates ++ output_user t.outputs ∷ []) here)
    where
      last : In u (map gate_user t.gates) ⊎ In u (output_user t.outputs ∷ []) → HoldsOfMade u
      last (inl gate) = let from = from_In-map gate_user u t.gates gate in subst HoldsOfMade (sym from.2) holds.of_gates
      last (inr (inl same)) = subst HoldsOfMade (sym same) holds.of_outputs
      last (inr (inr never)) = absurd never

      go : In u (latch_users 0 t.latches) ⊎ In u (map gate_user t.gates ++ output_user t.outputs ∷ []) → HoldsOfMade u
      go (inl latch) = of_latches 0 t.latches (λ j xs low. holds.of_registers j xs (omega arith)) u latch
      go (inr later) = last (In-append_cases u (map gate_user t.gates) (output_user t.outputs ∷ []) later)

  -- it holds of inverters where it holds of that of each negated literal
  pub of_inverters : (ls : List ℕ) → ((l : ℕ) → In l ls → is_inverted l ≡ true → P (inverter_op (variable_ref t (variable l)))) → (o : Op) → In o (inverters t ls) → P o
  of_inverters [] holds o never = absurd never
  of_inverters (l ∷ ls) holds o here = go (is_inverted l) refl here (of_inverters ls (λ k there. holds k (inr there)) o)
    where
      go : (b : Bool) → is_inverted l ≡ b → In o (cond b (inverter_op (variable_ref t (variable l)) ∷ inverters t ls) (inverters t ls)) → (In o (inverters t ls) → P o) → P o
      go true is (inl same) rest = subst P (sym same) (holds l (inl refl) is)
      go true is (inr there) rest = rest there
      go false is there rest = rest there

  -- it holds of a user's operations, which end at a limit at most
  pub record HoldsOfUser (limit : ℕ) (u : User) : Type 0 where
    pub inverters : (l : ℕ) → In l u.literals → is_inverted l ≡ true → P (inverter_op (variable_ref t (variable l)))
    pub own : (p : ℕ) → p + size u ≤ limit → P (u.made (operands t p u.literals))

  pub of_groups : (limit p : ℕ) (us : List User) → p + sizes us ≤ limit → ((u : User) → In u us → HoldsOfUser limit u) → (o : Op) → In o (groups t p us) → P o
  of_groups limit p [] low holds o never = absurd never
  of_groups limit p (u ∷ us) low holds o here =
      go (In-append_cases o (group t p u) (groups t (p + size u) us) here) (of_groups limit (p + size u) us (omega (arith, low)) (λ v there. holds v (inr there)) o)
    where
      one : In o (inverters t u.literals) ⊎ In o (u.made (operands t p u.literals) ∷ []) → P o
      one (inl there) = of_inverters u.literals (holds u (inl refl)).inverters o there
      one (inr (inl same)) = subst P (sym same) ((holds u (inl refl)).own p (omega (arith, low)))
      one (inr (inr never)) = absurd never

      go : In o (group t p u) ⊎ In o (groups t (p + size u) us) → (In o (groups t (p + size u) us) → P o) → P o
      go (inl first) rest = one (In-append_cases o (inverters t u.literals) (u.made (operands t p u.literals) ∷ []) first)
      go (inr later) rest = rest later

  pub of_constants : ((b : Bool) → P (constant_op b)) → (o : Op) → In o (constants t) → P o
  of_constants holds o here = go (needs_true t) (needs_false t) here
    where
      go : (a b : Bool) → In o (cond a (constant_op true ∷ []) [] ++ cond b (constant_op false ∷ []) []) → P o
      go true b (inl same) = subst P (sym same) (holds true)
      go true true (inr (inl same)) = subst P (sym same) (holds false)
      go true true (inr (inr never)) = absurd never
      go true false (inr never) = absurd never
      go false true (inl same) = subst P (sym same) (holds false)
      go false true (inr never) = absurd never
      go false false never = absurd never

  -- what holds of the forms holds of each operation
  pub of_body : HoldsOfForms t P → (o : Op) → In o (imported_body t) → P o
  of_body holds o here = go (In-append_cases o (constants t) (groups t (length (constants t)) (users t)) here)
    where
      go : In o (constants t) ⊎ In o (groups t (length (constants t)) (users t)) → P o
      go (inl first) = of_constants holds.of_constants o first
      go (inr later) =
          of_groups (length (constants t) + sizes (users t)) (length (constants t)) (users t) (omega arith)
          (λ u there. record { inverters = λ l within is. holds.of_inverters (variable_ref t (variable l)); own = λ p low. of_users holds u there (operands t p u.literals) }) o later
