-- Each register of an imported body holds the bit of its latch: where its content begins, and which registers there are.
use Rattle.std.proofs.Common.{◌≡◌, ℕ, zero, suc, ◌+◌, Bool, true, false, cond, List, [], ◌∷◌, ◌++◌, map, length, take, slice_get, Some, refl, sym, ap, ap₂, ◌∙◌, append_assoc, length-append, arith, zero-add}
use Rattle.wiring.proofs.Lists.{take-append_right}
use Rattle.std.proofs.lemmas.List.{take_at}
use Rattle.hw_model.specs.Types.{Name}
use Rattle.hw_model.specs.Design.{Op}
use Rattle.hw_model.specs.Flat.{Path, Slot, body_state, body_registers}
use Rattle.hw_model.proofs.Content.{body_state-append}
use Rattle.aiger_laws.specs.declared.tree.Latch.{Latch}
use Rattle.aiger_laws.specs.declared.tree.AndGate.{AndGate}
use Rattle.aiger_laws.specs.Trees.{Aiger, variable}
use Rattle.aiger_design.specs.Operations.{constant_op, inverter_op, register_op}
use Rattle.aiger_design.specs.Positions.{User, users, latch_users, gate_user, output_user, needs_true, needs_false, constants, is_inverted, size, end_from, variable_ref, operands}
use Rattle.aiger_design.specs.Built.{inverters, group, groups, imported_body}
use Rattle.aiger_design.proofs.GroupPlaces.{length-inverters, length-group}
use Rattle.aiger_design.proofs.UserPlaces.{latch_user}

module _ (t : Aiger) (inner : Name → ℕ) where
  -- inverters and constants hold nothing
  inverters_hold : (ls : List ℕ) → body_state inner (inverters t ls) ≡ 0
  inverters_hold [] = refl
  inverters_hold (l ∷ ls) = go (is_inverted l) (inverters_hold ls)
    where
      go : (b : Bool) → body_state inner (inverters t ls) ≡ 0 → body_state inner (cond b (inverter_op (variable_ref t (variable l)) ∷ inverters t ls) (inverters t ls)) ≡ 0
      go true rest = ap (λ n. 0 + n) rest
      go false rest = rest

  constants_hold : body_state inner (constants t) ≡ 0
  constants_hold = go (needs_true t) (needs_false t)
    where
      go : (a b : Bool) → body_state inner (cond a (constant_op true ∷ []) [] ++ cond b (constant_op false ∷ []) []) ≡ 0
      go true true = refl
      go true false = refl
      go false true = refl
      go false false = refl

  -- the register of a latch holds one bit
  group_holds : (p n : ℕ) (l : Latch) → body_state inner (group t p (latch_user n l)) ≡ 1
  group_holds p n l =
      body_state-append inner (inverters t (l.next ∷ [])) (register_op n (operands t p (l.next ∷ [])) ∷ [])
      ∙ ap (λ m. m + 1) (inverters_hold (l.next ∷ []))

  -- so many bits stand before the register of a latch
  held_from : (before : List Op) (p : ℕ) → length before ≡ p → (s : ℕ) (ls : List Latch) (more : List User) (k : ℕ) (l : Latch) → slice_get ls k ≡ Some l
      → body_state inner (take (end_from p (latch_users s ls ++ more) k) (before ++ groups t p (latch_users s ls ++ more))) ≡ body_state inner before + k
  held_from before p is s [] more k l at = absurd (let w : ⊥ = cc in w)
  held_from before p is s (a ∷ ls) more zero l at =
      ap (body_state inner) (ap₂ (λ m n. take (m + n) (before ++ (group t p (latch_user s a) ++ rest))) (sym is) (sym (length-inverters t (a.next ∷ [])))
      ∙ take-append_right before (group t p (latch_user s a) ++ rest) (length (inverters t (a.next ∷ [])))
      ∙ ap (λ os. before ++ os) taken)
      ∙ body_state-append inner before (inverters t (a.next ∷ []))
      ∙ ap (λ n. body_state inner before + n) (inverters_hold (a.next ∷ []))
    where
      rest : List Op
      rest = groups t (p + size (latch_user s a)) (latch_users (suc s) ls ++ more)

      taken : take (length (inverters t (a.next ∷ []))) (group t p (latch_user s a) ++ rest) ≡ inverters t (a.next ∷ [])
      taken =
          ap (take (length (inverters t (a.next ∷ [])))) (append_assoc (inverters t (a.next ∷ [])) (register_op s (operands t p (a.next ∷ [])) ∷ []) rest)
          ∙ take_at (inverters t (a.next ∷ [])) (register_op s (operands t p (a.next ∷ [])) ∷ rest) (length (inverters t (a.next ∷ []))) refl
  held_from before p is s (a ∷ ls) more (suc k) l at =
      ap (λ os. body_state inner (take (end_from (p + size (latch_user s a)) (latch_users (suc s) ls ++ more) k) os))
      (sym (append_assoc before (group t p (latch_user s a)) (groups t (p + size (latch_user s a)) (latch_users (suc s) ls ++ more))))
      ∙ held_from (before ++ group t p (latch_user s a)) (p + size (latch_user s a)) longer (suc s) ls more k l at
      ∙ counted
    where
      longer : length (before ++ group t p (latch_user s a)) ≡ p + size (latch_user s a)
      longer = length-append before (group t p (latch_user s a)) ∙ ap₂ (λ m n. m + n) is (length-group t p (latch_user s a))

      counted : body_state inner (before ++ group t p (latch_user s a)) + k ≡ body_state inner before + suc k
      counted =
          let sum : body_state inner (before ++ group t p (latch_user s a)) ≡ body_state inner before + body_state inner (group t p (latch_user s a)) =
          body_state-append inner before (group t p (latch_user s a)) in
          let one : body_state inner (group t p (latch_user s a)) ≡ 1 = group_holds p s a in
          omega arith

  pub held_before : (k : ℕ) (l : Latch) → slice_get t.latches k ≡ Some l
      → body_state inner (take (end_from (length (constants t)) (users t) k) (imported_body t)) ≡ k
  held_before k l at =
      held_from (constants t) (length (constants t)) refl 0 t.latches (map gate_user t.gates ++ output_user t.outputs ∷ []) k l at
      ∙ ap (λ n. n + k) constants_hold ∙ zero-add k

-- ---- which registers there are

module _ (t : Aiger) where
  -- the registers of latches, from a position on, of which the first has the number
  abbrev pub latch_slots : ℕ → ℕ → List Latch → List Slot
  latch_slots p s [] = []
  latch_slots p s (l ∷ ls) = record { path = []; op = register_op s (operands t p (l.next ∷ [])) } ∷ latch_slots (p + size (latch_user s l)) (suc s) ls

  -- users of gates, and the output
  abbrev plain_users : List AndGate → List ℕ → List User
  plain_users gates outputs = map gate_user gates ++ output_user outputs ∷ []

  module _ (inner : Path → Name → List Slot) where
    past_inverters : (ls : List ℕ) (more : List Op) → body_registers inner [] 0 (inverters t ls ++ more) ≡ body_registers inner [] 0 more
    past_inverters [] more = refl
    past_inverters (l ∷ ls) more = go (is_inverted l) (past_inverters ls more)
      where
        go : (b : Bool) → body_registers inner [] 0 (inverters t ls ++ more) ≡ body_registers inner [] 0 more
            → body_registers inner [] 0 (cond b (inverter_op (variable_ref t (variable l)) ∷ inverters t ls) (inverters t ls) ++ more) ≡ body_registers inner [] 0 more
        go true rest = rest
        go false rest = rest

    past_group : (p : ℕ) (u : User) (more : List Op) → body_registers inner [] 0 (group t p u ++ more) ≡ body_registers inner [] 0 (u.made (operands t p u.literals) ∷ more)
    past_group p u more =
        ap (body_registers inner [] 0) (append_assoc (inverters t u.literals) (u.made (operands t p u.literals) ∷ []) more)
        ∙ past_inverters u.literals (u.made (operands t p u.literals) ∷ more)

    plain_registers : (p : ℕ) (gates : List AndGate) (outputs : List ℕ) → body_registers inner [] 0 (groups t p (plain_users gates outputs)) ≡ []
    plain_registers p [] outputs = past_group p (output_user outputs) []
    plain_registers p (g ∷ gates) outputs =
        past_group p (gate_user g) (groups t (p + size (gate_user g)) (plain_users gates outputs)) ∙ plain_registers (p + size (gate_user g)) gates outputs

    latch_registers : (p s : ℕ) (ls : List Latch) (gates : List AndGate) (outputs : List ℕ)
        → body_registers inner [] 0 (groups t p (latch_users s ls ++ plain_users gates outputs)) ≡ latch_slots p s ls
    latch_registers p s [] gates outputs = plain_registers p gates outputs
    latch_registers p s (l ∷ ls) gates outputs =
        past_group p (latch_user s l) (groups t (p + size (latch_user s l)) (latch_users (suc s) ls ++ plain_users gates outputs))
        ∙ ap (λ ss. record { path = []; op = register_op s (operands t p (l.next ∷ [])) } ∷ ss) (latch_registers (p + size (latch_user s l)) (suc s) ls gates outputs)

    -- the registers of the body are those of the latches, in order
    pub body_slots : body_registers inner [] 0 (imported_body t) ≡ latch_slots (length (constants t)) 0 t.latches
    body_slots =
        past_constants (needs_true t) (needs_false t) (groups t (length (constants t)) (users t))
        ∙ latch_registers (length (constants t)) 0 t.latches t.gates t.outputs
      where
        past_constants : (a b : Bool) (more : List Op)
            → body_registers inner [] 0 ((cond a (constant_op true ∷ []) [] ++ cond b (constant_op false ∷ []) []) ++ more) ≡ body_registers inner [] 0 more
        past_constants true true more = refl
        past_constants true false more = refl
        past_constants false true more = refl
        past_constants false false more = refl
