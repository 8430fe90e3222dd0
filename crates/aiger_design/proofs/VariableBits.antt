-- Under a settled map of an imported design, variables have the bits that the text gives them.
use Rattle.std.proofs.Common.{◌≡◌, ℕ, ◌+◌, true, false, ◌&&◌, [], ◌∷◌, map, length, get_or, slice_get, Some, refl, sym, ap, subst, ◌∙◌, true≢false}
use Rattle.wiring.specs.Wiring.{In}
use Rattle.wiring.proofs.Lists.{slice_get_some}
use Rattle.wiring.proofs.Members.{In-map, In-slice_get}
use Rattle.wiring.proofs.Settled.{by_needs}
use Rattle.bits_core.specs.Word.{Word}
use Rattle.hw_model.specs.Value.{is_high}
use Rattle.hw_model.specs.Flat.{Net, state}
use Rattle.hw_model.specs.Meaning.{Settled}
use Rattle.aiger_laws.specs.declared.tree.Latch.{Latch}
use Rattle.aiger_laws.specs.declared.tree.AndGate.{AndGate}
use Rattle.aiger_laws.specs.Trees.{Aiger, variable}
use Rattle.aiger_laws.specs.Drivers.{Driver, nothing, input_bit, held_bit, gate_bit, driver, gate_literals, operands as operands_of, joined, needs, all_ones, driven, IsSettled, HasNoCycle}
use Rattle.aiger_laws.specs.Steps.{literal_bit}
use Rattle.aiger_laws.specs.Rows.{is_driven}
use Rattle.aiger_laws.proofs.DriverPlaces.{needs_within}
use Rattle.aiger_laws.proofs.GateDrivers.{driving_gate}
use Rattle.aiger_design.specs.Positions.{User, users, gate_user, constants, start_from, end_from, driver_ref, operands}
use Rattle.aiger_design.specs.Built.{imported_body, imported_symbol, imported_design, clocked}
use Rattle.aiger_design.proofs.GroupPlaces.{Stand, groups_stand, inverters_stand, own_at}
use Rattle.aiger_design.proofs.NetValues.{word, and_word, register_word, input_word, undefined_word}
use Rattle.aiger_design.proofs.Operands.{IsDefined, bits_of, HasBit, IsKnown, known, operand_words}
use Rattle.aiger_design.proofs.UserPlaces.{latch_user, latch_at, gate_at}
use Rattle.aiger_design.proofs.UsedLiterals.{input_within, latch_within}
use Rattle.aiger_design.proofs.HeldPlaces.{held_before}

-- the operations of the users stand in the body
pub users_stand : (t : Aiger) → Stand t (imported_body t) (length (constants t)) (users t)
users_stand t = groups_stand t (constants t) (length (constants t)) refl (users t)

module _ (t : Aiger) (defined : IsDefined t) (x content : Word) (ρ : Net → Word)
    (settled : Settled (imported_design t) imported_symbol (clocked t.latches x) content ρ) where
  -- the literals of a user are known, where their variables have bits
  pub user_known : (k : ℕ) (u : User) → slice_get (users t) k ≡ Some u → ((l : ℕ) → In l u.literals → HasBit t ρ (variable l))
      → (l : ℕ) → In l u.literals → IsKnown t defined (clocked t.latches x) content ρ settled l
  user_known k u at has l here = known t defined (clocked t.latches x) content ρ settled u l (In-slice_get u (users t) k at) here (has l here)

  -- the words of a user's operands
  pub user_words : (k : ℕ) (u : User) → slice_get (users t) k ≡ Some u → ((l : ℕ) → In l u.literals → HasBit t ρ (variable l))
      → map (word ρ) (operands t (start_from (length (constants t)) (users t) k) u.literals) ≡ map (λ l. literal_bit (bits_of t ρ) l ∷ []) u.literals
  user_words k u at has =
      operand_words t defined (clocked t.latches x) content ρ settled (start_from (length (constants t)) (users t) k) u.literals
      (inverters_stand t (imported_body t) (length (constants t)) (users t) (users_stand t) k u at) (user_known k u at has)

  gate_word : (k : ℕ) (g : AndGate) → slice_get t.gates k ≡ Some g → ((v : ℕ) → In v (map variable (g.left ∷ g.right ∷ [])) → HasBit t ρ v)
      → word ρ (driver_ref t (gate_bit k)) ≡ (literal_bit (bits_of t ρ) g.left && (literal_bit (bits_of t ρ) g.right && true)) ∷ []
  gate_word k g at has =
      and_word t (clocked t.latches x) content ρ settled (end_from (length (constants t)) (users t) (length t.latches + k))
      (operands t (start_from (length (constants t)) (users t) (length t.latches + k)) (g.left ∷ g.right ∷ []))
      (literal_bit (bits_of t ρ) g.left) (literal_bit (bits_of t ρ) g.right)
      (own_at t (imported_body t) (length (constants t)) (users t) (users_stand t) (length t.latches + k) (gate_user g) (gate_at t k g at))
      (user_words (length t.latches + k) (gate_user g) (gate_at t k g at) (λ l here. has (variable l) (In-map variable l (g.left ∷ g.right ∷ []) here)))

  latch_word : (k : ℕ) (l : Latch) → slice_get t.latches k ≡ Some l → word ρ (driver_ref t (held_bit k)) ≡ get_or content k false ∷ []
  latch_word k l at =
      let user = latch_at t k l at in
      register_word t (clocked t.latches x) content ρ settled (end_from (length (constants t)) (users t) k) user.0 k
      (operands t (start_from (length (constants t)) (users t) k) (l.next ∷ []))
      (own_at t (imported_body t) (length (constants t)) (users t) (users_stand t) k (latch_user user.0 l) user.1)
      (held_before t (state (imported_design t)) k l at)

  -- the word of a driver is the bit that it gives
  driver_word : (v : ℕ) (d : Driver) → driver t v ≡ d → is_driven d ≡ true → ((w : ℕ) → In w (map variable (joined t.gates d)) → HasBit t ρ w)
      → word ρ (driver_ref t d) ≡ driven t x content (map (bits_of t ρ) (map variable (joined t.gates d))) d ∷ []
  driver_word v nothing is some has = absurd (true≢false (sym some))
  driver_word v (input_bit k) is some has =
      let found = slice_get_some t.inputs k (input_within t v k is) in
      input_word t (clocked t.latches x) content ρ settled x refl k found.0 found.1
  driver_word v (held_bit k) is some has =
      let found = slice_get_some t.latches k (latch_within t v k is) in
      latch_word k found.0 found.1
  driver_word v (gate_bit k) is some has =
      let found = driving_gate t v k is in
      gate_word k found.0 found.1 (subst (λ o. (w : ℕ) → In w (map variable (operands_of o)) → HasBit t ρ w) found.1 has)
      ∙ ap (λ o. all_ones (operands_of o) (map (bits_of t ρ) (map variable (operands_of o))) ∷ []) (sym found.1)

  -- a variable that is defined has a bit
  pub has_bit : HasNoCycle t → (v : ℕ) → HasBit t ρ v
  has_bit acyclic = by_needs (needs t) (HasBit t ρ) step (map variable (gate_literals t.gates)) (needs_within t) acyclic
    where
      step : (v : ℕ) → ((w : ℕ) → In w (needs t v) → HasBit t ρ w) → HasBit t ρ v
      step v has some =
          let is = driver_word v (driver t v) refl some has in
          is ∙ ap (λ b. b ∷ []) (sym (ap is_high is))

  -- the bits are settled
  pub bits_settled : HasNoCycle t → IsSettled t x content (bits_of t ρ)
  bits_settled acyclic v = go (driver t v) refl
    where
      go : (d : Driver) → driver t v ≡ d → is_high (word ρ (driver_ref t d)) ≡ driven t x content (map (bits_of t ρ) (map variable (joined t.gates d))) d
      go nothing is = ap is_high (undefined_word t (clocked t.latches x) content ρ settled)
      go (input_bit k) is = ap is_high (driver_word v (input_bit k) is refl (λ w here. has_bit acyclic w))
      go (held_bit k) is = ap is_high (driver_word v (held_bit k) is refl (λ w here. has_bit acyclic w))
      go (gate_bit k) is = ap is_high (driver_word v (gate_bit k) is refl (λ w here. has_bit acyclic w))
