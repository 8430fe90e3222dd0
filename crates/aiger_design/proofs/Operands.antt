-- The words of operands: those of the literals that they stand for.
use Rattle.std.proofs.Common.{◌≡◌, ℕ, zero, suc, ◌/◌, ◌%◌, ◌==◌, Bool, true, false, cond, not, ◌&&◌, List, [], ◌∷◌, ◌++◌, map, length, slice_get, Some, refl, sym, ap, ap₂, ◌∙◌, inl, inr, arith, eqb-true, eq-eqb, true≢false}
use Rattle.wiring.specs.Wiring.{In}
use Rattle.bits_core.specs.Word.{Word}
use Rattle.hw_model.specs.Design.{Op}
use Rattle.hw_model.specs.Design.Ref.{result}
use Rattle.hw_model.specs.Value.{is_high}
use Rattle.hw_model.specs.Flat.{Net}
use Rattle.hw_model.specs.Meaning.{Settled}
use Rattle.aiger_laws.specs.Trees.{Aiger, variable, is_negated}
use Rattle.aiger_laws.specs.Drivers.{nothing, driver}
use Rattle.aiger_laws.specs.Steps.{literal_bit}
use Rattle.aiger_laws.specs.Rows.{is_driven, is_defined}
use Rattle.aiger_laws.specs.Grammar.{is_undefined}
use Rattle.aiger_design.specs.Operations.{constant_op, inverter_op}
use Rattle.aiger_design.specs.Positions.{User, users, needs_true, needs_false, constants, constant_ref, is_inverted, driver_ref, variable_ref, plain_ref, operands}
use Rattle.aiger_design.specs.Built.{groups, imported_body, imported_symbol, imported_design}
use Rattle.aiger_design.proofs.GroupPlaces.{InvertersStand, stand_past, stand_same}
use Rattle.aiger_design.proofs.UsedLiterals.{uses_of}
use Rattle.aiger_design.proofs.NetValues.{word, constant_word, inverter_word, undefined_word}

-- ---- constants

module _ (t : Aiger) where
  true_at : needs_true t ≡ true → slice_get (imported_body t) 0 ≡ Some (constant_op true)
  true_at is =
      ap (λ b. slice_get ((cond b (constant_op true ∷ []) [] ++ cond (needs_false t) (constant_op false ∷ []) []) ++ groups t (length (constants t)) (users t)) 0) is

  false_at : needs_false t ≡ true → slice_get (imported_body t) (cond (needs_true t) 1 0) ≡ Some (constant_op false)
  false_at is =
      ap (λ b. slice_get ((cond (needs_true t) (constant_op true ∷ []) [] ++ cond b (constant_op false ∷ []) []) ++ groups t (length (constants t)) (users t)) (cond (needs_true t) 1 0)) is
      ∙ go (needs_true t) (groups t (length (constants t)) (users t))
    where
      go : (b : Bool) (os : List Op) → slice_get ((cond b (constant_op true ∷ []) [] ++ (constant_op false ∷ [])) ++ os) (cond b 1 0) ≡ Some (constant_op false)
      go true os = refl
      go false os = refl

-- what the bodies of read trees rest on: nothing drives the variable of constants, and each literal that is used is defined
pub record IsDefined (t : Aiger) : Type 0 where
  pub constant : driver t 0 ≡ nothing
  pub used : (u : User) (l : ℕ) → In u (users t) → In l u.literals → is_undefined t l ≡ false

-- the bits of variables under a map
abbrev pub bits_of : Aiger → (Net → Word) → ℕ → Bool
bits_of t ρ v = is_high (word ρ (variable_ref t v))

-- a variable that is defined has one bit
abbrev pub HasBit : Aiger → (Net → Word) → ℕ → Type 0
HasBit t ρ v = is_driven (driver t v) ≡ true → word ρ (variable_ref t v) ≡ bits_of t ρ v ∷ []

module _ (t : Aiger) (defined : IsDefined t) (inputs content : Word) (ρ : Net → Word) (settled : Settled (imported_design t) imported_symbol inputs content ρ) where
  -- what is known of a literal that is used
  pub record IsKnown (l : ℕ) : Type 0 where
    pub one : is_negated l ≡ true → word ρ (result 0 0) ≡ true ∷ []
    pub none : is_negated l ≡ false → (variable l == 0) ≡ true → word ρ (constant_ref t false) ≡ false ∷ []
    pub bit : (variable l == 0) ≡ false → word ρ (variable_ref t (variable l)) ≡ bits_of t ρ (variable l) ∷ []

  -- a literal that is neither negated nor of a variable is 0
  is_zero : (l : ℕ) → is_negated l ≡ false → (variable l == 0) ≡ true → (l == 0) ≡ true
  is_zero l plain none =
      let low : l / 2 ≡ 0 = eqb-true (variable l) 0 none in
      eq-eqb l 0 (by_rest (l % 2) refl plain low)
    where
      by_rest : (r : ℕ) → l % 2 ≡ r → (r == 1) ≡ false → l / 2 ≡ 0 → l ≡ 0
      by_rest zero is no_one low = omega arith
      by_rest (suc zero) is no_one low = absurd (true≢false no_one)
      by_rest (suc (suc r)) is no_one low = absurd (omega arith)

  pub known : (u : User) (l : ℕ) → In u (users t) → In l u.literals → HasBit t ρ (variable l) → IsKnown l
  known u l here there has = record {
    one = λ negated. constant_word t inputs content ρ settled 0 true (true_at t (uses_of is_negated (users t) u l here there negated));
    none = λ plain none. constant_word t inputs content ρ settled (cond (needs_true t) 1 0) false
        (false_at t (uses_of (λ m. m == 0) (users t) u l here there (is_zero l plain none)));
    bit = λ some. has (go (variable l == 0) (is_defined t (variable l)) some (defined.used u l here there));
  }
    where
      go : (z d : Bool) → z ≡ false → (not z && not d) ≡ false → d ≡ true
      go true d none is = absurd (true≢false none)
      go false true none is = refl
      go false false none is = absurd (true≢false is)

  -- the variable of constants has the bit 0
  zero_bit : bits_of t ρ 0 ≡ false
  zero_bit = ap (λ d. is_high (word ρ (driver_ref t d))) defined.constant ∙ ap is_high (undefined_word t inputs content ρ settled)

  -- a literal without an inverter
  plain_word : (l : ℕ) → IsKnown l → is_inverted l ≡ false → word ρ (plain_ref t l) ≡ literal_bit (bits_of t ρ) l ∷ []
  plain_word l of_it plain = go (is_negated l) refl (variable l == 0) refl plain
    where
      zero_is : (variable l == 0) ≡ true → bits_of t ρ (variable l) ≡ false
      zero_is none = ap (bits_of t ρ) (eqb-true (variable l) 0 none) ∙ zero_bit

      go : (n : Bool) → is_negated l ≡ n → (z : Bool) → (variable l == 0) ≡ z → (n && not z) ≡ false
          → word ρ (cond z (constant_ref t n) (variable_ref t (variable l))) ≡ cond n (not (bits_of t ρ (variable l))) (bits_of t ρ (variable l)) ∷ []
      go true negated true none no_inverter = of_it.one negated ∙ ap (λ b. not b ∷ []) (sym (zero_is none))
      go true negated false some no_inverter = absurd (true≢false no_inverter)
      go false plainly true none no_inverter = of_it.none plainly none ∙ ap (λ b. b ∷ []) (sym (zero_is none))
      go false plainly false some no_inverter = of_it.bit some

  -- a literal with one
  inverted_word : (l p : ℕ) → IsKnown l → is_inverted l ≡ true → slice_get (imported_body t) p ≡ Some (inverter_op (variable_ref t (variable l)))
      → word ρ (result p 0) ≡ literal_bit (bits_of t ρ) l ∷ []
  inverted_word l p of_it inverted at = go (is_negated l) refl (variable l == 0) refl inverted
    where
      go : (n : Bool) → is_negated l ≡ n → (z : Bool) → (variable l == 0) ≡ z → (n && not z) ≡ true
          → word ρ (result p 0) ≡ cond n (not (bits_of t ρ (variable l))) (bits_of t ρ (variable l)) ∷ []
      go true negated false some inverter = inverter_word t inputs content ρ settled p (variable_ref t (variable l)) (bits_of t ρ (variable l)) at (of_it.bit some) (of_it.one negated)
      go true negated true none inverter = absurd (true≢false (sym inverter))
      go false plainly z none inverter = absurd (true≢false (sym inverter))

  -- the words of operands are the bits of their literals
  pub operand_words : (p : ℕ) (ls : List ℕ) → InvertersStand t (imported_body t) p ls → ((l : ℕ) → In l ls → IsKnown l)
      → map (word ρ) (operands t p ls) ≡ map (λ l. literal_bit (bits_of t ρ) l ∷ []) ls
  operand_words p [] stand all = refl
  operand_words p (l ∷ ls) stand all = go (is_inverted l) refl (λ q behind. operand_words q ls behind (λ m here. all m (inr here)))
    where
      go : (b : Bool) → is_inverted l ≡ b
          → ((q : ℕ) → InvertersStand t (imported_body t) q ls → map (word ρ) (operands t q ls) ≡ map (λ m. literal_bit (bits_of t ρ) m ∷ []) ls)
          → map (word ρ) (cond b (result p 0 ∷ operands t (suc p) ls) (plain_ref t l ∷ operands t p ls)) ≡ map (λ m. literal_bit (bits_of t ρ) m ∷ []) (l ∷ ls)
      go true inverted rest =
          let parts = stand_past t (imported_body t) p l ls inverted stand in
          ap₂ (λ w ws. w ∷ ws) (inverted_word l p (all l (inl refl)) inverted parts.0) (rest (suc p) parts.1)
      go false plain rest =
          ap₂ (λ w ws. w ∷ ws) (plain_word l (all l (inl refl)) plain) (rest p (stand_same t (imported_body t) p l ls plain stand))
