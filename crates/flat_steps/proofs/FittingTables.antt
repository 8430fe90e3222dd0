-- The operations of a flat module take the words of its tables.
use Rattle.std.proofs.Common.{◌≡◌, refl, sym, ap, ◌∙◌, ℕ, false, List, [], ◌∷◌, length, map, slice_get, Option, Some, None, inl, inr, option_map}
use Rattle.std.proofs.lemmas.Option.{slice_get-map}
use mathlib.Core.Path.{subst₂}
use Rattle.wiring.specs.Wiring.{In}
use Rattle.bits_core.specs.Word.{Word}
use Rattle.hw_model.specs.Types.{Name, HwType}
use Rattle.hw_model.specs.Design.{Ref, OpResult, Op, Module, Design, is_register, is_output_op, result_type}
use Rattle.hw_model.specs.Flat.{Net, net, held_width, width_of, state}
use Rattle.hw_model.specs.Meaning.{Settled}
use Rattle.hw_model.specs.Sound.{Fits, type_in}
use Rattle.hw_model.proofs.Finite.{settles_with_heights}
use Rattle.op_checks.proofs.Widths.{neither}
use Rattle.op_verifier.specs.OpChecks.{settled_type, divides_by_constant}
use Rattle.op_verifier.proofs.NoCauseAlone.{types_of}
use Rattle.operation_gates.specs.Operands.{IsPlain as IsPlainKind}
use Rattle.flat_module_laws.specs.Sides.{IsFlat}
use Rattle.flat_module_laws.specs.Orders.{IsSeen, ComesAfter, StandInOrder}
use Rattle.flat_module_laws.proofs.FlatBodies.{flat_body, flat_heights, no_own_cause, operand_there}
use Rattle.flat_module_laws.proofs.FlatSources.{ResultFrom, result_is}
use Rattle.flat_module_laws.proofs.FlatSources.ResultFrom.{from_register, from_output, from_operands}
use Rattle.flat_module_laws.proofs.FlatGateLists.{plain_kind}
use Rattle.flat_module_laws.proofs.FlatWords.{words_have}
use Rattle.flat_module_laws.proofs.ScalarValues.{made_scalar}
use Rattle.flat_module_gates.proofs.Linking.{HasOne, AreSingle}
use Rattle.flat_module_gates.proofs.SingleResults.{plain_is_single}
use Rattle.flat_steps.specs.Tables.{word_in, CanMake, OpCanMake, with_op, TableFits}
use Rattle.flat_steps.specs.Holds.{PortsHold, ResultsHold}
use Rattle.flat_steps.proofs.Makes.{makes}
use Rattle.flat_steps.proofs.SettledTables.{IsReady, operand_words, ready_more, register_word, op_length}
use Rattle.flat_steps.proofs.WordWidths.{result_word}

module _ (d : Design) (top : Name) (m : Module) (order : List ℕ) (flat : IsFlat d top m order) (single : AreSingle m.body)
    (x q : Word) (ρ : Net → Word) (settled : Settled d top x q ρ) (ports : List Word) (hold : PortsHold m.ports ports x) where
  abbrev Ready : List ℕ → List Word → Type 0
  Ready seen results = IsReady d top m order flat single x q ρ settled ports hold seen results

  -- an operation whose operands have the words of their nets takes them
  can_make : (i : ℕ) (o : Op) (at : slice_get m.body i ≡ Some o) (t : HwType) → result_type o 0 ≡ Some t → is_register o ≡ false → is_output_op o ≡ false
      → (seen : List ℕ) (results : List Word) → Ready seen results → ((r : Ref) → In r o.operands → IsSeen seen r)
      → CanMake o.kind (held_width o) (map (word_in ports results) o.operands)
  can_make i o at t typed free given seen results ready among = go (result_is d top m order flat i o at 0)
    where
      go : ResultFrom d top m order flat i o at 0 → CanMake o.kind (held_width o) (map (word_in ports results) o.operands)
      go (from_register f is from) = absurd (let no : ⊥ = cc in no)
      go (from_output u from) = absurd (let no : ⊥ = cc in no)
      go (from_operands r n u from) =
          let plain : IsPlainKind o.kind = plain_kind d top m order flat i 0 o at r n u t typed in
          let fits : Fits o.kind o.types (map (type_in m.ports m.body) o.operands) t 0 = (flat_body d top m order flat).ops i o at 0 t typed in
          let listed : slice_get (types_of o.results) 0 ≡ Some t = slice_get-map (λ (y : OpResult). y.type) o.results 0 ∙ typed in
          let wide =
          result_word o.named (length o.operands) (map (settled_type m.ports m.body) o.operands) (divides_by_constant m.body o.operands) o.types (types_of o.results)
          (map (type_in m.ports m.body) o.operands) t 0 listed (made_scalar m flat.plain.scalar i 0 o t at typed) o.kind plain (no_own_cause d top m order flat i o at) fits in
          let words : map (word_in ports results) o.operands ≡ map ρ (map (net []) o.operands) =
          operand_words d top m order flat single x q ρ settled ports hold seen results ready o.operands (operand_there d top m order flat i o at) among in
          subst₂ (λ w us. CanMake o.kind w us) (sym (ap width_of typed)) (sym words) (record {
            least = wide.0;
            most = wide.1;
            words = makes o.kind o.types (map (type_in m.ports m.body) o.operands) t 0 (map ρ (map (net []) o.operands)) plain fits (words_have d top m order flat x q ρ settled o.operands);
          })

  op_can_make : (i : ℕ) (seen : List ℕ) (results : List Word) → Ready seen results → ComesAfter seen (slice_get m.body i) → OpCanMake ports results (slice_get m.body i)
  op_can_make i seen results ready after = go (slice_get m.body i) refl after
    where
      by_one : (o : Op) → slice_get m.body i ≡ Some o → HasOne o → ComesAfter seen (Some o) → is_register o ≡ false → is_output_op o ≡ false
          → CanMake o.kind (held_width o) (map (word_in ports results) o.operands)
      by_one o at (inl (given, empty)) after free other = absurd (let no : ⊥ = cc in no)
      by_one o at (inr (y, one, given)) after free other =
          let typed : result_type o 0 ≡ Some y.type = ap (λ (rs : List OpResult). option_map (λ (z : OpResult). z.type) (slice_get rs 0)) one in
          can_make i o at y.type typed free other seen results ready (after free other)

      go : (y : Option Op) → slice_get m.body i ≡ y → ComesAfter seen y → OpCanMake ports results y
      go None at after = tt
      go (Some o) at after =
          λ none. let both = neither (is_register o) (is_output_op o) none in by_one o at (single i o at) after both.0 both.1

  fits_along : (is seen : List ℕ) (results : List Word) → length results ≡ length m.body → Ready seen results → StandInOrder m.body seen is → TableFits ports m.body is results
  fits_along [] seen results long ready stand = tt
  fits_along (i ∷ is) seen results long ready stand = (
    op_can_make i seen results ready stand.0,
    fits_along is (i ∷ seen) (with_op ports results i (slice_get m.body i))
        (op_length d top m order flat single x q ρ settled ports hold results i (slice_get m.body i) ∙ long)
        (ready_more d top m order flat single x q ρ settled ports hold seen results i long ready stand.0) stand.1,
  )

-- where the tables of a flat module hold inputs and content, each of its operations takes the words of its operands
pub operations_fit : (d : Design) (top : Name) (m : Module) (order : List ℕ) → IsFlat d top m order → (x q : Word) (ports results : List Word)
    → PortsHold m.ports ports x → ResultsHold (state d) m.body results q → length results ≡ length m.body → TableFits ports m.body order results
operations_fit d top m order flat x q ports results hold keeps long =
    let once = settles_with_heights d top (flat_heights d top m order flat) x q in
    let single = plain_is_single d top m flat.plain in
    fits_along d top m order flat single x q once.0 once.1 ports hold order [] results long
    (register_word d top m order flat single x q once.0 once.1 ports hold results keeps) flat.stands.stand
