-- The words of the values of a flat module under a settled map: as wide as their types.
use Rattle.std.proofs.Common.{◌≡◌, refl, sym, ap, ap₂, subst, ◌∙◌, ℕ, ◌+◌, List, [], ◌∷◌, map, length, Option, Some, inl, inr}
use Rattle.wiring.specs.Wiring.{In}
use Rattle.wiring.specs.Lists.{total}
use Rattle.bits_core.specs.Word.{Word}
use Rattle.hw_model.specs.Types.{Name, HwType, width}
use Rattle.hw_model.specs.Design.{Ref, Module, Design, output_refs}
use Rattle.hw_model.specs.Flat.{Net, net, width_of}
use Rattle.hw_model.specs.Value.{concat_words}
use Rattle.hw_model.specs.Meaning.{Settled, outputs, outputs_of}
use Rattle.hw_model.specs.Sound.{HasWidth, HaveWidths, body_of, ports_of, type_in, output_types}
use Rattle.hw_model.proofs.NetWidths.{net_widths}
use Rattle.hw_model.proofs.Operands.{joined_length}
use Rattle.flat_module_laws.specs.Sides.{IsFlat}
use Rattle.flat_module_laws.specs.FlatPrices.{operand_widths, output_bits}
use Rattle.flat_module_laws.proofs.FlatBodies.{IsThere, flat_sound, flat_body, flat_heights}

module _ (d : Design) (top : Name) (m : Module) (order : List ℕ) (flat : IsFlat d top m order)
    (x q : Word) (ρ : Net → Word) (settled : Settled d top x q ρ) where
  word_has : (r : Ref) → HasWidth (type_in m.ports m.body r) (ρ (net [] r))
  word_has r =
      subst (λ o. HasWidth (type_in (ports_of o) (body_of o) r) (ρ (net [] r))) flat.plain.found
      (net_widths d top (flat_sound d top m order flat) x q ρ (flat_heights d top m order flat) settled (net [] r))

  pub words_have : (rs : List Ref) → HaveWidths (map (type_in m.ports m.body) rs) (map ρ (map (net []) rs))
  words_have [] = tt
  words_have (r ∷ rs) = (word_has r, words_have rs)

  -- the words are as wide as the types say
  pub word_width : (r : Ref) → IsThere m.ports m.body r → length (ρ (net [] r)) ≡ width_of (type_in m.ports m.body r)
  word_width r (t, is) = (let own : HasWidth (Some t) (ρ (net [] r)) = subst (λ y. HasWidth y (ρ (net [] r))) is (word_has r) in own) ∙ sym (ap width_of is)

  pub words_width : (rs : List Ref) → ((r : Ref) → In r rs → IsThere m.ports m.body r) → map length (map ρ (map (net []) rs)) ≡ operand_widths m.ports m.body rs
  words_width [] there = refl
  words_width (r ∷ rs) there = ap₂ (λ (n : ℕ) (ns : List ℕ). n ∷ ns) (word_width r (there r (inl refl))) (words_width rs (λ s here. there s (inr here)))

  outputs_total : (rs : List Ref) (ts : List HwType) → map (type_in m.ports m.body) rs ≡ map (λ (t : HwType). Some t) ts
      → total (map length (map (λ r. ρ (net [] r)) rs)) ≡ total (map width ts)
  outputs_total [] [] same = refl
  outputs_total [] (t ∷ ts) same = cc
  outputs_total (r ∷ rs) [] same = cc
  outputs_total (r ∷ rs) (t ∷ ts) same =
      let first : type_in m.ports m.body r ≡ Some t = cc in
      let rest : map (type_in m.ports m.body) rs ≡ map (λ (u : HwType). Some u) ts = cc in
      ap₂ (λ (a b : ℕ). a + b) (word_width r (t, first) ∙ ap width_of first) (outputs_total rs ts rest)

  pub outputs_width : length (outputs d top ρ) ≡ output_bits m
  outputs_width =
      ap (λ o. length (outputs_in o)) flat.plain.found
      ∙ joined_length (map (λ r. ρ (net [] r)) (output_refs m.body))
      ∙ outputs_total (output_refs m.body) (output_types m.ports) (flat_body d top m order flat).outputs
    where
      outputs_in : Option Module → Word
      outputs_in o = concat_words (map (λ r. ρ (net [] r)) (outputs_of o))
