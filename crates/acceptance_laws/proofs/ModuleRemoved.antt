-- A module that nothing instances goes: a fit design stays fit, and no module gets heavier.
use Rattle.std.proofs.Common.{◌≡◌, ◌≤◌, ℕ, zero, suc, length, remove, Option, Some, None, slice_get, refl, sym, ap, subst, ◌∙◌, arith}
use Rattle.std.specs.Prelude.{is_some}
use Rattle.std.proofs.lemmas.Option.{slice_get_within}
use Rattle.wiring.specs.Wiring.{In}
use Rattle.wiring.proofs.Edits.{length-remove_suc}
use Rattle.wiring.proofs.Members.{position_of_In}
use Rattle.hw_model.specs.Types.{Name}
use Rattle.hw_model.specs.Design.{Module, Design, find_module}
use Rattle.hw_model.specs.Hierarchy.{calls, IsWithout}
use Rattle.hw_model.specs.Weight.{weight_of, module_weight, weight}
use Rattle.design_cycles.specs.Asked.{HasDistinctSymbols}
use Rattle.design_cycles.proofs.Callees.{found_at}
use Rattle.port_checks.proofs.Least.{found_module}
use Rattle.op_verifier.proofs.Distinct.{distinct_symbols}
use Rattle.edit_laws.specs.Laws.{up, down}
use Rattle.edit_laws.proofs.ModuleGone.{gone_valid, removed_others}
use Rattle.edit_laws.proofs.Positions.{down-up, down_same, get_taken}
use Rattle.acceptance_laws.specs.Keeps.{IsFit}
use Rattle.acceptance_laws.proofs.Accepted.{fit_kept}
use Rattle.acceptance_laws.proofs.Edited.{kept_self}
use Rattle.edit_laws.proofs.ResetsKept.{find_symbol}
use Rattle.hw_model.proofs.Weights.{weight_of_le}

-- ---- weights of what is instanced

-- a greater depth gives no less
deeper : (d : Design) (n : ℕ) (s : Name) → module_weight n d s ≤ module_weight (suc n) d s
deeper d zero s = omega arith
deeper d (suc n) s = weight_of_le (module_weight n d) (module_weight (suc n) d) (deeper d n) (find_module d s)

-- ---- the design without the module

module _ (d : Design) (k : ℕ) (m : Module) (fit : IsFit d) (at : slice_get d k ≡ Some m) (unused : (s : Name) → In m.symbol (calls d s) → ⊥) where
  was_distinct : HasDistinctSymbols d
  was_distinct = distinct_symbols d fit.unrefused

  -- where a module that is left stood
  stood_at : (j : ℕ) (n : Module) → slice_get (remove d k) j ≡ Some n → slice_get d (up k j) ≡ Some n
  stood_at j n is = sym (get_taken d k (up k j) j (down-up k j)) ∙ is

  still_distinct : HasDistinctSymbols (remove d k)
  still_distinct i j n p at_i at_j same =
      let ups : up k i ≡ up k j = was_distinct (up k i) (up k j) n p (stood_at i n at_i) (stood_at j p at_j) same in
      let downs : Some i ≡ Some j = sym (down-up k i) ∙ ap (down k) ups ∙ down-up k j in cc

  -- what a symbol finds it found, and it is not the module that is gone
  left_found : (s : Name) (n : Module) → find_module (remove d k) s ≡ Some n → find_module d s ≡ Some n
  left_found s n is =
      let position = position_of_In n (remove d k) (found_module (remove d k) s n is) in
      ap (find_module d) (sym (find_symbol (remove d k) s n is)) ∙ (found_at d was_distinct (up k position.0) n (stood_at position.0 n position.1)).1

  none_found : find_module (remove d k) m.symbol ≡ None
  none_found = go (find_module (remove d k) m.symbol) refl
    where
      go : (x : Option Module) → find_module (remove d k) m.symbol ≡ x → find_module (remove d k) m.symbol ≡ None
      go None is = is
      go (Some n) is =
          let position = position_of_In n (remove d k) (found_module (remove d k) m.symbol n is) in
          let here : up k position.0 ≡ k = was_distinct (up k position.0) k n m (stood_at position.0 n position.1) at (find_symbol (remove d k) m.symbol n is) in
          let clash : Some position.0 ≡ None = sym (down-up k position.0) ∙ ap (down k) here ∙ down_same k in cc

  pub is_without : IsWithout d (remove d k) m.symbol
  is_without = record { others = removed_others d k m at; absent = none_found; unused = unused }

  pub fit_without_module : IsFit (remove d k)
  fit_without_module =
      fit_kept d (remove d k) fit (record {
        distinct = still_distinct;
        modules = λ s n is. record { was = n; is_found = left_found s n is; keeps = kept_self n };
        called = λ s t there need was. ap is_some (removed_others d k m at t (λ same. unused s (subst (λ z. In z (calls d s)) same need))) ∙ was;
      }) (gone_valid d (remove d k) m.symbol is_without fit.valid)

  at_depth : (n : ℕ) (s : Name) → module_weight n (remove d k) s ≤ module_weight n d s
  at_depth zero s = omega arith
  at_depth (suc n) s = go (at_depth n) (find_module (remove d k) s) refl
    where
      go : ((t : Name) → module_weight n (remove d k) t ≤ module_weight n d t) → (x : Option Module) → find_module (remove d k) s ≡ x
          → weight_of (module_weight n (remove d k)) x ≤ weight_of (module_weight n d) (find_module d s)
      go below None is = omega arith
      go below (Some y) is =
          subst (λ z. weight_of (module_weight n (remove d k)) (Some y) ≤ weight_of (module_weight n d) z) (sym (left_found s y is))
          (weight_of_le (module_weight n (remove d k)) (module_weight n d) below (Some y))

  pub lighter_without_module : (s : Name) → weight (remove d k) s ≤ weight d s
  lighter_without_module s =
      let fewer : suc (length (remove d k)) ≡ length d = length-remove_suc d k (slice_get_within d k m at) in
      let less : weight (remove d k) s ≤ module_weight (length d) d s =
      subst (λ n. module_weight n (remove d k) s ≤ module_weight (length d) d s) (sym fewer) (at_depth (length d) s) in
      let more : module_weight (length d) d s ≤ weight d s = deeper d (length d) s in
      omega arith
