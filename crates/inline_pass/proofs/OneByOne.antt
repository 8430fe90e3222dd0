-- Modules that are not reached go one by one: the design stays fit, what is left does what it did, and no module gets heavier.
use Rattle.std.proofs.Common.{◌≡◌, ℕ, zero, suc, ◌<◌, ◌≤◌, length, remove, Some, slice_get, sym, subst, ◌⊎◌, inl, inr, arith}
use Rattle.std.proofs.lemmas.Option.{slice_get_within}
use Rattle.wiring.specs.Wiring.{In, HasHeights}
use Rattle.wiring.proofs.Edits.{length-remove_suc}
use Rattle.hw_model.specs.Types.{Name}
use Rattle.hw_model.specs.Design.{Module, Design}
use Rattle.hw_model.specs.Hierarchy.{callee_symbols, calls}
use Rattle.hw_model.specs.Machine.{Same}
use Rattle.hw_model.specs.Meaning.{machine}
use Rattle.hw_model.specs.Sound.{body_of}
use Rattle.hw_model.specs.Weight.{weight}
use Rattle.hw_model.proofs.Content.{call_heights}
use Rattle.hw_model.proofs.Machines.{same_self, same_then}
use Rattle.edit_laws.proofs.Follows.{valid_settles}
use Rattle.edit_laws.proofs.ModuleGone.{removed_others, remove_module_preserves}
use Rattle.acceptance_laws.specs.Keeps.{IsFit}
use Rattle.acceptance_laws.proofs.ModuleRemoved.{is_without, fit_without_module, lighter_without_module}
use Rattle.inline_pass.specs.DeadModules.{AreReachedOf}
use Rattle.inline_pass.proofs.HighestUnreached.{HasHighest, highest_unreached, IsClosed, nothing_calls}

module _ (P : Name → Type 0) where
  -- the design is fit, the modules whose symbols meet P do what they did, and none is heavier
  pub record IsReduced (d e : Design) : Type 0 where
    pub fit : IsFit e
    pub same : (s : Name) → P s → Same (machine d s) (machine e s)
    pub lighter : (s : Name) → weight e s ≤ weight d s

  reduced_self : (d : Design) → IsFit d → IsReduced d d
  reduced_self d fit = record {
    fit = fit;
    same = λ s meets. same_self (machine d s) (valid_settles d fit.valid s);
    lighter = λ s. omega arith;
  }

  reduced_then : (d e f : Design) → IsReduced d e → IsReduced e f → IsReduced d f
  reduced_then d e f first second = record {
    fit = second.fit;
    same = λ s meets. same_then (machine d s) (machine e s) (machine f s) (first.same s meets) (second.same s meets);
    lighter = λ s. let one : weight e s ≤ weight d s = first.lighter s in let other : weight f s ≤ weight e s = second.lighter s in omega arith;
  }

  -- one module goes that nothing instances
  module _ (d : Design) (k : ℕ) (m : Module) (fit : IsFit d) (at : slice_get d k ≡ Some m) (fails : P m.symbol → ⊥) (unused : (s : Name) → In m.symbol (calls d s) → ⊥) where
    reduced_one : IsReduced d (remove d k)
    reduced_one = record {
      fit = fit_without_module d k m fit at unused;
      same = λ s meets. remove_module_preserves d (remove d k) m.symbol (is_without d k m fit at unused) fit.valid s (λ same. fails (subst P same meets));
      lighter = lighter_without_module d k m fit at unused;
    }

    still_closed : IsClosed P d → IsClosed P (remove d k)
    still_closed closed s t meets need =
        closed s t meets
        (subst (λ o. In t (callee_symbols (body_of o))) (removed_others d k m at s (λ same. fails (subst P same meets))) need)

  reduced_by : (n : ℕ) (d e : Design) → length d ≤ n → IsFit d → IsClosed P d → AreReachedOf P d e → IsReduced d e
  reduced_by zero d e small fit closed are = go (highest_unreached P (λ s. 0) d e are)
    where
      go : (e ≡ d) ⊎ HasHighest P (λ s. 0) d e → IsReduced d e
      go (inl same) = subst (IsReduced d) (sym same) (reduced_self d fit)
      go (inr (k, m, one)) = let within : k < length d = slice_get_within d k m one.at in absurd (omega arith)
  reduced_by (suc n) d e small fit closed are =
      go (highest_unreached P high.0 d e are) (λ x smaller. reduced_by n x e smaller)
    where
      high : HasHeights (calls d)
      high = call_heights d fit.valid.finite

      go : (e ≡ d) ⊎ HasHighest P high.0 d e → ((x : Design) → length x ≤ n → IsFit x → IsClosed P x → AreReachedOf P x e → IsReduced x e) → IsReduced d e
      go (inl same) again = subst (IsReduced d) (sym same) (reduced_self d fit)
      go (inr (k, m, one)) again =
          let unused : (s : Name) → In m.symbol (calls d s) → ⊥ = nothing_calls P d e are closed high.0 high.1 k m one in
          let fewer : suc (length (remove d k)) ≡ length d = length-remove_suc d k (slice_get_within d k m one.at) in
          reduced_then d (remove d k) e (reduced_one d k m fit one.at one.fails unused)
          (again (remove d k) (omega arith) (fit_without_module d k m fit one.at unused) (still_closed d k m fit one.at one.fails unused closed) one.others)

  pub reduced : (d e : Design) → IsFit d → IsClosed P d → AreReachedOf P d e → IsReduced d e
  reduced d e fit closed are = reduced_by (length d) d e (omega arith) fit closed are
