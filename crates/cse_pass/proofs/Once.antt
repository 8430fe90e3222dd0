-- Sweeps make one thing of operations: where nothing is left to merge, or to trim, further sweeps change nothing.
use Rattle.std.proofs.Common.{◌≡◌, ℕ, zero, suc, cond, List, length, refl, sym, ap, subst, ◌∙◌}
use Rattle.std.specs.Prelude.{is_some}
use Rattle.hw_model.specs.Design.{Op}
use Rattle.hw_model.specs.Design.Ref.{undefined}
use Rattle.edit_laws.specs.Laws.{erase_op}
use Rattle.cse_pass.specs.Merges.{merge_at, merge_sweep, merges, HasNoEqual}
use Rattle.cse_pass.specs.Trims.{trim_at, trim_sweep, trims, HasNoUnused}
use Rattle.cse_pass.specs.Cse.{IsCseOf}

-- ---- merges

sweep_stays : (os : List Op) → HasNoEqual os → (n i : ℕ) → merge_sweep n i os ≡ os
sweep_stays os none zero i = refl
sweep_stays os none (suc n) i = ap (merge_at (λ k xs. merge_sweep n k xs) i os) (none i) ∙ sweep_stays os none n (suc i)

merges_stay : (os : List Op) → HasNoEqual os → (n : ℕ) → merges n os ≡ os
merges_stay os none zero = refl
merges_stay os none (suc n) = ap (merges n) (sweep_stays os none (length os) 0) ∙ merges_stay os none n

pub merged_once : (n m : ℕ) (os : List Op) → HasNoEqual (merges n os) → HasNoEqual (merges m os) → merges n os ≡ merges m os
merged_once zero m os first second = sym (merges_stay os first m)
merged_once (suc n) zero os first second = merges_stay os second (suc n)
merged_once (suc n) (suc m) os first second = merged_once n m (merge_sweep (length os) 0 os) first second

-- ---- trims

trim_stays : (os : List Op) → HasNoUnused os → (i : ℕ) → trim_at i os ≡ os
trim_stays os none i = ap (λ x. cond (is_some x) (erase_op i undefined os) os) (none i)

trim_sweep_stays : (os : List Op) → HasNoUnused os → (n : ℕ) → trim_sweep n os ≡ os
trim_sweep_stays os none zero = refl
trim_sweep_stays os none (suc n) = ap (trim_sweep n) (trim_stays os none n) ∙ trim_sweep_stays os none n

trims_stay : (os : List Op) → HasNoUnused os → (n : ℕ) → trims n os ≡ os
trims_stay os none zero = refl
trims_stay os none (suc n) = ap (trims n) (trim_sweep_stays os none (length os)) ∙ trims_stay os none n

pub trimmed_once : (n m : ℕ) (os : List Op) → HasNoUnused (trims n os) → HasNoUnused (trims m os) → trims n os ≡ trims m os
trimmed_once zero m os first second = sym (trims_stay os first m)
trimmed_once (suc n) zero os first second = trims_stay os second (suc n)
trimmed_once (suc n) (suc m) os first second = trimmed_once n m (trim_sweep (length os) os) first second

-- ---- both

pub once : (os a b : List Op) → IsCseOf os a → IsCseOf os b → a ≡ b
once os a b first second =
    let merged : first.between ≡ second.between =
    first.merged.is
    ∙ merged_once first.merged.sweeps second.merged.sweeps os (subst HasNoEqual first.merged.is first.merged.none_left) (subst HasNoEqual second.merged.is second.merged.none_left)
    ∙ sym second.merged.is in
    let of_second : trims first.trimmed.sweeps first.between ≡ trims first.trimmed.sweeps second.between = ap (trims first.trimmed.sweeps) merged in
    let a_is : a ≡ trims first.trimmed.sweeps second.between = first.trimmed.is ∙ of_second in
    a_is
    ∙ trimmed_once first.trimmed.sweeps second.trimmed.sweeps second.between (subst HasNoUnused a_is first.trimmed.none_left) (subst HasNoUnused second.trimmed.is second.trimmed.none_left)
    ∙ sym second.trimmed.is
