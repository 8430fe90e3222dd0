-- Sweeps are single changes, one after another.
use Rattle.std.proofs.Common.{◌≡◌, ℕ, zero, suc, cond, List, length, Option, Some, None, refl, sym, ap, subst, ◌∙◌, inl, inr}
use Rattle.std.specs.Prelude.{is_some}
use Rattle.hw_model.specs.Design.{Op}
use Rattle.hw_model.specs.Design.Ref.{undefined}
use Rattle.edit_laws.specs.Laws.{erase_op}
use Rattle.fold_laws.specs.Edits.{Edit}
use Rattle.fold_laws.specs.Unused.{fold_unused}
use Rattle.cse_pass.specs.Merges.{merges, IsMerge, MergesBy, MergesInto}
use Rattle.cse_pass.specs.Trims.{trim_at, trim_sweep, trims, IsTrim, TrimsBy, TrimsInto}
use Rattle.cse_pass.specs.Cse.{IsCseOf, IsChange, ChangeBy, Changes}
use Rattle.cse_pass.proofs.MergeRuns.{sweeps_merge}
use Rattle.cse_pass.proofs.UnusedOps.{unused_found}

-- ---- changes

pub no_change : (os : List Op) → Changes os os
no_change os = record { count = 0; leads = refl }

one_change : (before after : List Op) → IsChange before after → Changes before after
one_change before after change = record { count = 1; leads = (before, refl, change) }

pub merge_is_change : (before after : List Op) → IsMerge before after → Changes before after
merge_is_change before after merge = one_change before after (inl merge)

pub trim_is_change : (before after : List Op) → IsTrim before after → Changes before after
trim_is_change before after trim = one_change before after (inr trim)

then_by : (n : ℕ) (a b c : List Op) → Changes a b → ChangeBy n b c → Changes a c
then_by zero a b c first same = subst (Changes a) (sym same) first
then_by (suc n) a b c first (between, leads, change) =
    let rest : Changes a between = then_by n a b between first leads in
    record { count = suc rest.count; leads = (between, rest.leads, change) }

-- one after another
pub changes_then : (a b c : List Op) → Changes a b → Changes b c → Changes a c
changes_then a b c first second = then_by second.count a b c first second.leads

-- ---- merges

merges_by : (n : ℕ) (a b : List Op) → MergesBy n a b → Changes a b
merges_by zero a b same = subst (Changes a) (sym same) (no_change a)
merges_by (suc n) a b (between, leads, merge) = changes_then a between b (merges_by n a between leads) (merge_is_change between b merge)

pub merges_change : (a b : List Op) → MergesInto a b → Changes a b
merges_change a b merges = merges_by merges.count a b merges.leads

-- ---- trims

pub trim_leads : (i : ℕ) (os : List Op) → Changes os (trim_at i os)
trim_leads i os = go (fold_unused os i) refl
  where
    go : (x : Option (List Edit)) → fold_unused os i ≡ x → Changes os (cond (is_some x) (erase_op i undefined os) os)
    go None is = no_change os
    go (Some es) is = trim_is_change os (erase_op i undefined os) (i, is ∙ ap Some (unused_found os i es is).edits, refl)

pub trim_sweep_leads : (n : ℕ) (os : List Op) → Changes os (trim_sweep n os)
trim_sweep_leads zero os = no_change os
trim_sweep_leads (suc n) os = changes_then os (trim_at n os) (trim_sweep (suc n) os) (trim_leads n os) (trim_sweep_leads n (trim_at n os))

pub trims_lead : (n : ℕ) (os : List Op) → Changes os (trims n os)
trims_lead zero os = no_change os
trims_lead (suc n) os = changes_then os (trim_sweep (length os) os) (trims (suc n) os) (trim_sweep_leads (length os) os) (trims_lead n (trim_sweep (length os) os))

trims_by : (n : ℕ) (a b : List Op) → TrimsBy n a b → Changes a b
trims_by zero a b same = subst (Changes a) (sym same) (no_change a)
trims_by (suc n) a b (between, leads, trim) = changes_then a between b (trims_by n a between leads) (trim_is_change between b trim)

pub trims_change : (a b : List Op) → TrimsInto a b → Changes a b
trims_change a b trims = trims_by trims.count a b trims.leads

-- ---- both

pub cse_leads : (os os' : List Op) → IsCseOf os os' → Changes os os'
cse_leads os os' cse =
    subst (Changes os) (sym cse.trimmed.is)
    (changes_then os cse.between (trims cse.trimmed.sweeps cse.between)
    (subst (Changes os) (sym cse.merged.is) (merges_change os (merges cse.merged.sweeps os) (sweeps_merge cse.merged.sweeps os)))
    (trims_lead cse.trimmed.sweeps cse.between))
