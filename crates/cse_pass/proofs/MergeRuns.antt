-- Merges, one after another, and that sweeps are such.
use Rattle.std.proofs.Common.{◌≡◌, ℕ, zero, suc, List, length, Option, Some, None, refl, sym, subst}
use Rattle.hw_model.specs.Design.{Op}
use Rattle.cse_pass.specs.EqualOps.{equal_before}
use Rattle.cse_pass.specs.Merges.{merge_op, merge_at, merge_sweep, merges, IsMerge, MergesBy, MergesInto}
use Rattle.cse_pass.proofs.EqualPositions.{equal_found}

pub no_merge : (os : List Op) → MergesInto os os
no_merge os = record { count = 0; leads = refl }

pub one_merge : (before after : List Op) → IsMerge before after → MergesInto before after
one_merge before after merge = record { count = 1; leads = (before, refl, merge) }

then_merges : (n : ℕ) (a b c : List Op) → MergesInto a b → MergesBy n b c → MergesInto a c
then_merges zero a b c first same = subst (MergesInto a) (sym same) first
then_merges (suc n) a b c first (between, leads, merge) =
    let rest : MergesInto a between = then_merges n a b between first leads in
    record { count = suc rest.count; leads = (between, rest.leads, merge) }

-- one after another
pub merges_then : (a b c : List Op) → MergesInto a b → MergesInto b c → MergesInto a c
merges_then a b c first second = then_merges second.count a b c first second.leads

-- the first equal one is one
pub first_merge : (os : List Op) (i j : ℕ) → equal_before os i ≡ Some j → IsMerge os (merge_op i j os)
first_merge os i j is = record { at = i; earlier = j; found = equal_found os i j is; is = refl }

pub sweep_merges : (n i : ℕ) (os : List Op) → MergesInto os (merge_sweep n i os)
sweep_merges zero i os = no_merge os
sweep_merges (suc n) i os = go (equal_before os i) refl (λ k xs. sweep_merges n k xs)
  where
    go : (x : Option ℕ) → equal_before os i ≡ x → ((k : ℕ) (xs : List Op) → MergesInto xs (merge_sweep n k xs))
        → MergesInto os (merge_at (λ k xs. merge_sweep n k xs) i os x)
    go None is later = later (suc i) os
    go (Some j) is later =
        merges_then os (merge_op i j os) (merge_sweep n i (merge_op i j os)) (one_merge os (merge_op i j os) (first_merge os i j is)) (later i (merge_op i j os))

pub sweeps_merge : (n : ℕ) (os : List Op) → MergesInto os (merges n os)
sweeps_merge zero os = no_merge os
sweeps_merge (suc n) os =
    merges_then os (merge_sweep (length os) 0 os) (merges (suc n) os) (sweep_merges (length os) 0 os) (sweeps_merge n (merge_sweep (length os) 0 os))
