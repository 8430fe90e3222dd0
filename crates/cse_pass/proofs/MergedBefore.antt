-- Merges before the sweeps do not matter: sweeps make of operations what they make of these once some are merged.
use Rattle.std.proofs.Common.{◌≡◌, ◌⊎◌, ◌+◌, ◌<◌, ◌≤◌, ℕ, zero, suc, Bool, true, false, cond, nat_eq, nat_lt, List, length, take, Option, Some, None, refl, sym, ap, subst, ◌∙◌, inl, inr, arith, option_and_then}
use Rattle.std.proofs.lemmas.Bool.{eqb-true, eqb-false, ltb-true, ltb-false}
use Rattle.std.proofs.lemmas.Option.{slice_get_past}
use Rattle.hw_model.specs.Design.{Op}
use Rattle.fold_laws.specs.Unused.{is_pure}
use Rattle.cse_pass.specs.EqualOps.{equal_position, equal_before}
use Rattle.cse_pass.specs.Merges.{merge_op, merge_at, merge_sweep, merges, HasNoEqual, MergesInto, IsMerged}
use Rattle.cse_pass.proofs.Images.{merges_agree, step_length}
use Rattle.cse_pass.proofs.MergeRuns.{first_merge, merges_then, sweeps_merge}

-- past the end no operation is equal to an earlier one
pub none_past_end : (os : List Op) (k : ℕ) → length os ≤ k → equal_before os k ≡ None
none_past_end os k past = ap (λ x. option_and_then (λ (o : Op). cond (is_pure o.kind) (equal_position o (take k os)) None) x) (slice_get_past os k past)

sweep_length : (n i : ℕ) (os : List Op) → length (merge_sweep n i os) ≤ length os
sweep_length zero i os = omega arith
sweep_length (suc n) i os = go (equal_before os i) refl (λ k xs. sweep_length n k xs)
  where
    go : (x : Option ℕ) → equal_before os i ≡ x → ((k : ℕ) (xs : List Op) → length (merge_sweep n k xs) ≤ length xs)
        → length (merge_at (λ k xs. merge_sweep n k xs) i os x) ≤ length os
    go None is later = later (suc i) os
    go (Some j) is later =
        let rest : length (merge_sweep n i (merge_op i j os)) ≤ length (merge_op i j os) = later i (merge_op i j os) in
        let size : suc (length (merge_op i j os)) ≡ length os = step_length os (merge_op i j os) (first_merge os i j is) in
        omega (arith, rest, size)

-- a sweep finds nothing, or leaves fewer operations
sweep_either : (n i : ℕ) (os : List Op) → length os ≤ i + n → ((k : ℕ) → k < i → equal_before os k ≡ None) → HasNoEqual os ⊎ (length (merge_sweep n i os) < length os)
sweep_either zero i os size none = inl (λ k. go k (nat_lt k i) refl)
  where
    go : (k : ℕ) (t : Bool) → nat_lt k i ≡ t → equal_before os k ≡ None
    go k true is = none k (ltb-true k i is)
    go k false is = none_past_end os k (omega (arith, size, ltb-false k i is))
sweep_either (suc n) i os size none = go (equal_before os i) refl (λ more. sweep_either n (suc i) os (omega (arith, size)) more)
  where
    go : (x : Option ℕ) → equal_before os i ≡ x
        → (((k : ℕ) → k < suc i → equal_before os k ≡ None) → HasNoEqual os ⊎ (length (merge_sweep n (suc i) os) < length os))
        → HasNoEqual os ⊎ (length (merge_at (λ k xs. merge_sweep n k xs) i os x) < length os)
    go None is later = later (λ k less. this k less (nat_eq k i) refl)
      where
        this : (k : ℕ) → k < suc i → (t : Bool) → nat_eq k i ≡ t → equal_before os k ≡ None
        this k less true same = ap (equal_before os) (eqb-true k i same) ∙ is
        this k less false other = none k (let apart = eqb-false k i other in omega (arith, less, apart))
    go (Some j) is later =
        let rest : length (merge_sweep n i (merge_op i j os)) ≤ length (merge_op i j os) = sweep_length n i (merge_op i j os) in
        let shorter : suc (length (merge_op i j os)) ≡ length os = step_length os (merge_op i j os) (first_merge os i j is) in
        inr (omega (arith, rest, shorter))

-- as many sweeps as there are operations leave no equal ones
all_merged : (size : ℕ) (os : List Op) → length os ≤ size → (n : ℕ) × HasNoEqual (merges n os)
all_merged zero os few = (0, λ k. none_past_end os k (omega (arith, few)))
all_merged (suc size) os few = go (sweep_either (length os) 0 os (omega arith) (λ k less. absurd (omega (arith, less)))) (λ xs small. all_merged size xs small)
  where
    go : HasNoEqual os ⊎ (length (merge_sweep (length os) 0 os) < length os) → ((xs : List Op) → length xs ≤ size → (n : ℕ) × HasNoEqual (merges n xs)) → (n : ℕ) × HasNoEqual (merges n os)
    go (inl none) later = (0, none)
    go (inr less) later = let rest = later (merge_sweep (length os) 0 os) (omega (arith, less, few)) in (suc rest.0, rest.1)

pub merged_before : (os os1 after : List Op) → MergesInto os os1 → IsMerged os1 after → IsMerged os after
merged_before os os1 after first merged =
    let all = all_merged (length os) os (omega arith) in
    let swept : MergesInto os (merges all.0 os) = sweeps_merge all.0 os in
    let both : MergesInto os after = merges_then os os1 after first (subst (MergesInto os1) (sym merged.is) (sweeps_merge merged.sweeps os1)) in
    record {
      sweeps = all.0;
      is = merges_agree both.count swept.count os after (merges all.0 os) both.leads swept.leads merged.none_left all.1;
      none_left = merged.none_left;
    }
