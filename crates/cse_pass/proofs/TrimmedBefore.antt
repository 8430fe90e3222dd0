-- Trims before the sweeps do not matter: sweeps make of operations what they make of these once some without uses are gone.
use Rattle.std.proofs.Common.{◌≡◌, ◌⊎◌, ◌<◌, ◌≤◌, ℕ, zero, suc, Bool, true, false, cond, not, ◌&&◌, nat_eq, List, [], ◌∷◌, length, Option, Some, None, refl, sym, ap, subst, ◌∙◌, inl, inr, arith, option_and_then}
use Rattle.std.specs.Prelude.{is_some}
use Rattle.std.proofs.lemmas.Bool.{eqb-true, eqb-false}
use Rattle.std.proofs.lemmas.Option.{slice_get_past}
use Rattle.hw_model.specs.Design.{Op}
use Rattle.hw_model.specs.Design.Ref.{undefined}
use Rattle.edit_laws.specs.Laws.{erase_op}
use Rattle.fold_laws.specs.Edits.{Edit}
use Rattle.fold_laws.specs.Edits.Edit.{erased}
use Rattle.fold_laws.specs.Unused.{is_pure, is_used, fold_unused}
use Rattle.cse_pass.specs.Trims.{trim_at, trim_sweep, trims, IsTrim, HasNoUnused, TrimsBy, TrimsInto, IsTrimmed}
use Rattle.cse_pass.proofs.Remnants.{trims_agree, trim_length}
use Rattle.cse_pass.proofs.UnusedOps.{unused_found}

-- ---- trims, one after another

pub no_trim : (os : List Op) → TrimsInto os os
no_trim os = record { count = 0; leads = refl }

then_trims : (n : ℕ) (a b c : List Op) → TrimsInto a b → TrimsBy n b c → TrimsInto a c
then_trims zero a b c first same = subst (TrimsInto a) (sym same) first
then_trims (suc n) a b c first (between, leads, trim) =
    let rest : TrimsInto a between = then_trims n a b between first leads in
    record { count = suc rest.count; leads = (between, rest.leads, trim) }

pub trims_then : (a b c : List Op) → TrimsInto a b → TrimsInto b c → TrimsInto a c
trims_then a b c first second = then_trims second.count a b c first second.leads

one_trim : (os : List Op) (i : ℕ) (es : List Edit) → fold_unused os i ≡ Some es → IsTrim os (erase_op i undefined os)
one_trim os i es is = (i, is ∙ ap Some (unused_found os i es is).edits, refl)

pub trim_into : (i : ℕ) (os : List Op) → TrimsInto os (trim_at i os)
trim_into i os = go (fold_unused os i) refl
  where
    go : (x : Option (List Edit)) → fold_unused os i ≡ x → TrimsInto os (cond (is_some x) (erase_op i undefined os) os)
    go None is = no_trim os
    go (Some es) is = record { count = 1; leads = (os, refl, one_trim os i es is) }

sweep_trims : (n : ℕ) (os : List Op) → TrimsInto os (trim_sweep n os)
sweep_trims zero os = no_trim os
sweep_trims (suc n) os = trims_then os (trim_at n os) (trim_sweep (suc n) os) (trim_into n os) (sweep_trims n (trim_at n os))

sweeps_trim : (n : ℕ) (os : List Op) → TrimsInto os (trims n os)
sweeps_trim zero os = no_trim os
sweeps_trim (suc n) os = trims_then os (trim_sweep (length os) os) (trims (suc n) os) (sweep_trims (length os) os) (sweeps_trim n (trim_sweep (length os) os))

-- ---- sweeps end

none_past_end : (os : List Op) (k : ℕ) → length os ≤ k → fold_unused os k ≡ None
none_past_end os k past = ap (λ x. option_and_then (λ (o : Op). cond (is_pure o.kind && not (is_used k os)) (Some (erased k undefined ∷ [])) None) x) (slice_get_past os k past)

pub trim_shorter : (os : List Op) (i : ℕ) (es : List Edit) → fold_unused os i ≡ Some es → suc (length (erase_op i undefined os)) ≡ length os
trim_shorter os i es is = trim_length os (erase_op i undefined os) i (unused_found os i (erased i undefined ∷ []) (is ∙ ap Some (unused_found os i es is).edits)) refl

trim_at_length : (i : ℕ) (os : List Op) → length (trim_at i os) ≤ length os
trim_at_length i os = go (fold_unused os i) refl
  where
    go : (x : Option (List Edit)) → fold_unused os i ≡ x → length (cond (is_some x) (erase_op i undefined os) os) ≤ length os
    go None is = omega arith
    go (Some es) is = let size = trim_shorter os i es is in omega (arith, size)

sweep_length : (n : ℕ) (os : List Op) → length (trim_sweep n os) ≤ length os
sweep_length zero os = omega arith
sweep_length (suc n) os =
    let rest : length (trim_sweep n (trim_at n os)) ≤ length (trim_at n os) = sweep_length n (trim_at n os) in
    omega (arith, rest, trim_at_length n os)

-- a sweep finds nothing, or leaves fewer operations
sweep_either : (n : ℕ) (os : List Op) → ((k : ℕ) → n ≤ k → fold_unused os k ≡ None) → HasNoUnused os ⊎ (length (trim_sweep n os) < length os)
sweep_either zero os none = inl (λ k. none k (omega arith))
sweep_either (suc n) os none = go (fold_unused os n) refl (λ more. sweep_either n os more)
  where
    go : (x : Option (List Edit)) → fold_unused os n ≡ x
        → (((k : ℕ) → n ≤ k → fold_unused os k ≡ None) → HasNoUnused os ⊎ (length (trim_sweep n os) < length os))
        → HasNoUnused os ⊎ (length (trim_sweep n (cond (is_some x) (erase_op n undefined os) os)) < length os)
    go None is later = later (λ k least. this k least (nat_eq k n) refl)
      where
        this : (k : ℕ) → n ≤ k → (t : Bool) → nat_eq k n ≡ t → fold_unused os k ≡ None
        this k least true same = ap (fold_unused os) (eqb-true k n same) ∙ is
        this k least false other = none k (let apart = eqb-false k n other in omega (arith, least, apart))
    go (Some es) is later =
        let rest : length (trim_sweep n (erase_op n undefined os)) ≤ length (erase_op n undefined os) = sweep_length n (erase_op n undefined os) in
        let size = trim_shorter os n es is in
        inr (omega (arith, rest, size))

-- as many sweeps as there are operations leave none without uses
all_trimmed : (size : ℕ) (os : List Op) → length os ≤ size → (n : ℕ) × HasNoUnused (trims n os)
all_trimmed zero os few = (0, λ k. none_past_end os k (omega (arith, few)))
all_trimmed (suc size) os few = go (sweep_either (length os) os (λ k least. none_past_end os k least)) (λ xs small. all_trimmed size xs small)
  where
    go : HasNoUnused os ⊎ (length (trim_sweep (length os) os) < length os) → ((xs : List Op) → length xs ≤ size → (n : ℕ) × HasNoUnused (trims n xs)) → (n : ℕ) × HasNoUnused (trims n os)
    go (inl none) later = (0, none)
    go (inr less) later = let rest = later (trim_sweep (length os) os) (omega (arith, less, few)) in (suc rest.0, rest.1)

pub trimmed_before : (os os1 after : List Op) → TrimsInto os os1 → IsTrimmed os1 after → IsTrimmed os after
trimmed_before os os1 after first trimmed =
    let all = all_trimmed (length os) os (omega arith) in
    let swept : TrimsInto os (trims all.0 os) = sweeps_trim all.0 os in
    let both : TrimsInto os after = trims_then os os1 after first (subst (TrimsInto os1) (sym trimmed.is) (sweeps_trim trimmed.sweeps os1)) in
    record {
      sweeps = all.0;
      is = trims_agree both.count swept.count os after (trims all.0 os) both.leads swept.leads trimmed.none_left all.1;
      none_left = trimmed.none_left;
    }
