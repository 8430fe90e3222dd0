-- The names of the leaves of an operation by their numbers, and operations that have these names.
use Rattle.std.proofs.Common.{◌≡◌, ℕ, suc, List, [], ◌∷◌, map, slice_get, refl, ap₂, option_map}
use Rattle.hw_model.specs.Types.{Name, HwType}
use Rattle.hw_model.specs.Value.{nth_type}
use Rattle.hw_model.specs.Design.{OpResult, Op}
use Rattle.aggregate_laws.specs.OperationRules.{for_each}
use Rattle.aggregate_laws.specs.Aggregates.{name_at, names_from, own_names}
use Rattle.lowering_rules.specs.Names.{names_of, own_name_list}

names_same : (name : Name) (xs : List OpResult) (i : ℕ)
    → name_at (names_of name (option_map (λ (x : OpResult). x.type) (slice_get xs 0))) i ≡ names_from name (nth_type (map (λ (x : OpResult). x.type) xs) 0) i
names_same [] xs i = refl
names_same (c ∷ name) [] i = refl
names_same (c ∷ name) (x ∷ xs) i = refl

pub own_name_same : (o : Op) (i : ℕ) → name_at (own_name_list o) i ≡ own_names o i
own_name_same o i = names_same o.name o.results i

-- an operation for each of some types, where both make the same
pub each_same : (f g : ℕ → HwType → Op) (i : ℕ) (ts : List HwType) → ((j : ℕ) (t : HwType) → f j t ≡ g j t) → for_each f i ts ≡ for_each g i ts
each_same f g i [] same = refl
each_same f g i (t ∷ ts) same = ap₂ (λ o os. o ∷ os) (same i t) (each_same f g (suc i) ts same)
