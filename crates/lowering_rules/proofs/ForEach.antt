-- An operation for each of some types, one after another.
use Rattle.std.proofs.Common.{◌≡◌, ℕ, suc, List, [], ◌∷◌, ◌++◌, ap₂, ◌∙◌, append_assoc}
use Rattle.hw_model.specs.Types.{HwType}
use Rattle.hw_model.specs.Design.{Op}
use Rattle.aggregate_laws.specs.OperationRules.{for_each}

-- the operation of one type more
pub for_each_more : (each : ℕ → HwType → Op) (old after whole : List Op) (n m : ℕ) (t : HwType) (ts : List HwType)
    → after ≡ old ++ each n t ∷ [] → m ≡ suc n → old ++ for_each each n (t ∷ ts) ≡ whole → after ++ for_each each m ts ≡ whole
for_each_more each old after whole n m t ts put next is =
    ap₂ (λ os j. os ++ for_each each j ts) put next ∙ append_assoc old (each n t ∷ []) (for_each each (suc n) ts) ∙ is
