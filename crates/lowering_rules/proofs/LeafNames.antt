-- The names of the elements of an array, one after another.
use Rattle.std.proofs.Common.{◌≡◌, ℕ, suc, List, ◌∷◌, ◌++◌, decimal, sym, ap, ◌∙◌, append_assoc}
use Rattle.hw_model.specs.Types.{Name}
use Rattle.aggregate_laws.specs.Aggregates.{element_names}

pub elements_more : (inner : Name → List Name) (name part : Name) (now next whole : List Name) (n k : ℕ) → n ≡ suc k → part ≡ name ++ 95 ∷ decimal k → next ≡ now ++ inner part
    → now ++ element_names inner name n ≡ whole → next ++ element_names inner name k ≡ whole
elements_more inner name part now next whole n k one named pushed is =
    ap (λ xs. xs ++ element_names inner name k) (pushed ∙ ap (λ p. now ++ inner p) named)
    ∙ append_assoc now (inner (name ++ 95 ∷ decimal k)) (element_names inner name k)
    ∙ ap (λ m. now ++ element_names inner name m) (sym one)
    ∙ is
