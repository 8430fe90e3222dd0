-- Items that a loop moves from one list to another.
use Rattle.std.proofs.Common.{◌≡◌, List, [], ◌∷◌, ◌++◌, map, ◌∙◌, sym, ap, append_assoc}
use Rattle.std.proofs.lemmas.List.{map-append, append-nil}

module _ {A B C : Type 0} (f : A → C) (g : B → C) where
  -- one more is moved
  pub moved_step : (done more : List A) (a : A) (b : B) (rest next : List B) (all : List C) → more ≡ done ++ a ∷ [] → f a ≡ g b → rest ≡ b ∷ next
      → map f done ++ map g rest ≡ all → map f more ++ map g next ≡ all
  moved_step done more a b rest next all m e r h =
      ap (λ xs. map f xs ++ map g next) m ∙ ap (λ xs. xs ++ map g next) (map-append f done (a ∷ [])) ∙ append_assoc (map f done) (f a ∷ []) (map g next)
      ∙ ap (λ c. map f done ++ c ∷ map g next) e ∙ ap (λ xs. map f done ++ map g xs) (sym r) ∙ h

  -- all are moved
  pub moved_end : (done : List A) (rest : List B) (all : List C) → rest ≡ [] → map f done ++ map g rest ≡ all → map f done ≡ all
  moved_end done rest all r h = sym (append-nil (map f done)) ∙ ap (λ xs. map f done ++ map g xs) (sym r) ∙ h
