-- Definitions one after another: what a step of a loop over ports, operations or names adds.
use Rattle.std.proofs.Common.{◌≡◌, ℕ, suc, ◌+◌, ◌<◌, Bool, List, [], ◌∷◌, ◌++◌, map, drop, length, get_or, refl, ap, sym, ◌∙◌, append_assoc}
use Rattle.std.specs.Prelude.{is_some}
use Rattle.std.specs.Borrow.{Bor}
use Rattle.std.proofs.lemmas.List.{drop_more, get_or_default}
use Rattle.hw_model.specs.Types.{Name}
use Rattle.hw_model.specs.TypeViews.{field_of, fields_of}
use Rattle.hw_model.specs.Sound.{field_list}
use Rattle.hw_model.specs.declared.types.Field.{Field}
use Rattle.mlir_reader.specs.Resolving.{Meanings, Definition, with_definition, with_definitions, names_from, marks}
use Rattle.mlir_reader.specs.Resolving.Defined.{are_results}

pub definitions_append : (m : Meanings) (ds es : List Definition) → with_definitions m (ds ++ es) ≡ with_definitions (with_definitions m ds) es
definitions_append m [] es = refl
definitions_append m (d ∷ ds) es = definitions_append (with_definition m d) ds es

-- what is left of a list begins with the item at the index
pub rest_at : {X : Type 0} (xs : List X) (i : ℕ) (x : X) → i < length xs → x ≡ get_or xs i x → drop i xs ≡ x ∷ drop (i + 1) xs
rest_at xs i x h g = drop_more xs i x h ∙ ap (λ y. y ∷ drop (i + 1) xs) (sym g)

-- the name of a result
abbrev pub named : ℕ → ℕ → Name → Definition
named i k name = record { name = name; defined = are_results i k 1 }

pub names_step : (m n : Meanings) (names : List (Bor (List ℕ))) (position i : ℕ) (name : Bor (List ℕ)) → i < length names → name ≡ get_or names i name
    → n ≡ with_definition m (named position (i + 1) name.now)
    → with_definitions n (names_from position (i + 1 + 1) (map (λ (b : Bor (List ℕ)). b.now) (drop (i + 1) names))) ≡ with_definitions m (names_from position (i + 1) (map (λ (b : Bor (List ℕ)). b.now) (drop i names)))
names_step m n names position i name h g e = rw (rest_at names i name h g, e) refl

pub marks_step : (m n : Meanings) (names : List (Bor (List ℕ))) (position i : ℕ) (name : Bor (List ℕ)) (found more : List Bool) (again : Bool) → i < length names → name ≡ get_or names i name
    → n ≡ with_definition m (named position (i + 1) name.now) → again ≡ is_some (m name.now) → more ≡ found ++ again ∷ []
    → more ++ marks n (names_from position (i + 1 + 1) (map (λ (b : Bor (List ℕ)). b.now) (drop (i + 1) names))) ≡ found ++ marks m (names_from position (i + 1) (map (λ (b : Bor (List ℕ)). b.now) (drop i names)))
marks_step m n names position i name found more again h g e a l = rw (rest_at names i name h g, l, e, a, append_assoc) refl

-- the same, where the name is read at a default
pub names_step_at : (m n : Meanings) (names : List (Bor (List ℕ))) (position i : ℕ) (d : Bor (List ℕ)) → i < length names
    → n ≡ with_definition m (named position (i + 1) (get_or names i d).now)
    → with_definitions n (names_from position (i + 1 + 1) (map (λ (b : Bor (List ℕ)). b.now) (drop (i + 1) names))) ≡ with_definitions m (names_from position (i + 1) (map (λ (b : Bor (List ℕ)). b.now) (drop i names)))
names_step_at m n names position i d h e = names_step m n names position i (get_or names i d) h (get_or_default names i d (get_or names i d) h) e

pub marks_step_at : (m n : Meanings) (names : List (Bor (List ℕ))) (position i : ℕ) (d : Bor (List ℕ)) (found more : List Bool) (again : Bool) → i < length names
    → n ≡ with_definition m (named position (i + 1) (get_or names i d).now) → again ≡ is_some (m (get_or names i d).now) → more ≡ found ++ again ∷ []
    → more ++ marks n (names_from position (i + 1 + 1) (map (λ (b : Bor (List ℕ)). b.now) (drop (i + 1) names))) ≡ found ++ marks m (names_from position (i + 1) (map (λ (b : Bor (List ℕ)). b.now) (drop i names)))
marks_step_at m n names position i d found more again h e a l =
    marks_step m n names position i (get_or names i d) found more again h (get_or_default names i d (get_or names i d) h) e a l

-- ---- fields

pub fields_counted : (fs : List Field) → length (field_list (fields_of (map field_of fs))) ≡ length fs
fields_counted [] = refl
fields_counted (f ∷ fs) = ap suc (fields_counted fs)
