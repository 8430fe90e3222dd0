-- Names that stand for one thing each are found again.
use Rattle.std.proofs.Common.{◌≡◌, ℕ, ◌+◌, replicate, Bool, true, false, cond, List, [], ◌∷◌, ◌++◌, map, refl, ap, ◌∙◌, sym, subst, inl, inr, ◌⊎◌}
use Rattle.std.specs.Prelude.{nat_eq, Option, Some, None, is_some}
use Rattle.std.specs.Cmp.Lexicographic.{pointwise}
use Rattle.std.proofs.lemmas.Cmp.{nat_list_eq_equiv}
use Rattle.std.proofs.lemmas.List.{replicate-append-replicate}
use Rattle.hw_model.specs.Types.{Name}
use Rattle.hw_model.specs.Design.{same_name}
use Rattle.hw_model.specs.Equality.{name_self}
use Rattle.fresh_names.specs.Fresh.{is_taken}
use Rattle.fresh_names.proofs.Distinct.{AreFresh}
use Rattle.mlir_reader.specs.Resolving.{Meanings, Defined, Definition, known_or, with_definition, with_definitions, no_meaning, mark_count, marks}

-- one of a list
abbrev pub Among : {A : Type 0} → A → List A → Type 0
Among x [] = ⊥
Among x (y ∷ ys) = (x ≡ y) ⊎ Among x ys

pub among_left : {A : Type 0} (x : A) (xs ys : List A) → Among x xs → Among x (xs ++ ys)
among_left x [] ys h = absurd h
among_left x (z ∷ xs) ys (inl e) = inl e
among_left x (z ∷ xs) ys (inr h) = inr (among_left x xs ys h)

pub among_right : {A : Type 0} (x : A) (xs ys : List A) → Among x ys → Among x (xs ++ ys)
among_right x [] ys h = h
among_right x (z ∷ xs) ys h = inr (among_right x xs ys h)

-- each name stands for nothing before its definition
abbrev pub AreNew : Meanings → List Definition → Type 0
AreNew m [] = Unit {0}
AreNew m (d ∷ ds) = (m d.name ≡ None) × AreNew (with_definition m d) ds

-- each name stands for what its definition says
abbrev pub Finds : Meanings → List Definition → Type 0
Finds m ds = (d : Definition) → Among d ds → m d.name ≡ Some d.defined

pub finds_left : (m : Meanings) (ds es : List Definition) → Finds m (ds ++ es) → Finds m ds
finds_left m ds es f d h = f d (among_left d ds es h)

pub finds_right : (m : Meanings) (ds es : List Definition) → Finds m (ds ++ es) → Finds m es
finds_right m ds es f d h = f d (among_right d ds es h)

pub new_left : (m : Meanings) (ds es : List Definition) → AreNew m (ds ++ es) → AreNew m ds
new_left m [] es h = tt
new_left m (d ∷ ds) es h = (h.0, new_left (with_definition m d) ds es h.1)

pub new_right : (m : Meanings) (ds es : List Definition) → AreNew m (ds ++ es) → AreNew (with_definitions m ds) es
new_right m [] es h = h
new_right m (d ∷ ds) es h = new_right (with_definition m d) ds es h.1

-- what is known stays
stays : (m : Meanings) (ds : List Definition) (q : Name) (x : Defined) → m q ≡ Some x → with_definitions m ds q ≡ Some x
stays m [] q x e = e
stays m (d ∷ ds) q x e = stays (with_definition m d) ds q x (ap (λ o. known_or o (cond (same_name q d.name) (Some d.defined) None)) e)

defined_here : (m : Meanings) (d : Definition) → m d.name ≡ None → with_definition m d d.name ≡ Some d.defined
defined_here m d e =
    ap (λ o. known_or o (cond (same_name d.name d.name) (Some d.defined) None)) e ∙ ap (λ b. cond b (Some d.defined) None) (name_self d.name)

-- new names are found
pub found : (m : Meanings) (ds : List Definition) → AreNew m ds → Finds (with_definitions m ds) ds
found m [] new d h = absurd h
found m (x ∷ ds) new d (inl e) =
    subst (λ y. with_definitions (with_definition m x) ds y.name ≡ Some y.defined) (sym e)
    (stays (with_definition m x) ds x.name x.defined (defined_here m x new.0))
found m (x ∷ ds) new d (inr h) = found (with_definition m x) ds new.1 d h

-- no new name was defined earlier
-- how many marks definitions have
abbrev pub marks_in : List Definition → ℕ
marks_in [] = 0
marks_in (d ∷ ds) = mark_count d.defined + marks_in ds

pub no_marks : (m : Meanings) (ds : List Definition) → AreNew m ds → marks m ds ≡ replicate (marks_in ds) false
no_marks m [] new = refl
no_marks m (d ∷ ds) new =
    ap (λ b. replicate (mark_count d.defined) b ++ marks (with_definition m d) ds) (ap (λ (o : Option Defined). is_some o) new.0)
    ∙ ap (λ bs. replicate (mark_count d.defined) false ++ bs) (no_marks (with_definition m d) ds new.1)
    ∙ replicate-append-replicate (mark_count d.defined) (marks_in ds) false

-- ---- names that are given once are new

-- what is not taken stands for nothing
abbrev pub StandsForNone : Meanings → List Name → Type 0
StandsForNone m taken = (q : Name) → is_taken taken q ≡ false → m q ≡ None

taken_prefix : (ts : List Name) (n q : Name) → is_taken (ts ++ n ∷ []) q ≡ false → is_taken ts q ≡ false
taken_prefix [] n q h = refl
taken_prefix (t ∷ ts) n q h = go (pointwise nat_eq t q) h (taken_prefix ts n q)
  where
    go : (b : Bool) → cond b true (is_taken (ts ++ n ∷ []) q) ≡ false → (is_taken (ts ++ n ∷ []) q ≡ false → is_taken ts q ≡ false)
        → cond b true (is_taken ts q) ≡ false
    go true g r = g
    go false g r = r g

taken_last : (ts : List Name) (n q : Name) → is_taken (ts ++ n ∷ []) q ≡ false → pointwise nat_eq n q ≡ false
taken_last [] n q h = go (pointwise nat_eq n q) h
  where
    go : (b : Bool) → cond b true false ≡ false → b ≡ false
    go true g = g
    go false g = refl
taken_last (t ∷ ts) n q h = go (pointwise nat_eq t q) h (taken_last ts n q)
  where
    go : (b : Bool) → cond b true (is_taken (ts ++ n ∷ []) q) ≡ false → (is_taken (ts ++ n ∷ []) q ≡ false → pointwise nat_eq n q ≡ false)
        → pointwise nat_eq n q ≡ false
    go true g r = cc
    go false g r = r g

one_more : (m : Meanings) (taken : List Name) (d : Definition) → StandsForNone m taken → StandsForNone (with_definition m d) (taken ++ d.name ∷ [])
one_more m taken d none q h =
    let other : same_name q d.name ≡ false = nat_list_eq_equiv.symm q d.name ∙ taken_last taken d.name q h in
    ap (λ o. known_or o (cond (same_name q d.name) (Some d.defined) None)) (none q (taken_prefix taken d.name q h))
    ∙ ap (λ b. known_or None (cond b (Some d.defined) None)) other

names_new : (m : Meanings) (taken : List Name) (ds : List Definition) → StandsForNone m taken → AreFresh taken (map (λ (d : Definition). d.name) ds)
    → AreNew m ds
names_new m taken [] none fresh = tt
names_new m taken (d ∷ ds) none fresh = (none d.name fresh.0, names_new (with_definition m d) (taken ++ d.name ∷ []) ds (one_more m taken d none) fresh.1)

pub all_new : (ds : List Definition) → AreFresh [] (map (λ (d : Definition). d.name) ds) → AreNew no_meaning ds
all_new ds fresh = names_new no_meaning [] ds (λ q h. refl) fresh
