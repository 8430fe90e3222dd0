-- Steps of loops that add items.
use Rattle.std.proofs.Common.{◌≡◌, ℕ, ◌+◌, ◌<◌, ◌≤◌, List, [], ◌∷◌, ◌++◌, map, length, drop, get_or, refl, sym, ap, ◌∙◌, append_assoc}
use Rattle.std.proofs.lemmas.List.{drop_more, append-nil, drop_all}
use Rattle.hw_model.specs.TypeViews.{NamedType, fields_of}
use Rattle.hw_model.specs.Kinds.{Literal}
use Rattle.hw_model.specs.KindViews.{literals_of}
use Rattle.hw_model.specs.Design.{Attribute}
use Rattle.ir_store.specs.DictionaryViews.{attributes_of}
use Rattle.std.specs.Prelude.{codes}
use Rattle.wiring.proofs.Joined.{three_added}
use Rattle.mlir_printer.specs.Commas.{comma_bytes, items_from}
use Rattle.mlir_printer.specs.Strings.{name_bytes}
use Rattle.mlir_printer.specs.Types.{type_bytes, fields_from}
use Rattle.mlir_printer.specs.Attributes.{attribute_bytes, attributes_from}
use Rattle.printing_laws.specs.Numbers.{shown_literal, shown_literals}
use Rattle.mlir_printer.specs.Literals.{literal_bytes, literals_from}

-- two parts added, one after the other
pub added : (out one two a b rest whole : List ℕ) → out ++ (a ++ (b ++ rest)) ≡ whole → one ≡ out ++ a → two ≡ one ++ b → two ++ rest ≡ whole
added out one two a b rest whole h p q =
    ap (λ x. x ++ rest) (q ∙ ap (λ x. x ++ b) p) ∙ append_assoc (out ++ a) b rest ∙ append_assoc out a (b ++ rest) ∙ h

-- one part added
pub added_one : (out one a rest whole : List ℕ) → out ++ (a ++ rest) ≡ whole → one ≡ out ++ a → one ++ rest ≡ whole
added_one out one a rest whole h p = ap (λ x. x ++ rest) p ∙ append_assoc out a rest ∙ h

-- the item at a position is added
pub items_step : {A : Type 0} (f : A → List ℕ) (m n : ℕ) (xs : List A) (i : ℕ) (x : A) (out one two whole : List ℕ) → n ≡ m + 1 → i < length xs → x ≡ get_or xs i x
    → out ++ items_from f m (drop i xs) ≡ whole → one ≡ out ++ comma_bytes m → two ≡ one ++ f x → two ++ items_from f n (drop (i + 1) xs) ≡ whole
items_step f m n xs i x out one two whole e lt at h p q =
    let d : drop i xs ≡ x ∷ drop (i + 1) xs = drop_more xs i x lt ∙ ap (λ y. y ∷ drop (i + 1) xs) (sym at) in
    ap (λ k. two ++ items_from f k (drop (i + 1) xs)) e
    ∙ added out one two (comma_bytes m) (f x) (items_from f (m + 1) (drop (i + 1) xs)) whole
    (sym (ap (λ l. out ++ items_from f m l) d) ∙ h) p q

-- nothing is left
pub items_end : {A : Type 0} (f : A → List ℕ) (m : ℕ) (xs : List A) (i : ℕ) (out whole : List ℕ) → length xs ≤ i
    → out ++ items_from f m (drop i xs) ≡ whole → out ≡ whole
items_end f m xs i out whole le h = sym (append-nil out) ∙ sym (ap (λ l. out ++ items_from f m l) (drop_all i xs le)) ∙ h

-- the part at a position is added, where parts stand one after another
pub parts_step : {A : Type 0} (f : A → List ℕ) (F : List A → List ℕ) (xs : List A) (i : ℕ) (x : A) (out one whole : List ℕ)
    → ((y : A) (ys : List A) → F (y ∷ ys) ≡ f y ++ F ys) → i < length xs → x ≡ get_or xs i x
    → out ++ F (drop i xs) ≡ whole → one ≡ out ++ f x → one ++ F (drop (i + 1) xs) ≡ whole
parts_step f F xs i x out one whole more lt at h p =
    let d : drop i xs ≡ x ∷ drop (i + 1) xs = drop_more xs i x lt ∙ ap (λ y. y ∷ drop (i + 1) xs) (sym at) in
    added_one out one (f x) (F (drop (i + 1) xs)) whole (sym (ap (λ l. out ++ l) (ap F d ∙ more x (drop (i + 1) xs))) ∙ h) p

pub parts_end : {A : Type 0} (F : List A → List ℕ) (xs : List A) (i : ℕ) (out whole : List ℕ) → F [] ≡ [] → length xs ≤ i
    → out ++ F (drop i xs) ≡ whole → out ≡ whole
parts_end F xs i out whole none le h = sym (append-nil out) ∙ sym (ap (λ l. out ++ l) (ap F (drop_all i xs le) ∙ none)) ∙ h

-- items that are seen by a view
pub items_map : {A B : Type 0} (f : B → List ℕ) (g : A → B) (i : ℕ) (xs : List A) → items_from (λ x. f (g x)) i xs ≡ items_from f i (map g xs)
items_map f g i [] = refl
items_map f g i (x ∷ xs) = ap (λ r. comma_bytes i ++ (f (g x) ++ r)) (items_map f g (i + 1) xs)

-- fields, attributes and constants as items
pub fields_items : {A : Type 0} (g : A → NamedType) (i : ℕ) (xs : List A)
    → items_from (λ x. name_bytes (g x).name ++ (codes ": " ++ type_bytes (g x).type)) i xs ≡ fields_from i (fields_of (map g xs))
fields_items g i [] = refl
fields_items g i (x ∷ xs) = ap (λ r. comma_bytes i ++ ((name_bytes (g x).name ++ (codes ": " ++ type_bytes (g x).type)) ++ r)) (fields_items g (i + 1) xs)

pub attributes_items : {A : Type 0} (g : A → Attribute) (i : ℕ) (xs : List A)
    → items_from (λ x. attribute_bytes (g x)) i xs ≡ attributes_from i (attributes_of (map g xs))
attributes_items g i [] = refl
attributes_items g i (x ∷ xs) = ap (λ r. comma_bytes i ++ (attribute_bytes (g x) ++ r)) (attributes_items g (i + 1) xs)

pub literals_items : {A : Type 0} (g : A → Literal) (i : ℕ) (xs : List A)
    → items_from (λ x. literal_bytes (shown_literal (g x))) i xs ≡ literals_from i (shown_literals (literals_of (map g xs)))
literals_items g i [] = refl
literals_items g i (x ∷ xs) = ap (λ r. comma_bytes i ++ (literal_bytes (shown_literal (g x)) ++ r)) (literals_items g (i + 1) xs)

-- items, all of them added, as they are seen by a view
pub items_all : {A B : Type 0} (f : B → List ℕ) (g : A → B) (m n : ℕ) (xs : List A) (i : ℕ) (out end : List ℕ) → length xs ≤ i
    → end ++ items_from (λ x. f (g x)) m (drop i xs) ≡ out ++ items_from (λ x. f (g x)) n xs → end ≡ out ++ items_from f n (map g xs)
items_all f g m n xs i out end le h =
    items_end (λ x. f (g x)) m xs i end (out ++ items_from (λ x. f (g x)) n xs) le h ∙ ap (λ r. out ++ r) (items_map f g n xs)

-- five parts added
pub five : (out one two thr fou end a b c d e : List ℕ) → one ≡ out ++ a → two ≡ one ++ b → thr ≡ two ++ c → fou ≡ thr ++ d → end ≡ fou ++ e
    → end ≡ out ++ (a ++ (b ++ (c ++ (d ++ e))))
five out one two thr fou end a b c d e p q r s t =
    t ∙ ap (λ x. x ++ e) (s ∙ ap (λ x. x ++ d) (three_added out one two thr a b c p q r)) ∙ flat out a b c d e
  where
    flat : (o v w x y z : List ℕ) → ((o ++ (v ++ (w ++ x))) ++ y) ++ z ≡ o ++ (v ++ (w ++ (x ++ (y ++ z))))
    flat o v w x y z = simp append_assoc

-- eight parts added
pub eight : (out one two thr fou fiv six sev end a b c d e f g h : List ℕ) → one ≡ out ++ a → two ≡ one ++ b → thr ≡ two ++ c → fou ≡ thr ++ d → fiv ≡ fou ++ e
    → six ≡ fiv ++ f → sev ≡ six ++ g → end ≡ sev ++ h → end ≡ out ++ (a ++ (b ++ (c ++ (d ++ (e ++ (f ++ (g ++ h)))))))
eight out one two thr fou fiv six sev end a b c d e f g h p q r s t u v w =
    three_added fiv six sev end f g h u v w ∙ ap (λ x. x ++ (f ++ (g ++ h))) (five out one two thr fou fiv a b c d e p q r s t) ∙ flat out a b c d e (f ++ (g ++ h))
  where
    flat : (o v w x y z r : List ℕ) → (o ++ (v ++ (w ++ (x ++ (y ++ z))))) ++ r ≡ o ++ (v ++ (w ++ (x ++ (y ++ (z ++ r)))))
    flat o v w x y z r = simp append_assoc
