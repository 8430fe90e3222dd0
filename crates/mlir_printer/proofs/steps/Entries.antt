-- Entries of dictionaries, and the one that is put among them.
use Rattle.std.proofs.Common.{◌≡◌, ℕ, zero, suc, ◌+◌, ◌<◌, Bool, true, false, cond, List, [], ◌∷◌, ◌++◌, map, length, take, drop, get_or, refl, sym, ap, ◌∙◌, arith, append_assoc, length-drop, ◌-◌}
use Rattle.std.specs.Prelude.{codes}
use Rattle.std.specs.Ordering.{nat_cmp, is_lt}
use Rattle.std.specs.Cmp.Lexicographic.{slice_cmp}
use Rattle.std.proofs.lemmas.List.{drop_more, take_all}
use Rattle.hw_model.specs.Types.{Name}
use Rattle.hw_model.specs.Design.{Entry}
use Rattle.mlir_printer.specs.Commas.{comma_bytes, items_from, commas}
use Rattle.mlir_printer.specs.Attributes.{entry_bytes, dictionary_bytes, slot_of_name}
use Rattle.mlir_printer.specs.Texts.{name_entry, named_entries}

is_before : Entry → Bool
is_before e = is_lt (slice_cmp nat_cmp e.key (codes "name"))

-- one more entry stands before
pub position_step : {A : Type 0} (view : A → Entry) (xs : List A) (i : ℕ) (x : A) (whole : ℕ) → i < length xs → x ≡ get_or xs i x
    → i + slot_of_name (map view (drop i xs)) ≡ whole → is_lt (slice_cmp nat_cmp (view x).key (codes "name")) ≡ true → i + 1 + slot_of_name (map view (drop (i + 1) xs)) ≡ whole
position_step view xs i x whole lt at h t =
    let d : drop i xs ≡ x ∷ drop (i + 1) xs = drop_more xs i x lt ∙ ap (λ y. y ∷ drop (i + 1) xs) (sym at) in
    let p : slot_of_name (map view (drop i xs)) ≡ suc (slot_of_name (map view (drop (i + 1) xs))) =
    ap (λ l. slot_of_name (map view l)) d ∙ ap (λ b. cond b (suc (slot_of_name (map view (drop (i + 1) xs)))) 0) t in
    omega (arith, h, p)

-- no more entries stand before
pub position_here : {A : Type 0} (view : A → Entry) (xs : List A) (i : ℕ) (x : A) (whole : ℕ) → i < length xs → x ≡ get_or xs i x
    → i + slot_of_name (map view (drop i xs)) ≡ whole → is_lt (slice_cmp nat_cmp (view x).key (codes "name")) ≡ false → i ≡ whole
position_here view xs i x whole lt at h t =
    let d : drop i xs ≡ x ∷ drop (i + 1) xs = drop_more xs i x lt ∙ ap (λ y. y ∷ drop (i + 1) xs) (sym at) in
    let p : slot_of_name (map view (drop i xs)) ≡ 0 =
    ap (λ l. slot_of_name (map view l)) d ∙ ap (λ b. cond b (suc (slot_of_name (map view (drop (i + 1) xs)))) 0) t in
    omega (arith, h, p)

-- the name's entry stands after those before its position
pub put_items : (name : Name) (m : ℕ) (es : List Entry) (f : Entry → List ℕ)
    → items_from f m (named_entries name es)
    ≡ items_from f m (take (slot_of_name es) es) ++ (comma_bytes (m + slot_of_name es) ++ (f (name_entry name) ++ items_from f (m + slot_of_name es + 1) (drop (slot_of_name es) es)))
put_items name m [] f =
    let e : m ≡ m + 0 = omega arith in ap (λ k. comma_bytes k ++ (f (name_entry name) ++ [])) e
put_items name m (x ∷ xs) f = go (is_lt (slice_cmp nat_cmp x.key (codes "name"))) (put_items name (m + 1) xs f)
  where
    go : (b : Bool)
        → items_from f (m + 1) (named_entries name xs)
        ≡ items_from f (m + 1) (take (slot_of_name xs) xs) ++ (comma_bytes (m + 1 + slot_of_name xs) ++ (f (name_entry name) ++ items_from f (m + 1 + slot_of_name xs + 1) (drop (slot_of_name xs) xs)))
        → items_from f m (cond b (x ∷ named_entries name xs) (name_entry name ∷ x ∷ xs))
        ≡ items_from f m (take (cond b (suc (slot_of_name xs)) 0) (x ∷ xs)) ++ (comma_bytes (m + cond b (suc (slot_of_name xs)) 0)
        ++ (f (name_entry name) ++ items_from f (m + cond b (suc (slot_of_name xs)) 0 + 1) (drop (cond b (suc (slot_of_name xs)) 0) (x ∷ xs))))
    go true r =
        let e : m + 1 + slot_of_name xs ≡ m + suc (slot_of_name xs) = omega arith in
        let rest : ℕ → List ℕ = λ k. comma_bytes k ++ (f (name_entry name) ++ items_from f (k + 1) (drop (slot_of_name xs) xs)) in
        ap (λ t. comma_bytes m ++ (f x ++ t)) (r ∙ ap (λ k. items_from f (m + 1) (take (slot_of_name xs) xs) ++ rest k) e)
        ∙ sym (append_assoc (comma_bytes m) (f x ++ items_from f (m + 1) (take (slot_of_name xs) xs)) (rest (m + suc (slot_of_name xs)))
        ∙ ap (λ t. comma_bytes m ++ t) (append_assoc (f x) (items_from f (m + 1) (take (slot_of_name xs) xs)) (rest (m + suc (slot_of_name xs)))))
    go false r =
        let e : m ≡ m + 0 = omega arith in ap (λ k. comma_bytes k ++ (f (name_entry name) ++ items_from f (k + 1) (x ∷ xs))) e

-- a dictionary with the name's entry
pub dictionary_named : (name : Name) (es : List Entry) → dictionary_bytes (codes " ") (named_entries name es) ≡ codes " {" ++ (commas entry_bytes (named_entries name es) ++ codes "}")
unfolding dictionary_bytes
dictionary_named name [] = refl
dictionary_named name (x ∷ xs) = go (is_lt (slice_cmp nat_cmp x.key (codes "name")))
  where
    go : (b : Bool) → dictionary_bytes (codes " ") (cond b (x ∷ named_entries name xs) (name_entry name ∷ x ∷ xs))
        ≡ codes " {" ++ (commas entry_bytes (cond b (x ∷ named_entries name xs) (name_entry name ∷ x ∷ xs)) ++ codes "}")
    go true = refl
    go false = refl

-- the parts of that dictionary, added one after another
pub named_added : (name : Name) (es : List Entry) (out s0 s1 s2 s3 s4 end : List ℕ)
    → s0 ≡ out ++ codes " {" → s1 ≡ s0 ++ items_from entry_bytes 0 (take (slot_of_name es) es) → s2 ≡ s1 ++ comma_bytes (slot_of_name es)
    → s3 ≡ s2 ++ entry_bytes (name_entry name) → s4 ≡ s3 ++ items_from entry_bytes (slot_of_name es + 1) (drop (slot_of_name es) es) → end ≡ s4 ++ codes "}"
    → end ≡ out ++ dictionary_bytes (codes " ") (named_entries name es)
named_added name es out s0 s1 s2 s3 s4 end p0 p1 p2 p3 p4 p5 =
    let A = items_from entry_bytes 0 (take (slot_of_name es) es) in
    let B = comma_bytes (slot_of_name es) in
    let C = entry_bytes (name_entry name) in
    let D = items_from entry_bytes (slot_of_name es + 1) (drop (slot_of_name es) es) in
    let z : 0 + slot_of_name es ≡ slot_of_name es = omega arith in
    let whole : commas entry_bytes (named_entries name es) ≡ A ++ (B ++ (C ++ D)) =
    put_items name 0 es entry_bytes ∙ ap (λ k. A ++ (comma_bytes k ++ (C ++ items_from entry_bytes (k + 1) (drop (slot_of_name es) es)))) z in
    let t : end ≡ ((((out ++ codes " {") ++ A) ++ B) ++ C) ++ D ++ codes "}" =
    p5 ∙ ap (λ s. s ++ codes "}") (p4 ∙ ap (λ s. s ++ D) (p3 ∙ ap (λ s. s ++ C) (p2 ∙ ap (λ s. s ++ B) (p1 ∙ ap (λ s. s ++ A) p0)))) in
    t ∙ tail out A B C D ∙ ap (λ r. out ++ (codes " {" ++ (r ++ codes "}"))) (sym whole) ∙ ap (λ r. out ++ r) (sym (dictionary_named name es))
  where
    tail : (o a b c d : List ℕ) → ((((o ++ codes " {") ++ a) ++ b) ++ c) ++ d ++ codes "}" ≡ o ++ (codes " {" ++ ((a ++ (b ++ (c ++ d))) ++ codes "}"))
    tail o a b c d = simp append_assoc

pub map_take : {A B : Type 0} (f : A → B) (n : ℕ) (xs : List A) → map f (take n xs) ≡ take n (map f xs)
map_take f zero xs = refl
map_take f (suc n) [] = refl
map_take f (suc n) (x ∷ xs) = ap (λ r. f x ∷ r) (map_take f n xs)

pub map_drop : {A B : Type 0} (f : A → B) (n : ℕ) (xs : List A) → map f (drop n xs) ≡ drop n (map f xs)
map_drop f zero xs = refl
map_drop f (suc n) [] = refl
map_drop f (suc n) (x ∷ xs) = map_drop f n xs

pub rest_all : {A : Type 0} (p : ℕ) (xs : List A) → take (length xs - p) (drop p xs) ≡ drop p xs
rest_all p xs = take_all (length xs - p) (drop p xs) (omega (arith, length-drop p xs))
