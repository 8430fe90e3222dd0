-- Words cut by types, and joined.
use Rattle.std.proofs.Common.{◌≡◌, ℕ, zero, suc, ◌+◌, ◌*◌, List, [], ◌∷◌, ◌++◌, Bool, false, length, map, take, drop, flat_map, slice_get, Some, refl, sym, ap, ap₂, ◌∙◌, arith, append_assoc, zero-add, zero-mul, suc-mul, add-zero, suc-add}
use Rattle.std.proofs.lemmas.List.{map-append, drop-drop}
use Rattle.wiring.specs.Lists.{total}
use Rattle.wiring.proofs.Totals.{total-append}
use Rattle.bits_core.specs.Word.{Word, first}
use Rattle.hw_model.specs.Types.{HwType, FieldTypes, width, width_of_fields, list_copies, leaves, leaves_of_fields}
use Rattle.hw_model.specs.Types.HwType.{int, clock, array, struct}
use Rattle.hw_model.specs.Types.FieldTypes.{no_fields, field}
use Rattle.hw_model.specs.Value.{concat_words}
use Rattle.hw_model.specs.Design.{Ref}
use Rattle.aggregate_laws.specs.Leaves.{in_row}
use Rattle.aggregate_laws.specs.Lowered.{whole}

-- ---- widths

-- how many bits a list of types has
abbrev pub widths : List HwType → ℕ
widths ts = total (map width ts)

pub widths-append : (ts us : List HwType) → widths (ts ++ us) ≡ widths ts + widths us
widths-append ts us = ap total (map-append width ts us) ∙ total-append (map width ts) (map width us)

widths_copies : (n : ℕ) (ts : List HwType) → widths (list_copies n ts) ≡ n * widths ts
widths_copies zero ts = sym (zero-mul (widths ts))
widths_copies (suc n) ts =
    let rest : widths (list_copies n ts) ≡ n * widths ts = widths_copies n ts in
    omega (arith, widths-append ts (list_copies n ts), suc-mul n (widths ts))

mutual
  -- a type has as many bits as its leaves
  pub leaves_width : (t : HwType) → widths (leaves t) ≡ width t
  leaves_width (int w) = add-zero w
  leaves_width clock = refl
  leaves_width (array n t) = widths_copies n (leaves t) ∙ ap (λ w. n * w) (leaves_width t)
  leaves_width (struct fs) = fields_width fs

  fields_width : (fs : FieldTypes) → widths (leaves_of_fields fs) ≡ width_of_fields fs
  fields_width no_fields = refl
  fields_width (field name t fs) = widths-append (leaves t) (leaves_of_fields fs) ∙ ap₂ (λ a b. a + b) (leaves_width t) (fields_width fs)

-- ---- joined words

pub concat-append : (xs ys : List Word) → concat_words (xs ++ ys) ≡ concat_words xs ++ concat_words ys
concat-append [] ys = refl
concat-append (x ∷ xs) ys = ap (λ z. x ++ z) (concat-append xs ys) ∙ sym (append_assoc x (concat_words xs) (concat_words ys))

-- what stands for values, joined, is their words joined
pub whole_flat_map : (parts : Ref → List Ref) (τ : Ref → Word) (rs : List Ref)
    → concat_words (map τ (flat_map parts rs)) ≡ concat_words (map (whole parts τ) rs)
whole_flat_map parts τ [] = refl
whole_flat_map parts τ (r ∷ rs) =
    ap concat_words (map-append τ (parts r) (flat_map parts rs))
    ∙ concat-append (map τ (parts r)) (map τ (flat_map parts rs))
    ∙ ap (λ x. whole parts τ r ++ x) (whole_flat_map parts τ rs)

drop_none : (n : ℕ) → drop {A = Bool} n [] ≡ []
drop_none zero = refl
drop_none (suc n) = refl

-- first bits of a word, and those after them
pub first_parts : (n m : ℕ) (x : Word) → first n x ++ first m (drop n x) ≡ first (n + m) x
first_parts zero m x = ap (λ k. first k x) (sym (zero-add m))
first_parts (suc n) m [] =
    ap (λ z. false ∷ z) (ap (λ y. first n [] ++ first m y) (sym (drop_none n)) ∙ first_parts n m []) ∙ ap (λ k. first k []) (sym (suc-add n m))
first_parts (suc n) m (b ∷ x) = ap (λ z. b ∷ z) (first_parts n m x) ∙ ap (λ k. first k (b ∷ x)) (sym (suc-add n m))

-- the first bits of a word are its first bits by types, joined
pub joined_rule : (ts : List HwType) (x : Word) (g : ℕ → Word) (s : ℕ)
    → ((i : ℕ) (t : HwType) → slice_get ts i ≡ Some t → g (s + i) ≡ first (width t) (drop (widths (take i ts)) x))
    → concat_words (in_row g s (length ts)) ≡ first (widths ts) x
joined_rule [] x g s each = refl
joined_rule (t ∷ ts) x g s each =
    ap₂ (λ a b. a ++ b) (ap g (sym (let e : s + 0 ≡ s = omega arith in e)) ∙ each 0 t refl)
    (joined_rule ts (drop (width t) x) g (suc s)
    (λ i u is. ap g (let e : suc s + i ≡ s + suc i = omega arith in e) ∙ each (suc i) u is
    ∙ ap (first (width u)) (further i)))
    ∙ first_parts (width t) (widths ts) x
  where
    further : (i : ℕ) → drop (width t + widths (take i ts)) x ≡ drop (widths (take i ts)) (drop (width t) x)
    further i = sym (drop-drop (widths (take i ts)) (width t) x)
