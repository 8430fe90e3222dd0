-- Entries that are put in order by their keys.
use Rattle.std.proofs.Common.{◌≡◌, Bool, true, false, cond, List, [], ◌∷◌, refl, ap, ◌∙◌, sym}
use Rattle.std.proofs.Common.{Ordering, Less, Equal, Greater}
use Rattle.std.proofs.lemmas.Slice.Eq.{bytes_eq-Decides}
use Rattle.std.proofs.lemmas.Map.Text.{is_eq-slice_cmp}
use Rattle.std.specs.Prelude.{⊤}
use Rattle.std.specs.Ordering.{nat_cmp, is_lt, is_eq, ordering_reverse}
use Rattle.std.specs.Cmp.Lexicographic.{slice_cmp}
use Rattle.std.proofs.lemmas.Bool.{false≢true}
use Rattle.std.proofs.lemmas.Cmp.{nat_list_cmp_total}
use Rattle.hw_model.specs.Types.{Name}
use Rattle.hw_model.specs.Design.{Entry, same_name}
use Rattle.hw_model.specs.Equality.{name_self}
use Rattle.stored_form.specs.Bytes.{Each}
use Rattle.stored_form.specs.Dictionaries.{AreInOrder}
use Rattle.mlir_reader.specs.Resolving.{put_entry}

abbrev pub is_less : Entry → Entry → Bool
is_less a b = is_lt (slice_cmp nat_cmp a.key b.key)

pub in_order_rest : (e : Entry) (es : List Entry) → AreInOrder (e ∷ es) → AreInOrder es
in_order_rest e [] h = tt
in_order_rest e (f ∷ es) h = h.1

-- ---- one more entry

abbrev StartsAbove : Entry → List Entry → Type 0
StartsAbove f [] = ⊤
StartsAbove f (g ∷ gs) = is_less f g ≡ true

in_order_cons : (f : Entry) (es : List Entry) → StartsAbove f es → AreInOrder es → AreInOrder (f ∷ es)
in_order_cons f [] h up = tt
in_order_cons f (g ∷ gs) h up = (h, up)

starts_above : (f : Entry) (es : List Entry) → AreInOrder (f ∷ es) → StartsAbove f es
starts_above f [] up = tt
starts_above f (g ∷ gs) up = up.0

put_above : (f e : Entry) (es : List Entry) → StartsAbove f es → is_less f e ≡ true → StartsAbove f (put_entry e es)
put_above f e [] h l = l
put_above f e (g ∷ gs) h l = go (is_less g e)
  where
    go : (b : Bool) → StartsAbove f (cond b (g ∷ put_entry e gs) (e ∷ g ∷ gs))
    go true = h
    go false = l

-- of two keys that differ one is less
either_less : (a b : Name) → is_lt (slice_cmp nat_cmp a b) ≡ false → same_name b a ≡ false → is_lt (slice_cmp nat_cmp b a) ≡ true
either_less a b h g = go (slice_cmp nat_cmp a b) refl
  where
    go : (o : Ordering) → slice_cmp nat_cmp a b ≡ o → is_lt (slice_cmp nat_cmp b a) ≡ true
    go Less e = absurd (false≢true (sym h ∙ ap is_lt e))
    go Equal e =
        let s : a ≡ b = (bytes_eq-Decides a b).0 (sym (is_eq-slice_cmp a b) ∙ ap is_eq e) in
        absurd (false≢true (sym g ∙ ap (λ x. same_name b x) s ∙ name_self b))
    go Greater e = ap is_lt (nat_list_cmp_total.antisymm b a ∙ ap ordering_reverse e)

pub put_in_order : (e : Entry) (es : List Entry) → AreInOrder es → Each (λ (x : Entry). same_name e.key x.key ≡ false) es
    → AreInOrder (put_entry e es)
put_in_order e [] up other = tt
put_in_order e (f ∷ es) up other = go (is_less f e) refl (put_in_order e es (in_order_rest f es up) other.1)
  where
    go : (b : Bool) → is_less f e ≡ b → AreInOrder (put_entry e es) → AreInOrder (cond b (f ∷ put_entry e es) (e ∷ f ∷ es))
    go true l r = in_order_cons f (put_entry e es) (put_above f e es (starts_above f es up) l) r
    go false l r = (either_less f.key e.key l other.0, up)

pub each_put : (P : Entry → Type 0) (e : Entry) (es : List Entry) → P e → Each P es → Each P (put_entry e es)
each_put P e [] h g = (h, tt)
each_put P e (f ∷ es) h g = go (is_less f e) (each_put P e es h g.1)
  where
    go : (b : Bool) → Each P (put_entry e es) → Each P (cond b (f ∷ put_entry e es) (e ∷ f ∷ es))
    go true r = (g.0, r)
    go false r = (h, g)
