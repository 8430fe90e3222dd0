-- The names of ports and registers, one after another.
use Rattle.std.proofs.Common.{◌≡◌, ℕ, zero, suc, ◌+◌, ◌<◌, ◌≤◌, Bool, true, false, cond, List, [], ◌∷◌, ◌++◌, length, drop, get_or, map, filter, Some, None, slice_get, refl, sym, ap, ◌∙◌, arith, append_assoc}
use Rattle.std.proofs.lemmas.List.{append-nil, drop_more}
use Rattle.hw_model.specs.Types.{Name}
use Rattle.hw_model.specs.Design.{Port, Op, is_register}
use Rattle.ir_store.specs.Designs.{port_of}
use Rattle.ir_store.specs.declared.design.Port.{Port as Stored}
use Rattle.module_names.specs.ModuleNames.{register_name, register_names}

-- what is left from the element at a position on
left_from : {A : Type 0} (xs : List A) (i : ℕ) (x : A) → slice_get xs i ≡ Some x → drop i xs ≡ x ∷ drop (suc i) xs
left_from [] zero x at = let clash : None ≡ Some x = at in cc
left_from [] (suc i) x at = let clash : None ≡ Some x = at in cc
left_from (y ∷ xs) zero x at = let same : Some y ≡ Some x = at in let one : y ≡ x = cc in ap (λ z. z ∷ xs) one
left_from (y ∷ xs) (suc i) x at = left_from xs i x at

-- nothing is left past the end
nothing_left : {A : Type 0} (xs : List A) (i : ℕ) → length xs ≤ i → drop i xs ≡ []
nothing_left [] zero past = refl
nothing_left [] (suc i) past = refl
nothing_left (x ∷ xs) zero past = absurd (omega (arith, past))
nothing_left (x ∷ xs) (suc i) past = nothing_left xs i (omega (arith, past))

-- what was made and what is to come are the whole, as before
pub one_made : {A : Type 0} (made more whole rest left : List A) (x : A) → more ≡ made ++ x ∷ [] → rest ≡ x ∷ left → made ++ rest ≡ whole → more ++ left ≡ whole
one_made made more whole rest left x is next all =
    ap (λ xs. xs ++ left) is ∙ append_assoc made (x ∷ []) left ∙ sym (ap (λ ys. made ++ ys) next) ∙ all

-- nothing is to come
pub all_made : {A : Type 0} (made whole rest : List A) → rest ≡ [] → made ++ rest ≡ whole → made ≡ whole
all_made made whole rest none all = sym (append-nil made) ∙ sym (ap (λ ys. made ++ ys) none) ∙ all

-- ---- ports

-- the names of ports
abbrev pub names_of : List Stored → List Name
names_of ps = map (λ (p : Port). p.name) (map port_of ps)

pub port_next : (ps : List Stored) (i : ℕ) (p : Stored) (n : Name) → i < length ps → p ≡ get_or ps i p → n ≡ p.name → names_of (drop i ps) ≡ n ∷ names_of (drop (i + 1) ps)
port_next ps i p n less at is = ap names_of (drop_more ps i p less) ∙ ap (λ m. m ∷ names_of (drop (i + 1) ps)) (sym (is ∙ ap (λ (q : Stored). q.name) at))

pub ports_end : (ps : List Stored) (i : ℕ) → length ps ≤ i → names_of (drop i ps) ≡ []
ports_end ps i past = ap names_of (nothing_left ps i past)

-- ---- registers

-- a register gives its name
register_more : (o : Op) (os : List Op) (b : Bool) → is_register o ≡ b → register_names (o ∷ os) ≡ cond b (register_name o.name ∷ register_names os) (register_names os)
register_more o os b is =
    ap (λ c. map (λ (p : Op). register_name p.name) (cond c (o ∷ filter is_register os) (filter is_register os))) is ∙ go b
  where
    go : (c : Bool) → map (λ (p : Op). register_name p.name) (cond c (o ∷ filter is_register os) (filter is_register os))
        ≡ cond c (register_name o.name ∷ register_names os) (register_names os)
    go true = refl
    go false = refl

pub register_next : (os : List Op) (i : ℕ) (o : Op) → slice_get os i ≡ Some o → is_register o ≡ true → register_names (drop i os) ≡ register_name o.name ∷ register_names (drop (i + 1) os)
register_next os i o at is = let e : suc i ≡ i + 1 = omega arith in
    ap register_names (left_from os i o at) ∙ register_more o (drop (suc i) os) true is ∙ ap (λ k. register_name o.name ∷ register_names (drop k os)) e

pub no_register_next : (os : List Op) (i : ℕ) (o : Op) → slice_get os i ≡ Some o → is_register o ≡ false → register_names (drop i os) ≡ register_names (drop (i + 1) os)
no_register_next os i o at is = let e : suc i ≡ i + 1 = omega arith in
    ap register_names (left_from os i o at) ∙ register_more o (drop (suc i) os) false is ∙ ap (λ k. register_names (drop k os)) e

pub registers_end : (os : List Op) (i : ℕ) → length os ≤ i → register_names (drop i os) ≡ []
registers_end os i past = ap register_names (nothing_left os i past)
