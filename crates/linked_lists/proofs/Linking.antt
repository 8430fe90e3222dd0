-- Linked ids: what a change of links does to the list of ids that they lead through.
use Rattle.std.proofs.Common.{◌≡◌, ℕ, zero, suc, ◌<◌, ◌≤◌, Bool, true, false, cond, nat_eq, List, [], ◌∷◌, ◌++◌, length, get_or, set, take, drop, refl, ap, sym, ◌∙◌, arith, length-set}
use Rattle.std.proofs.lemmas.List.{get_or-set_other}
use Rattle.std.proofs.lemmas.Bool.{eqb-false}
use Rattle.linked_lists.specs.declared.links.Link.{Link}
use Rattle.linked_lists.specs.Ids.{times, put_at}
use Rattle.linked_lists.specs.Links.{none, no_link, new_link, free_link, link_at, next_at, is_live_at, walk, first_of, last_of, IsLinked, with_next, with_prev, linked_in, linked_out}
use Rattle.linked_lists.proofs.IdLemmas.{times-append, get_or-put_at_same, get_or-put_at_other}

-- ---- one link

pub length-with_next : (i n : ℕ) (ls : List Link) → length (with_next i n ls) ≡ length ls
length-with_next i n [] = refl
length-with_next zero n (l ∷ ls) = refl
length-with_next (suc i) n (l ∷ ls) = ap suc (length-with_next i n ls)

pub length-with_prev : (i n : ℕ) (ls : List Link) → length (with_prev i n ls) ≡ length ls
length-with_prev i n [] = refl
length-with_prev zero n (l ∷ ls) = refl
length-with_prev (suc i) n (l ∷ ls) = ap suc (length-with_prev i n ls)

pub next_here : (i n : ℕ) (ls : List Link) (p q : ℕ) → link_at ls i ≡ new_link p q → link_at (with_next i n ls) i ≡ new_link p n
next_here i n [] p q e = cc (ap (λ (l : Link). l.live) e)
next_here zero n (l ∷ ls) p q e = rw e refl
next_here (suc i) n (l ∷ ls) p q e = next_here i n ls p q e

pub prev_here : (i n : ℕ) (ls : List Link) (p q : ℕ) → link_at ls i ≡ new_link p q → link_at (with_prev i n ls) i ≡ new_link n q
prev_here i n [] p q e = cc (ap (λ (l : Link). l.live) e)
prev_here zero n (l ∷ ls) p q e = rw e refl
prev_here (suc i) n (l ∷ ls) p q e = prev_here i n ls p q e

pub next_other : (i j n : ℕ) (ls : List Link) → (j ≡ i → ⊥) → link_at (with_next i n ls) j ≡ link_at ls j
next_other i j n [] h = refl
next_other zero zero n (l ∷ ls) h = absurd (h refl)
next_other zero (suc j) n (l ∷ ls) h = refl
next_other (suc i) zero n (l ∷ ls) h = refl
next_other (suc i) (suc j) n (l ∷ ls) h = next_other i j n ls (λ e. h (ap suc e))

pub prev_other : (i j n : ℕ) (ls : List Link) → (j ≡ i → ⊥) → link_at (with_prev i n ls) j ≡ link_at ls j
prev_other i j n [] h = refl
prev_other zero zero n (l ∷ ls) h = absurd (h refl)
prev_other zero (suc j) n (l ∷ ls) h = refl
prev_other (suc i) zero n (l ∷ ls) h = refl
prev_other (suc i) (suc j) n (l ∷ ls) h = prev_other i j n ls (λ e. h (ap suc e))

-- the id after another one does not change where what comes before changes
pub next_kept : (i j n : ℕ) (ls : List Link) → next_at (with_prev i n ls) j ≡ next_at ls j
next_kept i j n [] = refl
next_kept zero zero n (l ∷ ls) = refl
next_kept zero (suc j) n (l ∷ ls) = refl
next_kept (suc i) zero n (l ∷ ls) = refl
next_kept (suc i) (suc j) n (l ∷ ls) = next_kept i j n ls

pub live_next : (i j n : ℕ) (ls : List Link) → is_live_at (with_next i n ls) j ≡ is_live_at ls j
live_next i j n [] = refl
live_next zero zero n (l ∷ ls) = refl
live_next zero (suc j) n (l ∷ ls) = refl
live_next (suc i) zero n (l ∷ ls) = refl
live_next (suc i) (suc j) n (l ∷ ls) = live_next i j n ls

pub live_prev : (i j n : ℕ) (ls : List Link) → is_live_at (with_prev i n ls) j ≡ is_live_at ls j
live_prev i j n [] = refl
live_prev zero zero n (l ∷ ls) = refl
live_prev zero (suc j) n (l ∷ ls) = refl
live_prev (suc i) zero n (l ∷ ls) = refl
live_prev (suc i) (suc j) n (l ∷ ls) = live_prev i j n ls

-- ---- ids among others

-- an id that is among none of these is another one than each of them
pub apart : (v w : ℕ) (xs : List ℕ) → 0 < times v xs → times w xs ≡ 0 → v ≡ w → ⊥
apart v w xs h n e = omega (arith, h, (rw (sym e) at n))

pub first_there : (x : ℕ) (xs : List ℕ) → 0 < times x (x ∷ xs)
first_there x xs = go (nat_eq x x) refl
  where
    go : (b : Bool) → nat_eq x x ≡ b → 0 < cond b (suc (times x xs)) (times x xs)
    go true t = omega arith
    go false t = absurd (eqb-false x x t refl)

pub rest_there : (v x : ℕ) (xs : List ℕ) → times v xs ≤ times v (x ∷ xs)
rest_there v x xs = go (nat_eq x v)
  where
    go : (b : Bool) → times v xs ≤ cond b (suc (times v xs)) (times v xs)
    go true = omega arith
    go false = omega arith

-- the first of ids that stand once each does not stand in the others
pub first_once : (x : ℕ) (xs : List ℕ) → ((v : ℕ) → times v (x ∷ xs) ≤ 1) → times x xs ≡ 0
first_once x xs once = go (nat_eq x x) refl (once x)
  where
    go : (b : Bool) → nat_eq x x ≡ b → cond b (suc (times x xs)) (times x xs) ≤ 1 → times x xs ≡ 0
    go true t h = omega (arith, h)
    go false t h = absurd (eqb-false x x t refl)

pub rest_once : (x : ℕ) (xs : List ℕ) → ((v : ℕ) → times v (x ∷ xs) ≤ 1) → (v : ℕ) → times v xs ≤ 1
rest_once x xs once v = omega (arith, once v, rest_there v x xs)

pub last_there : (x : ℕ) (xs : List ℕ) → 0 < times (last_of x xs) (x ∷ xs)
last_there x [] = first_there x []
last_there x (y ∷ ys) = omega (arith, last_there y ys, rest_there (last_of y ys) x (y ∷ ys))

pub last-append : (a : ℕ) (xs : List ℕ) (y : ℕ) (ys : List ℕ) → last_of a (xs ++ y ∷ ys) ≡ last_of y ys
last-append a [] y ys = refl
last-append a (x ∷ xs) y ys = last-append x xs y ys

-- the last of some ids is none of those that come after them
pub last_apart : (n : ℕ) (xs ys : List ℕ) → ((v : ℕ) → times v (xs ++ ys) ≤ 1) → times n (xs ++ ys) ≡ 0 → times (last_of n xs) ys ≡ 0
last_apart n [] ys once h = h
last_apart n (x ∷ xs) ys once h = omega (arith, last_there x xs, times-append (last_of x xs) (x ∷ xs) ys, once (last_of x xs))

-- the first of some ids is none of those that come before them
pub first_apart : (n : ℕ) (xs ys : List ℕ) → ((v : ℕ) → times v (xs ++ ys) ≤ 1) → times n (xs ++ ys) ≡ 0 → times (first_of ys n) xs ≡ 0
first_apart n xs [] once h = omega (arith, times-append n xs [], h)
first_apart n xs (y ∷ ys) once h = omega (arith, first_there y ys, times-append y xs (y ∷ ys), once y)

-- ---- lists of linked ids

pub linked_walk : (ls : List Link) (a : ℕ) (xs : List ℕ) (z : ℕ) → IsLinked ls a xs z → walk ls (length xs) (first_of xs z) ≡ xs
linked_walk ls a [] z h = refl
linked_walk ls a (x ∷ xs) z h =
    let e : next_at ls x ≡ first_of xs z = ap (λ (l : Link). l.next) h.0 in
    rw e (ap (λ ys. x ∷ ys) (linked_walk ls x xs z h.1))

pub linked_same : (ls ms : List Link) (a : ℕ) (xs : List ℕ) (z : ℕ) → ((v : ℕ) → 0 < times v xs → link_at ms v ≡ link_at ls v) → IsLinked ls a xs z → IsLinked ms a xs z
linked_same ls ms a [] z same h = tt
linked_same ls ms a (x ∷ xs) z same h = (same x (first_there x xs) ∙ h.0, linked_same ls ms x xs z (λ v t. same v (omega (arith, t, rest_there v x xs))) h.1)

pub walk_same : (ls ms : List Link) (n i : ℕ) → ((v : ℕ) → 0 < times v (walk ls n i) → next_at ms v ≡ next_at ls v) → walk ms n i ≡ walk ls n i
walk_same ls ms zero i same = refl
walk_same ls ms (suc n) i same =
    let e = same i (first_there i (walk ls n (next_at ls i))) in
    rw e (ap (λ ys. i ∷ ys) (walk_same ls ms n (next_at ls i) (λ v t. same v (omega (arith, t, rest_there v i (walk ls n (next_at ls i)))))))

pub linked_prefix : (ls : List Link) (a : ℕ) (xs ys : List ℕ) (z : ℕ) → IsLinked ls a (xs ++ ys) z → IsLinked ls a xs (first_of ys z)
linked_prefix ls a [] ys z h = tt
linked_prefix ls a (x ∷ []) ys z h = (h.0, tt)
linked_prefix ls a (x ∷ y ∷ xs) ys z h = (h.0, linked_prefix ls x (y ∷ xs) ys z h.1)

pub linked_back : (ls : List Link) (a : ℕ) (xs ys : List ℕ) (z : ℕ) → IsLinked ls a (xs ++ ys) z → IsLinked ls (last_of a xs) ys z
linked_back ls a [] ys z h = h
linked_back ls a (x ∷ xs) ys z h = linked_back ls x xs ys z h.1

pub linked_join : (ls : List Link) (a : ℕ) (xs ys : List ℕ) (z : ℕ) → IsLinked ls a xs (first_of ys z) → IsLinked ls (last_of a xs) ys z → IsLinked ls a (xs ++ ys) z
linked_join ls a [] ys z h k = k
linked_join ls a (x ∷ []) ys z h k = (h.0, k)
linked_join ls a (x ∷ y ∷ xs) ys z h k = (h.0, linked_join ls x (y ∷ xs) ys z h.1 k)

-- another id comes after the last
pub new_end : (ls : List Link) (a : ℕ) (xs : List ℕ) (z n : ℕ) → ((v : ℕ) → times v xs ≤ 1) → IsLinked ls a xs z → IsLinked (with_next (last_of a xs) n ls) a xs n
new_end ls a [] z n once h = tt
new_end ls a (x ∷ []) z n once h = (next_here x n ls a z h.0, tt)
new_end ls a (x ∷ y ∷ xs) z n once h =
    let other : times x (y ∷ xs) ≡ 0 = first_once x (y ∷ xs) once in
    let e : link_at (with_next (last_of y xs) n ls) x ≡ link_at ls x = next_other (last_of y xs) x n ls (λ e. apart (last_of y xs) x (y ∷ xs) (last_there y xs) other (sym e)) in
    (e ∙ h.0, new_end ls x (y ∷ xs) z n (rest_once x (y ∷ xs) once) h.1)

-- another id comes before the first
pub new_start : (ls : List Link) (a : ℕ) (xs : List ℕ) (z n : ℕ) → ((v : ℕ) → times v xs ≤ 1) → IsLinked ls a xs z → IsLinked (with_prev (first_of xs z) n ls) n xs z
new_start ls a [] z n once h = tt
new_start ls a (x ∷ xs) z n once h = (
  prev_here x n ls a (first_of xs z) h.0,
  linked_same ls (with_prev x n ls) x xs z (λ v t. prev_other x v n ls (apart v x xs t (first_once x xs once))) h.1,
)

-- ---- an id is put in, or taken out

prefix_once : (xs ys : List ℕ) → ((v : ℕ) → times v (xs ++ ys) ≤ 1) → (v : ℕ) → times v xs ≤ 1
prefix_once xs ys once v = omega (arith, once v, times-append v xs ys)

back_once : (xs ys : List ℕ) → ((v : ℕ) → times v (xs ++ ys) ≤ 1) → (v : ℕ) → times v ys ≤ 1
back_once xs ys once v = omega (arith, once v, times-append v xs ys)

pub linked_more : (ls : List Link) (xs ys : List ℕ) (id : ℕ) → id ≤ length ls → (id ≡ none → ⊥) → ((v : ℕ) → times v (xs ++ ys) ≤ 1) → times none (xs ++ ys) ≡ 0 → times id (xs ++ ys) ≡ 0 →
    IsLinked ls none (xs ++ ys) none → IsLinked (linked_in id (last_of none xs) (first_of ys none) ls) none (xs ++ id ∷ ys) none
linked_more ls xs ys id room real once bare new h =
    let p = last_of none xs in
    let q = first_of ys none in
    let l1 = put_at id (new_link p q) ls in
    let l2 = with_next p id l1 in
    let l3 = with_prev q id l2 in
    let new_x : times id xs ≡ 0 = omega (arith, new, times-append id xs ys) in
    let new_y : times id ys ≡ 0 = omega (arith, new, times-append id xs ys) in
    let p_not : id ≡ p → ⊥ = last_new xs id new_x real in
    let q_not : id ≡ q → ⊥ = first_new ys id new_y real in
    let p_y : times p ys ≡ 0 = last_apart none xs ys once bare in
    let q_x : times q xs ≡ 0 = first_apart none xs ys once bare in
    let x1 : IsLinked l1 none xs q = linked_same ls l1 none xs q (λ v t. get_or-put_at_other id v (new_link p q) no_link ls room (apart v id xs t new_x)) (linked_prefix ls none xs ys none h) in
    let y1 : IsLinked l1 p ys none = linked_same ls l1 p ys none (λ v t. get_or-put_at_other id v (new_link p q) no_link ls room (apart v id ys t new_y)) (linked_back ls none xs ys none h) in
    let i1 : link_at l1 id ≡ new_link p q = get_or-put_at_same id (new_link p q) no_link ls room in
    let x2 : IsLinked l2 none xs id = new_end l1 none xs q id (prefix_once xs ys once) x1 in
    let y2 : IsLinked l2 p ys none = linked_same l1 l2 p ys none (λ v t. next_other p v id l1 (apart v p ys t p_y)) y1 in
    let i2 : link_at l2 id ≡ new_link p q = next_other p id id l1 p_not ∙ i1 in
    let x3 : IsLinked l3 none xs id = linked_same l2 l3 none xs id (λ v t. prev_other q v id l2 (apart v q xs t q_x)) x2 in
    let y3 : IsLinked l3 id ys none = new_start l2 p ys none id (back_once xs ys once) y2 in
    let i3 : link_at l3 id ≡ new_link p q = prev_other q id id l2 q_not ∙ i2 in
    linked_join l3 none xs (id ∷ ys) none x3 (i3, y3)
  where
    last_new : (xs : List ℕ) (id : ℕ) → times id xs ≡ 0 → (id ≡ none → ⊥) → id ≡ last_of none xs → ⊥
    last_new [] id n r e = r e
    last_new (x ∷ xs) id n r e = apart (last_of x xs) id (x ∷ xs) (last_there x xs) n (sym e)

    first_new : (ys : List ℕ) (id : ℕ) → times id ys ≡ 0 → (id ≡ none → ⊥) → id ≡ first_of ys none → ⊥
    first_new [] id n r e = r e
    first_new (y ∷ ys) id n r e = apart y id (y ∷ ys) (first_there y ys) n (sym e)

pub linked_less : (ls : List Link) (xs ys : List ℕ) (id free : ℕ) → ((v : ℕ) → times v (xs ++ id ∷ ys) ≤ 1) → times none (xs ++ id ∷ ys) ≡ 0 →
    IsLinked ls none (xs ++ id ∷ ys) none → IsLinked (linked_out id (last_of none xs) (first_of ys none) free ls) none (xs ++ ys) none
linked_less ls xs ys id free once bare h =
    let p = last_of none xs in
    let q = first_of ys none in
    let l1 = with_next p q ls in
    let l2 = with_prev q p l1 in
    let l3 = set l2 id (free_link free) in
    let here : 1 ≤ times id (id ∷ ys) = first_there id ys in
    let id_x : times id xs ≡ 0 = omega (arith, once id, here, times-append id xs (id ∷ ys)) in
    let id_y : times id ys ≡ 0 = first_once id ys (back_once xs (id ∷ ys) once) in
    let once_2 : (v : ℕ) → times v (xs ++ ys) ≤ 1 = λ v. omega (arith, once v, times-append v xs (id ∷ ys), times-append v xs ys, rest_there v id ys) in
    let no_2 : times none (xs ++ ys) ≡ 0 = omega (arith, bare, times-append none xs (id ∷ ys), times-append none xs ys, rest_there none id ys) in
    let p_y : times p ys ≡ 0 = last_apart none xs ys once_2 no_2 in
    let q_x : times q xs ≡ 0 = first_apart none xs ys once_2 no_2 in
    let x0 : IsLinked ls none xs id = linked_prefix ls none xs (id ∷ ys) none h in
    let y0 : IsLinked ls id ys none = (linked_back ls none xs (id ∷ ys) none h).1 in
    let x1 : IsLinked l1 none xs q = new_end ls none xs id q (prefix_once xs ys once_2) x0 in
    let y1 : IsLinked l1 id ys none = linked_same ls l1 id ys none (λ v t. next_other p v q ls (apart v p ys t p_y)) y0 in
    let x2 : IsLinked l2 none xs q = linked_same l1 l2 none xs q (λ v t. prev_other q v p l1 (apart v q xs t q_x)) x1 in
    let y2 : IsLinked l2 p ys none = new_start l1 id ys none p (back_once xs ys once_2) y1 in
    let x3 : IsLinked l3 none xs q = linked_same l2 l3 none xs q (λ v t. get_or-set_other l2 id v (free_link free) no_link (apart v id xs t id_x)) x2 in
    let y3 : IsLinked l3 p ys none = linked_same l2 l3 p ys none (λ v t. get_or-set_other l2 id v (free_link free) no_link (apart v id ys t id_y)) y2 in
    linked_join l3 none xs ys none x3 y3

-- ---- the position of an id among linked ones

pub take_all_end : (xs : List ℕ) → (take (length xs) xs ≡ xs) × (drop (length xs) xs ≡ [])
take_all_end [] = (refl, refl)
take_all_end (x ∷ xs) = let r = take_all_end xs in (ap (λ ys. x ∷ ys) r.0, r.1)

-- ---- what is written

pub with_next_set : (i n : ℕ) (ls : List Link) (l : Link) → i < length ls → l ≡ get_or ls i l → set ls i (record { prev = l.prev; next = n; live = l.live }) ≡ with_next i n ls
with_next_set i n [] l h e = absurd (omega arith)
with_next_set zero n (x ∷ xs) l h e = ap (λ (y : Link). record { prev = y.prev; next = n; live = y.live } ∷ xs) e
with_next_set (suc i) n (x ∷ xs) l h e = ap (λ ys. x ∷ ys) (with_next_set i n xs l (omega arith) e)

pub with_prev_set : (i n : ℕ) (ls : List Link) (l : Link) → i < length ls → l ≡ get_or ls i l → set ls i (record { prev = n; next = l.next; live = l.live }) ≡ with_prev i n ls
with_prev_set i n [] l h e = absurd (omega arith)
with_prev_set zero n (x ∷ xs) l h e = ap (λ (y : Link). record { prev = n; next = y.next; live = y.live } ∷ xs) e
with_prev_set (suc i) n (x ∷ xs) l h e = ap (λ ys. x ∷ ys) (with_prev_set i n xs l (omega arith) e)

pub with_next_past : (i n : ℕ) (ls : List Link) → length ls ≤ i → ls ≡ with_next i n ls
with_next_past i n [] h = refl
with_next_past zero n (x ∷ xs) h = absurd (omega arith)
with_next_past (suc i) n (x ∷ xs) h = ap (λ ys. x ∷ ys) (with_next_past i n xs (omega arith))

pub with_prev_past : (i n : ℕ) (ls : List Link) → length ls ≤ i → ls ≡ with_prev i n ls
with_prev_past i n [] h = refl
with_prev_past zero n (x ∷ xs) h = absurd (omega arith)
with_prev_past (suc i) n (x ∷ xs) h = ap (λ ys. x ∷ ys) (with_prev_past i n xs (omega arith))

pub length-linked_in : (id p q : ℕ) (ls : List Link) → length (linked_in id p q ls) ≡ length (put_at id (new_link p q) ls)
length-linked_in id p q ls = length-with_prev q id (with_next p id (put_at id (new_link p q) ls)) ∙ length-with_next p id (put_at id (new_link p q) ls)

pub length-linked_out : (id p q f : ℕ) (ls : List Link) → length (linked_out id p q f ls) ≡ length ls
length-linked_out id p q f ls = length-set (with_prev q p (with_next p q ls)) id (free_link f) ∙ (length-with_prev q p (with_next p q ls) ∙ length-with_next p q ls)
