-- The order of ids: what putting one in and taking one out keeps.
use Rattle.std.proofs.Common.{◌≡◌, ℕ, zero, suc, ◌+◌, ◌-◌, ◌<◌, ◌≤◌, ◌^◌, Bool, true, false, cond, nat_eq, List, [], ◌∷◌, ◌++◌, length, refl, ap, sym, ◌∙◌, arith, length-append}
use Rattle.std.specs.Prelude.{max, Contains}
use Rattle.std.proofs.lemmas.List.{get_or-set_same, get_or-set_other}
use Rattle.std.proofs.lemmas.Bool.{eqb-true, eqb-false, ne_eqb}
use Rattle.linked_lists.specs.declared.links.Link.{Link}
use Rattle.ir_store.specs.declared.order.Order.{Order}
use Rattle.linked_lists.specs.Ids.{times, put_at}
use Rattle.linked_lists.specs.Links.{none, no_link, new_link, free_link, next_at, is_live_at, walk, first_of, last_of, IsLinked, with_next, with_prev, linked_in, linked_out, IsOrder}
use Rattle.linked_lists.proofs.IdLemmas.{times-append, times_contained, get_or-put_at_other, length-put_at}
use Rattle.linked_lists.proofs.Linking.{length-with_next, length-with_prev, next_other, next_kept, live_next, live_prev, apart, first_there, last_there, last-append, linked_walk, walk_same}
use Rattle.linked_lists.proofs.Linking.{linked_more, linked_less, length-linked_in, length-linked_out}

-- a number that is no id equals none that is there
other_none : (x n : ℕ) (xs : List ℕ) → times n xs ≡ 0 → 0 < times x xs → nat_eq x n ≡ false
other_none x n xs bare there = go (nat_eq x n) refl
  where
    go : (b : Bool) → nat_eq x n ≡ b → nat_eq x n ≡ false
    go true t = absurd (apart x n xs there bare (eqb-true x n t))
    go false t = t

pub walk_first : (ls : List Link) (n i x : ℕ) (xs : List ℕ) → walk ls n i ≡ x ∷ xs → i ≡ x
walk_first ls zero i x xs e = absurd (cc)
walk_first ls (suc n) i x xs e = cc

pub length-walk : (ls : List Link) (n i : ℕ) → length (walk ls n i) ≡ n
length-walk ls zero i = refl
length-walk ls (suc n) i = ap suc (length-walk ls n (next_at ls i))

-- ---- an id that is put in between two parts

-- the last of the ids
end_more : (xs ys : List ℕ) (id last : ℕ) → times none (xs ++ ys) ≡ 0 → last ≡ last_of none (xs ++ ys) → cond (nat_eq (first_of ys none) none) id last ≡ last_of none (xs ++ id ∷ ys)
end_more xs [] id last bare e = sym (last-append none xs id [])
end_more xs (y ∷ ys) id last bare e =
    let t : nat_eq y none ≡ false = other_none y none (xs ++ y ∷ ys) bare (omega (arith, first_there y ys, times-append y xs (y ∷ ys))) in
    rw t (e ∙ (last-append none xs y ys ∙ sym (last-append none xs id (y ∷ ys))))

-- the first of the ids
start_more : (xs ys : List ℕ) (id first : ℕ) → times none (xs ++ ys) ≡ 0 → ((x : ℕ) (zs : List ℕ) → xs ++ ys ≡ x ∷ zs → first ≡ x) →
    cond (nat_eq (last_of none xs) none) id first ≡ first_of (xs ++ id ∷ ys) none
start_more [] ys id first bare e = refl
start_more (x ∷ xs) ys id first bare e =
    let t : nat_eq (last_of x xs) none ≡ false = other_none (last_of x xs) none (x ∷ xs ++ ys) bare (omega (arith, last_there x xs, times-append (last_of x xs) (x ∷ xs) ys)) in
    rw t (e x (xs ++ ys) refl)

-- an id is put in, where the ids that are then live and free stand once each
pub order_more : (ls : List Link) (xs ys free free_2 : List ℕ) (last id : ℕ) → IsOrder ls (xs ++ ys) free last → id ≤ length ls → id < none → times id (xs ++ ys) ≡ 0 →
    ((v : ℕ) → times v ((xs ++ id ∷ ys) ++ free_2) ≤ 1) → ((v : ℕ) → length (put_at id (new_link 0 0) ls) ≤ v → times v ((xs ++ id ∷ ys) ++ free_2) ≡ 0) →
    IsOrder (linked_in id (last_of none xs) (first_of ys none) ls) (xs ++ id ∷ ys) free_2 (cond (nat_eq (first_of ys none) none) id last)
order_more ls xs ys free free_2 last id ok room small new once_2 below_2 =
    let p = last_of none xs in
    let q = first_of ys none in
    let size : length (linked_in id p q ls) ≡ length (put_at id (new_link 0 0) ls) = omega (arith, length-linked_in id p q ls, length-put_at id (new_link p q) ls room, length-put_at id (new_link 0 0) ls room) in
    let once : (v : ℕ) → times v (xs ++ ys) ≤ 1 = λ v. omega (arith, ok.once v, times-append v (xs ++ ys) free) in
    let real : times none (xs ++ ys) ≡ 0 = omega (arith, ok.below none (omega (arith, ok.few)), times-append none (xs ++ ys) free) in
    record {
      few = omega (arith, size, length-put_at id (new_link 0 0) ls room, ok.few, small);
      linked = linked_more ls xs ys id room (λ e. omega (arith, e, small)) once real new ok.linked;
      end = end_more xs ys id last real ok.end;
      once = once_2;
      below = λ v h. below_2 v (omega (arith, h, size));
      marks = λ v gone.
          let not_id : v ≡ id → ⊥ = λ e. omega (arith, (rw e at gone), times-append id xs (id ∷ ys), first_there id ys) in
          let not_old : times v (xs ++ ys) ≡ 0 = omega (arith, gone, times-append v xs (id ∷ ys), times-append v xs ys, not_among v id ys) in
          live_prev q v id (with_next p id (put_at id (new_link p q) ls))
          ∙ (live_next p v id (put_at id (new_link p q) ls)
          ∙ (ap (λ (l : Link). l.live) (get_or-put_at_other id v (new_link p q) no_link ls room not_id) ∙ ok.marks v not_old));
    }
  where
    not_among : (v x : ℕ) (ys : List ℕ) → times v ys ≤ times v (x ∷ ys)
    not_among v x ys = go (nat_eq x v)
      where
        go : (b : Bool) → times v ys ≤ cond b (suc (times v ys)) (times v ys)
        go true = omega arith
        go false = omega arith

-- the walk along the ids that are then live
pub live_more : (ls : List Link) (xs ys : List ℕ) (id first n : ℕ) → IsLinked (linked_in id (last_of none xs) (first_of ys none) ls) none (xs ++ id ∷ ys) none →
    times none (xs ++ ys) ≡ 0 → ((x : ℕ) (zs : List ℕ) → xs ++ ys ≡ x ∷ zs → first ≡ x) → n ≡ length (xs ++ id ∷ ys) →
    walk (linked_in id (last_of none xs) (first_of ys none) ls) n (cond (nat_eq (last_of none xs) none) id first) ≡ xs ++ id ∷ ys
live_more ls xs ys id first n h real e k =
    rw (k, start_more xs ys id first real e) (linked_walk (linked_in id (last_of none xs) (first_of ys none) ls) none (xs ++ id ∷ ys) none h)

-- the last of the prefix is not free
pub last_free : (xs ys free : List ℕ) → ((v : ℕ) → times v ((xs ++ ys) ++ free) ≤ 1) → times none free ≡ 0 → (v : ℕ) → 0 < times v free → v ≡ last_of none xs → ⊥
last_free [] ys free once real v t e = omega (arith, (rw e at t), real)
last_free (x ∷ xs) ys free once real v t e =
    omega (arith, (rw e at t), once (last_of x xs), times-append (last_of x xs) (x ∷ xs ++ ys) free, times-append (last_of x xs) (x ∷ xs) ys, last_there x xs)

-- the ids that stay free
pub free_kept : (ls : List Link) (xs ys : List ℕ) (id n f : ℕ) → id ≤ length ls → times none (walk ls n f) ≡ 0 → ((v : ℕ) → times v ((xs ++ id ∷ ys) ++ walk ls n f) ≤ 1) →
    walk (linked_in id (last_of none xs) (first_of ys none) ls) n f ≡ walk ls n f
free_kept ls xs ys id n f room real once =
    let p = last_of none xs in
    let q = first_of ys none in
    let l1 = put_at id (new_link p q) ls in
    walk_same ls (linked_in id p q ls) n f
    (λ v t.
    let not_id : v ≡ id → ⊥ = λ e. omega (arith, (rw e at t), once id, times-append id (xs ++ id ∷ ys) (walk ls n f), times-append id xs (id ∷ ys), first_there id ys) in
    let not_p : v ≡ p → ⊥ = last_free xs (id ∷ ys) (walk ls n f) once real v t in
    next_kept q v id (with_next p id l1) ∙ (ap (λ (l : Link). l.next) (next_other p v id l1 not_p) ∙ ap (λ (l : Link). l.next) (get_or-put_at_other id v (new_link p q) no_link ls room not_id)))

-- ---- an id that is taken out

-- an id of the back stands in the whole
there : (v id : ℕ) (xs ys : List ℕ) → 0 < times v ys → 0 < times v (xs ++ id ∷ ys)
there v id xs ys h = omega (arith, h, times-append v xs (id ∷ ys), go (nat_eq id v))
  where
    go : (b : Bool) → times v ys ≤ cond b (suc (times v ys)) (times v ys)
    go true = omega arith
    go false = omega arith

end_less : (xs ys : List ℕ) (id last : ℕ) → times none (xs ++ id ∷ ys) ≡ 0 → last ≡ last_of none (xs ++ id ∷ ys) → cond (nat_eq (first_of ys none) none) (last_of none xs) last ≡ last_of none (xs ++ ys)
end_less xs [] id last bare e = ap (last_of none) (sym (append_none xs))
  where
    append_none : (zs : List ℕ) → zs ++ [] ≡ zs
    append_none [] = refl
    append_none (z ∷ zs) = ap (λ ws. z ∷ ws) (append_none zs)
end_less xs (y ∷ ys) id last bare e =
    let t : nat_eq y none ≡ false = other_none y none (xs ++ id ∷ y ∷ ys) bare (there y id xs (y ∷ ys) (first_there y ys)) in
    rw t (e ∙ (last-append none xs id (y ∷ ys) ∙ sym (last-append none xs y ys)))

start_less : (xs ys : List ℕ) (id first : ℕ) → times none (xs ++ id ∷ ys) ≡ 0 → ((x : ℕ) (zs : List ℕ) → xs ++ id ∷ ys ≡ x ∷ zs → first ≡ x) →
    cond (nat_eq (last_of none xs) none) (first_of ys none) first ≡ first_of (xs ++ ys) none
start_less [] ys id first bare e = refl
start_less (x ∷ xs) ys id first bare e =
    let t : nat_eq (last_of x xs) none ≡ false = other_none (last_of x xs) none (x ∷ xs ++ id ∷ ys) bare (omega (arith, last_there x xs, times-append (last_of x xs) (x ∷ xs) (id ∷ ys))) in
    rw t (e x (xs ++ id ∷ ys) refl)

-- how often each id stands among those that are live and those that are free, once one is freed
pub times_freed : (v id : ℕ) (xs ys free : List ℕ) → times v ((xs ++ ys) ++ id ∷ free) ≡ times v ((xs ++ id ∷ ys) ++ free)
times_freed v id xs ys free =
    go (nat_eq id v) (times-append v (xs ++ ys) (id ∷ free)) (times-append v (xs ++ id ∷ ys) free) (times-append v xs ys) (times-append v xs (id ∷ ys))
  where
    go : (b : Bool) → times v ((xs ++ ys) ++ id ∷ free) ≡ times v (xs ++ ys) + cond b (suc (times v free)) (times v free) → times v ((xs ++ id ∷ ys) ++ free) ≡ times v (xs ++ id ∷ ys) + times v free →
        times v (xs ++ ys) ≡ times v xs + times v ys → times v (xs ++ id ∷ ys) ≡ times v xs + cond b (suc (times v ys)) (times v ys) → times v ((xs ++ ys) ++ id ∷ free) ≡ times v ((xs ++ id ∷ ys) ++ free)
    go true e f g h = omega (arith, e, f, g, h)
    go false e f g h = omega (arith, e, f, g, h)

pub order_less : (ls : List Link) (xs ys free : List ℕ) (last id next_free : ℕ) → IsOrder ls (xs ++ id ∷ ys) free last → id < length ls →
    IsOrder (linked_out id (last_of none xs) (first_of ys none) next_free ls) (xs ++ ys) (id ∷ free) (cond (nat_eq (first_of ys none) none) (last_of none xs) last)
order_less ls xs ys free last id next_free ok room =
    let p = last_of none xs in
    let q = first_of ys none in
    let l1 = with_next p q ls in
    let l2 = with_prev q p l1 in
    let size = length-linked_out id p q next_free ls in
    let once : (v : ℕ) → times v (xs ++ id ∷ ys) ≤ 1 = λ v. omega (arith, ok.once v, times-append v (xs ++ id ∷ ys) free) in
    let real : times none (xs ++ id ∷ ys) ≡ 0 = omega (arith, ok.below none (omega (arith, ok.few)), times-append none (xs ++ id ∷ ys) free) in
    record {
      few = omega (arith, size, ok.few);
      linked = linked_less ls xs ys id next_free once real ok.linked;
      end = end_less xs ys id last real ok.end;
      once = λ v. rw (times_freed v id xs ys free) (ok.once v);
      below = λ v h. rw (times_freed v id xs ys free) (ok.below v (omega (arith, h, size)));
      marks = λ v gone. marked v gone (nat_eq id v) refl;
    }
  where
    two : (v : ℕ) → length (with_prev (first_of ys none) (last_of none xs) (with_next (last_of none xs) (first_of ys none) ls)) ≡ length ls
    two v = length-with_prev (first_of ys none) (last_of none xs) (with_next (last_of none xs) (first_of ys none) ls) ∙ length-with_next (last_of none xs) (first_of ys none) ls

    not_first : (v x : ℕ) (zs : List ℕ) → nat_eq x v ≡ false → times v (x ∷ zs) ≡ times v zs
    not_first v x zs t = rw t refl

    marked : (v : ℕ) → times v (xs ++ ys) ≡ 0 → (b : Bool) → nat_eq id v ≡ b → is_live_at (linked_out id (last_of none xs) (first_of ys none) next_free ls) v ≡ false
    marked v gone true t =
        let e : id ≡ v = eqb-true id v t in
        rw (← e) (ap (λ (l : Link). l.live) (get_or-set_same (with_prev (first_of ys none) (last_of none xs) (with_next (last_of none xs) (first_of ys none) ls)) id (free_link next_free) no_link (omega (arith, room, two v))))
    marked v gone false t =
        let not_id : v ≡ id → ⊥ = λ e. eqb-false id v t (sym e) in
        let not_old : times v (xs ++ id ∷ ys) ≡ 0 = omega (arith, gone, times-append v xs ys, times-append v xs (id ∷ ys), not_first v id ys t) in
        ap (λ (l : Link). l.live) (get_or-set_other (with_prev (first_of ys none) (last_of none xs) (with_next (last_of none xs) (first_of ys none) ls)) id v (free_link next_free) no_link not_id)
        ∙ (live_prev (first_of ys none) v (last_of none xs) (with_next (last_of none xs) (first_of ys none) ls) ∙ (live_next (last_of none xs) v (first_of ys none) ls ∙ ok.marks v not_old))

pub live_less : (ls : List Link) (xs ys : List ℕ) (id first next_free n : ℕ) → IsLinked (linked_out id (last_of none xs) (first_of ys none) next_free ls) none (xs ++ ys) none →
    times none (xs ++ id ∷ ys) ≡ 0 → ((x : ℕ) (zs : List ℕ) → xs ++ id ∷ ys ≡ x ∷ zs → first ≡ x) → n ≡ length (xs ++ ys) →
    walk (linked_out id (last_of none xs) (first_of ys none) next_free ls) n (cond (nat_eq (last_of none xs) none) (first_of ys none) first) ≡ xs ++ ys
live_less ls xs ys id first next_free n h real e k =
    rw (k, start_less xs ys id first real e) (linked_walk (linked_out id (last_of none xs) (first_of ys none) next_free ls) none (xs ++ ys) none h)

-- the ids that are then free
pub free_more : (ls : List Link) (xs ys : List ℕ) (id n f : ℕ) → id < length ls → times none (walk ls n f) ≡ 0 → ((v : ℕ) → times v ((xs ++ id ∷ ys) ++ walk ls n f) ≤ 1) →
    walk (linked_out id (last_of none xs) (first_of ys none) f ls) (suc n) id ≡ id ∷ walk ls n f
free_more ls xs ys id n f room real once =
    let p = last_of none xs in
    let q = first_of ys none in
    let l1 = with_next p q ls in
    let l2 = with_prev q p l1 in
    let two : length l2 ≡ length ls = length-with_prev q p l1 ∙ length-with_next p q ls in
    let e : next_at (linked_out id p q f ls) id ≡ f = ap (λ (l : Link). l.next) (get_or-set_same l2 id (free_link f) no_link (omega (arith, room, two))) in
    rw e
    (ap (λ zs. id ∷ zs)
    (walk_same ls (linked_out id p q f ls) n f
    (λ v t.
    let not_id : v ≡ id → ⊥ = λ d. omega (arith, (rw d at t), once id, times-append id (xs ++ id ∷ ys) (walk ls n f), times-append id xs (id ∷ ys), first_there id ys) in
    let not_p : v ≡ p → ⊥ = last_free xs (id ∷ ys) (walk ls n f) once real v t in
    ap (λ (l : Link). l.next) (get_or-set_other l2 id v (free_link f) no_link not_id) ∙ (next_kept q v p l1 ∙ ap (λ (l : Link). l.next) (next_other p v q ls not_p)))))

-- ---- the order after a call

-- an id has been put in between two parts
pub record Added (ls ms : List Link) (xs ys : List ℕ) (live n id first last free m : ℕ) : Type 0 where
  pub order : IsOrder ms (xs ++ id ∷ ys) (walk ms m free) last
  pub ids : walk ms (live + 1) first ≡ xs ++ id ∷ ys
  pub fresh : times id (xs ++ ys) ≡ 0
  pub within : id ≤ length ls
  pub count : length ms ≡ max (length ls) (id + 1)
  pub known : 0 < n → id < length ls

length_halves : (ls : List Link) (live first id : ℕ) (xs ys : List ℕ) → walk ls live first ≡ xs ++ ys → live + 1 ≡ length (xs ++ id ∷ ys)
length_halves ls live first id xs ys h = omega (arith, length-walk ls live first, ap length h, length-append xs ys, length-append xs (id ∷ ys))

-- an id at the beginning of some stands there once more
once_more : (x : ℕ) (ys : List ℕ) → times x (x ∷ ys) ≡ suc (times x ys)
once_more x ys = rw (eq_self x) refl
  where
    eq_self : (x : ℕ) → nat_eq x x ≡ true
    eq_self x = go (nat_eq x x) refl
      where
        go : (b : Bool) → nat_eq x x ≡ b → nat_eq x x ≡ true
        go true t = t
        go false t = absurd (eqb-false x x t refl)

below_unless_none : (i n : ℕ) → (n ≤ i → ⊥) → i < n
below_unless_none zero zero h = absurd (h (omega arith))
below_unless_none zero (suc n) h = omega arith
below_unless_none (suc i) zero h = absurd (h (omega arith))
below_unless_none (suc i) (suc n) h = omega (arith, below_unless_none i n (λ t. h (omega (arith, t))))

-- it is a new one
added_new : (ls : List Link) (xs ys : List ℕ) (live first last id free m : ℕ) → IsOrder ls (xs ++ ys) [] last → walk ls live first ≡ xs ++ ys → length ls ≡ live → live + 1 < 2 ^ 32 → id ≡ live →
    length (linked_in id (last_of none xs) (first_of ys none) ls) ≡ (live + 1) + m →
    Added ls (linked_in id (last_of none xs) (first_of ys none) ls) xs ys live 0 id (cond (nat_eq (last_of none xs) none) id first) (cond (nat_eq (first_of ys none) none) id last) free m
added_new ls xs ys live first last id free m ok h size small new size_2 =
    let room : id ≤ length ls = omega (arith, size, new) in
    let lower : id < none = omega (arith, small, new) in
    let put = length-put_at id (new_link (last_of none xs) (first_of ys none)) ls room in
    let put_0 = length-put_at id (new_link 0 0) ls room in
    let count : length (linked_in id (last_of none xs) (first_of ys none) ls) ≡ max (length ls) (id + 1) = omega (arith, length-linked_in id (last_of none xs) (first_of ys none) ls, put) in
    let m_0 : m ≡ 0 = omega (arith, count, size_2, size, new) in
    let fresh : times id (xs ++ ys) ≡ 0 = omega (arith, ok.below id (omega (arith, size, new)), times-append id (xs ++ ys) []) in
    let real : times none (xs ++ ys) ≡ 0 = omega (arith, ok.below none (omega (arith, ok.few)), times-append none (xs ++ ys) []) in
    let order = order_more ls xs ys [] [] last id ok room lower fresh
    (λ v. rw (← times_freed v id xs ys []) (once v (nat_eq id v) refl fresh))
    (λ v t. rw (← times_freed v id xs ys []) (below v t put_0)) in
    record {
      order = rw m_0 order;
      ids = live_more ls xs ys id first (live + 1) order.linked real (λ x zs e. walk_first ls live first x zs (h ∙ e)) (length_halves ls live first id xs ys h);
      fresh = fresh;
      within = room;
      count = count;
      known = λ t. absurd (omega (arith, t));
    }
  where
    once : (v : ℕ) (b : Bool) → nat_eq id v ≡ b → times id (xs ++ ys) ≡ 0 → times v ((xs ++ ys) ++ id ∷ []) ≤ 1
    once v true t fresh =
        let e : id ≡ v = eqb-true id v t in
        let one : times v (id ∷ []) ≡ 1 = rw t refl in
        omega (arith, times-append v (xs ++ ys) (id ∷ []), one, (rw e at fresh))
    once v false t fresh =
        let one : times v (id ∷ []) ≡ 0 = rw t refl in
        omega (arith, times-append v (xs ++ ys) (id ∷ []), one, ok.once v, times-append v (xs ++ ys) [])

    below : (v : ℕ) → length (put_at id (new_link 0 0) ls) ≤ v → length (put_at id (new_link 0 0) ls) ≡ max (length ls) (id + 1) → times v ((xs ++ ys) ++ id ∷ []) ≡ 0
    below v t put =
        let one : times v (id ∷ []) ≡ 0 = rw (ne_eqb id v (λ e. omega (arith, e, t, put))) refl in
        omega (arith, times-append v (xs ++ ys) (id ∷ []), one, ok.below v (omega (arith, t, put)), times-append v (xs ++ ys) [])

-- it was free
added_known : (ls : List Link) (xs ys : List ℕ) (live first last f k id free m : ℕ) → IsOrder ls (xs ++ ys) (f ∷ walk ls k (next_at ls f)) last → walk ls live first ≡ xs ++ ys → length ls ≡ live + suc k →
    id ≡ f → free ≡ next_at ls f → length (linked_in id (last_of none xs) (first_of ys none) ls) ≡ (live + 1) + m →
    Added ls (linked_in id (last_of none xs) (first_of ys none) ls) xs ys live (suc k) id (cond (nat_eq (last_of none xs) none) id first) (cond (nat_eq (first_of ys none) none) id last) free m
added_known ls xs ys live first last f k id free m ok h size e g size_2 =
    let all : (v : ℕ) → times v ((xs ++ id ∷ ys) ++ walk ls k free) ≡ times v ((xs ++ ys) ++ f ∷ walk ls k (next_at ls f)) = λ v. rw (← times_freed v id xs ys (walk ls k free), e, g) refl in
    let there : 1 ≤ times id ((xs ++ id ∷ ys) ++ walk ls k free) =
    omega (arith, times-append id (xs ++ id ∷ ys) (walk ls k free), times-append id xs (id ∷ ys), first_there id ys) in
    let lower : id < length ls = below_unless_none id (length ls) (λ t. omega (arith, there, all id, ok.below id t)) in
    let room : id ≤ length ls = omega (arith, lower) in
    let small : id < none = omega (arith, lower, ok.few) in
    let put = length-put_at id (new_link (last_of none xs) (first_of ys none)) ls room in
    let put_0 = length-put_at id (new_link 0 0) ls room in
    let count : length (linked_in id (last_of none xs) (first_of ys none) ls) ≡ max (length ls) (id + 1) = omega (arith, length-linked_in id (last_of none xs) (first_of ys none) ls, put) in
    let m_k : m ≡ k = omega (arith, count, size_2, size, lower) in
    let once : (v : ℕ) → times v ((xs ++ id ∷ ys) ++ walk ls k free) ≤ 1 = λ v. rw (all v) (ok.once v) in
    let below : (v : ℕ) → length (put_at id (new_link 0 0) ls) ≤ v → times v ((xs ++ id ∷ ys) ++ walk ls k free) ≡ 0 = λ v t. rw (all v) (ok.below v (omega (arith, t, put_0))) in
    let fresh : times id (xs ++ ys) ≡ 0 = omega (arith, once id, times-append id (xs ++ id ∷ ys) (walk ls k free), times-append id xs (id ∷ ys), times-append id xs ys, first_there id ys, once_more id ys) in
    let real : times none (xs ++ ys) ≡ 0 = omega (arith, ok.below none (omega (arith, ok.few)), times-append none (xs ++ ys) (f ∷ walk ls k (next_at ls f))) in
    let real_2 : times none (walk ls k free) ≡ 0 = omega (arith, all none, ok.below none (omega (arith, ok.few)), times-append none (xs ++ id ∷ ys) (walk ls k free)) in
    let order = order_more ls xs ys (f ∷ walk ls k (next_at ls f)) (walk ls k free) last id ok room small fresh once below in
    record {
      order = rw (m_k, free_kept ls xs ys id k free room real_2 once) order;
      ids = live_more ls xs ys id first (live + 1) order.linked real (λ x zs t. walk_first ls live first x zs (h ∙ t)) (length_halves ls live first id xs ys h);
      fresh = fresh;
      within = room;
      count = count;
      known = λ t. lower;
    }

pub added : (ls : List Link) (xs ys : List ℕ) (live first last free n id free_2 m : ℕ) → IsOrder ls (xs ++ ys) (walk ls n free) last → walk ls live first ≡ xs ++ ys → length ls ≡ live + n → live + 1 < 2 ^ 32 →
    (n ≡ 0 → id ≡ live) → (0 < n → (id ≡ free) × (free_2 ≡ next_at ls free)) → length (linked_in id (last_of none xs) (first_of ys none) ls) ≡ (live + 1) + m →
    Added ls (linked_in id (last_of none xs) (first_of ys none) ls) xs ys live n id (cond (nat_eq (last_of none xs) none) id first) (cond (nat_eq (first_of ys none) none) id last) free_2 m
added ls xs ys live first last free zero id free_2 m ok h size small new known size_2 = added_new ls xs ys live first last id free_2 m ok h (omega (arith, size)) small (new refl) size_2
added ls xs ys live first last free (suc k) id free_2 m ok h size small new known size_2 =
    let e = known (omega arith) in
    added_known ls xs ys live first last free k id free_2 m ok h size e.0 e.1 size_2

-- an id has been freed
pub record Removed (ms : List Link) (xs ys : List ℕ) (live id first last n : ℕ) : Type 0 where
  pub order : IsOrder ms (xs ++ ys) (walk ms n id) last
  pub ids : walk ms live first ≡ xs ++ ys

pub removed : (ls : List Link) (xs ys : List ℕ) (live first last free n id m : ℕ) → IsOrder ls (xs ++ id ∷ ys) (walk ls n free) last → walk ls (live + 1) first ≡ xs ++ id ∷ ys → m ≡ suc n →
    Removed (linked_out id (last_of none xs) (first_of ys none) free ls) xs ys live id (cond (nat_eq (last_of none xs) none) (first_of ys none) first) (cond (nat_eq (first_of ys none) none) (last_of none xs) last) m
removed ls xs ys live first last free n id m ok h size =
    let real : times none ((xs ++ id ∷ ys) ++ walk ls n free) ≡ 0 = ok.below none (omega (arith, ok.few)) in
    let real_live : times none (xs ++ id ∷ ys) ≡ 0 = omega (arith, real, times-append none (xs ++ id ∷ ys) (walk ls n free)) in
    let real_free : times none (walk ls n free) ≡ 0 = omega (arith, real, times-append none (xs ++ id ∷ ys) (walk ls n free)) in
    let there : 1 ≤ times id ((xs ++ id ∷ ys) ++ walk ls n free) = omega (arith, times-append id (xs ++ id ∷ ys) (walk ls n free), times-append id xs (id ∷ ys), first_there id ys) in
    let lower : id < length ls = below_unless_none id (length ls) (λ t. omega (arith, there, ok.below id t)) in
    let order = order_less ls xs ys (walk ls n free) last id free ok lower in
    let count : live ≡ length (xs ++ ys) = omega (arith, length-walk ls (live + 1) first, ap length h, length-append xs ys, length-append xs (id ∷ ys)) in
    record {
      order = rw (size, free_more ls xs ys id n free lower real_free ok.once) order;
      ids = live_less ls xs ys id first free live order.linked real_live (λ x zs t. walk_first ls (live + 1) first x zs (h ∙ t)) count;
    }

pub order_of : (o : Order) → IsOrder o.links.items (walk o.links.items o.live o.first) (walk o.links.items (length o.links.items - o.live) o.free) o.last
order_of o = record { few = o.few; linked = o.linked; end = o.end; once = o.once; below = o.below; marks = o.marks }

-- a live id has the mark, and no other one has
pub marked_live : (ls : List Link) (a : ℕ) (xs : List ℕ) (z v : ℕ) → IsLinked ls a xs z → Contains xs v → is_live_at ls v ≡ true
marked_live ls a [] z v h (k, l, e) = absurd (omega arith)
marked_live ls a (x ∷ xs) z v h (zero, l, e) = rw (← e) (ap (λ (l : Link). l.live) h.0)
marked_live ls a (x ∷ xs) z v h (suc k, l, e) = marked_live ls x xs z v h.1 (k, omega arith, e)

pub live_marked : (ls : List Link) (xs : List ℕ) (v : ℕ) → ((w : ℕ) → times w xs ≡ 0 → is_live_at ls w ≡ false) → is_live_at ls v ≡ true → Contains xs v
live_marked ls xs v marks t = go (times v xs) refl
  where
    go : (n : ℕ) → times v xs ≡ n → Contains xs v
    go zero e = absurd (cc (marks v e))
    go (suc n) e = times_contained xs v (omega (arith, e))
