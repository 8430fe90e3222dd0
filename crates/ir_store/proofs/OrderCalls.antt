-- The order of ids after a call that adds one or removes one.
use Rattle.std.proofs.Common.{◌≡◌, ℕ, zero, suc, ◌+◌, ◌-◌, ◌<◌, ◌≤◌, ◌^◌, Bool, true, false, cond, nat_eq, List, [], ◌∷◌, ◌++◌, length, take, drop, refl, ap, sym, ◌∙◌, arith}
use Rattle.std.specs.Prelude.{insert, remove, max, Contains, Some}
use Rattle.std.proofs.lemmas.List.{take-append-drop}
use Rattle.ir_store.specs.declared.operation.OpId.{OpId}
use Rattle.linked_lists.specs.declared.links.Link.{Link}
use Rattle.ir_store.specs.declared.order.Order.{Order}
use Rattle.linked_lists.specs.Ids.{times, put_at}
use Rattle.ir_store.specs.BodyOps.{position_before}
use Rattle.linked_lists.specs.Links.{none, new_link, next_at, prev_at, walk, first_of, last_of, linked_in, linked_out, IsOrder}
use Rattle.ir_store.specs.Orders.{live_ids, free_ids}
use Rattle.ir_store.proofs.Ordering.{Added, Removed, added, removed, order_of}
use Rattle.ir_store.proofs.PositionsBefore.{position_prefix, position_back, position_next}
use Rattle.linked_lists.proofs.Linking.{length-linked_in, length-linked_out}

length-put_at_least : {A : Type 0} (i : ℕ) (x : A) (xs : List A) → (length xs ≤ length (put_at i x xs)) × (i ≤ length xs → i + 1 ≤ length (put_at i x xs))
length-put_at_least zero x [] = (omega arith, λ _. omega arith)
length-put_at_least zero x (y ∷ ys) = (omega arith, λ _. omega arith)
length-put_at_least (suc i) x [] = (omega arith, λ h. absurd (omega (arith, h)))
length-put_at_least (suc i) x (y ∷ ys) = let r = length-put_at_least i x ys in (omega (arith, r.0), λ h. omega (arith, r.1 (omega (arith, h))))

-- what is so after an addition
pub record IsAdded (o : Order) (ms : List Link) (p id first last free : ℕ) : Type 0 where
  pub order : IsOrder ms (walk ms (o.live + 1) first) (walk ms (length ms - (o.live + 1)) free) last
  pub enough : o.live + 1 ≤ length ms
  pub ids : walk ms (o.live + 1) first ≡ insert (live_ids o) p id
  pub fresh : times id (live_ids o) ≡ 0
  pub within : id ≤ length o.links.items
  pub count : length ms ≡ max (length o.links.items) (id + 1)
  pub known : 0 < free_ids o → id < length o.links.items

pub is_added : (o : Order) (p prev next id first last free : ℕ) (ms : List Link) → o.live + 1 < 2 ^ 32 → prev ≡ last_of none (take p (live_ids o)) → next ≡ first_of (drop p (live_ids o)) none →
    (free_ids o ≡ 0 → id ≡ o.live) → (0 < free_ids o → (id ≡ o.free) × (free ≡ next_at o.links.items o.free)) → ms ≡ linked_in id prev next o.links.items →
    first ≡ cond (nat_eq prev none) id o.first → last ≡ cond (nat_eq next none) id o.last → IsAdded o ms p id first last free
is_added o p prev next id first last free ms small e_prev e_next new known e_ms e_first e_last =
    let xs = take p (live_ids o) in
    let ys = drop p (live_ids o) in
    let halves : xs ++ ys ≡ live_ids o = take-append-drop p (live_ids o) in
    let ok : IsOrder o.links.items (xs ++ ys) (walk o.links.items (free_ids o) o.free) o.last = rw halves (order_of o) in
    let least = length-put_at_least id (new_link prev next) o.links.items in
    let size : length ms ≡ length (put_at id (new_link prev next) o.links.items) = rw e_ms (length-linked_in id prev next o.links.items) in
    let enough : o.live + 1 ≤ length ms = is_enough (free_ids o) refl (omega (arith, size, least.0)) (λ h. omega (arith, size, least.1 h)) in
    let size_2 : length (linked_in id (last_of none xs) (first_of ys none) o.links.items) ≡ (o.live + 1) + (length ms - (o.live + 1)) =
    rw (← e_prev, ← e_next, ← e_ms) (omega (arith, enough)) in
    let a = added o.links.items xs ys o.live o.first o.last o.free (free_ids o) id free (length ms - (o.live + 1)) ok (sym halves) (omega (arith, o.within)) small new known size_2 in
    let b : Added o.links.items ms xs ys o.live (free_ids o) id first last free (length ms - (o.live + 1)) =
    rw (e_first, e_last) (rw (← e_prev, ← e_next, ← e_ms) at a) in
    record {
      order = rw b.ids b.order;
      enough = enough;
      ids = b.ids;
      fresh = rw (← halves) b.fresh;
      within = b.within;
      count = b.count;
      known = b.known;
    }
  where
    is_enough : (n : ℕ) → free_ids o ≡ n → length o.links.items ≤ length ms → (id ≤ length o.links.items → id + 1 ≤ length ms) → o.live + 1 ≤ length ms
    is_enough zero e h k =
        let i : id ≡ o.live = new e in
        omega (arith, i, o.within, k (omega (arith, i, o.within)))
    is_enough (suc n) e h k = omega (arith, e, h, o.within)

-- what is so after a removal
pub record IsRemoved (o : Order) (ms : List Link) (b : OpId) (live first last : ℕ) : Type 0 where
  pub order : IsOrder ms (walk ms live first) (walk ms (length ms - live) b.index) last
  pub ids : walk ms live first ≡ remove (live_ids o) (position_before (Some b) (live_ids o))
  pub count : length ms ≡ length o.links.items

pub is_removed : (o : Order) (b : OpId) (prev next live first last : ℕ) (ms : List Link) → Contains (live_ids o) b.index → live + 1 ≡ o.live → prev ≡ prev_at o.links.items b.index → next ≡ next_at o.links.items b.index →
    ms ≡ linked_out b.index prev next o.free o.links.items → first ≡ cond (nat_eq prev none) next o.first → last ≡ cond (nat_eq next none) prev o.last → IsRemoved o ms b live first last
is_removed o b prev next live first last ms there e_live e_prev e_next e_ms e_first e_last =
    let p = position_before (Some b) (live_ids o) in
    let xs = take p (live_ids o) in
    let ys = drop (suc p) (live_ids o) in
    let whole : xs ++ b.index ∷ ys ≡ live_ids o = ap (λ zs. xs ++ zs) (sym (position_back (live_ids o) b there)) ∙ take-append-drop p (live_ids o) in
    let prev_is : prev ≡ last_of none xs = e_prev ∙ position_prefix o.links.items none (live_ids o) none b there o.linked in
    let next_is : next ≡ first_of ys none = e_next ∙ position_next o.links.items none (live_ids o) none b there o.linked in
    let ok : IsOrder o.links.items (xs ++ b.index ∷ ys) (walk o.links.items (free_ids o) o.free) o.last = rw whole (order_of o) in
    let count : length ms ≡ length o.links.items = rw e_ms (length-linked_out b.index prev next o.free o.links.items) in
    let walked : walk o.links.items (live + 1) o.first ≡ xs ++ b.index ∷ ys = rw (e_live, whole) refl in
    let r = removed o.links.items xs ys live o.first o.last o.free (free_ids o) b.index (length ms - live) ok walked (omega (arith, count, e_live, o.within)) in
    let s : Removed ms xs ys live b.index first last (length ms - live) = rw (e_first, e_last) (rw (← prev_is, ← next_is, ← e_ms) at r) in
    record { order = rw s.ids s.order; ids = s.ids; count = count }

-- where the next id is not one of those there are, none is free
pub none_free : (n id size : ℕ) → (0 < n → id < size) → size ≤ id → n ≡ 0
none_free zero id size f h = refl
none_free (suc n) id size f h = absurd (omega (arith, f (omega arith), h))

pub times_length : (v : ℕ) (xs : List ℕ) → times v xs ≤ length xs
times_length v [] = omega arith
times_length v (x ∷ xs) = go (nat_eq x v) (times_length v xs)
  where
    go : (b : Bool) → times v xs ≤ length xs → cond b (suc (times v xs)) (times v xs) ≤ suc (length xs)
    go true h = omega (arith, h)
    go false h = omega (arith, h)
