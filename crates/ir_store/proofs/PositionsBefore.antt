-- Where an operation stands before which another is put: what comes before and after it along the links.
use Rattle.std.proofs.Common.{◌≡◌, ℕ, zero, suc, ◌<◌, ◌≤◌, Bool, true, false, cond, nat_eq, List, [], ◌∷◌, ◌++◌, length, map, take, drop, ◌+◌, ◌-◌, refl, sym, ap, ◌∙◌, arith, take-append-drop}
use Rattle.std.specs.Prelude.{Contains, Option, Some, None}
use Rattle.std.proofs.lemmas.Bool.{eqb-true, eqb-false}
use Rattle.ir_store.specs.declared.operation.OpId.{OpId}
use Rattle.linked_lists.specs.declared.links.Link.{Link}
use Rattle.ir_store.specs.Bodies.{op_id, first_id}
use Rattle.ir_store.specs.BodyOps.{position_before}
use Rattle.ir_store.specs.Numbered.{position_of}
use Rattle.linked_lists.specs.Ids.{times}
use Rattle.ir_store.specs.Orders.{live_ids}
use Rattle.ir_store.specs.declared.order.Order.{Order}
use Rattle.linked_lists.specs.Links.{none, walk, next_at, prev_at, first_of, last_of, IsLinked}
use Rattle.linked_lists.proofs.IdLemmas.{times-append}
use Rattle.linked_lists.proofs.Linking.{first_there}

-- what stands before and after the position of an id
pub position_prefix : (ls : List Link) (a : ℕ) (xs : List ℕ) (z : ℕ) (b : OpId) → Contains xs b.index → IsLinked ls a xs z → prev_at ls b.index ≡ last_of a (take (position_before (Some b) xs) xs)
position_prefix ls a [] z b (k, l, e) h = absurd (omega arith)
position_prefix ls a (x ∷ xs) z b t h = go (nat_eq x b.index) refl t (position_prefix ls x xs z b)
  where
    go : (s : Bool) → nat_eq x b.index ≡ s → Contains (x ∷ xs) b.index → (Contains xs b.index → IsLinked ls x xs z → prev_at ls b.index ≡ last_of x (take (position_before (Some b) xs) xs)) →
        prev_at ls b.index ≡ last_of a (take (cond s 0 (suc (position_before (Some b) xs))) (x ∷ xs))
    go true s t r = rw (← eqb-true x b.index s) (ap (λ (l : Link). l.prev) h.0)
    go false s (zero, l, e) r = absurd (eqb-false x b.index s e)
    go false s (suc k, l, e) r = r (k, omega arith, e) h.1

pub position_back : (xs : List ℕ) (b : OpId) → Contains xs b.index → drop (position_before (Some b) xs) xs ≡ b.index ∷ drop (suc (position_before (Some b) xs)) xs
position_back [] b (k, l, e) = absurd (omega arith)
position_back (x ∷ xs) b t = go (nat_eq x b.index) refl t (position_back xs b)
  where
    go : (s : Bool) → nat_eq x b.index ≡ s → Contains (x ∷ xs) b.index → (Contains xs b.index → drop (position_before (Some b) xs) xs ≡ b.index ∷ drop (suc (position_before (Some b) xs)) xs) →
        drop (cond s 0 (suc (position_before (Some b) xs))) (x ∷ xs) ≡ b.index ∷ drop (suc (cond s 0 (suc (position_before (Some b) xs)))) (x ∷ xs)
    go true s t r = ap (λ v. v ∷ xs) (eqb-true x b.index s)
    go false s (zero, l, e) r = absurd (eqb-false x b.index s e)
    go false s (suc k, l, e) r = r (k, omega arith, e)

-- the position before an id is among the ids or after them
pub position_le : (before : Option OpId) (xs : List ℕ) → position_before before xs ≤ length xs
position_le None xs = omega arith
position_le (Some b) [] = omega arith
position_le (Some b) (x ∷ xs) = go (nat_eq x b.index) (position_le (Some b) xs)
  where
    go : (t : Bool) → position_before (Some b) xs ≤ length xs → cond t 0 (suc (position_before (Some b) xs)) ≤ suc (length xs)
    go true h = omega arith
    go false h = omega (arith, h)

-- what stands after the position of an id
pub position_next : (ls : List Link) (a : ℕ) (xs : List ℕ) (z : ℕ) (b : OpId) → Contains xs b.index → IsLinked ls a xs z → next_at ls b.index ≡ first_of (drop (suc (position_before (Some b) xs)) xs) z
position_next ls a [] z b (k, l, e) h = absurd (omega arith)
position_next ls a (x ∷ xs) z b t h = go (nat_eq x b.index) refl t (position_next ls x xs z b)
  where
    go : (s : Bool) → nat_eq x b.index ≡ s → Contains (x ∷ xs) b.index → (Contains xs b.index → IsLinked ls x xs z → next_at ls b.index ≡ first_of (drop (suc (position_before (Some b) xs)) xs) z) →
        next_at ls b.index ≡ first_of (drop (suc (cond s 0 (suc (position_before (Some b) xs)))) (x ∷ xs)) z
    go true s t r = rw (← eqb-true x b.index s) (ap (λ (l : Link). l.next) h.0)
    go false s (zero, l, e) r = absurd (eqb-false x b.index s e)
    go false s (suc k, l, e) r = r (k, omega arith, e) h.1

-- that position is the position of the id
pub position_position : (xs : List ℕ) (b : OpId) → position_before (Some b) xs ≡ position_of xs b.index
position_position [] b = refl
position_position (x ∷ xs) b = ap (λ n. cond (nat_eq x b.index) 0 (suc n)) (position_position xs b)

-- nothing stands for none among what is left of ids, where nothing does among them
without_none : (p : ℕ) (xs : List ℕ) → times none xs ≡ 0 → times none (drop p xs) ≡ 0
without_none p xs clean =
    let whole : times none (take p xs) + times none (drop p xs) ≡ times none xs = sym (times-append none (take p xs) (drop p xs)) ∙ ap (times none) (take-append-drop p xs) in
    omega (arith, whole, clean)

-- the first of ids none of which stands for none, where what is first by the links is told: none is only where there are none
pub none_after : (ys : List ℕ) (n : ℕ) → n ≡ first_of ys none → n ≡ none → times none ys ≡ 0 → None ≡ first_id (map op_id ys)
none_after [] n is end clean = refl
none_after (y ∷ ys) n is end clean =
    let there : 0 < times y (y ∷ ys) = first_there y ys in
    let same : y ≡ none = sym is ∙ end in
    absurd (omega (arith, ap (λ v. times v (y ∷ ys)) same, there, clean))

pub some_after : (ys : List ℕ) (n : ℕ) → n ≡ first_of ys none → (n ≡ none → ⊥) → Some (op_id n) ≡ first_id (map op_id ys)
some_after [] n is other = absurd (other is)
some_after (y ∷ ys) n is other = ap (λ v. Some (op_id v)) is

-- what an order's links say of the id after one
pub after_live : (o : Order) (b : OpId) → Contains (live_ids o) b.index
    → (next_at o.links.items b.index ≡ first_of (drop (suc (position_of (live_ids o) b.index)) (live_ids o)) none) × (times none (drop (suc (position_of (live_ids o) b.index)) (live_ids o)) ≡ 0)
after_live o b there = (
  position_next o.links.items none (live_ids o) none b there o.linked ∙ ap (λ p. first_of (drop (suc p) (live_ids o)) none) (position_position (live_ids o) b),
  without_none (suc (position_of (live_ids o) b.index)) (live_ids o)
      (let below : times none (live_ids o ++ walk o.links.items (length o.links.items - o.live) o.free) ≡ 0 = o.below none (omega (arith, o.few)) in
      let sum : times none (live_ids o ++ walk o.links.items (length o.links.items - o.live) o.free) ≡ times none (live_ids o) + times none (walk o.links.items (length o.links.items - o.live) o.free) =
      times-append none (live_ids o) (walk o.links.items (length o.links.items - o.live) o.free) in
      omega (arith, below, sum)),
)
