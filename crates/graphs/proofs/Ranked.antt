-- Graphs whose nodes have ranks have an order of all nodes: as long as one is not placed, one may be.
use Rattle.std.proofs.Common.{◌≡◌, ◌⊎◌, ℕ, zero, suc, ◌+◌, ◌<◌, ◌≤◌, Bool, true, false, List, [], ◌∷◌, ◌++◌, length, set, replicate, refl, sym, ap, subst, ◌∙◌, inl, inr, arith}
use Rattle.wiring.specs.Wiring.{In}
use Rattle.graphs.specs.Graphs.{edges, has_mark}
use Rattle.graphs.specs.Marks.{open_count}
use Rattle.graphs.specs.Orders.{open_from, IsOrder, AreMarked, HasOpen, CanBePlaced}
use Rattle.graphs.proofs.Marking.{open_fewer, none_marked}
use Rattle.graphs.proofs.Placing.{none_needed, order_none, order_more}

-- each node needs nodes of lesser ranks alone
abbrev pub NeedsLower : List (List ℕ) → (ℕ → ℕ) → Type 0
NeedsLower lists rank = (v t : ℕ) → In t (edges lists v) → t < length lists → rank t < rank v

-- an order that has all nodes
abbrev pub HasWholeOrder : List (List ℕ) → Type 0
HasWholeOrder lists = (placed : List Bool) × (nodes : List ℕ) × IsOrder lists placed nodes × ((v : ℕ) → v < length lists → has_mark placed v ≡ true)

-- ---- what is open

marked_or_open : (nodes : List ℕ) (marks : List Bool) → AreMarked nodes marks ⊎ HasOpen nodes marks
marked_or_open [] marks = inl (none_needed marks)
marked_or_open (x ∷ xs) marks = go (has_mark marks x) refl (grind arith) (marked_or_open xs marks)
  where
    first_marked : has_mark marks x ≡ true → AreMarked xs marks → AreMarked (x ∷ xs) marks
    first_marked is all t (inl same) within = ap (has_mark marks) same ∙ is
    first_marked is all t (inr here) within = all t here within

    first_missing : length marks ≤ x → AreMarked xs marks → AreMarked (x ∷ xs) marks
    first_missing far all t (inl same) within = absurd (omega (arith, same))
    first_missing far all t (inr here) within = all t here within

    go : (b : Bool) → has_mark marks x ≡ b → (x < length marks) ⊎ (length marks ≤ x) → AreMarked xs marks ⊎ HasOpen xs marks → AreMarked (x ∷ xs) marks ⊎ HasOpen (x ∷ xs) marks
    go b is side (inr found) = inr (found.0, inr found.1, found.2, found.3)
    go true is side (inl all) = inl (first_marked is all)
    go false is (inl near) (inl all) = inr (x, inl refl, near, is)
    go false is (inr far) (inl all) = inl (first_missing far all)

open_at : (ms : List Bool) (start i : ℕ) → In i (open_from start ms) → (x : ℕ) × (i ≡ start + x) × (x < length ms) × (has_mark ms x ≡ false)
open_at [] start i here = absurd here
open_at (true ∷ ms) start i here =
    let rest = open_at ms (suc start) i here in
    let at = rest.1 in
    let within = rest.2 in
    (suc rest.0, omega (arith, at), omega (arith, within), rest.3)
open_at (false ∷ ms) start i (inl same) = (0, omega (arith, same), omega arith, refl)
open_at (false ∷ ms) start i (inr here) =
    let rest = open_at ms (suc start) i here in
    let at = rest.1 in
    let within = rest.2 in
    (suc rest.0, omega (arith, at), omega (arith, within), rest.3)

none_left : (ms : List Bool) (start : ℕ) → open_from start ms ≡ [] → (v : ℕ) → v < length ms → has_mark ms v ≡ true
none_left [] start none v below = absurd (omega arith)
none_left (true ∷ ms) start none zero below = refl
none_left (true ∷ ms) start none (suc v) below = none_left ms (suc start) none v (omega arith)
none_left (false ∷ ms) start none v below = absurd (let no : ⊥ = cc in no)

-- ---- one after another

module _ (lists : List (List ℕ)) (rank : ℕ → ℕ) (lower : NeedsLower lists rank) where
  -- where one is not placed, one of them may be
  next_position : (placed : List Bool) → length placed ≡ length lists → (n v : ℕ) → rank v < n → v < length placed → has_mark placed v ≡ false
      → (x : ℕ) × CanBePlaced lists placed x
  next_position placed count zero v less within fresh = absurd (omega (arith, less))
  next_position placed count (suc n) v less within fresh = go (marked_or_open (edges lists v) placed) (next_position placed count n)
    where
      go : AreMarked (edges lists v) placed ⊎ HasOpen (edges lists v) placed
          → ((w : ℕ) → rank w < n → w < length placed → has_mark placed w ≡ false → (x : ℕ) × CanBePlaced lists placed x) → (x : ℕ) × CanBePlaced lists placed x
      go (inl all) rest = (v, (within, fresh, all))
      go (inr found) rest =
          let there = found.2 in
          let low = lower v found.0 found.1 (omega (arith, there, count)) in
          rest found.0 (omega (arith, less, low)) there found.3

  order_from : (n : ℕ) (placed : List Bool) (nodes : List ℕ) → open_count placed < n → IsOrder lists placed nodes → HasWholeOrder lists
  order_from zero placed nodes less order = absurd (omega (arith, less))
  order_from (suc n) placed nodes less order = go (open_from 0 placed) refl (order_from n)
    where
      go : (left : List ℕ) → open_from 0 placed ≡ left
          → ((placed' : List Bool) (nodes' : List ℕ) → open_count placed' < n → IsOrder lists placed' nodes' → HasWholeOrder lists) → HasWholeOrder lists
      go [] none rest = (placed, nodes, order, λ v below. none_left placed 0 none v (subst (λ k. v < k) (sym order.count) below))
      go (i ∷ left) is rest =
          let one = open_at placed 0 i (subst (In i) (sym is) (inl refl)) in
          let next = next_position placed order.count (suc (rank one.0)) one.0 (omega arith) one.2 one.3 in
          let fewer : suc (open_count (set placed next.0 true)) ≡ open_count placed = open_fewer placed next.0 next.1.0 next.1.1 in
          rest (set placed next.0 true) (nodes ++ next.0 ∷ []) (omega (arith, fewer, less)) (order_more lists placed nodes next.0 order next.1)

  length-unmarked : (k : ℕ) → length (replicate k false) ≡ k
  length-unmarked zero = refl
  length-unmarked (suc k) = ap suc (length-unmarked k)

  pub ranked_order : HasWholeOrder lists
  ranked_order =
      let n = length lists in
      order_from (suc (open_count (replicate n false))) (replicate n false) [] (omega arith) (order_none lists (replicate n false) (length-unmarked n) (λ v. none_marked n v))
