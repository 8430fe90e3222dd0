-- Bit sets: what a pass over nodes does to them, and what they say once nothing changes.
use Rattle.std.proofs.Common.{◌≡◌, ◌⊎◌, ℕ, zero, suc, ◌+◌, ◌-◌, ◌^◌, ◌<◌, ◌≤◌, ◌≢◌, Bool, true, false, eqb, max, bit_or, List, [], ◌∷◌, ◌++◌, length, get_or, set, take, drop, replicate, slice_get}
use Rattle.std.proofs.Common.{Some, refl, sym, ap, subst, ◌∙◌, inl, inr, arith, length-set}
use Rattle.std.specs.Int.{bit_at}
use Rattle.std.proofs.lemmas.Nat.{le_or_l, or_lt}
use Rattle.std.proofs.lemmas.Nat.Bits.{bit_at_or, bit_at-lt, bit_at-zero}
use Rattle.std.proofs.lemmas.Bool.{eqb-true, eqb-false}
use Rattle.std.proofs.lemmas.List.{get_or-set_same, get_or-set_other, take_more, take_all}
use Rattle.std.specs.Prelude.{MatchBool}
use Rattle.wiring.specs.Wiring.{In, Chain}
use Rattle.wiring.proofs.Members.{In-append_left, In-append_right, In-append_cases}
use Rattle.graphs.specs.Graphs.{lists_of, edges}
use Rattle.graphs.specs.declared.graph.NodeList.{NodeList}
use Rattle.design_cycles.specs.BitSets.{bit_set_at, IsSet, LeadsToInput, AreSound, AreBitSets, GivesBits, JoinsBitSets, HasNeeds, room_left, Spreads, Settles}
use Rattle.graphs.proofs.Lists.{written_back}
use Rattle.graphs.proofs.Marking.{edges_within, lists_at, length-lists}

-- ---- bits

pub none_set : (x : ℕ) → IsSet 0 x → ⊥
none_set x is = let e : bit_at 0 x ≡ 0 = bit_at-zero x in let f : bit_at 0 x ≡ 1 = is.is_one in cc

pub set_left : (a b x : ℕ) → IsSet a x → IsSet (bit_or a b) x
set_left a b x is =
    let e : bit_at a x ≡ 1 = is.is_one in
    let both : bit_at (bit_or a b) x ≡ max (bit_at a x) (bit_at b x) = bit_at_or a b x in
    let small : bit_at b x < 2 = bit_at-lt b x in
    record { is_one = omega arith }

pub set_right : (a b x : ℕ) → IsSet b x → IsSet (bit_or a b) x
set_right a b x is =
    let e : bit_at b x ≡ 1 = is.is_one in
    let both : bit_at (bit_or a b) x ≡ max (bit_at a x) (bit_at b x) = bit_at_or a b x in
    let small : bit_at a x < 2 = bit_at-lt a x in
    record { is_one = omega arith }

pub set_cases : (a b x : ℕ) → IsSet (bit_or a b) x → IsSet a x ⊎ IsSet b x
set_cases a b x is = go (choose (bit_at a x) (bit_at b x) both (bit_at-lt a x) (bit_at-lt b x))
  where
    both : max (bit_at a x) (bit_at b x) ≡ 1
    both = sym (bit_at_or a b x) ∙ is.is_one

    choose : (m n : ℕ) → max m n ≡ 1 → m < 2 → n < 2 → (m ≡ 1) ⊎ (n ≡ 1)
    choose m n e f g = grind arith

    go : (bit_at a x ≡ 1) ⊎ (bit_at b x ≡ 1) → IsSet a x ⊎ IsSet b x
    go (inl e) = inl (record { is_one = e })
    go (inr e) = inr (record { is_one = e })

-- ---- bit sets with one written

bit_set_same : (bit_sets : List ℕ) (v r : ℕ) → v < length bit_sets → bit_set_at (set bit_sets v r) v ≡ r
bit_set_same bit_sets v r below = get_or-set_same bit_sets v r 0 below

bit_set_other : (bit_sets : List ℕ) (v w r : ℕ) → w ≢ v → bit_set_at (set bit_sets v r) w ≡ bit_set_at bit_sets w
bit_set_other bit_sets v w r other = get_or-set_other bit_sets v w r 0 other

-- a bit set that got more bits
module _ (bit_sets : List ℕ) (v : ℕ) (below : v < length bit_sets) (more : ℕ) where
  abbrev bit_set : ℕ
  bit_set = bit_or (bit_set_at bit_sets v) more

  abbrev written : List ℕ
  written = set bit_sets v bit_set

  pub written_cases : (w x : ℕ) → IsSet (bit_set_at written w) x → IsSet (bit_set_at bit_sets w) x ⊎ ((w ≡ v) × IsSet more x)
  written_cases w x is = go (eqb w v) refl
    where
      at_node : w ≡ v → IsSet (bit_set_at bit_sets v) x ⊎ IsSet more x → IsSet (bit_set_at bit_sets w) x ⊎ ((w ≡ v) × IsSet more x)
      at_node same (inl had) = inl (subst (λ z. IsSet (bit_set_at bit_sets z) x) (sym same) had)
      at_node same (inr new) = inr (same, new)

      go : (b : Bool) → eqb w v ≡ b → IsSet (bit_set_at bit_sets w) x ⊎ ((w ≡ v) × IsSet more x)
      go true e =
          let same : w ≡ v = eqb-true w v e in
          let here : bit_set_at written w ≡ bit_set = ap (bit_set_at written) same ∙ bit_set_same bit_sets v bit_set below in
          at_node same (set_cases (bit_set_at bit_sets v) more x (subst (λ r. IsSet r x) here is))
      go false e = inl (subst (λ r. IsSet r x) (bit_set_other bit_sets v w bit_set (eqb-false w v e)) is)

  pub written_kept : (w x : ℕ) → IsSet (bit_set_at bit_sets w) x → IsSet (bit_set_at written w) x
  written_kept w x is = go (eqb w v) refl
    where
      go : (b : Bool) → eqb w v ≡ b → IsSet (bit_set_at written w) x
      go true e =
          let same : w ≡ v = eqb-true w v e in
          let here : bit_set_at written w ≡ bit_set = ap (bit_set_at written) same ∙ bit_set_same bit_sets v bit_set below in
          subst (λ r. IsSet r x) (sym here) (set_left (bit_set_at bit_sets v) more x (subst (λ z. IsSet (bit_set_at bit_sets z) x) same is))
      go false e = subst (λ r. IsSet r x) (sym (bit_set_other bit_sets v w bit_set (eqb-false w v e))) is

  pub written_new : (x : ℕ) → IsSet more x → IsSet (bit_set_at written v) x
  written_new x is = subst (λ r. IsSet r x) (sym (bit_set_same bit_sets v bit_set below)) (set_right (bit_set_at bit_sets v) more x is)

room_less : (bit_sets : List ℕ) (v r : ℕ) → v < length bit_sets → bit_set_at bit_sets v < r → r < 2 ^ 64 → room_left (set bit_sets v r) < room_left bit_sets
room_less [] v r below more fits = absurd (omega arith)
room_less (x ∷ bit_sets) zero r below more fits = omega arith
room_less (x ∷ bit_sets) (suc v) r below more fits = let rest : room_left (set bit_sets v r) < room_left bit_sets = room_less bit_sets v r (omega arith) more fits in omega arith

-- ---- a pass over nodes

pub spreads_none : (lists : List (List ℕ)) (bit_sets : List ℕ) → Spreads lists [] bit_sets bit_sets false
spreads_none lists bit_sets = record {
  count = refl;
  sound = λ inputs sound. sound;
  kept = λ v x is. is;
  progress = (refl, λ v here. absurd here);
}

-- a node that needs nothing, or has all that it needs
pub spreads_same : (lists : List (List ℕ)) (bit_sets : List ℕ) (v : ℕ) → HasNeeds lists bit_sets v → Spreads lists (v ∷ []) bit_sets bit_sets false
spreads_same lists bit_sets v has = record {
  count = refl;
  sound = λ inputs sound. sound;
  kept = λ w x is. is;
  progress = (refl, λ w here. go w here);
}
  where
    go : (w : ℕ) → In w (v ∷ []) → HasNeeds lists bit_sets w
    go w (inl same) = subst (HasNeeds lists bit_sets) (sym same) has
    go w (inr never) = absurd never

module _ (lists : List (List ℕ)) (bit_sets : List ℕ) (v more : ℕ) (joins : JoinsBitSets bit_sets (edges lists v) more) where
  pub needs_there : bit_or (bit_set_at bit_sets v) more ≡ bit_set_at bit_sets v → HasNeeds lists bit_sets v
  needs_there same w x need is =
      subst (λ r. IsSet r x) same (set_right (bit_set_at bit_sets v) more x (joins.all w x need is))

  pub spreads_bit_set : v < length bit_sets → bit_or (bit_set_at bit_sets v) more < 2 ^ 64 → (bit_or (bit_set_at bit_sets v) more ≡ bit_set_at bit_sets v → ⊥)
      → Spreads lists (v ∷ []) bit_sets (set bit_sets v (bit_or (bit_set_at bit_sets v) more)) true
  spreads_bit_set below fits differs = record {
    count = length-set bit_sets v (bit_or (bit_set_at bit_sets v) more);
    sound = λ inputs sound w x is. go inputs sound w x (written_cases bit_sets v below more w x is);
    kept = written_kept bit_sets v below more;
    progress = room_less bit_sets v (bit_or (bit_set_at bit_sets v) more) below (above (le_or_l (bit_set_at bit_sets v) more) differs) fits;
  }
    where
      above : {a b : ℕ} → a ≤ b → (b ≡ a → ⊥) → a < b
      above low apart = grind arith

      step : (inputs : List ℕ) → AreSound lists inputs bit_sets → (x : ℕ) → ((w : ℕ) × In w (edges lists v) × IsSet (bit_set_at bit_sets w) x) → LeadsToInput lists inputs v x
      step inputs sound x (w, need, is) =
          let leads = sound w x is in
          (leads.0, leads.1, (suc leads.2.0, (w, need, leads.2.1)))

      go : (inputs : List ℕ) → AreSound lists inputs bit_sets → (w x : ℕ) → IsSet (bit_set_at bit_sets w) x ⊎ ((w ≡ v) × IsSet more x) → LeadsToInput lists inputs w x
      go inputs sound w x (inl had) = sound w x had
      go inputs sound w x (inr new) = subst (λ z. LeadsToInput lists inputs z x) (sym new.0) (step inputs sound x (joins.from x new.1))

-- one more node
module _ (lists : List (List ℕ)) (xs : List ℕ) (v : ℕ) (old mid new : List ℕ) (c : Bool) (first : Spreads lists xs old mid c) where
  pub spreads_changed : Spreads lists (v ∷ []) mid new true → Spreads lists (xs ++ v ∷ []) old new true
  spreads_changed next = record {
    count = next.count ∙ first.count;
    sound = λ inputs sound. next.sound inputs (first.sound inputs sound);
    kept = λ w x is. next.kept w x (first.kept w x is);
    progress = go c first.progress;
  }
    where
      less : room_left new < room_left mid
      less = next.progress

      go : (b : Bool) → MatchBool b (room_left mid < room_left old) ((mid ≡ old) × ((w : ℕ) → In w xs → HasNeeds lists old w)) → room_left new < room_left old
      go true fewer = omega arith
      go false both = let e : room_left mid ≡ room_left old = ap room_left both.0 in omega arith

  pub spreads_unchanged : Spreads lists (v ∷ []) mid new false → Spreads lists (xs ++ v ∷ []) old new c
  spreads_unchanged next = record {
    count = next.count ∙ first.count;
    sound = λ inputs sound. next.sound inputs (first.sound inputs sound);
    kept = λ w x is. next.kept w x (first.kept w x is);
    progress = go c first.progress;
  }
    where
      same : new ≡ mid
      same = next.progress.0

      each : mid ≡ old → ((w : ℕ) → In w xs → HasNeeds lists old w) → (w : ℕ) → In w xs ⊎ In w (v ∷ []) → HasNeeds lists old w
      each is before w (inl here) = before w here
      each is before w (inr here) = subst (λ bit_sets. HasNeeds lists bit_sets w) is (next.progress.1 w here)

      go : (b : Bool) → MatchBool b (room_left mid < room_left old) ((mid ≡ old) × ((w : ℕ) → In w xs → HasNeeds lists old w))
          → MatchBool b (room_left new < room_left old) ((new ≡ old) × ((w : ℕ) → In w (xs ++ v ∷ []) → HasNeeds lists old w))
      go true fewer = let e : room_left new ≡ room_left mid = ap room_left same in omega arith
      go false both = (same ∙ both.0, λ w here. each both.0 both.1 w (In-append_cases w xs (v ∷ []) here))

-- ---- passes until nothing changes

pub record HasSpread (lists : List (List ℕ)) (old new : List ℕ) : Type 0 where
  pub count : length new ≡ length old
  pub sound : (inputs : List ℕ) → AreSound lists inputs old → AreSound lists inputs new
  pub kept : (v x : ℕ) → IsSet (bit_set_at old v) x → IsSet (bit_set_at new v) x

pub has_spread : (lists : List (List ℕ)) (nodes old new : List ℕ) (c : Bool) → Spreads lists nodes old new c → HasSpread lists old new
has_spread lists nodes old new c s = record { count = s.count; sound = s.sound; kept = s.kept }

pub spread_on : (lists : List (List ℕ)) (nodes old mid new : List ℕ) (c : Bool) → HasSpread lists old mid → Spreads lists nodes mid new c → HasSpread lists old new
spread_on lists nodes old mid new c h s = record {
  count = s.count ∙ h.count;
  sound = λ inputs sound. s.sound inputs (h.sound inputs sound);
  kept = λ v x is. s.kept v x (h.kept v x is);
}

pub spread_less : (lists : List (List ℕ)) (nodes old new : List ℕ) (c : Bool) → c ≡ true → Spreads lists nodes old new c → room_left new < room_left old
spread_less lists nodes old new true is s = s.progress
spread_less lists nodes old new false is s = cc

pub settled : (lists : List (List ℕ)) (nodes old mid new : List ℕ) (c : Bool) → c ≡ false → ((v : ℕ) → v < length lists → In v nodes) → HasSpread lists old mid → Spreads lists nodes mid new c
    → Settles lists old new
settled lists nodes old mid new true is all h s = cc
settled lists nodes old mid new false is all h s = record {
  count = s.count ∙ h.count;
  sound = λ inputs sound. s.sound inputs (h.sound inputs sound);
  kept = λ v x set. s.kept v x (h.kept v x set);
  closed = λ v w x need. subst (λ bit_sets. IsSet (bit_set_at bit_sets w) x → IsSet (bit_set_at bit_sets v) x) (sym s.progress.0) (s.progress.1 v (all v (edges_within lists v w need)) w x need);
}

-- ---- bit sets of one node after another, joined

pub joins_none : (bit_sets : List ℕ) → JoinsBitSets bit_sets [] 0
joins_none bit_sets = record { from = λ x is. absurd (none_set x is); all = λ w x here. absurd here }

pub joins_more : (bit_sets nodes : List ℕ) (v bit_set : ℕ) → JoinsBitSets bit_sets nodes bit_set → JoinsBitSets bit_sets (nodes ++ v ∷ []) (bit_or bit_set (bit_set_at bit_sets v))
joins_more bit_sets nodes v bit_set joins = record {
  from = λ x is. from x (set_cases bit_set (bit_set_at bit_sets v) x is);
  all = λ w x here is. all w x is (In-append_cases w nodes (v ∷ []) here);
}
  where
    from : (x : ℕ) → IsSet bit_set x ⊎ IsSet (bit_set_at bit_sets v) x → (w : ℕ) × In w (nodes ++ v ∷ []) × IsSet (bit_set_at bit_sets w) x
    from x (inl had) = let found = joins.from x had in (found.0, In-append_left found.0 nodes (v ∷ []) found.1, found.2)
    from x (inr new) = (v, In-append_right v nodes (v ∷ []) (inl refl), new)

    all : (w x : ℕ) → IsSet (bit_set_at bit_sets w) x → In w nodes ⊎ In w (v ∷ []) → IsSet (bit_or bit_set (bit_set_at bit_sets v)) x
    all w x is (inl here) = set_left bit_set (bit_set_at bit_sets v) x (joins.all w x here is)
    all w x is (inr (inl same)) = set_right bit_set (bit_set_at bit_sets v) x (subst (λ z. IsSet (bit_set_at bit_sets z) x) same is)
    all w x is (inr (inr never)) = absurd never

-- ---- what bit sets say at the end

pub bit_sets_end : (lists : List (List ℕ)) (inputs old given new : List ℕ) → length old ≡ length lists → ((v : ℕ) → bit_set_at old v ≡ 0) → GivesBits inputs old given → Settles lists given new
    → AreBitSets lists inputs new
bit_sets_end lists inputs old given new count empty gives settles = record {
  sound = settles.sound inputs (λ v x is. start v x (gives.from v x is));
  complete = λ v x w k at below chain. go k v x w at below chain;
}
  where
    start : (v x : ℕ) → IsSet (bit_set_at old v) x ⊎ (slice_get inputs x ≡ Some v) → LeadsToInput lists inputs v x
    start v x (inl had) = absurd (none_set x (subst (λ r. IsSet r x) (empty v) had))
    start v x (inr at) = (v, at, (zero, refl))

    go : (k v x w : ℕ) → slice_get inputs x ≡ Some w → w < length lists → Chain (edges lists) k v w → IsSet (bit_set_at new v) x
    go zero v x w at below same = subst (λ z. IsSet (bit_set_at new z) x) (sym same) (settles.kept w x (gives.all w x at (subst (λ n. w < n) (sym count) below)))
    go (suc k) v x w at below (t, need, chain) = settles.closed v t x need (go k t x w at below chain)

pub bit_sets_empty : (n : ℕ) (bit_sets : List ℕ) → bit_sets ≡ replicate n 0 → (v : ℕ) → bit_set_at bit_sets v ≡ 0
bit_sets_empty n bit_sets is v = ap (λ rs. bit_set_at rs v) is ∙ go n v
  where
    go : (n v : ℕ) → bit_set_at (replicate n 0) v ≡ 0
    go zero v = refl
    go (suc n) zero = refl
    go (suc n) (suc v) = go n v

-- ---- steps of loops

pub joins_step : (bit_sets nodes : List ℕ) (i bit_set r : ℕ) → i < length nodes → JoinsBitSets bit_sets (take i nodes) bit_set → r ≡ bit_set_at bit_sets (get_or nodes i 0) → JoinsBitSets bit_sets (take (i + 1) nodes) (bit_or bit_set r)
joins_step bit_sets nodes i bit_set r below joins is =
    subst (λ xs. JoinsBitSets bit_sets xs (bit_or bit_set r)) (sym (take_more nodes i 0 below))
    (subst (λ q. JoinsBitSets bit_sets (take i nodes ++ get_or nodes i 0 ∷ []) (bit_or bit_set q)) (sym is) (joins_more bit_sets (take i nodes) (get_or nodes i 0) bit_set joins))

pub joins_all : (bit_sets nodes : List ℕ) (i bit_set : ℕ) → length nodes ≤ i → JoinsBitSets bit_sets (take i nodes) bit_set → JoinsBitSets bit_sets nodes bit_set
joins_all bit_sets nodes i bit_set all joins = subst (λ xs. JoinsBitSets bit_sets xs bit_set) (take_all i nodes all) joins

module _ (lists : List (List ℕ)) (nodes : List ℕ) (i : ℕ) (old mid new : List ℕ) (c d e : Bool) (below : i < length nodes) (first : Spreads lists (take i nodes) old mid c)
    (next : Spreads lists (get_or nodes i 0 ∷ []) mid new d) where
  pub spread_changed : d ≡ true → e ≡ true → Spreads lists (take (i + 1) nodes) old new e
  spread_changed is now =
      subst (λ xs. Spreads lists xs old new e) (sym (take_more nodes i 0 below))
      (subst (Spreads lists (take i nodes ++ get_or nodes i 0 ∷ []) old new) (sym now)
      (spreads_changed lists (take i nodes) (get_or nodes i 0) old mid new c first (subst (Spreads lists (get_or nodes i 0 ∷ []) mid new) is next)))

  pub spread_unchanged : d ≡ false → e ≡ c → Spreads lists (take (i + 1) nodes) old new e
  spread_unchanged is now =
      subst (λ xs. Spreads lists xs old new e) (sym (take_more nodes i 0 below))
      (subst (Spreads lists (take i nodes ++ get_or nodes i 0 ∷ []) old new) (sym now)
      (spreads_unchanged lists (take i nodes) (get_or nodes i 0) old mid new c first (subst (Spreads lists (get_or nodes i 0 ∷ []) mid new) is next)))

pub spread_all : (lists : List (List ℕ)) (nodes : List ℕ) (i : ℕ) (old new : List ℕ) (c : Bool) → length nodes ≤ i → Spreads lists (take i nodes) old new c → Spreads lists nodes old new c
spread_all lists nodes i old new c all s = subst (λ xs. Spreads lists xs old new c) (take_all i nodes all) s

-- ---- a node that is found in a graph in code

module _ (graph : List NodeList) (bit_sets : List ℕ) (v : ℕ) (x : NodeList) (nodes : List ℕ) (more : ℕ) (below : v < length graph) (at : x ≡ get_or graph v x) (are : nodes ≡ x.nodes.items) (joins : JoinsBitSets bit_sets nodes more) where
  needs_are : nodes ≡ edges (lists_of graph) v
  needs_are = are ∙ ap (λ (y : NodeList). y.nodes.items) at ∙ sym (lists_at graph v x below)

  joins' : JoinsBitSets bit_sets (edges (lists_of graph) v) more
  joins' = subst (λ ns. JoinsBitSets bit_sets ns more) needs_are joins

  module _ (own : ℕ) (own_is : own ≡ bit_set_at bit_sets v) where
    pub spreads_found_same : bit_or own more ≡ own → Spreads (lists_of graph) (v ∷ []) bit_sets bit_sets false
    spreads_found_same same =
        spreads_same (lists_of graph) bit_sets v (needs_there (lists_of graph) bit_sets v more joins' (subst (λ r. bit_or r more ≡ r) own_is same))

    pub spreads_found : length bit_sets ≡ length graph → own < 2 ^ 64 → more < 2 ^ 64 → (bit_or own more ≡ own → ⊥) → Spreads (lists_of graph) (v ∷ []) bit_sets (set bit_sets v (bit_or own more)) true
    spreads_found count small little differs =
        subst (λ r. Spreads (lists_of graph) (v ∷ []) bit_sets (set bit_sets v (bit_or r more)) true) (sym own_is)
        (spreads_bit_set (lists_of graph) bit_sets v more joins' (subst (λ n. v < n) (sym count) below) (or_lt 64 (bit_set_at bit_sets v) more (subst (λ r. r < 2 ^ 64) own_is small) little)
        (subst (λ r. bit_or r more ≡ r → ⊥) own_is differs))

-- bit sets as they are made, given to one function after another, and written back
pub bit_sets_given : (graph : List NodeList) (inputs old lent given again new : List ℕ) (n : ℕ) → n ≡ length old → length old ≡ length graph → old ≡ replicate (length graph) 0
    → lent ≡ old → again ≡ take n (given ++ drop (length given) old) → GivesBits inputs lent given → Settles (lists_of graph) again new
    → AreBitSets (lists_of graph) inputs (take n (new ++ drop (length new) (take n (given ++ drop (length given) old))))
bit_sets_given graph inputs old lent given again new n size count fresh is next gives settles =
    let gives' : GivesBits inputs old given = subst (λ rs. GivesBits inputs rs given) is gives in
    let first : take n (given ++ drop (length given) old) ≡ given = written_back n given old size gives'.count in
    let settles' : Settles (lists_of graph) given new = subst (λ rs. Settles (lists_of graph) rs new) (next ∙ first) settles in
    let second : take n (new ++ drop (length new) given) ≡ new = written_back n new given (size ∙ sym gives'.count) settles'.count in
    subst (AreBitSets (lists_of graph) inputs) (sym (ap (λ rs. take n (new ++ drop (length new) rs)) first ∙ second))
    (bit_sets_end (lists_of graph) inputs old given new (count ∙ sym (length-lists graph)) (bit_sets_empty (length graph) old fresh) gives' settles')
