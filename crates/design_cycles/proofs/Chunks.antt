-- The inputs of outputs, some inputs at a time.
use Rattle.std.proofs.Common.{◌≡◌, ◌⊎◌, ℕ, zero, suc, ◌+◌, ◌-◌, ◌/◌, ◌^◌, bit_and, ◌<◌, ◌≤◌, ◌≢◌, Bool, true, false, eqb, List, [], ◌∷◌, ◌++◌, length, get_or, set, slice_get, Option, Some, None, refl}
use Rattle.std.proofs.Common.{sym, ap, subst, ◌∙◌, inl, inr, arith, append_assoc, length-set}
use Rattle.std.specs.Int.{bit_at}
use Rattle.std.proofs.lemmas.Bool.{eqb-true, eqb-false}
use Rattle.std.proofs.lemmas.List.{append-nil, length-append, get_or-set_same, get_or-set_other}
use Rattle.std.proofs.lemmas.Option.{slice_get_within}
use Rattle.std.proofs.lemmas.Nat.Bits.{bit_at-zero, shr_and_one}
use Rattle.wiring.specs.Wiring.{In}
use Rattle.wiring.proofs.Members.{In-append_left, In-append_right, In-append_cases}
use Rattle.wiring.proofs.Lists.{slice_get-append_left, slice_get-append_right, slice_get-append_past, slice_get-append_some}
use Rattle.graphs.specs.Graphs.{lists_of, edges, times_over}
use Rattle.design_cycles.specs.Graphs.{LeadsTo}
use Rattle.graphs.specs.declared.graph.NodeList.{NodeList}
use Rattle.design_cycles.specs.BitSets.{bit_set_at, bit_set_of, IsSet, AreBitSets, AddsBits, AddsBitSets}
use Rattle.design_cycles.specs.Summing.{AreInputs, AreOutputs}
use Rattle.graphs.proofs.Marking.{lists_at, length-lists}

-- ---- the numbers of a bit set's bits

pub bits_none : (bit_set first : ℕ) (numbers : List ℕ) → AddsBits bit_set first 0 numbers numbers
bits_none bit_set first numbers = record {
  kept = λ y here. here;
  from = λ y here. inl here;
  all = λ x below. absurd (omega arith);
}

pub bits_empty : (bit_set first count : ℕ) (numbers : List ℕ) → bit_set ≡ 0 → AddsBits bit_set first count numbers numbers
bits_empty bit_set first count numbers empty = record {
  kept = λ y here. here;
  from = λ y here. inl here;
  all = λ x below set. absurd (never x (ap (λ r. bit_at r x) (sym empty) ∙ set.is_one));
}
  where
    never : (x : ℕ) → bit_at 0 x ≡ 1 → ⊥
    never x is = let e : bit_at 0 x ≡ 0 = bit_at-zero x in cc

module _ (bit_set first count : ℕ) (old new : List ℕ) (adds : AddsBits bit_set first count old new) where
  later : (y : ℕ) → (x : ℕ) × (y ≡ first + x) × (x < count) × IsSet bit_set x → (x : ℕ) × (y ≡ first + x) × (x < count + 1) × IsSet bit_set x
  later y (x, is, below, set) = (x, is, omega arith, set)

  pub bits_set : (more : List ℕ) → IsSet bit_set count → more ≡ new ++ (first + count) ∷ [] → AddsBits bit_set first (count + 1) old more
  bits_set more set is = subst (AddsBits bit_set first (count + 1) old) (sym is) (record {
    kept = λ y here. In-append_left y new ((first + count) ∷ []) (adds.kept y here);
    from = λ y here. from y (In-append_cases y new ((first + count) ∷ []) here);
    all = λ x below own. all x own (grind arith);
  })
    where
      from' : (y : ℕ) → In y old ⊎ ((x : ℕ) × (y ≡ first + x) × (x < count) × IsSet bit_set x) → In y old ⊎ ((x : ℕ) × (y ≡ first + x) × (x < count + 1) × IsSet bit_set x)
      from' y (inl had) = inl had
      from' y (inr one) = inr (later y one)

      from : (y : ℕ) → In y new ⊎ In y ((first + count) ∷ []) → In y old ⊎ ((x : ℕ) × (y ≡ first + x) × (x < count + 1) × IsSet bit_set x)
      from y (inl here) = from' y (adds.from y here)
      from y (inr (inl same)) = inr (count, same, omega arith, set)
      from y (inr (inr never)) = absurd never

      all : (x : ℕ) → IsSet bit_set x → (x < count) ⊎ (x ≡ count) → In (first + x) (new ++ (first + count) ∷ [])
      all x own (inl below) = In-append_left (first + x) new ((first + count) ∷ []) (adds.all x below own)
      all x own (inr same) = In-append_right (first + x) new ((first + count) ∷ []) (inl (ap (λ n. first + n) same))

  pub bits_open : (more : List ℕ) → (IsSet bit_set count → ⊥) → more ≡ new → AddsBits bit_set first (count + 1) old more
  bits_open more unset is = subst (AddsBits bit_set first (count + 1) old) (sym is) (record {
    kept = adds.kept;
    from = λ y here. from y (adds.from y here);
    all = λ x below own. all x own (grind arith);
  })
    where
      from : (y : ℕ) → In y old ⊎ ((x : ℕ) × (y ≡ first + x) × (x < count) × IsSet bit_set x) → In y old ⊎ ((x : ℕ) × (y ≡ first + x) × (x < count + 1) × IsSet bit_set x)
      from y (inl had) = inl had
      from y (inr one) = inr (later y one)

      all : (x : ℕ) → IsSet bit_set x → (x < count) ⊎ (x ≡ count) → In (first + x) new
      all x own (inl below) = adds.all x below own
      all x own (inr same) = absurd (unset (subst (IsSet bit_set) same own))

-- the test of one bit in code
pub bits_step_set : (bit_set first count : ℕ) (old new more : List ℕ) → AddsBits bit_set first count old new → bit_and (bit_set / 2 ^ count) 1 ≡ 1 → more ≡ new ++ (first + count) ∷ []
    → AddsBits bit_set first (count + 1) old more
bits_step_set bit_set first count old new more adds is now = bits_set bit_set first count old new adds more (record { is_one = sym (shr_and_one bit_set count) ∙ is }) now

pub bits_step_open : (bit_set first count : ℕ) (old new more : List ℕ) → AddsBits bit_set first count old new → (bit_and (bit_set / 2 ^ count) 1 ≡ 1 → ⊥) → more ≡ new
    → AddsBits bit_set first (count + 1) old more
bits_step_open bit_set first count old new more adds is now = bits_open bit_set first count old new adds more (λ set. is (shr_and_one bit_set count ∙ set.is_one)) now

-- ---- one list after another

-- the numbers of bits are in the lists before a position, and those from there on are as they were
pub record HasAdded (bit_sets : List ℕ) (nodes : List (Option ℕ)) (first count k : ℕ) (old new : List (List ℕ)) : Type 0 where
  pub size : length new ≡ length old
  pub added : (j : ℕ) (from : Option ℕ) → j < k → slice_get nodes j ≡ Some from → AddsBits (bit_set_of bit_sets from) first count (edges old j) (edges new j)
  pub rest : (j : ℕ) → k ≤ j → edges new j ≡ edges old j

pub added_none : (bit_sets : List ℕ) (nodes : List (Option ℕ)) (first count : ℕ) (old : List (List ℕ)) → HasAdded bit_sets nodes first count 0 old old
added_none bit_sets nodes first count old = record {
  size = refl;
  added = λ j from below at. absurd (omega arith);
  rest = λ j past. refl;
}

pub added_more : (bit_sets : List ℕ) (nodes : List (Option ℕ)) (first count k bit_set : ℕ) (node : Option ℕ) (old mid new : List (List ℕ)) → HasAdded bit_sets nodes first count k old mid
    → slice_get nodes k ≡ Some node → bit_set ≡ bit_set_of bit_sets node → length new ≡ length mid → ((j : ℕ) → j ≢ k → edges new j ≡ edges mid j) → AddsBits bit_set first count (edges mid k) (edges new k)
    → HasAdded bit_sets nodes first count (k + 1) old new
added_more bit_sets nodes first count k bit_set node old mid new has at is size others adds = record {
  size = size ∙ has.size;
  added = λ j from below there. added j from below there (eqb j k) refl;
  rest = λ j past. others j (omega arith) ∙ has.rest j (omega arith);
}
  where
    here : AddsBits (bit_set_of bit_sets node) first count (edges old k) (edges new k)
    here = subst (λ r. AddsBits r first count (edges old k) (edges new k)) is (subst (λ xs. AddsBits bit_set first count xs (edges new k)) (has.rest k (omega arith)) adds)

    added : (j : ℕ) (from : Option ℕ) → j < k + 1 → slice_get nodes j ≡ Some from → (b : Bool) → eqb j k ≡ b → AddsBits (bit_set_of bit_sets from) first count (edges old j) (edges new j)
    added j from below there true e =
        let same : j ≡ k = eqb-true j k e in
        let one : Some node ≡ Some from = sym at ∙ ap (slice_get nodes) (sym same) ∙ there in
        let node_is : node ≡ from = cc in
        subst (λ i. AddsBits (bit_set_of bit_sets from) first count (edges old i) (edges new i)) (sym same) (subst (λ n. AddsBits (bit_set_of bit_sets n) first count (edges old k) (edges new k)) node_is here)
    added j from below there false e =
        let other : j ≢ k = eqb-false j k e in
        subst (AddsBits (bit_set_of bit_sets from) first count (edges old j)) (sym (others j other)) (has.added j from (omega arith) there)

pub added_all : (bit_sets : List ℕ) (nodes : List (Option ℕ)) (first count k : ℕ) (old new : List (List ℕ)) → length nodes ≤ k → HasAdded bit_sets nodes first count k old new
    → AddsBitSets bit_sets nodes first count old new
added_all bit_sets nodes first count k old new all has = record {
  size = has.size;
  each = λ j from at. let below : j < length nodes = slice_get_within nodes j from at in has.added j from (omega arith) at;
}

-- ---- lists in code

lists_set : (graph : List NodeList) (k : ℕ) (y : NodeList) → lists_of (set graph k y) ≡ set (lists_of graph) k y.nodes.items
lists_set [] k y = refl
lists_set (x ∷ xs) zero y = refl
lists_set (x ∷ xs) (suc k) y = ap (λ ls. x.nodes.items ∷ ls) (lists_set xs k y)

pub added_step : (bit_sets : List ℕ) (nodes : List (Option ℕ)) (first count k bit_set : ℕ) (node : Option ℕ) (old : List (List ℕ)) (mid : List NodeList) (x y : NodeList)
    → HasAdded bit_sets nodes first count k old (lists_of mid) → k < length mid → x ≡ get_or mid k x → slice_get nodes k ≡ Some node → bit_set ≡ bit_set_of bit_sets node
    → AddsBits bit_set first count x.nodes.items y.nodes.items → HasAdded bit_sets nodes first count (k + 1) old (lists_of (set mid k y))
added_step bit_sets nodes first count k bit_set node old mid x y has below at there is adds =
    subst (HasAdded bit_sets nodes first count (k + 1) old) (sym (lists_set mid k y))
    (added_more bit_sets nodes first count k bit_set node old (lists_of mid) (set (lists_of mid) k y.nodes.items) has there is (length-set (lists_of mid) k y.nodes.items)
    (λ j other. get_or-set_other (lists_of mid) k j y.nodes.items [] other) here)
  where
    within : k < length (lists_of mid)
    within = subst (λ n. k < n) (sym (length-lists mid)) below

    here : AddsBits bit_set first count (edges (lists_of mid) k) (edges (set (lists_of mid) k y.nodes.items) k)
    here =
        subst (λ ns. AddsBits bit_set first count ns (edges (set (lists_of mid) k y.nodes.items) k)) (ap (λ (z : NodeList). z.nodes.items) at ∙ sym (lists_at mid k x below))
        (subst (AddsBits bit_set first count x.nodes.items) (sym (get_or-set_same (lists_of mid) k y.nodes.items [] within)) adds)

-- ---- some inputs more

module _ (lists : List (List ℕ)) (done part bit_sets : List ℕ) (are : AreBitSets lists part bit_sets) (from : Option ℕ) (first : ℕ) (counted : first ≡ length done) (old new : List ℕ)
    (inputs : AreInputs lists done from old) (adds : AddsBits (bit_set_of bit_sets from) first (length part) old new) where
  of_bit : (node : Option ℕ) → from ≡ node → (x y : ℕ) → y ≡ first + x → IsSet (bit_set_of bit_sets node) x → (v : ℕ) × (slice_get (done ++ part) y ≡ Some v) × LeadsTo lists from v
  of_bit None is x y position set = let e : bit_at 0 x ≡ 0 = bit_at-zero x in let f : bit_at 0 x ≡ 1 = set.is_one in cc
  of_bit (Some a) is x y position set =
      let leads = are.sound a x set in
      let spot : y ≡ length done + x = omega arith in
      (leads.0, ap (slice_get (done ++ part)) spot ∙ slice_get-append_right done part x ∙ leads.1, (a, is, leads.2))

  sound : (y : ℕ) → In y old ⊎ ((x : ℕ) × (y ≡ first + x) × (x < length part) × IsSet (bit_set_of bit_sets from) x) → (v : ℕ) × (slice_get (done ++ part) y ≡ Some v) × LeadsTo lists from v
  sound y (inl had) = let found = inputs.sound y had in (found.0, slice_get-append_some done part y found.0 found.1, found.2)
  sound y (inr (x, position, below, set)) = of_bit from refl x y position set

  complete : (y v : ℕ) → slice_get (done ++ part) y ≡ Some v → v < length lists → LeadsTo lists from v → (y < length done) ⊎ (length done ≤ y) → In y new
  complete y v at below leads (inl before) = adds.kept y (inputs.complete y v (sym (slice_get-append_left done part y before) ∙ at) below leads)
  complete y v at below (a, is, (k, chain)) (inr past) =
      let x : ℕ = y - length done in
      let there : slice_get part x ≡ Some v = sym (slice_get-append_past done part y past) ∙ at in
      let set : IsSet (bit_set_at bit_sets a) x = are.complete a x v k there below chain in
      let within : x < length part = slice_get_within part x v there in
      let spot : first + x ≡ y = omega arith in
      subst (λ n. In n new) spot (adds.all x within (subst (λ n. IsSet (bit_set_of bit_sets n) x) (sym is) set))

  pub inputs_more : AreInputs lists (done ++ part) from new
  inputs_more = record {
    sound = λ y here. sound y (adds.from y here);
    complete = λ y v at below leads. complete y v at below leads (grind arith);
  }

-- the lists of outputs, where some inputs are left
pub record HasListed (lists : List (List ℕ)) (inputs : List ℕ) (nodes : List (Option ℕ)) (left : List ℕ) (first : ℕ) (outputs : List (List ℕ)) : Type 0 where
  pub done : List ℕ
  pub parts : inputs ≡ done ++ left
  pub count : first ≡ length done
  pub listed : AreOutputs lists done nodes outputs

edges_empty : (n k : ℕ) → edges (times_over n []) k ≡ []
edges_empty zero k = refl
edges_empty (suc n) zero = refl
edges_empty (suc n) (suc k) = edges_empty n k

length-times_over : (n : ℕ) (xs : List ℕ) → length (times_over n xs) ≡ n
length-times_over zero xs = refl
length-times_over (suc n) xs = ap suc (length-times_over n xs)

pub listed_none : (lists : List (List ℕ)) (inputs : List ℕ) (nodes : List (Option ℕ)) (n : ℕ) (outputs : List (List ℕ)) → n ≡ length nodes → outputs ≡ times_over n []
    → HasListed lists inputs nodes inputs 0 outputs
listed_none lists inputs nodes n outputs size are = record {
  done = [];
  parts = refl;
  count = refl;
  listed = subst (AreOutputs lists [] nodes) (sym are) (record {
    count = length-times_over n [] ∙ size;
    each = λ k from at. subst (AreInputs lists [] from) (sym (edges_empty n k)) (record { sound = λ x here. absurd here; complete = λ x v there. cc });
  });
}

pub listed_more : (lists : List (List ℕ)) (inputs : List ℕ) (nodes : List (Option ℕ)) (left part rest : List ℕ) (first : ℕ) (old new : List (List ℕ)) (bit_sets : List ℕ)
    → HasListed lists inputs nodes left first old → left ≡ part ++ rest → AreBitSets lists part bit_sets → AddsBitSets bit_sets nodes first (length part) old new
    → HasListed lists inputs nodes rest (first + length part) new
listed_more lists inputs nodes left part rest first old new bit_sets has split are adds = record {
  done = has.done ++ part;
  parts = has.parts ∙ ap (λ xs. has.done ++ xs) split ∙ sym (append_assoc has.done part rest);
  count = ap (λ n. n + length part) has.count ∙ sym (length-append has.done part);
  listed = record {
    count = adds.size ∙ has.listed.count;
    each = λ k from at. inputs_more lists has.done part bit_sets are from first has.count (edges old k) (edges new k) (has.listed.each k from at) (adds.each k from at);
  };
}

pub listed_all : (lists : List (List ℕ)) (inputs : List ℕ) (nodes : List (Option ℕ)) (left : List ℕ) (first : ℕ) (outputs : List (List ℕ)) → left ≡ [] → HasListed lists inputs nodes left first outputs
    → AreOutputs lists inputs nodes outputs
listed_all lists inputs nodes left first outputs none has =
    subst (λ xs. AreOutputs lists xs nodes outputs) (sym (has.parts ∙ ap (λ xs. has.done ++ xs) none ∙ append-nil has.done)) has.listed
