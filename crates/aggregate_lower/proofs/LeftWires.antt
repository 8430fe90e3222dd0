-- What is left of operations once the wires of those that only join have left: the others, each value in its place.
use Rattle.std.proofs.Common.{◌≡◌, ℕ, zero, suc, ◌+◌, ◌-◌, ◌<◌, Bool, true, false, List, [], ◌∷◌, length, map, Some, slice_get, refl, sym, ap, ap₂, subst, ◌∙◌, arith, inl, inr, option_map}
use Rattle.wiring.specs.Wiring.{In}
use Rattle.wiring.proofs.Members.{In-slice_get, map_same}
use Rattle.hw_model.specs.Design.{Ref, Op, OpResult, result_type}
use Rattle.hw_model.specs.Design.Ref.{result}
use Rattle.edit_laws.specs.Edit.{retarget, is_anchor}
use Rattle.edit_laws.specs.Falls.{LocalHeight}
use Rattle.edit_laws.proofs.Uses.{operand_lower}
use Rattle.inline_laws.proofs.WithoutWires.{IsBareWire}
use Rattle.aggregate_laws.specs.Leaves.{part}
use Rattle.aggregate_lower.specs.Targets.{MadeOp, wire_flags, ops_made, ops_kept, targets_from, is_flagged, target_ref, moved_ref, IsNamed, Places, AreSettled}
use Rattle.aggregate_lower.specs.Targets.MadeOp.{wire, kept}
use Rattle.aggregate_lower.proofs.Erasing.{out, Goes, all_out}
use Rattle.aggregate_lower.proofs.WirePlaces.{placed, placed_wire, placed_further, placed_kept, placed_past, places, placed_named}
use Rattle.aggregate_lower.proofs.Settled.{moved_place}

-- ---- lists

pub flags_many : (xs : List MadeOp) → length (wire_flags xs) ≡ length (ops_made xs)
flags_many [] = refl
flags_many (wire o ∷ xs) = ap suc (flags_many xs)
flags_many (kept o ∷ xs) = ap suc (flags_many xs)

pub targets_many : (n : ℕ) (xs : List MadeOp) → length (targets_from n xs) ≡ length (wire_flags xs)
targets_many n [] = refl
targets_many n (wire o ∷ xs) = ap suc (targets_many n xs)
targets_many n (kept o ∷ xs) = ap suc (targets_many (suc n) xs)

kept_made : (xs : List MadeOp) (o : Op) → In o (ops_kept xs) → In o (ops_made xs)
kept_made [] o here = absurd here
kept_made (wire p ∷ xs) o here = inr (kept_made xs o here)
kept_made (kept p ∷ xs) o (inl same) = inl same
kept_made (kept p ∷ xs) o (inr here) = inr (kept_made xs o here)

-- what is no wire goes to its own place
own_place : (xs : List MadeOp) (n j : ℕ) → j < length (wire_flags xs) → is_flagged (wire_flags xs) j ≡ false → (m : ℕ) × (m < n + length (ops_kept xs)) × (part (targets_from n xs) j ≡ result m 0)
own_place [] n j within is = absurd (omega (arith, within))
own_place (wire o ∷ xs) n zero within is = cc
own_place (kept o ∷ xs) n zero within is = (n, omega arith, refl)
own_place (wire o ∷ xs) n (suc j) within is = own_place xs n j (omega (arith, within)) is
own_place (kept o ∷ xs) n (suc j) within is = let found = own_place xs (suc n) j (omega (arith, within)) is in let less = found.1 in (found.0, omega (arith, less), found.2)

-- a wire goes to what it carries
record IsWireOf (xs : List MadeOp) (n j : ℕ) : Type 0 where
  pub op : Op
  pub there : slice_get (ops_made xs) j ≡ Some op
  pub among : In (wire op) xs
  pub target : part (targets_from n xs) j ≡ part op.operands 0

wire_of : (xs : List MadeOp) (n j : ℕ) → is_flagged (wire_flags xs) j ≡ true → IsWireOf xs n j
wire_of [] n j is = cc
wire_of (wire o ∷ xs) n zero is = record { op = o; there = refl; among = inl refl; target = refl }
wire_of (kept o ∷ xs) n zero is = cc
wire_of (wire o ∷ xs) n (suc j) is = let w = wire_of xs n j is in record { op = w.op; there = w.there; among = inr w.among; target = w.target }
wire_of (kept o ∷ xs) n (suc j) is = let w = wire_of xs (suc n) j is in record { op = w.op; there = w.there; among = inr w.among; target = w.target }

pub retarget_same : (f g : Ref → Ref) (os : List Op) → ((o : Op) (r : Ref) → In o os → In r o.operands → f r ≡ g r) → map (retarget f) os ≡ map (retarget g) os
retarget_same f g [] same = refl
retarget_same f g (o ∷ os) same =
    ap₂ (λ rs xs. record o { operands = rs } ∷ xs) (map_same f g o.operands (λ r here. same o r (inl refl) here)) (retarget_same f g os (λ p r there here. same p r (inr there) here))

-- ---- where all values go

module _ (flags : List Bool) (ts : List Ref) (count : ℕ) (h : Ref → ℕ) (lower : (j : ℕ) → is_flagged flags j ≡ true → h (part ts j) < h (result j 0)) where
  abbrev place : Ref → Ref
  place = placed flags ts count h lower

  own_ref : (k n : ℕ) → target_ref k false (result n 0) ≡ result n k
  own_ref zero n = refl
  own_ref (suc k) n = refl

  all_go : (ys : List MadeOp) (pos n : ℕ) → ((m : ℕ) → is_flagged flags (pos + m) ≡ is_flagged (wire_flags ys) m) → ((m : ℕ) → part ts (pos + m) ≡ part (targets_from n ys) m)
      → length flags ≡ pos + length (wire_flags ys) → count ≡ n + length (ops_kept ys) → Goes place h pos n ys
  all_go [] pos n flag target size kept_size = λ m k.
      let number : count + ((pos + m) - length flags) ≡ n + m = omega (arith, size, kept_size) in
      placed_past flags ts count h lower (pos + m) k (omega (arith, size)) ∙ ap (λ x. result x k) number
  all_go (wire o ∷ ys) pos n flag target size kept_size =
      let here : pos + 0 ≡ pos = omega arith in
      let is : is_flagged flags pos ≡ true = sym (ap (is_flagged flags) here) ∙ flag 0 in
      let takes : part ts pos ≡ part o.operands 0 = sym (ap (part ts) here) ∙ target 0 in (
        placed_wire flags ts count h lower pos is ∙ ap place takes,
        subst (λ r. h r < h (result pos 0)) takes (lower pos is),
        (λ k. placed_further flags ts count h lower pos k is),
        all_go ys (suc pos) n (λ m. let next : suc pos + m ≡ pos + suc m = omega arith in ap (is_flagged flags) next ∙ flag (suc m))
            (λ m. let next : suc pos + m ≡ pos + suc m = omega arith in ap (part ts) next ∙ target (suc m)) (omega (arith, size)) kept_size,
      )
  all_go (kept o ∷ ys) pos n flag target size kept_size =
      let here : pos + 0 ≡ pos = omega arith in
      let is : is_flagged flags pos ≡ false = sym (ap (is_flagged flags) here) ∙ flag 0 in
      let takes : part ts pos ≡ result n 0 = sym (ap (part ts) here) ∙ target 0 in (
        (λ k. placed_kept flags ts count h lower pos k (omega (arith, size)) is ∙ ap (target_ref k false) takes ∙ own_ref k n),
        all_go ys (suc pos) (suc n) (λ m. let next : suc pos + m ≡ pos + suc m = omega arith in ap (is_flagged flags) next ∙ flag (suc m))
            (λ m. let next : suc pos + m ≡ pos + suc m = omega arith in ap (part ts) next ∙ target (suc m)) (omega (arith, size)) (omega (arith, kept_size)),
      )

-- ---- what is left

-- the wires leave, and what is left has its values in their places, which are there
pub record LeftOf (xs : List MadeOp) : Type 0 where
  pub places_are : Places (wire_flags xs) (targets_from 0 xs)
  pub left : out 0 (wire_flags xs) (ops_made xs) ≡ map (retarget places_are.place) (ops_kept xs)
  pub named : (o : Op) (r : Ref) → In o (ops_kept xs) → In r o.operands → IsNamed (length (wire_flags xs)) r
  pub there : (r : Ref) → IsNamed (length (wire_flags xs)) r → IsNamed (length (ops_kept xs)) (places_are.place r)

module _ (xs : List MadeOp) (h : Ref → ℕ) (local : LocalHeight (ops_made xs) h) (bare : (o : Op) → In (wire o) xs → IsBareWire o)
    (below : (o : Op) (r : Ref) → In o (ops_made xs) → In r o.operands → IsNamed (length (ops_made xs)) r) where
  its_operand : (o : Op) → IsBareWire o → In (part o.operands 0) o.operands
  its_operand o is = subst (λ (rs : List Ref). In (part rs 0) rs) (sym is.operand_is) (inl refl)

  its_type : (o : Op) (w : IsBareWire o) → result_type o 0 ≡ Some w.type
  its_type o w = sym (type_of_first o.results) ∙ ap (λ ts. slice_get ts 0) w.result_is
    where
      type_of_first : (rs : List OpResult) → slice_get (map (λ (r : OpResult). r.type) rs) 0 ≡ option_map (λ (r : OpResult). r.type) (slice_get rs 0)
      type_of_first [] = refl
      type_of_first (r ∷ rs) = refl

  no_anchor : (o : Op) → IsBareWire o → is_anchor o ≡ false
  no_anchor o w = subst (λ k. is_anchor (record o { kind = k }) ≡ false) (sym w.kind_is) refl

  lower : (j : ℕ) → is_flagged (wire_flags xs) j ≡ true → h (part (targets_from 0 xs) j) < h (result j 0)
  lower j is =
      let w = wire_of xs 0 j is in
      let its = bare w.op w.among in
      subst (λ r. h r < h (result j 0)) (sym w.target)
      (operand_lower (ops_made xs) h local j 0 w.op its.type w.there (no_anchor w.op its) (its_type w.op its) (part w.op.operands 0) (its_operand w.op its))

  named_there : (r : Ref) → IsNamed (length (ops_made xs)) r → IsNamed (length (wire_flags xs)) r
  named_there r known = subst (λ n. IsNamed n r) (sym (flags_many xs)) known

  carried_named : (j : ℕ) → is_flagged (wire_flags xs) j ≡ true → IsNamed (length (wire_flags xs)) (part (targets_from 0 xs) j)
  carried_named j is =
      let w = wire_of xs 0 j is in
      let its = bare w.op w.among in
      subst (IsNamed (length (wire_flags xs))) (sym w.target)
      (named_there (part w.op.operands 0) (below w.op (part w.op.operands 0) (In-slice_get w.op (ops_made xs) j w.there) (its_operand w.op its)))

  pub left_of : LeftOf xs
  left_of = record {
    places_are = places (wire_flags xs) (targets_from 0 xs) (length (ops_kept xs)) h lower carried_named;
    left = all_out (length xs) xs refl [] (placed (wire_flags xs) (targets_from 0 xs) (length (ops_kept xs)) h lower) h local.lowest refl (λ j. refl) (λ j k less. absurd (omega (arith, less)))
        (all_go (wire_flags xs) (targets_from 0 xs) (length (ops_kept xs)) h lower xs 0 0 (λ m. let same : 0 + m ≡ m = omega arith in ap (is_flagged (wire_flags xs)) same)
        (λ m. let same : 0 + m ≡ m = omega arith in ap (part (targets_from 0 xs)) same) (omega arith) (omega arith));
    named = λ o r among here. named_there r (below o r (kept_made xs o among) here);
    there = placed_named (wire_flags xs) (targets_from 0 xs) (length (ops_kept xs)) h lower carried_named own;
  }
    where
      own : (j : ℕ) → j < length (wire_flags xs) → is_flagged (wire_flags xs) j ≡ false → (m : ℕ) × (m < length (ops_kept xs)) × (part (targets_from 0 xs) j ≡ result m 0)
      own j within is = let found = own_place xs 0 j within is in let less = found.1 in (found.0, omega (arith, less), found.2)

-- settled values are in their places
pub settled_left : (xs : List MadeOp) (known : LeftOf xs) (new : List Ref) → AreSettled (wire_flags xs) (targets_from 0 xs) known.places_are new
    → map (retarget (moved_ref (wire_flags xs) new)) (ops_kept xs) ≡ out 0 (wire_flags xs) (ops_made xs)
settled_left xs known new settled =
    retarget_same (moved_ref (wire_flags xs) new) known.places_are.place (ops_kept xs)
    (λ o r among here. moved_place (wire_flags xs) (targets_from 0 xs) known.places_are new settled r (known.named o r among here))
    ∙ sym known.left
