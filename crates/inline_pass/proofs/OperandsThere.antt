-- The operands of a body in which an instance is inlined are there.
use Rattle.std.proofs.Common.{◌≡◌, ◌⊎◌, ℕ, zero, suc, ◌+◌, ◌<◌, ◌≤◌, Bool, true, false, cond, List, [], ◌∷◌, ◌++◌, length, map, take, drop, remove, Option, Some, None, slice_get, refl, sym, ap, ap₂, subst, ◌∙◌, inl, inr, arith, option_map, option_and_then}
use Rattle.std.proofs.lemmas.List.{length-map, length-append}
use Rattle.std.proofs.lemmas.Option.{slice_get-map, slice_get_within}
use Rattle.wiring.specs.Wiring.{In}
use Rattle.wiring.proofs.Options.{some_or_none}
use Rattle.wiring.proofs.Lists.{slice_get_some, slice_get-append_left, slice_get-take}
use Rattle.wiring.proofs.Members.{from_In-map, from_In-take, from_In-drop, In-append_cases, In-slice_get}
use Rattle.hw_model.specs.Types.{HwType}
use Rattle.hw_model.specs.Design.{Ref, Port, Op, OpResult, Location, Module, result_type, output_refs}
use Rattle.hw_model.specs.Design.Ref.{port, result, undefined}
use Rattle.hw_model.specs.Flat.{port_ref, operand_for, input_count}
use Rattle.edit_laws.specs.Edit.{retarget}
use Rattle.edit_laws.specs.Laws.{down, ref_after_erase, without, erase_op}
use Rattle.edit_laws.proofs.Positions.{get_taken}
use Rattle.inline_laws.specs.Inline.{Side, side, ref_or_undefined, wire_count, moved_count, wire_result, outer_result, outer_ref, inner_result, inner_ref, wire_op, wire_ops, before_output, inlined_wires, inlined_ops, inline_op}
use Rattle.inline_laws.specs.Inline.Side.{in_first, in_second}
use Rattle.inline_laws.specs.Unwire.{operand_at, unwire}
use Rattle.inline_laws.proofs.Sides.{from_prefix, from_back}
use Rattle.inline_laws.proofs.Ends.{wires_length}
use Rattle.inline_laws.proofs.Origins.{typed_within}
use Rattle.inline_laws.proofs.Follows.{length_before}
use Rattle.inline_pass.specs.Renaming.{renamed}
use Rattle.inline_pass.specs.Flattening.{instance_name, inlined_at}
use Rattle.inline_pass.specs.OperandsThere.{IsResultThere, IsThereFrom, HaveThereFrom}
use Rattle.inline_pass.proofs.ForwardedValues.{was_after}
use Rattle.inline_pass.proofs.ForwardedInlining.{past_ops}

pub none_there : (p : ℕ) (os : List Op) → IsThereFrom p os undefined
none_there p os j k is = cc

pub joined_named : (ps : List Port) (rs : List Ref) (j : ℕ) (r : Ref) → port_ref ps rs j ≡ Some r → In r rs
joined_named ps rs j r is = go (slice_get ps j) is
  where
    go : (x : Option Port) → operand_for x rs (input_count (take j ps)) ≡ Some r → In r rs
    go None e = cc
    go (Some q) e = pick q.is_output e
      where
        pick : (b : Bool) → cond b None (slice_get rs (input_count (take j ps))) ≡ Some r → In r rs
        pick true e = cc
        pick false e = In-slice_get r rs (input_count (take j ps)) e

-- ---- a wire at position p goes, with what is done before position suc q

module _ (p q : ℕ) (past : p ≤ q) (os : List Op) where
  abbrev pub f : Ref → Ref
  f = without p (without p undefined (operand_at p os))

  abbrev pub erased : List Op
  erased = erase_op p (operand_at p os) os

  taken_there : (a b k : ℕ) → down p a ≡ Some b → IsResultThere (suc q) os a k → IsResultThere q erased b k
  taken_there a b k goes at = record {
    op = retarget f at.op;
    there = slice_get-map (retarget f) (remove os p) b ∙ ap (option_map (retarget f)) (get_taken os p a b goes ∙ at.there);
    within = λ later. at.within (let h = was_after p a b goes (omega (arith, past, later)) in omega (arith, h, later));
  }

  lowered_there : (x : Ref) → IsThereFrom q erased x → (r : Ref) → IsThereFrom (suc q) os r → IsThereFrom q erased (without p x r)
  lowered_there x own (port n) at j k is = cc
  lowered_there x own undefined at j k is = cc
  lowered_there x own (result a l) at j k is = go (down p a) refl l is (at a l refl)
    where
      go : (z : Option ℕ) → down p a ≡ z → (l : ℕ) → ref_after_erase z x l ≡ result j k → IsResultThere (suc q) os a l → IsResultThere q erased j k
      go None goes zero e was = own j k e
      go None goes (suc l) e was = cc
      go (Some b) goes l e was =
          let first : b ≡ j = cc in
          let second : l ≡ k = cc in
          subst (λ n. IsResultThere q erased n k) first (subst (IsResultThere q erased b) second (taken_there a b l goes was))

  pub erased_there : HaveThereFrom (suc q) os → HaveThereFrom q erased
  erased_there all o r here named =
      let from = from_In-map (retarget f) o (remove os p) here in
      let was = from_In-map f r from.0.operands (subst (λ (z : Op). In r z.operands) from.2 named) in
      subst (IsThereFrom q erased) (sym was.2)
      (lowered_there (without p undefined (operand_at p os)) (lowered_there undefined (none_there q erased) (operand_at p os) (carried (slice_get os p) refl)) was.0
      (all from.0 was.0 (still from.0 os p from.1) was.1))
    where
      still : (z : Op) (xs : List Op) (n : ℕ) → In z (remove xs n) → In z xs
      still z [] zero at = absurd at
      still z [] (suc n) at = absurd at
      still z (x ∷ xs) zero at = inr at
      still z (x ∷ xs) (suc n) (inl same) = inl same
      still z (x ∷ xs) (suc n) (inr at) = inr (still z xs n at)

      carried : (z : Option Op) → slice_get os p ≡ z → IsThereFrom (suc q) os (ref_or_undefined (option_and_then (λ (y : Op). slice_get y.operands 0) z))
      carried None at = none_there (suc q) os
      carried (Some z) at = first z.operands (λ y named. all z y (In-slice_get z os p at) named)
        where
          first : (rs : List Ref) → ((y : Ref) → In y rs → IsThereFrom (suc q) os y) → IsThereFrom (suc q) os (ref_or_undefined (slice_get rs 0))
          first [] each = none_there (suc q) os
          first (y ∷ rs) each = each y (inl refl)

pub unwired_there : (n p m : ℕ) (os : List Op) → HaveThereFrom (p + (n + m)) os → HaveThereFrom (p + m) (unwire p n os)
unwired_there zero p m os all = subst (λ j. HaveThereFrom j os) (let e : p + (0 + m) ≡ p + m = omega arith in e) all
unwired_there (suc n) p m os all =
    unwired_there n p m (erase_op p (operand_at p os) os)
    (erased_there p (p + (n + m)) (omega arith) os (subst (λ j. HaveThereFrom j os) (let e : p + (suc n + m) ≡ suc (p + (n + m)) = omega arith in e) all))

-- ---- an instance at position p is inlined

module _ (p : ℕ) (o : Op) (c : Module) (os : List Op) (at_p : slice_get os p ≡ Some o) (all : HaveThereFrom p os) where
  abbrev pub q : ℕ
  q = p + (wire_count o + moved_count c)

  abbrev pub ys : List Op
  ys = inline_op (renamed (instance_name o)) p o c os

  prefix : List Op
  prefix = map (retarget (outer_ref p o c)) (take p os)

  back : List Op
  back = map (retarget (outer_ref p o c)) (drop (suc p) os)

  long : length (inline_op (renamed (instance_name o)) p o c os) ≡ p + (wire_count o + (moved_count c + length (map (retarget (outer_ref p o c)) (drop (suc p) os))))
  long =
      let a = length-append (map (retarget (outer_ref p o c)) (take p os)) (inlined_wires p o c ++ (inlined_ops (renamed (instance_name o)) p o c ++ map (retarget (outer_ref p o c)) (drop (suc p) os))) in
      let b = length-append (inlined_wires p o c) (inlined_ops (renamed (instance_name o)) p o c ++ map (retarget (outer_ref p o c)) (drop (suc p) os)) in
      let d = length-append (inlined_ops (renamed (instance_name o)) p o c) (map (retarget (outer_ref p o c)) (drop (suc p) os)) in
      let first = length-map (take p os) (retarget (outer_ref p o c)) ∙ length_before os p o at_p in
      let second = wires_length o.location (inner_ref p o c) o.results (output_refs c.body) in
      let third = length-map (before_output c.body) (λ (y : Op). renamed (instance_name o) (retarget (inner_ref p o c) y)) in
      omega (arith, a, b, d, first, second, third)

  -- a result of a wire or of a copy
  new_there : (j k : ℕ) → j < q → IsResultThere q ys j k
  new_there j k below =
      let some = slice_get_some (inline_op (renamed (instance_name o)) p o c os) j (let h = long in omega (arith, h, below)) in
      record { op = some.0; there = some.1; within = λ later. absurd (omega (arith, below, later)) }

  outer_there : (r : Ref) → IsThereFrom p os r → IsThereFrom q ys (outer_ref p o c r)
  outer_there (port n) at j k is = cc
  outer_there undefined at j k is = cc
  outer_there (result a l) at j k is = go (side p a) refl is
    where
      go : (s : Side) → side p a ≡ s → outer_result p o c l s ≡ result j k → IsResultThere q ys j k
      go (in_first b) near e =
          let same : b ≡ j = cc in
          let below = from_prefix p a b near in
          new_there j k (omega (arith, same, below.0, below.1))
      go (in_second zero) here e = wire (result_type o l) refl e
        where
          wire : (x : Option HwType) → result_type o l ≡ x → wire_result p l x ≡ result j k → IsResultThere q ys j k
          wire None typed e = cc
          wire (Some t) typed e =
              let same : p + l ≡ j = cc in
              let few : l < wire_count o = typed_within o l t typed in
              new_there j k (omega (arith, same, few))
      go (in_second (suc b)) far e =
          let same : p + (wire_count o + (moved_count c + b)) ≡ j = cc in
          let number : l ≡ k = cc in
          let was = at a l refl in
          let position = from_back p a (suc b) far in
          subst (λ n. IsResultThere q ys n k) same
          (subst (IsResultThere q ys (p + (wire_count o + (moved_count c + b)))) number
          (record {
            op = retarget (outer_ref p o c) was.op;
            there = past_ops p o c (instance_name o) os at_p b ∙ ap (λ n. option_map (retarget (outer_ref p o c)) (slice_get os n)) (sym position) ∙ ap (option_map (retarget (outer_ref p o c))) was.there;
            within = λ later. was.within (omega (arith, position));
          }))

  inner_there : (r : Ref) → IsThereFrom q ys (inner_ref p o c r)
  inner_there (port j) = go (port_ref c.ports o.operands j) (λ r is. joined_named c.ports o.operands j r is)
    where
      go : (x : Option Ref) → ((r : Ref) → x ≡ Some r → In r o.operands) → IsThereFrom q ys (ref_or_undefined (option_map (outer_ref p o c) x))
      go None named = none_there q ys
      go (Some r) named = outer_there r (all o r (In-slice_get o os p at_p) (named r refl))
  inner_there undefined = none_there q ys
  inner_there (result a l) = go (side (moved_count c) a) refl
    where
      go : (s : Side) → side (moved_count c) a ≡ s → IsThereFrom q ys (inner_result p o l s)
      go (in_second b) far = none_there q ys
      go (in_first b) near = λ j k is.
          let same : p + (wire_count o + b) ≡ j = cc in
          let below = from_prefix (moved_count c) a b near in
          new_there j k (omega (arith, same, below.0, below.1))

  old_there : (zs : List Op) → ((z : Op) → In z zs → In z os) → (z : Op) (r : Ref) → In z (map (retarget (outer_ref p o c)) zs) → In r z.operands → IsThereFrom q ys r
  old_there zs within z r here named =
      let from = from_In-map (retarget (outer_ref p o c)) z zs here in
      let was = from_In-map (outer_ref p o c) r from.0.operands (subst (λ (y : Op). In r y.operands) from.2 named) in
      subst (IsThereFrom q ys) (sym was.2) (outer_there was.0 (all from.0 was.0 (within from.0 from.1) was.1))

  wires_there : (xs : List OpResult) (rs : List Ref) (z : Op) (r : Ref) → In z (wire_ops o.location (inner_ref p o c) xs rs) → In r z.operands → IsThereFrom q ys r
  wires_there [] rs z r here named = absurd here
  wires_there (x ∷ xs) [] z r (inl same) named = one undefined (none_there q ys) (subst (λ (y : Op). In r y.operands) same named)
    where
      one : (v : Ref) → IsThereFrom q ys v → In r (v ∷ []) → IsThereFrom q ys r
      one v at (inl e) = subst (IsThereFrom q ys) (sym e) at
      one v at (inr e) = absurd e
  wires_there (x ∷ xs) [] z r (inr here) named = wires_there xs [] z r here named
  wires_there (x ∷ xs) (v ∷ rs) z r (inl same) named = one (inner_ref p o c v) (inner_there v) (subst (λ (y : Op). In r y.operands) same named)
    where
      one : (w : Ref) → IsThereFrom q ys w → In r (w ∷ []) → IsThereFrom q ys r
      one w at (inl e) = subst (IsThereFrom q ys) (sym e) at
      one w at (inr e) = absurd e
  wires_there (x ∷ xs) (v ∷ rs) z r (inr here) named = wires_there xs rs z r here named

  copies_there : (z : Op) (r : Ref) → In z (inlined_ops (renamed (instance_name o)) p o c) → In r z.operands → IsThereFrom q ys r
  copies_there z r here named =
      let from = from_In-map (λ (y : Op). renamed (instance_name o) (retarget (inner_ref p o c) y)) z (before_output c.body) here in
      let was = from_In-map (inner_ref p o c) r from.0.operands (subst (λ (y : Op). In r y.operands) from.2 named) in
      subst (IsThereFrom q ys) (sym was.2) (inner_there was.0)

  put_there : HaveThereFrom q ys
  put_there z r here named = first (In-append_cases z (map (retarget (outer_ref p o c)) (take p os)) (inlined_wires p o c ++ (inlined_ops (renamed (instance_name o)) p o c ++ map (retarget (outer_ref p o c)) (drop (suc p) os))) here)
    where
      third : In z (inlined_ops (renamed (instance_name o)) p o c) ⊎ In z (map (retarget (outer_ref p o c)) (drop (suc p) os)) → IsThereFrom q ys r
      third (inl at) = copies_there z r at named
      third (inr at) = old_there (drop (suc p) os) (λ y among. from_In-drop y (suc p) os among) z r at named

      second : In z (inlined_wires p o c) ⊎ In z (inlined_ops (renamed (instance_name o)) p o c ++ map (retarget (outer_ref p o c)) (drop (suc p) os)) → IsThereFrom q ys r
      second (inl at) = wires_there o.results (output_refs c.body) z r at named
      second (inr at) = third (In-append_cases z (inlined_ops (renamed (instance_name o)) p o c) (map (retarget (outer_ref p o c)) (drop (suc p) os)) at)

      first : In z (map (retarget (outer_ref p o c)) (take p os)) ⊎ In z (inlined_wires p o c ++ (inlined_ops (renamed (instance_name o)) p o c ++ map (retarget (outer_ref p o c)) (drop (suc p) os))) → IsThereFrom q ys r
      first (inl at) = old_there (take p os) (λ y among. from_In-take y p os among) z r at named
      first (inr at) = second (In-append_cases z (inlined_wires p o c) (inlined_ops (renamed (instance_name o)) p o c ++ map (retarget (outer_ref p o c)) (drop (suc p) os)) at)

  pub inlined_there : HaveThereFrom (p + moved_count c) (inlined_at p o c os)
  inlined_there = unwired_there (wire_count o) p (moved_count c) ys put_there

pub later_there : (p : ℕ) (os : List Op) → HaveThereFrom p os → HaveThereFrom (suc p) os
later_there p os all o r here named j k is =
    let was = all o r here named j k is in
    record { op = was.op; there = was.there; within = λ later. was.within (omega (arith, later)) }
