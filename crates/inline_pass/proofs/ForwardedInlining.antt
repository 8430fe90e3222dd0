-- A value that stands for a result of an operation of a body, while an instance of that is inlined.
use Rattle.std.proofs.Common.{◌≡◌, ◌⊎◌, ℕ, zero, suc, ◌+◌, ◌<◌, ◌≤◌, List, [], ◌∷◌, ◌++◌, length, map, take, drop, Option, Some, None, slice_get, refl, sym, ap, ap₂, subst, ◌∙◌, inl, inr, arith, option_map, option_and_then}
use Rattle.std.proofs.lemmas.List.{length-map, map-append, drop-map}
use Rattle.std.proofs.lemmas.Option.{slice_get-map}
use Rattle.wiring.proofs.Options.{option_map_some}
use Rattle.wiring.proofs.Lists.{slice_get-append_right, slice_get-drop}
use Rattle.hw_model.specs.Types.{Name, HwType}
use Rattle.hw_model.specs.Design.{Ref, Op, OpResult, Location, Module, result_type, output_refs}
use Rattle.hw_model.specs.Design.Ref.{port, result, undefined}
use Rattle.hw_model.specs.Flat.{port_ref}
use Rattle.ir_store.specs.Positions.{replaced_ref}
use Rattle.edit_laws.specs.Edit.{retarget}
use Rattle.edit_laws.proofs.Positions.{take_map}
use Rattle.edit_laws.proofs.OtherOperands.{port_ref-map}
use Rattle.inline_laws.specs.Inline.{Side, side, ref_or_undefined, wire_count, moved_count, wire_result, outer_result, outer_ref, inner_result, inner_ref, wire_op, wire_ops, before_output, inlined_wires, inlined_ops, inline_op}
use Rattle.inline_laws.specs.Inline.Side.{in_first, in_second}
use Rattle.inline_laws.specs.Unwire.{operand_at, unwire}
use Rattle.inline_laws.proofs.Sides.{side_prefix, side_back, from_prefix, from_back}
use Rattle.inline_laws.proofs.Ends.{wires_length, get_wire}
use Rattle.inline_laws.proofs.Origins.{typed_within}
use Rattle.inline_laws.proofs.Follows.{length_before}
use Rattle.inline_pass.specs.Renaming.{renamed}
use Rattle.inline_pass.specs.Flattening.{instance_name, inlined_at}
use Rattle.inline_pass.proofs.ForwardedValues.{moved_itself, moved_other, moved_through, both_ways, first_moved, IsClear, lowered, unwired, unwired_clear, unwired_none, unwired_at, unwire_moved, unwire_own}

-- ---- lists

wires_moved : (at : Location) (f g : Ref → Ref) (to : Ref → Ref) → to undefined ≡ undefined → ((r : Ref) → g r ≡ to (f r)) → (xs : List OpResult) (rs : List Ref)
    → wire_ops at g xs rs ≡ map (retarget to) (wire_ops at f xs rs)
wires_moved at f g to none same [] rs = refl
wires_moved at f g to none same (x ∷ xs) [] = ap₂ (λ r os. wire_op at x.type r ∷ os) (sym none) (wires_moved at f g to none same xs [])
wires_moved at f g to none same (x ∷ xs) (r ∷ rs) = ap₂ (λ z os. wire_op at x.type z ∷ os) (same r) (wires_moved at f g to none same xs rs)

refs_moved : (f g to : Ref → Ref) → ((r : Ref) → g r ≡ to (f r)) → (rs : List Ref) → map g rs ≡ map to (map f rs)
refs_moved f g to same [] = refl
refs_moved f g to same (r ∷ rs) = ap₂ (λ x xs. x ∷ xs) (same r) (refs_moved f g to same rs)

ops_moved : (u : Name) (f g to : Ref → Ref) → ((r : Ref) → g r ≡ to (f r)) → (os : List Op)
    → map (λ (y : Op). renamed u (retarget g y)) os ≡ map (retarget to) (map (λ (y : Op). renamed u (retarget f y)) os)
ops_moved u f g to same [] = refl
ops_moved u f g to same (o ∷ os) = ap₂ (λ rs xs. record (renamed u o) { operands = rs } ∷ xs) (refs_moved f g to same o.operands) (ops_moved u f g to same os)

joined_moved : (f g to : Ref → Ref) → to undefined ≡ undefined → ((r : Ref) → f (g r) ≡ to (f r)) → (x : Option Ref)
    → ref_or_undefined (option_map f (option_map g x)) ≡ to (ref_or_undefined (option_map f x))
joined_moved f g to none same None = sym none
joined_moved f g to none same (Some r) = same r

-- ---- an instance at position p is inlined

module _ (p : ℕ) (o : Op) (c : Module) where
  abbrev pub U : Ref → Ref
  U = outer_ref p o c

  pub outer_before : (j k : ℕ) → j < p → U (result j k) ≡ result j k
  outer_before j k below = ap (outer_result p o c k) (side_prefix p j below)

  pub outer_here : (k : ℕ) (t : HwType) → result_type o k ≡ Some t → U (result p k) ≡ result (p + k) 0
  outer_here k t typed = ap (outer_result p o c k) (ap (side p) (omega arith) ∙ side_back p 0) ∙ ap (wire_result p k) typed

  pub outer_past : (d k : ℕ) → U (result (p + suc d) k) ≡ result (p + (wire_count o + (moved_count c + d))) k
  outer_past d k = ap (outer_result p o c k) (side_back p (suc d))

  -- what becomes the result of a wire, or of an operation past the instance
  outer_is_wire : (k : ℕ) → k < wire_count o → (r : Ref) → U r ≡ result (p + k) 0 → r ≡ result p k
  outer_is_wire k few (port n) is = cc
  outer_is_wire k few undefined is = cc
  outer_is_wire k few (result a l) is = go (side p a) refl is
    where
      wire : (x : Option HwType) → wire_result p l x ≡ result (p + k) 0 → l ≡ k
      wire None e = cc
      wire (Some t) e = let h : p + l ≡ p + k = cc in omega (arith, h)

      go : (s : Side) → side p a ≡ s → outer_result p o c l s ≡ result (p + k) 0 → result a l ≡ result p k
      go (in_first b) at e = let h : b ≡ p + k = cc in let below = from_prefix p a b at in absurd (omega (arith, h, below.0, below.1))
      go (in_second zero) at e = let h = from_back p a 0 at in ap₂ result (omega (arith, h)) (wire (result_type o l) e)
      go (in_second (suc b)) at e = let h : p + (wire_count o + (moved_count c + b)) ≡ p + k = cc in absurd (omega (arith, h, few))

  outer_is_past : (d k : ℕ) (r : Ref) → U r ≡ result (p + (wire_count o + (moved_count c + d))) k → r ≡ result (p + suc d) k
  outer_is_past d k (port n) is = cc
  outer_is_past d k undefined is = cc
  outer_is_past d k (result a l) is = go (side p a) refl is
    where
      wire : (x : Option HwType) → result_type o l ≡ x → wire_result p l x ≡ result (p + (wire_count o + (moved_count c + d))) k → ⊥
      wire None typed e = cc
      wire (Some t) typed e =
          let h : p + l ≡ p + (wire_count o + (moved_count c + d)) = cc in
          let few : l < wire_count o = typed_within o l t typed in
          absurd (omega (arith, h, few))

      go : (s : Side) → side p a ≡ s → outer_result p o c l s ≡ result (p + (wire_count o + (moved_count c + d))) k → result a l ≡ result (p + suc d) k
      go (in_first b) at e = let h : b ≡ p + (wire_count o + (moved_count c + d)) = cc in let below = from_prefix p a b at in absurd (omega (arith, h, below.0, below.1))
      go (in_second zero) at e = absurd (wire (result_type o l) refl e)
      go (in_second (suc b)) at e =
          let h : p + (wire_count o + (moved_count c + b)) ≡ p + (wire_count o + (moved_count c + d)) = cc in
          let same : l ≡ k = cc in
          let far = from_back p a (suc b) at in
          ap₂ result (omega (arith, h, far)) same

  outer_moved_past : (d k : ℕ) (y r : Ref)
      → U (replaced_ref (result (p + suc d) k) y r) ≡ replaced_ref (result (p + (wire_count o + (moved_count c + d))) k) (U y) (U r)
  outer_moved_past d k y r =
      moved_through U U (p + suc d) k (p + (wire_count o + (moved_count c + d))) k y (U y) (outer_past d k) refl
      (λ z away. sym (moved_other (p + (wire_count o + (moved_count c + d))) k (U y) (U z) (λ is. away (outer_is_past d k z is)))) r

  outer_moved_here : (k : ℕ) (t : HwType) (y r : Ref) → result_type o k ≡ Some t → U (replaced_ref (result p k) y r) ≡ replaced_ref (result (p + k) 0) (U y) (U r)
  outer_moved_here k t y r typed =
      moved_through U U p k (p + k) 0 y (U y) (outer_here k t typed) refl
      (λ z away. sym (moved_other (p + k) 0 (U y) (U z) (λ is. away (outer_is_wire k (typed_within o k t typed) z is)))) r

  -- ---- where a value stands for another one

  module _ (s : Ref) (y : Ref) (a k : ℕ) (others : (j : ℕ) → j < moved_count c → p + (wire_count o + j) ≡ a → ⊥)
      (outer_moved : (r : Ref) → U (replaced_ref s y r) ≡ replaced_ref (result a k) (U y) (U r)) where
    σ : Ref → Ref
    σ = replaced_ref s y

    τ : Ref → Ref
    τ = replaced_ref (result a k) (U y)

    inner_moved : (r : Ref) → inner_ref p (retarget (replaced_ref s y) o) c r ≡ replaced_ref (result a k) (U y) (inner_ref p o c r)
    inner_moved (port j) =
        ap (λ x. ref_or_undefined (option_map U x)) (port_ref-map (replaced_ref s y) c.ports o.operands j)
        ∙ joined_moved U (replaced_ref s y) (replaced_ref (result a k) (U y)) refl outer_moved (port_ref c.ports o.operands j)
    inner_moved undefined = refl
    inner_moved (result j l) = go (side (moved_count c) j) refl
      where
        go : (z : Side) → side (moved_count c) j ≡ z → inner_result p o l z ≡ replaced_ref (result a k) (U y) (inner_result p o l z)
        go (in_second b) at = refl
        go (in_first b) at =
            let below = from_prefix (moved_count c) j b at in
            sym (moved_other a k (U y) (result (p + (wire_count o + b)) l) (λ is. others b (omega (arith, below.0, below.1)) (let h : p + (wire_count o + b) ≡ a = cc in h)))

    pub inline_moved : (u : Name) (os : List Op)
        → inline_op (renamed u) p (retarget (replaced_ref s y) o) c (map (retarget (replaced_ref s y)) os) ≡ map (retarget (replaced_ref (result a k) (U y))) (inline_op (renamed u) p o c os)
    inline_moved u os =
        ap₂ (λ xs ys. xs ++ ys)
        (ap (map (retarget U)) (take_map (retarget (replaced_ref s y)) p os)
        ∙ both_ways (replaced_ref s y) U U (replaced_ref (result a k) (U y)) outer_moved (take p os))
        (ap₂ (λ xs ys. xs ++ ys)
        (wires_moved o.location (inner_ref p o c) (inner_ref p (retarget (replaced_ref s y) o) c) (replaced_ref (result a k) (U y)) refl inner_moved o.results (output_refs c.body))
        (ap₂ (λ xs ys. xs ++ ys)
        (ops_moved u (inner_ref p o c) (inner_ref p (retarget (replaced_ref s y) o) c) (replaced_ref (result a k) (U y)) inner_moved (before_output c.body))
        (ap (map (retarget U)) (drop-map (retarget (replaced_ref s y)) (suc p) os)
        ∙ both_ways (replaced_ref s y) U U (replaced_ref (result a k) (U y)) outer_moved (drop (suc p) os))))
        ∙ sym (map-append (retarget (replaced_ref (result a k) (U y))) (map (retarget U) (take p os)) (inlined_wires p o c ++ (inlined_ops (renamed u) p o c ++ map (retarget U) (drop (suc p) os)))
        ∙ ap (λ zs. map (retarget (replaced_ref (result a k) (U y))) (map (retarget U) (take p os)) ++ zs)
        (map-append (retarget (replaced_ref (result a k) (U y))) (inlined_wires p o c) (inlined_ops (renamed u) p o c ++ map (retarget U) (drop (suc p) os))
        ∙ ap (λ zs. map (retarget (replaced_ref (result a k) (U y))) (inlined_wires p o c) ++ zs)
        (map-append (retarget (replaced_ref (result a k) (U y))) (inlined_ops (renamed u) p o c) (map (retarget U) (drop (suc p) os)))))

  -- ---- what stands where

  module _ (u : Name) (os : List Op) (there : slice_get os p ≡ Some o) where
    prefix_long : length (map (retarget U) (take p os)) ≡ p
    prefix_long = length-map (take p os) (retarget U) ∙ length_before os p o there

    wires_long : length (inlined_wires p o c) ≡ wire_count o
    wires_long = wires_length o.location (inner_ref p o c) o.results (output_refs c.body)

    pub in_wires : (k : ℕ) → k < wire_count o → slice_get (inline_op (renamed u) p o c os) (p + k) ≡ slice_get (inlined_wires p o c) k
    in_wires k few =
        ap (λ n. slice_get (inline_op (renamed u) p o c os) (n + k)) (sym prefix_long)
        ∙ slice_get-append_right (map (retarget U) (take p os)) (inlined_wires p o c ++ (inlined_ops (renamed u) p o c ++ map (retarget U) (drop (suc p) os))) k
        ∙ first (inlined_wires p o c) (inlined_ops (renamed u) p o c ++ map (retarget U) (drop (suc p) os)) k (omega (arith, few, wires_long))
      where
        first : (xs ys : List Op) (n : ℕ) → n < length xs → slice_get (xs ++ ys) n ≡ slice_get xs n
        first [] ys n below = absurd (omega (arith, below))
        first (x ∷ xs) ys zero below = refl
        first (x ∷ xs) ys (suc n) below = first xs ys n (omega (arith, below))

    pub past_ops : (d : ℕ) → slice_get (inline_op (renamed u) p o c os) (p + (wire_count o + (moved_count c + d))) ≡ option_map (retarget U) (slice_get os (p + suc d))
    past_ops d =
        ap (λ n. slice_get (inline_op (renamed u) p o c os) (n + (wire_count o + (moved_count c + d)))) (sym prefix_long)
        ∙ slice_get-append_right (map (retarget U) (take p os)) (inlined_wires p o c ++ (inlined_ops (renamed u) p o c ++ map (retarget U) (drop (suc p) os))) (wire_count o + (moved_count c + d))
        ∙ ap (λ n. slice_get (inlined_wires p o c ++ (inlined_ops (renamed u) p o c ++ map (retarget U) (drop (suc p) os))) (n + (moved_count c + d))) (sym wires_long)
        ∙ slice_get-append_right (inlined_wires p o c) (inlined_ops (renamed u) p o c ++ map (retarget U) (drop (suc p) os)) (moved_count c + d)
        ∙ ap (λ n. slice_get (inlined_ops (renamed u) p o c ++ map (retarget U) (drop (suc p) os)) (n + d)) (sym (length-map (before_output c.body) (λ (y : Op). renamed u (retarget (inner_ref p o c) y))))
        ∙ slice_get-append_right (inlined_ops (renamed u) p o c) (map (retarget U) (drop (suc p) os)) d
        ∙ slice_get-map (retarget U) (drop (suc p) os) d
        ∙ ap (option_map (retarget U)) (slice_get-drop (suc p) os d ∙ ap (slice_get os) (omega arith))

    -- what a wire carries
    pub wire_carries : (k j : ℕ) → k < wire_count o → slice_get (output_refs c.body) k ≡ Some (port j)
        → operand_at (p + k) (inline_op (renamed u) p o c os) ≡ U (ref_or_undefined (port_ref c.ports o.operands j))
    wire_carries k j few given =
        ap (λ x. ref_or_undefined (option_and_then (λ (z : Op). slice_get z.operands 0) x))
        (in_wires k few ∙ get_wire o.location (inner_ref p o c) o.results (output_refs c.body) k)
        ∙ carried (slice_get o.results k) refl
      where
        joined : (x : Option Ref) → ref_or_undefined (option_map U x) ≡ U (ref_or_undefined x)
        joined None = refl
        joined (Some r) = refl

        carried : (x : Option OpResult) → slice_get o.results k ≡ x
            → ref_or_undefined (option_and_then (λ (z : Op). slice_get z.operands 0)
            (option_map (λ (q : OpResult). wire_op o.location q.type (ref_or_undefined (option_map (inner_ref p o c) (slice_get (output_refs c.body) k)))) x))
            ≡ U (ref_or_undefined (port_ref c.ports o.operands j))
        carried None at = absurd (past o.results k few at)
          where
            past : (rs : List OpResult) (n : ℕ) → n < length rs → slice_get rs n ≡ None → ⊥
            past [] n below e = absurd (omega (arith, below))
            past (x ∷ rs) zero below e = cc
            past (x ∷ rs) (suc n) below e = past rs n (omega (arith, below)) e
        carried (Some q) at = ap (λ x. ref_or_undefined (option_map (inner_ref p o c) x)) given ∙ joined (port_ref c.ports o.operands j)

  -- ---- without wires

  -- what a value becomes
  abbrev pub gone : List Op → Ref → Ref
  gone os r = unwired p (wire_count o) (inline_op (renamed (instance_name o)) p o c os) (U r)

  pub past_at : (os : List Op) → slice_get os p ≡ Some o → (d : ℕ) → slice_get (inlined_at p o c os) (p + (moved_count c + d)) ≡ option_map (retarget (gone os)) (slice_get os (p + suc d))
  past_at os there d =
      unwired_at p (wire_count o) (moved_count c + d) (inline_op (renamed (instance_name o)) p o c os)
      ∙ ap (option_map (retarget (unwired p (wire_count o) (inline_op (renamed (instance_name o)) p o c os)))) (past_ops (instance_name o) os there d)
      ∙ twice (slice_get os (p + suc d))
    where
      refs : (f g : Ref → Ref) (rs : List Ref) → map g (map f rs) ≡ map (λ r. g (f r)) rs
      refs f g [] = refl
      refs f g (r ∷ rs) = ap (λ xs. g (f r) ∷ xs) (refs f g rs)

      twice : (x : Option Op) → option_map (retarget (unwired p (wire_count o) (inline_op (renamed (instance_name o)) p o c os))) (option_map (retarget U) x) ≡ option_map (retarget (gone os)) x
      twice None = refl
      twice (Some z) = ap (λ rs. Some (record z { operands = rs })) (refs U (unwired p (wire_count o) (inline_op (renamed (instance_name o)) p o c os)) z.operands)

  pub gone_clear : (os : List Op) (y : Ref) → IsClear p (wire_count o) (U y) → gone os y ≡ lowered p (wire_count o) (U y)
  gone_clear os y clear = unwired_clear p (wire_count o) (inline_op (renamed (instance_name o)) p o c os) (U y) clear

  pub gone_none : (os : List Op) → gone os undefined ≡ undefined
  gone_none os = unwired_none p (wire_count o) (inline_op (renamed (instance_name o)) p o c os)

  -- a value that stands for a result past the instance
  pub inlined_moved : (d k : ℕ) (y : Ref) (os : List Op) → IsClear p (wire_count o) (U y)
      → inlined_at p (retarget (replaced_ref (result (p + suc d) k) y) o) c (map (retarget (replaced_ref (result (p + suc d) k) y)) os)
      ≡ map (retarget (replaced_ref (result (p + (moved_count c + d)) k) (lowered p (wire_count o) (U y)))) (inlined_at p o c os)
  inlined_moved d k y os clear =
      ap (unwire p (wire_count o))
      (inline_moved (result (p + suc d) k) y (p + (wire_count o + (moved_count c + d))) k (λ j below e. absurd (omega (arith, below, e))) (outer_moved_past d k y) (instance_name o) os)
      ∙ unwire_moved (wire_count o) p (moved_count c + d) k (U y) (inline_op (renamed (instance_name o)) p o c os) clear

  -- a value that stands for a result of the instance, which gives it
  pub inlined_own : (k j : ℕ) (t : HwType) (y : Ref) (os : List Op) → slice_get os p ≡ Some o → result_type o k ≡ Some t → slice_get (output_refs c.body) k ≡ Some (port j)
      → ref_or_undefined (port_ref c.ports o.operands j) ≡ y → IsClear p (wire_count o) (U y)
      → inlined_at p (retarget (replaced_ref (result p k) y) o) c (map (retarget (replaced_ref (result p k) y)) os) ≡ inlined_at p o c os
  inlined_own k j t y os there typed given takes clear =
      ap (unwire p (wire_count o))
      (inline_moved (result p k) y (p + k) 0 (λ n below e. let few : k < wire_count o = typed_within o k t typed in absurd (omega (arith, few, e))) (λ r. outer_moved_here k t y r typed) (instance_name o) os)
      ∙ unwire_own (wire_count o) p k (U y) (inline_op (renamed (instance_name o)) p o c os) (typed_within o k t typed) clear
      (wire_carries (instance_name o) os there k j (typed_within o k t typed) given ∙ ap U takes)
