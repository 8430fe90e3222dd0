-- A body in which an operand of an instance stands for what its module makes of it: nothing changes for inlining.
use Rattle.std.proofs.Common.{◌≡◌, ◌⊎◌, ℕ, zero, suc, ◌+◌, ◌<◌, ◌≤◌, List, [], ◌∷◌, length, map, Option, Some, None, slice_get, refl, sym, ap, ap₂, subst, ◌∙◌, inl, inr, arith, option_map}
use Rattle.std.proofs.lemmas.List.{length-map}
use Rattle.std.proofs.lemmas.Option.{slice_get-map, slice_get_within}
use Rattle.wiring.proofs.Options.{option_map_some}
use Rattle.wiring.proofs.Lists.{slice_get_some}
use Rattle.hw_model.specs.Types.{Name, HwType}
use Rattle.hw_model.specs.Design.{Ref, Op, Module, result_type, output_refs}
use Rattle.hw_model.specs.Design.Ref.{port, result, undefined}
use Rattle.hw_model.specs.Flat.{port_ref}
use Rattle.ir_store.specs.Positions.{replaced_ref}
use Rattle.edit_laws.specs.Edit.{retarget}
use Rattle.edit_laws.specs.Laws.{down, ref_after_erase, without}
use Rattle.edit_laws.proofs.OtherOperands.{port_ref-map}
use Rattle.inline_laws.specs.Inline.{ref_or_undefined, wire_count, moved_count, outer_ref}
use Rattle.inline_pass.specs.Flattening.{inlined_at, inline_at, inline_from, inline_all, by_symbol}
use Rattle.inline_pass.proofs.ForwardedValues.{IsClear, lowered, down_less, down_more}
use Rattle.inline_pass.proofs.ForwardedInlining.{outer_before, outer_past, past_at, gone, gone_clear, gone_none, inlined_moved, inlined_own}

-- ---- values that are none of some wires'

lowered_port : (p n j : ℕ) → lowered p n (port j) ≡ port j
lowered_port p zero j = refl
lowered_port p (suc n) j = lowered_port p n j

lowered_none : (p n : ℕ) → lowered p n undefined ≡ undefined
lowered_none p zero = refl
lowered_none p (suc n) = lowered_none p n

lowered_before : (p n j k : ℕ) → j < p → lowered p n (result j k) ≡ result j k
lowered_before p zero j k below = refl
lowered_before p (suc n) j k below = ap (λ z. lowered p n (ref_after_erase z undefined k)) (down_less p j below) ∙ lowered_before p n j k below

lowered_past : (p n d k : ℕ) → lowered p n (result (p + (n + d)) k) ≡ result (p + d) k
lowered_past p zero d k = ap (λ j. result j k) (omega arith)
lowered_past p (suc n) d k =
    let next : p + (suc n + d) ≡ suc (p + (n + d)) = omega arith in
    ap (λ j. lowered p n (without p undefined (result j k))) next
    ∙ ap (λ z. lowered p n (ref_after_erase z undefined k)) (down_more p (p + (n + d)) (omega arith)) ∙ lowered_past p n d k

module _ (look : Name → Option Module) where
  abbrev pub inner : Op → Option Module
  inner = by_symbol look

  -- the value is no result of an operation from position p on that is inlined
  abbrev pub IsEnd : ℕ → List Op → Ref → Type 0
  IsEnd p os y = (j l : ℕ) → y ≡ result j l → p ≤ j → (z : Op) → slice_get os j ≡ Some z → by_symbol look z ≡ None

  -- an operation at position p + d is an instance whose module gives to output k an input, for which it has the value y
  pub record Passes (p d k : ℕ) (y : Ref) (os : List Op) : Type 0 where
    pub op : Op
    pub there : slice_get os (p + d) ≡ Some op
    pub callee : Module
    pub is : by_symbol look op ≡ Some callee
    pub type : HwType
    pub typed : result_type op k ≡ Some type
    pub input : ℕ
    pub gives : slice_get (output_refs callee.body) k ≡ Some (port input)
    pub takes : ref_or_undefined (port_ref callee.ports op.operands input) ≡ y
    pub ends : IsEnd p os y

  -- ---- one step of the walk

  module _ (p : ℕ) (o : Op) (c : Module) (os : List Op) (there : slice_get os p ≡ Some o) (is : by_symbol look o ≡ Some c) where
    -- where a value is that is no result of an operation that is inlined
    data Kind (y : Ref) : Type 0 where
      a_port : (j : ℕ) → y ≡ port j → Kind y
      nothing : y ≡ undefined → Kind y
      before : (j l : ℕ) → y ≡ result j l → j < p → Kind y
      past : (d l : ℕ) → y ≡ result (p + suc d) l → Kind y

    apart : (j : ℕ) → (j < p) ⊎ ((j ≡ p) ⊎ ((d : ℕ) × (j ≡ p + suc d)))
    apart j = go p j
      where
        go : (p j : ℕ) → (j < p) ⊎ ((j ≡ p) ⊎ ((d : ℕ) × (j ≡ p + suc d)))
        go zero zero = inr (inl refl)
        go zero (suc j) = inr (inr (j, omega arith))
        go (suc p) zero = inl (omega arith)
        go (suc p) (suc j) = next (go p j)
          where
            next : (j < p) ⊎ ((j ≡ p) ⊎ ((d : ℕ) × (j ≡ p + suc d))) → (suc j < suc p) ⊎ ((suc j ≡ suc p) ⊎ ((d : ℕ) × (suc j ≡ suc p + suc d)))
            next (inl below) = inl (omega (arith, below))
            next (inr (inl same)) = inr (inl (ap suc same))
            next (inr (inr (d, far))) = inr (inr (d, omega (arith, far)))

    kind_of_end : (y : Ref) → IsEnd p os y → Kind y
    kind_of_end (port j) ends = a_port j refl
    kind_of_end undefined ends = nothing refl
    kind_of_end (result j l) ends = go (apart j)
      where
        go : (j < p) ⊎ ((j ≡ p) ⊎ ((d : ℕ) × (j ≡ p + suc d))) → Kind (result j l)
        go (inl below) = before j l refl below
        go (inr (inl same)) =
            let none = ends j l refl (omega (arith, same)) o (ap (slice_get os) same ∙ there) in
            let clash : None ≡ Some c = sym none ∙ is in cc
        go (inr (inr (d, far))) = past d l (ap (λ n. result n l) far)

    -- it is none of the wires
    end_clear : (y : Ref) → IsEnd p os y → IsClear p (wire_count o) (outer_ref p o c y)
    end_clear y ends = go (kind_of_end y ends)
      where
        go : Kind y → IsClear p (wire_count o) (outer_ref p o c y)
        go (a_port j same) a l at far = let e : port j ≡ result a l = sym (ap (outer_ref p o c) same) ∙ at in cc
        go (nothing same) a l at far = let e : undefined ≡ result a l = sym (ap (outer_ref p o c) same) ∙ at in cc
        go (before j m same below) a l at far =
            let e : result j m ≡ result a l = sym (ap (outer_ref p o c) same ∙ outer_before p o c j m below) ∙ at in
            let h : j ≡ a = cc in absurd (omega (arith, h, below, far))
        go (past d m same) a l at far =
            let e : result (p + (wire_count o + (moved_count c + d))) m ≡ result a l = sym (ap (outer_ref p o c) same ∙ outer_past p o c d m) ∙ at in
            let h : p + (wire_count o + (moved_count c + d)) ≡ a = cc in omega (arith, h)

    -- and it is no result of an operation that is inlined later
    still_end : (y : Ref) → IsEnd p os y → IsEnd (p + moved_count c) (inlined_at p o c os) (lowered p (wire_count o) (outer_ref p o c y))
    still_end y ends = go (kind_of_end y ends)
      where
        go : Kind y → IsEnd (p + moved_count c) (inlined_at p o c os) (lowered p (wire_count o) (outer_ref p o c y))
        go (a_port j same) a l at far z here =
            let e : port j ≡ result a l = sym (ap (λ r. lowered p (wire_count o) (outer_ref p o c r)) same ∙ lowered_port p (wire_count o) j) ∙ at in cc
        go (nothing same) a l at far z here =
            let e : undefined ≡ result a l = sym (ap (λ r. lowered p (wire_count o) (outer_ref p o c r)) same ∙ lowered_none p (wire_count o)) ∙ at in cc
        go (before j m same below) a l at far z here =
            let e : result j m ≡ result a l =
            sym (ap (λ r. lowered p (wire_count o) (outer_ref p o c r)) same ∙ ap (lowered p (wire_count o)) (outer_before p o c j m below) ∙ lowered_before p (wire_count o) j m below) ∙ at in
            let h : j ≡ a = cc in absurd (omega (arith, h, below, far))
        go (past d m same) a l at far z here =
            let e : result (p + (moved_count c + d)) m ≡ result a l =
            sym (ap (λ r. lowered p (wire_count o) (outer_ref p o c r)) same ∙ ap (lowered p (wire_count o)) (outer_past p o c d m) ∙ lowered_past p (wire_count o) (moved_count c + d) m) ∙ at in
            let h : p + (moved_count c + d) ≡ a = cc in
            let was = option_map_some (retarget (gone p o c os)) (slice_get os (p + suc d)) (sym (past_at p o c os there d) ∙ ap (slice_get (inlined_at p o c os)) h ∙ here) in
            sym (ap (by_symbol look) was.2) ∙ ends (p + suc d) m same (omega arith) was.0 was.1

    goes_on : (d k : ℕ) (y : Ref) → Passes p (suc d) k y os → Passes (p + moved_count c) d k (lowered p (wire_count o) (outer_ref p o c y)) (inlined_at p o c os)
    goes_on d k y pass = record {
      op = retarget (gone p o c os) pass.op;
      there = ap (slice_get (inlined_at p o c os)) (omega arith) ∙ past_at p o c os there d ∙ ap (option_map (retarget (gone p o c os))) pass.there;
      callee = pass.callee;
      is = pass.is;
      type = pass.type;
      typed = pass.typed;
      input = pass.input;
      gives = pass.gives;
      takes =
          ap ref_or_undefined (port_ref-map (gone p o c os) pass.callee.ports pass.op.operands pass.input)
          ∙ through (port_ref pass.callee.ports pass.op.operands pass.input) ∙ ap (gone p o c os) pass.takes ∙ gone_clear p o c os y (end_clear y pass.ends);
      ends = still_end y pass.ends;
    }
      where
        through : (x : Option Ref) → ref_or_undefined (option_map (gone p o c os) x) ≡ gone p o c os (ref_or_undefined x)
        through None = sym (gone_none p o c os)
        through (Some r) = refl

  -- ---- the walk

  walk_none : (rest : ℕ → List Op → List Op) (p : ℕ) (os : List Op) (o : Op) → slice_get os p ≡ Some o → by_symbol look o ≡ None → inline_at (by_symbol look) rest p os ≡ rest (suc p) os
  walk_none rest p os o there none = rw (there, none) refl

  walk_some : (rest : ℕ → List Op → List Op) (p : ℕ) (os : List Op) (o : Op) (c : Module) → slice_get os p ≡ Some o → by_symbol look o ≡ Some c
      → inline_at (by_symbol look) rest p os ≡ rest (p + moved_count c) (inlined_at p o c os)
  walk_some rest p os o c there some = rw (there, some) refl

  moved_there : (f : Ref → Ref) (p : ℕ) (os : List Op) (o : Op) → slice_get os p ≡ Some o → slice_get (map (retarget f) os) p ≡ Some (retarget f o)
  moved_there f p os o there = slice_get-map (retarget f) os p ∙ ap (option_map (retarget f)) there

  -- all uses of a result have the instance's operand in its place
  pub walk_moved : (n p d k : ℕ) (y : Ref) (os : List Op) → d < n → Passes p d k y os
      → inline_from (by_symbol look) n p (map (retarget (replaced_ref (result (p + d) k) y)) os) ≡ inline_from (by_symbol look) n p os
  walk_moved zero p d k y os few pass = absurd (omega (arith, few))
  walk_moved (suc n) p zero k y os few pass =
      let here : p + 0 ≡ p = omega arith in
      let there : slice_get os p ≡ Some pass.op = ap (slice_get os) (sym here) ∙ pass.there in
      let rest : ℕ → List Op → List Op = λ j xs. inline_from (by_symbol look) n j xs in
      ap (λ j. inline_from (by_symbol look) (suc n) p (map (retarget (replaced_ref (result j k) y)) os)) here
      ∙ walk_some rest p (map (retarget (replaced_ref (result p k) y)) os) (retarget (replaced_ref (result p k) y) pass.op) pass.callee
      (moved_there (replaced_ref (result p k) y) p os pass.op there) pass.is
      ∙ ap (rest (p + moved_count pass.callee))
      (inlined_own p pass.op pass.callee k pass.input pass.type y os there pass.typed pass.gives pass.takes (end_clear p pass.op pass.callee os there pass.is y pass.ends))
      ∙ sym (walk_some rest p os pass.op pass.callee there pass.is)
  walk_moved (suc n) p (suc d) k y os few pass =
      let some = slice_get_some os p (let h = slice_get_within os (p + suc d) pass.op pass.there in omega (arith, h)) in
      go some.0 some.1 (by_symbol look some.0) refl (λ q y' xs next. walk_moved n q d k y' xs (omega (arith, few)) next)
    where
      σ : Ref → Ref
      σ = replaced_ref (result (p + suc d) k) y

      rest : ℕ → List Op → List Op
      rest j xs = inline_from (by_symbol look) n j xs

      go : (o : Op) → slice_get os p ≡ Some o → (x : Option Module) → by_symbol look o ≡ x
          → ((q : ℕ) (y' : Ref) (xs : List Op) → Passes q d k y' xs → rest q (map (retarget (replaced_ref (result (q + d) k) y')) xs) ≡ rest q xs)
          → inline_from (by_symbol look) (suc n) p (map (retarget σ) os) ≡ inline_from (by_symbol look) (suc n) p os
      go o there None is again =
          walk_none rest p (map (retarget σ) os) (retarget σ o) (moved_there σ p os o there) is
          ∙ ap (λ j. rest (suc p) (map (retarget (replaced_ref (result j k) y)) os)) (let e : p + suc d ≡ suc p + d = omega arith in e)
          ∙ again (suc p) y os (record {
            op = pass.op;
            there = ap (slice_get os) (let e : suc p + d ≡ p + suc d = omega arith in e) ∙ pass.there;
            callee = pass.callee;
            is = pass.is;
            type = pass.type;
            typed = pass.typed;
            input = pass.input;
            gives = pass.gives;
            takes = pass.takes;
            ends = λ j l same far z here. pass.ends j l same (omega (arith, far)) z here;
          })
          ∙ sym (walk_none rest p os o there is)
      go o there (Some c) is again =
          walk_some rest p (map (retarget σ) os) (retarget σ o) c (moved_there σ p os o there) is
          ∙ ap (rest (p + moved_count c)) (inlined_moved p o c d k y os (end_clear p o c os there is y pass.ends))
          ∙ ap (λ j. rest (p + moved_count c) (map (retarget (replaced_ref (result j k) (lowered p (wire_count o) (outer_ref p o c y)))) (inlined_at p o c os)))
          (let e : p + (moved_count c + d) ≡ p + moved_count c + d = omega arith in e)
          ∙ again (p + moved_count c) (lowered p (wire_count o) (outer_ref p o c y)) (inlined_at p o c os) (goes_on p o c os there is d k y pass)
          ∙ sym (walk_some rest p os o c there is)

  pub all_moved : (i k : ℕ) (y : Ref) (os : List Op) → Passes 0 i k y os → inline_all (by_symbol look) (map (retarget (replaced_ref (result i k) y)) os) ≡ inline_all (by_symbol look) os
  all_moved i k y os pass =
      let same : 0 + i ≡ i = omega arith in
      ap (λ n. inline_from (by_symbol look) n 0 (map (retarget (replaced_ref (result i k) y)) os)) (length-map os (retarget (replaced_ref (result i k) y)))
      ∙ ap (λ j. inline_from (by_symbol look) (length os) 0 (map (retarget (replaced_ref (result j k) y)) os)) (sym same)
      ∙ walk_moved (length os) 0 i k y os (let h = slice_get_within os (0 + i) pass.op pass.there in omega (arith, h)) pass
