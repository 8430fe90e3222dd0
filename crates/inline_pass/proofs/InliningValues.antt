-- Values of a body in which an instance is inlined: none is one of the instance, and each is there.
use Rattle.std.proofs.Common.{◌≡◌, ℕ, zero, suc, ◌+◌, ◌<◌, ◌≤◌, Bool, true, false, nat_eq, ◌&&◌, List, [], ◌∷◌, ◌++◌, length, map, Option, Some, None, slice_get, refl, sym, ap, subst, ◌∙◌, arith, eq-eqb}
use Rattle.std.specs.Prelude.{All}
use Rattle.std.proofs.lemmas.Bool.{eqb-true, eqb-false}
use Rattle.wiring.specs.Wiring.{In}
use Rattle.wiring.proofs.Members.{In-slice_get, In-map, All-member, Contains-from_In}
use Rattle.ir_store.specs.declared.operation.OpId.{OpId}
use Rattle.ir_store.specs.declared.operation.Value.{Value}
use Rattle.ir_store.specs.declared.operation.Value.TheVariants.{Port, Result, Undefined}
use Rattle.ir_store.specs.BodyOps.{is_of}
use Rattle.ir_store.specs.Live.{IsLive}
use Rattle.ir_store.specs.Numbered.{position_of}
use Rattle.linked_lists.specs.Ids.{times}
use Rattle.linked_lists.proofs.IdLemmas.{contained_times, times_contained, times-append}
use Rattle.body_edits.specs.WiresOut.{value_or_undefined, IsFirstOf}
use Rattle.inline_pass.specs.MovedOps.{moved_value, copy_result}
use Rattle.body_edits.proofs.IdLists.{times_self, times_other}
use Rattle.inline_pass.proofs.ResultsReplaced.{redirect, redirect_other, redirect_result, not_of}

-- the numbers of ids
abbrev pub numbers : List OpId → List ℕ
numbers ids = map (λ (i : OpId). i.index) ids

module _ (prefix : List ℕ) (op : OpId) (back : List ℕ) (wires copies : List OpId)
    (apart : (v : ℕ) → times v prefix + (times v (numbers wires) + (times v (numbers copies) + times v (op.index ∷ back))) ≤ 1) where
  abbrev pub old_ids : List ℕ
  old_ids = prefix ++ (op.index ∷ back)

  abbrev pub new_ids : List ℕ
  new_ids = prefix ++ (numbers wires ++ (numbers copies ++ back))

  -- a value of the body as it was, which is a result of the instance only where that has a wire for it
  pub record IsOld (v : Value) : Type 0 where
    pub live : IsLive old_ids v
    pub within : (id : OpId) (k : ℕ) → v ≡ Result id k → id.index ≡ op.index → k < length wires

  -- a result of a copy
  pub record IsCopied (v : Value) : Type 0 where
    pub copy : OpId
    pub there : In copy copies
    pub number : ℕ
    pub is : v ≡ Result copy number

  -- what is so of a value once it stands in the new body
  pub record IsNew (v : Value) : Type 0 where
    pub other : is_of op.index v ≡ false
    pub live : IsLive new_ids v
    pub first : (w : OpId) → In w wires → IsFirstOf w v

  counted : (w : OpId) (ids : List OpId) → In w ids → 0 < times w.index (numbers ids)
  counted w ids among = contained_times (numbers ids) w.index (Contains-from_In w.index (numbers ids) (In-map (λ (i : OpId). i.index) w ids among))

  new_count : (v : ℕ) → times v new_ids ≡ times v prefix + (times v (numbers wires) + (times v (numbers copies) + times v back))
  new_count v =
      let a = times-append v prefix (numbers wires ++ (numbers copies ++ back)) in
      let b = times-append v (numbers wires) (numbers copies ++ back) in
      let d = times-append v (numbers copies) back in
      omega (arith, a, b, d)

  old_count : (v : ℕ) → times v old_ids ≡ times v prefix + times v (op.index ∷ back)
  old_count v = times-append v prefix (op.index ∷ back)

  pub wires_other : (w : OpId) → In w wires → w.index ≡ op.index → ⊥
  wires_other w among same =
      let here = counted w wires among in
      let few = apart w.index in
      let own = ap (λ n. times w.index (n ∷ back)) (sym same) ∙ times_self w.index back in
      omega (arith, here, few, own)

  pub copies_other : (w : OpId) → In w copies → w.index ≡ op.index → ⊥
  copies_other w among same =
      let here = counted w copies among in
      let few = apart w.index in
      let own = ap (λ n. times w.index (n ∷ back)) (sym same) ∙ times_self w.index back in
      omega (arith, here, few, own)

  -- a wire
  wire_new : (w : OpId) → In w wires → IsNew (Result w 0)
  wire_new w among = record {
    other = not_of op w 0 (wires_other w among);
    live = let here = counted w wires among in let all = new_count w.index in times_contained new_ids w.index (omega (arith, here, all));
    first = λ y there is. ap (λ b. b && true) (eq-eqb y.index w.index (sym (eqb-true w.index y.index is)));
  }

  -- a copy
  pub copy_new : (c : OpId) (k : ℕ) → In c copies → IsNew (Result c k)
  copy_new c k among = record {
    other = not_of op c k (copies_other c among);
    live = let here = counted c copies among in let all = new_count c.index in times_contained new_ids c.index (omega (arith, here, all));
    first = λ y there is.
        let same : c.index ≡ y.index = eqb-true c.index y.index is in
        let here = counted c copies among in
        let wire = counted y wires there in
        let named = ap (λ n. times n (numbers wires)) same in
        let few = apart c.index in
        absurd (omega (arith, here, wire, named, few));
  }

  -- another value of the old body
  old_stays : (id : OpId) (k : ℕ) → IsOld (Result id k) → (id.index ≡ op.index → ⊥) → IsNew (Result id k)
  old_stays id k old other = record {
    other = not_of op id k other;
    live =
        let here = contained_times old_ids id.index old.live in
        let before = old_count id.index in
        let all = new_count id.index in
        let past = times_other id.index op.index back (λ same. other (sym same)) in
        times_contained new_ids id.index (omega (arith, here, before, all, past));
    first = λ y there is.
        let same : id.index ≡ y.index = eqb-true id.index y.index is in
        let here = contained_times old_ids id.index old.live in
        let before = old_count id.index in
        let wire = counted y wires there in
        let named = ap (λ n. times n (numbers wires)) same in
        let few = apart id.index in
        absurd (omega (arith, here, before, wire, named, few));
  }

  -- each value of the old body, with the results of wires for those of the instance
  pub old_new : (v : Value) → IsOld v → IsNew (redirect op 0 wires v)
  old_new (Port n) old = subst IsNew (sym (redirect_other op 0 wires (Port n) refl)) (record { other = refl; live = tt; first = λ w among is. cc })
  old_new Undefined old = subst IsNew (sym (redirect_other op 0 wires Undefined refl)) (record { other = refl; live = tt; first = λ w among is. cc })
  old_new (Result id k) old = go (nat_eq id.index op.index) refl
    where
      wire_of : (x : Option OpId) → slice_get wires k ≡ x → id.index ≡ op.index → k < length wires → IsNew (redirect op 0 wires (Result id k))
      wire_of None is same within = absurd (missing wires k within is)
        where
          missing : (ws : List OpId) (n : ℕ) → n < length ws → slice_get ws n ≡ None → ⊥
          missing [] n below none = absurd (omega (arith, below))
          missing (w ∷ ws) zero below none = cc
          missing (w ∷ ws) (suc n) below none = missing ws n (omega (arith, below)) none
      wire_of (Some w) is same within =
          let zero_add : 0 + k ≡ k = omega arith in
          let to : redirect op 0 wires (Result id k) ≡ Result w 0 = ap (λ n. redirect op 0 wires (Result id n)) (sym zero_add) ∙ redirect_result op 0 wires k w id wires_other is same in
          subst IsNew (sym to) (wire_new w (In-slice_get w wires k is))

      go : (b : Bool) → nat_eq id.index op.index ≡ b → IsNew (redirect op 0 wires (Result id k))
      go true is = let same = eqb-true id.index op.index is in wire_of (slice_get wires k) refl same (old.within id k refl same)
      go false is = subst IsNew (sym (redirect_other op 0 wires (Result id k) is)) (old_stays id k old (eqb-false id.index op.index is))

  -- each value of the module
  pub moved_new : (joined : List Value) (ids : List ℕ) → All IsOld joined → (v : Value) → IsNew (redirect op 0 wires (moved_value joined ids copies v))
  moved_new joined ids all Undefined = old_new Undefined (record { live = tt; within = λ id k is. cc })
  moved_new joined ids all (Port j) = go (slice_get joined j) refl
    where
      go : (x : Option Value) → slice_get joined j ≡ x → IsNew (redirect op 0 wires (value_or_undefined x))
      go None is = old_new Undefined (record { live = tt; within = λ id k is. cc })
      go (Some v) is = old_new v (All-member IsOld joined all v (In-slice_get v joined j is))
  moved_new joined ids all (Result id k) = go (slice_get copies (position_of ids id.index)) refl
    where
      go : (x : Option OpId) → slice_get copies (position_of ids id.index) ≡ x → IsNew (redirect op 0 wires (copy_result x k))
      go None is = old_new Undefined (record { live = tt; within = λ id k is. cc })
      go (Some c) is =
          let among = In-slice_get c copies (position_of ids id.index) is in
          subst IsNew (sym (redirect_other op 0 wires (Result c k) (not_of op c k (copies_other c among)))) (copy_new c k among)
