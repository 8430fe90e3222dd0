-- Types still fit after an edit that keeps them.
use Rattle.std.proofs.Common.{◌≡◌, ℕ, suc, Bool, true, false, cond, List, [], ◌∷◌, map, slice_get, Option, Some, None, is_some, refl, sym, ap, subst, ◌∙◌}
use Rattle.wiring.specs.Wiring.{In}
use Rattle.wiring.proofs.Options.{option_map_some}
use Rattle.wiring.proofs.Members.{map_same}
use Rattle.wiring.proofs.Lists.{map-map}
use Rattle.hw_model.specs.Types.{Name, HwType}
use Rattle.hw_model.specs.Kinds.{Instance}
use Rattle.hw_model.specs.Design.{Ref, Op, Module, Design, find_module, instance_in, output_refs, is_output_op}
use Rattle.hw_model.specs.Sound.{body_of, ports_of, input_types, output_types, type_in, Fits, OpFits, InstanceFits, SoundBody, Sound}
use Rattle.hw_model.proofs.Sorts.{Sort, sort_of}
use Rattle.hw_model.proofs.Sorts.Sort.{a_register, an_instance, an_output, a_made}
use Rattle.hw_model.proofs.NetWidths.{sound_found}
use Rattle.edit_laws.specs.Edit.{retarget, is_anchor}
use Rattle.edit_laws.specs.Follows.{ValidEdit}
use Rattle.edit_laws.proofs.Anchors.{output_refs_follow}

-- a value that a body gives to an output is an operand of one of its operations
output_named : (os : List Op) (r : Ref) → In r (output_refs os) → (j : ℕ) × (o : Op) × (slice_get os j ≡ Some o) × In r o.operands
output_named [] r here = absurd here
output_named (o ∷ os) r here = go (is_output_op o) here (output_named os r)
  where
    go : (b : Bool) → In r (cond b o.operands (output_refs os)) → (In r (output_refs os) → (j : ℕ) × (x : Op) × (slice_get os j ≡ Some x) × In r x.operands)
        → (j : ℕ) × (x : Op) × (slice_get (o ∷ os) j ≡ Some x) × In r x.operands
    go true here rest = (0, o, refl, here)
    go false here rest = let found = rest here in (suc found.0, found.1, found.2, found.3)

module _ (d d' : Design) (each : (s : Name) → ValidEdit (find_module d s) (find_module d' s)) where
  -- a module that was there is there, with its ports
  still_there : (s : Name) (c : Module) → find_module d s ≡ Some c → (c' : Module) × (find_module d' s ≡ Some c') × (c'.ports ≡ c.ports)
  still_there s c is = go (find_module d' s) refl (ap is_some (sym is) ∙ sym (each s).edited.is_there) ((each s).edited.ports_are ∙ ap ports_of is)
    where
      go : (x : Option Module) → find_module d' s ≡ x → true ≡ is_some (find_module d' s) → ports_of (find_module d' s) ≡ c.ports
          → (c' : Module) × (find_module d' s ≡ Some c') × (c'.ports ≡ c.ports)
      go None none there ports = let clash : true ≡ false = there ∙ ap is_some none in cc
      go (Some c') some there ports = (c', some, sym (ap ports_of some) ∙ ports)

  module _ (o o' : Option Module) (x : ValidEdit o o') (sound : SoundBody d (ports_of o) (body_of o)) where
    old_type : Ref → Option HwType
    old_type = type_in (ports_of o) (body_of o)

    new_type : Ref → Option HwType
    new_type = type_in (ports_of o) (body_of o')

    -- the operands of what stays have their types
    operands_keep : (j : ℕ) (y : Op) → slice_get (body_of o) j ≡ Some y → map new_type (map x.edited.edit.stand y.operands) ≡ map old_type y.operands
    unfolding old_type new_type
    operands_keep j y is =
        map-map (type_in (ports_of o) (body_of o')) x.edited.edit.stand y.operands
        ∙ map_same (λ r. type_in (ports_of o) (body_of o') (x.edited.edit.stand r)) (type_in (ports_of o) (body_of o)) y.operands
        (λ r here. x.types.named j y r is here)

    fits_kept : (j : ℕ) (y : Op) → slice_get (body_of o) j ≡ Some y → OpFits new_type (retarget x.edited.edit.stand y)
    unfolding old_type new_type
    fits_kept j y is k t typed =
        subst (λ xs. Fits y.kind y.types xs t k) (sym (operands_keep j y is)) (sound.ops j y is k t typed)

    instance_kept : (j : ℕ) (y : Op) → slice_get (body_of o) j ≡ Some y → InstanceFits d' new_type (retarget x.edited.edit.stand y)
    unfolding old_type new_type
    instance_kept j y is i inst =
        let fits = sound.instances j y is i inst in
        let there = still_there i.symbol fits.0 fits.1 in (
          there.0,
          there.1,
          operands_keep j y is ∙ fits.2 ∙ ap (λ ps. map (λ (t : HwType). Some t) (input_types ps)) (sym there.2),
          fits.3 ∙ ap output_types (sym there.2),
        )

    no_anchor_instance : (y : Op) (i : Instance) → is_anchor y ≡ false → instance_in y.kind ≡ Some i → ⊥
    no_anchor_instance y i plain inst = go (sort_of y.kind)
      where
        go : Sort y.kind → ⊥
        go (a_register f r n u) = let clash : true ≡ false = simp r at plain in cc
        go (an_instance z r n u) = let clash : true ≡ false = simp (r, n) at plain in cc
        go (an_output r n u) = let clash : true ≡ false = simp (r, n, u) at plain in cc
        go (a_made r n u) = let clash : None ≡ Some i = sym n ∙ inst in cc

    -- an operation of the new body is one of the old body with other operands, or new
    by_home : (P : Op → Type 0) → ((j : ℕ) (y : Op) → slice_get (body_of o) j ≡ Some y → P (retarget x.edited.edit.stand y))
        → (j' : ℕ) (z : Op) → slice_get (body_of o') j' ≡ Some z → (x.falls.home j' ≡ None → P z) → P z
    by_home P kept j' z is fresh = go (x.falls.home j') refl
      where
        go : (y : Option ℕ) → x.falls.home j' ≡ y → P z
        go None new = fresh new
        go (Some j) came =
            let stays = x.edited.edit.kept j j' (x.falls.home_is j' j came) in
            let from = option_map_some (retarget x.edited.edit.stand) (slice_get (body_of o) j) (sym stays.op ∙ is) in
            subst P from.2 (kept j from.0 from.1)

    sound_body : SoundBody d' (ports_of o) (body_of o')
    unfolding old_type new_type
    sound_body = record {
      ops = λ j' z is. by_home (OpFits (type_in (ports_of o) (body_of o'))) fits_kept j' z is (λ new. x.types.fresh j' z new is);
      instances = λ j' z is. by_home (InstanceFits d' (type_in (ports_of o) (body_of o'))) instance_kept j' z is
          (λ new i inst. absurd (no_anchor_instance z i (x.falls.fresh_is j' z new is) inst));
      outputs =
          ap (map (type_in (ports_of o) (body_of o'))) (output_refs_follow (body_of o) (body_of o') x.edited.edit.stand x.edited.edit.anchors_are)
          ∙ map-map (type_in (ports_of o) (body_of o')) x.edited.edit.stand (output_refs (body_of o))
          ∙ map_same (λ r. type_in (ports_of o) (body_of o') (x.edited.edit.stand r)) (type_in (ports_of o) (body_of o)) (output_refs (body_of o))
          (λ r here. let named = output_named (body_of o) r here in x.types.named named.0 named.1 r named.2 named.3)
          ∙ sound.outputs;
    }

  pub sound_after : Sound d → Sound d'
  sound_after sound s m is =
      let body : SoundBody d' (ports_of (find_module d s)) (body_of (find_module d' s)) = sound_body (find_module d s) (find_module d' s) (each s) (sound_found d sound s) in
      let ports : ports_of (find_module d s) ≡ m.ports = sym (each s).edited.ports_are ∙ ap ports_of is in
      subst (λ os. SoundBody d' m.ports os) (ap body_of is) (subst (λ ps. SoundBody d' ps (body_of (find_module d' s))) ports body)
