-- A register of a module takes its next value in another way: what follows is valid, and does the same.
use Rattle.std.proofs.Common.{◌≡◌, ℕ, suc, ◌+◌, ◌≤◌, true, false, [], length, map, take, drop, set, slice_get, is_some, Option, Some, None, refl, sym, ap, subst, ◌∙◌, zero-add, length-set}
use Rattle.std.proofs.lemmas.List.{length-map}
use Rattle.std.proofs.lemmas.Option.{slice_get_within}
use mathlib.Core.Path.{fun_ext}
use Rattle.wiring.specs.Wiring.{IsAcyclic, HasHeights as HaveHeights}
use Rattle.wiring.proofs.Lists.{slice_get-set_same}
use Rattle.wiring.proofs.Members.{map_same}
use Rattle.wiring.proofs.Heights.{height-le}
use Rattle.bits_core.specs.Word.{Word, first}
use Rattle.hw_model.specs.Types.{Name, HwType}
use Rattle.hw_model.specs.Kinds.{Instance}
use Rattle.hw_model.specs.Design.{Ref, OpResult, Op, Module, Design, find_module, instance_in, output_refs}
use Rattle.hw_model.specs.Flat.{Path, Net, net, module_at, body_state, state, base, held_width, source, register_in, module_registers, registers}
use Rattle.hw_model.specs.Meaning.{needs_of, HasHeights, next_value, next_in, next_content, rise_value, rise_in, risen_content, machine}
use Rattle.hw_model.specs.Hierarchy.{calls}
use Rattle.hw_model.specs.Sound.{body_of, ports_of, input_types, output_types, type_in, Fits, OpFits, SoundBody, Sound}
use Rattle.hw_model.proofs.Machines.{same_forth}
use Rattle.hw_model.proofs.NetWidths.{sound_found, net_widths}
use Rattle.hw_model.proofs.Finite.{calls_within}
use Rattle.hw_model.proofs.Content.{call_heights}
use Rattle.edit_laws.specs.Follows.{Valid, Follows}
use Rattle.edit_laws.specs.Laws.{other_than, with_body}
use Rattle.edit_laws.specs.Registers.{Reloaded}
use Rattle.edit_laws.proofs.Edited.{holds_at}
use Rattle.edit_laws.proofs.OtherOperands.{reads}
use Rattle.edit_laws.proofs.Follows.{valid_settles, set_each}
use Rattle.edit_laws.proofs.Positions.{other_none, get_other}
use Rattle.edit_laws.proofs.Twins.Twin.{one, two}
use Rattle.edit_laws.proofs.Twins.{Twin, TwinOption, register_only, twin_reset, twins_at, twins_type, twins_outputs, twins_self, twins_set}
use Rattle.edit_laws.proofs.Registers.{Reregistered, calls_same, source_same, outputs_same, size_same}
use Rattle.edit_laws.proofs.Loads.{held_value, map_slots_same}

-- the same module, whose operations fit where those of the old one do
pub record Reloading (old new : Option Module) : Type 0 where
  pub registers : Reregistered old new
  pub fits : ((j : ℕ) (o : Op) → slice_get (body_of old) j ≡ Some o → OpFits (type_in (ports_of old) (body_of old)) o)
      → (j : ℕ) (o : Op) → slice_get (body_of new) j ≡ Some o → OpFits (type_in (ports_of old) (body_of old)) o

no_reloading : (o : Option Module) → Reloading o o
no_reloading o = record {
  registers = record { is_there = refl; ports_are = refl; twins = twins_self (ports_of o) (body_of o) 0 (body_of o) };
  fits = λ all. all;
}

reloading : (md : Module) (i : ℕ) (o o' : Op) → Reloaded md i o o' → Reloading (Some md) (Some (record md { body = set md.body i o' }))
reloading md i o o' change = record {
  registers = record {
    is_there = refl;
    ports_are = refl;
    twins = twins_set md.ports md.body i 0 md.body o o' change.there
        (subst (λ k. Twin md.ports md.body k o o') (sym (zero-add i)) (two change.old_register change.new_register change.same_types change.async_is change.loads));
  };
  fits = λ all j y is. at_position all j y is (other_than i j) refl;
}
  where
    at_position : ((j : ℕ) (y : Op) → slice_get md.body j ≡ Some y → OpFits (type_in md.ports md.body) y)
        → (j : ℕ) (y : Op) → slice_get (set md.body i o') j ≡ Some y → (x : Option ℕ) → other_than i j ≡ x → OpFits (type_in md.ports md.body) y
    at_position all j y is (Some j') other = all j y (sym (get_other md.body i j j' o' other) ∙ is)
    at_position all j y is None here =
        let e : Some o' ≡ Some y =
        sym (slice_get-set_same md.body i o' (slice_get_within md.body i o change.there)) ∙ ap (slice_get (set md.body i o')) (sym (other_none i j here)) ∙ is in
        let same : o' ≡ y = cc in
        subst (OpFits (type_in md.ports md.body)) same change.fits

module _ (d d' : Design) (each : (s : Name) → Reloading (find_module d s) (find_module d' s)) (same : length d' ≡ length d) (valid : Valid d) where
  none : Reregistered None None
  none = (no_reloading None).registers

  twins_each : (s : Name) → Reregistered (find_module d s) (find_module d' s)
  twins_each s = (each s).registers

  -- ---- valid

  still_there : (s : Name) (c : Module) → find_module d s ≡ Some c → (c' : Module) × (find_module d' s ≡ Some c') × (c'.ports ≡ c.ports)
  still_there s c is = go (find_module d' s) refl (ap is_some (sym is) ∙ sym (each s).registers.is_there) ((each s).registers.ports_are ∙ ap ports_of is)
    where
      go : (x : Option Module) → find_module d' s ≡ x → true ≡ is_some (find_module d' s) → ports_of (find_module d' s) ≡ c.ports
          → (c' : Module) × (find_module d' s ≡ Some c') × (c'.ports ≡ c.ports)
      go None missing there ports = let clash : true ≡ false = there ∙ ap is_some missing in cc
      go (Some c') some there ports = (c', some, sym (ap ports_of some) ∙ ports)

  sound_body : (o o' : Option Module) → Reloading o o' → SoundBody d (ports_of o) (body_of o) → SoundBody d' (ports_of o) (body_of o')
  sound_body o o' x sound = record {
    ops = λ j y is k t typed.
        subst (λ ts. Fits y.kind y.types ts t k) (sym (operands y)) (x.fits sound.ops j y is k t typed);
    instances = λ j y is i inst. by_twin j y is i inst (slice_get (body_of o) j) refl;
    outputs =
        ap (map (type_in (ports_of o) (body_of o'))) (twins_outputs (ports_of o) (body_of o) 0 (body_of o) (body_of o') x.registers.twins)
        ∙ map_same (type_in (ports_of o) (body_of o')) (type_in (ports_of o) (body_of o)) (output_refs (body_of o)) (λ r here. types r)
        ∙ sound.outputs;
  }
    where
      types : (r : Ref) → type_in (ports_of o) (body_of o') r ≡ type_in (ports_of o) (body_of o) r
      types = twins_type (ports_of o) (body_of o) (ports_of o) (body_of o) (body_of o') x.registers.twins

      operands : (y : Op) → map (type_in (ports_of o) (body_of o')) y.operands ≡ map (type_in (ports_of o) (body_of o)) y.operands
      operands y = map_same (type_in (ports_of o) (body_of o')) (type_in (ports_of o) (body_of o)) y.operands (λ r here. types r)

      by_twin : (j : ℕ) (y : Op) → slice_get (body_of o') j ≡ Some y → (i : Instance) → instance_in y.kind ≡ Some i → (z : Option Op) → slice_get (body_of o) j ≡ z
          → (c : Module) × (find_module d' i.symbol ≡ Some c) × (map (type_in (ports_of o) (body_of o')) y.operands ≡ map (λ (t : HwType). Some t) (input_types c.ports))
          × (map (λ (r : OpResult). r.type) y.results ≡ output_types c.ports)
      by_twin j y is i inst z before = go z before (subst (λ w. TwinOption (ports_of o) (body_of o) (0 + j) z w) is
          (subst (λ w. TwinOption (ports_of o) (body_of o) (0 + j) w (slice_get (body_of o') j)) before (twins_at (ports_of o) (body_of o) j 0 (body_of o) (body_of o') x.registers.twins)))
        where
          go : (z : Option Op) → slice_get (body_of o) j ≡ z → TwinOption (ports_of o) (body_of o) (0 + j) z (Some y)
              → (c : Module) × (find_module d' i.symbol ≡ Some c) × (map (type_in (ports_of o) (body_of o')) y.operands ≡ map (λ (t : HwType). Some t) (input_types c.ports))
              × (map (λ (r : OpResult). r.type) y.results ≡ output_types c.ports)
          go None was twin = absurd twin
          go (Some w) was (one equal) =
              let fits = sound.instances j y (was ∙ ap Some (sym equal)) i inst in
              let there = still_there i.symbol fits.0 fits.1 in
              (there.0, there.1, operands y ∙ fits.2 ∙ ap (λ ps. map (λ (t : HwType). Some t) (input_types ps)) (sym there.2), fits.3 ∙ ap output_types (sym there.2))
          go (Some w) was (two old new kinds resets loads) = let clash : None ≡ Some i = sym (register_only y new).0 ∙ inst in cc

  sound_after : Sound d'
  sound_after s m is =
      let body : SoundBody d' (ports_of (find_module d s)) (body_of (find_module d' s)) = sound_body (find_module d s) (find_module d' s) (each s) (sound_found d valid.sound s) in
      let ports : ports_of (find_module d s) ≡ m.ports = sym (each s).registers.ports_are ∙ ap ports_of is in
      subst (λ os. SoundBody d' m.ports os) (ap body_of is) (subst (λ ps. SoundBody d' ps (body_of (find_module d' s))) ports body)

  heights_after : (top : Name) → HasHeights d' top
  heights_after top =
      subst (λ f. HaveHeights f) (fun_ext (λ a. ap needs_of (sym (source_same d d' none twins_each same top a)))) (valid.heights top)

  valid_after : Valid d'
  valid_after = record {
    sound = sound_after;
    finite = subst (λ f. IsAcyclic f) (sym (fun_ext (calls_same d d' none twins_each same))) valid.finite;
    heights = heights_after;
  }

  -- ---- the same

  module _ (top : Name) (content : Word) where
    high : HaveHeights (calls d)
    high = call_heights d valid.finite

    low : high.0 top ≤ suc (length d)
    low = subst (λ k. high.0 top ≤ suc k) (length-map d (λ (m : Module). m.symbol))
        (height-le (calls d) (map (λ (m : Module). m.symbol) d) (calls_within d) high.0 high.1 top)

    next_same : (inputs : Word) (ρ : Net → Word) → ((a : Net) → ρ a ≡ reads inputs content ρ (source d top a))
        → next_content (registers d' top) ρ content ≡ next_content (registers d top) ρ content
    next_same inputs ρ settled =
        ap (λ n. next_content (module_registers (suc n) d' [] top) ρ content) same
        ∙ map_slots_same d d' none twins_each same top high.0 high.1 content (next_in ρ) alike (suc (length d)) [] top refl refl low
      where
        alike : (p : Path) (j : ℕ) (o o' : Op) → slice_get (body_of (module_at d top p)) j ≡ Some o
            → Twin (ports_of (module_at d top p)) (body_of (module_at d top p)) j o o'
            → next_value (register_in o') (λ r. ρ (net p r)) (first (held_width o) (drop (base d top p + body_state (state d) (take j (body_of (module_at d top p)))) content))
            ≡ next_value (register_in o) (λ r. ρ (net p r)) (first (held_width o) (drop (base d top p + body_state (state d) (take j (body_of (module_at d top p)))) content))
        alike p j o o' is (one equal) =
            ap (λ x. next_value (register_in x) (λ r. ρ (net p r)) (first (held_width o) (drop (base d top p + body_state (state d) (take j (body_of (module_at d top p)))) content))) equal
        alike p j o o' is (two old new types resets loads) =
            loads (λ r. ρ (net p r)) (holds_at d top inputs content ρ settled p)
            (λ r. net_widths d top valid.sound inputs content ρ (valid.heights top) settled (net p r))
            (first (held_width o) (drop (base d top p + body_state (state d) (take j (body_of (module_at d top p)))) content))
            (held_value d top inputs content ρ settled p j o is old)

    rising_same : (ρ σ : Net → Word) → risen_content (registers d' top) ρ σ content ≡ risen_content (registers d top) ρ σ content
    rising_same ρ σ =
        ap (λ n. risen_content (module_registers (suc n) d' [] top) ρ σ content) same
        ∙ map_slots_same d d' none twins_each same top high.0 high.1 content (rise_in ρ σ)
        (λ p j o o' is twin.
        ap (λ x. rise_value x (λ r. ρ (net p r)) (λ r. σ (net p r)) (first (held_width o) (drop (base d top p + body_state (state d) (take j (body_of (module_at d top p)))) content)))
        (twin_reset (ports_of (module_at d top p)) (body_of (module_at d top p)) j o o' twin))
        (suc (length d)) [] top refl refl low

  pub reload_follows : Follows d d'
  reload_follows = record {
    valid = valid_after;
    same = λ top.
        same_forth (machine d top) (machine d' top) (λ ρ. ρ) (sym (size_same d d' none twins_each same top)) (valid_settles d valid top) (valid_settles d' valid_after top)
        (record {
          settled = λ inputs content ρ settled a. settled a ∙ ap (reads inputs content ρ) (sym (source_same d d' none twins_each same top a));
          outputs = λ inputs content ρ settled. outputs_same d d' none twins_each same top ρ;
          next = λ inputs content ρ settled. next_same top content inputs ρ settled;
          rising = λ before inputs content ρ σ settled settled'. rising_same top content ρ σ;
        });
  }

-- a register that may take its next value in another way does
pub replace_register_preserves : (d : Design) (m : ℕ) (md : Module) (i : ℕ) (o o' : Op) → Valid d → slice_get d m ≡ Some md → Reloaded md i o o'
    → Follows d (with_body d m md (set md.body i o'))
replace_register_preserves d m md i o o' valid is change =
    reload_follows d (with_body d m md (set md.body i o'))
    (set_each Reloading no_reloading d m md (record md { body = set md.body i o' }) is refl (reloading md i o o' change))
    (length-set d m (record md { body = set md.body i o' })) valid
