-- The registers of a tree whose second event comes take what those of its design do whose asynchronous reset rises.
use Rattle.std.proofs.Common.{◌≡◌, ℕ, cond, List, slice_get, Option, Some, None, refl, ◌∙◌, ap, ap₂, inr, option_map}
use Rattle.wiring.specs.Wiring.{In}
use Rattle.wiring.proofs.Members.{In-slice_get}
use Rattle.bits_core.specs.Word.{Word}
use Rattle.hw_model.specs.Types.{Name, HwType, width}
use Rattle.hw_model.specs.Design.{Ref, OpResult, Op, Module, Design, find_module, result_type}
use Rattle.hw_model.specs.Value.{is_high}
use Rattle.hw_model.specs.Flat.{Path, Net, net as at, module_at, width_of, Slot, Register, ResetBy, register_in, async_reset_in}
use Rattle.hw_model.specs.Meaning.{rise_value, rise_in, risen_content}
use Rattle.hw_model.specs.Sound.{type_in}
use Rattle.verilog_model.specs.Tree.{Expr}
use Rattle.verilog_model.specs.Hierarchy.{VNet, VSlot}
use Rattle.verilog_model.specs.Meaning.{names_at, load_value, second_event, event_value, slot_rise, risen_vcontent}
use Rattle.verilog_expr.specs.Expressions.{constant_expr}
use Rattle.lowering_options.specs.declared.lowering.Lowering.{Lowering}
use Rattle.export_verilog.specs.Lowerings.{load_place, own_place}
use Rattle.export_verilog.specs.Identifiers.{identifier_text}
use Rattle.export_verilog.specs.Identifiers.Identifier.{value_identifier}
use Rattle.export_verilog.specs.Exported.{expression, loads, block_of, module_block, vmodule}
use Rattle.export_verilog.proofs.items.Settings.{Setting, first_result}
use Rattle.export_verilog.proofs.items.Registers.{AreOperands, async_parts_of, typed_register}
use Rattle.export_verilog.proofs.behaviour.Positions.{vpath_of, symbol_at_path}
use Rattle.export_verilog.proofs.behaviour.NetMaps.{IsDesignSettled}
use Rattle.export_verilog.proofs.behaviour.Owners.{to}
use Rattle.export_verilog.proofs.behaviour.Slots.{vslot, IsSlot, AreSlots, signal_is, literal_is, slot_width_is, map_slots_is}

-- a block without an asynchronous reset has no second event
no_second_event : (asked ex : Ref → Expr) (q : Name) (next : Ref) (e : Option Ref) (b : Option ResetBy) → second_event (block_of asked ex q next e b) ≡ None
no_second_event asked ex q next None None = refl
no_second_event asked ex q next (Some e) None = refl
no_second_event asked ex q next None (Some b) = refl
no_second_event asked ex q next (Some e) (Some b) = refl

module _ (via : Lowering) (d : Design) (x : Setting d) (top : Name) (m0 : Module) (top_is : find_module d top ≡ Some m0) (before inputs content : Word) (σ ρ : Net → Word)
    (settled_before : IsDesignSettled via d x top before content m0 top_is σ) (settled : IsDesignSettled via d x top inputs content m0 top_is ρ) where
  abbrev earlier : VNet → Word
  earlier = to via d x top m0 top_is σ

  abbrev now : VNet → Word
  now = to via d x top m0 top_is ρ

  -- what the block of a register holds once its second event has come, if it has
  event_is : (p : Path) (m : Module) (here : module_at d top p ≡ Some m) (i : ℕ) (o : Op) (parts g : Register) (t : HwType) → In o m.body → register_in o ≡ Some g → AreOperands (type_in m.ports m.body) t g
      → (a : Option ResetBy) → async_reset_in o ≡ a → (old : Word)
      → event_value (second_event (module_block via m (identifier_text m (value_identifier i 0)) parts a)) earlier now (width t) old (vslot via d x top (vpath_of d top p) m i parts a)
      ≡ rise_value a (λ r. σ (at p r)) (λ r. ρ (at p r)) old
  event_is p m here i o parts g t within is_register_of typed None resets old =
      ap (λ z. event_value z earlier now (width t) old (vslot via d x top (vpath_of d top p) m i parts None))
      (no_second_event (expression m (own_place via)) (expression m (load_place via)) (identifier_text m (value_identifier i 0)) parts.next parts.enable parts.reset)
  event_is p m here i o parts g t within is_register_of typed (Some b) resets old =
      let by = (async_parts_of o b resets g is_register_of).0 in
      let q = identifier_text m (value_identifier i 0) in
      ap₂ (λ y z. cond (is_high y) old (cond (is_high z) (load_value (vmodule via d m) (names_at (vpath_of d top p) now) (width t) (loads q (constant_expr m.ports m.body b.value))) old))
      (signal_is via d x top before content m0 top_is σ settled_before p m here o b within resets (typed.signal b by))
      (signal_is via d x top inputs content m0 top_is ρ settled p m here o b within resets (typed.signal b by))
      ∙ ap (λ l. cond (is_high (σ (at p b.signal))) old (cond (is_high (ρ (at p b.signal))) l old))
      (literal_is via d x top inputs content m0 top_is ρ settled p m here o b within resets t (typed.value b by) q)

  slot_rise_is : (s : Slot) (v : VSlot) → IsSlot via d x top s v → (old : Word) → slot_rise earlier now v old ≡ rise_in σ ρ s old
  slot_rise_is s v is old =
      let h = symbol_at_path via d x top s.path is.m is.here in
      let r = first_result d x h.0 is.m h.1 is.position s.op is.there (inr is.emission) in
      let typed : result_type s.op 0 ≡ Some r.0.type = ap (λ rs. option_map (λ (z : OpResult). z.type) (slice_get rs 0)) r.1 in
      let g = typed_register d x h.0 is.m h.1 is.position s.op is.there is.emission r.0.type typed in
      ap₂ (λ k (z : VSlot). event_value (second_event z.block) earlier now k old z) (slot_width_is via d x top inputs content m0 top_is ρ settled s v is ∙ ap width_of typed) is.same
      ∙ event_is s.path is.m is.here is.position s.op is.parts g.0 r.0.type (In-slice_get s.op is.m.body is.position is.there) g.1 g.2 (async_reset_in s.op) refl old

  pub risen_is : (ss : List Slot) (vs : List VSlot) → AreSlots via d x top ss vs → (c : Word) → risen_vcontent vs earlier now c ≡ risen_content ss σ ρ c
  risen_is ss vs are c = map_slots_is via d x top inputs content m0 top_is ρ settled (rise_in σ ρ) (slot_rise earlier now) slot_rise_is ss vs are c
