-- The registers of a design and those of its tree stand in the same order, and load the same values.
use Rattle.std.proofs.Common.{◌≡◌, ℕ, zero, suc, ◌+◌, Bool, true, false, cond, ◌||◌, is_some, List, [], ◌∷◌, ◌++◌, map, length, take, drop, slice_get, Option, Some, None, refl, sym, ◌∙◌, ap, ap₂}
use Rattle.std.proofs.Common.{subst, inr, zero-add, add-zero, suc-add, add-suc, append_assoc, append-nil, arith, option_map}
use Rattle.wiring.specs.Wiring.{In}
use Rattle.wiring.proofs.Members.{In-slice_get}
use Rattle.bits_core.specs.Word.{Word, first}
use Rattle.hw_model.specs.Types.{Name, HwType, width}
use Rattle.hw_model.specs.Types.HwType.{int, clock}
use Rattle.hw_model.specs.Design.{Ref, Port, OpResult, Op, Module, Design, find_module, instance_in, register_form, is_instance, is_output_kind, result_type, output_refs}
use Rattle.hw_model.specs.Design.Ref.{result}
use Rattle.hw_model.specs.Value.{op_value, is_high}
use Rattle.hw_model.specs.Flat.Source.{op_result}
use Rattle.hw_model.specs.Flat.{Path, Net, net as at, module_at, instances, width_of, held_width, Slot, Register, ResetBy, register_in, async_reset_in, instance_registers, op_registers}
use Rattle.hw_model.specs.Flat.{body_registers, registers_of, module_registers, registers, depth}
use Rattle.hw_model.specs.Meaning.{value_if_enabled, reset, next_value, map_slots, next_in, next_content}
use Rattle.hw_model.specs.Sound.{type_in}
use Rattle.hw_model.proofs.Sorts.{Sort, sort_of}
use Rattle.hw_model.proofs.Sorts.Sort.{a_register, an_instance as is_an_instance, an_output, a_made}
use Rattle.hw_model.proofs.NetWidths.{value_widths}
use Rattle.verilog_model.specs.Tree.{Item, VModule}
use Rattle.verilog_model.specs.Tree.Expr.{name}
use Rattle.verilog_model.specs.Tree.Item.{assign}
use Rattle.verilog_model.specs.Expression.{assigned, is_true, low_bits}
use Rattle.verilog_model.specs.Hierarchy.{VPath, VNet, vnet, width_in, VSlot, item_registers, items_registers, vregisters_of, vmodule_registers, vregisters}
use Rattle.verilog_model.specs.Meaning.{names_at, load_value, holds, block_value, slot_value, slot_width, map_vslots, slot_next, next_vcontent}
use Rattle.verilog_expr.specs.Spilling.{is_wire_kind, spilled}
use Rattle.verilog_expr.specs.Expressions.{constant_expr}
use Rattle.lowering_options.specs.declared.lowering.Lowering.{Lowering}
use Rattle.export_verilog.specs.Lowerings.{load_place, own_place}
use Rattle.export_verilog.specs.Identifiers.{Emission, each, emission_of, identifier_text, value_name, name_or_nothing}
use Rattle.export_verilog.specs.Identifiers.Identifier.{port_identifier, value_identifier, instance_identifier}
use Rattle.export_verilog.specs.Identifiers.Emission.{inline, as_wire, as_reg, as_instance}
use Rattle.export_verilog.specs.Exportable.{IsClocked}
use Rattle.export_verilog.specs.Exported.{symbol_name, expression, assigned_expr, result_wires, declared_as, declares, loads, block_of, module_block, always_of, instance_of, stated_as, states}
use Rattle.export_verilog.specs.Exported.{output_assigns, expr_or_none, others, vitems, vmodule, tree_of}
use Rattle.export_verilog.proofs.names.IdentifiersOf.{emission_of_register, emission_of_instance, emission_of_output, emission_of_made}
use Rattle.export_verilog.proofs.names.Symbols.{vmodule_found}
use Rattle.export_verilog.proofs.items.Settings.{Setting, module_ok, called_by_emission, first_result}
use Rattle.export_verilog.proofs.items.Registers.{AreOperands, async_parts_of, typed_register, register_of}
use Rattle.export_verilog.proofs.items.Resets.{signal_port, IsValueOf, value_of_reset, literal_own}
use Rattle.export_verilog.proofs.behaviour.Sources.{made_from}
use Rattle.export_verilog.proofs.items.Drives.{block_name}
use Rattle.export_verilog.proofs.behaviour.Positions.{number_of, vpath_of, symbol_at_path, inside_instance}
use Rattle.export_verilog.proofs.behaviour.Content.{variable_width}
use Rattle.export_verilog.proofs.items.Writable.{named_input}
use Rattle.export_verilog.proofs.items.Writable.NamedAs.{by_port}
use Rattle.export_verilog.proofs.behaviour.NetValues.{low_all, constant_form, own, evaluated_as, IsGood, symbol_there, found_there, assigned_in_place, asked_own, assigned_made}
use Rattle.export_verilog.proofs.behaviour.NetMaps.{IsDesignSettled}
use Rattle.export_verilog.proofs.behaviour.Owners.{to}
use Rattle.export_verilog.proofs.behaviour.SettledMaps.{heights, over_good, name_shows, own_is}

-- ---- items without registers

module _ (via : Lowering) (f : VPath → Name → List VSlot) (q : VPath) (v : VModule) where
  pub registers-append : (xs ys : List Item) → items_registers f q v (xs ++ ys) ≡ items_registers f q v xs ++ items_registers f q v ys
  registers-append [] ys = refl
  registers-append (y ∷ xs) ys =
      ap (λ zs. item_registers f q v y ++ zs) (registers-append xs ys) ∙ sym (append_assoc (item_registers f q v y) (items_registers f q v xs) (items_registers f q v ys))

  none_in_wires : (m : Module) (i k : ℕ) (rs : List OpResult) → items_registers f q v (result_wires m i k rs) ≡ []
  none_in_wires m i k [] = refl
  none_in_wires m i k (r ∷ rs) = none_in_wires m i (suc k) rs

  none_declared : (m : Module) (i : ℕ) (o : Op) (r : Emission) → items_registers f q v (declared_as m i o r) ≡ []
  none_declared m i o inline = refl
  none_declared m i o as_wire = refl
  none_declared m i o as_reg = refl
  none_declared m i o as_instance = none_in_wires m i 0 o.results

  none_in_declares : (m : Module) (i : ℕ) (os : List Op) → items_registers f q v (each (declares m) i os) ≡ []
  none_in_declares m i [] = refl
  none_in_declares m i (o ∷ os) = registers-append (declares m i o) (each (declares m) (suc i) os)
      ∙ ap₂ (λ a b. a ++ b) (none_declared m i o (emission_of m.ports m.body i o)) (none_in_declares m (suc i) os)

  none_in_outputs : (m : Module) (j : ℕ) (ps : List Port) (rs : List Ref) → items_registers f q v (output_assigns via m j ps rs) ≡ []
  none_in_outputs m j [] rs = refl
  none_in_outputs m j (p ∷ ps) rs = go p.is_output (none_in_outputs m (suc j) ps (others rs)) (none_in_outputs m (suc j) ps rs) where
    go : (b : Bool) → items_registers f q v (output_assigns via m (suc j) ps (others rs)) ≡ [] → items_registers f q v (output_assigns via m (suc j) ps rs) ≡ []
        → items_registers f q v (cond b (assign (identifier_text m (port_identifier j)) (expr_or_none (expression m (load_place via)) rs) ∷ output_assigns via m (suc j) ps (others rs)) (output_assigns via m (suc j) ps rs)) ≡ []
    go true first second = first
    go false first second = second

-- the number of the next instance
number_next : (os : List Op) (j : ℕ) (o : Op) → slice_get os j ≡ Some o → number_of os (suc j) ≡ cond (is_instance o) (suc (number_of os j)) (number_of os j)
number_next [] j o is = cc
number_next (y ∷ ys) zero o is = ap (λ (z : Op). length (cond (is_instance z) (z ∷ []) [])) (let e : y ≡ o = cc in e) ∙ go (is_instance o) where
  go : (b : Bool) → length (cond b (o ∷ []) []) ≡ cond b 1 0
  go true = refl
  go false = refl
number_next (y ∷ ys) (suc j) o is = go (is_instance y) (is_instance o) (number_next ys j o is) where
  go : (b c : Bool) → number_of ys (suc j) ≡ cond c (suc (number_of ys j)) (number_of ys j)
      → length (cond b (y ∷ instances (take (suc j) ys)) (instances (take (suc j) ys))) ≡ cond c (suc (length (cond b (y ∷ instances (take j ys)) (instances (take j ys)))))
      (length (cond b (y ∷ instances (take j ys)) (instances (take j ys))))
  go true true rest = ap suc rest
  go true false rest = ap suc rest
  go false true rest = rest
  go false false rest = rest

module _ (via : Lowering) (d : Design) (x : Setting d) (top : Name) where
  -- the register that a variable of the tree is
  abbrev pub vslot : VPath → Module → ℕ → Register → Option ResetBy → VSlot
  vslot q m i r a = record {
    path = q;
    in_module = vmodule via d m;
    clock = name_or_nothing (value_name m r.clock);
    block = module_block via m (identifier_text m (value_identifier i 0)) r a;
  }

  pub record IsSlot (s : Slot) (v : VSlot) : Type 0 where
    pub m : Module
    pub here : module_at d top s.path ≡ Some m
    pub position : ℕ
    pub there : slice_get m.body position ≡ Some s.op
    pub emission : emission_of m.ports m.body position s.op ≡ as_reg
    pub parts : Register
    pub is_parts : register_in s.op ≡ Some parts
    pub same : v ≡ vslot (vpath_of d top s.path) m position parts (async_reset_in s.op)

  abbrev pub AreSlots : List Slot → List VSlot → Type 0
  AreSlots [] [] = Unit {0}
  AreSlots [] (v ∷ vs) = ⊥
  AreSlots (s ∷ ss) [] = ⊥
  AreSlots (s ∷ ss) (v ∷ vs) = IsSlot s v × AreSlots ss vs

  slots-append : (ss : List Slot) (vs : List VSlot) (ts : List Slot) (ws : List VSlot) → AreSlots ss vs → AreSlots ts ws → AreSlots (ss ++ ts) (vs ++ ws)
  slots-append [] [] ts ws are also = also
  slots-append [] (v ∷ vs) ts ws are also = absurd are
  slots-append (s ∷ ss) [] ts ws are also = absurd are
  slots-append (s ∷ ss) (v ∷ vs) ts ws are also = (are.0, slots-append ss vs ts ws are.1 also)

  module _ (f : Path → Name → List Slot) (g : VPath → Name → List VSlot)
      (inner : (p : Path) (s : Name) (m : Module) → module_at d top p ≡ Some m → find_module d s ≡ Some m → AreSlots (f p s) (g (vpath_of d top p) (symbol_name d s)))
      (p : Path) (m : Module) (here : module_at d top p ≡ Some m) (s : Name) (is : find_module d s ≡ Some m) where
    abbrev items_of : List Item → List VSlot
    items_of ys = items_registers g (vpath_of d top p) (vmodule via d m) ys

    op_slots : (i : ℕ) (o : Op) → slice_get m.body i ≡ Some o → AreSlots (op_registers f p (number_of m.body i) o) (items_of (states via d m i o))
    op_slots i o there = by_sort (sort_of o.kind) where
      from_emission : (r : Emission) → emission_of m.ports m.body i o ≡ r → (ss : List Slot) → op_registers f p (number_of m.body i) o ≡ ss → AreSlots ss (items_of (stated_as via d m i o r))
          → AreSlots (op_registers f p (number_of m.body i) o) (items_of (states via d m i o))
      from_emission r emission ss regs are = subst (λ z. AreSlots z (items_of (states via d m i o))) (sym regs) (subst (λ z. AreSlots ss (items_of (stated_as via d m i o z))) (sym emission) are)

      no_registers : register_form o.kind ≡ None → instance_in o.kind ≡ None → op_registers f p (number_of m.body i) o ≡ []
      no_registers r n = ap (λ z. cond (is_some z) (record { path = p; op = o } ∷ []) (instance_registers f p (number_of m.body i) (instance_in o.kind))) r ∙ ap (instance_registers f p (number_of m.body i)) n

      none_made : (a b : Bool) → items_of (stated_as via d m i o (cond a as_wire (cond b as_wire inline))) ≡ []
      none_made true b = refl
      none_made false true = refl
      none_made false false = refl

      by_sort : Sort o.kind → AreSlots (op_registers f p (number_of m.body i) o) (items_of (states via d m i o))
      by_sort (a_register h r n u) =
          let emission = emission_of_register m.ports m.body i o h r in
          let parts = register_of d x s m is i o there emission in
          from_emission as_reg emission (record { path = p; op = o } ∷ [])
          (ap (λ z. cond (is_some z) (record { path = p; op = o } ∷ []) (instance_registers f p (number_of m.body i) (instance_in o.kind))) r)
          (subst (λ z. AreSlots (record { path = p; op = o } ∷ []) (items_of (always_of via m (identifier_text m (value_identifier i 0)) (async_reset_in o) z))) (sym parts.1)
          (record { m = m; here = here; position = i; there = there; emission = emission; parts = parts.0; is_parts = parts.1; same = refl }, tt))
      by_sort (is_an_instance k r n u) =
          let emission = emission_of_instance m.ports m.body i o k r n in
          let c = called_by_emission d x s m is i o there emission in
          let inside = inside_instance via d x top p m here i o c there in
          let are : AreSlots (f (number_of m.body i ∷ p) c.kind.symbol) (g (identifier_text m (instance_identifier i) ∷ vpath_of d top p) (symbol_name d c.kind.symbol)) =
          subst (λ q. AreSlots (f (number_of m.body i ∷ p) c.kind.symbol) (g q (symbol_name d c.kind.symbol))) inside.1
          (inner (number_of m.body i ∷ p) c.kind.symbol c.module_of inside.0 c.there) in
          from_emission as_instance emission (f (number_of m.body i ∷ p) c.kind.symbol)
          (ap (λ z. cond (is_some z) (record { path = p; op = o } ∷ []) (instance_registers f p (number_of m.body i) (instance_in o.kind))) r ∙ ap (instance_registers f p (number_of m.body i)) c.is_kind)
          (subst (λ z. AreSlots (f (number_of m.body i ∷ p) c.kind.symbol) (items_of (instance_of via d m i o z))) (sym c.is_kind)
          (subst (AreSlots (f (number_of m.body i ∷ p) c.kind.symbol)) (sym (append-nil (g (identifier_text m (instance_identifier i) ∷ vpath_of d top p) (symbol_name d c.kind.symbol)))) are))
      by_sort (an_output r n u) = from_emission inline (emission_of_output m.ports m.body i o r n u) [] (no_registers r n) tt
      by_sort (a_made r n u) =
          from_emission (cond (is_wire_kind o.kind) as_wire (cond (spilled m.ports m.body (result i 0)) as_wire inline)) (emission_of_made m.ports m.body i o r n u) [] (no_registers r n)
          (subst (AreSlots []) (sym (none_made (is_wire_kind o.kind) (spilled m.ports m.body (result i 0)))) tt)

    body_slots : (j : ℕ) (os : List Op) → ((a : ℕ) (o : Op) → slice_get os a ≡ Some o → slice_get m.body (j + a) ≡ Some o) → (u : ℕ) → u ≡ number_of m.body j
        → AreSlots (body_registers f p u os) (items_of (each (states via d m) j os))
    body_slots j [] within u number = tt
    body_slots j (o ∷ os) within u number =
        let there : slice_get m.body j ≡ Some o = ap (slice_get m.body) (sym (add-zero j)) ∙ within 0 o refl in
        let next : cond (is_instance o) (suc u) u ≡ number_of m.body (suc j) = ap (λ z. cond (is_instance o) (suc z) z) number ∙ sym (number_next m.body j o there) in
        subst (AreSlots (body_registers f p u (o ∷ os))) (sym (registers-append via g (vpath_of d top p) (vmodule via d m) (states via d m j o) (each (states via d m) (suc j) os)))
        (slots-append (op_registers f p u o) (items_of (states via d m j o)) (body_registers f p (cond (is_instance o) (suc u) u) os) (items_of (each (states via d m) (suc j) os))
        (subst (λ z. AreSlots (op_registers f p z o) (items_of (states via d m j o))) (sym number) (op_slots j o there))
        (body_slots (suc j) os (λ a z found. ap (slice_get m.body) (suc-add j a ∙ sym (add-suc j a)) ∙ within (suc a) z found) (cond (is_instance o) (suc u) u) next))

    module_slots : AreSlots (body_registers f p 0 m.body) (items_of (vitems via d m))
    module_slots = subst (AreSlots (body_registers f p 0 m.body)) (sym same) (body_slots 0 m.body (λ a o found. ap (slice_get m.body) (zero-add a) ∙ found) 0 refl) where
      same : items_of (vitems via d m) ≡ items_of (each (states via d m) 0 m.body)
      same =
          registers-append via g (vpath_of d top p) (vmodule via d m) (each (declares m) 0 m.body) (each (states via d m) 0 m.body ++ output_assigns via m 0 m.ports (output_refs m.body))
          ∙ ap₂ (λ a b. a ++ b) (none_in_declares via g (vpath_of d top p) (vmodule via d m) m 0 m.body)
          (registers-append via g (vpath_of d top p) (vmodule via d m) (each (states via d m) 0 m.body) (output_assigns via m 0 m.ports (output_refs m.body))
          ∙ ap (λ z. items_of (each (states via d m) 0 m.body) ++ z) (none_in_outputs via g (vpath_of d top p) (vmodule via d m) m 0 m.ports (output_refs m.body))
          ∙ append-nil (items_of (each (states via d m) 0 m.body)))

  slots_at : (n : ℕ) (p : Path) (s : Name) (m : Module) → module_at d top p ≡ Some m → find_module d s ≡ Some m
      → AreSlots (module_registers n d p s) (vmodule_registers n (tree_of via d) (vpath_of d top p) (symbol_name d s))
  slots_at zero p s m here is = tt
  slots_at (suc n) p s m here is =
      subst (λ z. AreSlots (registers_of (module_registers n d) p z) (vmodule_registers (suc n) (tree_of via d) (vpath_of d top p) (symbol_name d s))) (sym is)
      (subst (λ z. AreSlots (body_registers (module_registers n d) p 0 m.body) (vregisters_of (vmodule_registers n (tree_of via d)) (vpath_of d top p) z)) (sym (vmodule_found d x.ok x.symbols via s m is))
      (module_slots (module_registers n d) (vmodule_registers n (tree_of via d)) (λ q t c there found. slots_at n q t c there found) p m here s is))

  pub are_slots : (m : Module) → find_module d top ≡ Some m → AreSlots (registers d top) (vregisters (tree_of via d) (symbol_name d top))
  are_slots m is =
      subst (λ n. AreSlots (registers d top) (vmodule_registers (suc n) (tree_of via d) [] (symbol_name d top))) (sym (Rattle.std.proofs.lemmas.List.length-map d (vmodule via d)))
      (slots_at (depth d) [] top m is is)

-- ---- the values that registers take

high_of_one : (w : Word) → length w ≡ 1 → is_true w ≡ is_high w
high_of_one [] size = cc
high_of_one (b ∷ []) size = go b where
  go : (c : Bool) → (c || false) ≡ c
  go true = refl
  go false = refl
high_of_one (b ∷ c ∷ w) size = absurd (omega (arith, size))

module _ (via : Lowering) (d : Design) (x : Setting d) (top : Name) (inputs content : Word) (m0 : Module) (top_is : find_module d top ≡ Some m0) (ρ : Net → Word)
    (settled : IsDesignSettled via d x top inputs content m0 top_is ρ) where
  abbrev over : VNet → Word
  over = to via d x top m0 top_is ρ

  good : IsGood via d x top inputs content over
  good = over_good via d x top inputs content m0 top_is ρ settled

  module _ (p : Path) (m : Module) (here : module_at d top p ≡ Some m) where
    typed_length : (r : Ref) (t : HwType) → type_in m.ports m.body r ≡ Some t → length (ρ (at p r)) ≡ width t
    typed_length r t typed = value_widths d top x.ok.sound inputs content ρ (heights via d x top inputs content m0 top_is) settled p m r t here typed

    -- what an assignment of a value to a variable of its width gives
    load_is : (k : ℕ) (q : Name) (r : Ref) (t : HwType) → type_in m.ports m.body r ≡ Some t → width t ≡ k → load_value (vmodule via d m) (names_at (vpath_of d top p) over) k (loads q (expression m (load_place via) r)) ≡ ρ (at p r)
    load_is k q r t typed size =
        assigned_in_place via d x top inputs content p m here over good.words (good.constants p m here) (load_place via) k r (ap width_of typed ∙ size)
        ∙ own_is via d x top inputs content m0 top_is ρ settled p m here r

    holds_is : (r : Ref) → type_in m.ports m.body r ≡ Some (int 1) → holds (vmodule via d m) (names_at (vpath_of d top p) over) (expression m (own_place via) r) ≡ is_high (ρ (at p r))
    holds_is r typed = ap is_true (asked_own via d x top inputs content p m here over good.words (good.constants p m here) r ∙ own_is via d x top inputs content m0 top_is ρ settled p m here r)
        ∙ high_of_one (ρ (at p r)) (typed_length r (int 1) typed)

    block_is : (i : ℕ) (t : HwType) (g : Register) → AreOperands (type_in m.ports m.body) t g → (old : Word)
        → block_value (vmodule via d m) (names_at (vpath_of d top p) over) (width t) old (block_of (expression m (own_place via)) (expression m (load_place via)) (identifier_text m (value_identifier i 0)) g.next g.enable g.reset)
        ≡ reset g.reset (λ r. ρ (at p r)) (value_if_enabled g.enable (λ r. ρ (at p r)) old (ρ (at p g.next)))
    block_is i t g typed old = go g.enable refl g.reset refl where
      next_is : load_value (vmodule via d m) (names_at (vpath_of d top p) over) (width t) (loads (identifier_text m (value_identifier i 0)) (expression m (load_place via) g.next)) ≡ ρ (at p g.next)
      next_is = load_is (width t) (identifier_text m (value_identifier i 0)) g.next t typed.next refl

      reset_is : (b : ResetBy) → g.reset ≡ Some b → load_value (vmodule via d m) (names_at (vpath_of d top p) over) (width t) (loads (identifier_text m (value_identifier i 0)) (expression m (load_place via) b.value)) ≡ ρ (at p b.value)
      reset_is b is = load_is (width t) (identifier_text m (value_identifier i 0)) b.value t (typed.value b is) refl

      go : (e : Option Ref) → g.enable ≡ e → (f : Option ResetBy) → g.reset ≡ f
          → block_value (vmodule via d m) (names_at (vpath_of d top p) over) (width t) old (block_of (expression m (own_place via)) (expression m (load_place via)) (identifier_text m (value_identifier i 0)) g.next e f)
          ≡ reset f (λ r. ρ (at p r)) (value_if_enabled e (λ r. ρ (at p r)) old (ρ (at p g.next)))
      go None ee None fe = next_is
      go (Some e) ee None fe = ap₂ (λ b w. cond b w old) (holds_is e (typed.enable e ee)) next_is
      go None ee (Some f) fe = ap₂ (λ b (w : Word × Word). cond b w.0 w.1) (holds_is f.signal (typed.signal f fe)) (ap₂ (λ v w. (v, w)) (reset_is f fe) next_is)
      go (Some e) ee (Some f) fe =
          ap₂ (λ b v. cond b v (cond (holds (vmodule via d m) (names_at (vpath_of d top p) over) (expression m (own_place via) e))
          (load_value (vmodule via d m) (names_at (vpath_of d top p) over) (width t) (loads (identifier_text m (value_identifier i 0)) (expression m (load_place via) g.next))) old))
          (holds_is f.signal (typed.signal f fe)) (reset_is f fe)
          ∙ ap₂ (λ b v. cond (is_high (ρ (at p f.signal))) (ρ (at p f.value)) (cond b v old)) (holds_is e (typed.enable e ee)) next_is

    -- ---- asynchronous resets

    -- the net of the reset's name shows the signal
    pub signal_is : (o : Op) (b : ResetBy) → In o m.body → async_reset_in o ≡ Some b → type_in m.ports m.body b.signal ≡ Some (int 1)
        → low_bits 1 (over (vnet (vpath_of d top p) (name_or_nothing (value_name m b.signal)))) ≡ ρ (at p b.signal)
    signal_is o b within resets typed =
        let c = signal_port via d x (symbol_there via d x top inputs content p m here) m (found_there via d x top inputs content p m here) o b within resets in
        ap (λ n. low_bits 1 (over (vnet (vpath_of d top p) n))) c.called
        ∙ ap (low_bits 1) (name_shows via d x top inputs content m0 top_is ρ settled p m here b.signal (identifier_text m (port_identifier c.number)) (by_port c.number c.port_of c.there c.input c.is_port refl))
        ∙ low_all 1 (ρ (at p b.signal)) (typed_length b.signal (int 1) typed)

    signal_holds : (o : Op) (b : ResetBy) → In o m.body → async_reset_in o ≡ Some b → type_in m.ports m.body b.signal ≡ Some (int 1)
        → holds (vmodule via d m) (names_at (vpath_of d top p) over) (name (name_or_nothing (value_name m b.signal))) ≡ is_high (ρ (at p b.signal))
    signal_holds o b within resets typed =
        let c = signal_port via d x (symbol_there via d x top inputs content p m here) m (found_there via d x top inputs content p m here) o b within resets in
        ap (λ n. holds (vmodule via d m) (names_at (vpath_of d top p) over) (name n)) c.called
        ∙ ap (holds (vmodule via d m) (names_at (vpath_of d top p) over)) (sym c.written) ∙ holds_is b.signal typed

    -- what is assigned to a constant is worth the constant
    constant_worth : (r : Ref) (t : HwType) (v : IsValueOf via d x (symbol_there via d x top inputs content p m here) m (found_there via d x top inputs content p m here) r t)
        → assigned (width_in (vmodule via d m)) (names_at (vpath_of d top p) over) (width t) (assigned_expr via m (result v.position 0)) ≡ ρ (at p r)
    constant_worth r t v =
        let form = constant_form v.op.kind v.number v.kind in
        assigned_made via d x top inputs content p m here over good.words v.position v.op t v.there v.gives v.typed (λ e. good.constants p m here)
        ∙ ap (λ k. op_value k v.op.types t 0 (map (own via d x top inputs content over p m) v.op.operands)) v.kind
        ∙ sym (ap (λ k. op_value k v.op.types t 0 (map ρ (map (at p) v.op.operands))) v.kind)
        ∙ sym (ap (λ z. ρ (at p z)) v.is_result ∙ settled (at p (result v.position 0))
        ∙ evaluated_as via d x top inputs content ρ p (result v.position 0) (op_result v.op.kind v.op.types t 0 (map (at p) v.op.operands))
        (made_from d top p m here v.position 0 v.op t v.there form.0 form.1 (ap is_output_kind v.kind) v.typed))

    -- the load of the literal gives the reset's value
    pub literal_is : (o : Op) (b : ResetBy) → In o m.body → async_reset_in o ≡ Some b → (t : HwType) → type_in m.ports m.body b.value ≡ Some t → (q : Name)
        → load_value (vmodule via d m) (names_at (vpath_of d top p) over) (width t) (loads q (constant_expr m.ports m.body b.value)) ≡ ρ (at p b.value)
    literal_is o b within resets t typed q =
        let s = symbol_there via d x top inputs content p m here in
        let f = found_there via d x top inputs content p m here in
        let v = value_of_reset via d x s m f o b within resets t typed in
        ap (assigned (width_in (vmodule via d m)) (names_at (vpath_of d top p) over) (width t)) (literal_own via d x s m f b.value t v)
        ∙ constant_worth b.value t v

    -- where its clock rises a register with an asynchronous reset loads as one with a synchronous reset
    any_block_is : (i : ℕ) (o : Op) (t : HwType) (g : Register) (a : Option ResetBy) → In o m.body → register_in o ≡ Some g → async_reset_in o ≡ a → AreOperands (type_in m.ports m.body) t g → (old : Word)
        → block_value (vmodule via d m) (names_at (vpath_of d top p) over) (width t) old (module_block via m (identifier_text m (value_identifier i 0)) g a)
        ≡ reset g.reset (λ r. ρ (at p r)) (value_if_enabled g.enable (λ r. ρ (at p r)) old (ρ (at p g.next)))
    any_block_is i o t g None within is_register_of resets typed old = block_is i t g typed old
    any_block_is i o t g (Some b) within is_register_of resets typed old =
        let parts = async_parts_of o b resets g is_register_of in
        ap₂ (λ c (w : Word × Word). cond c w.0 w.1) (signal_holds o b within resets (typed.signal b parts.0))
        (ap₂ (λ v w. (v, w)) (literal_is o b within resets t (typed.value b parts.0) (identifier_text m (value_identifier i 0)))
        (load_is (width t) (identifier_text m (value_identifier i 0)) g.next t typed.next refl))
        ∙ sym (ap₂ (λ f k. reset f (λ r. ρ (at p r)) (value_if_enabled k (λ r. ρ (at p r)) old (ρ (at p g.next)))) parts.0 parts.1)

    -- the clock's net shows the clock
    clock_is : (i : ℕ) (o : Op) (g : Register) → slice_get m.body i ≡ Some o → register_in o ≡ Some g → type_in m.ports m.body g.clock ≡ Some clock
        → low_bits 1 (over (vnet (vpath_of d top p) (name_or_nothing (value_name m g.clock)))) ≡ ρ (at p g.clock)
    clock_is i o g there is typed =
        let c : IsClocked m.ports g = ((module_ok d x (symbol_there via d x top inputs content p m here) m (found_there via d x top inputs content p m here)).ops i o there).clocked g is in
        let called : value_name m g.clock ≡ Some (identifier_text m (port_identifier c.number)) =
        ap (value_name m) c.is_port ∙ named_input d x (symbol_there via d x top inputs content p m here) m (found_there via d x top inputs content p m here) c.number c.clock c.there c.input in
        ap (λ n. low_bits 1 (over (vnet (vpath_of d top p) (name_or_nothing n)))) called
        ∙ ap (low_bits 1) (name_shows via d x top inputs content m0 top_is ρ settled p m here g.clock (identifier_text m (port_identifier c.number)) (by_port c.number c.clock c.there c.input c.is_port refl))
        ∙ low_all 1 (ρ (at p g.clock)) (typed_length g.clock clock typed)

  pub slot_width_is : (s : Slot) (v : VSlot) → IsSlot via d x top s v → slot_width v ≡ held_width s.op
  slot_width_is s v is = let h = symbol_at_path via d x top s.path is.m is.here in
      ap slot_width is.same ∙ ap (width_in (vmodule via d is.m)) (block_name via d x h.0 is.m h.1 top [] is.position is.parts (async_reset_in s.op)) ∙ variable_width via d x h.0 is.m h.1 is.position s.op is.there is.emission

  slot_is : (s : Slot) (v : VSlot) → IsSlot via d x top s v → (old : Word) → slot_value over (held_width s.op) old v ≡ next_value (register_in s.op) (λ r. ρ (at s.path r)) old
  slot_is s v is old =
      let h = symbol_at_path via d x top s.path is.m is.here in
      let r = first_result d x h.0 is.m h.1 is.position s.op is.there (inr is.emission) in
      let typed : result_type s.op 0 ≡ Some r.0.type = ap (λ rs. option_map (λ (z : OpResult). z.type) (slice_get rs 0)) r.1 in
      let g = typed_register d x h.0 is.m h.1 is.position s.op is.there is.emission r.0.type typed in
      let parts : Some is.parts ≡ Some g.0 = sym is.is_parts ∙ g.1 in
      let one : is.parts ≡ g.0 = cc in
      let wide : held_width s.op ≡ width r.0.type = ap width_of typed in
      ap₂ (λ k z. slot_value over k old z) wide (is.same ∙ ap (λ z. vslot via d x top (vpath_of d top s.path) is.m is.position z (async_reset_in s.op)) one)
      ∙ ap₂ (λ c b. cond (is_high c) b old) (clock_is s.path is.m is.here is.position s.op g.0 is.there g.1 g.2.clocked)
      (any_block_is s.path is.m is.here is.position s.op r.0.type g.0 (async_reset_in s.op) (In-slice_get s.op is.m.body is.position is.there) g.1 refl g.2 old)
      ∙ sym (ap (λ z. next_value z (λ r. ρ (at s.path r)) old) g.1)

  next_in_is : (s : Slot) (v : VSlot) → IsSlot via d x top s v → (old : Word) → slot_next over v old ≡ next_in ρ s old
  next_in_is s v is old = ap (λ k. slot_value over k old v) (slot_width_is s v is) ∙ slot_is s v is old

  -- where each slot of the tree gives what that of the design gives, so do all
  pub map_slots_is : (gives : Slot → Word → Word) (vgives : VSlot → Word → Word)
      → ((s : Slot) (v : VSlot) → IsSlot via d x top s v → (old : Word) → vgives v old ≡ gives s old)
      → (ss : List Slot) (vs : List VSlot) → AreSlots via d x top ss vs → (c : Word) → map_vslots vgives vs c ≡ map_slots gives ss c
  map_slots_is gives vgives alike [] [] are c = refl
  map_slots_is gives vgives alike [] (v ∷ vs) are c = absurd are
  map_slots_is gives vgives alike (s ∷ ss) [] are c = absurd are
  map_slots_is gives vgives alike (s ∷ ss) (v ∷ vs) are c =
      ap (λ k. first k (vgives v (first k c)) ++ map_vslots vgives vs (drop k c)) (slot_width_is s v are.0)
      ∙ ap₂ (λ a b. first (held_width s.op) a ++ b) (alike s v are.0 (first (held_width s.op) c))
      (map_slots_is gives vgives alike ss vs are.1 (drop (held_width s.op) c))

  pub next_is : (ss : List Slot) (vs : List VSlot) → AreSlots via d x top ss vs → (c : Word) → next_vcontent vs over c ≡ next_content ss ρ c
  next_is ss vs are c = map_slots_is (next_in ρ) (slot_next over) next_in_is ss vs are c
