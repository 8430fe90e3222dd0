-- The register content of a tree is laid out as that of its design.
use Rattle.std.proofs.Common.{◌≡◌, ℕ, zero, suc, ◌+◌, ◌<◌, Bool, true, false, cond, is_some, List, [], ◌∷◌, ◌++◌, length, take, slice_get, Option, Some, None, refl, sym, ◌∙◌, ap, ap₂, subst, inl, inr}
use Rattle.std.proofs.Common.{zero-add, add-zero, suc-add, add-suc, append_assoc, arith, option_and_then}
use Rattle.std.proofs.lemmas.List.{length-map}
use Rattle.wiring.specs.Wiring.{In}
use Rattle.hw_model.specs.Types.{Name}
use Rattle.hw_model.specs.Kinds.{Instance}
use Rattle.hw_model.specs.Design.{Ref, Port, OpResult, Op, Module, Design, RegisterForm, same_name, find_module, instance_in, register_form, result_type, output_refs}
use Rattle.hw_model.specs.Design.Ref.{result}
use Rattle.hw_model.specs.Equality.{name_self, name_from}
use Rattle.hw_model.specs.Flat.{Path, width_of, module_at, instance_state, op_state, body_state, module_state, state_of, state, base, before_instance, state_before, held_width, Register, register_in, async_reset_in}
use Rattle.hw_model.proofs.Sorts.{Sort, sort_of}
use Rattle.hw_model.proofs.Sorts.Sort.{a_register, an_instance as is_an_instance, an_output, a_made}
use Rattle.hw_model.proofs.Content.{before_position}
use Rattle.verilog_model.specs.Tree.{Item, VModule}
use Rattle.verilog_model.specs.Tree.Item.{wire, reg, assign, always, instance}
use Rattle.verilog_model.specs.Hierarchy.{block_target, items_state, vstate_of, vmodule_state, vstate, until, is_instance_named, loads, vstate_before, vbase, width_in}
use Rattle.verilog_expr.specs.Spilling.{is_wire_kind, spilled}
use Rattle.lowering_options.specs.declared.lowering.Lowering.{Lowering}
use Rattle.export_verilog.specs.Lowerings.{load_place}
use Rattle.export_verilog.specs.Identifiers.{Identifier, Emission, each, emission_of, module_identifiers, identifier_text, value_name, name_or_nothing}
use Rattle.export_verilog.specs.Identifiers.Identifier.{port_identifier, value_identifier, instance_identifier}
use Rattle.export_verilog.specs.Identifiers.Emission.{inline, as_wire, as_reg, as_instance}
use Rattle.export_verilog.specs.Exported.{symbol_name, expression, result_wires, declared_as, declares, module_block, always_of, instance_of, stated_as, states, output_assigns, expr_or_none, others, vitems, vmodule, tree_of}
use Rattle.export_verilog.proofs.names.IdentifierNames.{AreNames, texts_apart}
use Rattle.export_verilog.proofs.names.IdentifiersOf.{emission_of_register, emission_of_instance, emission_of_output, emission_of_made, instance_of_emission, variable_in, instance_in_identifiers}
use Rattle.export_verilog.proofs.names.Symbols.{vmodule_found}
use Rattle.export_verilog.proofs.items.Lookups.{width_under}
use Rattle.export_verilog.proofs.items.Settings.{Setting, Called, called_by_emission, module_ok, result_at_first}
use Rattle.export_verilog.proofs.items.Registers.{register_of}
use Rattle.export_verilog.proofs.items.Drives.{block_name}
use Rattle.export_verilog.proofs.behaviour.Positions.{symbol_at_path, Further, further, name_of_step, vposition, vpath_of}

-- ---- lists of items

module _ (via : Lowering) (f : Name → ℕ) (v : VModule) where
  pub state-append : (xs ys : List Item) → items_state f v (xs ++ ys) ≡ items_state f v xs + items_state f v ys
  state-append [] ys = sym (zero-add (items_state f v ys))
  state-append (x ∷ xs) ys = let rest : items_state f v (xs ++ ys) ≡ items_state f v xs + items_state f v ys = state-append xs ys in omega arith

  no_state_wires : (m : Module) (i k : ℕ) (rs : List OpResult) → items_state f v (result_wires m i k rs) ≡ 0
  no_state_wires m i k [] = refl
  no_state_wires m i k (r ∷ rs) = zero-add (items_state f v (result_wires m i (suc k) rs)) ∙ no_state_wires m i (suc k) rs

  no_state_declared : (m : Module) (i : ℕ) (o : Op) (r : Emission) → items_state f v (declared_as m i o r) ≡ 0
  no_state_declared m i o inline = refl
  no_state_declared m i o as_wire = refl
  no_state_declared m i o as_reg = refl
  no_state_declared m i o as_instance = no_state_wires m i 0 o.results

  no_state_declares : (m : Module) (i : ℕ) (os : List Op) → items_state f v (each (declares m) i os) ≡ 0
  no_state_declares m i [] = refl
  no_state_declares m i (o ∷ os) =
      state-append (declares m i o) (each (declares m) (suc i) os)
      ∙ ap₂ (λ a b. a + b) (no_state_declared m i o (emission_of m.ports m.body i o)) (no_state_declares m (suc i) os)

  no_state_outputs : (m : Module) (j : ℕ) (ps : List Port) (rs : List Ref) → items_state f v (output_assigns via m j ps rs) ≡ 0
  no_state_outputs m j [] rs = refl
  no_state_outputs m j (p ∷ ps) rs = go p.is_output (no_state_outputs m (suc j) ps (others rs)) (no_state_outputs m (suc j) ps rs) where
    go : (b : Bool) → items_state f v (output_assigns via m (suc j) ps (others rs)) ≡ 0 → items_state f v (output_assigns via m (suc j) ps rs) ≡ 0
        → items_state f v (cond b (assign (identifier_text m (port_identifier j)) (expr_or_none (expression m (load_place via)) rs) ∷ output_assigns via m (suc j) ps (others rs)) (output_assigns via m (suc j) ps rs)) ≡ 0
    go true first second = zero-add (items_state f v (output_assigns via m (suc j) ps (others rs))) ∙ first
    go false first second = second

-- ---- the items before one

pub until_before : (test : Item → Bool) (xs ys : List Item) → ((y : Item) → In y xs → test y ≡ false) → until test (xs ++ ys) ≡ xs ++ until test ys
until_before test [] ys fails = refl
until_before test (x ∷ xs) ys fails =
    ap (λ b. cond b [] (x ∷ until test (xs ++ ys))) (fails x (inl refl)) ∙ ap (λ zs. x ∷ zs) (until_before test xs ys (λ y here. fails y (inr here)))

until_each : (f : ℕ → Op → List Item) (test : Item → Bool) (j : ℕ) (os : List Op) (n : ℕ) (o : Op) (rest : List Item) → slice_get os n ≡ Some o
    → ((a : ℕ) (z : Op) → a < n → slice_get os a ≡ Some z → (y : Item) → In y (f (j + a) z) → test y ≡ false)
    → ((r : List Item) → until test (f (j + n) o ++ r) ≡ []) → until test (each f j os ++ rest) ≡ each f j (take n os)
until_each f test j [] n o rest there fails passes = cc
until_each f test j (x ∷ os) zero o rest there fails passes =
    ap (until test) (append_assoc (f j x) (each f (suc j) os) rest) ∙ ap₂ (λ a (z : Op). until test (f a z ++ (each f (suc j) os ++ rest))) (sym (add-zero j)) (let e : x ≡ o = cc in e) ∙ passes (each f (suc j) os ++ rest)
until_each f test j (x ∷ os) (suc n) o rest there fails passes =
    ap (until test) (append_assoc (f j x) (each f (suc j) os) rest)
    ∙ until_before test (f j x) (each f (suc j) os ++ rest) (λ y here. fails 0 x (omega arith) refl y (subst (λ a. In y (f a x)) (sym (add-zero j)) here))
    ∙ ap (λ zs. f j x ++ zs) (until_each f test (suc j) os n o rest there
    (λ a z below at y here. fails (suc a) z (omega arith) at y (subst (λ b. In y (f b z)) (suc-add j a ∙ sym (add-suc j a)) here))
    (λ r. ap (λ a. until test (f a o ++ r)) (suc-add j n ∙ sym (add-suc j n)) ∙ passes r))

-- ---- a module

module _ (via : Lowering) (d : Design) (x : Setting d) (s : Name) (m : Module) (is : find_module d s ≡ Some m) where
  are : AreNames m
  are = x.names s m is

  pub variable_width : (i : ℕ) (o : Op) → slice_get m.body i ≡ Some o → emission_of m.ports m.body i o ≡ as_reg
      → width_in (vmodule via d m) (identifier_text m (value_identifier i 0)) ≡ held_width o
  variable_width i o there emission =
      width_under via x.say d m (module_ok d x s m is) are (result_at_first d x s m is) (value_identifier i 0) (variable_in m i o there emission)
      ∙ ap (λ z. width_of (option_and_then (λ (o : Op). result_type o 0) z)) there

  module _ (f g : Name → ℕ) (agree : (i : ℕ) (o : Op) (c : Called d m o) → slice_get m.body i ≡ Some o → f (symbol_name d c.kind.symbol) ≡ g c.kind.symbol) where
    state_of_op : (i : ℕ) (o : Op) → slice_get m.body i ≡ Some o → items_state f (vmodule via d m) (states via d m i o) ≡ op_state g o
    state_of_op i o there = go (sort_of o.kind) where
      by_emission : (r : Emission) → emission_of m.ports m.body i o ≡ r → items_state f (vmodule via d m) (states via d m i o) ≡ items_state f (vmodule via d m) (stated_as via d m i o r)
      by_emission r emission = ap (λ z. items_state f (vmodule via d m) (stated_as via d m i o z)) emission

      at_register : (h : RegisterForm) → register_form o.kind ≡ Some h → op_state g o ≡ held_width o
      at_register h r = ap (λ z. cond (is_some z) (held_width o) (instance_state g (instance_in o.kind))) r

      at_other : (k : Option Instance) → register_form o.kind ≡ None → instance_in o.kind ≡ k → op_state g o ≡ instance_state g k
      at_other k r n = ap (λ z. cond (is_some z) (held_width o) (instance_state g (instance_in o.kind))) r ∙ ap (instance_state g) n

      none_made : (a b : Bool) → items_state f (vmodule via d m) (stated_as via d m i o (cond a as_wire (cond b as_wire inline))) ≡ 0
      none_made true b = refl
      none_made false true = refl
      none_made false false = refl

      go : Sort o.kind → items_state f (vmodule via d m) (states via d m i o) ≡ op_state g o
      go (a_register h r n u) =
          let emission = emission_of_register m.ports m.body i o h r in
          let g' = register_of d x s m is i o there emission in
          by_emission as_reg emission
          ∙ ap (λ z. items_state f (vmodule via d m) (always_of via m (identifier_text m (value_identifier i 0)) (async_reset_in o) z)) g'.1
          ∙ add-zero (width_in (vmodule via d m) (block_target (module_block via m (identifier_text m (value_identifier i 0)) g'.0 (async_reset_in o))))
          ∙ ap (width_in (vmodule via d m)) (block_name via d x s m is s [] i g'.0 (async_reset_in o)) ∙ variable_width i o there emission ∙ sym (at_register h r)
      go (is_an_instance k r n u) =
          let emission = emission_of_instance m.ports m.body i o k r n in
          let c = called_by_emission d x s m is i o there emission in
          by_emission as_instance emission
          ∙ ap (λ z. items_state f (vmodule via d m) (instance_of via d m i o z)) c.is_kind
          ∙ add-zero (f (symbol_name d c.kind.symbol)) ∙ agree i o c there ∙ sym (at_other (Some c.kind) r c.is_kind)
      go (an_output r n u) = by_emission inline (emission_of_output m.ports m.body i o r n u) ∙ sym (at_other None r n)
      go (a_made r n u) = ap (λ z. items_state f (vmodule via d m) (stated_as via d m i o z)) (emission_of_made m.ports m.body i o r n u)
          ∙ none_made (is_wire_kind o.kind) (spilled m.ports m.body (result i 0)) ∙ sym (at_other None r n)

    state_of_body : (j : ℕ) (os : List Op) → ((a : ℕ) (o : Op) → slice_get os a ≡ Some o → slice_get m.body (j + a) ≡ Some o)
        → items_state f (vmodule via d m) (each (states via d m) j os) ≡ body_state g os
    state_of_body j [] within = refl
    state_of_body j (o ∷ os) within =
        state-append via f (vmodule via d m) (states via d m j o) (each (states via d m) (suc j) os)
        ∙ ap₂ (λ a b. a + b) (state_of_op j o (ap (slice_get m.body) (sym (add-zero j)) ∙ within 0 o refl))
        (state_of_body (suc j) os (λ a z at. ap (slice_get m.body) (suc-add j a ∙ sym (add-suc j a)) ∙ within (suc a) z at))

    pub state_of_items : items_state f (vmodule via d m) (vitems via d m) ≡ body_state g m.body
    state_of_items =
        state-append via f (vmodule via d m) (each (declares m) 0 m.body) (each (states via d m) 0 m.body ++ output_assigns via m 0 m.ports (output_refs m.body))
        ∙ ap₂ (λ a b. a + b) (no_state_declares via f (vmodule via d m) m 0 m.body)
        (state-append via f (vmodule via d m) (each (states via d m) 0 m.body) (output_assigns via m 0 m.ports (output_refs m.body))
        ∙ ap₂ (λ a b. a + b) (state_of_body 0 m.body (λ a o at. ap (slice_get m.body) (zero-add a) ∙ at)) (no_state_outputs via f (vmodule via d m) m 0 m.ports (output_refs m.body)))
        ∙ zero-add (body_state g m.body + 0) ∙ add-zero (body_state g m.body)

    taken_within : (i : ℕ) (os : List Op) (a : ℕ) (o : Op) → slice_get (take i os) a ≡ Some o → slice_get os a ≡ Some o
    taken_within zero os a o at = cc
    taken_within (suc i) [] a o at = cc
    taken_within (suc i) (z ∷ os) zero o at = at
    taken_within (suc i) (z ∷ os) (suc a) o at = taken_within i os a o at

    -- the items before those of an operation
    state_before_op : (test : Item → Bool) (i : ℕ) (o : Op) → slice_get m.body i ≡ Some o
        → ((y : Item) → In y (each (declares m) 0 m.body) → test y ≡ false)
        → ((a : ℕ) (z : Op) → a < i → slice_get m.body a ≡ Some z → (y : Item) → In y (states via d m a z) → test y ≡ false)
        → ((r : List Item) → until test (states via d m i o ++ r) ≡ [])
        → items_state f (vmodule via d m) (until test (vitems via d m)) ≡ body_state g (take i m.body)
    state_before_op test i o there declared earlier passes =
        ap (items_state f (vmodule via d m))
        (until_before test (each (declares m) 0 m.body) (each (states via d m) 0 m.body ++ output_assigns via m 0 m.ports (output_refs m.body)) declared
        ∙ ap (λ zs. each (declares m) 0 m.body ++ zs) (until_each (states via d m) test 0 m.body i o (output_assigns via m 0 m.ports (output_refs m.body)) there
        (λ a z below at y here. earlier a z below at y (subst (λ b. In y (states via d m b z)) (zero-add a) here))
        (λ r. ap (λ b. until test (states via d m b o ++ r)) (zero-add i) ∙ passes r)))
        ∙ state-append via f (vmodule via d m) (each (declares m) 0 m.body) (each (states via d m) 0 (take i m.body))
        ∙ ap₂ (λ a b. a + b) (no_state_declares via f (vmodule via d m) m 0 m.body)
        (state_of_body 0 (take i m.body) (λ a z at. ap (slice_get m.body) (zero-add a) ∙ taken_within i m.body a z at))
        ∙ zero-add (body_state g (take i m.body))

    -- ---- the two tests

    apart : (k l : Identifier) → In k (module_identifiers m) → In l (module_identifiers m) → (k ≡ l → ⊥) → same_name (identifier_text m k) (identifier_text m l) ≡ false
    apart k l here there differ = go (same_name (identifier_text m k) (identifier_text m l)) refl where
      go : (b : Bool) → same_name (identifier_text m k) (identifier_text m l) ≡ b → b ≡ false
      go false e = refl
      go true e = absurd (differ (texts_apart m are k l here there (name_from (identifier_text m k) (identifier_text m l) e)))

    not_wires : (test : Item → Bool) → ((h : _) (n : Name) → test (wire h n) ≡ false) → (i k : ℕ) (rs : List OpResult) (y : Item) → In y (result_wires m i k rs) → test y ≡ false
    not_wires test wires i k [] y here = absurd here
    not_wires test wires i k (r ∷ rs) y (inl same) = ap test same ∙ wires _ _
    not_wires test wires i k (r ∷ rs) y (inr here) = not_wires test wires i (suc k) rs y here

    not_declared : (test : Item → Bool) → ((h : _) (n : Name) → test (wire h n) ≡ false) → ((h : _) (n : Name) → test (reg h n) ≡ false)
        → (i : ℕ) (o : Op) (r : Emission) (y : Item) → In y (declared_as m i o r) → test y ≡ false
    not_declared test wires regs i o inline y here = absurd here
    not_declared test wires regs i o as_wire y (inl same) = ap test same ∙ wires _ _
    not_declared test wires regs i o as_wire y (inr never) = absurd never
    not_declared test wires regs i o as_reg y (inl same) = ap test same ∙ regs _ _
    not_declared test wires regs i o as_reg y (inr never) = absurd never
    not_declared test wires regs i o as_instance y here = not_wires test wires i 0 o.results y here

    not_declares : (test : Item → Bool) → ((h : _) (n : Name) → test (wire h n) ≡ false) → ((h : _) (n : Name) → test (reg h n) ≡ false)
        → (y : Item) → In y (each (declares m) 0 m.body) → test y ≡ false
    not_declares test wires regs y here =
        let e = Rattle.export_verilog.proofs.names.IdentifiersOf.from_each (declares m) m.body y here in
        not_declared test wires regs e.0 e.1 (emission_of m.ports m.body e.0 e.1) y e.3

    -- a register's content begins after that of the operations before it
    pub state_before_register : (i : ℕ) (o : Op) → slice_get m.body i ≡ Some o → emission_of m.ports m.body i o ≡ as_reg
        → items_state f (vmodule via d m) (until (loads (identifier_text m (value_identifier i 0))) (vitems via d m)) ≡ body_state g (take i m.body)
    state_before_register i o there emission =
        state_before_op (loads (identifier_text m (value_identifier i 0))) i o there
        (not_declares (loads (identifier_text m (value_identifier i 0))) (λ h n. refl) (λ h n. refl)) earlier passes where
          test : Item → Bool
          test = loads (identifier_text m (value_identifier i 0))

          in_block : (a : ℕ) (z : Op) → a < i → slice_get m.body a ≡ Some z → emission_of m.ports m.body a z ≡ as_reg → (r : Option Register) (y : Item)
              → In y (always_of via m (identifier_text m (value_identifier a 0)) (async_reset_in z) r) → loads (identifier_text m (value_identifier i 0)) y ≡ false
          in_block a z below at emission' None y here = absurd here
          in_block a z below at emission' (Some r) y (inl same) =
              ap (loads (identifier_text m (value_identifier i 0))) same
              ∙ ap (λ n. same_name n (identifier_text m (value_identifier i 0))) (block_name via d x s m is s [] a r (async_reset_in z))
              ∙ apart (value_identifier a 0) (value_identifier i 0) (variable_in m a z at emission') (variable_in m i o there emission) (λ e. (let h : a ≡ i = cc in omega arith))
          in_block a z below at emission' (Some r) y (inr never) = absurd never

          in_instance : (a : ℕ) (z : Op) (k : Option Instance) (y : Item) → In y (instance_of via d m a z k) → loads (identifier_text m (value_identifier i 0)) y ≡ false
          in_instance a z None y here = absurd here
          in_instance a z (Some k) y (inl same) = ap (loads (identifier_text m (value_identifier i 0))) same
          in_instance a z (Some k) y (inr never) = absurd never

          by_emission : (a : ℕ) (z : Op) → a < i → slice_get m.body a ≡ Some z → (r : Emission) → emission_of m.ports m.body a z ≡ r → (y : Item) → In y (stated_as via d m a z r)
              → loads (identifier_text m (value_identifier i 0)) y ≡ false
          by_emission a z below at inline emission' y here = absurd here
          by_emission a z below at as_wire emission' y (inl same) = ap (loads (identifier_text m (value_identifier i 0))) same
          by_emission a z below at as_wire emission' y (inr never) = absurd never
          by_emission a z below at as_reg emission' y here = in_block a z below at emission' (register_in z) y here
          by_emission a z below at as_instance emission' y here = in_instance a z (instance_in z.kind) y here

          earlier : (a : ℕ) (z : Op) → a < i → slice_get m.body a ≡ Some z → (y : Item) → In y (states via d m a z) → loads (identifier_text m (value_identifier i 0)) y ≡ false
          earlier a z below at y here = by_emission a z below at (emission_of m.ports m.body a z) refl y here

          passes : (r : List Item) → until (loads (identifier_text m (value_identifier i 0))) (states via d m i o ++ r) ≡ []
          passes r =
              let g' = register_of d x s m is i o there emission in
              ap (λ z. until (loads (identifier_text m (value_identifier i 0))) (stated_as via d m i o z ++ r)) emission
              ∙ ap (λ z. until (loads (identifier_text m (value_identifier i 0))) (always_of via m (identifier_text m (value_identifier i 0)) (async_reset_in o) z ++ r)) g'.1
              ∙ ap (λ b. cond b [] (always (name_or_nothing (value_name m g'.0.clock)) (module_block via m (identifier_text m (value_identifier i 0)) g'.0 (async_reset_in o)) ∷ until (loads (identifier_text m (value_identifier i 0))) r))
              (ap (λ n. same_name n (identifier_text m (value_identifier i 0))) (block_name via d x s m is s [] i g'.0 (async_reset_in o)) ∙ name_self (identifier_text m (value_identifier i 0)))

    pub state_before_instance : (i : ℕ) (o : Op) → slice_get m.body i ≡ Some o → emission_of m.ports m.body i o ≡ as_instance
        → items_state f (vmodule via d m) (until (is_instance_named (identifier_text m (instance_identifier i))) (vitems via d m)) ≡ body_state g (take i m.body)
    state_before_instance i o there emission =
        state_before_op (is_instance_named (identifier_text m (instance_identifier i))) i o there
        (not_declares (is_instance_named (identifier_text m (instance_identifier i))) (λ h n. refl) (λ h n. refl)) earlier passes where
          in_block : (a : ℕ) (z : Op) (r : Option Register) (y : Item) → In y (always_of via m (identifier_text m (value_identifier a 0)) (async_reset_in z) r) → is_instance_named (identifier_text m (instance_identifier i)) y ≡ false
          in_block a z None y here = absurd here
          in_block a z (Some r) y (inl same) = ap (is_instance_named (identifier_text m (instance_identifier i))) same
          in_block a z (Some r) y (inr never) = absurd never

          in_instance : (a : ℕ) (z : Op) → a < i → slice_get m.body a ≡ Some z → emission_of m.ports m.body a z ≡ as_instance → (k : Option Instance) (y : Item) → In y (instance_of via d m a z k)
              → is_instance_named (identifier_text m (instance_identifier i)) y ≡ false
          in_instance a z below at emission' None y here = absurd here
          in_instance a z below at emission' (Some k) y (inl same) = ap (is_instance_named (identifier_text m (instance_identifier i))) same
              ∙ apart (instance_identifier a) (instance_identifier i) (instance_in_identifiers m a z at emission') (instance_in_identifiers m i o there emission) (λ e. (let h : a ≡ i = cc in omega arith))
          in_instance a z below at emission' (Some k) y (inr never) = absurd never

          by_emission : (a : ℕ) (z : Op) → a < i → slice_get m.body a ≡ Some z → (r : Emission) → emission_of m.ports m.body a z ≡ r → (y : Item) → In y (stated_as via d m a z r)
              → is_instance_named (identifier_text m (instance_identifier i)) y ≡ false
          by_emission a z below at inline emission' y here = absurd here
          by_emission a z below at as_wire emission' y (inl same) = ap (is_instance_named (identifier_text m (instance_identifier i))) same
          by_emission a z below at as_wire emission' y (inr never) = absurd never
          by_emission a z below at as_reg emission' y here = in_block a z (register_in z) y here
          by_emission a z below at as_instance emission' y here = in_instance a z below at emission' (instance_in z.kind) y here

          earlier : (a : ℕ) (z : Op) → a < i → slice_get m.body a ≡ Some z → (y : Item) → In y (states via d m a z) → is_instance_named (identifier_text m (instance_identifier i)) y ≡ false
          earlier a z below at y here = by_emission a z below at (emission_of m.ports m.body a z) refl y here

          passes : (r : List Item) → until (is_instance_named (identifier_text m (instance_identifier i))) (states via d m i o ++ r) ≡ []
          passes r =
              let k = instance_of_emission m.ports m.body i o emission in
              ap (λ z. until (is_instance_named (identifier_text m (instance_identifier i))) (stated_as via d m i o z ++ r)) emission
              ∙ ap (λ z. until (is_instance_named (identifier_text m (instance_identifier i))) (instance_of via d m i o z ++ r)) k.2
              ∙ ap (λ b. cond b [] (instance (symbol_name d k.0.symbol) (identifier_text m (instance_identifier i)) (Rattle.export_verilog.specs.Exported.connections_to via (find_module d k.0.symbol) m i o)
              ∷ until (is_instance_named (identifier_text m (instance_identifier i))) r)) (name_self (identifier_text m (instance_identifier i)))

-- ---- a design

module _ (via : Lowering) (d : Design) (x : Setting d) where
  pub state_same : (n : ℕ) (s : Name) (m : Module) → find_module d s ≡ Some m → vmodule_state n (tree_of via d) (symbol_name d s) ≡ module_state n d s
  state_same zero s m is = refl
  state_same (suc n) s m is =
      ap (vstate_of (vmodule_state n (tree_of via d))) (vmodule_found d x.ok x.symbols via s m is)
      ∙ state_of_items via d x s m is (vmodule_state n (tree_of via d)) (module_state n d) (λ i o c there. state_same n c.kind.symbol c.module_of c.there)
      ∙ sym (ap (state_of (module_state n d)) is)

  pub state_is : (s : Name) (m : Module) → find_module d s ≡ Some m → vstate (tree_of via d) (symbol_name d s) ≡ state d s
  state_is s m is = ap (λ n. vmodule_state (suc n) (tree_of via d) (symbol_name d s)) (length-map d (vmodule via d)) ∙ state_same (suc (length d)) s m is

  agrees : (m : Module) (i : ℕ) (o : Op) (c : Called d m o) → slice_get m.body i ≡ Some o → vstate (tree_of via d) (symbol_name d c.kind.symbol) ≡ state d c.kind.symbol
  agrees m i o c there = state_is c.kind.symbol c.module_of c.there

  module _ (top : Name) where
    pub base_same : (p : Path) (m : Module) → module_at d top p ≡ Some m → vbase (tree_of via d) (symbol_name d top) (vpath_of d top p) ≡ base d top p
    base_same [] m here = refl
    base_same (u ∷ p) m here = step (further via d x top u p m here) (λ o h. base_same p o h) where
      step : Further via d x top p u m → ((o : Module) → module_at d top p ≡ Some o → vbase (tree_of via d) (symbol_name d top) (vpath_of d top p) ≡ base d top p)
          → vbase (tree_of via d) (symbol_name d top) (vpath_of d top (u ∷ p)) ≡ base d top (u ∷ p)
      step f rest =
          let at = symbol_at_path via d x top p f.outer f.here in
          ap (vbase (tree_of via d) (symbol_name d top)) (name_of_step via d x top u p m f)
          ∙ ap₂ (λ a b. a + b) (rest f.outer f.here)
          (ap (vstate_before (tree_of via d) (is_instance_named (identifier_text f.outer (instance_identifier f.position)))) (vposition via d x top p f.outer f.here)
          ∙ state_before_instance via d x at.0 f.outer at.1 (vstate (tree_of via d)) (state d) (agrees f.outer) f.position f.op f.there f.emission
          ∙ ap (body_state (state d)) (sym (ap (λ v. before_instance v f.outer.body) (sym f.is_number) ∙ before_position f.outer.body f.position f.op f.called.kind f.there f.called.is_kind))
          ∙ sym (ap (state_before d u) f.here))

    pub register_base : (p : Path) (m : Module) → module_at d top p ≡ Some m → (i : ℕ) (o : Op) → slice_get m.body i ≡ Some o → emission_of m.ports m.body i o ≡ as_reg
        → vbase (tree_of via d) (symbol_name d top) (vpath_of d top p) + vstate_before (tree_of via d) (loads (identifier_text m (value_identifier i 0))) (Some (vmodule via d m)) ≡ base d top p + body_state (state d) (take i m.body)
    register_base p m here i o there emission =
        let at = symbol_at_path via d x top p m here in
        ap₂ (λ a b. a + b) (base_same p m here) (state_before_register via d x at.0 m at.1 (vstate (tree_of via d)) (state d) (agrees m) i o there emission)
