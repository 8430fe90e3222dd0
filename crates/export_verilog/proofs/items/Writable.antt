-- The values of an exportable module can be written as expressions over its names.
use Rattle.std.proofs.Common.{◌≡◌, ℕ, zero, suc, ◌≤◌, ◌+◌, ◌⊎◌, Bool, true, false, cond, not, ◌&&◌, ◌||◌, nat_lt, List, [], ◌∷◌, slice_get, is_some, Option, Some, None, refl, sym, ◌∙◌, ap, ap₂, subst}
use Rattle.std.proofs.Common.{inl, inr, eq-eqb, ltb-true, arith, option_map}
use Rattle.wiring.specs.Wiring.{In}
use Rattle.wiring.proofs.Options.{and_then_some, option_map_some}
use Rattle.hw_model.specs.Types.{Name, HwType, width}
use Rattle.hw_model.specs.Kinds.{Kind}
use Rattle.hw_model.specs.Kinds.Kind.{extract}
use Rattle.hw_model.specs.Design.{Ref, Port, OpResult, Op, Module, Design, find_module, instance_in, register_form, is_output_kind, result_type}
use Rattle.hw_model.specs.Design.Ref.{port, result, undefined}
use Rattle.hw_model.specs.Flat.{width_of}
use Rattle.hw_model.specs.Sound.{type_in, input_type}
use Rattle.hw_model.proofs.Sorts.{Sort, sort_of}
use Rattle.hw_model.proofs.Sorts.Sort.{a_register, an_instance, an_output, a_made}
use Rattle.ir_store.specs.Positions.{same_ref}
use Rattle.verilog_expr.specs.Expressions.{value_width}
use Rattle.verilog_expr.specs.Spilling.{is_pure, is_wire_kind, is_constant_kind, is_narrower, positions_in, one_if, cuts, some_op, is_shared, part_of_op, has_wire, height, spilled, spilled_op}
use Rattle.verilog_expr.specs.Spilling.Part.{flat, shared, nested}
use Rattle.verilog_expr.specs.Values.{gives_values, IsWritable}
use Rattle.export_verilog.specs.Identifiers.{emission_of, module_identifiers, identifier_text, identifier_name, value_name, input_name}
use Rattle.export_verilog.specs.Identifiers.Identifier.{port_identifier, value_identifier}
use Rattle.export_verilog.specs.Identifiers.Emission.{inline, as_wire}
use Rattle.export_verilog.proofs.names.IdentifierNames.{AreNames, text_named, name_has_identifier, text_of_identifier}
use Rattle.export_verilog.proofs.names.IdentifiersOf.{emission_of_register, emission_of_instance, emission_of_made, port_in, net_in, variable_in, result_in_identifiers}
use Rattle.export_verilog.proofs.items.Settings.{Setting, module_ok, module_sound, one_result_of}
use Rattle.export_verilog.proofs.behaviour.Sources.{pure_sort}
use Rattle.verilog_expr.proofs.ByRule.{passes_some}

pub only_first : {A : Type 0} (xs : List A) (z : A) (k : ℕ) (y : A) → xs ≡ z ∷ [] → slice_get xs k ≡ Some y → k ≡ 0
only_first xs z zero y is at = refl
only_first xs z (suc k) y is at = absurd (let h : None ≡ Some y = ap (λ w. slice_get w (suc k)) (sym is) ∙ at in cc)

some_is : {A : Type 0} (o : Option A) (a : A) → o ≡ Some a → is_some o ≡ true
some_is o a e = ap is_some e

or_second : (a b c : Bool) → b ≡ true → ((a || b) || c) ≡ true
or_second true b c e = refl
or_second false b c e = ap (λ z. z || c) e

ref_self : (r : Ref) → same_ref r r ≡ true
ref_self (port j) = eq-eqb j j refl
ref_self (result i k) = ap₂ (λ a b. a && b) (eq-eqb i i refl) (eq-eqb k k refl)
ref_self undefined = refl

no_bits_cut : (kind : Kind) (w : ℕ) → is_narrower kind w 0 ≡ false
no_bits_cut (extract low) w = go (nat_lt w 0) refl where
  go : (b : Bool) → nat_lt w 0 ≡ b → b ≡ false
  go false e = refl
  go true e = absurd (let h : suc w ≤ 0 = ltb-true w 0 e in omega arith)
no_bits_cut kind w = refl

module _ (ports : List Port) (os : List Op) where
  -- what is cut has a wire
  cut_spilled : (j i : ℕ) (o' o : Op) → slice_get os j ≡ Some o' → is_pure o' ≡ true → slice_get os i ≡ Some o → o.operands ≡ result j 0 ∷ []
      → is_narrower o.kind (width_of (result_type o 0)) (value_width ports os (result j 0)) ≡ true → spilled ports os (result j 0) ≡ true
  unfolding spilled
  cut_spilled j i o' o there pure user only narrow = ap (spilled_op ports os (result j 0)) there ∙ go (is_constant_kind o'.kind) refl where
    counted : nat_lt 0 (positions_in (result j 0) o.operands) ≡ true
    counted = ap (λ rs. nat_lt 0 (positions_in (result j 0) rs)) only ∙ ap (λ b. nat_lt 0 (one_if b + 0)) (ref_self (result j 0))

    cut : some_op (cuts ports os (result j 0)) os ≡ true
    cut = passes_some (cuts ports os (result j 0)) os i o user (ap₂ (λ a b. a && b) narrow counted)

    shared_here : is_shared ports os (result j 0) o' ≡ true
    shared_here = or_second _ _ _ cut

    go : (b : Bool) → is_constant_kind o'.kind ≡ b
        → cond b (some_op (cuts ports os (result j 0)) os) (has_wire (part_of_op ports os (result j 0) o') (height ports os (result j 0))) ≡ true
    go true is = cut
    go false is = ap (λ z. has_wire (cond z (cond (is_shared ports os (result j 0) o') shared nested) flat) (height ports os (result j 0)))
        (ap₂ (λ a b. a && not b) pure is)
        ∙ ap (λ z. has_wire (cond z shared nested) (height ports os (result j 0))) shared_here

  spilled_first : (i k : ℕ) → spilled ports os (result i (suc k)) ≡ false
  unfolding spilled
  spilled_first i k = refl

module _ (d : Design) (x : Setting d) (s : Name) (m : Module) (is : find_module d s ≡ Some m) where
  are : AreNames m
  are = x.names s m is

  pub named_result : (i k : ℕ) → In (value_identifier i k) (module_identifiers m) → value_name m (result i k) ≡ Some (identifier_text m (value_identifier i k))
  named_result i k here = text_named m are (value_identifier i k) here

  pub named_input : (j : ℕ) (p : Port) → slice_get m.ports j ≡ Some p → p.is_output ≡ false → value_name m (port j) ≡ Some (identifier_text m (port_identifier j))
  named_input j p there out =
      ap (input_name m j) there ∙ ap (λ b. cond b None (identifier_name m (port_identifier j))) out ∙ text_named m are (port_identifier j) (port_in m j p there)

  -- a value that has a name is an input, or a result with a key
  pub data NamedAs (n : Name) (r : Ref) : Type 0 where
    by_port : (j : ℕ) (p : Port) → slice_get m.ports j ≡ Some p → p.is_output ≡ false → r ≡ port j → n ≡ identifier_text m (port_identifier j) → NamedAs n r
    by_value : (i k : ℕ) → In (value_identifier i k) (module_identifiers m) → r ≡ result i k → n ≡ identifier_text m (value_identifier i k) → NamedAs n r

  pub named_as : (r : Ref) (n : Name) → value_name m r ≡ Some n → NamedAs n r
  named_as (port j) n e = go (slice_get m.ports j) refl e where
    by_way : (p : Port) → slice_get m.ports j ≡ Some p → (b : Bool) → p.is_output ≡ b → cond b None (identifier_name m (port_identifier j)) ≡ Some n → NamedAs n (port j)
    by_way p there true out h = cc
    by_way p there false out h = by_port j p there out refl (sym (text_of_identifier m are (port_identifier j) n h))

    go : (p : Option Port) → slice_get m.ports j ≡ p → input_name m j p ≡ Some n → NamedAs n (port j)
    go None there h = cc
    go (Some p) there h = by_way p there p.is_output refl h
  named_as (result i k) n e = by_value i k (name_has_identifier m are (value_identifier i k) n e) refl (sym (text_of_identifier m are (value_identifier i k) n e))
  named_as undefined n e = cc

  emission_named : (i : ℕ) (o : Op) → slice_get m.body i ≡ Some o → emission_of m.ports m.body i o ≡ as_wire → is_some (value_name m (result i 0)) ≡ true
  emission_named i o there emission = some_is (value_name m (result i 0)) (identifier_text m (value_identifier i 0)) (named_result i 0 (net_in m i o there emission))

  inputs_named : (j : ℕ) (t : HwType) → type_in m.ports m.body (port j) ≡ Some t → is_some (value_name m (port j)) ≡ true
  inputs_named j t typed = go (slice_get m.ports j) refl typed where
    by_way : (p : Port) → slice_get m.ports j ≡ Some p → (b : Bool) → p.is_output ≡ b → cond b None (Some p.type) ≡ Some t → is_some (value_name m (port j)) ≡ true
    by_way p there true out h = cc
    by_way p there false out h = some_is (value_name m (port j)) (identifier_text m (port_identifier j)) (named_input j p there out)

    go : (p : Option Port) → slice_get m.ports j ≡ p → input_type p ≡ Some t → is_some (value_name m (port j)) ≡ true
    go None there h = cc
    go (Some p) there h = by_way p there p.is_output refl h

  -- a result of what is made of its operands is its first
  made_first : (i k : ℕ) (o : Op) (t : HwType) → slice_get m.body i ≡ Some o → result_type o k ≡ Some t → instance_in o.kind ≡ None → is_output_kind o.kind ≡ false → k ≡ 0
  made_first i k o t there typed n u =
      let r = one_result_of d x s m is i o there n u in
      let h = option_map_some (λ (z : OpResult). z.type) (slice_get o.results k) typed in
      only_first o.results r.0 k h.0 r.1 h.1

  no_results : (i k : ℕ) (o : Op) (t : HwType) → slice_get m.body i ≡ Some o → result_type o k ≡ Some t → is_output_kind o.kind ≡ true → ⊥
  no_results i k o t there typed u =
      let h = (((module_ok d x s m is).ops i o there).no_result u) in
      let e : None ≡ Some t = sym (ap (λ rs. option_map (λ (z : OpResult). z.type) (slice_get rs k)) h) ∙ typed in cc

  by_first : (i k : ℕ) → k ≡ 0 → is_some (value_name m (result i 0)) ≡ true → is_some (value_name m (result i k)) ≡ true
  by_first i k e h = ap (λ z. is_some (value_name m (result i z))) e ∙ h

  -- whether a made value has a wire
  made_named : (i : ℕ) (o : Op) → slice_get m.body i ≡ Some o → register_form o.kind ≡ None → instance_in o.kind ≡ None → is_output_kind o.kind ≡ false
      → (is_wire_kind o.kind ≡ true) ⊎ (spilled m.ports m.body (result i 0) ≡ true) → is_some (value_name m (result i 0)) ≡ true
  made_named i o there r n u which = emission_named i o there (emission_of_made m.ports m.body i o r n u ∙ go (is_wire_kind o.kind) (spilled m.ports m.body (result i 0)) which) where
    go : (a b : Bool) → (a ≡ true) ⊎ (b ≡ true) → cond a as_wire (cond b as_wire inline) ≡ as_wire
    go true b w = refl
    go false true w = refl
    go false false (inl e) = cc
    go false false (inr e) = cc

  owned : (i k : ℕ) (o : Op) (t : HwType) → slice_get m.body i ≡ Some o → result_type o k ≡ Some t → is_pure o ≡ false → is_some (value_name m (result i k)) ≡ true
  owned i k o t there typed impure = go (sort_of o.kind) where
    wire : register_form o.kind ≡ None → instance_in o.kind ≡ None → is_output_kind o.kind ≡ false → (b : Bool) → is_wire_kind o.kind ≡ b → is_wire_kind o.kind ≡ true
    wire r n u true e = e
    wire r n u false e = absurd (let h : true ≡ false = simp (r, n, u, e) at impure in cc)

    go : Sort o.kind → is_some (value_name m (result i k)) ≡ true
    go (a_register f r n u) =
        by_first i k (made_first i k o t there typed n u)
        (some_is (value_name m (result i 0)) (identifier_text m (value_identifier i 0)) (named_result i 0 (variable_in m i o there (emission_of_register m.ports m.body i o f r))))
    go (an_instance y r n u) =
        let h = option_map_some (λ (z : OpResult). z.type) (slice_get o.results k) typed in
        some_is (value_name m (result i k)) (identifier_text m (value_identifier i k)) (named_result i k (result_in_identifiers m i k o h.0 there (emission_of_instance m.ports m.body i o y r n) h.1))
    go (an_output r n u) = absurd (no_results i k o t there typed u)
    go (a_made r n u) = by_first i k (made_first i k o t there typed n u) (made_named i o there r n u (inl (wire r n u (is_wire_kind o.kind) refl)))

  wires : (i k : ℕ) (o : Op) (t : HwType) → slice_get m.body i ≡ Some o → result_type o k ≡ Some t → value_name m (result i k) ≡ None → spilled m.ports m.body (result i k) ≡ false
  wires i (suc k) o t there typed none = spilled_first m.ports m.body i k
  wires i zero o t there typed none = go (spilled m.ports m.body (result i 0)) refl where
    clash : is_some (value_name m (result i 0)) ≡ true → {A : Type 0} → A
    clash h = absurd (let e : true ≡ false = sym h ∙ ap is_some none in cc)

    by_pure : spilled m.ports m.body (result i 0) ≡ true → (p : Bool) → is_pure o ≡ p → true ≡ false
    by_pure e false pure = clash (owned i 0 o t there typed pure)
    by_pure e true pure = let h = pure_sort o pure in clash (made_named i o there h.0 h.1 h.2 (inr e))

    go : (b : Bool) → spilled m.ports m.body (result i 0) ≡ b → b ≡ false
    go false e = refl
    go true e = by_pure e (is_pure o) refl

  cut_named : (i : ℕ) (o : Op) (r : Ref) → slice_get m.body i ≡ Some o → o.operands ≡ r ∷ []
      → is_narrower o.kind (width_of (result_type o 0)) (value_width m.ports m.body r) ≡ true → is_some (value_name m r) ≡ true
  cut_named i o r there only narrow = go (type_in m.ports m.body r) refl where
    by_ref : (t : HwType) (y : Ref) → r ≡ y → type_in m.ports m.body y ≡ Some t → is_some (value_name m y) ≡ true
    by_ref t (port j) same typed = inputs_named j t typed
    by_ref t undefined same typed = cc
    by_ref t (result j k) same typed =
        let f = and_then_some (slice_get m.body j) (λ (z : Op). result_type z k) typed in by_pure f.0 f.1 f.2 (is_pure f.0) refl where
          by_pure : (o' : Op) → slice_get m.body j ≡ Some o' → result_type o' k ≡ Some t → (p : Bool) → is_pure o' ≡ p → is_some (value_name m (result j k)) ≡ true
          by_pure o' at type_is false pure = owned j k o' t at type_is pure
          by_pure o' at type_is true pure =
              let h = pure_sort o' pure in
              let first : k ≡ 0 = made_first j k o' t at type_is h.1 h.2 in
              let here : r ≡ result j 0 = same ∙ ap (result j) first in
              by_first j k first (made_named j o' at h.0 h.1 h.2
              (inr (cut_spilled m.ports m.body j i o' o at pure there (only ∙ ap (λ z. z ∷ []) here)
              (ap (λ z. is_narrower o.kind (width_of (result_type o 0)) (value_width m.ports m.body z)) (sym here) ∙ narrow))))

    go : (t : Option HwType) → type_in m.ports m.body r ≡ t → is_some (value_name m r) ≡ true
    go None none = absurd (let h : false ≡ true = sym (no_bits_cut o.kind (width_of (result_type o 0))) ∙ ap (λ z. is_narrower o.kind (width_of (result_type o 0)) (width_of z)) (sym none) ∙ narrow in cc)
    go (Some t) typed = by_ref t r refl typed

  gives_first : (i k : ℕ) (o : Op) (t : HwType) → slice_get m.body i ≡ Some o → gives_values o ≡ true → result_type o k ≡ Some t → k ≡ 0
  gives_first i k o t there gives typed = go (sort_of o.kind) where
    go : Sort o.kind → k ≡ 0
    go (a_register f r n u) = made_first i k o t there typed n u
    go (an_instance y r n u) = absurd (let h : false ≡ true = simp (r, n) at gives in cc)
    go (an_output r n u) = absurd (no_results i k o t there typed u)
    go (a_made r n u) = made_first i k o t there typed n u

  pub writable : IsWritable (value_name m) m.ports m.body
  writable = record {
    fits = λ i o there. (module_sound d x s m is).ops i o there;
    integers = λ i o there. ((module_ok d x s m is).ops i o there).integers;
    filled = λ i o there. ((module_ok d x s m is).ops i o there).filled;
    bits = has_bits;
    narrow = (module_ok d x s m is).narrow;
    divisions = λ i o there. ((module_ok d x s m is).ops i o there).division;
    inputs = inputs_named;
    owned = owned;
    wires = wires;
    cuts = cut_named;
    one_result = gives_first;
  }
    where
      has_bits : (i k : ℕ) (o : Op) (t : HwType) → slice_get m.body i ≡ Some o → result_type o k ≡ Some t → 1 ≤ width t
      has_bits i k o t there typed =
          let h = option_map_some (λ (z : OpResult). z.type) (slice_get o.results k) typed in
          subst (λ z. 1 ≤ width z) h.2 (((module_ok d x s m is).ops i o there).bits k h.0 h.1)
