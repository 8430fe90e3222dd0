-- The maps between the nets of a design and those of its tree, and that they keep maps settled.
use Rattle.std.proofs.Common.{◌≡◌, ℕ, ◌⊎◌, Bool, true, false, cond, is_some, List, [], ◌∷◌, map, length, take, slice_get, Option, Some, None, refl, sym, ◌∙◌, ap, ap₂, subst, inl, inr, option_and_then}
use Rattle.wiring.specs.Wiring.{In}
use Rattle.wiring.proofs.Options.{and_then_some, and_then_none}
use Rattle.wiring.proofs.Members.{In-map, map_same}
use Rattle.bits_core.specs.Word.{Word, bits_of_ℤ}
use Rattle.hw_model.specs.Types.{Name, HwType, width}
use Rattle.hw_model.specs.Design.{Ref, Port, Op, Module, Design, find_module, instance_in, register_form, result_type, output_refs, callee}
use Rattle.hw_model.specs.Design.Ref.{port, result, undefined}
use Rattle.hw_model.specs.Value.{op_value}
use Rattle.hw_model.specs.Flat.{Path, Net, net as at, source, module_at, instances, input_width, input_of, input_source, copy_of, joined_ref, joined_at, operand_for, input_count, held_of, made_of, result_source, offset}
use Rattle.hw_model.specs.Flat.Source.{nowhere, op_result, input as from_input}
use Rattle.hw_model.specs.Meaning.{needs, needs_of, Settled}
use Rattle.hw_model.specs.Sound.{type_in, input_type, output_types}
use Rattle.hw_model.proofs.Sorts.{Sort, sort_of}
use Rattle.hw_model.proofs.Sorts.Sort.{a_register, an_instance as is_an_instance, an_output, a_made}
use Rattle.verilog_model.specs.Hierarchy.{VNet, vnet}
use Rattle.verilog_model.specs.Meaning.{names_at, drive_value, TreeSettled}
use Rattle.verilog_expr.specs.Spilling.{is_pure, is_constant_kind}
use Rattle.verilog_expr.specs.Values.{is_division, HoldConstants}
use Rattle.verilog_expr.proofs.Bodies.{gives_values-pure, map_map}
use Rattle.lowering_options.specs.declared.lowering.Lowering.{Lowering}
use Rattle.export_verilog.specs.Identifiers.{Identifier, emission_of, module_identifiers, identifier_text, value_name}
use Rattle.export_verilog.specs.Identifiers.Identifier.{port_identifier, value_identifier, instance_identifier}
use Rattle.export_verilog.specs.Identifiers.Emission.{as_wire}
use Rattle.export_verilog.specs.Exported.{symbol_name, vmodule, tree_of}
use Rattle.export_verilog.proofs.names.IdentifiersOf.{Owner, owner_of, register_of_emission, instance_of_emission, port_in, net_in}
use Rattle.export_verilog.proofs.names.IdentifiersOf.Owner.{a_port, a_net, a_variable, an_instance, a_result}
use Rattle.export_verilog.proofs.items.Items.{output_count}
use Rattle.export_verilog.proofs.items.Settings.{Setting, Called, module_sound, called_by, callee_is}
use Rattle.export_verilog.proofs.behaviour.Sources.{register_from, instance_from, made_from, rest_from, no_op_from, pure_sort}
use Rattle.export_verilog.proofs.items.Writable.{NamedAs, named_as}
use Rattle.export_verilog.proofs.items.Writable.NamedAs.{by_port, by_value}
use Rattle.export_verilog.proofs.behaviour.Positions.{vpath_of, further}
use Rattle.export_verilog.proofs.behaviour.Nets.{identifier_drive, width_here}
use Rattle.export_verilog.proofs.items.Operands.{output_type_at, none_at}
use Rattle.export_verilog.proofs.behaviour.NetValues.{own, given, evaluated, evaluated_as, HaveWords, IsGood, symbol_there, found_there, can_write, own_named, own_absent, own_unnamed, plain_expr, made_worth}
use Rattle.export_verilog.proofs.behaviour.NetValues.{net_given, given_long, joined_is, constant_form, ShowOutputs, output_agrees, value_agrees}

clash : {A : Type 0} (o : Option A) → is_some o ≡ true → o ≡ None → ⊥
clash o some none = let h : true ≡ false = sym some ∙ ap is_some none in cc

module _ (via : Lowering) (d : Design) (x : Setting d) (top : Name) (inputs content : Word) (m0 : Module) (top_is : find_module d top ≡ Some m0) where
  abbrev pub worth : (VNet → Word) → Path → Module → Ref → Word
  worth σ p m r = own via d x top inputs content σ p m r

  abbrev pub got : (Net → Word) → Path → Ref → Word
  got τ p r = evaluated via d x top inputs content τ p r

  abbrev pub drives : (VNet → Word) → Path → Module → Identifier → Word
  drives σ p m k = given via d x top inputs content σ p m k

  abbrev pub IsTreeSettled : (VNet → Word) → Type 0
  IsTreeSettled σ = TreeSettled (tree_of via d) (symbol_name d top) inputs content σ

  abbrev pub IsDesignSettled : (Net → Word) → Type 0
  IsDesignSettled ρ = Settled d top inputs content ρ

  -- ---- what comes from nowhere

  absent_port : (τ : Net → Word) (p : Path) (m : Module) → module_at d top p ≡ Some m → (j : ℕ) → (z : Option Port) → slice_get m.ports j ≡ z → input_type z ≡ None → got τ p (port j) ≡ []
  absent_port τ [] m here j z there none = evaluated_as via d x top inputs content τ [] (port j) nowhere (ap (input_source j) here ∙ ap (λ y. input_of y (input_width (take j m.ports))) there ∙ go z none) where
    go : (z : Option Port) → input_type z ≡ None → input_of z (input_width (take j m.ports)) ≡ nowhere
    go None e = refl
    go (Some y) e = by_way y.is_output e where
      by_way : (b : Bool) → cond b None (Some y.type) ≡ None → cond b nowhere (from_input (input_width (take j m.ports)) (width y.type)) ≡ nowhere
      by_way true h = refl
      by_way false h = cc
  absent_port τ (u ∷ p) m here j z there none =
      let f = further via d x top u p m here in
      evaluated_as via d x top inputs content τ (u ∷ p) (port j) nowhere
      (joined_is via d x top inputs content u p m f j None (ap (λ y. operand_for y f.op.operands (input_count (take j m.ports))) there ∙ go f.op.operands z none)) where
        go : (rs : List Ref) (z : Option Port) → input_type z ≡ None → operand_for z rs (input_count (take j m.ports)) ≡ None
        go rs None e = refl
        go rs (Some y) e = by_way y.is_output e where
          by_way : (b : Bool) → cond b None (Some y.type) ≡ None → cond b None (slice_get rs (input_count (take j m.ports))) ≡ None
          by_way true h = refl
          by_way false h = cc

  absent_result : (τ : Net → Word) (p : Path) (m : Module) (here : module_at d top p ≡ Some m) (i k : ℕ) (z : Option Op) → slice_get m.body i ≡ z
      → option_and_then (λ (o : Op). result_type o k) z ≡ None → got τ p (result i k) ≡ []
  absent_result τ p m here i k None there none = evaluated_as via d x top inputs content τ p (result i k) nowhere (no_op_from d top p m here i k there)
  absent_result τ p m here i k (Some o) there none = by_sort (sort_of o.kind) where
    from : source d top (at p (result i k)) ≡ nowhere → got τ p (result i k) ≡ []
    from e = evaluated_as via d x top inputs content τ p (result i k) nowhere e

    by_sort : Sort o.kind → got τ p (result i k) ≡ []
    by_sort (a_register f r n u) = from (register_from d top p m here i k o f there r ∙ ap (held_of (offset d top p m i)) none)
    by_sort (is_an_instance y r n u) =
        let c : Called d m o = called_by d x (symbol_there via d x top inputs content p m here) m (found_there via d x top inputs content p m here) i o there y n in
        from (instance_from d top p m here i k o y there r n
        ∙ ap (copy_of (length (instances (take i m.body)) ∷ p)) (ap (λ z. option_and_then (λ (c : Module). slice_get (output_refs c.body) k) z) (callee_is d m o c)
        ∙ none_at (type_in c.module_of.ports c.module_of.body) (output_refs c.module_of.body) (output_types c.module_of.ports) k (module_sound d x c.kind.symbol c.module_of c.there).outputs
        (output_type_at d m o c k ∙ none)))
    by_sort (an_output r n u) = from (rest_from d top p m here i k o there r n ∙ ap (λ b. cond b nowhere (made_of p o k (result_type o k))) u)
    by_sort (a_made r n u) = from (rest_from d top p m here i k o there r n ∙ ap (λ b. cond b nowhere (made_of p o k (result_type o k))) u ∙ ap (made_of p o k) none)

  absent_value : (τ : Net → Word) (p : Path) (m : Module) (here : module_at d top p ≡ Some m) (r : Ref) → type_in m.ports m.body r ≡ None → got τ p r ≡ []
  absent_value τ p m here (port j) none = absent_port τ p m here j (slice_get m.ports j) refl none
  absent_value τ p m here (result i k) none = absent_result τ p m here i k (slice_get m.body i) refl none
  absent_value τ p m here undefined none = refl

  -- what stands where no module is
  missing_value : (τ : Net → Word) (p : Path) (r : Ref) → module_at d top p ≡ None → got τ p r ≡ []
  missing_value τ p undefined none = refl
  missing_value τ p (result i k) none = evaluated_as via d x top inputs content τ p (result i k) nowhere (ap (result_source d top p i k) none)
  missing_value τ [] (port j) none = absurd (let h : None ≡ Some m0 = sym none ∙ top_is in cc)
  missing_value τ (u ∷ p) (port j) none =
      evaluated_as via d x top inputs content τ (u ∷ p) (port j) nowhere (ap (copy_of p) (outer (and_then_none (module_at d top p) (λ (m : Module). option_and_then (callee d) (slice_get (instances m.body) u)) none))) where
        called : (o : Op) → callee d o ≡ None → joined_ref d j o ≡ None
        called o e = ap (λ z. option_and_then (λ (c : Module). Rattle.hw_model.specs.Flat.port_ref c.ports o.operands j) z) e

        inner : (m : Module) → (slice_get (instances m.body) u ≡ None) ⊎ ((o : Op) × (slice_get (instances m.body) u ≡ Some o) × (callee d o ≡ None)) → joined_at d u j m ≡ None
        inner m (inl e) = ap (λ z. option_and_then (joined_ref d j) z) e
        inner m (inr h) = ap (λ z. option_and_then (joined_ref d j) z) h.1 ∙ called h.0 h.2

        outer : (module_at d top p ≡ None) ⊎ ((m : Module) × (module_at d top p ≡ Some m) × (option_and_then (callee d) (slice_get (instances m.body) u) ≡ None)) → option_and_then (joined_at d u j) (module_at d top p) ≡ None
        outer (inl e) = ap (λ z. option_and_then (joined_at d u j) z) e
        outer (inr h) = ap (λ z. option_and_then (joined_at d u j) z) h.1 ∙ inner h.0 (and_then_none (slice_get (instances h.0.body) u) (callee d) h.2)

  -- ---- a value without a name

  pub unnamed_agrees : (σ : VNet → Word) → IsGood via d x top inputs content σ → (τ : Net → Word) (p : Path) (m : Module) (here : module_at d top p ≡ Some m) (r : Ref) → value_name m r ≡ None
      → ((z : Ref) → In (at p z) (needs d top (at p r)) → worth σ p m z ≡ τ (at p z)) → worth σ p m r ≡ got τ p r
  unnamed_agrees σ good τ p m here r unnamed own_is = by_type (type_in m.ports m.body r) refl where
    by_pure : (i k : ℕ) (o : Op) (t : HwType) → r ≡ result i k → slice_get m.body i ≡ Some o → result_type o k ≡ Some t → (b : Bool) → is_pure o ≡ b → worth σ p m r ≡ got τ p r
    by_pure i k o t same there typed false pure =
        absurd (clash (value_name m (result i k)) ((can_write via d x top inputs content p m here).owned i k o t there typed pure) (ap (value_name m) (sym same) ∙ unnamed))
    by_pure i k o t same there typed true pure =
        let h = pure_sort o pure in
        let s : source d top (at p r) ≡ op_result o.kind o.types t k (map (at p) o.operands) = ap (λ z. source d top (at p z)) same ∙ made_from d top p m here i k o t there h.0 h.1 h.2 typed in
        own_unnamed via d x top inputs content p m here σ good.words r unnamed
        ∙ ap (λ z. Rattle.verilog_model.specs.Expression.own_value (Rattle.verilog_model.specs.Hierarchy.width_in (vmodule via d m)) (names_at (vpath_of d top p) σ) (plain_expr via d x top inputs content p m here σ good.words z)) same
        ∙ made_worth via d x top inputs content p m here σ good.words i k o t there (gives_values-pure o pure) typed (λ e. good.constants p m here)
        ∙ ap (op_value o.kind o.types t k)
        (map_same (worth σ p m) (λ z. τ (at p z)) o.operands (λ z within. own_is z (subst (λ w. In (at p z) (needs_of w)) (sym s) (In-map (at p) z o.operands within)))
        ∙ sym (map_map (at p) τ o.operands))
        ∙ sym (evaluated_as via d x top inputs content τ p r (op_result o.kind o.types t k (map (at p) o.operands)) s)

    by_ref : (z : Ref) (t : HwType) → r ≡ z → type_in m.ports m.body z ≡ Some t → worth σ p m r ≡ got τ p r
    by_ref (port j) t same typed = absurd (clash (value_name m (port j)) ((can_write via d x top inputs content p m here).inputs j t typed) (ap (value_name m) (sym same) ∙ unnamed))
    by_ref undefined t same typed = cc
    by_ref (result i k) t same typed = let h = and_then_some (slice_get m.body i) (λ (o : Op). result_type o k) typed in by_pure i k h.0 t same h.1 h.2 (is_pure h.0) refl

    by_type : (t : Option HwType) → type_in m.ports m.body r ≡ t → worth σ p m r ≡ got τ p r
    by_type None none = own_absent via d x top inputs content p m here σ good.words r none unnamed ∙ sym (absent_value τ p m here r none)
    by_type (Some t) typed = by_ref r t refl typed

  -- a named value, by what has its name
  pub named_agrees : (σ : VNet → Word) (good : IsGood via d x top inputs content σ) (τ : Net → Word)
      → ((p : Path) (m : Module) → module_at d top p ≡ Some m → (r : Ref) → worth σ p m r ≡ τ (at p r)) → ShowOutputs via d x top inputs content σ good τ
      → (p : Path) (m : Module) (here : module_at d top p ≡ Some m) (r : Ref) (n : Name) → NamedAs d x (symbol_there via d x top inputs content p m here) m (found_there via d x top inputs content p m here) n r
      → (k : Identifier) × In k (module_identifiers m) × (n ≡ identifier_text m k) × (drives σ p m k ≡ got τ p r)
  named_agrees σ good τ own_is shows p m here r n (by_port j y there inward same called) = (
    port_identifier j,
    port_in m j y there,
    called,
    value_agrees via d x top inputs content σ good τ own_is shows p m here (port_identifier j) r (port_in m j y there) as_port (λ i l e. cc) (λ i e. cc),
  ) where
    as_port : (a : ℕ) (z : Port) → slice_get m.ports a ≡ Some z → port_identifier j ≡ port_identifier a → (z.is_output ≡ false) × (r ≡ port a)
    as_port a z other e =
        let positions : j ≡ a = cc in
        let ports : Some y ≡ Some z = sym there ∙ ap (slice_get m.ports) positions ∙ other in
        let one : y ≡ z = cc in
        (ap (λ (w : Port). w.is_output) (sym one) ∙ inward, same ∙ ap port positions)
  named_agrees σ good τ own_is shows p m here r n (by_value i k within same called) = (
    value_identifier i k,
    within,
    called,
    value_agrees via d x top inputs content σ good τ own_is shows p m here (value_identifier i k) r within (λ j y there e. cc) as_value (λ a e. cc),
  ) where
    as_value : (a l : ℕ) → value_identifier i k ≡ value_identifier a l → r ≡ result a l
    as_value a l e = let f : i ≡ a = cc in let g : k ≡ l = cc in same ∙ ap₂ result f g

  -- ---- a settled map of the tree

  module _ (σ : VNet → Word) (settled : IsTreeSettled σ) where
    pub settled_given : (p : Path) (m : Module) (here : module_at d top p ≡ Some m) (k : Identifier) → In k (module_identifiers m) → σ (vnet (vpath_of d top p) (identifier_text m k)) ≡ drives σ p m k
    settled_given p m here k within =
        settled (vnet (vpath_of d top p) (identifier_text m k))
        ∙ ap (λ w. drive_value (tree_of via d) (symbol_name d top) inputs content σ w (identifier_drive via d x top p m k)) (width_here via d x top p m here k within)

    tree_words : HaveWords via d x top inputs content σ
    tree_words p m here k within = ap length (settled_given p m here k within) ∙ given_long via d x top inputs content p m here σ k within

    tree_constants : (p : Path) (m : Module) → module_at d top p ≡ Some m → HoldConstants (value_name m) m.body (names_at (vpath_of d top p) σ)
    tree_constants p m here i o z t n there kind typed called =
        go (named_as d x (symbol_there via d x top inputs content p m here) m (found_there via d x top inputs content p m here) (result i 0) n called) where
          form : (register_form o.kind ≡ None) × (instance_in o.kind ≡ None) × (is_division o.kind ≡ false)
          form = constant_form o.kind z kind

          same_op : (a : ℕ) (o' : Op) → i ≡ a → slice_get m.body a ≡ Some o' → o ≡ o'
          same_op a o' e at' = let h : Some o ≡ Some o' = sym there ∙ ap (slice_get m.body) e ∙ at' in let g : o ≡ o' = cc in g

          by_owner : (a k : ℕ) → i ≡ a → (within : In (value_identifier a k) (module_identifiers m)) → n ≡ identifier_text m (value_identifier a k) → Owner m (value_identifier a k) → σ (vnet (vpath_of d top p) n) ≡ bits_of_ℤ (width t) z
          by_owner a k position within is (a_port j y at' e) = absurd (let h : value_identifier a k ≡ port_identifier j = e in cc)
          by_owner a k position within is (an_instance b o' at' emission e) = absurd (let h : value_identifier a k ≡ instance_identifier b = e in cc)
          by_owner a k position within is (a_variable b o' at' emission e) = absurd (
              let positions : i ≡ b = (let h : a ≡ b = cc in position ∙ h) in
              let f = register_of_emission m.ports m.body b o' emission in
              let h : None ≡ Some f.0 = sym form.0 ∙ ap (λ (w : Op). register_form w.kind) (same_op b o' positions at') ∙ f.1 in cc)
          by_owner a k position within is (a_result b l o' r at' emission found e) = absurd (
              let positions : i ≡ b = (let h : a ≡ b = cc in position ∙ h) in
              let f = instance_of_emission m.ports m.body b o' emission in
              let h : None ≡ Some f.0 = sym form.1 ∙ ap (λ (w : Op). instance_in w.kind) (same_op b o' positions at') ∙ f.2 in cc)
          by_owner a k position within is (a_net b o' at' emission e) =
              let positions : i ≡ b = (let h : a ≡ b = cc in position ∙ h) in
              let ops : o ≡ o' = same_op b o' positions at' in
              let emission' : emission_of m.ports m.body i o ≡ as_wire = ap₂ (emission_of m.ports m.body) positions ops ∙ emission in
              ap (λ w. σ (vnet (vpath_of d top p) w)) (is ∙ ap (identifier_text m) (e ∙ ap (λ w. value_identifier w 0) (sym positions)))
              ∙ settled_given p m here (value_identifier i 0) (net_in m i o there emission')
              ∙ net_given via d x top inputs content p m here σ tree_words i o t there emission' typed (λ h. absurd (let g : true ≡ false = sym (ap is_constant_kind kind) ∙ h in cc))
              ∙ ap (λ w. op_value w o.types t 0 (map (worth σ p m) o.operands)) kind

          go : NamedAs d x (symbol_there via d x top inputs content p m here) m (found_there via d x top inputs content p m here) n (result i 0) → σ (vnet (vpath_of d top p) n) ≡ bits_of_ℤ (width t) z
          go (by_port j y at' inward same is) = absurd (let h : result i 0 ≡ port j = same in cc)
          go (by_value a k within same is) = by_owner a k (let h : i ≡ a = cc in h) within is (owner_of m (value_identifier a k) within)

    pub tree_good : IsGood via d x top inputs content σ
    tree_good = record { words = tree_words; constants = tree_constants }

  -- ---- from the tree to the design

  back_at : (VNet → Word) → Path → Ref → Option Module → Word
  back_at σ p r None = []
  back_at σ p r (Some m) = worth σ p m r

  pub back : (VNet → Word) → Net → Word
  back σ n = back_at σ n.path n.ref (module_at d top n.path)

  pub back_here : (σ : VNet → Word) (p : Path) (m : Module) (r : Ref) → module_at d top p ≡ Some m → back σ (at p r) ≡ worth σ p m r
  unfolding back back_at
  back_here σ p m r here = ap (back_at σ p r) here

  back_missing : (σ : VNet → Word) (p : Path) (r : Ref) → module_at d top p ≡ None → back σ (at p r) ≡ []
  unfolding back back_at
  back_missing σ p r none = ap (back_at σ p r) none

  module _ (σ : VNet → Word) (settled : IsTreeSettled σ) where
    pub back_own : (p : Path) (m : Module) → module_at d top p ≡ Some m → (r : Ref) → worth σ p m r ≡ back σ (at p r)
    back_own p m here r = sym (back_here σ p m r here)

    pub output_shown : (p : Path) (m : Module) → module_at d top p ≡ Some m → (j : ℕ) (y : Port) (r : Ref) → slice_get m.ports j ≡ Some y → y.is_output ≡ true
        → slice_get (output_refs m.body) (output_count (take j m.ports)) ≡ Some r → σ (vnet (vpath_of d top p) (identifier_text m (port_identifier j))) ≡ back σ (at p r)
    output_shown p m here j y r there out gives =
        settled_given σ settled p m here (port_identifier j) (port_in m j y there)
        ∙ output_agrees via d x top inputs content σ (tree_good σ settled) (back σ) p m here j y r there out gives
        ∙ back_own p m here r

    pub back_settled : IsDesignSettled (back σ)
    back_settled n = at_position n.path n.ref where
      at_module : (p : Path) (r : Ref) (m : Module) (here : module_at d top p ≡ Some m) → (n : Option Name) → value_name m r ≡ n → worth σ p m r ≡ got (back σ) p r
      at_module p r m here None unnamed = unnamed_agrees σ (tree_good σ settled) (back σ) p m here r unnamed (λ z within. back_own p m here z)
      at_module p r m here (Some n) called =
          let h = named_agrees σ (tree_good σ settled) (back σ) back_own output_shown p m here r n
          (named_as d x (symbol_there via d x top inputs content p m here) m (found_there via d x top inputs content p m here) r n called) in
          own_named via d x top inputs content p m here σ (tree_good σ settled).words r n called
          ∙ ap (λ w. σ (vnet (vpath_of d top p) w)) h.2 ∙ settled_given σ settled p m here h.0 h.1 ∙ h.3

      go : (p : Path) (r : Ref) (o : Option Module) → module_at d top p ≡ o → back σ (at p r) ≡ got (back σ) p r
      go p r None none = back_missing σ p r none ∙ sym (missing_value (back σ) p r none)
      go p r (Some m) here = back_here σ p m r here ∙ at_module p r m here (value_name m r) refl

      at_position : (p : Path) (r : Ref) → back σ (at p r) ≡ got (back σ) p r
      at_position p r = go p r (module_at d top p) refl
