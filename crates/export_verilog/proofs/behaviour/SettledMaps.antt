-- A settled map of a design goes over to a settled map of its tree, and each settled map of the tree comes from one.
use Rattle.std.proofs.Common.{◌≡◌, ℕ, ◌⊎◌, Bool, true, false, cond, [], map, length, slice_get, Option, Some, None, refl, sym, ◌∙◌, ap, subst, inl, inr, option_and_then, option_map}
use Rattle.wiring.specs.Wiring.{In}
use Rattle.wiring.proofs.Heights.{by_heights}
use Rattle.bits_core.specs.Word.{Word}
use Rattle.hw_model.specs.Types.{Name, HwType, width}
use Rattle.hw_model.specs.Design.{Ref, Port, OpResult, Op, Module, Design, find_module, is_output_kind, result_type}
use Rattle.hw_model.specs.Design.Ref.{port, result, undefined}
use Rattle.hw_model.specs.Value.{op_value}
use Rattle.hw_model.specs.Flat.{Path, Net, net as at, module_at, width_of}
use Rattle.hw_model.specs.Flat.Source.{op_result}
use Rattle.hw_model.specs.Meaning.{needs, HasHeights}
use Rattle.hw_model.specs.Sound.{type_in, input_type}
use Rattle.hw_model.proofs.Finite.{heights_from_no_cycle}
use Rattle.hw_model.proofs.NetWidths.{value_widths}
use Rattle.verilog_model.specs.Hierarchy.{VNet, vnet, drive, vmodule_at, width_at}
use Rattle.verilog_model.specs.Meaning.{names_at, drive_value}
use Rattle.verilog_expr.specs.Values.{HoldConstants}
use Rattle.lowering_options.specs.declared.lowering.Lowering.{Lowering}
use Rattle.export_verilog.specs.Identifiers.{Identifier, emission_of, module_identifiers, identifier_text, value_name}
use Rattle.export_verilog.specs.Identifiers.Identifier.{port_identifier, value_identifier, instance_identifier}
use Rattle.export_verilog.specs.Identifiers.Emission.{as_wire, as_reg, as_instance}
use Rattle.export_verilog.specs.Exported.{symbol_name, tree_of}
use Rattle.export_verilog.proofs.names.IdentifiersOf.{Owner, owner_of, port_in}
use Rattle.export_verilog.proofs.names.IdentifiersOf.Owner.{a_port, a_net, a_variable, an_instance, a_result}
use Rattle.export_verilog.proofs.items.Lookups.{identifier_width}
use Rattle.export_verilog.proofs.items.Settings.{Setting, module_sound, first_result}
use Rattle.export_verilog.proofs.behaviour.Sources.{made_from}
use Rattle.export_verilog.proofs.items.Writable.{NamedAs, named_as, named_result, named_input}
use Rattle.export_verilog.proofs.items.Writable.NamedAs.{by_port, by_value}
use Rattle.export_verilog.proofs.behaviour.Positions.{vpath_of}
use Rattle.export_verilog.proofs.behaviour.Nets.{identifier_drive, width_here, drive_instance}
use Rattle.export_verilog.proofs.items.Operands.{output_ref_at}
use Rattle.export_verilog.proofs.behaviour.NetValues.{evaluated_as, HaveWords, IsGood, symbol_there, found_there, port_width_is, own_named, own_absent, constant_form, ShowOutputs, output_agrees}
use Rattle.export_verilog.proofs.behaviour.NetMaps.{worth, drives, IsTreeSettled, IsDesignSettled, unnamed_agrees, named_agrees, settled_given, tree_good, back, back_here, back_own, output_shown}
use Rattle.export_verilog.proofs.behaviour.Owners.{shown_ref, input_shows, output_shows, to, to_identifier, by_owner_of}

module _ (via : Lowering) (d : Design) (x : Setting d) (top : Name) (inputs content : Word) (m0 : Module) (top_is : find_module d top ≡ Some m0) where
  pub heights : HasHeights d top
  heights = heights_from_no_cycle d top x.ok.finite (x.ok.acyclic top)

  abbrev over : (Net → Word) → VNet → Word
  over ρ = to via d x top m0 top_is ρ

  abbrev from : (VNet → Word) → Net → Word
  from σ = back via d x top inputs content m0 top_is σ

  over_identifier : (ρ : Net → Word) (p : Path) (m : Module) → module_at d top p ≡ Some m → (k : Identifier) → In k (module_identifiers m) → over ρ (vnet (vpath_of d top p) (identifier_text m k))
      ≡ ρ (at p (shown_ref via d x top m0 top_is m k))
  over_identifier ρ p m here k within = to_identifier via d x top m0 top_is ρ p m here k within

  -- what an instance's name stands for
  instance_given : (σ : VNet → Word) (p : Path) (m : Module) (here : module_at d top p ≡ Some m) (i : ℕ) (o : Op) → slice_get m.body i ≡ Some o → emission_of m.ports m.body i o ≡ as_instance
      → drives via d x top inputs content m0 top_is σ p m (instance_identifier i) ≡ []
  instance_given σ p m here i o there emission = ap (drive_value (tree_of via d) (symbol_name d top) inputs content σ 0) (drive_instance via d x top p m here i o there emission)

  module _ (ρ : Net → Word) (settled : IsDesignSettled via d x top inputs content m0 top_is ρ) where
    typed_long : (p : Path) (m : Module) (r : Ref) (t : HwType) → module_at d top p ≡ Some m → type_in m.ports m.body r ≡ Some t → length (ρ (at p r)) ≡ width t
    typed_long p m r t here typed = value_widths d top x.ok.sound inputs content ρ heights settled p m r t here typed

    result_long : (p : Path) (m : Module) (i k : ℕ) (o : Op) (t : HwType) → module_at d top p ≡ Some m → slice_get m.body i ≡ Some o → result_type o k ≡ Some t
        → length (ρ (at p (result i k))) ≡ identifier_width m (value_identifier i k)
    result_long p m i k o t here there typed =
        typed_long p m (result i k) t here (ap (λ z. option_and_then (λ (o : Op). result_type o k) z) there ∙ typed)
        ∙ sym (ap (λ z. width_of (option_and_then (λ (o : Op). result_type o k) z)) there ∙ ap width_of typed)

    over_words : HaveWords via d x top inputs content (over ρ)
    over_words p m here k within = ap length (over_identifier ρ p m here k within) ∙ go (owner_of m k within) where
      moved : (l : Identifier) → k ≡ l → length (ρ (at p (shown_ref via d x top m0 top_is m l))) ≡ identifier_width m l → length (ρ (at p (shown_ref via d x top m0 top_is m k))) ≡ identifier_width m k
      moved l same e = subst (λ z. length (ρ (at p (shown_ref via d x top m0 top_is m z))) ≡ identifier_width m z) (sym same) e

      by_way : (j : ℕ) (y : Port) → slice_get m.ports j ≡ Some y → (b : Bool) → y.is_output ≡ b → length (ρ (at p (shown_ref via d x top m0 top_is m (port_identifier j)))) ≡ identifier_width m (port_identifier j)
      by_way j y there true out =
          let o = output_ref_at d m (module_sound d x (symbol_there via d x top inputs content p m here) m (found_there via d x top inputs content p m here)) j y there out in
          ap (λ z. length (ρ (at p z))) (output_shows via d x top m0 top_is m j y o.0 there out o.1) ∙ typed_long p m o.0 y.type here o.2
          ∙ sym (port_width_is via d x top inputs content p m here j y there)
      by_way j y there false inward =
          ap (λ z. length (ρ (at p z))) (input_shows via d x top m0 top_is m j y there inward)
          ∙ typed_long p m (port j) y.type here (ap input_type there ∙ ap (λ b. cond b None (Some y.type)) inward)
          ∙ sym (port_width_is via d x top inputs content p m here j y there)

      first_long : (i : ℕ) (o : Op) → slice_get m.body i ≡ Some o → (emission_of m.ports m.body i o ≡ as_wire) ⊎ (emission_of m.ports m.body i o ≡ as_reg) → length (ρ (at p (result i 0))) ≡ identifier_width m (value_identifier i 0)
      first_long i o there emission =
          let h = first_result d x (symbol_there via d x top inputs content p m here) m (found_there via d x top inputs content p m here) i o there emission in
          result_long p m i 0 o h.0.type here there (ap (λ rs. option_map (λ (z : OpResult). z.type) (slice_get rs 0)) h.1)

      go : Owner m k → length (ρ (at p (shown_ref via d x top m0 top_is m k))) ≡ identifier_width m k
      go (a_port j y there same) = moved (port_identifier j) same (by_way j y there y.is_output refl)
      go (a_net i o there emission same) = moved (value_identifier i 0) same (first_long i o there (inl emission))
      go (a_variable i o there emission same) = moved (value_identifier i 0) same (first_long i o there (inr emission))
      go (an_instance i o there emission same) = moved (instance_identifier i) same (ap length (settled (at p undefined)))
      go (a_result i l o r there emission found same) = moved (value_identifier i l) same (result_long p m i l o r.type here there (ap (option_map (λ (z : OpResult). z.type)) found))

    -- a name shows its value
    pub name_shows : (p : Path) (m : Module) (here : module_at d top p ≡ Some m) (r : Ref) (n : Name)
        → NamedAs d x (symbol_there via d x top inputs content p m here) m (found_there via d x top inputs content p m here) n r → over ρ (vnet (vpath_of d top p) n) ≡ ρ (at p r)
    name_shows p m here r n (by_port j y there inward same called) =
        ap (λ w. over ρ (vnet (vpath_of d top p) w)) called ∙ over_identifier ρ p m here (port_identifier j) (port_in m j y there)
        ∙ ap (λ z. ρ (at p z)) (input_shows via d x top m0 top_is m j y there inward ∙ sym same)
    name_shows p m here r n (by_value i k within same called) =
        ap (λ w. over ρ (vnet (vpath_of d top p) w)) called ∙ over_identifier ρ p m here (value_identifier i k) within ∙ ap (λ z. ρ (at p z)) (sym same)

    over_constants : (p : Path) (m : Module) → module_at d top p ≡ Some m → HoldConstants (value_name m) m.body (names_at (vpath_of d top p) (over ρ))
    over_constants p m here i o z t n there kind typed called =
        let form = constant_form o.kind z kind in
        name_shows p m here (result i 0) n (named_as d x (symbol_there via d x top inputs content p m here) m (found_there via d x top inputs content p m here) (result i 0) n called)
        ∙ settled (at p (result i 0))
        ∙ evaluated_as via d x top inputs content ρ p (result i 0) (op_result o.kind o.types t 0 (map (at p) o.operands)) (made_from d top p m here i 0 o t there form.0 form.1 (ap is_output_kind kind) typed)
        ∙ ap (λ w. op_value w o.types t 0 (map ρ (map (at p) o.operands))) kind

    pub over_good : IsGood via d x top inputs content (over ρ)
    over_good = record { words = over_words; constants = over_constants }

    -- each value's expression has its value
    own_at : (a : Net) (m : Module) → module_at d top a.path ≡ Some m → worth via d x top inputs content m0 top_is (over ρ) a.path m a.ref ≡ ρ a
    own_at = by_heights (needs d top) (λ a. (m : Module) → module_at d top a.path ≡ Some m → worth via d x top inputs content m0 top_is (over ρ) a.path m a.ref ≡ ρ a) step heights where
      go : (p : Path) (r : Ref) (m : Module) (here : module_at d top p ≡ Some m)
          → ((z : Ref) → In (at p z) (needs d top (at p r)) → worth via d x top inputs content m0 top_is (over ρ) p m z ≡ ρ (at p z))
          → (n : Option Name) → value_name m r ≡ n → worth via d x top inputs content m0 top_is (over ρ) p m r ≡ ρ (at p r)
      go p r m here rest None unnamed = unnamed_agrees via d x top inputs content m0 top_is (over ρ) over_good ρ p m here r unnamed rest ∙ sym (settled (at p r))
      go p r m here rest (Some n) called =
          own_named via d x top inputs content p m here (over ρ) over_words r n called
          ∙ name_shows p m here r n (named_as d x (symbol_there via d x top inputs content p m here) m (found_there via d x top inputs content p m here) r n called)

      step : (a : Net) → ((b : Net) → In b (needs d top a) → (m : Module) → module_at d top b.path ≡ Some m → worth via d x top inputs content m0 top_is (over ρ) b.path m b.ref ≡ ρ b)
          → (m : Module) → module_at d top a.path ≡ Some m → worth via d x top inputs content m0 top_is (over ρ) a.path m a.ref ≡ ρ a
      step a rest m here = go a.path a.ref m here (λ z within. rest (at a.path z) within m here) (value_name m a.ref) refl

    pub own_is : (p : Path) (m : Module) → module_at d top p ≡ Some m → (r : Ref) → worth via d x top inputs content m0 top_is (over ρ) p m r ≡ ρ (at p r)
    own_is p m here r = own_at (at p r) m here

    shows : ShowOutputs via d x top inputs content (over ρ) over_good ρ
    shows p m here j y r there out gives = over_identifier ρ p m here (port_identifier j) (port_in m j y there) ∙ ap (λ z. ρ (at p z)) (output_shows via d x top m0 top_is m j y r there out gives)

    over_given : (p : Path) (m : Module) (here : module_at d top p ≡ Some m) (k : Identifier) → In k (module_identifiers m)
        → ρ (at p (shown_ref via d x top m0 top_is m k)) ≡ drives via d x top inputs content m0 top_is (over ρ) p m k
    over_given p m here k within = go (owner_of m k within) where
      by_name : (r : Ref) (n : Name) → n ≡ identifier_text m k → shown_ref via d x top m0 top_is m k ≡ r
          → NamedAs d x (symbol_there via d x top inputs content p m here) m (found_there via d x top inputs content p m here) n r
          → ρ (at p (shown_ref via d x top m0 top_is m k)) ≡ drives via d x top inputs content m0 top_is (over ρ) p m k
      by_name r n is same called =
          let h = named_agrees via d x top inputs content m0 top_is (over ρ) over_good ρ own_is shows p m here r n called in
          let identifiers : k ≡ h.0 = Rattle.export_verilog.proofs.names.IdentifierNames.texts_apart m (Rattle.export_verilog.proofs.behaviour.Positions.names_at_path via d x top p m here) k h.0 within h.1 (sym is ∙ h.2) in
          ap (λ z. ρ (at p z)) same ∙ settled (at p r) ∙ sym h.3 ∙ ap (drives via d x top inputs content m0 top_is (over ρ) p m) (sym identifiers)

      by_way : (j : ℕ) (y : Port) → slice_get m.ports j ≡ Some y → k ≡ port_identifier j → (b : Bool) → y.is_output ≡ b
          → ρ (at p (shown_ref via d x top m0 top_is m k)) ≡ drives via d x top inputs content m0 top_is (over ρ) p m k
      by_way j y there same true out =
          let o = output_ref_at d m (module_sound d x (symbol_there via d x top inputs content p m here) m (found_there via d x top inputs content p m here)) j y there out in
          ap (λ z. ρ (at p z)) (ap (shown_ref via d x top m0 top_is m) same ∙ output_shows via d x top m0 top_is m j y o.0 there out o.1)
          ∙ sym (own_is p m here o.0) ∙ sym (output_agrees via d x top inputs content (over ρ) over_good ρ p m here j y o.0 there out o.1)
          ∙ ap (drives via d x top inputs content m0 top_is (over ρ) p m) (sym same)
      by_way j y there same false inward =
          by_name (port j) (identifier_text m (port_identifier j)) (ap (identifier_text m) (sym same))
          (ap (shown_ref via d x top m0 top_is m) same ∙ input_shows via d x top m0 top_is m j y there inward)
          (by_port j y there inward refl refl)

      by_result : (i l : ℕ) → k ≡ value_identifier i l → ρ (at p (shown_ref via d x top m0 top_is m k)) ≡ drives via d x top inputs content m0 top_is (over ρ) p m k
      by_result i l same = by_name (result i l) (identifier_text m (value_identifier i l)) (ap (identifier_text m) (sym same)) (ap (shown_ref via d x top m0 top_is m) same)
          (by_value i l (subst (λ z. In z (module_identifiers m)) same within) refl refl)

      go : Owner m k → ρ (at p (shown_ref via d x top m0 top_is m k)) ≡ drives via d x top inputs content m0 top_is (over ρ) p m k
      go (a_port j y there same) = by_way j y there same y.is_output refl
      go (a_net i o there emission same) = by_result i 0 same
      go (a_variable i o there emission same) = by_result i 0 same
      go (an_instance i o there emission same) =
          ap (λ z. ρ (at p (shown_ref via d x top m0 top_is m z))) same ∙ settled (at p undefined)
          ∙ sym (instance_given (over ρ) p m here i o there emission) ∙ ap (drives via d x top inputs content m0 top_is (over ρ) p m) (sym same)
      go (a_result i l o r there emission found same) = by_result i l same

    pub over_settled : IsTreeSettled via d x top inputs content m0 top_is (over ρ)
    over_settled = by_owner_of via d x top m0 top_is
        (λ v. over ρ v ≡ drive_value (tree_of via d) (symbol_name d top) inputs content (over ρ) (width_at (vmodule_at (tree_of via d) (symbol_name d top) v.path) v.name) (drive (tree_of via d) (symbol_name d top) v))
        (λ p m here k within. over_identifier ρ p m here k within ∙ over_given p m here k within
        ∙ sym (ap (λ w. drive_value (tree_of via d) (symbol_name d top) inputs content (over ρ) w (identifier_drive via d x top p m k)) (width_here via d x top p m here k within)))
        (λ v none free. free ρ ∙ sym (ap (drive_value (tree_of via d) (symbol_name d top) inputs content (over ρ) (width_at (vmodule_at (tree_of via d) (symbol_name d top) v.path) v.name)) none))

  -- ---- each settled map of the tree comes from one of the design

  module _ (σ : VNet → Word) (settled : IsTreeSettled via d x top inputs content m0 top_is σ) where
    shown_again : (p : Path) (m : Module) (here : module_at d top p ≡ Some m) (k : Identifier) → In k (module_identifiers m)
        → from σ (at p (shown_ref via d x top m0 top_is m k)) ≡ σ (vnet (vpath_of d top p) (identifier_text m k))
    shown_again p m here k within = back_here via d x top inputs content m0 top_is σ p m (shown_ref via d x top m0 top_is m k) here ∙ go (owner_of m k within) where
      moved : (l : Identifier) → k ≡ l → worth via d x top inputs content m0 top_is σ p m (shown_ref via d x top m0 top_is m l) ≡ σ (vnet (vpath_of d top p) (identifier_text m l))
          → worth via d x top inputs content m0 top_is σ p m (shown_ref via d x top m0 top_is m k) ≡ σ (vnet (vpath_of d top p) (identifier_text m k))
      moved l same e = subst (λ z. worth via d x top inputs content m0 top_is σ p m (shown_ref via d x top m0 top_is m z) ≡ σ (vnet (vpath_of d top p) (identifier_text m z))) (sym same) e

      by_way : (j : ℕ) (y : Port) → slice_get m.ports j ≡ Some y → (b : Bool) → y.is_output ≡ b
          → worth via d x top inputs content m0 top_is σ p m (shown_ref via d x top m0 top_is m (port_identifier j)) ≡ σ (vnet (vpath_of d top p) (identifier_text m (port_identifier j)))
      by_way j y there true out =
          let o = output_ref_at d m (module_sound d x (symbol_there via d x top inputs content p m here) m (found_there via d x top inputs content p m here)) j y there out in
          ap (worth via d x top inputs content m0 top_is σ p m) (output_shows via d x top m0 top_is m j y o.0 there out o.1)
          ∙ back_own via d x top inputs content m0 top_is σ settled p m here o.0
          ∙ sym (output_shown via d x top inputs content m0 top_is σ settled p m here j y o.0 there out o.1)
      by_way j y there false inward =
          ap (worth via d x top inputs content m0 top_is σ p m) (input_shows via d x top m0 top_is m j y there inward)
          ∙ own_named via d x top inputs content p m here σ (tree_good via d x top inputs content m0 top_is σ settled).words (port j) (identifier_text m (port_identifier j))
          (named_input d x (symbol_there via d x top inputs content p m here) m (found_there via d x top inputs content p m here) j y there inward)

      by_result : (i l : ℕ) → k ≡ value_identifier i l → worth via d x top inputs content m0 top_is σ p m (shown_ref via d x top m0 top_is m k) ≡ σ (vnet (vpath_of d top p) (identifier_text m k))
      by_result i l same = moved (value_identifier i l) same
          (own_named via d x top inputs content p m here σ (tree_good via d x top inputs content m0 top_is σ settled).words (result i l) (identifier_text m (value_identifier i l))
          (named_result d x (symbol_there via d x top inputs content p m here) m (found_there via d x top inputs content p m here) i l (subst (λ z. In z (module_identifiers m)) same within)))

      go : Owner m k → worth via d x top inputs content m0 top_is σ p m (shown_ref via d x top m0 top_is m k) ≡ σ (vnet (vpath_of d top p) (identifier_text m k))
      go (a_port j y there same) = moved (port_identifier j) same (by_way j y there y.is_output refl)
      go (a_net i o there emission same) = by_result i 0 same
      go (a_variable i o there emission same) = by_result i 0 same
      go (an_instance i o there emission same) = moved (instance_identifier i) same
          (own_absent via d x top inputs content p m here σ (tree_good via d x top inputs content m0 top_is σ settled).words undefined refl refl
          ∙ sym (instance_given σ p m here i o there emission)
          ∙ sym (settled_given via d x top inputs content m0 top_is σ settled p m here (instance_identifier i) (subst (λ z. In z (module_identifiers m)) same within)))
      go (a_result i l o r there emission found same) = by_result i l same

    pub round : (v : VNet) → over (from σ) v ≡ σ v
    round = by_owner_of via d x top m0 top_is (λ v. over (from σ) v ≡ σ v)
        (λ p m here k within. over_identifier (from σ) p m here k within ∙ shown_again p m here k within)
        (λ v none free. free (from σ)
        ∙ sym (settled v ∙ ap (drive_value (tree_of via d) (symbol_name d top) inputs content σ (width_at (vmodule_at (tree_of via d) (symbol_name d top) v.path) v.name)) none))
