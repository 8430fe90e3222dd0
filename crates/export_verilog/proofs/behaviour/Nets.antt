-- What drives the nets of a tree, position by position.
use Rattle.std.proofs.Common.{◌≡◌, ℕ, zero, suc, ◌+◌, Bool, true, false, cond, List, [], ◌∷◌, take, slice_get, Some, None, refl, sym, ◌∙◌, ap, ap₂, subst, zero-add, add-zero, suc-add, add-suc, arith, option_and_then, option_map}
use Rattle.wiring.specs.Wiring.{In}
use Rattle.hw_model.specs.Types.{Name, width}
use Rattle.hw_model.specs.Design.{Port, OpResult, Op, Module, Design, same_name, find_module, instance_in, result_type, output_refs}
use Rattle.hw_model.specs.Design.Ref.{result}
use Rattle.hw_model.specs.Equality.{name_self, name_from}
use Rattle.hw_model.specs.Flat.{Path, module_at, width_of, base, body_state, state, input_count, input_width}
use Rattle.verilog_model.specs.Tree.{Expr, VModule}
use Rattle.verilog_model.specs.Hierarchy.{VPath, vnet, Drive, drive, drive_at, drive_in, inner_drive, drive_or_nothing, input_drive, connection_drive, drive_of_connection, find_port, find_instance}
use Rattle.verilog_model.specs.Hierarchy.{find_connection, vmodule_at, width_in, width_at, range_width, input_width_before}
use Rattle.verilog_model.specs.Hierarchy.Drive.{nothing, input, held, expression as driven_by, net as driven_from}
use Rattle.verilog_model.specs.Digits.{high_of}
use Rattle.lowering_options.specs.declared.lowering.Lowering.{Lowering}
use Rattle.export_verilog.specs.Lowerings.{load_place, own_place}
use Rattle.export_verilog.specs.Identifiers.{Identifier, each, emission_of, module_identifiers, identifier_text}
use Rattle.export_verilog.specs.Identifiers.Identifier.{port_identifier, value_identifier, instance_identifier}
use Rattle.export_verilog.specs.Identifiers.Emission.{as_wire, as_reg, as_instance}
use Rattle.export_verilog.specs.Exported.{symbol_name, expression, assigned_expr, connections_of, connections_to, vport, vports, vitems, vmodule, tree_of}
use Rattle.export_verilog.specs.Exportable.{IsExportableModule}
use Rattle.export_verilog.proofs.names.IdentifierNames.{AreNames, texts_apart}
use Rattle.export_verilog.proofs.names.IdentifiersOf.{port_in, net_in, variable_in, instance_in_identifiers, result_in_identifiers}
use Rattle.export_verilog.proofs.items.Items.{output_count, expr_for, connection_of}
use Rattle.export_verilog.proofs.items.Lookups.{vport_at, port_value, port_under, identifier_width, width_under, port_width, instance_of_kind, instance_under, connection_under}
use Rattle.export_verilog.proofs.items.Settings.{Setting, Called, module_ok, result_at_first}
use Rattle.export_verilog.proofs.items.Drives.{output_position, OutputAt, position_of_output, drive_value, drive_under, no_drive_under, value_by_emission, value_of_result}
use Rattle.export_verilog.proofs.behaviour.Positions.{number_of, vpath_of, step_name, symbol_at_path, names_at_path, Further, vposition, inside_instance}
use Rattle.export_verilog.proofs.behaviour.Content.{variable_width, register_base}

-- the bits of the inputs before one
inputs_before : (m : Module) (j : ℕ) (ps : List Port) (n : ℕ) (p : Port) → slice_get ps n ≡ Some p
    → ((a : ℕ) (q : Port) → slice_get ps a ≡ Some q → (identifier_text m (port_identifier (j + a)) ≡ identifier_text m (port_identifier (j + n)) → a ≡ n) × (range_width (high_of (width q.type)) ≡ width q.type))
    → input_width_before (identifier_text m (port_identifier (j + n))) (each (vport m) j ps) ≡ input_width (take n ps)
inputs_before m j [] n p there each_ok = cc
inputs_before m j (x ∷ ps) zero p there each_ok =
    ap (λ b. cond b 0 (cond x.is_output (input_width_before (identifier_text m (port_identifier (j + 0))) (each (vport m) (suc j) ps))
    (range_width (high_of (width x.type)) + input_width_before (identifier_text m (port_identifier (j + 0))) (each (vport m) (suc j) ps))))
    (ap (λ a. same_name (identifier_text m (port_identifier j)) (identifier_text m (port_identifier a))) (add-zero j) ∙ name_self (identifier_text m (port_identifier j)))
inputs_before m j (x ∷ ps) (suc n) p there each_ok =
    ap (λ b. cond b 0 (rest_of (input_width_before (identifier_text m (port_identifier (j + suc n))) (each (vport m) (suc j) ps)))) other
    ∙ ap rest_of (ap (λ a. input_width_before (identifier_text m (port_identifier a)) (each (vport m) (suc j) ps)) (add-suc j n ∙ sym (suc-add j n))
    ∙ inputs_before m (suc j) ps n p there later)
    ∙ ap (λ w. cond x.is_output (input_width (take n ps)) (w + input_width (take n ps))) (each_ok 0 x refl).1 where
      rest_of : ℕ → ℕ
      rest_of w = cond x.is_output w (range_width (high_of (width x.type)) + w)

      other : same_name (identifier_text m (port_identifier j)) (identifier_text m (port_identifier (j + suc n))) ≡ false
      other = go (same_name (identifier_text m (port_identifier j)) (identifier_text m (port_identifier (j + suc n)))) refl where
        go : (b : Bool) → same_name (identifier_text m (port_identifier j)) (identifier_text m (port_identifier (j + suc n))) ≡ b → b ≡ false
        go false e = refl
        go true e = absurd (let h : 0 ≡ suc n = (each_ok 0 x refl).0 (ap (λ a. identifier_text m (port_identifier a)) (add-zero j)
            ∙ name_from (identifier_text m (port_identifier j)) (identifier_text m (port_identifier (j + suc n))) e) in omega arith)

      later : (a : ℕ) (q : Port) → slice_get ps a ≡ Some q → (identifier_text m (port_identifier (suc j + a)) ≡ identifier_text m (port_identifier (suc j + n)) → a ≡ n) × (range_width (high_of (width q.type)) ≡ width q.type)
      later a q at = let h = each_ok (suc a) q at in
          (λ e. (let g : suc a ≡ suc n = h.0 (ap (λ z. identifier_text m (port_identifier z)) (add-suc j a ∙ sym (suc-add j a)) ∙ e ∙ ap (λ z. identifier_text m (port_identifier z)) (suc-add j n ∙ sym (add-suc j n))) in omega arith), h.1)

module _ (via : Lowering) (d : Design) (x : Setting d) (top : Name) where
  abbrev pub here_path : Path → VPath
  here_path p = vpath_of d top p

  -- a net of the tree by its position and its key
  abbrev pub identifier_drive : Path → Module → Identifier → Drive
  identifier_drive p m k = drive (tree_of via d) (symbol_name d top) (vnet (vpath_of d top p) (identifier_text m k))

  module _ (p : Path) (m : Module) (here : module_at d top p ≡ Some m) where
    symbol_of : Name
    symbol_of = (symbol_at_path via d x top p m here).0

    found_here : find_module d symbol_of ≡ Some m
    unfolding symbol_of
    found_here = (symbol_at_path via d x top p m here).1

    are : AreNames m
    are = names_at_path via d x top p m here

    pub width_here : (k : Identifier) → In k (module_identifiers m) → width_at (vmodule_at (tree_of via d) (symbol_name d top) (vpath_of d top p)) (identifier_text m k) ≡ identifier_width m k
    width_here k within = ap (λ v. width_at v (identifier_text m k)) (vposition via d x top p m here)
        ∙ width_under via x.say d m (module_ok d x symbol_of m found_here) are (result_at_first d x symbol_of m found_here) k within

    pub module_width : (k : Identifier) → In k (module_identifiers m) → width_in (vmodule via d m) (identifier_text m k) ≡ identifier_width m k
    module_width k within = width_under via x.say d m (module_ok d x symbol_of m found_here) are (result_at_first d x symbol_of m found_here) k within

    drive_found : (n : Name) → drive (tree_of via d) (symbol_name d top) (vnet (vpath_of d top p) n) ≡ drive_in (tree_of via d) (symbol_name d top) (vpath_of d top p) (vmodule via d m) n (find_port (vports m) n)
    drive_found n = ap (drive_at (tree_of via d) (symbol_name d top) (vpath_of d top p) n) (vposition via d x top p m here)

    drive_of_identifier : (k : Identifier) → In k (module_identifiers m) → identifier_drive p m k ≡ drive_in (tree_of via d) (symbol_name d top) (vpath_of d top p) (vmodule via d m) (identifier_text m k) (port_value m k)
    drive_of_identifier k within = drive_found (identifier_text m k) ∙ ap (drive_in (tree_of via d) (symbol_name d top) (vpath_of d top p) (vmodule via d m) (identifier_text m k)) (port_under m are k within)

    inner_of_identifier : (k : Identifier) → In k (module_identifiers m) → inner_drive (tree_of via d) (symbol_name d top) (vpath_of d top p) (vmodule via d m) (identifier_text m k)
        ≡ drive_or_nothing (drive_value via d x symbol_of m found_here (symbol_name d top) (vpath_of d top p) k)
    inner_of_identifier k within = drive_under via d x symbol_of m found_here (symbol_name d top) (vpath_of d top p) k within

    pub no_drive_here : (n : Name) → ((k : Identifier) → In k (module_identifiers m) → n ≡ identifier_text m k → ⊥) → drive (tree_of via d) (symbol_name d top) (vnet (vpath_of d top p) n) ≡ nothing
    no_drive_here n never = drive_found n ∙ no_drive_under via d x symbol_of m found_here (symbol_name d top) (vpath_of d top p) n never

    pub drive_net : (i : ℕ) (o : Op) → slice_get m.body i ≡ Some o → emission_of m.ports m.body i o ≡ as_wire → identifier_drive p m (value_identifier i 0) ≡ driven_by (vpath_of d top p) (assigned_expr via m (result i 0))
    drive_net i o there emission =
        drive_of_identifier (value_identifier i 0) (net_in m i o there emission) ∙ inner_of_identifier (value_identifier i 0) (net_in m i o there emission)
        ∙ ap drive_or_nothing (value_by_emission via d x symbol_of m found_here (symbol_name d top) (vpath_of d top p) i 0 o as_wire there emission)

    pub drive_variable : (i : ℕ) (o : Op) → slice_get m.body i ≡ Some o → emission_of m.ports m.body i o ≡ as_reg
        → identifier_drive p m (value_identifier i 0) ≡ held (base d top p + body_state (state d) (take i m.body)) (width_of (result_type o 0))
    drive_variable i o there emission =
        drive_of_identifier (value_identifier i 0) (variable_in m i o there emission) ∙ inner_of_identifier (value_identifier i 0) (variable_in m i o there emission)
        ∙ ap drive_or_nothing (value_by_emission via d x symbol_of m found_here (symbol_name d top) (vpath_of d top p) i 0 o as_reg there emission)
        ∙ ap₂ held (register_base via d x top p m here i o there emission) (variable_width via d x symbol_of m found_here i o there emission)

    pub drive_result : (i k : ℕ) (o : Op) (r : OpResult) (c : Called d m o) → slice_get m.body i ≡ Some o → emission_of m.ports m.body i o ≡ as_instance → slice_get o.results k ≡ Some r
        → (e : OutputAt c.module_of.ports k r.type) → identifier_drive p m (value_identifier i k) ≡ driven_from (vnet (vpath_of d top (number_of m.body i ∷ p)) (identifier_text c.module_of (port_identifier e.position)))
    drive_result i k o r c there emission at e =
        drive_of_identifier (value_identifier i k) (result_in_identifiers m i k o r there emission at) ∙ inner_of_identifier (value_identifier i k) (result_in_identifiers m i k o r there emission at)
        ∙ ap drive_or_nothing (value_of_result via d x symbol_of m found_here (symbol_name d top) (vpath_of d top p) i o c there emission k e.position
        (ap (λ a. output_position a c.module_of.ports) (sym e.number) ∙ (position_of_output c.module_of.ports e.position e.port e.there e.out).0))
        ∙ ap (λ q. driven_from (vnet q (identifier_text c.module_of (port_identifier e.position)))) (sym (inside_instance via d x top p m here i o c there).1)

    pub drive_instance : (i : ℕ) (o : Op) → slice_get m.body i ≡ Some o → emission_of m.ports m.body i o ≡ as_instance → identifier_drive p m (instance_identifier i) ≡ nothing
    drive_instance i o there emission = drive_of_identifier (instance_identifier i) (instance_in_identifiers m i o there emission) ∙ inner_of_identifier (instance_identifier i) (instance_in_identifiers m i o there emission)

    port_here : (j : ℕ) (y : Port) → slice_get m.ports j ≡ Some y
        → identifier_drive p m (port_identifier j) ≡ drive_in (tree_of via d) (symbol_name d top) (vpath_of d top p) (vmodule via d m) (identifier_text m (port_identifier j)) (Some (vport_at m j y))
    port_here j y there = drive_of_identifier (port_identifier j) (port_in m j y there)
        ∙ ap (λ z. drive_in (tree_of via d) (symbol_name d top) (vpath_of d top p) (vmodule via d m) (identifier_text m (port_identifier j)) (option_map (vport_at m j) z)) there

    pub drive_output : (j : ℕ) (y : Port) → slice_get m.ports j ≡ Some y → y.is_output ≡ true
        → identifier_drive p m (port_identifier j) ≡ driven_by (vpath_of d top p) (expr_for (expression m (load_place via)) (slice_get (output_refs m.body) (output_count (take j m.ports))))
    drive_output j y there out =
        port_here j y there
        ∙ ap (λ b. cond b (inner_drive (tree_of via d) (symbol_name d top) (vpath_of d top p) (vmodule via d m) (identifier_text m (port_identifier j)))
        (input_drive (tree_of via d) (symbol_name d top) (vpath_of d top p) (vmodule via d m) (vport_at m j y))) out
        ∙ inner_of_identifier (port_identifier j) (port_in m j y there)
        ∙ ap (λ z. drive_or_nothing (option_and_then (λ (y : Port). cond y.is_output (Some
        (driven_by (vpath_of d top p) (expr_for (expression m (load_place via)) (slice_get (output_refs m.body) (output_count (take j m.ports)))))) None) z)) there
        ∙ ap (λ b. drive_or_nothing (cond b (Some (driven_by (vpath_of d top p) (expr_for (expression m (load_place via)) (slice_get (output_refs m.body) (output_count (take j m.ports)))))) None)) out

    pub drive_input : (j : ℕ) (y : Port) → slice_get m.ports j ≡ Some y → y.is_output ≡ false
        → identifier_drive p m (port_identifier j) ≡ input_drive (tree_of via d) (symbol_name d top) (vpath_of d top p) (vmodule via d m) (vport_at m j y)
    drive_input j y there out =
        port_here j y there
        ∙ ap (λ b. cond b (inner_drive (tree_of via d) (symbol_name d top) (vpath_of d top p) (vmodule via d m) (identifier_text m (port_identifier j)))
        (input_drive (tree_of via d) (symbol_name d top) (vpath_of d top p) (vmodule via d m) (vport_at m j y))) out

  -- an input of the top: its bits of the inputs
  pub drive_top_input : (m : Module) → (here : module_at d top [] ≡ Some m) → (j : ℕ) (y : Port) → slice_get m.ports j ≡ Some y → y.is_output ≡ false
      → identifier_drive [] m (port_identifier j) ≡ input (input_width (take j m.ports)) (width y.type)
  drive_top_input m here j y there out =
      drive_input [] m here j y there out ∙ ap₂ input before (port_width via x.say d m ok names j y there) where
        names : AreNames m
        names = names_at_path via d x top [] m here

        ok : IsExportableModule m
        ok = module_ok d x (symbol_at_path via d x top [] m here).0 m (symbol_at_path via d x top [] m here).1

        ports_ok : (a : ℕ) (q : Port) → slice_get m.ports a ≡ Some q → (identifier_text m (port_identifier (0 + a)) ≡ identifier_text m (port_identifier (0 + j)) → a ≡ j) × (range_width (high_of (width q.type)) ≡ width q.type)
        ports_ok a q at = (same_position, port_width via x.say d m ok names a q at) where
          same_position : identifier_text m (port_identifier (0 + a)) ≡ identifier_text m (port_identifier (0 + j)) → a ≡ j
          same_position e =
              let texts : identifier_text m (port_identifier a) ≡ identifier_text m (port_identifier j) = ap (λ z. identifier_text m (port_identifier z)) (sym (zero-add a)) ∙ e
              ∙ ap (λ z. identifier_text m (port_identifier z)) (zero-add j) in
              let identifiers : port_identifier a ≡ port_identifier j = texts_apart m names (port_identifier a) (port_identifier j) (port_in m a q at) (port_in m j y there) texts in
              let positions : a ≡ j = cc in positions

        before : input_width_before (identifier_text m (port_identifier j)) (vports m) ≡ input_width (take j m.ports)
        before = ap (λ z. input_width_before (identifier_text m (port_identifier z)) (vports m)) (sym (zero-add j)) ∙ inputs_before m 0 m.ports j y there ports_ok

  -- an input further inside: what the instance joins to it
  pub drive_inner_input : (u : ℕ) (p : Path) (m : Module) → (here : module_at d top (u ∷ p) ≡ Some m) → (f : Further via d x top p u m) → (j : ℕ) (y : Port) → slice_get m.ports j ≡ Some y → y.is_output ≡ false
      → identifier_drive (u ∷ p) m (port_identifier j) ≡ driven_by (vpath_of d top p) (expr_for (expression f.outer (own_place via)) (slice_get f.op.operands (input_count (take j m.ports))))
  drive_inner_input u p m here f j y there out =
      drive_input (u ∷ p) m here j y there out
      ∙ ap (λ z. connection_drive (vpath_of d top p) (identifier_text m (port_identifier j)) (option_and_then (λ (v : VModule). find_instance v.items (step_name (module_at d top p) u)) z)) (vposition via d x top p f.outer f.here)
      ∙ ap (λ z. connection_drive (vpath_of d top p) (identifier_text m (port_identifier j)) (find_instance (vitems via d f.outer) z)) step
      ∙ ap (connection_drive (vpath_of d top p) (identifier_text m (port_identifier j))) found
      ∙ ap (λ z. drive_of_connection (vpath_of d top p) (find_connection (connections_to via z f.outer f.position f.op) (identifier_text m (port_identifier j)))) f.called.there
      ∙ joined m f.inside there where
        names : AreNames f.outer
        names = names_at_path via d x top p f.outer f.here

        step : step_name (module_at d top p) u ≡ identifier_text f.outer (instance_identifier f.position)
        step = ap (λ z. step_name z u) f.here ∙ ap (λ i. identifier_text f.outer (instance_identifier i)) f.is_position

        found : find_instance (vitems via d f.outer) (identifier_text f.outer (instance_identifier f.position)) ≡ Some (instance_of_kind via d f.outer f.position f.op f.called.kind)
        found = instance_under via d f.outer names (instance_identifier f.position) (instance_in_identifiers f.outer f.position f.op f.there f.emission)
            ∙ ap (λ z. option_and_then (λ (o : Op). option_map (instance_of_kind via d f.outer f.position o) (instance_in o.kind)) z) f.there
            ∙ ap (option_map (instance_of_kind via d f.outer f.position f.op)) f.called.is_kind

        joined_own : slice_get f.called.module_of.ports j ≡ Some y
            → drive_of_connection (vpath_of d top p) (find_connection (connections_of via f.called.module_of f.outer f.position 0 0 f.called.module_of.ports f.op.operands) (identifier_text f.called.module_of (port_identifier j)))
            ≡ driven_by (vpath_of d top p) (expr_for (expression f.outer (own_place via)) (slice_get f.op.operands (input_count (take j f.called.module_of.ports))))
        joined_own at =
            ap (drive_of_connection (vpath_of d top p))
            (connection_under via f.called.module_of f.outer f.position f.op (x.names f.called.kind.symbol f.called.module_of f.called.there) (port_identifier j) (port_in f.called.module_of j y at)
            ∙ ap (option_map (λ q. connection_of via f.called.module_of f.outer f.position j 0 (take j f.called.module_of.ports) q f.op.operands)) at)
            ∙ ap (λ b. driven_by (vpath_of d top p) (cond b (Rattle.verilog_model.specs.Tree.Expr.name
            (identifier_text f.outer (value_identifier f.position (0 + output_count (take j f.called.module_of.ports)))))
            (expr_for (expression f.outer (own_place via)) (slice_get f.op.operands (input_count (take j f.called.module_of.ports)))))) out

        joined : (z : Module) → f.called.module_of ≡ z → slice_get z.ports j ≡ Some y
            → drive_of_connection (vpath_of d top p) (find_connection (connections_of via f.called.module_of f.outer f.position 0 0 f.called.module_of.ports f.op.operands) (identifier_text z (port_identifier j)))
            ≡ driven_by (vpath_of d top p) (expr_for (expression f.outer (own_place via)) (slice_get f.op.operands (input_count (take j z.ports))))
        joined z same = subst (λ y'. slice_get y'.ports j ≡ Some y → drive_of_connection (vpath_of d top p)
            (find_connection (connections_of via f.called.module_of f.outer f.position 0 0 f.called.module_of.ports f.op.operands) (identifier_text y' (port_identifier j)))
            ≡ driven_by (vpath_of d top p) (expr_for (expression f.outer (own_place via)) (slice_get f.op.operands (input_count (take j y'.ports))))) same joined_own
