-- What the nets of a tree are worth under a map: what their sources give in the design.
use Rattle.std.proofs.Common.{◌≡◌, ℕ, ℤ, ◌+◌, ◌-◌, ◌⊎◌, Bool, true, false, cond, List, [], ◌∷◌, length, drop, map, take, slice_get, Option, Some, None, refl, sym, ◌∙◌, ap, ap₂, subst, inl, inr, arith, option_and_then, option_map}
use Rattle.std.proofs.lemmas.List.{length-drop, length-append}
use Rattle.std.proofs.lemmas.List.{length-replicate}
use Rattle.std.proofs.lemmas.Bool.{false≢true}
use Rattle.wiring.specs.Wiring.{In, IsAcyclic}
use Rattle.wiring.proofs.Members.{map_same}
use Rattle.bits_core.specs.Word.{Word}
use Rattle.bits_core.proofs.First.{length-first}
use Rattle.hw_model.specs.Types.{Name, HwType, width}
use Rattle.hw_model.specs.Kinds.{Kind}
use Rattle.hw_model.specs.Kinds.Kind.{constant, division}
use Rattle.hw_model.specs.Design.{Ref, Port, OpResult, Op, Module, Design, find_module, instance_in, register_form, is_output_kind, result_type, output_refs}
use Rattle.hw_model.specs.Design.Ref.{port, result}
use Rattle.hw_model.specs.Value.{op_value}
use Rattle.hw_model.specs.Flat.{Path, Net, net as at, Source, source, module_at, instances, width_of, base, body_state, state, offset, input_count, input_width, input_of, input_source, copy_of}
use Rattle.hw_model.specs.Flat.{joined_ref, joined_at, port_ref, operand_for, held_of}
use Rattle.hw_model.specs.Flat.Source.{nowhere, input as from_input, held as from_held, copy, op_result}
use Rattle.hw_model.specs.Meaning.{needs_of, value_of}
use Rattle.hw_model.specs.Sound.{type_in, input_type, output_types}
use Rattle.hw_model.proofs.Sorts.{instance_found}
use Rattle.verilog_model.specs.Tree.{Expr}
use Rattle.verilog_model.specs.Expression.{own_value, assigned, extend, low_bits}
use Rattle.verilog_model.specs.Hierarchy.{VNet, vnet, Drive, vmodule_at, width_in, width_at}
use Rattle.verilog_model.specs.Hierarchy.Drive.{nothing, held, expression as driven_by, net as driven_from}
use Rattle.verilog_model.specs.Meaning.{names_at, drive_value}
use Rattle.verilog_expr.specs.Extensions.{is_given}
use Rattle.verilog_expr.specs.declared.extending.Extending.{Extending}
use Rattle.verilog_expr.specs.declared.extending.Extending.TheVariants.{Off}
use Rattle.verilog_expr.specs.Expressions.{value_width, own_expr, AreExprs}
use Rattle.verilog_expr.specs.Spilling.{is_constant_kind, inner_needs}
use Rattle.verilog_expr.specs.Values.{is_division, gives_values, IsWritable, AreNamed, HoldConstants}
use Rattle.verilog_expr.proofs.Own.{extended_full}
use Rattle.verilog_expr.proofs.Assigned.{assigned_long}
use Rattle.verilog_expr.proofs.Bodies.{is_name, is_own, body_absent, body_worth, body_assigned, body_own_assigned, body_asked, map_map}
use Rattle.verilog_expr.proofs.Depths.{expressions_hold}
use Rattle.lowering_options.specs.declared.lowering.Lowering.{Lowering}
use Rattle.lowering_options.specs.declared.lowering.Lowering.TheVariants.{Plain, ImplicitExtension}
use Rattle.export_verilog.specs.Lowerings.{load_place, own_place}
use Rattle.export_verilog.specs.Identifiers.{Identifier, emission_of, module_identifiers, identifier_text, value_name}
use Rattle.export_verilog.specs.Identifiers.Identifier.{port_identifier, value_identifier, instance_identifier}
use Rattle.export_verilog.specs.Identifiers.Emission.{as_wire, as_reg, as_instance}
use Rattle.export_verilog.specs.Exported.{symbol_name, expression, assigned_expr, vmodule, tree_of}
use Rattle.export_verilog.proofs.names.IdentifiersOf.{Owner, owner_of, made_of_emission, register_of_emission, instance_of_emission, port_in}
use Rattle.export_verilog.proofs.names.IdentifiersOf.Owner.{a_port, a_net, a_variable, an_instance, a_result}
use Rattle.export_verilog.proofs.items.Items.{output_count, expr_for}
use Rattle.export_verilog.proofs.items.Lookups.{identifier_width}
use Rattle.export_verilog.proofs.items.Settings.{Setting, Called, module_sound, called_by_emission, one_result_of, first_result, callee_is}
use Rattle.export_verilog.proofs.items.Drives.{OutputAt, output_of_number}
use Rattle.export_verilog.proofs.behaviour.Sources.{register_from, instance_from, made_from, inner_acyclic}
use Rattle.export_verilog.proofs.items.Writable.{NamedAs, named_as, writable}
use Rattle.export_verilog.proofs.items.Writable.NamedAs.{by_port, by_value}
use Rattle.export_verilog.proofs.behaviour.Positions.{number_of, vpath_of, symbol_at_path, Further, further, vposition, inside_instance}
use Rattle.export_verilog.proofs.behaviour.Nets.{identifier_drive, module_width, drive_net, drive_variable, drive_result, drive_instance, drive_output, drive_top_input, drive_inner_input}
use Rattle.export_verilog.proofs.items.Operands.{output_ref_at, operand_at, output_type_at}

-- ---- words

pub low_long : (k : ℕ) (s : Bool) (w : Word) → length (low_bits k (extend k s w)) ≡ k
low_long k s w =
    let e : length (extend k s w) ≡ (k - length w) + length w = length-append _ w ∙ ap (λ n. n + length w) (length-replicate (k - length w) _) in
    omega (arith, length-drop (length (extend k s w) - k) (extend k s w))

pub low_all : (k : ℕ) (w : Word) → length w ≡ k → low_bits k w ≡ w
low_all k w size = let none : length w - k ≡ 0 = omega arith in ap (λ n. drop n w) none

pub low_whole : (k : ℕ) (w : Word) → length w ≡ k → low_bits k (extend k false w) ≡ w
low_whole k w size = ap (low_bits k) (extended_full k false w size) ∙ low_all k w size

pub constant_form : (k : Kind) (z : ℤ) → k ≡ constant z → (register_form k ≡ None) × (instance_in k ≡ None) × (is_division k ≡ false)
constant_form k z e = (ap register_form e, ap instance_in e, ap is_division e)

-- a condition's context gives no width
not_given : (via : Lowering) → is_given (own_place via) ≡ false
not_given Plain = refl
not_given ImplicitExtension = refl

division_no_constant : (k : Kind) → is_division k ≡ true → is_constant_kind k ≡ false
division_no_constant (division e) is = refl
division_no_constant _ is = absurd (false≢true is)

pub made_gives : (o : Op) → register_form o.kind ≡ None → instance_in o.kind ≡ None → is_output_kind o.kind ≡ false → gives_values o ≡ true
made_gives o r n u = simp (r, n, u)

module _ (via : Lowering) (d : Design) (x : Setting d) (top : Name) (inputs content : Word) where
  -- ---- at a position

  -- the value of a module's value, as its expression says it
  abbrev pub own : (VNet → Word) → Path → Module → Ref → Word
  own σ p m r = own_value (width_in (vmodule via d m)) (names_at (vpath_of d top p) σ) (expression m Off r)

  -- what drives a thing's net gives
  abbrev pub given : (VNet → Word) → Path → Module → Identifier → Word
  given σ p m k = drive_value (tree_of via d) (symbol_name d top) inputs content σ (identifier_width m k) (identifier_drive via d x top p m k)

  -- what the source of a net gives
  abbrev pub evaluated : (Net → Word) → Path → Ref → Word
  evaluated τ p r = value_of inputs content (source d top (at p r)) (map τ (needs_of (source d top (at p r))))

  pub evaluated_as : (τ : Net → Word) (p : Path) (r : Ref) (s : Source) → source d top (at p r) ≡ s → evaluated τ p r ≡ value_of inputs content s (map τ (needs_of s))
  evaluated_as τ p r s e = ap (λ z. value_of inputs content z (map τ (needs_of z))) e

  -- the names have words of their widths
  abbrev pub HaveWords : (VNet → Word) → Type 0
  HaveWords σ = (p : Path) (m : Module) → module_at d top p ≡ Some m → (k : Identifier) → In k (module_identifiers m) → length (σ (vnet (vpath_of d top p) (identifier_text m k))) ≡ identifier_width m k

  pub record IsGood (σ : VNet → Word) : Type 0 where
    pub words : HaveWords σ
    pub constants : (p : Path) (m : Module) → module_at d top p ≡ Some m → HoldConstants (value_name m) m.body (names_at (vpath_of d top p) σ)

  module _ (p : Path) (m : Module) (here : module_at d top p ≡ Some m) where
    abbrev pub symbol_there : Name
    symbol_there = (symbol_at_path via d x top p m here).0

    pub found_there : find_module d (symbol_at_path via d x top p m here).0 ≡ Some m
    found_there = (symbol_at_path via d x top p m here).1

    pub can_write : IsWritable (value_name m) m.ports m.body
    can_write = writable d x symbol_there m found_there

    no_inner_cycle : IsAcyclic (inner_needs m.body)
    no_inner_cycle = inner_acyclic d symbol_there m found_there (one_result_of d x symbol_there m found_there) (x.ok.acyclic symbol_there)

    are_exprs : AreExprs (value_name m) m.ports m.body (expression m)
    are_exprs = expressions_hold (value_name m) m.ports m.body can_write no_inner_cycle

    pub port_width_is : (j : ℕ) (y : Port) → slice_get m.ports j ≡ Some y → identifier_width m (port_identifier j) ≡ width y.type
    port_width_is j y there = ap (λ z. width_of (option_map (λ (q : Port). q.type) z)) there

    pub input_width_is : (j : ℕ) (y : Port) → slice_get m.ports j ≡ Some y → y.is_output ≡ false → value_width m.ports m.body (port j) ≡ width y.type
    input_width_is j y there inward = ap (λ z. width_of (input_type z)) there ∙ ap (λ b. width_of (cond b None (Some y.type))) inward

    pub result_width_is : (i k : ℕ) (o : Op) (t : HwType) → slice_get m.body i ≡ Some o → result_type o k ≡ Some t → identifier_width m (value_identifier i k) ≡ width t
    result_width_is i k o t there typed = ap (λ z. width_of (option_and_then (λ (o : Op). result_type o k) z)) there ∙ ap width_of typed

    module _ (σ : VNet → Word) (words : HaveWords σ) where
      names_fit : AreNamed (value_name m) m.ports m.body (width_in (vmodule via d m)) (names_at (vpath_of d top p) σ)
      names_fit = record {
        long = λ r n e. by_long r n (named_as d x symbol_there m found_there r n e);
        worth = λ r n e. by_word r n (named_as d x symbol_there m found_there r n e);
      }
        where
          by_long : (r : Ref) (n : Name) → NamedAs d x symbol_there m found_there n r → width_in (vmodule via d m) n ≡ value_width m.ports m.body r
          by_long r n (by_port j y there inward same called) = ap (width_in (vmodule via d m)) called ∙ module_width via d x top p m here (port_identifier j) (port_in m j y there)
              ∙ port_width_is j y there ∙ sym (ap (value_width m.ports m.body) same ∙ input_width_is j y there inward)
          by_long r n (by_value i k within same called) = ap (width_in (vmodule via d m)) called ∙ module_width via d x top p m here (value_identifier i k) within
              ∙ sym (ap (value_width m.ports m.body) same)

          by_word : (r : Ref) (n : Name) → NamedAs d x symbol_there m found_there n r → length (σ (vnet (vpath_of d top p) n)) ≡ value_width m.ports m.body r
          by_word r n (by_port j y there inward same called) = ap (λ z. length (σ (vnet (vpath_of d top p) z))) called ∙ words p m here (port_identifier j) (port_in m j y there)
              ∙ port_width_is j y there ∙ sym (ap (value_width m.ports m.body) same ∙ input_width_is j y there inward)
          by_word r n (by_value i k within same called) = ap (λ z. length (σ (vnet (vpath_of d top p) z))) called ∙ words p m here (value_identifier i k) within
              ∙ sym (ap (value_width m.ports m.body) same)

      -- a named value is its name's word
      pub own_named : (r : Ref) (n : Name) → value_name m r ≡ Some n → own σ p m r ≡ σ (vnet (vpath_of d top p) n)
      own_named r n e =
          ap (own_value (width_in (vmodule via d m)) (names_at (vpath_of d top p) σ)) (is_name (value_name m) m.ports m.body (expression m) (width_in (vmodule via d m)) (names_at (vpath_of d top p) σ) are_exprs Off r n e)
          ∙ extended_full (width_in (vmodule via d m) n) false (σ (vnet (vpath_of d top p) n)) (names_fit.worth r n e ∙ sym (names_fit.long r n e))

      -- what has neither type nor name has no bits
      pub own_absent : (r : Ref) → type_in m.ports m.body r ≡ None → value_name m r ≡ None → own σ p m r ≡ []
      own_absent r none unnamed = body_absent (value_name m) m.ports m.body (expression m) (width_in (vmodule via d m)) (names_at (vpath_of d top p) σ) are_exprs r none unnamed

      -- an assignment to a name of as many bits, however zero extensions are written
      pub assigned_in_place : HoldConstants (value_name m) m.body (names_at (vpath_of d top p) σ) → (y : Extending) (k : ℕ) (r : Ref) → value_width m.ports m.body r ≡ k
          → assigned (width_in (vmodule via d m)) (names_at (vpath_of d top p) σ) k (expression m y r) ≡ own σ p m r
      assigned_in_place hold y k r size =
          ap (λ w. assigned (width_in (vmodule via d m)) (names_at (vpath_of d top p) σ) w (expression m y r)) (sym size)
          ∙ body_assigned (value_name m) m.ports m.body (expression m) (width_in (vmodule via d m)) (names_at (vpath_of d top p) σ) can_write no_inner_cycle are_exprs names_fit hold y r

      pub assigned_own : HoldConstants (value_name m) m.body (names_at (vpath_of d top p) σ) → (y : Extending) (k : ℕ) (r : Ref) → value_width m.ports m.body r ≡ k
          → drive_value (tree_of via d) (symbol_name d top) inputs content σ k (driven_by (vpath_of d top p) (expression m y r)) ≡ own σ p m r
      assigned_own hold y k r size =
          ap (λ v. assigned (width_at v) (names_at (vpath_of d top p) σ) k (expression m y r)) (vposition via d x top p m here)
          ∙ assigned_in_place hold y k r size

      -- a condition
      pub asked_own : HoldConstants (value_name m) m.body (names_at (vpath_of d top p) σ) → (r : Ref)
          → own_value (width_in (vmodule via d m)) (names_at (vpath_of d top p) σ) (expression m (own_place via) r) ≡ own σ p m r
      asked_own hold r =
          body_asked (value_name m) m.ports m.body (expression m) (width_in (vmodule via d m)) (names_at (vpath_of d top p) σ) can_write no_inner_cycle are_exprs names_fit hold
          (own_place via) r (not_given via)

      -- what is assigned to a made value, with all zeros written
      abbrev pub plain_expr : Ref → Expr
      plain_expr r = own_expr (value_name m) m.ports m.body (expression m) Off r

      -- the value of a made operation
      pub made_worth : (i k : ℕ) (o : Op) (t : HwType) → slice_get m.body i ≡ Some o → gives_values o ≡ true → result_type o k ≡ Some t
          → (is_division o.kind ≡ true → HoldConstants (value_name m) m.body (names_at (vpath_of d top p) σ))
          → own_value (width_in (vmodule via d m)) (names_at (vpath_of d top p) σ) (plain_expr (result i k)) ≡ op_value o.kind o.types t k (map (own σ p m) o.operands)
      made_worth i k o t there gives typed hold =
          body_worth (value_name m) m.ports m.body (expression m) (width_in (vmodule via d m)) (names_at (vpath_of d top p) σ) can_write no_inner_cycle are_exprs names_fit i k o t there gives typed hold

      -- what its assignment gives
      pub assigned_made : (i : ℕ) (o : Op) (t : HwType) → slice_get m.body i ≡ Some o → gives_values o ≡ true → result_type o 0 ≡ Some t
          → (is_constant_kind o.kind ≡ false → HoldConstants (value_name m) m.body (names_at (vpath_of d top p) σ))
          → assigned (width_in (vmodule via d m)) (names_at (vpath_of d top p) σ) (width t) (assigned_expr via m (result i 0)) ≡ op_value o.kind o.types t 0 (map (own σ p m) o.operands)
      assigned_made i o t there gives typed hold =
          body_own_assigned (value_name m) m.ports m.body (expression m) (width_in (vmodule via d m)) (names_at (vpath_of d top p) σ) can_write no_inner_cycle are_exprs names_fit
          (load_place via) i 0 o t there gives typed hold
          ∙ made_worth i 0 o t there gives typed (λ division. hold (division_no_constant o.kind division))

      pub own_unnamed : (r : Ref) → value_name m r ≡ None → own σ p m r ≡ own_value (width_in (vmodule via d m)) (names_at (vpath_of d top p) σ) (plain_expr r)
      own_unnamed r e = ap (own_value (width_in (vmodule via d m)) (names_at (vpath_of d top p) σ))
          (is_own (value_name m) m.ports m.body (expression m) (width_in (vmodule via d m)) (names_at (vpath_of d top p) σ) are_exprs Off r e)

      -- what drives the wire of a made operation
      pub net_given : (i : ℕ) (o : Op) (t : HwType) → slice_get m.body i ≡ Some o → emission_of m.ports m.body i o ≡ as_wire → result_type o 0 ≡ Some t
          → (is_constant_kind o.kind ≡ false → HoldConstants (value_name m) m.body (names_at (vpath_of d top p) σ))
          → given σ p m (value_identifier i 0) ≡ op_value o.kind o.types t 0 (map (own σ p m) o.operands)
      net_given i o t there emission typed hold =
          let h = made_of_emission m.ports m.body i o emission in
          let gives : gives_values o ≡ true = made_gives o h.0 h.1 h.2 in
          ap₂ (λ w z. drive_value (tree_of via d) (symbol_name d top) inputs content σ w z) (result_width_is i 0 o t there typed) (drive_net via d x top p m here i o there emission)
          ∙ ap (λ v. assigned (width_at v) (names_at (vpath_of d top p) σ) (width t) (assigned_expr via m (result i 0))) (vposition via d x top p m here)
          ∙ assigned_made i o t there gives typed hold

    -- what drives a thing's net gives as many bits as it has
    pub given_long : (σ : VNet → Word) (k : Identifier) → In k (module_identifiers m) → length (given σ p m k) ≡ identifier_width m k
    given_long σ k within = go (owner_of m k within) where
      by_drive : (l : Identifier) → k ≡ l → (w : Drive) → identifier_drive via d x top p m l ≡ w → length (drive_value (tree_of via d) (symbol_name d top) inputs content σ (identifier_width m l) w)
          ≡ identifier_width m l → length (given σ p m k) ≡ identifier_width m k
      by_drive l same w drives long = ap (λ z. length (given σ p m z)) same ∙ ap (λ z. length (drive_value (tree_of via d) (symbol_name d top) inputs content σ (identifier_width m l) z)) drives
          ∙ long ∙ sym (ap (identifier_width m) same)

      input_long : (p' : Path) → p ≡ p' → (here' : module_at d top p' ≡ Some m) → (j : ℕ) (y : Port) → slice_get m.ports j ≡ Some y → y.is_output ≡ false → k ≡ port_identifier j
          → length (given σ p' m k) ≡ identifier_width m k
      input_long [] same_path here' j y there inward same =
          ap (λ z. length (given σ [] m z)) same ∙ ap (λ z. length (drive_value (tree_of via d) (symbol_name d top) inputs content σ (identifier_width m (port_identifier j)) z)) (drive_top_input via d x top m here' j y there inward)
          ∙ length-first (width y.type) (drop (input_width (take j m.ports)) inputs) ∙ sym (port_width_is j y there) ∙ sym (ap (identifier_width m) same)
      input_long (u ∷ q) same_path here' j y there inward same =
          let f = further via d x top u q m here' in
          ap (λ z. length (given σ (u ∷ q) m z)) same
          ∙ ap (λ z. length (drive_value (tree_of via d) (symbol_name d top) inputs content σ (identifier_width m (port_identifier j)) z)) (drive_inner_input via d x top u q m here' f j y there inward)
          ∙ assigned_long (width_at (vmodule_at (tree_of via d) (symbol_name d top) (vpath_of d top q))) (names_at (vpath_of d top q) σ) (identifier_width m (port_identifier j))
          (expr_for (expression f.outer (own_place via)) (slice_get f.op.operands (input_count (take j m.ports)))) ∙ sym (ap (identifier_width m) same)

      by_way : (j : ℕ) (y : Port) → slice_get m.ports j ≡ Some y → (b : Bool) → y.is_output ≡ b → k ≡ port_identifier j → length (given σ p m k) ≡ identifier_width m k
      by_way j y there true out same = by_drive (port_identifier j) same (driven_by (vpath_of d top p)
          (expr_for (expression m (load_place via)) (slice_get (output_refs m.body) (output_count (take j m.ports))))) (drive_output via d x top p m here j y there out)
          (assigned_long (width_at (vmodule_at (tree_of via d) (symbol_name d top) (vpath_of d top p))) (names_at (vpath_of d top p) σ) (identifier_width m (port_identifier j))
          (expr_for (expression m (load_place via)) (slice_get (output_refs m.body) (output_count (take j m.ports)))))
      by_way j y there false out same = input_long p refl here j y there out same

      go : Owner m k → length (given σ p m k) ≡ identifier_width m k
      go (a_port j y there same) = by_way j y there y.is_output refl same
      go (a_net i o there emission same) = by_drive (value_identifier i 0) same (driven_by (vpath_of d top p) (assigned_expr via m (result i 0))) (drive_net via d x top p m here i o there emission)
          (assigned_long (width_at (vmodule_at (tree_of via d) (symbol_name d top) (vpath_of d top p))) (names_at (vpath_of d top p) σ) (identifier_width m (value_identifier i 0)) (assigned_expr via m (result i 0)))
      go (a_variable i o there emission same) = by_drive (value_identifier i 0) same (held (base d top p + body_state (state d) (take i m.body)) (width_of (result_type o 0))) (drive_variable via d x top p m here i o there emission)
          (length-first (width_of (result_type o 0)) (drop (base d top p + body_state (state d) (take i m.body)) content) ∙ sym (ap (λ z. width_of (option_and_then (λ (o : Op). result_type o 0) z)) there))
      go (an_instance i o there emission same) = by_drive (instance_identifier i) same nothing (drive_instance via d x top p m here i o there emission) refl
      go (a_result i l o r there emission found same) =
          let c = called_by_emission d x symbol_there m found_there i o there emission in
          let typed : slice_get (output_types c.module_of.ports) l ≡ Some r.type = output_type_at d m o c l ∙ ap (option_map (λ (z : OpResult). z.type)) found in
          let e = output_of_number c.module_of.ports l r.type typed in
          by_drive (value_identifier i l) same (driven_from (vnet (vpath_of d top (number_of m.body i ∷ p)) (identifier_text c.module_of (port_identifier e.position)))) (drive_result via d x top p m here i l o r c there emission found e)
          (low_long (identifier_width m (value_identifier i l)) false (σ (vnet (vpath_of d top (number_of m.body i ∷ p)) (identifier_text c.module_of (port_identifier e.position)))))

  -- what is joined to an input port
  pub joined_is : (u : ℕ) (p : Path) (m : Module) → (f : Further via d x top p u m) → (j : ℕ) (z : Option Ref)
      → operand_for (slice_get m.ports j) f.op.operands (input_count (take j m.ports)) ≡ z → source d top (at (u ∷ p) (port j)) ≡ copy_of p z
  joined_is u p m f j z joins =
      ap (copy_of p) (ap (λ y. option_and_then (joined_at d u j) y) f.here
      ∙ ap (λ y. option_and_then (joined_ref d j) y) instance_is
      ∙ ap (λ y. option_and_then (λ (c : Module). port_ref c.ports f.op.operands j) y) (callee_is d f.outer f.op f.called)
      ∙ ap (λ (c : Module). port_ref c.ports f.op.operands j) f.inside ∙ joins) where
        instance_is : slice_get (instances f.outer.body) u ≡ Some f.op
        instance_is = ap (slice_get (instances f.outer.body)) (sym f.is_number) ∙ instance_found f.outer.body f.position f.op f.called.kind f.there f.called.is_kind

  -- ---- under two maps that agree

  module _ (σ : VNet → Word) (good : IsGood σ) (τ : Net → Word) where
    -- an output port of an inner module shows what its module gives to it
    abbrev pub ShowOutputs : Type 0
    ShowOutputs = (p : Path) (m : Module) → module_at d top p ≡ Some m → (j : ℕ) (y : Port) (r : Ref) → slice_get m.ports j ≡ Some y → y.is_output ≡ true
        → slice_get (output_refs m.body) (output_count (take j m.ports)) ≡ Some r → σ (vnet (vpath_of d top p) (identifier_text m (port_identifier j))) ≡ τ (at p r)

    operands_agree : (p : Path) (m : Module) (rs : List Ref) → ((r : Ref) → In r rs → own σ p m r ≡ τ (at p r)) → map (own σ p m) rs ≡ map τ (map (at p) rs)
    operands_agree p m rs same = map_same (own σ p m) (λ r. τ (at p r)) rs same ∙ sym (map_map (at p) τ rs)

    -- an output port
    pub output_agrees : (p : Path) (m : Module) (here : module_at d top p ≡ Some m) (j : ℕ) (y : Port) (r : Ref) → slice_get m.ports j ≡ Some y → y.is_output ≡ true
        → slice_get (output_refs m.body) (output_count (take j m.ports)) ≡ Some r → given σ p m (port_identifier j) ≡ own σ p m r
    output_agrees p m here j y r there out gives =
        let o = output_ref_at d m (module_sound d x (symbol_there p m here) m (found_there p m here)) j y there out in
        let same : Some o.0 ≡ Some r = sym o.1 ∙ gives in
        let refs : o.0 ≡ r = cc in
        let typed : type_in m.ports m.body r ≡ Some y.type = ap (type_in m.ports m.body) (sym refs) ∙ o.2 in
        ap₂ (λ w z. drive_value (tree_of via d) (symbol_name d top) inputs content σ w z) (port_width_is p m here j y there) (drive_output via d x top p m here j y there out)
        ∙ ap (λ z. drive_value (tree_of via d) (symbol_name d top) inputs content σ (width y.type) (driven_by (vpath_of d top p) (expr_for (expression m (load_place via)) z))) gives
        ∙ assigned_own p m here σ good.words (good.constants p m here) (load_place via) (width y.type) r (ap width_of typed)

    top_input_agrees : (m : Module) (here : module_at d top [] ≡ Some m) (j : ℕ) (y : Port) → slice_get m.ports j ≡ Some y → y.is_output ≡ false
        → given σ [] m (port_identifier j) ≡ evaluated τ [] (port j)
    top_input_agrees m here j y there inward =
        ap (drive_value (tree_of via d) (symbol_name d top) inputs content σ (identifier_width m (port_identifier j))) (drive_top_input via d x top m here j y there inward)
        ∙ sym (evaluated_as τ [] (port j) (from_input (input_width (take j m.ports)) (width y.type))
        (ap (input_source j) here ∙ ap (λ z. input_of z (input_width (take j m.ports))) there ∙ ap (λ b. cond b nowhere (from_input (input_width (take j m.ports)) (width y.type))) inward))

    inner_input_agrees : (u : ℕ) (p : Path) (m : Module) (here : module_at d top (u ∷ p) ≡ Some m) (f : Further via d x top p u m) (j : ℕ) (y : Port) → slice_get m.ports j ≡ Some y → y.is_output ≡ false
        → ((r : Ref) → own σ p f.outer r ≡ τ (at p r)) → given σ (u ∷ p) m (port_identifier j) ≡ evaluated τ (u ∷ p) (port j)
    inner_input_agrees u p m here f j y there inward own_is =
        let o = operand in
        ap₂ (λ w z. drive_value (tree_of via d) (symbol_name d top) inputs content σ w z) (port_width_is (u ∷ p) m here j y there) (drive_inner_input via d x top u p m here f j y there inward)
        ∙ ap (λ z. drive_value (tree_of via d) (symbol_name d top) inputs content σ (width y.type) (driven_by (vpath_of d top p) (expr_for (expression f.outer (own_place via)) z))) o.1
        ∙ assigned_own p f.outer f.here σ good.words (good.constants p f.outer f.here) (own_place via) (width y.type) o.0 (ap width_of o.2)
        ∙ own_is o.0
        ∙ sym (evaluated_as τ (u ∷ p) (port j) (copy (at p o.0)) (joined_is u p m f j (Some o.0)
        (ap (λ z. operand_for z f.op.operands (input_count (take j m.ports))) there ∙ ap (λ b. cond b None (slice_get f.op.operands (input_count (take j m.ports)))) inward ∙ o.1))) where
          operand : (r : Ref) × (slice_get f.op.operands (input_count (take j m.ports)) ≡ Some r) × (type_in f.outer.ports f.outer.body r ≡ Some y.type)
          operand = subst (λ c. slice_get c.ports j ≡ Some y → (r : Ref) × (slice_get f.op.operands (input_count (take j c.ports)) ≡ Some r) × (type_in f.outer.ports f.outer.body r ≡ Some y.type)) f.inside
              (λ h. operand_at d f.outer f.op f.called j y h inward) there

    first_type : (p : Path) (m : Module) (here : module_at d top p ≡ Some m) (i : ℕ) (o : Op) → slice_get m.body i ≡ Some o
        → (emission_of m.ports m.body i o ≡ as_wire) ⊎ (emission_of m.ports m.body i o ≡ as_reg) → (t : HwType) × (result_type o 0 ≡ Some t)
    first_type p m here i o there emission = let h = first_result d x (symbol_there p m here) m (found_there p m here) i o there emission in
        (h.0.type, ap (λ rs. option_map (λ (z : OpResult). z.type) (slice_get rs 0)) h.1)

    net_agrees : (p : Path) (m : Module) (here : module_at d top p ≡ Some m) (i : ℕ) (o : Op) → slice_get m.body i ≡ Some o → emission_of m.ports m.body i o ≡ as_wire
        → ((r : Ref) → own σ p m r ≡ τ (at p r)) → given σ p m (value_identifier i 0) ≡ evaluated τ p (result i 0)
    net_agrees p m here i o there emission own_is =
        let t = first_type p m here i o there (inl emission) in
        let h = made_of_emission m.ports m.body i o emission in
        net_given p m here σ good.words i o t.0 there emission t.1 (λ e. good.constants p m here)
        ∙ ap (op_value o.kind o.types t.0 0) (operands_agree p m o.operands (λ r within. own_is r))
        ∙ sym (evaluated_as τ p (result i 0) (op_result o.kind o.types t.0 0 (map (at p) o.operands)) (made_from d top p m here i 0 o t.0 there h.0 h.1 h.2 t.1))

    variable_agrees : (p : Path) (m : Module) (here : module_at d top p ≡ Some m) (i : ℕ) (o : Op) → slice_get m.body i ≡ Some o → emission_of m.ports m.body i o ≡ as_reg
        → given σ p m (value_identifier i 0) ≡ evaluated τ p (result i 0)
    variable_agrees p m here i o there emission =
        let t = first_type p m here i o there (inr emission) in
        let h = register_of_emission m.ports m.body i o emission in
        ap (drive_value (tree_of via d) (symbol_name d top) inputs content σ (identifier_width m (value_identifier i 0)))
        (drive_variable via d x top p m here i o there emission ∙ ap (λ z. held (base d top p + body_state (state d) (take i m.body)) (width_of z)) t.1)
        ∙ sym (evaluated_as τ p (result i 0) (from_held (offset d top p m i) (width t.0))
        (register_from d top p m here i 0 o h.0 there h.1 ∙ ap (held_of (offset d top p m i)) t.1))

    result_agrees : (p : Path) (m : Module) (here : module_at d top p ≡ Some m) (i k : ℕ) (o : Op) (r : OpResult) → slice_get m.body i ≡ Some o → emission_of m.ports m.body i o ≡ as_instance
        → slice_get o.results k ≡ Some r → ShowOutputs → given σ p m (value_identifier i k) ≡ evaluated τ p (result i k)
    result_agrees p m here i k o r there emission found shows =
        let c = called_by_emission d x (symbol_there p m here) m (found_there p m here) i o there emission in
        let typed : slice_get (output_types c.module_of.ports) k ≡ Some r.type = output_type_at d m o c k ∙ ap (option_map (λ (z : OpResult). z.type)) found in
        by_output c (output_of_number c.module_of.ports k r.type typed) where
          by_output : (c : Called d m o) → OutputAt c.module_of.ports k r.type → given σ p m (value_identifier i k) ≡ evaluated τ p (result i k)
          by_output c e =
              let inside = inside_instance via d x top p m here i o c there in
              let g = output_ref_at d c.module_of (module_sound d x c.kind.symbol c.module_of c.there) e.position e.port e.there e.out in
              let w : identifier_width m (value_identifier i k) ≡ width r.type = result_width_is p m here i k o r.type there (ap (option_map (λ (z : OpResult). z.type)) found) in
              let long : length (σ (vnet (vpath_of d top (number_of m.body i ∷ p)) (identifier_text c.module_of (port_identifier e.position)))) ≡ width r.type =
              good.words (number_of m.body i ∷ p) c.module_of inside.0 (port_identifier e.position) (port_in c.module_of e.position e.port e.there)
              ∙ port_width_is (number_of m.body i ∷ p) c.module_of inside.0 e.position e.port e.there ∙ ap width e.type in
              let k' = instance_of_emission m.ports m.body i o emission in
              ap₂ (λ w z. drive_value (tree_of via d) (symbol_name d top) inputs content σ w z) w (drive_result via d x top p m here i k o r c there emission found e)
              ∙ low_whole (width r.type) (σ (vnet (vpath_of d top (number_of m.body i ∷ p)) (identifier_text c.module_of (port_identifier e.position)))) long
              ∙ shows (number_of m.body i ∷ p) c.module_of inside.0 e.position e.port g.0 e.there e.out g.1
              ∙ sym (evaluated_as τ p (result i k) (copy (at (number_of m.body i ∷ p) g.0))
              (instance_from d top p m here i k o k'.0 there k'.1 k'.2
              ∙ ap (copy_of (number_of m.body i ∷ p)) (ap (λ y. option_and_then (λ (c : Module). slice_get (output_refs c.body) k) y) (callee_is d m o c)
              ∙ ap (slice_get (output_refs c.module_of.body)) (sym e.number) ∙ g.1)))

    -- a named value
    pub value_agrees : ((p : Path) (m : Module) → module_at d top p ≡ Some m → (r : Ref) → own σ p m r ≡ τ (at p r)) → ShowOutputs
        → (p : Path) (m : Module) (here : module_at d top p ≡ Some m) (k : Identifier) (r : Ref) → In k (module_identifiers m)
        → ((j : ℕ) (y : Port) → slice_get m.ports j ≡ Some y → k ≡ port_identifier j → (y.is_output ≡ false) × (r ≡ port j))
        → ((i l : ℕ) → k ≡ value_identifier i l → r ≡ result i l) → ((i : ℕ) → k ≡ instance_identifier i → ⊥)
        → given σ p m k ≡ evaluated τ p r
    value_agrees own_is shows p m here k r within as_port as_value no_instance = go (owner_of m k within) where
      moved : (l : Identifier) (z : Ref) → k ≡ l → r ≡ z → given σ p m l ≡ evaluated τ p z → given σ p m k ≡ evaluated τ p r
      moved l z same refs e = ap (given σ p m) same ∙ e ∙ ap (evaluated τ p) (sym refs)

      by_path : (q : Path) → (here' : module_at d top q ≡ Some m) (j : ℕ) (y : Port) → slice_get m.ports j ≡ Some y → y.is_output ≡ false → given σ q m (port_identifier j) ≡ evaluated τ q (port j)
      by_path [] here' j y there inward = top_input_agrees m here' j y there inward
      by_path (u ∷ q) here' j y there inward = let f = further via d x top u q m here' in
          inner_input_agrees u q m here' f j y there inward (λ r. own_is q f.outer f.here r)

      go : Owner m k → given σ p m k ≡ evaluated τ p r
      go (a_port j y there same) = let h = as_port j y there same in moved (port_identifier j) (port j) same h.1 (by_path p here j y there h.0)
      go (a_net i o there emission same) = moved (value_identifier i 0) (result i 0) same (as_value i 0 same) (net_agrees p m here i o there emission (own_is p m here))
      go (a_variable i o there emission same) = moved (value_identifier i 0) (result i 0) same (as_value i 0 same) (variable_agrees p m here i o there emission)
      go (an_instance i o there emission same) = absurd (no_instance i same)
      go (a_result i l o y there emission found same) = moved (value_identifier i l) (result i l) same (as_value i l same) (result_agrees p m here i l o y there emission found shows)
