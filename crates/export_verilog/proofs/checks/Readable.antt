-- The names of a module's values are known with all their bits, so its expressions meet the checks.
use Rattle.std.proofs.Common.{◌≡◌, ℕ, ◌-◌, ◌<◌, ◌^◌, ◌==◌, nat_le, Bool, true, false, ◌&&◌, cond, List, slice_get, decimal, Some, None, refl, sym, ◌∙◌, ap, ap₂, subst, inl, inr, arith, le-leb, eqb-true, option_and_then, option_map}
use Rattle.wiring.specs.Wiring.{In}
use Rattle.hw_model.specs.Types.{Name, HwType, width}
use Rattle.hw_model.specs.Design.{Ref, Port, OpResult, Op, Module, Design, find_module, result_type}
use Rattle.hw_model.specs.Design.Ref.{port, result}
use Rattle.hw_model.specs.Flat.{width_of}
use Rattle.hw_model.specs.Sound.{type_in, input_type}
use Rattle.verilog_model.specs.Tree.Expr.{name}
use Rattle.verilog_model.specs.Checks.{Declared, find_declared, can_read, has_role, within, has_bit, port_role}
use Rattle.verilog_model.proofs.Numerals.{decimal_number-decimal}
use Rattle.verilog_model.specs.Digits.{high_of}
use Rattle.verilog_expr.specs.Expressions.{value_width}
use Rattle.verilog_expr.proofs.Checked.{IsWell, IsWide}
use Rattle.verilog_expr.proofs.BodiesChecked.{AreKnown, body_well, own_well}
use Rattle.verilog_expr.proofs.Depths.{expressions_hold}
use Rattle.verilog_expr.specs.Values.{gives_values}
use Rattle.verilog_expr.specs.declared.extending.Extending.{Extending}
use Rattle.lowering_options.specs.declared.lowering.Lowering.{Lowering}
use Rattle.export_verilog.specs.Lowerings.{load_place}
use Rattle.export_verilog.specs.Identifiers.{Identifier, Emission, emission_of, identifier_text, module_identifiers, value_name}
use Rattle.export_verilog.specs.Identifiers.Identifier.{port_identifier, value_identifier}
use Rattle.export_verilog.specs.Identifiers.Emission.{inline, as_wire, as_reg, as_instance}
use Rattle.export_verilog.specs.Exported.{expression, assigned_expr}
use Rattle.export_verilog.proofs.names.IdentifierNames.{text_named, name_is_identifier}
use Rattle.export_verilog.proofs.names.IdentifiersOf.{Owner, owner_of, port_in}
use Rattle.export_verilog.proofs.names.IdentifiersOf.Owner.{a_port, a_net, a_variable, an_instance as owns_instance, a_result}
use Rattle.export_verilog.proofs.items.Settings.{Setting, module_ok, one_result_of, result_at_first}
use Rattle.export_verilog.proofs.items.Writable.{NamedAs, named_as, writable}
use Rattle.export_verilog.proofs.behaviour.Sources.{inner_acyclic}
use Rattle.export_verilog.proofs.items.Writable.NamedAs.{by_port, by_value}
use Rattle.export_verilog.proofs.checks.Known.{identifier_word, declared_port, declared_result, result_emission, KnowsAll}

module _ (via : Lowering) (d : Design) (x : Setting d) (s : Name) (m : Module) (is : find_module d s ≡ Some m) (known : List Declared) (knows : KnowsAll d x s m is known) where
  -- what a thing that is no instance is declared as
  pub record IsDeclared (k : Identifier) : Type 0 where
    pub as_it : Declared
    pub found : find_declared known (identifier_text m k) ≡ Some as_it

  pub found_port : (j : ℕ) (p : Port) → slice_get m.ports j ≡ Some p → find_declared known (identifier_text m (port_identifier j)) ≡ Some (declared_port m j p)
  unfolding KnowsAll
  found_port j p there = knows (port_identifier j) (declared_port m j p) (port_in m j p there) (ap (option_map (declared_port m j)) there)

  pub found_result : (i k : ℕ) (o : Op) (r : OpResult) → In (value_identifier i k) (module_identifiers m) → slice_get m.body i ≡ Some o → slice_get o.results k ≡ Some r
      → find_declared known (identifier_text m (value_identifier i k)) ≡ Some (declared_result m i k o r)
  unfolding KnowsAll
  found_result i k o r here there at =
      knows (value_identifier i k) (declared_result m i k o r) here (ap (λ z. option_and_then (λ (q : Op). option_map (declared_result m i k q) (slice_get q.results k)) z) there ∙ ap (option_map (declared_result m i k o)) at)

  readable : (q : Emission) → can_read (result_emission q) ≡ true
  readable inline = refl
  readable as_wire = refl
  readable as_reg = refl
  readable as_instance = refl

  -- the bits of a range
  bit_within : (w k : ℕ) → 1 < w → k < w → w < 2 ^ 64 → within (high_of w) k ≡ true
  bit_within w k many below small = go (w == 1) refl where
    go : (b : Bool) → (w == 1) ≡ b → within (cond b None (Some (decimal (w - 1)))) k ≡ true
    go true one = absurd (let e : w ≡ 1 = eqb-true w 1 one in omega (arith, many, e))
    go false one = ap (λ n. nat_le k n) (decimal_number-decimal (w - 1) (omega (arith, small))) ∙ le-leb k (w - 1) (omega (arith, many, below))

  -- a result of a key, with its operation
  pub record ResultAt (i k : ℕ) : Type 0 where
    pub op : Op
    pub there : slice_get m.body i ≡ Some op
    pub result_of : OpResult
    pub at : slice_get op.results k ≡ Some result_of

  pub result_of_identifier : (i k : ℕ) → In (value_identifier i k) (module_identifiers m) → ResultAt i k
  result_of_identifier i k here = go (owner_of m (value_identifier i k) here) where
    value_positions : (j l : ℕ) → value_identifier i k ≡ value_identifier j l → (j ≡ i) × (l ≡ k)
    value_positions j l e = let f : j ≡ i = cc in let g : l ≡ k = cc in (f, g)

    at_position : (j l : ℕ) (o : Op) (r : OpResult) → slice_get m.body j ≡ Some o → slice_get o.results l ≡ Some r → (j ≡ i) × (l ≡ k) → ResultAt i k
    at_position j l o r there at e = record { op = o; there = ap (slice_get m.body) (sym e.0) ∙ there; result_of = r; at = ap (slice_get o.results) (sym e.1) ∙ at }

    go : Owner m (value_identifier i k) → ResultAt i k
    go (a_port j p there e) = cc
    go (a_net j o there emission e) = let r = result_at_first d x s m is j o there (inl emission) in at_position j 0 o r.0 there r.1 (value_positions j 0 e)
    go (a_variable j o there emission e) = let r = result_at_first d x s m is j o there (inr emission) in at_position j 0 o r.0 there r.1 (value_positions j 0 e)
    go (owns_instance j o there emission e) = cc
    go (a_result j l o r there emission at e) = at_position j l o r there at (value_positions j l e)

  name_well : (k : Identifier) (c : Declared) → In k (module_identifiers m) → find_declared known (identifier_text m k) ≡ Some c → can_read c.role ≡ true → IsWell known (name (identifier_text m k))
  name_well k c here found_so can = record {
    words = identifier_word (identifier_text m k) (name_is_identifier m (x.names s m is) k (identifier_text m k) (text_named m (x.names s m is) k here));
    checks = ap (has_role can_read) found_so ∙ can;
  }

  name_wide : (w : ℕ) (k : Identifier) (c : Declared) → In k (module_identifiers m) → find_declared known (identifier_text m k) ≡ Some c → can_read c.role ≡ true → c.high ≡ high_of w → 1 < w → w < 2 ^ 64
      → IsWide known w (name (identifier_text m k))
  name_wide w k c here found_so can high many small = record {
    called = identifier_text m k;
    same = refl;
    word = identifier_word (identifier_text m k) (name_is_identifier m (x.names s m is) k (identifier_text m k) (text_named m (x.names s m is) k here));
    bits = λ b below. ap (λ o. has_bit o b) found_so ∙ ap₂ (λ p h. p && within h b) can high ∙ bit_within w b many below small;
  }

  -- ---- each name of a value

  width_of_result : (i k : ℕ) (r : ResultAt i k) → value_width m.ports m.body (result i k) ≡ width r.result_of.type
  width_of_result i k r =
      ap (λ o. width_of (option_and_then (λ (q : Op). result_type q k) o)) r.there ∙ ap (λ o. width_of (option_map (λ (q : OpResult). q.type) o)) r.at

  width_of_port : (j : ℕ) (p : Port) → slice_get m.ports j ≡ Some p → p.is_output ≡ false → value_width m.ports m.body (port j) ≡ width p.type
  width_of_port j p there out = ap (λ o. width_of (input_type o)) there ∙ ap (λ b. width_of (cond b None (Some p.type))) out

  names_well : (r : Ref) (n : Name) → value_name m r ≡ Some n → IsWell known (name n)
  names_well r n e = go (named_as d x s m is r n e) where
    go : NamedAs d x s m is n r → IsWell known (name n)
    go (by_port j p there out e f) = subst (λ z. IsWell known (name z)) (sym f) (name_well (port_identifier j) (declared_port m j p) (port_in m j p there) (found_port j p there) (ap (λ b. can_read (port_role b)) out))
    go (by_value i k here e f) = let r = result_of_identifier i k here in
        subst (λ z. IsWell known (name z)) (sym f) (name_well (value_identifier i k) (declared_result m i k r.op r.result_of) here (found_result i k r.op r.result_of here r.there r.at) (readable (emission_of m.ports m.body i r.op)))

  names_wide : (r : Ref) (n : Name) → value_name m r ≡ Some n → 1 < value_width m.ports m.body r → IsWide known (value_width m.ports m.body r) (name n)
  names_wide r n e many = go (named_as d x s m is r n e) where
    small : value_width m.ports m.body r < 2 ^ 64
    small = (module_ok d x s m is).narrow r

    go : NamedAs d x s m is n r → IsWide known (value_width m.ports m.body r) (name n)
    go (by_port j p there out e f) =
        let whole : value_width m.ports m.body r ≡ width p.type = ap (value_width m.ports m.body) e ∙ width_of_port j p there out in
        subst (λ z. IsWide known (value_width m.ports m.body r) (name z)) (sym f)
        (name_wide (value_width m.ports m.body r) (port_identifier j) (declared_port m j p) (port_in m j p there) (found_port j p there) (ap (λ b. can_read (port_role b)) out) (ap high_of (sym whole)) many small)
    go (by_value i k here e f) =
        let q = result_of_identifier i k here in
        let whole : value_width m.ports m.body r ≡ width q.result_of.type = ap (value_width m.ports m.body) e ∙ width_of_result i k q in
        subst (λ z. IsWide known (value_width m.ports m.body r) (name z)) (sym f)
        (name_wide (value_width m.ports m.body r) (value_identifier i k) (declared_result m i k q.op q.result_of) here (found_result i k q.op q.result_of here q.there q.at)
        (readable (emission_of m.ports m.body i q.op)) (ap high_of (sym whole)) many small)

  are_known : AreKnown known (value_name m) m.ports m.body
  are_known = record { well = names_well; wide = names_wide }

  -- ---- expressions

  pub expression_well : (y : Extending) (r : Ref) (t : HwType) → type_in m.ports m.body r ≡ Some t → IsWell known (expression m y r)
  expression_well y r t typed =
      body_well known (value_name m) m.ports m.body (expression m) (writable d x s m is) (inner_acyclic d s m is (one_result_of d x s m is) (x.ok.acyclic s))
      (expressions_hold (value_name m) m.ports m.body (writable d x s m is) (inner_acyclic d s m is (one_result_of d x s m is) (x.ok.acyclic s))) are_known y r t typed

  pub assigned_well : (i k : ℕ) (o : Op) (t : HwType) → slice_get m.body i ≡ Some o → gives_values o ≡ true → result_type o k ≡ Some t → IsWell known (assigned_expr via m (result i k))
  assigned_well i k o t there values typed =
      own_well known (value_name m) m.ports m.body (expression m) (writable d x s m is) (inner_acyclic d s m is (one_result_of d x s m is) (x.ok.acyclic s))
      (expressions_hold (value_name m) m.ports m.body (writable d x s m is) (inner_acyclic d s m is (one_result_of d x s m is) (x.ok.acyclic s))) are_known (load_place via) i k o t there values typed
