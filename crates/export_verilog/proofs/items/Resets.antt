-- Asynchronous resets of an exportable design: the signal is an input port that has a mark, the value a constant's.
use Rattle.std.proofs.Common.{◌≡◌, ℕ, ℤ, true, false, slice_get, Some, refl, sym, ◌∙◌, ap, option_and_then}
use Rattle.wiring.specs.Wiring.{In}
use Rattle.wiring.proofs.Options.{option_map_some}
use Rattle.hw_model.specs.Types.{Name, HwType}
use Rattle.hw_model.specs.Kinds.{Kind}
use Rattle.hw_model.specs.Kinds.Kind.{constant, aggregate_constant}
use Rattle.hw_model.specs.Design.{Ref, Port, OpResult, Op, Module, Design, find_module, instance_in, register_form, is_output_kind, result_type}
use Rattle.hw_model.specs.Design.Ref.{port, result}
use Rattle.hw_model.specs.Flat.{ResetBy, async_reset_in}
use Rattle.hw_model.specs.Resets.{is_constant, IsConstantOf}
use Rattle.hw_model.specs.Sound.{type_in}
use Rattle.verilog_model.specs.Tree.Expr.{name}
use Rattle.verilog_expr.specs.Expressions.{name_or, constant_expr, own_expr}
use Rattle.verilog_expr.specs.Values.{is_aggregate_kind, gives_values}
use Rattle.verilog_expr.proofs.Constants.{constant_own}
use Rattle.verilog_expr.proofs.Depths.{expressions_hold}
use Rattle.verilog_expr.specs.declared.extending.Extending.{Extending}
use Rattle.lowering_options.specs.declared.lowering.Lowering.{Lowering}
use Rattle.export_verilog.specs.Lowerings.{load_place, own_place}
use Rattle.export_verilog.specs.Identifiers.{identifier_text, value_name, name_or_nothing}
use Rattle.export_verilog.specs.Identifiers.Identifier.{port_identifier}
use Rattle.export_verilog.specs.Exported.{expression, assigned_expr}
use Rattle.export_verilog.proofs.items.Settings.{Setting, module_ok, one_result_of}
use Rattle.export_verilog.proofs.items.Writable.{named_input, only_first, writable}
use Rattle.export_verilog.proofs.behaviour.Sources.{inner_acyclic}
use Rattle.export_verilog.proofs.behaviour.NetValues.{made_gives}

module _ (via : Lowering) (d : Design) (x : Setting d) (s : Name) (m : Module) (is : find_module d s ≡ Some m) where
  -- an input port is written by its name
  pub input_written : (y : Extending) (j : ℕ) (p : Port) → slice_get m.ports j ≡ Some p → p.is_output ≡ false → expression m y (port j) ≡ name (identifier_text m (port_identifier j))
  input_written y j p there out =
      expressions_hold (value_name m) m.ports m.body (writable d x s m is) (inner_acyclic d s m is (one_result_of d x s m is) (x.ok.acyclic s)) y (port j)
      ∙ ap (λ z. name_or z (own_expr (value_name m) m.ports m.body (expression m) y (port j))) (named_input d x s m is j p there out)

  -- a value that is an input port with a mark, and has the port's name
  pub record IsSignalPort (r : Ref) : Type 0 where
    pub number : ℕ
    pub port_of : Port
    pub is_port : r ≡ port number
    pub there : slice_get m.ports number ≡ Some port_of
    pub input : port_of.is_output ≡ false
    pub has_mark : x.ok.marked m number ≡ true
    pub called : name_or_nothing (value_name m r) ≡ identifier_text m (port_identifier number)
    pub written : expression m (own_place via) r ≡ name (identifier_text m (port_identifier number))

  pub signal_port : (o : Op) (b : ResetBy) → In o m.body → async_reset_in o ≡ Some b → IsSignalPort b.signal
  signal_port o b within at = let p = x.ok.resets.signals s m o b is within at in record {
    number = p.number;
    port_of = p.port_of;
    is_port = p.is_port;
    there = p.there;
    input = p.is_input;
    has_mark = p.has_mark;
    called = ap (λ z. name_or_nothing (value_name m z)) p.is_port ∙ ap name_or_nothing (named_input d x s m is p.number p.port_of p.there p.is_input);
    written = ap (expression m (own_place via)) p.is_port ∙ input_written (own_place via) p.number p.port_of p.there p.is_input;
  }

  -- a value that is an integer constant's of a type
  pub record IsValueOf (r : Ref) (t : HwType) : Type 0 where
    pub position : ℕ
    pub is_result : r ≡ result position 0
    pub op : Op
    pub there : slice_get m.body position ≡ Some op
    pub number : ℤ
    pub kind : op.kind ≡ constant number
    pub typed : result_type op 0 ≡ Some t
    pub gives : gives_values op ≡ true

  pub value_of_reset : (o : Op) (b : ResetBy) → In o m.body → async_reset_in o ≡ Some b → (t : HwType) → type_in m.ports m.body b.value ≡ Some t → IsValueOf b.value t
  value_of_reset o b within at t typed = from_constant (x.ok.resets.values s m o b is within at) where
    plain : (k : Kind) → is_constant k ≡ true → is_aggregate_kind k ≡ false → (z : ℤ) × (k ≡ constant z)
    plain (constant z) one integers = (z, refl)
    plain (aggregate_constant ls) one integers = cc
    plain _ one integers = cc

    from_constant : IsConstantOf m.body b.value → IsValueOf b.value t
    from_constant c =
        let k = plain c.op.kind c.is_one (((module_ok d x s m is).ops c.position c.op c.there).integers) in
        let typed_here : result_type c.op c.number ≡ Some t =
        sym (ap (λ z. option_and_then (λ (q : Op). result_type q c.number) z) c.there) ∙ ap (type_in m.ports m.body) (sym c.is_result) ∙ typed in
        let one = one_result_of d x s m is c.position c.op c.there (ap instance_in k.1) (ap is_output_kind k.1) in
        let h = option_map_some (λ (z : OpResult). z.type) (slice_get c.op.results c.number) typed_here in
        let first : c.number ≡ 0 = only_first c.op.results one.0 c.number h.0 one.1 h.1 in
        record {
          position = c.position;
          is_result = c.is_result ∙ ap (result c.position) first;
          op = c.op;
          there = c.there;
          number = k.0;
          kind = k.1;
          typed = ap (result_type c.op) (sym first) ∙ typed_here;
          gives = made_gives c.op (ap register_form k.1) (ap instance_in k.1) (ap is_output_kind k.1);
        }

  -- its literal is what is assigned to its name
  pub literal_own : (r : Ref) (t : HwType) (v : IsValueOf r t) → constant_expr m.ports m.body r ≡ assigned_expr via m (result v.position 0)
  literal_own r t v = ap (constant_expr m.ports m.body) v.is_result ∙ constant_own (value_name m) m.ports m.body (expression m) (load_place via) v.position v.op v.number t v.there v.kind v.typed
