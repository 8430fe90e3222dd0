-- An accepted design without aggregates is exportable.
use Rattle.std.proofs.Common.{◌≡◌, ℕ, ◌<◌, ◌^◌, false, ◌||◌, List, [], ◌∷◌, length, slice_get, Option, Some, None, refl, ap, ◌∙◌, arith, option_and_then, option_map}
use Rattle.std.specs.Prelude.{is_some}
use Rattle.hw_model.specs.Kinds.{Kind}
use Rattle.hw_model.specs.Kinds.Kind.{register, async_firreg}
use Rattle.hw_model.specs.Design.{Port, OpResult, Op, Module, Design, RegisterForm, register_form, instance_in, is_output_kind, is_instance, is_output_op, result_type}
use Rattle.hw_model.specs.Flat.{Register, register_in, register_parts}
use Rattle.hw_model.specs.Sound.{type_in, OpFits, Sound}
use Rattle.port_checks.specs.ResetPorts.{is_reset_port}
use Rattle.op_verifier.specs.Verdict.{IsAccepted}
use Rattle.op_verifier.proofs.AcceptedDesigns.{no_fault, accepted_distinct, accepted_finite, accepted_acyclic, accepted_resets}
use Rattle.op_verifier.proofs.NoCauseAlone.{NoCauseAlone, result_number}
use Rattle.op_verifier.proofs.SoundDesigns.{sound_design}
use Rattle.verilog_expr.specs.Marks.{AreSmall}
use Rattle.export_verilog.specs.Aggregates.{HasNoAggregates, is_aggregate}
use Rattle.export_verilog.specs.Exportable.{IsClocked, IsExportableOp, IsExportableModule, IsExportable}
use Rattle.export_verilog.specs.Room.{HasRoomToExport}
use Rattle.export_verilog.proofs.accepted.AcceptedDivisions.{constant_division}
use Rattle.export_verilog.proofs.accepted.AcceptedOps.{found, op_tested, port_within}
use Rattle.export_verilog.proofs.accepted.AcceptedTypes.{none_of, HasSomeBits, within_limits}
use Rattle.export_verilog.proofs.accepted.AcceptedValues.{one_result, no_result, single, some_operand, in_list, result_bits, small_value, clock_port, clocked}
use Rattle.export_verilog.proofs.accepted.AcceptedWeights.{few_names}
use Rattle.export_verilog.proofs.accepted.NoAggregates.{IsPlain, ports_plain, op_plain}
use Rattle.std.proofs.lemmas.List.{nil_from_length}

below : {w : ℕ} → w < 129 → w < 2 ^ 64
below h = omega (arith, h)

pub accepted_sound : (d : Design) → IsAccepted d → Sound d
accepted_sound d fine = sound_design d (no_fault d fine)

-- a register is no instance and no output
register_alone : (kind : Kind) (f : RegisterForm) → register_form kind ≡ Some f → (is_some (instance_in kind) || is_output_kind kind) ≡ false
register_alone (register g r) f h = refl
register_alone async_firreg f h = refl
register_alone _ f h = cc

register_kind : (o : Op) (r : Register) → register_in o ≡ Some r → (f : RegisterForm) × (register_form o.kind ≡ Some f)
register_kind o r h = go (register_form o.kind) h
  where
    go : (x : Option RegisterForm) → option_and_then (λ (f : RegisterForm). register_parts f.has_enable f.reset o.operands) x ≡ Some r → (f : RegisterForm) × (x ≡ Some f)
    go None e = cc
    go (Some f) e = (f, refl)

module _ (d : Design) (fine : IsAccepted d) (plain : HasNoAggregates d) (n : ℕ) (m : Module) (there : slice_get d n ≡ Some m) where
  tests : (j : ℕ) (o : Op) → slice_get m.body j ≡ Some o → NoCauseAlone m.ports m.body o
  tests = op_tested d fine n m there

  plain_ops : (j : ℕ) (o : Op) → slice_get m.body j ≡ Some o → IsPlain o
  plain_ops = op_plain d fine plain n m there

  port_bits : (j : ℕ) (p : Port) → slice_get m.ports j ≡ Some p → HasSomeBits p.type
  port_bits j p at = within_limits p.type (none_of (λ (q : Port). is_aggregate q.type) m.ports (ports_plain d fine plain n m there) p (in_list m.ports j p at)) (port_within d fine n m there j p at)

  body_fits : (j : ℕ) (o : Op) → slice_get m.body j ≡ Some o → OpFits (type_in m.ports m.body) o
  body_fits = (accepted_sound d fine m.symbol m (found d fine n m there)).ops

  one : (j : ℕ) (o : Op) → slice_get m.body j ≡ Some o → (is_instance o || is_output_op o) ≡ false → (r : OpResult) × (o.results ≡ r ∷ [])
  one j o at is = single o.results (result_number m.ports m.body o (tests j o at) ∙ one_result o.kind o.types (plain_ops j o at).kind is)

  clocked_by : (j : ℕ) (o : Op) → slice_get m.body j ≡ Some o → (r : Register) → register_in o ≡ Some r → IsClocked m.ports r
  clocked_by j o at r is =
      let f = register_kind o r is in
      let x = one j o at (register_alone o.kind f.0 f.1) in
      let typed : result_type o 0 ≡ Some x.0.type = ap (λ (rs : List OpResult). option_map (λ (y : OpResult). y.type) (slice_get rs 0)) x.1 in
      clocked m.ports m.body tests plain_ops port_bits o x.0.type (body_fits j o at) typed r is

  exportable_op : (j : ℕ) (o : Op) → slice_get m.body j ≡ Some o → IsExportableOp m.ports m.body o
  exportable_op j o at = record {
    integers = (plain_ops j o at).kind;
    one_result = one j o at;
    no_result = λ is. nil_from_length o.results (result_number m.ports m.body o (tests j o at) ∙ no_result o.kind o.types is);
    bits = λ k r is. (result_bits m.ports m.body o (tests j o at) (plain_ops j o at) k r is).some;
    filled = λ is. some_operand o.kind o.types (length o.operands) is (tests j o at).operands;
    division = constant_division m.ports m.body tests o (tests j o at) (body_fits j o at);
    clocked = clocked_by j o at;
  }

  -- no value has more than 128 bits
  pub small_values : AreSmall m.ports m.body
  small_values = small_value m.ports m.body tests plain_ops port_bits

  exportable_module : IsExportableModule m
  exportable_module = record {
    ops = exportable_op;
    bits = λ j p at. (port_bits j p at).some;
    narrow = λ r. below (small_values r);
    narrow_ports = λ j p at. below (port_bits j p at).small;
    clocks = clock_port m.ports m.body tests plain_ops port_bits;
    room = few_names d fine plain n m there;
  }

-- each accepted design without aggregates is exportable, where its modules are no more than a machine counts
pub accepted_exportable : (d : Design) → IsAccepted d → HasNoAggregates d → HasRoomToExport d → IsExportable d
accepted_exportable d fine plain room = record {
  sound = accepted_sound d fine;
  distinct = accepted_distinct d fine;
  finite = accepted_finite d fine;
  acyclic = accepted_acyclic d fine;
  modules = exportable_module d fine plain;
  room = room;
  marked = is_reset_port d;
  resets = accepted_resets d fine;
}
