use Rattle.std.proofs.Common.{ℕ, ◌+◌, ◌≤◌, Bool, true, false, cond, [], ◌++◌, map, refl, sym, ap, arith}
use Rattle.hw_model.specs.Types.{Name}
use Rattle.hw_model.specs.Design.Ref.{result}
use Rattle.ir_store.specs.Designs.{port_of}
use Rattle.ir_store.specs.Numbered.{position_of}
use Rattle.verilog_expr.specs.Scopes.{scope_ids, scope_ref}
use Rattle.verilog_expr.specs.Named.{named_of}
use Rattle.export_verilog.specs.Lowerings.{own_place}
use Rattle.export_verilog.specs.Identifiers.{name_or_nothing}
use Rattle.export_verilog.specs.Values.{value_expr}
use Rattle.export_verilog.specs.Written.{connections_left}
use Rattle.export_verilog.specs.Joined.{connections_from}
use Rattle.export_verilog.proofs.text.Joining.{joined_by}
use Rattle.export_verilog.proofs.connections.push_connections.Goals as goal

counted_within : (b : Bool) (k j : ℕ) → k ≤ j → cond b (k + 1) k ≤ j + 1
counted_within true k j le = omega (arith, le)
counted_within false k j le = omega (arith, le)

pub loop-j-preserved : goal.loop-j-preserved
loop-j-preserved c =
    let s = c.args.writer.now.scope in
    let v = c.args.writer.now.names.values in
    let i = position_of (scope_ids s) c.args.id.index in
    let given : ℕ → Name = λ k. name_or_nothing (named_of v (result i k)) in
    record {
      bytes = joined_by port_of (scope_ref s) (value_expr s v (own_place c.args.writer.now.options)) given c.args.port_names.now c.args.ports.now c.args.operands.now c.loop-j.j c.loop-j.results c.loop-j.inputs
          c.count_if-results.result c.count_if-inputs.result c.index-port_names-j.result c.in_ok-value.value c.index-ports-j.result _ _ c.loop-j.out c.push_connection.new.out
          (c.args.out.now ++ connections_left (connections_from (value_expr s v (own_place c.args.writer.now.options)) given 0 c.args.port_names.now (map port_of c.args.ports.now) (map (scope_ref s) c.args.operands.now)) [])
          (ap (λ p. p.out) (sym c.index-ports-j.is)) c.requires (omega (arith, c.loop-j-test.true)) c.index-port_names-j.is c.index-ports-j.is refl c.in_ok-value.ensures c.count_if-results.ensures c.count_if-inputs.ensures c.loop-j.invariant.bytes
          (rw (sym c.line_end.ensures, sym c.as_bytes.ensures, sym c.as_bytes-in-loop-j.ensures) c.in_ok-push_connection.ensures);
      results = rw c.count_if-results.ensures (counted_within _ c.loop-j.results c.loop-j.j c.loop-j.invariant.results);
      inputs = rw c.count_if-inputs.ensures (counted_within _ c.loop-j.inputs c.loop-j.j c.loop-j.invariant.inputs);
    }
