use Rattle.std.proofs.Common.{◌≡◌, ◌<◌, ◌≤◌, ◌++◌, length, ap, ◌∙◌, arith}
use Rattle.hw_model.specs.KindViews.{kind_of}
use Rattle.name_legalise.specs.Legal.{legal_after}
use Rattle.name_legalise.specs.LegalViews.{legal_names}
use Rattle.verilog_expr.specs.Scopes.{scope_ports, scope_ops, op_read}
use Rattle.export_verilog.specs.Identifiers.{emission_of}
use Rattle.export_verilog.specs.EmissionViews.{emission_seen}
use Rattle.export_verilog.specs.Held.{emission_by, op_name_hints, op_results, op_own_name}
use Rattle.export_verilog.specs.Walks.{body_name_hints, body_given, result_lists}
use Rattle.export_verilog.proofs.names.Walking.{name_hints_seen, results_seen, walk_names, walk_given, walked_names, walked_given, map_pushed}
use Rattle.export_verilog.proofs.body_names.add_ops.Goals as goal

pub loop-position-preserved : goal.loop-position-preserved
loop-position-preserved c =
    let s = c.args.scope.now in
    let P = scope_ports s in
    let O = scope_ops s in
    let i = c.loop-position.position in
    let o = c.op_at-op.result in
    let x = op_read s o in
    let r = emission_seen c.emission_of-emission.result in
    let ts = legal_names c.loop-position.names in
    let us = legal_names c.add_op.new.names in
    let start = legal_names c.args.names.now in
    let lt : i < length O = omega (arith, c.loop-position-test.true, c.count-position-end.ensures) in
    let emission : r ≡ emission_of P O i x = c.emission_of-emission.ensures ∙ ap (λ b. emission_by b (kind_of o.kind.now)) (c.has_wire.ensures ∙ c.requires.wires i lt) in
    let took : us ≡ ts ++ legal_after ts (op_name_hints r x) = c.in_ok-given.ensures.names ∙ ap (λ w. ts ++ legal_after ts w) (name_hints_seen s o r) in
    record {
      names = walk_names P O i x r ts us lt c.op_at-op.ensures emission took (start ++ legal_after start (body_name_hints P O 0 O)) c.loop-position.invariant.names;
      results = walk_given P O i x r ts us lt c.op_at-op.ensures emission took op_results c.in_ok-given.given.results.names.items (result_lists c.loop-position.values) (result_lists c.push_op.new.self)
          (result_lists c.args.values.now ++ body_given op_results P O start 0 O) (c.in_ok-given.ensures.results ∙ results_seen s o ts r)
          (map_pushed (λ l. l.names.items) c.loop-position.values.ops.items c.push_op.new.self.ops.items c.in_ok-given.given.results c.in_ok-push_op.ensures.ops) c.loop-position.invariant.results;
      ports = c.in_ok-push_op.ensures.ports ∙ c.loop-position.invariant.ports;
      own = walk_given P O i x r ts us lt c.op_at-op.ensures emission took op_own_name c.in_ok-given.given.instance c.loop-position.own.items c.push.new.self.items
          (body_given op_own_name P O start 0 O) c.in_ok-given.ensures.instance c.in_ok-push.ensures.items c.loop-position.invariant.own;
    }

pub returns : goal.returns
returns c =
    let P = scope_ports c.args.scope.now in
    let O = scope_ops c.args.scope.now in
    let ts = legal_names c.loop-position.names in
    let start = legal_names c.args.names.now in
    let le : length O ≤ c.loop-position.position = omega (arith, c.loop-position-test.false, c.count-position-end.ensures) in
    record {
      names = walked_names P O c.loop-position.position le ts (start ++ legal_after start (body_name_hints P O 0 O)) c.loop-position.invariant.names;
      results = walked_given P O c.loop-position.position le op_results ts (result_lists c.loop-position.values) (result_lists c.args.values.now ++ body_given op_results P O start 0 O) c.loop-position.invariant.results;
      ports = c.loop-position.invariant.ports;
      own = walked_given P O c.loop-position.position le op_own_name ts c.loop-position.own.items (body_given op_own_name P O start 0 O) c.loop-position.invariant.own;
    }
