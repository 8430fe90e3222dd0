use Rattle.std.proofs.Common.{ℕ, sym, map}
use Rattle.hw_model.specs.Types.{Name}
use Rattle.hw_model.specs.Design.Ref.{result}
use Rattle.ir_store.specs.Designs.{port_of}
use Rattle.ir_store.specs.Numbered.{position_of}
use Rattle.verilog_expr.specs.Scopes.{scope_ids, scope_ref}
use Rattle.verilog_expr.specs.Named.{named_of}
use Rattle.export_verilog.specs.Lowerings.{own_place}
use Rattle.export_verilog.specs.Identifiers.{name_or_nothing}
use Rattle.export_verilog.specs.Values.{value_expr}
use Rattle.export_verilog.specs.Joined.{connections_from}
use Rattle.export_verilog.proofs.text.Joining.{some_joined}
use Rattle.export_verilog.proofs.text.InstanceParts.{instance_parts}
use Rattle.export_verilog.proofs.instances.push_instance.Goals as goal

pub returns : goal.returns
returns c =
    let s = c.args.writer.now.scope in
    let v = c.args.writer.now.names.values in
    let i = position_of (scope_ids s) c.args.id.index in
    let given : ℕ → Name = λ k. name_or_nothing (named_of v (result i k)) in
    let rs = map (scope_ref s) c.args.operands.now in
    instance_parts c.args.head.now.module.now c.args.head.now.name.now (connections_from (value_expr s v (own_place c.args.writer.now.options)) given 0 c.args.port_names.now (map port_of c.args.ports.now) rs) _
    c.args.out.now c.push_head.new.out c.push_begin.new.out c.push_connections.new.out c.push_end.new.out
    (sym (some_joined port_of (scope_ref s) (value_expr s v (own_place c.args.writer.now.options)) given c.args.port_names.now c.args.ports.now 0 0 rs c.requires))
    c.in_ok-push_head.ensures c.in_ok-push_begin.ensures c.in_ok-push_connections.ensures c.in_ok-push_end.ensures
