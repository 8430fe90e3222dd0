use Rattle.std.proofs.Common.{refl}
use Rattle.ir_store.specs.Bodies.{ops_of}
use Rattle.ir_store.specs.Designs.{modules_of, module_of, ports_in}
use Rattle.ir_store.specs.Numbered.{ops_by_position}
use Rattle.verilog_expr.specs.Scopes.{scope_ports, scope_ops}
use Rattle.export_verilog.proofs.text.StoredModules.{scope_writable, scope_text}
use Rattle.export_verilog.proofs.module_text.push_module.Goals as goal

pub of-requires : goal.of-requires
of-requires c =
    let x = c.module-module.result.now in
    record {
      small = (scope_writable c.args.options (modules_of c.args.all.now.design.now) c.requires.writable c.args.number (module_of x) c.module-module.ensures
          (ports_in x.ports) (ops_by_position (ops_of x.body)) refl refl).small;
    }

pub of-requires-2 : goal.of-requires-2
of-requires-2 c =
    (scope_writable c.args.options (modules_of c.args.all.now.design.now) c.requires.writable c.args.number (module_of c.module-module.result.now) c.module-module.ensures
    (scope_ports c.in_ok-scope.scope) (scope_ops c.in_ok-scope.scope) c.in_ok-scope.ensures.ports c.in_ok-scope.ensures.ops).acyclic

pub invariant_of-writer : goal.invariant_of-writer
invariant_of-writer c = record {
  wires_are = c.in_ok-wires.ensures;
  names_are = c.in_ok-names.ensures;
}

pub returns : goal.returns
returns c =
    scope_text c.args.options (modules_of c.args.all.now.design.now) c.requires.writable c.args.number (module_of c.module-module.result.now) c.module-module.ensures
    (scope_ports c.in_ok-scope.scope) (scope_ops c.in_ok-scope.scope) c.in_ok-scope.ensures.ports c.in_ok-scope.ensures.ops
    c.symbol_at.result.now c.args.out.now c.push_under.new.out c.symbol_at.ensures c.in_ok-push_under.ensures

pub push_under-requires : goal.push_under-requires
push_under-requires c =
    (scope_writable c.args.options (modules_of c.args.all.now.design.now) c.requires.writable c.args.number (module_of c.module-module.result.now) c.module-module.ensures
    (scope_ports c.in_ok-scope.scope) (scope_ops c.in_ok-scope.scope) c.in_ok-scope.ensures.ports c.in_ok-scope.ensures.ops).narrow
