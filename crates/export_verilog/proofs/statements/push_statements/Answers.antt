use Rattle.std.proofs.Common.{[], ◌++◌, sym, ◌∙◌, ap}
use Rattle.ir_store.specs.Designs.{design_of}
use Rattle.ir_store.specs.Numbered.{position_of}
use Rattle.verilog_expr.specs.Scopes.{scope_ids, op_read}
use Rattle.export_verilog.specs.Exported.{stated_as}
use Rattle.export_verilog.specs.Layout.{items_text}
use Rattle.export_verilog.specs.EmissionViews.{emission_seen}
use Rattle.export_verilog.specs.ScopeModules.{scope_module}
use Rattle.export_verilog.proofs.text.SameStatements.{net_same, variable_same}
use Rattle.export_verilog.proofs.statements.push_statements.Goals as goal

pub returns-in_ok-push_net-in-Wire : goal.returns-in_ok-push_net-in-Wire
unfolding items_text
returns-in_ok-push_net-in-Wire c =
    let s = c.args.writer.now.scope in
    let d = design_of c.args.writer.now.design.now.design.now in
    let i = c.args.position in
    let o = op_read s c.args.op.now in
    c.in_ok-push_net-in-Wire.ensures
    ∙ ap (λ is. c.args.out.now ++ items_text is [])
    (net_same c.args.writer.now.options s c.args.writer.now.names.values c.args.writer.now.names_are.values_are d i (position_of (scope_ids s) c.args.id.index) o c.requires.id
    ∙ ap (λ r. stated_as c.args.writer.now.options d (scope_module s) i o (emission_seen r)) (sym c.in-Wire.is))

pub returns-in_ok-push_register-in-Reg : goal.returns-in_ok-push_register-in-Reg
returns-in_ok-push_register-in-Reg c =
    let s = c.args.writer.now.scope in
    let d = design_of c.args.writer.now.design.now.design.now in
    let i = c.args.position in
    let o = op_read s c.args.op.now in
    c.in_ok-push_register-in-Reg.ensures
    ∙ ap (λ is. c.args.out.now ++ items_text is [])
    (variable_same c.args.writer.now.options s c.args.writer.now.names.values c.args.writer.now.names_are.values_are d i (position_of (scope_ids s) c.args.id.index) o c.requires.id c.name_text-name.result.now c.name_text-name.ensures
    ∙ ap (λ r. stated_as c.args.writer.now.options d (scope_module s) i o (emission_seen r)) (sym c.in-Reg.is))
