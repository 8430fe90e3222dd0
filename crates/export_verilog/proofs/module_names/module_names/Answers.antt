use Rattle.std.proofs.Common.{◌≡◌, ◌++◌, [], map, sym, ap, ap₂, ◌∙◌}
use Rattle.hw_model.specs.Design.{Port}
use Rattle.ir_store.specs.Designs.{port_of}
use Rattle.name_legalise.specs.Legal.{legal, legal_after}
use Rattle.name_legalise.specs.LegalViews.{legal_names}
use Rattle.verilog_expr.specs.Scopes.{scope_ports, scope_ops}
use Rattle.verilog_expr.specs.declared.value_names.NameList.{NameList}
use Rattle.export_verilog.specs.Held.{op_results, op_own_name}
use Rattle.export_verilog.specs.Walks.{body_given, result_lists}
use Rattle.export_verilog.specs.PortValues.{port_values}
use Rattle.export_verilog.specs.ScopeModules.{scope_module}
use Rattle.export_verilog.proofs.names.ModuleNames.{module_names_are}
use Rattle.export_verilog.proofs.module_names.module_names.Goals as goal

pub returns : goal.returns
returns c =
    let P = scope_ports c.args.scope.now in
    let O = scope_ops c.args.scope.now in
    let ns = c.in_ok-listed.listed.items in
    let start = legal_names c.new-names.result in
    let wanted = map (λ (p : Port). p.name) (map port_of c.args.ports.now) in
    let v = c.add_ops.new.values in
    let listed : ns ≡ legal wanted = c.in_ok-listed.ensures.list ∙ ap (λ t. legal_after t wanted) c.new-names.ensures in
    let taken : legal_names c.add_ports.new.names ≡ ns = c.in_ok-listed.ensures.names ∙ ap (λ t. t ++ legal_after start wanted) c.new-names.ensures ∙ sym c.in_ok-listed.ensures.list in
    let inputs : v.ports.items ≡ port_values P ns =
    ap (λ l. l.items) c.in_ok-own.ensures.ports ∙ c.in_ok-listed.ensures.values
    ∙ ap (λ l. l ++ port_values (map port_of c.args.ports.now) (legal_after start wanted)) c.new-values.ensures.ports
    ∙ ap₂ port_values c.requires.ports (sym c.in_ok-listed.ensures.list) in
    let before : result_lists c.add_ports.new.values ≡ [] = ap (λ l. map (λ (x : NameList). x.names.items) l) (ap (λ l. l.items) c.in_ok-listed.ensures.ops ∙ c.new-values.ensures.ops) in
    let results : result_lists v ≡ body_given op_results P O ns 0 O =
    c.in_ok-own.ensures.results ∙ ap₂ (λ l t. l ++ body_given op_results P O t 0 O) before taken in
    module_names_are (scope_module c.args.scope.now) ns (listed ∙ ap (λ l. legal (map (λ (p : Port). p.name) l)) c.requires.ports) v inputs results c.in_ok-own.own.items
    (c.in_ok-own.ensures.own ∙ ap (λ t. body_given op_own_name P O t 0 O) taken)
