use Rattle.std.proofs.Common.{map, length, refl, sym, ◌∙◌, ap, subst, arith}
use Rattle.std.proofs.lemmas.Option.{slice_get_read}
use Rattle.hw_model.specs.Sound.{ports_of}
use Rattle.ir_store.specs.Designs.{port_of, module_of, numbered_module, modules_of, design_of}
use Rattle.export_verilog.specs.Exported.{symbol_names}
use Rattle.export_verilog.specs.NamedDesigns.{AreNamesOf}
use Rattle.export_verilog.proofs.names.SymbolPositions.{no_name, position_within, symbol_count, within_list, symbol_at, module_at}
use Rattle.export_verilog.proofs.statements.callee_of.Goals as goal

pub returns-in_default-clause-symbol : goal.returns-in_default-clause-symbol
returns-in_default-clause-symbol c =
    let d = c.args.all.now.design.now in
    no_name c.args.symbol.now (modules_of d) (symbol_names (design_of d)) (sym c.in_default.ensures.position)

pub index-requires : goal.index-requires
index-requires c =
    let d = c.args.all.now.design.now in
    let ns = c.args.all.now.symbols in
    omega (arith, ns.ok.0, within_list c.args.symbol.now (modules_of d) c.in-Some.number (sym c.in-Some.ensures.position) ns.items (ap length c.args.all.now.symbols_are ∙ symbol_count (design_of d)))

pub module-requires : goal.module-requires
module-requires c = position_within c.args.symbol.now (modules_of c.args.all.now.design.now) c.in-Some.number (sym c.in-Some.ensures.position)

pub index-requires-2 : goal.index-requires-2
index-requires-2 c =
    let ls = c.args.all.now.ports in
    omega (arith, ls.ok.0, within_list c.args.symbol.now (modules_of c.args.all.now.design.now) c.in-Some.number (sym c.in-Some.ensures.position) ls.items c.args.all.now.ports_are.count)

pub returns-clause-symbol : goal.returns-clause-symbol
returns-clause-symbol c =
    c.as_bytes.ensures
    ∙ symbol_at c.args.symbol.now (modules_of c.args.all.now.design.now) c.in-Some.number (sym c.in-Some.ensures.position) c.args.all.now.symbols.items c.index.result.now c.args.all.now.symbols_are c.index.ensures

pub returns-clause-ports : goal.returns-clause-ports
returns-clause-ports c =
    ap (map port_of) c.as_slice.ensures.value
    ∙ sym (ap ports_of (module_at c.args.symbol.now (modules_of c.args.all.now.design.now) c.in-Some.number (sym c.in-Some.ensures.position) (module_of c.module.result.now) c.module.ensures c.in-Some.ensures.module))

pub returns-clause-names : goal.returns-clause-names
returns-clause-names c =
    let n = c.in-Some.number in
    let d = c.args.all.now.design.now in
    let ls = c.args.all.now.ports.items in
    let x = module_of c.module.result.now in
    let position = sym c.in-Some.ensures.position in
    let at = c.in-Some.ensures.module ∙ module_at c.args.symbol.now (modules_of d) n position x c.module.ensures c.in-Some.ensures.module in
    let list = slice_get_read ls (length ls) n c.index-2.result.now refl (within_list c.args.symbol.now (modules_of d) n position ls c.args.all.now.ports_are.count) c.index-2.ensures in
    λ ns e. subst (λ ps. AreNamesOf (map port_of ps) ns) (sym c.as_slice.ensures.value) (c.args.all.now.ports_are.named n (numbered_module x) c.index-2.result.now at list ns (sym c.names_in.ensures ∙ e))
