use Rattle.std.proofs.Common.{◌≡◌, map, ap, sym, ◌∙◌}
use Rattle.std.specs.Prelude.{is_some, option_and_then, slice_get}
use Rattle.ir_store.specs.Symbols.{symbol_position}
use Rattle.ir_store.specs.Designs.{StoredModule, design_of, modules_of}
use Rattle.ir_store.proofs.DesignLemmas.{symbols_seen, module-symbol_position, some-symbol_position}
use Rattle.ir_store.proofs.design.Design.find.Goals as goal

pub returns-clause-position : goal.returns-clause-position
returns-clause-position c =
    c.copied.ensures ∙ (c.get.ensures.value ∙ (c.args.self.now.found c.args.symbol.now ∙ sym (ap (symbol_position c.args.symbol.now) (symbols_seen c.args.self.now.modules.items))))

pub returns-clause-module : goal.returns-clause-module
returns-clause-module c =
    let position : c.copied.result ≡ symbol_position c.args.symbol.now (map (λ (m : StoredModule). m.symbol) (modules_of c.args.self.now)) =
    c.copied.ensures ∙ (c.get.ensures.value ∙ (c.args.self.now.found c.args.symbol.now ∙ sym (ap (symbol_position c.args.symbol.now) (symbols_seen c.args.self.now.modules.items)))) in
    ap (λ n. option_and_then (slice_get (design_of c.args.self.now)) n) position ∙ module-symbol_position c.args.symbol.now (modules_of c.args.self.now)

pub returns-clause-some : goal.returns-clause-some
returns-clause-some c =
    let position : c.copied.result ≡ symbol_position c.args.symbol.now (map (λ (m : StoredModule). m.symbol) (modules_of c.args.self.now)) =
    c.copied.ensures ∙ (c.get.ensures.value ∙ (c.args.self.now.found c.args.symbol.now ∙ sym (ap (symbol_position c.args.symbol.now) (symbols_seen c.args.self.now.modules.items)))) in
    ap is_some position ∙ some-symbol_position c.args.symbol.now (modules_of c.args.self.now)
