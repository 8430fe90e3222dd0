use Rattle.std.proofs.Common.{◌++◌, ◌∷◌, []}
use Rattle.std.specs.Prelude.{codes}
use Rattle.ir_store.specs.Designs.{ports_in}
use Rattle.mlir_printer.specs.Strings.{symbol_bytes}
use Rattle.mlir_printer.specs.Commas.{commas}
use Rattle.mlir_printer.specs.Modules.{header_bytes, private_bytes, port_bytes}
use Rattle.mlir_printer.specs.Attributes.{dictionary_bytes}
use Rattle.mlir_printer.specs.Texts.{ports_shown}
use Rattle.mlir_printer.specs.Views.{names_held}
use Rattle.ir_store.specs.DictionaryViews.{entries_in}
use Rattle.mlir_printer.proofs.steps.Steps.{eight}
use Rattle.mlir_printer.proofs.modules.push_header.Goals as goal

pub returns : goal.returns
unfolding header_bytes
returns c =
    let one = c.args.one.now in
    eight c.args.out.now c.push_bytes.new.self c.push_private.new.out c.push_symbol.new.out c.push_bytes-2.new.self c.push_ports.new.out c.push_bytes-3.new.self c.push_dictionary.new.out c.push_bytes-4.new.self
    (codes "  hw.module ") (private_bytes one.private) (symbol_bytes one.symbol) (codes "(") (commas port_bytes (ports_shown (names_held c.args.names.now) (ports_in one.ports))) (codes ")")
    (dictionary_bytes (codes " attributes ") (entries_in one.dictionary)) (codes " {" ++ (10 ∷ []))
    c.in_ok-push_bytes.ensures.ok c.in_ok-push_private.ensures (rw (c.as_bytes.ensures) at c.in_ok-push_symbol.ensures) c.in_ok-push_bytes-2.ensures.ok
    (rw (c.deref.ensures.value) at c.in_ok-push_ports.ensures) c.in_ok-push_bytes-3.ensures.ok
    (rw (c.deref-2.ensures.value) at c.in_ok-push_dictionary.ensures) c.in_ok-push_bytes-4.ensures.ok
