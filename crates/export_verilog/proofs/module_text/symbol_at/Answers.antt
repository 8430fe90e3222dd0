use Rattle.std.proofs.Common.{length, slice_get, Some, refl, sym, ◌∙◌, ap, arith}
use Rattle.std.proofs.lemmas.Option.{slice_get_read}
use Rattle.ir_store.specs.Designs.{modules_of}
use Rattle.export_verilog.proofs.text.StoredModules.{stored_symbols}
use Rattle.export_verilog.proofs.module_text.symbol_at.Goals as goal

pub bounds-symbols-number : goal.bounds-symbols-number
bounds-symbols-number c =
    omega (arith, c.requires, stored_symbols (modules_of c.args.all.now.design.now) c.as_slice-symbols.result.now (c.as_slice-symbols.ensures.value ∙ c.args.all.now.symbols_are))

pub returns : goal.returns
returns c =
    let ns = c.as_slice-symbols.result.now in
    let are = c.as_slice-symbols.ensures.value ∙ c.args.all.now.symbols_are in
    ap (λ l. slice_get l c.args.number) (sym are)
    ∙ slice_get_read ns (length ns) c.args.number c.index-symbols-number.result refl
    (omega (arith, c.requires, stored_symbols (modules_of c.args.all.now.design.now) ns are)) c.index-symbols-number.is
    ∙ ap (λ n. Some n) (sym c.as_bytes.ensures)
