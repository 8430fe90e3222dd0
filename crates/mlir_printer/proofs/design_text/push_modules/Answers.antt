use Rattle.std.proofs.Common.{◌++◌, map, refl, sym, arith}
use Rattle.std.proofs.lemmas.Option.{get_or_from_slice_get}
use Rattle.ir_store.specs.Designs.{StoredModule, modules_of, module_of, numbered_module}
use Rattle.mlir_printer.specs.Modules.{modules_bytes, module_bytes}
use Rattle.mlir_printer.specs.Texts.{module_shown}
use Rattle.mlir_printer.proofs.steps.Steps.{parts_step}
use Rattle.mlir_printer.proofs.design_text.push_modules.Goals as goal

pub loop-number-preserved : goal.loop-number-preserved
loop-number-preserved c =
    let ms = modules_of c.args.design.now in
    let m = module_of c.module.result.now in
    parts_step (λ (m : StoredModule). module_bytes (module_shown (numbered_module m))) (λ ms. modules_bytes (map module_shown (map numbered_module ms))) ms c.loop-number.number m c.loop-number.out c.push_with_names.new.out
    (c.args.out.now ++ modules_bytes (map module_shown (map numbered_module ms))) (λ y ys. refl) (omega (arith, c.loop-number-test.true, c.module_count-number-end.ensures))
    (sym (get_or_from_slice_get ms c.loop-number.number m m (sym c.module.ensures))) c.loop-number.invariant c.in_ok-names.ensures
