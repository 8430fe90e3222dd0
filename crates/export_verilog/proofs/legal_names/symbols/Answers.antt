use Rattle.std.proofs.Common.{◌∷◌, [], map, refl, sym, ap, ◌∙◌, arith, ◌++◌}
use Rattle.std.proofs.lemmas.Option.{get_or_from_slice_get}
use Rattle.hw_model.specs.Design.{Module}
use Rattle.ir_store.specs.Designs.{StoredModule, modules_of, module_of, numbered_module, design_of}
use Rattle.export_verilog.proofs.text.Listed.{gather_step, gather_end}
use Rattle.export_verilog.proofs.legal_names.symbols.Goals as goal

pub loop-number-preserved : goal.loop-number-preserved
loop-number-preserved c =
    let ms = modules_of c.args.design.now in
    let m = module_of c.module.result.now in
    gather_step (λ (x : StoredModule). x.symbol) (λ xs. map (λ (x : Module). x.symbol) (map numbered_module xs)) ms c.loop-number.number m c.loop-number.wanted.items c.push.new.self.items
    (map (λ (x : Module). x.symbol) (design_of c.args.design.now)) (λ y ys. refl) (omega (arith, c.loop-number-test.true, c.module_count-number-end.ensures))
    (sym (get_or_from_slice_get ms c.loop-number.number m m (sym c.module.ensures))) c.loop-number.invariant
    (c.in_ok-push.ensures.items ∙ ap (λ n. c.loop-number.wanted.items ++ n ∷ []) c.in_ok-try_clone.ensures)

pub returns : goal.returns
returns c =
    gather_end (λ xs. map (λ (x : Module). x.symbol) (map numbered_module xs)) (modules_of c.args.design.now) c.loop-number.number c.loop-number.wanted.items
    (map (λ (x : Module). x.symbol) (design_of c.args.design.now)) refl (omega (arith, c.loop-number-test.false, c.module_count-number-end.ensures)) c.loop-number.invariant
