use Rattle.std.proofs.Common.{◌≡◌, ◌++◌, map, drop}
use Rattle.hw_model.specs.Design.{Module}
use Rattle.ir_store.specs.Designs.{modules_of, numbered_module, design_of}
use Rattle.export_verilog.proofs.legal_names.symbols.Given as goal

abbrev pub invariant-loop-number : goal.invariant-loop-number
invariant-loop-number l =
    l.wanted.items ++ map (λ (m : Module). m.symbol) (map numbered_module (drop l.number (modules_of l.design)))
    ≡ map (λ (m : Module). m.symbol) (design_of l.design)
