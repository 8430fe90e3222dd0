use Rattle.std.proofs.Common.{◌≡◌, drop, map}
use Rattle.hw_model.specs.Design.{find_module}
use Rattle.hw_interpreter.specs.DesignViews.{module_of}
use Rattle.hw_interpreter.proofs.modules.find_module.Given as goal

abbrev pub invariant-loop-module : goal.invariant-loop-module
invariant-loop-module l = find_module (map module_of (drop l.module-index l.modules)) l.symbol ≡ find_module (map module_of l.modules) l.symbol
