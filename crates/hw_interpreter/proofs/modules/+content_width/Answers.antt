use Rattle.std.proofs.Common.{map, arith, sym}
use Rattle.hw_interpreter.specs.DesignViews.{module_of}
use Rattle.hw_interpreter.proofs.Contents.{module_state_found}
use Rattle.hw_interpreter.proofs.modules.+content_width.Goals as goal

pub module_state-returns-in-Some : goal.module_state-returns-in-Some
module_state-returns-in-Some t c =
    rw (module_state_found c.args.depth (map module_of c.args.modules.now) c.args.symbol.now (module_of c.in-Some.module.now) (omega arith) (sym c.in-Some.ensures)) (rw (← c.as_slice.ensures.value) c.body_state.ensures)
