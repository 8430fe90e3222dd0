use Rattle.ir_store.specs.Designs.{design_of}
use Rattle.circt_top.proofs.Generated.{verilog_generated}
use Rattle.circt_top.proofs.generation.generate_verilog.Goals as goal

pub returns : goal.returns
returns g c = λ contents.
    verilog_generated c.args.recipe.seed c.args.recipe.count c.in_ok-passes.passes (design_of c.in_ok-verified.verified.design)
    c.in_ok-passes.ensures c.in_ok-verified.ensures c.in_ok-translate.field-0 c.in_ok-translate.ensures
