use Rattle.ir_store.specs.Designs.{design_of}
use Rattle.circt_top.proofs.Simulations.{input_fails, run_fails}
use Rattle.circt_top.proofs.simulating.run_module.Goals as goal

pub returns-in-Err : goal.returns-in-Err
returns-in-Err c =
    input_fails c.args.top.now c.args.sources.now c.first_input.result.now c.accept.result c.in-Err.fail c.in_file.result c.first_input.ensures c.accept.ensures c.in-Err.is c.in_file.ensures

pub returns : goal.returns
returns c =
    rw c.run_failure.ensures
    (run_fails c.args.top.now c.args.sources.now c.first_input.result.now c.second_input.result.now (design_of c.in-Ok.verified.design) c.in-Err-simulate.fail
    c.first_input.ensures c.second_input.ensures c.in-Ok.ensures (rw c.as_bytes.ensures.value at c.in-Err-simulate.ensures.err))
