use Rattle.circt_top.proofs.GenerationPasses.{read_so, not_bad}
use Rattle.circt_top.proofs.generation.generation_passes.Goals as goal

pub unreachable-requires : goal.unreachable-requires
unreachable-requires c = not_bad c.in-Err-Bad.field-0 c.in-Err-Bad.field-0-0 c.in-Err-Bad.field-0-is c.in-Err-Bad.ensures

pub returns-in-Ok : goal.returns-in-Ok
returns-in-Ok c = read_so c.in-Ok.passes c.in-Ok.ensures
