use Rattle.aiger_reader.proofs.Answering.{lines_err}
use Rattle.std.proofs.Common.{arith}
use Rattle.aiger_reader.proofs.read_aiger.read_aiger.Goals as goal

pub returns-in-Err-clause-err : goal.returns-in-Err-clause-err
returns-in-Err-clause-err c = lines_err c.args.source.now c.in-Err.fail (omega arith) c.in-Err.ensures.err
