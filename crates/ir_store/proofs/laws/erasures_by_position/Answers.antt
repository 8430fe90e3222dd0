use Rattle.ir_store.proofs.Living.{erased_live}
use Rattle.ir_store.proofs.Numbering.{numbered-taken_out}
use Rattle.ir_store.proofs.laws.erasures_by_position.Goals as goal

pub returns-clause-gone : goal.returns-clause-gone
returns-clause-gone c = numbered-taken_out

pub returns-clause-live : goal.returns-clause-live
returns-clause-live c = erased_live
