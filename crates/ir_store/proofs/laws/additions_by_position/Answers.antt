use Rattle.ir_store.proofs.Living.{added_live}
use Rattle.ir_store.proofs.Numbering.{numbered-push, numbered-put_before}
use Rattle.ir_store.proofs.laws.additions_by_position.Goals as goal

pub returns-clause-last : goal.returns-clause-last
returns-clause-last c = numbered-push

pub returns-clause-before : goal.returns-clause-before
returns-clause-before c = numbered-put_before

pub returns-clause-live : goal.returns-clause-live
returns-clause-live c = added_live
