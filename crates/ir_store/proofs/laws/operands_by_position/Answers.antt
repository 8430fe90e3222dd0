use Rattle.ir_store.proofs.Living.{set_live, inserted_live, dropped_live}
use Rattle.ir_store.proofs.Numbering.{numbered-set, numbered-insert, numbered-drop}
use Rattle.ir_store.proofs.laws.operands_by_position.Goals as goal

pub returns-clause-set : goal.returns-clause-set
returns-clause-set c = numbered-set

pub returns-clause-inserted : goal.returns-clause-inserted
returns-clause-inserted c = numbered-insert

pub returns-clause-dropped : goal.returns-clause-dropped
returns-clause-dropped c = numbered-drop

pub returns-clause-set_live : goal.returns-clause-set_live
returns-clause-set_live c = set_live

pub returns-clause-inserted_live : goal.returns-clause-inserted_live
returns-clause-inserted_live c = inserted_live

pub returns-clause-dropped_live : goal.returns-clause-dropped_live
returns-clause-dropped_live c = dropped_live
