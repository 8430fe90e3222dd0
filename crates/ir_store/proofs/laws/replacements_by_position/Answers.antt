use Rattle.ir_store.proofs.Living.{replaced_live}
use Rattle.ir_store.proofs.Numbering.{numbered-all_replaced}
use Rattle.ir_store.proofs.laws.replacements_by_position.Goals as goal

pub returns-clause-replaced : goal.returns-clause-replaced
returns-clause-replaced c = numbered-all_replaced

pub returns-clause-live : goal.returns-clause-live
returns-clause-live c = replaced_live
