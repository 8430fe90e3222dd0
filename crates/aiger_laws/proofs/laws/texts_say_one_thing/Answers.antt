use Rattle.aiger_laws.proofs.OneFault.{one_tree, one_fault, no_fault}
use Rattle.aiger_laws.proofs.laws.texts_say_one_thing.Goals as goal

pub returns-clause-tree : goal.returns-clause-tree
returns-clause-tree c = one_tree

pub returns-clause-fault : goal.returns-clause-fault
returns-clause-fault c = one_fault

pub returns-clause-apart : goal.returns-clause-apart
returns-clause-apart c = no_fault
