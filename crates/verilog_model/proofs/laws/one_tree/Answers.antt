-- The law is the lemma.
use Rattle.verilog_model.proofs.OneTree.{one_tree_at_most}
use Rattle.verilog_model.proofs.laws.one_tree.Goals as goal

pub returns : goal.returns
returns c = one_tree_at_most
