use Rattle.indexmap.specs.IndexSet.{index_set_len}
use Rattle.fresh_names.proofs.taken_names.keep_memory.Given as goal

abbrev pub decreases-loop-name : goal.decreases-loop-name
decreases-loop-name l = index_set_len l.names
