use Rattle.std.proofs.Common.{length}
use Rattle.aiger_reader.proofs.components.Search.close.Given as goal

abbrev pub decreases-loop-last : goal.decreases-loop-last
decreases-loop-last l = length l.self.open.items
