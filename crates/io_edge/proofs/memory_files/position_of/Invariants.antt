use Rattle.std.proofs.Common.{◌≡◌, ◌+◌, drop}
use Rattle.io_edge.specs.Writing.{position_in}
use Rattle.io_edge.specs.Listed.{file_list}
use Rattle.io_edge.proofs.memory_files.position_of.Given as goal

abbrev pub invariant-loop-position : goal.invariant-loop-position
invariant-loop-position l = position_in l.name (file_list l.files) ≡ l.position + position_in l.name (file_list (drop l.position l.files))
