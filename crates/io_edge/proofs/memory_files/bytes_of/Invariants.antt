use Rattle.std.proofs.Common.{◌≡◌, drop}
use Rattle.io_edge.specs.Reading.{file_at}
use Rattle.io_edge.specs.Listed.{file_list}
use Rattle.io_edge.proofs.memory_files.bytes_of.Given as goal

abbrev pub invariant-loop-file : goal.invariant-loop-file
invariant-loop-file l = file_at l.name (file_list l.files) ≡ file_at l.name (file_list (drop l.file-index l.files))
