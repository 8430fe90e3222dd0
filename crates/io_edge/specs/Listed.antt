-- The stated files as pairs of a name and bytes.
use Rattle.std.specs.Prelude.{ℕ, List, [], ◌∷◌}
use Rattle.io_edge.specs.declared.memory_files.MemoryFile.{MemoryFile}

abbrev pub file_list : List MemoryFile → List (List ℕ × List ℕ)
file_list [] = []
file_list (file ∷ files) = (file.name, file.bytes) ∷ file_list files
