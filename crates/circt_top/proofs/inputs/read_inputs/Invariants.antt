use Rattle.std.proofs.Common.{◌≡◌, ◌≤◌, take, map}
use Rattle.std.specs.Prelude.{string_bytes}
use Rattle.hw_model.specs.Types.{Name}
use Rattle.circt_top.specs.Inputs.{HasRead, AreReads}
use Rattle.circt_top.proofs.inputs.read_inputs.Given as goal

abbrev pub invariant-loop-name : goal.invariant-loop-name
invariant-loop-name g l = record {
  read : HasRead g.F.Files.reads g.F.Files.files l.fn.files (map string_bytes (take l.name-index l.names)) l.sources.items l.files;
  told : AreReads (g.F.Files.files l.fn.files) (map string_bytes (take l.name-index l.names)) l.sources.items;
  kept : (name : Name) → g.F.Files.read_faults l.fn.files name ≤ g.F.Files.read_faults l.files name;
  unchanged : g.F.Files.files l.files ≡ g.F.Files.files l.fn.files;
  writes : g.F.Files.write_faults l.files ≡ g.F.Files.write_faults l.fn.files;
}
