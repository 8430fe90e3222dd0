use Rattle.std.proofs.Common.{◌≡◌, ◌≤◌, length}
use Rattle.io_edge.specs.Bytes.{Loses}
use Rattle.io_edge.proofs.real_files.read_text.Given as goal

abbrev pub invariant-reads : goal.invariant-reads
invariant-reads g l = record {
  lost : Loses (g.S.Read.remaining l.fn.source) (g.S.Read.remaining l.source) l.text;
  within : length l.text ≤ l.limit;
  kept : l.fn.faults ≤ l.faults;
  room : length l.window.items ≡ 65536;
}
