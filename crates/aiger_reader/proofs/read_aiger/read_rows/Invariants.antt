use Rattle.std.proofs.Common.{◌≡◌, ◌+◌, ◌≤◌, ◌^◌, length}
use Rattle.text_lines.specs.Lines.{lines}
use Rattle.aiger_laws.specs.Trees.{empty_tree}
use Rattle.aiger_laws.specs.Grammar.{tree_from}
use Rattle.aiger_reader.specs.Headers.{header_in}
use Rattle.aiger_reader.specs.Kept.{Knows, tree_of}
use Rattle.aiger_reader.specs.Told.{line_count}
use Rattle.aiger_reader.proofs.read_aiger.read_rows.Given as goal

abbrev pub invariant-loop-header : goal.invariant-loop-header
invariant-loop-header l = record {
  left : tree_from (header_in l.header) l.line (tree_of l.text) (lines l.rest) ≡ tree_from (header_in l.header) 2 empty_tree (lines l.source);
  knows : Knows l.text;
  count : line_count (tree_of l.text) + 2 ≡ l.line;
  room : l.line + length l.rest ≤ 2 ^ 26 + 1;
}

abbrev pub decreases-loop-header : goal.decreases-loop-header
decreases-loop-header l = length l.rest
