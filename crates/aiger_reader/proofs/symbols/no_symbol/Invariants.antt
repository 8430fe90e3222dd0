use Rattle.std.proofs.Common.{◌≡◌, ◌+◌, ◌<◌, ◌^◌, length}
use Rattle.text_lines.specs.Lines.{lines}
use Rattle.aiger_laws.specs.Grammar.{no_symbol}
use Rattle.aiger_reader.proofs.symbols.no_symbol.Given as goal

abbrev pub invariant-loop-rest : goal.invariant-loop-rest
invariant-loop-rest l = record {
  left : no_symbol l.line (lines l.rest) ≡ no_symbol l.fn.line (lines l.text);
  room : l.line + length l.rest < 2 ^ 32;
}

abbrev pub decreases-loop-rest : goal.decreases-loop-rest
decreases-loop-rest l = length l.rest
