-- What summaries in code stand for.
use Rattle.circt_top.specs.Summary as summary
use Rattle.circt_top.specs.declared.summary.Counts.{Counts}
use Rattle.circt_top.specs.declared.summary.Summary.{Summary}

abbrev pub counts_of : Counts → summary.Counts
counts_of c = record { modules = c.modules; operations = c.operations; public_modules = c.public_modules }

abbrev pub summary_of : Summary → summary.Summary
summary_of s = record { counts = counts_of s.counts; registers = s.registers; verilog_bytes = s.verilog_bytes }
