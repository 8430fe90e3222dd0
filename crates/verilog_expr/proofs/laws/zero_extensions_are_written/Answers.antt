use Rattle.std.proofs.Common.{[]}
use Rattle.verilog_expr.proofs.Bodies.{name_stays}
use Rattle.verilog_expr.proofs.WrittenZeros.{bare_written, braces_written}
use Rattle.verilog_expr.proofs.laws.zero_extensions_are_written.Goals as goal

pub returns-clause-bare : goal.returns-clause-bare
returns-clause-bare c = bare_written

pub returns-clause-braced : goal.returns-clause-braced
returns-clause-braced c = braces_written

pub returns-clause-one_way : goal.returns-clause-one_way
returns-clause-one_way c = λ named ports os ex writable acyclic are. name_stays named ports os ex (λ n. 0) (λ n. []) writable acyclic are
