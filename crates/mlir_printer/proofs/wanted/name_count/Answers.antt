use Rattle.std.proofs.Common.{arith}
use Rattle.printing_laws.specs.NameHints.{name_hints_of}
use Rattle.printing_laws.proofs.NameCounts.{instance_length}
use Rattle.mlir_printer.proofs.wanted.name_count.Goals as goal

pub returns-in-Instance : goal.returns-in-Instance
unfolding name_hints_of
returns-in-Instance c = grind (arith, instance_length)
