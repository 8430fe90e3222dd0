use Rattle.std.proofs.Common.{◌≡◌, ◌++◌, map}
use Rattle.hw_model.specs.KindViews.{literal_of}
use Rattle.mlir_reader.proofs.Constants.{kept_of}
use Rattle.mlir_reader.proofs.kinds.+keep_literal.Given as goal

abbrev pub invariant-kept_literals-loop-literal : goal.invariant-kept_literals-loop-literal
invariant-kept_literals-loop-literal l = map literal_of l.literals.items ++ map kept_of l.literal-iterator.rest.items ≡ map kept_of l.fn.list.literals.items
