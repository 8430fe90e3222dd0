use Rattle.std.proofs.Common.{◌≡◌, map, drop}
use Rattle.hw_model.specs.KindViews.{literal_of, literals_of}
use Rattle.op_checks.specs.LiteralChecks.{any_failing_leaf}
use Rattle.op_checks.proofs.literal_checks.+has_failing_leaf.Given as goal

abbrev pub invariant-any_failing_leaf-loop-literal : goal.invariant-any_failing_leaf-loop-literal
invariant-any_failing_leaf-loop-literal l = any_failing_leaf l.test (literals_of (map literal_of l.literals)) ≡ any_failing_leaf l.test (literals_of (map literal_of (drop l.literal-index l.literals)))
