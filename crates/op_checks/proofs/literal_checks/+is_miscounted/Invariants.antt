use Rattle.std.proofs.Common.{◌≡◌, map, drop}
use Rattle.hw_model.specs.TypeViews.{type_of, field_of, fields_of}
use Rattle.hw_model.specs.KindViews.{literal_of, literals_of}
use Rattle.op_checks.specs.LiteralChecks.{any_miscounted, are_miscounted}
use Rattle.op_checks.proofs.literal_checks.+is_miscounted.Given as goal

abbrev pub invariant-any_miscounted-loop-literal : goal.invariant-any_miscounted-loop-literal
invariant-any_miscounted-loop-literal l = any_miscounted (literals_of (map literal_of l.literals)) (type_of l.ty) ≡ any_miscounted (literals_of (map literal_of (drop l.literal-index l.literals))) (type_of l.ty)

abbrev pub invariant-are_miscounted-loop-literal : goal.invariant-are_miscounted-loop-literal
invariant-are_miscounted-loop-literal l = are_miscounted (literals_of (map literal_of l.literals)) (fields_of (map field_of l.fields))
    ≡ are_miscounted (literals_of (map literal_of l.literal-iterator.a.rest.now)) (fields_of (map field_of l.literal-iterator.b.rest.now))
