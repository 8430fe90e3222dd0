use Rattle.std.proofs.Common.{◌≡◌, map, drop}
use Rattle.hw_model.specs.TypeViews.{type_of, field_of, fields_of}
use Rattle.hw_model.specs.KindViews.{literal_of, literals_of}
use Rattle.op_checks.specs.LiteralChecks.{any_literal_differs, literals_differ}
use Rattle.op_checks.proofs.literal_checks.+literal_differs.Given as goal

abbrev pub invariant-any_literal_differs-loop-literal : goal.invariant-any_literal_differs-loop-literal
invariant-any_literal_differs-loop-literal l = any_literal_differs (literals_of (map literal_of l.literals)) (type_of l.ty) ≡ any_literal_differs (literals_of (map literal_of (drop l.literal-index l.literals))) (type_of l.ty)

abbrev pub invariant-literals_differ-loop-literal : goal.invariant-literals_differ-loop-literal
invariant-literals_differ-loop-literal l = literals_differ (literals_of (map literal_of l.literals)) (fields_of (map field_of l.fields))
    ≡ literals_differ (literals_of (map literal_of l.literal-iterator.a.rest.now)) (fields_of (map field_of l.literal-iterator.b.rest.now))
