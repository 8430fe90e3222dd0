use Rattle.std.proofs.Common.{map, refl}
use Rattle.hw_model.specs.TypeViews.{field_of, fields_of}
use Rattle.hw_model.specs.KindViews.{literal_of, literals_of}
use Rattle.op_checks.specs.LiteralChecks.{are_miscounted}
use Rattle.std.proofs.lemmas.Slice.Zip.{either_empty_from_Zip}
use Rattle.op_checks.proofs.Lists.{none_miscounted, ended}
use Rattle.op_checks.proofs.literal_checks.+is_miscounted.Goals as goal

pub are_miscounted-returns : goal.are_miscounted-returns
are_miscounted-returns t c =
    ended (λ xs ys. are_miscounted (literals_of (map literal_of xs)) (fields_of (map field_of ys))) (are_miscounted (literals_of (map literal_of c.args.literals.now)) (fields_of (map field_of c.args.fields.now)))
    c.loop-literal.literal-iterator.a.rest.now c.loop-literal.literal-iterator.b.rest.now
    (λ ys. refl) (λ xs. none_miscounted (literals_of (map literal_of xs)))
    (either_empty_from_Zip c.loop-literal.literal-iterator c.next.new.self c.next.result c.in-None.is c.next.ensures.steps)
    c.loop-literal.invariant
