use Rattle.std.proofs.Common.{take, map}
use Rattle.hw_model.specs.KindViews.{literal_of}
use Rattle.stored_form.specs.Bytes.{Each}
use Rattle.stored_form.specs.Limits.{IsLiteral}
use Rattle.stored_form.proofs.literals.+literal.Given as goal

abbrev pub invariant-are_literals-loop-literal : goal.invariant-are_literals-loop-literal
invariant-are_literals-loop-literal l = Each (λ x. IsLiteral x l.room) (map literal_of (take l.literal-index l.literals))
