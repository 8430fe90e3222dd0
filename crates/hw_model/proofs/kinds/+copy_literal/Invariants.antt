use Rattle.std.proofs.Common.{◌≡◌, take, map}
use Rattle.hw_model.specs.KindViews.{literal_of}
use Rattle.hw_model.proofs.kinds.+copy_literal.Given as goal

abbrev pub invariant-LiteralList::try_clone-loop-literal : goal.invariant-LiteralList::try_clone-loop-literal
invariant-LiteralList::try_clone-loop-literal l = map literal_of l.literals.items ≡ map literal_of (take l.literal-index l.literal-items)
