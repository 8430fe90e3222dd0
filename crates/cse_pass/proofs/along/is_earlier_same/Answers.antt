use Rattle.std.proofs.Common.{sym, ap₂, ◌∙◌}
use Rattle.cse_pass.specs.Same.{are_same_ops}
use Rattle.cse_pass.proofs.along.is_earlier_same.Goals as goal

pub op-requires : goal.op-requires
op-requires c = c.contains.ensures.0 c.if-not-contains.false

pub returns-then-stands_before : goal.returns-then-stands_before
returns-then-stands_before c = λ is. record {
  there = c.contains.ensures.0 c.if-not-contains.false;
  before = sym c.stands_before.ensures ∙ c.if-stands_before.true;
  same = ap₂ are_same_ops c.op.ensures c.op-then-stands_before.ensures ∙ sym c.are_same.ensures ∙ is;
}
