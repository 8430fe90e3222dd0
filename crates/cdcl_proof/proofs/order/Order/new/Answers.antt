use Rattle.std.proofs.Common.{◌≡◌, ◌<◌, ◌+◌, ◌-◌, ◌∙◌, arith}
use Rattle.cdcl_proof.proofs.order.Order.new.Goals as goal

pub returns-clause-all : goal.returns-clause-all
returns-clause-all c v low high =
    let i = c.loop-index.invariant in
    let inside : v - 1 < c.loop-index.index = omega (arith, low, high, c.loop-index-test.false) in
    let back : v - 1 + 1 ≡ v = omega (arith, low) in
    (v - 1, omega (arith, inside, i.0), i.2 (v - 1) inside ∙ back)
