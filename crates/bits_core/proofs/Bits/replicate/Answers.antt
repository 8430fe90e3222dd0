use Rattle.std.proofs.Common.{◌≡◌, ap, ◌∙◌, ℕ, arith}
use Rattle.bits_core.specs.Word.{copies}
use Rattle.bits_core.proofs.Storage.{copies_fit}
use Rattle.bits_core.proofs.Bits.replicate.Goals as goal

pub concat-all-requires : goal.concat-all-requires
concat-all-requires c =
    rw c.loop.invariant
    (copies_fit c.loop.counter c.args.count c.args.self.now c.loop-test.true c.requires.within)

pub returns : goal.returns
returns c =
    let all : c.loop.counter ≡ c.args.count = omega arith in
    c.loop.invariant ∙ ap (λ (n : ℕ). copies n c.args.self.now) all
