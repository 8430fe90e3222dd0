use Rattle.std.proofs.Common.{◌≡◌, subst, IfOk}
use Rattle.operation_gates.proofs.KnownBits.{known-replicate}
use Rattle.operation_gates.proofs.known_words.bit_copies.Goals as goal

pub returns : goal.returns
returns c = subst (λ ss. IfOk c.copies.result (λ v. v.items ≡ ss)) (known-replicate c.args.width c.args.bit) c.copies.ensures
