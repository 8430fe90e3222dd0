use Rattle.std.proofs.Common.{◌≡◌, ap, subst, ◌∙◌, IfOk}
use Rattle.bits_core.specs.Word.{bits, not_word}
use Rattle.gate_words.specs.GateLists.{inverses}
use Rattle.operation_gates.specs.OperationGateLists.{known_word}
use Rattle.operation_gates.proofs.KnownBits.{inverses-known}
use Rattle.operation_gates.proofs.known_words.inverted_bits.Goals as goal

pub returns : goal.returns
returns c =
    let u = bits c.args.width c.args.value in
    let is : inverses c.deref.result.now ≡ known_word (not_word u) = ap inverses (c.deref.ensures.value ∙ c.in_ok-bits.ensures) ∙ inverses-known u in
    subst (λ ss. IfOk c.inverses.result (λ v. v.items ≡ ss)) is c.inverses.ensures
