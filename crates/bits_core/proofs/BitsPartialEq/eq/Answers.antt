use Rattle.std.proofs.Common.{◌≡◌, sym, ◌∙◌, length, ne_eqb}
use Rattle.bits_core.proofs.Order.{same_word-lengths, same_word-number}
use Rattle.bits_core.proofs.BitsPartialEq.eq.Goals as goal

pub returns-then-width : goal.returns-then-width
returns-then-width c =
    let same : length c.args.self.now ≡ length c.args.other.now = cc in
    cc (same_word-number c.args.self.now c.args.other.now same)

pub returns-else-width : goal.returns-else-width
returns-else-width c =
    ne_eqb c.width.result c.width-2.result c.if-width.false
    ∙ sym (same_word-lengths c.args.self.now c.args.other.now (λ e. c.if-width.false (c.width.ensures.value ∙ e ∙ sym c.width-2.ensures.value)))
