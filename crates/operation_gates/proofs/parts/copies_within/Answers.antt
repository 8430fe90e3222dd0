use Rattle.std.proofs.Common.{ap, ◌∙◌, ◌+◌, ◌-◌, ◌++◌, ◌/◌, length, arith}
use Rattle.hw_model.specs.Types.{list_copies}
use Rattle.operation_gates.proofs.KnownBits.{copy_more}
use Rattle.operation_gates.proofs.parts.copies_within.Goals as goal

pub loop-copy-preserved : goal.loop-copy-preserved
loop-copy-preserved c =
    let x = c.args.word.now in
    let count = c.args.width / length x in
    let i = c.loop-copy._copy in
    ap (λ z. z ++ list_copies (count - (i + 1)) x) c.in_ok-extend_from_slice.ensures.items
    ∙ copy_more count i c.loop-copy.made.items x (list_copies count x) (omega arith) c.loop-copy.invariant
