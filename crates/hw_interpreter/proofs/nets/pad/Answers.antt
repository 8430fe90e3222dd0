use Rattle.std.proofs.Common.{refl}
use Rattle.hw_interpreter.proofs.Steps.{first_parts}
use Rattle.hw_interpreter.proofs.nets.pad.Goals as goal

pub returns : goal.returns
returns c = rw (first_parts c.args.width c.args.bits.now, c.in_ok-push_bits.ensures, c.in_ok-word.ensures, c.first_bits.ensures, c.as_slice-2.ensures, c.in_ok-more.ensures, c.as_slice.ensures)
    (rw (c.in_ok-word.ensures, c.first_bits.ensures) refl)
