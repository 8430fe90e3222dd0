use Rattle.std.proofs.Common.{ap, ◌∙◌}
use Rattle.bits_core.specs.Word.{bits_of_ℤ}
use Rattle.hw_model.specs.KindViews.{integer_of}
use Rattle.flat_module_gates.specs.FlatSteps.{known_bits}
use Rattle.flat_module_gates.proofs.Loading.{known_is}
use Rattle.flat_module_gates.proofs.registers.constant_bits.Goals as goal

pub returns-in_ok-bits-in-Constant : goal.returns-in_ok-bits-in-Constant
returns-in_ok-bits-in-Constant c =
    rw c.in-Constant.is (ap known_bits c.in_ok-bits-in-Constant.ensures ∙ known_is _ ∙ ap (λ w. bits_of_ℤ w (integer_of c.in-Constant.value)) c.in_ok-first_bits-in-Constant.ensures)
