use Rattle.std.proofs.Common.{sym, subst}
use Rattle.hw_model.specs.KindViews.{kind_of}
use Rattle.operation_gates.specs.Operands.{TakesWords}
use Rattle.operation_gates.proofs.Taking.{takes_words}
use Rattle.operation_gates.proofs.operations.gate_list.Goals as goal

pub family_gate_list-requires : goal.family_gate_list-requires
family_gate_list-requires c =
    subst (λ k. TakesWords k c.args.width c.args.operands.now) (sym c.family.ensures) (takes_words (kind_of c.args.kind.now) c.args.width c.args.operands.now c.requires)
