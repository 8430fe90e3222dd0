use Rattle.std.proofs.Common.{◌≡◌, ◌+◌, ◌-◌, ◌<◌, arith, length}
use Rattle.hw_model.proofs.Operands.{joined_within}
use Rattle.hw_model.proofs.integer_values.concat_value.Goals as goal

pub concat-all-requires : goal.concat-all-requires
concat-all-requires c =
    let at : c.loop-left.left - 1 < length c.args.operands.now = omega arith in
    let next : c.loop-left.left - 1 + 1 ≡ c.loop-left.left = omega arith in
    omega (
      arith,
      c.requires.within,
      joined_within c.args.operands.now (c.loop-left.left - 1) c.loop-left.left c.index-operands-left-in-loop-left.result c.loop-left.all
          next at c.index-operands-left-in-loop-left.is c.loop-left.invariant.value,
    )
