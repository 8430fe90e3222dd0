use Rattle.std.proofs.Common.{◌∙◌}
use Rattle.hw_model.specs.KindViews.{kind_of}
use Rattle.cse_pass.proofs.SameOps.{other_kinds, not_constant}
use Rattle.cse_pass.proofs.equal_ops.is_same_kind.Goals as goal

pub returns-in_default : goal.returns-in_default
returns-in_default c =
    c.eq.ensures
    ∙ other_kinds _ (kind_of c.args.a.now) (kind_of c.args.b.now) (not_constant c.args.a.now c.in_default.not-Constant c.in_default.not-AggregateConstant)
