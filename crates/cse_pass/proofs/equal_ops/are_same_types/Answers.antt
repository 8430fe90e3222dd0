use Rattle.std.proofs.Common.{arith, map, sym}
use Rattle.std.specs.Cmp.Lexicographic.{unequal}
use Rattle.std.proofs.lemmas.List.{length-map}
use Rattle.hw_model.specs.SameType.{same_type}
use Rattle.hw_model.specs.TypeViews.{type_of}
use Rattle.cse_pass.proofs.equal_ops.are_same_types.Goals as goal

pub returns-then-xs-ys : goal.returns-then-xs-ys
returns-then-xs-ys c =
    sym (unequal same_type (map type_of c.args.xs.now) (map type_of c.args.ys.now)
    (λ e. omega (arith, e, length-map c.args.xs.now type_of, length-map c.args.ys.now type_of)))
