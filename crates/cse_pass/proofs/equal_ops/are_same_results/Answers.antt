use Rattle.std.proofs.Common.{arith, map, sym}
use Rattle.std.specs.Cmp.Lexicographic.{unequal}
use Rattle.std.proofs.lemmas.List.{length-map}
use Rattle.hw_model.specs.Design.{OpResult}
use Rattle.hw_model.specs.SameType.{same_type}
use Rattle.ir_store.specs.OperationViews.{result_of}
use Rattle.cse_pass.proofs.equal_ops.are_same_results.Goals as goal

pub returns-then-xs-ys : goal.returns-then-xs-ys
returns-then-xs-ys c =
    sym (unequal same_type (map (λ (r : OpResult). r.type) (map result_of c.args.xs.now)) (map (λ (r : OpResult). r.type) (map result_of c.args.ys.now))
    (λ e. omega (arith, e, length-map (map result_of c.args.xs.now) (λ (r : OpResult). r.type), length-map (map result_of c.args.ys.now) (λ (r : OpResult). r.type), length-map c.args.xs.now result_of, length-map c.args.ys.now result_of)))
