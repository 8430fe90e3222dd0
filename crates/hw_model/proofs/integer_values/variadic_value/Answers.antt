use Rattle.std.proofs.Common.{◌≡◌, ◌+◌, ◌-◌, ◌<◌, arith, ap, sym, ◌∙◌, length}
use Rattle.std.proofs.lemmas.List.{drop_all}
use Rattle.hw_model.specs.FamilyViews.{variadic_of}
use Rattle.hw_model.specs.Value.{variadic_value, with_operand}
use Rattle.hw_model.proofs.Operands.{fold_more, variadic_folds, variadic_has, width_from, alike}
use Rattle.hw_model.proofs.integer_values.variadic_value.Goals as goal

pub loop-left-init : goal.loop-left-init
loop-left-init c = record {
  within = omega arith;
  value = c.value_of_none-all.ensures ∙ ap (variadic_value (variadic_of c.args.op) c.args.width) (sym (drop_all (length c.args.operands.now) c.args.operands.now (omega arith)));
}

pub with_operand-all-requires : goal.with_operand-all-requires
with_operand-all-requires c =
    let v = variadic_of c.args.op in
    let at : c.loop-left.left - 1 < length c.args.operands.now = omega arith in
    alike c.args.width c.args.operands.now (c.loop-left.left - 1) c.index-operands-left.result c.loop-left.all c.requires.words at c.index-operands-left.is
    (width_from (variadic_value v c.args.width) c.args.width (variadic_has v c.args.width) c.args.operands.now c.loop-left.left c.loop-left.all c.requires.words c.loop-left.invariant.value)

pub loop-left-preserved : goal.loop-left-preserved
loop-left-preserved c =
    let v = variadic_of c.args.op in
    let at : c.loop-left.left - 1 < length c.args.operands.now = omega arith in
    let next : c.loop-left.left - 1 + 1 ≡ c.loop-left.left = omega arith in
    record {
      within = omega arith;
      value = fold_more (variadic_value v c.args.width) (with_operand v) c.args.width (variadic_folds v c.args.width) c.args.operands.now (c.loop-left.left - 1) c.loop-left.left
          c.index-operands-left.result c.loop-left.all c.with_operand-all.result c.requires.words next at c.index-operands-left.is c.loop-left.invariant.value c.with_operand-all.ensures;
    }
