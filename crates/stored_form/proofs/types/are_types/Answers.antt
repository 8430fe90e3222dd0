use Rattle.hw_model.specs.TypeViews.{type_of}
use Rattle.stored_form.specs.Limits.{IsAnyType}
use Rattle.stored_form.proofs.Lists.{not_each}
use Rattle.stored_form.proofs.types.are_types.Goals as goal

pub returns-then-not-is_any_type : goal.returns-then-not-is_any_type
returns-then-not-is_any_type c =
    not_each IsAnyType type_of c.args.types.now c.loop-ty.ty-index c.ty-item.result c.is_any_type.result c.loop-ty-test.true c.ty-item.is c.is_any_type.ensures c.if-not-is_any_type.true
