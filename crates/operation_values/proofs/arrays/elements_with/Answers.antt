use Rattle.std.proofs.Common.{◌-◌, ◌++◌, refl, ap, sym, ◌∙◌}
use Rattle.hw_model.specs.TypeViews.{type_of}
use Rattle.hw_model.specs.Value.{injected_below}
use Rattle.operation_values.proofs.Pieces.{piece_more, injected_top}
use Rattle.operation_values.proofs.arrays.elements_with.Goals as goal

pub loop-left-preserved : goal.loop-left-preserved
loop-left-preserved c =
    let top = injected_top c.loop-left.left (type_of c.args.ty.now) c.args.word.now c.args.index c.args.value.now c.loop-left-test.true in
    piece_more c.loop-left.part _ (injected_below (c.loop-left.left - 1) (type_of c.args.ty.now) c.args.word.now c.args.index c.args.value.now) c.push_bits.new.self _
    (ap (λ z. c.loop-left.part ++ z) (sym top) ∙ c.loop-left.invariant)
    (rw (c.in_ok-push_bits.ensures, c.as_slice.ensures, c.in_ok-next.ensures.value, c.from.ensures) refl)
