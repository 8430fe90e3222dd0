use Rattle.std.proofs.Common.{◌-◌, ◌++◌, refl, ap, sym, ◌∙◌, arith}
use Rattle.hw_model.specs.TypeViews.{type_of}
use Rattle.hw_model.specs.Value.{elements_from}
use Rattle.operation_values.proofs.Pieces.{piece_more, elements_top}
use Rattle.operation_values.proofs.arrays.elements.Goals as goal

pub loop-left-preserved : goal.loop-left-preserved
loop-left-preserved c =
    let top = elements_top c.loop-left.left (type_of c.args.ty.now) c.args.word.now c.args.low c.loop-left-test.true in
    record {
      within = omega (arith, c.loop-left.invariant.within);
      split = piece_more c.loop-left.part _ (elements_from (type_of c.args.ty.now) c.args.word.now c.args.low (c.loop-left.left - 1)) c.push_bits.new.self _
          (ap (λ z. c.loop-left.part ++ z) (sym top) ∙ c.loop-left.invariant.split)
          (rw (c.in_ok-push_bits.ensures, c.as_slice.ensures, c.in_ok-next.ensures.value, c.from.ensures) refl);
    }
