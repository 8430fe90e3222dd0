use Rattle.std.proofs.Common.{◌≡◌, subst, get_or, false, arith}
use Rattle.gates.specs.declared.signal.Signal.TheVariants.{Fixed}
use Rattle.gates.specs.Circuits.{Runs}
use Rattle.gate_words.specs.GateLists.{product_step}
use Rattle.gate_words.proofs.products.product.Goals as goal
use Rattle.gate_words.proofs.Widths.{product_next, product_end}

pub loop-y-preserved : goal.loop-y-preserved
loop-y-preserved c =
    let same : c.deref.result.now ≡ c.loop-y.so_far.items = cc (c.deref.ensures.value) in
    record {
      width = c.in_ok-so_far-2.ensures.width;
      rest = λ u r run. c.loop-y.invariant.rest u r
          (product_next c.loop-y.so_far.items c.in_ok-so_far-2.so_far.items c.args.xs.now c.args.ys.now c.loop-y.y-index (Fixed false) (omega arith)
          (subst (λ ss. Runs (product_step ss c.args.xs.now (get_or c.args.ys.now c.loop-y.y-index (Fixed false))) c.loop-y.gates c.product_step.new.gates c.in_ok-so_far-2.so_far.items) same c.in_ok-so_far-2.ensures.runs) run);
    }

pub returns : goal.returns
returns c = c.loop-y.invariant.rest c.loop-y.gates c.loop-y.so_far.items (product_end c.loop-y.so_far.items c.args.xs.now c.args.ys.now c.loop-y.y-index (omega arith))
