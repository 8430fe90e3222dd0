use Rattle.std.proofs.Common.{◌≡◌, sym, ap, subst, ◌∙◌, [], ◌∷◌, ◌++◌, get_or, false, arith, append_assoc, append-nil}
use Rattle.gates.specs.declared.signal.Signal.TheVariants.{Fixed}
use Rattle.gates.specs.Circuits.{Runs}
use Rattle.gate_words.specs.GateLists.{tried, divided}
use Rattle.gate_words.proofs.divisions.divide.Goals as goal
use Rattle.gate_words.proofs.Widths.{divided_next, divided_end}

pub loop-x-preserved : goal.loop-x-preserved
loop-x-preserved c =
    let same : c.deref.result.now ≡ c.loop-x.left.items = c.deref.ensures.value in
    let bits = c.loop-x.bits.items in
    let bit = c.in_ok-bit.bit in
    let next = c.in_ok-bit.next.items in
    let xs = c.args.xs.now in
    let d = c.args.divisor.now in
    let i = c.loop-x.x-index in
    record {
      width = c.in_ok-bit.ensures.width;
      rest = λ u q r run.
          let joined : bits ++ bit ∷ q ≡ c.push.new.self.items ++ q = sym (ap (λ ss. ss ++ q) c.in_ok-push.ensures.items ∙ append_assoc bits (bit ∷ []) q) in
          subst (λ w. Runs (divided xs d) c.args.gates.now u (record { quotient = w; rest = r })) joined
          (c.loop-x.invariant.rest u (bit ∷ q) r
          (divided_next c.loop-x.left.items next xs d bits bit i (Fixed false) (omega arith)
          (subst (λ ss. Runs (tried ss (get_or xs i (Fixed false)) d) c.loop-x.gates c.division_step.new.gates (record { bit = bit; rest = next })) same c.in_ok-bit.ensures.runs) run));
    }

pub returns : goal.returns
returns c =
    subst (λ q. Runs (divided c.args.xs.now c.args.divisor.now) c.args.gates.now c.loop-x.gates (record { quotient = q; rest = c.loop-x.left.items }))
    (append-nil c.loop-x.bits.items)
    (c.loop-x.invariant.rest c.loop-x.gates [] c.loop-x.left.items (divided_end c.loop-x.left.items c.args.xs.now c.args.divisor.now c.loop-x.x-index (omega arith)))
