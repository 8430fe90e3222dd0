use Rattle.std.proofs.Common.{◌≡◌, sym, ap, subst, ◌∙◌, length, false}
use Rattle.gates.specs.declared.signal.Signal.TheVariants.{Fixed}
use Rattle.gates.specs.Circuits.{Runs}
use Rattle.gates.proofs.Running.{runs-done, runs_then}
use Rattle.gate_words.specs.GateLists.{Total, sum, doubled, product_step}
use Rattle.gate_words.proofs.products.product_step.Goals as goal
use Rattle.gate_words.proofs.Widths.{length-masked, length-sum_word, length-doubled}

pub sum-requires : goal.sum-requires
sum-requires c =
    let one : c.deref.result.now ≡ doubled c.args.so_far.now = cc (c.deref.ensures.value, c.in_ok-twice.ensures) in
    let two : c.deref-2.result.now ≡ c.in_ok-part.part.items = cc (c.deref-2.ensures.value) in
    ap length one ∙ length-doubled c.args.so_far.now ∙ c.requires
    ∙ sym (ap length two ∙ ap length c.in_ok-part.ensures.is ∙ length-masked c.args.bit c.args.xs.now c.args.gates.now.inputs c.args.gates.now.gates)

pub returns-clause-runs : goal.returns-clause-runs
unfolding product_step
returns-clause-runs c =
    let one : c.deref.result.now ≡ doubled c.args.so_far.now = cc (c.deref.ensures.value, c.in_ok-twice.ensures) in
    let two : c.deref-2.result.now ≡ c.in_ok-part.part.items = cc (c.deref-2.ensures.value) in
    let total : Total = record { word = c.in_ok-word.word.items; carry = c.in_ok-word.field-0-1 } in
    runs_then _ c.in_ok-part.ensures
    (runs_then _
    (subst (λ ss. Runs (sum ss c.in_ok-part.part.items (Fixed false)) c.mask.new.gates c.sum.new.gates total) one
    (subst (λ zs. Runs (sum c.deref.result.now zs (Fixed false)) c.mask.new.gates c.sum.new.gates total) two c.in_ok-word.ensures))
    runs-done)

pub returns-clause-width : goal.returns-clause-width
returns-clause-width c =
    let one : c.deref.result.now ≡ doubled c.args.so_far.now = cc (c.deref.ensures.value, c.in_ok-twice.ensures) in
    let two : c.deref-2.result.now ≡ c.in_ok-part.part.items = cc (c.deref-2.ensures.value) in
    let first : length c.deref.result.now ≡ length c.args.xs.now = ap length one ∙ length-doubled c.args.so_far.now ∙ c.requires in
    let second : length c.deref-2.result.now ≡ length c.args.xs.now =
    ap length two ∙ ap length c.in_ok-part.ensures.is ∙ length-masked c.args.bit c.args.xs.now c.args.gates.now.inputs c.args.gates.now.gates in
    ap (λ (t : Total). length t.word) c.in_ok-word.ensures.is
    ∙ length-sum_word c.deref.result.now c.deref-2.result.now (Fixed false) c.mask.new.gates.inputs c.mask.new.gates.gates (first ∙ sym second) ∙ first
