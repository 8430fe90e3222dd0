use Rattle.std.proofs.Common.{◌≡◌, sym, ap, subst, ◌∙◌, suc, ◌-◌, [], ◌∷◌, ◌++◌, length, drop, true, arith, length-drop}
use Rattle.gates.specs.declared.signal.Signal.TheVariants.{Fixed}
use Rattle.gates.specs.Build.{choice}
use Rattle.gates.specs.Circuits.{Runs}
use Rattle.gates.proofs.Running.{runs-done, runs_then}
use Rattle.gate_words.specs.GateLists.{tried, sum, each, inverses, Total}
use Rattle.gate_words.proofs.divisions.division_step.Goals as goal
use Rattle.gate_words.proofs.Widths.{length-sum_word, length-each, length-wide, length-complement}

pub sum-requires : goal.sum-requires
sum-requires c =
    let one : c.deref.result.now ≡ c.args.rest.now ++ c.args.bit ∷ [] = c.deref.ensures.value ∙ c.in_ok-wide.ensures in
    let two : c.deref-2.result.now ≡ Fixed true ∷ inverses c.args.divisor.now = c.deref-2.ensures.value ∙ c.in_ok-complement.ensures in
    length-wide c.args.rest.now c.args.divisor.now c.deref.result.now c.args.bit one c.requires
    ∙ sym (length-complement c.args.divisor.now c.deref-2.result.now two)

pub each-requires : goal.each-requires
each-requires c =
    let d = c.args.divisor.now in
    let one : length c.deref.result.now ≡ suc (length d) =
    length-wide c.args.rest.now d c.deref.result.now c.args.bit (c.deref.ensures.value ∙ c.in_ok-wide.ensures) c.requires in
    let two : length c.deref-2.result.now ≡ suc (length d) =
    length-complement d c.deref-2.result.now (c.deref-2.ensures.value ∙ c.in_ok-complement.ensures) in
    let less : length c.in_ok-less.less.items ≡ suc (length d) =
    ap (λ (t : Total). length t.word) c.in_ok-less.ensures.is
    ∙ length-sum_word c.deref.result.now c.deref-2.result.now (Fixed true) c.args.gates.now.inputs c.args.gates.now.gates (one ∙ sym two) ∙ one in
    ap length c.deref-3.ensures.value ∙ less
    ∙ sym (length-wide c.args.rest.now d c.deref-4.result.now c.args.bit (c.deref-4.ensures.value ∙ c.in_ok-wide.ensures) c.requires)

pub returns-clause-runs : goal.returns-clause-runs
unfolding tried
returns-clause-runs c =
    let d = c.args.divisor.now in
    let wide = c.args.rest.now ++ c.args.bit ∷ [] in
    let total : Total = record { word = c.in_ok-less.less.items; carry = c.in_ok-less.enough } in
    let one : c.deref.result.now ≡ wide = c.deref.ensures.value ∙ c.in_ok-wide.ensures in
    let two : c.deref-2.result.now ≡ Fixed true ∷ inverses d = c.deref-2.ensures.value ∙ c.in_ok-complement.ensures in
    let three : c.deref-3.result.now ≡ c.in_ok-less.less.items = c.deref-3.ensures.value in
    let four : c.deref-4.result.now ≡ wide = c.deref-4.ensures.value ∙ c.in_ok-wide.ensures in
    let low : c.in_ok-low.low.items ≡ drop 1 c.in_ok-kept.kept.items = c.in_ok-low.ensures ∙ ap (λ ss. drop 1 ss) c.deref-5.ensures.value in
    subst (λ w. Runs (tried c.args.rest.now c.args.bit d) c.args.gates.now c.each.new.gates (record { bit = c.in_ok-less.enough; rest = w })) (sym low)
    (runs_then _
    (subst (λ ss. Runs (sum ss (Fixed true ∷ inverses d) (Fixed true)) c.args.gates.now c.sum.new.gates total) one
    (subst (λ zs. Runs (sum c.deref.result.now zs (Fixed true)) c.args.gates.now c.sum.new.gates total) two c.in_ok-less.ensures))
    (runs_then _
    (subst (λ ss. Runs (each (choice c.in_ok-less.enough) ss wide) c.sum.new.gates c.each.new.gates c.in_ok-kept.kept.items) three
    (subst (λ zs. Runs (each (choice c.in_ok-less.enough) c.deref-3.result.now zs) c.sum.new.gates c.each.new.gates c.in_ok-kept.kept.items) four c.in_ok-kept.ensures))
    runs-done))

pub returns-clause-width : goal.returns-clause-width
returns-clause-width c =
    let d = c.args.divisor.now in
    let one : length c.deref.result.now ≡ suc (length d) =
    length-wide c.args.rest.now d c.deref.result.now c.args.bit (c.deref.ensures.value ∙ c.in_ok-wide.ensures) c.requires in
    let two : length c.deref-2.result.now ≡ suc (length d) =
    length-complement d c.deref-2.result.now (c.deref-2.ensures.value ∙ c.in_ok-complement.ensures) in
    let less : length c.deref-3.result.now ≡ suc (length d) =
    ap length c.deref-3.ensures.value ∙ ap (λ (t : Total). length t.word) c.in_ok-less.ensures.is
    ∙ length-sum_word c.deref.result.now c.deref-2.result.now (Fixed true) c.args.gates.now.inputs c.args.gates.now.gates (one ∙ sym two) ∙ one in
    let four : length c.deref-4.result.now ≡ suc (length d) =
    length-wide c.args.rest.now d c.deref-4.result.now c.args.bit (c.deref-4.ensures.value ∙ c.in_ok-wide.ensures) c.requires in
    let kept : length c.in_ok-kept.kept.items ≡ suc (length d) =
    ap length c.in_ok-kept.ensures.is
    ∙ length-each (choice c.in_ok-less.enough) c.deref-3.result.now c.deref-4.result.now c.sum.new.gates.inputs c.sum.new.gates.gates (less ∙ sym four) ∙ less in
    ap length c.in_ok-low.ensures ∙ ap (λ ss. length (drop 1 ss)) c.deref-5.ensures.value
    ∙ length-drop 1 c.in_ok-kept.kept.items ∙ (let e : length c.in_ok-kept.kept.items - 1 ≡ length d = omega arith in e)
