use Rattle.std.proofs.Common.{◌≡◌, subst, length, arith}
use Rattle.gates.specs.Circuits.{Runs}
use Rattle.gates.proofs.Running.{runs-done, runs_then}
use Rattle.gate_words.specs.GateLists.{Total, sum, no_bits, negated}
use Rattle.gate_words.proofs.sums.negate.Goals as goal

pub returns : goal.returns
unfolding negated
returns c =
    let bits = c.in_ok-bits.bits.items in
    let width : c.len.result ≡ length bits = omega (arith, c.len.ensures, c.in_ok-bits.bits.ok.0) in
    let one : c.deref.result.now ≡ bits = cc (c.deref.ensures.value) in
    let two : c.deref-2.result.now ≡ no_bits (length bits) = cc (c.deref-2.ensures.value, c.in_ok-zeros.ensures, width) in
    let total : Total = record { word = c.in_ok-word.word.items; carry = c.in_ok-word.field-0-1 } in
    runs_then _ c.in_ok-bits.ensures
    (runs_then _
    (subst (λ ss. Runs (sum ss (no_bits (length bits)) c.args.condition) c.invert_if.new.gates c.sum.new.gates total) one
    (subst (λ zs. Runs (sum c.deref.result.now zs c.args.condition) c.invert_if.new.gates c.sum.new.gates total) two c.in_ok-word.ensures))
    runs-done)
