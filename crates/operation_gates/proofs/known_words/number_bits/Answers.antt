use Rattle.std.proofs.Common.{◌≡◌, ap, subst, ◌∙◌, ◌-◌, ◌/◌, ◌%◌, ◌^◌, ◌==◌, length, drop, arith, length-set}
use Rattle.std.proofs.Math.Nat.{sub-zero}
use Rattle.std.proofs.lemmas.List.{drop_all}
use Rattle.bits_core.specs.Word.{bits}
use Rattle.gates.specs.declared.signal.Signal.TheVariants.{Fixed}
use Rattle.operation_gates.specs.OperationGateLists.{known_word}
use Rattle.operation_gates.proofs.KnownBits.{bits_before, half_before}
use Rattle.operation_gates.proofs.known_words.number_bits.Goals as goal

pub loop-i-init : goal.loop-i-init
loop-i-init c =
    let w = c.args.width in
    let n = c.args.value in
    let room : length c.in_ok-made.made.items ≡ w = omega (arith, c.in_ok-made.ensures.len) in
    let none : 0 ≡ w - w = omega arith in
    let whole : n ≡ n / 1 = omega arith in
    record {
      within = omega arith;
      room = room;
      rest = whole ∙ ap (λ k. n / 2 ^ k) none;
      low = drop_all w c.in_ok-made.made.items (omega arith) ∙ ap (λ k. known_word (bits k n)) none;
    }

pub loop-i-preserved : goal.loop-i-preserved
loop-i-preserved c =
    let kept = c.loop-i.invariant in
    let made = c.loop-i.made.items in
    let w = c.args.width in
    let i = c.loop-i.i in
    record {
      within = omega arith;
      room = length-set made (i - 1) (Fixed (c.loop-i.left % 2 == 1)) ∙ kept.room;
      rest = half_before w i c.args.value c.loop-i.left (omega arith) kept.within kept.rest;
      low = bits_before w i c.args.value c.loop-i.left made (omega arith) kept.within kept.room kept.rest kept.low;
    }

pub returns : goal.returns
returns c =
    let w = c.args.width in
    let made = c.loop-i.made.items in
    let zero : c.loop-i.i ≡ 0 = omega arith in
    let rest : drop 0 made ≡ known_word (bits (w - 0) c.args.value) = subst (λ k. drop k made ≡ known_word (bits (w - k) c.args.value)) zero c.loop-i.invariant.low in
    rest ∙ ap (λ k. known_word (bits k c.args.value)) (sub-zero w)
