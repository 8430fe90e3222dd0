use Rattle.std.proofs.Common.{◌≡◌, ap, subst, ◌∙◌, suc, ◌-◌, ◌^◌, ◌<◌, ◌≤◌, false, length, get_or, arith}
use Rattle.gates.specs.declared.signal.Signal.TheVariants.{Fixed}
use Rattle.gates.specs.Circuits.{Runs}
use Rattle.gate_words.specs.GateLists.{Shifted, stage}
use Rattle.gate_words.specs.Directions.{move_of}
use Rattle.gate_words.proofs.shifts.moved_from.Goals as goal
use Rattle.gate_words.proofs.Stages.{moved_before, moved_start, twice_more, twice_same}

pub loop-i-init : goal.loop-i-init
loop-i-init c =
    let none : 0 ≡ length c.args.amount.now - length c.args.amount.now = omega arith in
    let one : 1 ≡ 2 ^ (length c.args.amount.now - length c.args.amount.now) = ap (λ n. 2 ^ n) none in
    record {
      within = omega arith;
      width = ap length c.in_ok-word.ensures.items;
      more = omega (arith, one);
      same = λ near. one;
      runs = moved_start (move_of c.args.direction) c.args.xs.now c.args.amount.now c.in_ok-word.word.items _ (omega arith) c.in_ok-word.ensures.items;
    }

pub loop-i-preserved : goal.loop-i-preserved
loop-i-preserved c =
    let kept = c.loop-i.invariant in
    let xs = c.args.xs.now in
    let ys = c.args.amount.now in
    let f = move_of c.args.direction in
    let i = c.loop-i.i in
    let d = c.loop-i.distance in
    let word = c.loop-i.word.items in
    let bit = get_or ys (i - 1) (Fixed false) in
    let low : Shifted = record { word = word; is_out = c.loop-i.is_out } in
    let next : Shifted = record { word = c.in_ok-next.next.items; is_out = c.in_ok-next.out } in
    let seen : c.deref.result.now ≡ word = c.deref.ensures.value in
    let some : 0 < i = omega arith in
    let size : suc (length ys - i) ≡ length ys - (i - 1) = omega (arith, some, kept.within) in
    record {
      within = omega arith;
      width = c.in_ok-next.ensures.width ∙ ap length seen ∙ kept.width;
      more = subst (λ k. c.saturating_mul-distance.result ≤ 2 ^ k) size (twice_more d c.saturating_mul-distance.result (length ys - i) _ c.saturating_mul-distance.ensures kept.more);
      same = λ near.
          twice_same d c.saturating_mul-distance.result (length ys - i) (length xs) _ c.saturating_mul-distance.ensures kept.same (omega arith) near
          ∙ ap (λ k. 2 ^ k) size;
      runs = moved_before f xs ys i d (Fixed false) low next some kept.within kept.more kept.same kept.runs
          (subst (λ n. Runs (stage f n d bit low) c.loop-i.gates c.stage.new.gates next) kept.width
          (subst (λ ss. Runs (stage f (length ss) d bit (record { word = ss; is_out = c.loop-i.is_out })) c.loop-i.gates c.stage.new.gates next) seen c.in_ok-next.ensures.runs));
    }
