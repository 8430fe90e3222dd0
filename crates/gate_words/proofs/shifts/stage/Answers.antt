use Rattle.std.proofs.Common.{◌≡◌, sym, ap, subst, ◌∙◌, length}
use Rattle.gates.specs.Build.{choice}
use Rattle.gates.specs.Circuits.{Runs}
use Rattle.gate_words.specs.GateLists.{Shifted, stage, each}
use Rattle.gate_words.specs.Directions.{move_of}
use Rattle.gate_words.proofs.shifts.stage.Goals as goal
use Rattle.gate_words.proofs.Stages.{stage_near, stage_far, length-move}
use Rattle.gate_words.proofs.Widths.{length-each}

pub each-requires : goal.each-requires
each-requires c = ap length c.deref.ensures.value ∙ ap length c.in_ok-far.ensures ∙ length-move c.args.direction c.args.word.now c.args.distance

pub returns-then-distance-word-clause-runs : goal.returns-then-distance-word-clause-runs
returns-then-distance-word-clause-runs c =
    let far : c.deref.result.now ≡ move_of c.args.direction c.args.word.now c.args.distance = c.deref.ensures.value ∙ c.in_ok-far.ensures in
    let low : Shifted = record { word = c.args.word.now; is_out = c.args.is_out } in
    stage_near (move_of c.args.direction) (length c.args.word.now) c.args.distance c.args.bit low c.in_ok-next.next.items c.if-distance-word.true
    (subst (λ ss. Runs (each (choice c.args.bit) ss c.args.word.now) c.args.gates.now c.each.new.gates c.in_ok-next.next.items) far c.in_ok-next.ensures)

pub returns-then-distance-word-clause-width : goal.returns-then-distance-word-clause-width
returns-then-distance-word-clause-width c =
    let far : length c.deref.result.now ≡ length c.args.word.now =
    ap length c.deref.ensures.value ∙ ap length c.in_ok-far.ensures ∙ length-move c.args.direction c.args.word.now c.args.distance in
    ap length c.in_ok-next.ensures.is
    ∙ length-each (choice c.args.bit) c.deref.result.now c.args.word.now c.args.gates.now.inputs c.args.gates.now.gates far ∙ far

pub returns-clause-runs : goal.returns-clause-runs
returns-clause-runs c =
    let low : Shifted = record { word = c.args.word.now; is_out = c.args.is_out } in
    subst (λ w. Runs (stage (move_of c.args.direction) (length c.args.word.now) c.args.distance c.args.bit low) c.args.gates.now c.or.new.self (record { word = w; is_out = c.in_ok-out.out })) (sym c.in_ok-same.ensures.items)
    (stage_far (move_of c.args.direction) (length c.args.word.now) c.args.distance c.args.bit low c.in_ok-out.out c.if-distance-word.false c.in_ok-out.ensures)
