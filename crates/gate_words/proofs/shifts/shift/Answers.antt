use Rattle.std.proofs.Common.{◌≡◌, sym, ap, subst, ◌∙◌, List, length, IfOk, Vec, Global}
use Rattle.gates.specs.declared.signal.Signal.{Signal}
use Rattle.gates.specs.Build.{choice}
use Rattle.gates.specs.Circuits.{Runs}
use Rattle.gate_words.specs.GateLists.{each, moved}
use Rattle.gate_words.specs.Directions.{move_of}
use Rattle.gate_words.proofs.shifts.shift.Goals as goal
use Rattle.gate_words.proofs.Stages.{length-move}
use Rattle.gate_words.proofs.Widths.{runs_last_by}

pub each-requires : goal.each-requires
each-requires c =
    ap length c.deref.ensures.value ∙ ap length c.in_ok-out.ensures ∙ length-move c.args.direction c.args.xs.now (length c.args.xs.now)
    ∙ sym (ap length c.deref-2.ensures.value ∙ c.in_ok-word.ensures.width)

pub returns : goal.returns
unfolding moved
returns c =
    let xs = c.args.xs.now in
    let word = c.in_ok-word.word.items in
    let view : Vec Signal Global → List Signal = λ v. v.items in
    let out : c.deref.result.now ≡ move_of c.args.direction xs (length xs) = c.deref.ensures.value ∙ c.in_ok-out.ensures in
    runs_last_by _ _ view c.each.result c.in_ok-word.ensures.runs
    (subst (λ ss. IfOk c.each.result (λ v. Runs (each (choice c.in_ok-word.is_out) ss word) c.moved_from.new.gates c.each.new.gates v.items)) out
    (subst (λ zs. IfOk c.each.result (λ v. Runs (each (choice c.in_ok-word.is_out) c.deref.result.now zs) c.moved_from.new.gates c.each.new.gates v.items)) c.deref-2.ensures.value c.each.ensures))
