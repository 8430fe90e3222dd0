use Rattle.std.proofs.Common.{sym, ap, subst, ◌∙◌, List, length, IfOk, Vec, Global}
use Rattle.gates.specs.declared.signal.Signal.{Signal}
use Rattle.gates.specs.Circuits.{Runs}
use Rattle.gate_words.specs.GateLists.{rest, negated, signed_rest}
use Rattle.gate_words.proofs.divisions.signed_rest.Goals as goal
use Rattle.gate_words.proofs.Widths.{runs_last_by, length-negated}

pub rest-requires : goal.rest-requires
rest-requires c =
    ap length c.deref.ensures.value ∙ ap length c.in_ok-a.ensures.is
    ∙ length-negated c.top.result c.args.xs.now c.args.gates.now.inputs c.args.gates.now.gates ∙ c.requires
    ∙ sym (ap length c.deref-2.ensures.value ∙ ap length c.in_ok-b.ensures.is
    ∙ length-negated c.top-2.result c.args.divisor.now c.negate.new.gates.inputs c.negate.new.gates.gates)

pub returns : goal.returns
unfolding signed_rest
returns c =
    let xs = c.args.xs.now in
    let d = c.args.divisor.now in
    let a = c.in_ok-a.a.items in
    let b = c.in_ok-b.b.items in
    let view : Vec Signal Global → List Signal = λ v. v.items in
    runs_last_by _ _ view c.negate-3.result (subst (λ s. Runs (negated s xs) c.args.gates.now c.negate.new.gates a) c.top.ensures c.in_ok-a.ensures)
    (runs_last_by _ _ view c.negate-3.result (subst (λ s. Runs (negated s d) c.negate.new.gates c.negate-2.new.gates b) c.top-2.ensures c.in_ok-b.ensures)
    (runs_last_by _ _ view c.negate-3.result
    (subst (λ ss. Runs (rest ss b) c.negate-2.new.gates c.rest.new.gates c.in_ok-r.r.items) c.deref.ensures.value
    (subst (λ zs. Runs (rest c.deref.result.now zs) c.negate-2.new.gates c.rest.new.gates c.in_ok-r.r.items) c.deref-2.ensures.value c.in_ok-r.ensures))
    (subst (λ s. IfOk c.negate-3.result (λ v. Runs (negated s c.in_ok-r.r.items) c.rest.new.gates c.negate-3.new.gates v.items)) c.top-3.ensures
    (subst (λ ss. IfOk c.negate-3.result (λ v. Runs (negated c.top-3.result ss) c.rest.new.gates c.negate-3.new.gates v.items)) c.deref-3.ensures.value c.negate-3.ensures))))
