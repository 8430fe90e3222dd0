use Rattle.std.proofs.Common.{◌≡◌, sym, ap, subst, ◌∙◌, length, IfOk}
use Rattle.gates.specs.Circuits.{Runs}
use Rattle.gate_words.specs.GateLists.{less, top_inverted}
use Rattle.gate_words.proofs.sums.signed_less.Goals as goal
use Rattle.gate_words.proofs.Stages.{length-top_inverted}

pub less-requires : goal.less-requires
less-requires c =
    ap length c.deref.ensures.value ∙ ap length c.in_ok-first.ensures ∙ length-top_inverted c.args.xs.now ∙ c.requires
    ∙ sym (ap length c.deref-2.ensures.value ∙ ap length c.in_ok-second.ensures ∙ length-top_inverted c.args.ys.now)

pub returns : goal.returns
returns c =
    let one : c.deref.result.now ≡ top_inverted c.args.xs.now = c.deref.ensures.value ∙ c.in_ok-first.ensures in
    let two : c.deref-2.result.now ≡ top_inverted c.args.ys.now = c.deref-2.ensures.value ∙ c.in_ok-second.ensures in
    subst (λ ss. IfOk c.less.result (Runs (less ss (top_inverted c.args.ys.now)) c.args.gates.now c.less.new.gates)) one
    (subst (λ zs. IfOk c.less.result (Runs (less c.deref.result.now zs) c.args.gates.now c.less.new.gates)) two c.less.ensures)
