use Rattle.std.proofs.Common.{sym, ap, ◌∙◌, ◌++◌, append-nil}
use Rattle.and_gates.proofs.clocks.push_clock.Goals as goal

pub returns-in_ok-push-in-Some : goal.returns-in_ok-push-in-Some
returns-in_ok-push-in-Some c = λ b. c.in_ok-push-in-Some.ensures.items ∙ ap (λ xs. c.args.ports.now.items ++ xs) (c.in-Some.ensures b)

pub returns-in-None : goal.returns-in-None
returns-in-None c = λ b. sym (append-nil c.args.ports.now.items) ∙ ap (λ xs. c.args.ports.now.items ++ xs) (c.in-None.ensures b)
