use Rattle.std.proofs.Common.{subst, IfOk}
use Rattle.gates.specs.Circuits.{Runs}
use Rattle.gate_words.specs.GateLists.{moved, moved_down}
use Rattle.gate_words.proofs.shifts.shifted_right_signed.Goals as goal

pub returns : goal.returns
returns c =
    subst (λ s. IfOk c.shift.result (λ v. Runs (moved (moved_down s) c.args.xs.now c.args.amount.now) c.args.gates.now c.shift.new.gates v.items)) c.top.ensures c.shift.ensures
