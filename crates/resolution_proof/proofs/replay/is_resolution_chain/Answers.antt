use Rattle.std.proofs.Common.{◌++◌, ◌+◌, ◌&&◌, Bool, take, drop, ap, ◌∙◌, sym}
use Rattle.resolution_proof.specs.Replay.{learnt_clauses, is_chain, chain_end}
use Rattle.resolution_proof.proofs.Chains.{chain_at}
use Rattle.resolution_proof.proofs.replay.is_resolution_chain.Goals as goal

pub loop-i-preserved : goal.loop-i-preserved
loop-i-preserved c =
    let known = c.args.given.now ++ learnt_clauses c.args.steps.now in
    let rest = is_chain known (chain_end known c.args.start.now (take (c.loop-i.i + 1) c.args.hints.now)) (drop (c.loop-i.i + 1) c.args.hints.now) in
    c.loop-i.invariant
    ∙ chain_at known c.args.start.now c.args.hints.now c.loop-i.i (record { clause = 0; pivot = 0 }) c.loop-i-test.true
    ∙ ap (λ (b : Bool). b && rest) (sym c.if-not-is_fitting.ensures)
