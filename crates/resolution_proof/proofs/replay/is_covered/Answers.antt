use Rattle.std.proofs.Common.{◌++◌, ◌&&◌, Bool, ap, ◌∙◌, sym}
use Rattle.resolution_proof.specs.Replay.{learnt_clauses}
use Rattle.resolution_proof.proofs.Chains.{is_subset-chain_end, covers_hints}
use Rattle.resolution_proof.proofs.replay.is_covered.Goals as goal

pub returns-then-not-is_part_covered : goal.returns-then-not-is_part_covered
returns-then-not-is_part_covered c =
    let known = c.args.given.now ++ learnt_clauses c.args.steps.now in
    sym (is_subset-chain_end known c.args.start.now c.args.hints.now c.args.clause.now ∙ ap (λ (b : Bool). b && covers_hints known c.args.clause.now c.args.hints.now) (sym c.if-not-is_part_covered.ensures))

pub loop-first-init : goal.loop-first-init
loop-first-init c =
    let known = c.args.given.now ++ learnt_clauses c.args.steps.now in
    is_subset-chain_end known c.args.start.now c.args.hints.now c.args.clause.now ∙ ap (λ (b : Bool). b && covers_hints known c.args.clause.now c.args.hints.now) (sym c.if-not-is_part_covered.ensures)
