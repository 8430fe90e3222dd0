-- Each byte is one of the last token, a space, or the first of a token; what is got and what is left stay the passes of the text.
use Rattle.std.proofs.Common.{arith}
use Rattle.pass_pipeline.proofs.Reading.{skips, passes_space, token_at, goes_on, fails, ends}
use Rattle.pass_pipeline.proofs.pipeline.read_pipeline.Goals as goal

pub loop-at-preserved-then-following-gt0 : goal.loop-at-preserved-then-following-gt0
loop-at-preserved-then-following-gt0 c =
    skips c.args.offered.now c.args.text.now c.loop-at.passes.items c.loop-at.expected c.loop-at.following c.loop-at.at
    (omega (arith, c.loop-at-test.true)) (omega (arith, c.if-following-gt0.true)) c.loop-at.invariant

pub loop-at-preserved-then-byte-eq32 : goal.loop-at-preserved-then-byte-eq32
loop-at-preserved-then-byte-eq32 c =
    passes_space c.args.offered.now c.args.text.now c.loop-at.passes.items c.loop-at.expected c.loop-at.following c.loop-at.at
    (omega (arith, c.loop-at-test.true)) (omega (arith, c.if-following-gt0.false)) c.if-byte-eq32.true c.loop-at.invariant

pub returns-in-Err : goal.returns-in-Err
returns-in-Err c =
    fails c.args.offered.now c.args.text.now c.loop-at.passes.items c.loop-at.expected c.loop-at.following c.loop-at.at c.token_in-token.result.now c.in-Err.fail
    (omega (arith, c.loop-at-test.true)) (omega (arith, c.if-following-gt0.false)) c.if-byte-eq32.false (token_at c.args.text.now c.loop-at.at c.token_in-token.result.now c.token_in-token.ensures) c.in-Err.ensures
    c.loop-at.invariant

pub loop-at-preserved : goal.loop-at-preserved
loop-at-preserved c =
    goes_on c.args.offered.now c.args.text.now c.loop-at.passes.items c.loop-at.expected c.loop-at.following c.loop-at.at c.token_in-token.result.now c.in-Ok.step
    c.push_named.new.passes.items c.saturating_sub-following.result
    (omega (arith, c.loop-at-test.true)) (omega (arith, c.if-following-gt0.false)) c.if-byte-eq32.false (token_at c.args.text.now c.loop-at.at c.token_in-token.result.now c.token_in-token.ensures) c.in-Ok.ensures
    c.in_ok-push_named-in-Ok.ensures c.saturating_sub-following.ensures c.loop-at.invariant

pub returns : goal.returns
returns c =
    ends c.args.offered.now c.args.text.now c.loop-at.passes.items c.loop-at.expected c.loop-at.following c.loop-at.at c.finish.result
    (omega (arith, c.loop-at-test.false, c.loop-at.auto.at-end)) c.loop-at.invariant c.finish.ensures
