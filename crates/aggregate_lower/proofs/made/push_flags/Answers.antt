use Rattle.std.proofs.Common.{◌≡◌, ◌+◌, ◌-◌, ◌++◌, ◌∷◌, [], replicate, ap, ◌∙◌, arith, append_assoc}
use Rattle.std.proofs.lemmas.List.{replicate_more}
use Rattle.aggregate_lower.proofs.made.push_flags.Goals as goal

pub loop-preserved : goal.loop-preserved
loop-preserved c =
    let next : (c.loop.counter - c.args.low) + 1 ≡ c.loop.counter + 1 - c.args.low = omega (arith, c.loop.auto.counter) in
    record {
      put = c.in_ok-push.ensures.items ∙ ap (λ xs. xs ++ c.args.flag ∷ []) c.loop.invariant.put
          ∙ append_assoc c.args.flags.now.items (replicate (c.loop.counter - c.args.low) c.args.flag) (c.args.flag ∷ [])
          ∙ ap (λ xs. c.args.flags.now.items ++ xs) (replicate_more (c.loop.counter - c.args.low) c.args.flag ∙ ap (λ n. replicate n c.args.flag) next);
      few = omega (arith, c.loop.auto.counter, c.loop-test.true);
    }

pub returns : goal.returns
returns c =
    let all : c.loop.counter - c.args.low ≡ c.args.high - c.args.low = omega (arith, c.loop.invariant.few, c.loop-test.false) in
    c.loop.invariant.put ∙ ap (λ n. c.args.flags.now.items ++ replicate n c.args.flag) all
