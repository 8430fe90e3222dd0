use Rattle.std.proofs.Common.{map, arith, rules, length, drop, suc, ◌+◌, ◌≡◌, ◌≤◌, ◌∷◌, [], ◌++◌, ap, ap₂, sym, subst, ◌∙◌}
use Rattle.std.proofs.lemmas.List.{drop_all}
use Rattle.hw_interpreter.specs.DesignViews.{module_of}
use Rattle.hw_interpreter.specs.Depth.{run_after_within, run_within}
use Rattle.hw_interpreter.specs.SuitsWithin.{TakesRunAfter}
use Rattle.hw_interpreter.proofs.Counts.{from_position}
use Rattle.operation_values.proofs.Pieces.{piece_last}
use Rattle.hw_interpreter.proofs.Suiting.{run_taken, takes_more}
use Rattle.hw_interpreter.proofs.Within.{run_more, run_holds_of}
use Rattle.hw_interpreter.proofs.machine.run.Goals as goal

pub returns-clause-holds : goal.returns-clause-holds
returns-clause-holds c reaches =
    let past : length c.args.steps.now ≤ c.loop-inputs.inputs-index = omega (arith, c.loop-inputs-test.false) in
    let none : run_after_within (map module_of c.args.modules.now) c.args.top.now c.args.depth c.loop-inputs.before.now c.loop-inputs.held (drop c.loop-inputs.inputs-index c.args.steps.now) ≡ []
    = ap (run_after_within (map module_of c.args.modules.now) c.args.top.now c.args.depth c.loop-inputs.before.now c.loop-inputs.held) (drop_all c.loop-inputs.inputs-index c.args.steps.now past) in
    run_holds_of (map module_of c.args.modules.now) c.args.top.now c.args.depth c.args.content.now c.args.steps.now c.loop-inputs.outputs.items
    (piece_last c.loop-inputs.outputs.items _ _ none c.loop-inputs.invariant.outputs) reaches

pub loop-inputs-preserved : goal.loop-inputs-preserved
loop-inputs-preserved c =
    let here = from_position c.args.steps.now c.loop-inputs.inputs-index c.inputs-item.result (omega (arith, c.loop-inputs-test.true)) c.inputs-item.is in
    let next : suc c.loop-inputs.inputs-index ≡ c.loop-inputs.inputs-index + 1 = omega arith in
    let is : drop c.loop-inputs.inputs-index c.args.steps.now ≡ c.inputs-item.result ∷ drop (c.loop-inputs.inputs-index + 1) c.args.steps.now =
    here ∙ ap (λ k. c.inputs-item.result ∷ drop k c.args.steps.now) next in
    record {
      outputs =
          ap₂ (λ xs b. xs ++ run_after_within (map module_of c.args.modules.now) c.args.top.now c.args.depth b c.in_ok-stepped.stepped.content
          (drop (c.loop-inputs.inputs-index + 1) c.args.steps.now)) c.in_ok-push.ensures.items c.as_slice-before.ensures
          ∙ run_more (map module_of c.args.modules.now) c.args.top.now c.args.depth c.loop-inputs.before.now c.loop-inputs.held (drop c.loop-inputs.inputs-index c.args.steps.now) c.inputs-item.result
          (drop (c.loop-inputs.inputs-index + 1) c.args.steps.now) c.loop-inputs.outputs.items (run_within (map module_of c.args.modules.now) c.args.top.now c.args.depth c.args.content.now c.args.steps.now)
          c.in_ok-stepped.stepped.outputs c.in_ok-stepped.stepped.content is c.in_ok-stepped.ensures.outputs c.in_ok-stepped.ensures.content c.loop-inputs.invariant.outputs;
      takes = λ takes.
          subst (λ b. TakesRunAfter (map module_of c.args.modules.now) c.args.top.now c.args.depth b c.in_ok-stepped.stepped.content (drop (c.loop-inputs.inputs-index + 1) c.args.steps.now)) (sym c.as_slice-before.ensures)
          (takes_more (map module_of c.args.modules.now) c.args.top.now c.args.depth c.loop-inputs.before.now c.loop-inputs.held (drop c.loop-inputs.inputs-index c.args.steps.now) c.inputs-item.result
          (drop (c.loop-inputs.inputs-index + 1) c.args.steps.now) c.in_ok-stepped.stepped.content is c.in_ok-stepped.ensures.content (c.loop-inputs.invariant.takes takes));
    }

pub returns-in_err-stepped-clause-refuses : goal.returns-in_err-stepped-clause-refuses
returns-in_err-stepped-clause-refuses c is takes =
    let here = from_position c.args.steps.now c.loop-inputs.inputs-index c.inputs-item.result (omega (arith, c.loop-inputs-test.true)) c.inputs-item.is in
    let rest = subst (TakesRunAfter (map module_of c.args.modules.now) c.args.top.now c.args.depth c.loop-inputs.before.now c.loop-inputs.held) here (c.loop-inputs.invariant.takes takes) in
    c.in_err-stepped.ensures.refuses (search rules) rest.0

pub returns-in_err-stepped-clause-settles : goal.returns-in_err-stepped-clause-settles
returns-in_err-stepped-clause-settles c is reaches always numbers =
    c.in_err-stepped.ensures.refuses (search rules)
    (run_taken (map module_of c.args.modules.now) c.args.top.now c.args.depth reaches numbers always c.loop-inputs.before.now c.loop-inputs.held (c.inputs-item.result ∷ [])).0
