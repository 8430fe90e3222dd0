use Rattle.std.proofs.Common.{◌++◌, option_to_list, take, ap, sym, ◌∙◌}
use Rattle.port_checks.specs.Numbers.{numbers_of}
use Rattle.port_checks.proofs.Numbering.{numbers_more}
use Rattle.port_checks.proofs.numbers.numbers_of.Goals as goal

pub loop-position-preserved : goal.loop-position-preserved
loop-position-preserved c =
    c.in_ok-push_number.ensures
    ∙ ap (λ xs. xs ++ option_to_list c.port_number-number.result) c.loop-position.invariant
    ∙ ap (λ x. numbers_of c.args.starts.now (take c.loop-position.position-index c.args.positions.now) ++ option_to_list x) c.port_number-number.ensures
    ∙ sym (numbers_more c.args.starts.now c.args.positions.now c.loop-position.position-index _ c.loop-position-test.true)
