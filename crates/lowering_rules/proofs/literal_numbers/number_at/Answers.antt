use Rattle.std.proofs.Common.{pos, refl}
use Rattle.hw_model.specs.KindViews.{integer_of}
use Rattle.aggregate_laws.specs.OperationRules.{number_at}
use Rattle.lowering_rules.proofs.Offsets.{position_index, position_past}
use Rattle.lowering_rules.proofs.literal_numbers.number_at.Goals as goal

pub returns-in-Some : goal.returns-in-Some
returns-in-Some c =
    let h = c.in-Some.ensures.lookup in
    position_index number_at integer_of (λ y ys. refl) (λ y ys n. refl) c.args.numbers.now c.args.offset c.in-Some.number.now h.3.0 h.1

pub returns-in-None : goal.returns-in-None
returns-in-None c =
    let h = c.in-None.ensures.lookup in
    position_past number_at integer_of (pos 0) (λ n. refl) (λ y ys n. refl) c.args.numbers.now c.args.offset h.3
