use Rattle.std.proofs.Common.{◌≡◌, ◌<◌, length, get_or, nat_lt, slice_index_or, ap, sym, ◌∙◌}
use Rattle.std.proofs.lemmas.Bool.{ltb-true}
use Rattle.fresh_names.specs.TakenViews.{taken_names}
use Rattle.mlir_printer.specs.Choices.{name_chosen}
use Rattle.mlir_printer.proofs.names.Numbered.{first_at}
use Rattle.mlir_printer.proofs.names.Choices.{name_at}
use Rattle.mlir_printer.proofs.chosen_names.ChosenNames.nth.Goals as goal

pub returns-in-Some-Word : goal.returns-in-Some-Word
returns-in-Some-Word c =
    let self = c.args.self.now in
    let words = taken_names self.words in
    let choice = c.in-Some-Word.field-0.now in
    let found = c.in-Some-Word.ensures.lookup in
    let lt : c.args.number < length self.choices.items = ltb-true c.args.number (length self.choices.items) (ap (λ l. nat_lt c.args.number (length l)) (sym c.deref.ensures.value) ∙ sym found.0) in
    let at : choice ≡ get_or self.choices.items c.args.number choice = found.1 ∙ ap (λ l. slice_index_or l c.args.number choice) c.deref.ensures.value in
    first_at c.in-Some-Word.id.index words c.name.result.now c.name.ensures
    ∙ ap (name_chosen words) (sym c.in-Some-Word.field-0-is)
    ∙ name_at words self.choices.items c.args.number choice lt at

pub returns-in-Some-Number : goal.returns-in-Some-Number
returns-in-Some-Number c =
    let self = c.args.self.now in
    let words = taken_names self.words in
    let choice = c.in-Some-Number.field-0.now in
    let found = c.in-Some-Number.ensures.lookup in
    let lt : c.args.number < length self.choices.items = ltb-true c.args.number (length self.choices.items) (ap (λ l. nat_lt c.args.number (length l)) (sym c.deref.ensures.value) ∙ sym found.0) in
    let at : choice ≡ get_or self.choices.items c.args.number choice = found.1 ∙ ap (λ l. slice_index_or l c.args.number choice) c.deref.ensures.value in
    c.digits.ensures
    ∙ ap (name_chosen words) (sym c.in-Some-Number.field-0-is)
    ∙ name_at words self.choices.items c.args.number choice lt at
