use Rattle.std.proofs.Common.{◌≡◌, ◌+◌, ◌<◌, ◌^◌, ◌++◌, ◌∷◌, [], length, decimal, subst, arith, ap, sym, ◌∙◌}
use Rattle.std.proofs.lemmas.List.{length-map}
use Rattle.fresh_names.specs.TakenViews.{taken_names}
use Rattle.mlir_printer.specs.ChosenViews.{names_in}
use Rattle.mlir_printer.specs.Choices.{AreKnown, HaveWords, AreFree, names_chosen, name_chosen}
use Rattle.mlir_printer.specs.declared.chosen_names.Choice.TheVariants.{Number}
use Rattle.mlir_printer.proofs.names.Choices.{number_more, known_number, words_number, free_number, number_free}
use Rattle.mlir_printer.proofs.chosen_names.ChosenNames.take_number.Goals as goal

pub invariant_of-self-2 : goal.invariant_of-self-2
invariant_of-self-2 c =
    let self = c.args.self.now in
    let words = taken_names self.words in
    let n = self.numbered in
    let choices : c.push_reserved.new.self.items ≡ self.choices.items ++ Number n ∷ [] =
    c.push_reserved.ensures.items ∙ ap (λ l. l ++ Number n ∷ []) c.reserve.ensures.items in
    let names : names_chosen words c.push_reserved.new.self.items ≡ names_in self ++ decimal n ∷ [] =
    ap (names_chosen words) choices ∙ number_more words self.choices.items n in
    let more : length c.push_reserved.new.self.items ≡ length self.choices.items + 1 = omega (arith, c.push_reserved.ensures.len, c.reserve.ensures.len) in
    let count : length (names_in self) ≡ length self.choices.items = length-map self.choices.items (name_chosen words) in
    let small : n < 2 ^ 64 = omega (arith, self.few, self.numbers) in
    record {
      few = omega (arith, more, count, c.in_ok-number.ensures.0, c.in_ok-number.ensures.1);
      fewer = omega (arith, more, self.fewer);
      numbers = omega (arith, more, self.numbers);
      spelled = omega (arith, c.in_ok-reach.ensures.reached);
      known = subst (AreKnown (length words) (n + 1)) (sym choices) (known_number (length words) n self.choices.items self.known);
      same = subst (HaveWords words) (sym names) (words_number words (names_in self) n small self.same);
      free = subst (λ l. AreFree l (n + 1)) (sym names) (free_number (names_in self) n self.free);
    }

pub returns-clause-chosen : goal.returns-clause-chosen
returns-clause-chosen c =
    let self = c.args.self.now in
    let words = taken_names self.words in
    let n = self.numbered in
    let small : n < 2 ^ 64 = omega (arith, self.few, self.numbers) in
    ap (λ l. record { names = names_chosen words l; next = n + 1 }) (c.push_reserved.ensures.items ∙ ap (λ l. l ++ Number n ∷ []) c.reserve.ensures.items)
    ∙ ap (λ l. record { names = l; next = n + 1 })
    (number_more words self.choices.items n ∙ ap (λ x. names_in self ++ x ∷ []) (sym (number_free (names_in self) n small self.free)))
