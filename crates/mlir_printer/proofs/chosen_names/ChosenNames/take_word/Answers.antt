use Rattle.std.proofs.Common.{◌≡◌, ◌+◌, ◌<◌, ◌≤◌, ◌^◌, ◌++◌, ◌∷◌, [], false, length, subst, arith, ap, sym, ◌∙◌}
use Rattle.std.proofs.lemmas.List.{length-map}
use Rattle.fresh_names.specs.Fresh.{free_name}
use Rattle.fresh_names.specs.TakenViews.{taken_names}
use Rattle.fresh_names.proofs.Taken.{one_more}
use Rattle.mlir_lexer.specs.Classes.{is_digit}
use Rattle.mlir_lexer.specs.Runs.{begins}
use Rattle.mlir_printer.specs.ChosenViews.{names_in}
use Rattle.mlir_printer.specs.Choices.{AreKnown, HaveWords, AreFree, names_chosen, name_chosen}
use Rattle.mlir_printer.specs.declared.chosen_names.Choice.TheVariants.{Word}
use Rattle.mlir_printer.proofs.names.Choices.{names_word, known_word, words_word, free_word, free_same}
use Rattle.mlir_printer.proofs.names.GivenNames.{begins_free}
use Rattle.mlir_printer.proofs.chosen_names.ChosenNames.take_word.Goals as goal

pub invariant_of-self-2 : goal.invariant_of-self-2
invariant_of-self-2 c =
    let self = c.args.self.now in
    let words = taken_names self.words in
    let x = free_name words c.args.wanted.now in
    let choices : c.push_reserved.new.self.items ≡ self.choices.items ++ Word c.in_ok-id.id ∷ [] =
    c.push_reserved.ensures.items ∙ ap (λ l. l ++ Word c.in_ok-id.id ∷ []) c.reserve.ensures.items in
    let names : names_chosen (taken_names c.take.new.self) c.push_reserved.new.self.items ≡ names_in self ++ x ∷ [] =
    names_word words (taken_names c.take.new.self) self.choices.items c.push_reserved.new.self.items self.numbered x c.in_ok-id.id self.known c.in_ok-id.ensures.id c.in_ok-id.ensures.ok choices in
    let more : length c.push_reserved.new.self.items ≡ length self.choices.items + 1 = omega (arith, c.push_reserved.ensures.len, c.reserve.ensures.len) in
    let one : length (taken_names c.take.new.self) ≡ length words + 1 = ap length c.in_ok-id.ensures.ok ∙ one_more words x in
    let small : length words < 2 ^ 64 = omega (arith, self.few, self.fewer) in
    let word : begins is_digit x ≡ false = begins_free words c.args.wanted.now c.requires.some small ∙ c.requires.word in
    let count : length (names_in self) ≡ length self.choices.items = length-map self.choices.items (name_chosen words) in
    record {
      few = omega (arith, more, count, c.in_ok-number.ensures.0, c.in_ok-number.ensures.1);
      fewer = omega (arith, more, one, self.fewer);
      numbers = omega (arith, more, self.numbers);
      spelled = self.spelled;
      known =
          subst (AreKnown (length (taken_names c.take.new.self)) self.numbered) (sym choices)
          (subst (λ k. AreKnown k self.numbered (self.choices.items ++ Word c.in_ok-id.id ∷ [])) (sym one)
          (known_word (length words) self.numbered self.choices.items c.in_ok-id.id c.in_ok-id.ensures.id self.known));
      same =
          subst (HaveWords (taken_names c.take.new.self)) (sym names)
          (subst (λ l. HaveWords l (names_in self ++ x ∷ [])) (sym c.in_ok-id.ensures.ok) (words_word words (names_in self) x self.same));
      free = subst (λ l. AreFree l self.numbered) (sym names) (free_word (names_in self) x self.numbered word self.free);
    }

pub returns-clause-names : goal.returns-clause-names
returns-clause-names c =
    let self = c.args.self.now in
    let words = taken_names self.words in
    let wanted = c.args.wanted.now in
    let count : length (names_in self) ≡ length self.choices.items = length-map self.choices.items (name_chosen words) in
    let less : length words ≤ length (names_in self) = omega (arith, count, self.fewer) in
    let small : length words + 1 < 2 ^ 64 = omega (arith, self.few, self.fewer) in
    names_word words (taken_names c.take.new.self) self.choices.items c.push_reserved.new.self.items self.numbered (free_name words wanted) c.in_ok-id.id self.known c.in_ok-id.ensures.id
    c.in_ok-id.ensures.ok (c.push_reserved.ensures.items ∙ ap (λ l. l ++ Word c.in_ok-id.id ∷ []) c.reserve.ensures.items)
    ∙ ap (λ x. names_in self ++ x ∷ []) (free_same words (names_in self) wanted c.requires.some c.requires.word self.same less small)
