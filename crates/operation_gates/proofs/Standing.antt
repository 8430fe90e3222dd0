-- Where the gates of a gate list stand, and how wide its word is.
use Rattle.std.proofs.Common.{◌≡◌, refl, sym, subst, ◌∙◌, ℕ, ◌+◌, List, [], ◌∷◌, map, length, Option, None}
use Rattle.bits_core.specs.Word.{Word}
use Rattle.gates.specs.declared.signal.Gate.{Gate}
use Rattle.gates.specs.declared.signal.Signal.{Signal}
use Rattle.gates.specs.Order.{AreInOrder}
use Rattle.gates.proofs.Instances.{variables_in_order}
use Rattle.gate_words.specs.Computes.{word_of}
use Rattle.gate_words.proofs.Words.CarriesWord.{none, more}
use Rattle.gate_words.proofs.Words.{CarriesWord, word_length}
use Rattle.gate_words.proofs.Computing.{counting}
use Rattle.hw_model.specs.Types.{HwType, width}
use Rattle.hw_model.specs.Types.HwType.{int}
use Rattle.hw_model.specs.Kinds.{Kind}
use Rattle.hw_model.specs.Kinds.Kind.{aggregate_constant, on_array, on_struct, instance, output, register, async_firreg}
use Rattle.hw_model.specs.Design.{register_form, instance_in}
use Rattle.hw_model.specs.Sound.{HaveWidths, Fits}
use Rattle.hw_model.proofs.Widths.{fits_width}
use Rattle.operation_gates.specs.OperationGateLists.{gate_list_of}
use Rattle.operation_gates.specs.Operands.{IsPlain, IsShort, TakesWidths}
use Rattle.operation_gates.specs.WordOrder.{AreSignalsWithin, AreWordsWithin}
use Rattle.operation_gates.proofs.WordLists.CarriesWords.{no_words, one_more}
use Rattle.operation_gates.proofs.WordLists.{CarriesWords, carries_any_words, lengths-word_of}
use Rattle.operation_gates.proofs.KindGateLists.{makes-gate_list}
use Rattle.operation_gates.proofs.Fitting.{takes_widths}

-- ---- order

carries_within : (inputs n : ℕ) (x : List Signal) → AreSignalsWithin n x → CarriesWord (variables_in_order inputs) n (word_of [] x) x
carries_within inputs n [] h = none
carries_within inputs n (s ∷ x) h = more _ _ _ _ h.0 (carries_within inputs n x h.1)

words_within : (inputs n : ℕ) (xs : List (List Signal)) → AreWordsWithin n xs → CarriesWords (variables_in_order inputs) n (map (word_of []) xs) xs
words_within inputs n [] h = no_words
words_within inputs n (x ∷ xs) h = one_more _ _ _ _ (carries_within inputs n x h.0) (words_within inputs n xs h.1)

within_carried : (inputs n : ℕ) (w : Word) (x : List Signal) → CarriesWord (variables_in_order inputs) n w x → AreSignalsWithin n x
within_carried inputs n _ _ none = tt
within_carried inputs n _ _ (more b w s x h t) = (h, within_carried inputs n w x t)

-- new gates stand in order after those there are, and the gate list's signals are of variables that there then are
pub record Stands (inputs : ℕ) (gates new : List Gate) (x : List Signal) : Type 0 where
  pub order : AreInOrder (inputs + length gates) new
  pub within : AreSignalsWithin (inputs + length gates + length new) x

pub gate_list_stands : (kind : Kind) (w inputs : ℕ) (gates : List Gate) (xs : List (List Signal)) → TakesWidths kind w (map length xs) → IsShort kind w
    → AreInOrder inputs gates → AreWordsWithin (inputs + length gates) xs
    → Stands inputs gates (gate_list_of kind w xs inputs gates).gates (gate_list_of kind w xs inputs gates).got
gate_list_stands kind w inputs gates xs takes short order within =
    let n = inputs + length gates in
    let made =
    (makes-gate_list (variables_in_order inputs) n kind [] (int w) 0 (map (word_of []) xs) xs (words_within inputs n xs within)
    (subst (TakesWidths kind w) (sym (lengths-word_of [] xs)) takes) short).runs gates refl tt order tt in
    record { order = made.good; within = within_carried inputs _ _ _ made.is }

-- ---- width

no_register : (kind : Kind) → IsPlain kind → register_form kind ≡ None
no_register (aggregate_constant ls) plain = absurd plain
no_register (on_array a) plain = absurd plain
no_register (on_struct s) plain = absurd plain
no_register (instance i) plain = absurd plain
no_register output plain = absurd plain
no_register (register f r) plain = absurd plain
no_register async_firreg plain = absurd plain
no_register _ plain = refl

no_instance : (kind : Kind) → IsPlain kind → instance_in kind ≡ None
no_instance (aggregate_constant ls) plain = absurd plain
no_instance (on_array a) plain = absurd plain
no_instance (on_struct s) plain = absurd plain
no_instance (instance i) plain = absurd plain
no_instance output plain = absurd plain
no_instance (register f r) plain = absurd plain
no_instance async_firreg plain = absurd plain
no_instance _ plain = refl

pub gate_list_width : (kind : Kind) (ts : List HwType) (types : List (Option HwType)) (t : HwType) (k inputs : ℕ) (gates : List Gate) (xs : List (List Signal))
    → IsPlain kind → IsShort kind (width t) → Fits kind ts types t k → HaveWidths types (map (word_of []) xs)
    → length (gate_list_of kind (width t) xs inputs gates).got ≡ width t
gate_list_width kind ts types t k inputs gates xs plain short fits have =
    let us = map (word_of []) xs in
    let n = inputs + length gates in
    let made =
    (makes-gate_list (counting inputs) n kind ts t k us xs (carries_any_words inputs n [] xs) (takes_widths kind ts types t k us plain fits have) short).runs gates refl tt tt tt in
    word_length (counting inputs) _ _ _ made.is ∙ fits_width kind ts types t k us (no_register kind plain) (no_instance kind plain) fits have
