-- The pieces of operations are read as they are printed.
use Rattle.std.proofs.Common.{◌≡◌, inl, inr, ℕ, ◌≤◌, Bool, true, false, ◌&&◌, ◌||◌, List, [], ◌∷◌, ◌++◌, length, map, drop, refl, ap, arith, append_assoc}
use Rattle.std.proofs.lemmas.Bool.{and_parts}
use Rattle.std.specs.Prelude.{codes}
use Rattle.hw_model.specs.Types.{HwType}
use Rattle.hw_model.specs.Types.HwType.{int}
use Rattle.mlir_syntax.specs.TypeText.{most_open}
use Rattle.mlir_operations.specs.ElementText.{InherentAttributes, Gathered, with_operands, with_types, with_inherent}
use Rattle.mlir_operations.specs.ElementText.InherentAttributes.{with_reset, with_async_reset, predicate, position, number, literals, field_name, child}
use Rattle.mlir_syntax.specs.Spelling.{Phrase, Word, Then, TypePhrase}
use Rattle.mlir_operations.specs.Spelling.{ResetSync, ResetAsync, ResetPhrase, FormatElementPhrase, ElementsPhrase}
use Rattle.assembly_format.specs.declared.elements.FormatElement.{FormatElement}
use Rattle.assembly_format.specs.declared.elements.FormatElement.TheVariants as element
use Rattle.printing_laws.specs.Numbers.{is_one}
use Rattle.mlir_printer.specs.Types.{type_bytes}
use Rattle.mlir_printer.specs.Commas.{commas}
use Rattle.mlir_printer.specs.Elements.{ValueText, Pending, first_operand, first_type_bytes, operand_bytes, predicate_said, position_said, truth_said, number_said, literals_said, field_said}
use Rattle.mlir_printer.specs.Elements.{reset_bytes, reset_said, sync_or_async_reset_said, instance_said, element_bytes, left_after, elements_bytes}
use Rattle.mlir_printer.specs.Spellable.{IsOperand, HasType, HasTwoOperands, MayReset, MaySyncOrAsyncReset, SaysPredicate, SaysPosition, SaysTruth, SaysInteger, SaysLiterals, SaysField, SaysInstance}
use Rattle.mlir_printer.specs.Spellable.{Needs, NeedAll, first_type, gathered_operands_of_reset, gathered_reset, gathered_sync_or_async_reset, gathered_with, gathered_with_all, said_operand}
use Rattle.stored_form.specs.Bytes.{Each}
use Rattle.stored_form.specs.Limits.{IsAnyType}
use Rattle.mlir_printer.proofs.lexed.LexedTexts.{Stops, Whole, Lexed, lexed, lexed_as, whole_as, then, then_on, then_whole, nothing, blank_after, blank_on_whole, left_parenthesis, right_parenthesis}
use Rattle.mlir_printer.proofs.lexed.LexedStrings.{string_lexed}
use Rattle.mlir_printer.proofs.lexed.LexedNames.{bare_lexed}
use Rattle.mlir_printer.proofs.lexed.LexedNumbers.{count_lexed, integer_lexed}
use Rattle.mlir_printer.proofs.lexed.LexedCommas.{comma_blank, commas_lexed, between, each_of}
use Rattle.mlir_printer.proofs.lexed.LexedTypes.{type_lexed}
use Rattle.mlir_printer.proofs.lexed.LexedAttributes.{truth_lexed}
use Rattle.mlir_printer.proofs.lexed.LexedLiterals.{truth_is, aggregate_lexed}
use Rattle.mlir_printer.proofs.lexed.LexedOperands.{operand_lexed, operands_lexed, mark_whole, mark_stops, word_whole, word_stops, predicate_back, predicate_word}
use Rattle.mlir_printer.proofs.lexed.LexedInstances.{instance_lexed}

-- ---- what is said besides operands and types

predicate_element : (e : InherentAttributes) (g : Gathered) → SaysPredicate e
    → Whole (FormatElementPhrase element.Predicate g (with_inherent g e)) (predicate_said e ++ codes " ")
predicate_element (predicate q) g h = whole_as (λ ts w. (q, _, refl, predicate_back q, w)) (predicate_word q)
predicate_element _ g h = absurd h

position_element : (e : InherentAttributes) (g : Gathered) → SaysPosition e → Lexed (FormatElementPhrase element.Number g (with_inherent g e)) (position_said e)
position_element (position n) g h = lexed_as (λ ts w. (n, refl, w)) (count_lexed n h)
position_element _ g h = absurd h

truth_element : (e : InherentAttributes) (g : Gathered) → SaysTruth e → Lexed (FormatElementPhrase element.Truth g (with_inherent (with_types g (int 1 ∷ [])) e)) (truth_said e)
truth_element (number z) g h =
    lexed_as (λ ts w. (is_one z, ap (λ x. with_inherent (with_types g (int 1 ∷ [])) (number x)) (truth_is z h), w)) (truth_lexed (is_one z))
truth_element _ g h = absurd h

integer_element : (e : InherentAttributes) (g : Gathered) → SaysInteger e → Lexed (FormatElementPhrase element.Integer g (with_inherent g e)) (number_said e)
integer_element (number z) g h = lexed_as (λ ts w. (z, refl, w)) (integer_lexed z h)
integer_element _ g h = absurd h

literals_element : (e : InherentAttributes) (g : Gathered) → SaysLiterals e
    → Whole (FormatElementPhrase element.Literals g (with_inherent g e)) (codes "[" ++ (literals_said e ++ codes "]"))
literals_element (literals ls) g h = whole_as (λ ts w. (ls, refl, w)) (aggregate_lexed ls h)
literals_element _ g h = absurd h

field_element : (e : InherentAttributes) (g : Gathered) → SaysField e → Whole (FormatElementPhrase element.Field g (with_inherent g e)) (field_said e)
field_element (field_name name) g h = whole_as (λ ts w. (name, refl, w)) (string_lexed name h)
field_element _ g h = absurd h

instance_element : (e : InherentAttributes) (os : List ValueText) (ts : List HwType) (g : Gathered) → SaysInstance e os ts
    → Lexed (FormatElementPhrase element.Instance g (with_inherent (with_types (with_operands g (map said_operand os)) ts) e)) (instance_said e os ts)
instance_element (child i) os ts g h = instance_lexed g i os ts h
instance_element _ os ts g h = absurd h

-- ---- resets

-- two operands after words
reset_lexed : (Reset : Phrase) (words : List ℕ) → Whole Reset words → (e : InherentAttributes) (os : List ValueText) (g : Gathered) → HasTwoOperands os
    → Lexed (ResetPhrase Reset e g (gathered_operands_of_reset e os g)) (reset_bytes words os)
reset_lexed Reset words whole e os g h =
    lexed_as (λ ts w. (said_operand (first_operand os), said_operand (first_operand (drop 1 os)), refl, w))
    (then_on whole (then (operand_lexed (first_operand os) h.0) (then_on comma_blank (operand_lexed (first_operand (drop 1 os)) h.1)) refl))

reset_word : Whole (Word (codes "reset")) (codes " reset ")
reset_word = blank_on_whole (blank_after (bare_lexed (codes "reset") refl))

sync_words : Whole ResetSync (codes " reset sync ")
sync_words = then_whole reset_word (blank_after (bare_lexed (codes "sync") refl))

async_words : Whole ResetAsync (codes " reset async ")
async_words = then_whole reset_word (blank_after (bare_lexed (codes "async") refl))

-- a reset, or nothing
reset_element : (e : InherentAttributes) (os : List ValueText) (g : Gathered) → MayReset e os
    → Lexed (FormatElementPhrase element.Reset g (gathered_reset e os g)) (reset_said e os)
reset_element with_reset os g h = lexed_as (λ ts w. inl w) (reset_lexed (Word (codes "reset")) (codes " reset ") reset_word with_reset os g h)
reset_element _ os g h = lexed_as (λ ts w. inr (refl, w)) (lexed nothing)

sync_or_async_reset_element : (e : InherentAttributes) (os : List ValueText) (g : Gathered) → MaySyncOrAsyncReset e os
    → Lexed (FormatElementPhrase element.SyncOrAsyncReset g (gathered_sync_or_async_reset e os g)) (sync_or_async_reset_said e os)
sync_or_async_reset_element with_reset os g h = lexed_as (λ ts w. inl w) (reset_lexed ResetSync (codes " reset sync ") sync_words with_reset os g h)
sync_or_async_reset_element with_async_reset os g h =
    lexed_as (λ ts w. inr (inl w)) (reset_lexed ResetAsync (codes " reset async ") async_words with_async_reset os g h)
sync_or_async_reset_element _ os g h = lexed_as (λ ts w. inr (inr (refl, w))) (lexed nothing)

-- ---- operands and types

some_operands : (os : List ValueText) (g : Gathered) → 1 ≤ length os → Each IsOperand os
    → Lexed (FormatElementPhrase element.Operands g (with_operands g (map said_operand os))) (commas operand_bytes os)
some_operands [] g some h = absurd (omega (arith, some))
some_operands (o ∷ os) g some h = lexed_as (λ ts w. (said_operand o, map said_operand os, refl, w)) (operands_lexed (o ∷ os) h)

type_element : (ts : List HwType) (g : Gathered) → HasType ts → Lexed (FormatElementPhrase element.Type g (with_types g (first_type ts))) (first_type_bytes ts)
type_element [] g h = absurd h
type_element (t ∷ ts) g h = lexed_as (λ us w. (t, refl, w)) (type_lexed t most_open h)

types_element : (ts : List HwType) (g : Gathered) → length ts ≡ length g.operands → Each IsAnyType ts
    → Lexed (FormatElementPhrase element.Types g (with_types g ts)) (commas type_bytes ts)
types_element ts g count h =
    lexed_as (λ us w. (ts, refl, count, w)) (commas_lexed (TypePhrase most_open) type_bytes ts (each_of (λ t. type_lexed t most_open) ts h))

-- ---- pieces

-- a piece is read as itself
pub element_lexed : (x : FormatElement) (p : Pending) (g : Gathered) → Needs x p g → Lexed (FormatElementPhrase x g (gathered_with x p g)) (element_bytes x p)
unfolding element_bytes
element_lexed (element.Mark k) p g h = lexed_as (λ ts w. (refl, w)) (lexed (mark_whole k h))
element_lexed (element.Word w) p g h = lexed_as (λ ts v. (refl, v)) (lexed (word_whole w))
element_lexed element.Operand p g h = lexed_as (λ ts w. (said_operand (first_operand p.operands), refl, w)) (operand_lexed (first_operand p.operands) h)
element_lexed element.Operands p g h = some_operands p.operands g h.0 h.1
element_lexed element.Group p g h =
    lexed_as (λ ts w. (map said_operand p.operands, refl, w))
    (lexed (between 41 [] left_parenthesis (operands_lexed p.operands h) right_parenthesis refl))
element_lexed element.Predicate p g h = lexed (predicate_element p.inherent g h)
element_lexed element.Number p g h = position_element p.inherent g h
element_lexed element.Truth p g h = truth_element p.inherent g h
element_lexed element.Integer p g h = integer_element p.inherent g h
element_lexed element.Literals p g h = lexed (literals_element p.inherent g h)
element_lexed element.Field p g h = lexed (field_element p.inherent g h)
element_lexed element.Instance p g h = instance_element p.inherent p.operands p.types g h
element_lexed element.Reset p g h = reset_element p.inherent p.operands g h
element_lexed element.SyncOrAsyncReset p g h = sync_or_async_reset_element p.inherent p.operands g h
element_lexed element.Type p g h = type_element p.types g h
element_lexed element.Types p g h = types_element p.types g h.0 h.1

-- whether no token of a piece goes on, whatever stands after it
abbrev is_closed : FormatElement → Bool
is_closed (element.Mark k) = true
is_closed (element.Word w) = true
is_closed element.Predicate = true
is_closed _ = false

closed_element : (x : FormatElement) (p : Pending) (g : Gathered) → is_closed x ≡ true → Needs x p g
    → Whole (FormatElementPhrase x g (gathered_with x p g)) (element_bytes x p)
unfolding element_bytes
closed_element (element.Mark k) p g e h = whole_as (λ ts w. (refl, w)) (mark_whole k h)
closed_element (element.Word w) p g e h = whole_as (λ ts v. (refl, v)) (word_whole w)
closed_element element.Predicate p g e h = predicate_element p.inherent g h
closed_element _ p g e h = absurd cc

-- whether the tokens before pieces end where these begin
abbrev pub stops_at : List FormatElement → Bool
stops_at [] = true
stops_at (element.Mark k ∷ xs) = true
stops_at (element.Word w ∷ xs) = true
stops_at (element.Reset ∷ xs) = stops_at xs
stops_at (element.SyncOrAsyncReset ∷ xs) = stops_at xs
stops_at (_ ∷ xs) = false

words_stop : (words : List ℕ) → ((rest : List ℕ) → Stops (words ++ rest)) → (os : List ValueText) (rest : List ℕ) → Stops (reset_bytes words os ++ rest)
words_stop words first os rest =
    rw (append_assoc words (operand_bytes (first_operand os) ++ (codes ", " ++ operand_bytes (first_operand (drop 1 os)))) rest) (first _)

reset_stops : (e : InherentAttributes) (os : List ValueText) (rest : List ℕ) → Stops rest → Stops (reset_said e os ++ rest)
reset_stops with_reset os rest stops = words_stop (codes " reset ") (λ rest. refl) os rest
reset_stops _ os rest stops = stops

sync_or_async_reset_stops : (e : InherentAttributes) (os : List ValueText) (rest : List ℕ) → Stops rest → Stops (sync_or_async_reset_said e os ++ rest)
sync_or_async_reset_stops with_reset os rest stops = words_stop (codes " reset sync ") (λ rest. refl) os rest
sync_or_async_reset_stops with_async_reset os rest stops = words_stop (codes " reset async ") (λ rest. refl) os rest
sync_or_async_reset_stops _ os rest stops = stops

pub elements_stop : (xs : List FormatElement) (p : Pending) (g : Gathered) → NeedAll xs p g → stops_at xs ≡ true → Stops (elements_bytes xs p)
unfolding element_bytes
elements_stop [] p g h e = tt
elements_stop (element.Mark k ∷ xs) p g h e = mark_stops k (elements_bytes xs (left_after (element.Mark k) p)) h.0
elements_stop (element.Word w ∷ xs) p g h e = word_stops w (elements_bytes xs (left_after (element.Word w) p))
elements_stop (element.Reset ∷ xs) p g h e =
    reset_stops p.inherent p.operands (elements_bytes xs (left_after element.Reset p))
    (elements_stop xs (left_after element.Reset p) (gathered_with element.Reset p g) h.1 e)
elements_stop (element.SyncOrAsyncReset ∷ xs) p g h e =
    sync_or_async_reset_stops p.inherent p.operands (elements_bytes xs (left_after element.SyncOrAsyncReset p))
    (elements_stop xs (left_after element.SyncOrAsyncReset p) (gathered_with element.SyncOrAsyncReset p g) h.1 e)
elements_stop (_ ∷ xs) p g h e = absurd cc

-- whether each piece ends where the next begins
abbrev pub is_parted : List FormatElement → Bool
is_parted [] = true
is_parted (x ∷ xs) = (is_closed x || stops_at xs) && is_parted xs

-- a piece and those after it
parted : (x : FormatElement) (xs : List FormatElement) (p : Pending) (g : Gathered) → NeedAll (x ∷ xs) p g → (c : Bool) → is_closed x ≡ c → (c || stops_at xs) ≡ true
    → Lexed (ElementsPhrase xs (gathered_with x p g) (gathered_with_all xs (left_after x p) (gathered_with x p g))) (elements_bytes xs (left_after x p))
    → Lexed (Then (FormatElementPhrase x g (gathered_with x p g)) (ElementsPhrase xs (gathered_with x p g) (gathered_with_all (x ∷ xs) p g)))
    (elements_bytes (x ∷ xs) p)
parted x xs p g h true closed e more = then_on (closed_element x p g closed h.0) more
parted x xs p g h false opened e more = then (element_lexed x p g h.0) more (elements_stop xs (left_after x p) (gathered_with x p g) h.1 e)

-- pieces are read as they are printed
pub elements_lexed : (xs : List FormatElement) (p : Pending) (g : Gathered) → NeedAll xs p g → is_parted xs ≡ true
    → Lexed (ElementsPhrase xs g (gathered_with_all xs p g)) (elements_bytes xs p)
elements_lexed [] p g h e = lexed_as (λ ts w. (refl, w)) (lexed nothing)
elements_lexed (x ∷ xs) p g h e =
    let (here, later) = and_parts (is_closed x || stops_at xs) (is_parted xs) e in
    let more = elements_lexed xs (left_after x p) (gathered_with x p g) h.1 later in
    lexed_as (λ ts w. (gathered_with x p g, w)) (parted x xs p g h (is_closed x) refl here more)
