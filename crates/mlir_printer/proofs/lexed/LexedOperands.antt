-- Operands, marks and words of operations are read as they are printed.
use Rattle.std.proofs.Common.{◌≡◌, inl, inr, ℕ, true, List, [], ◌∷◌, ◌++◌, map, Option, Some, None, refl}
use Rattle.std.specs.Prelude.{codes}
use Rattle.hw_model.specs.Types.{Name}
use Rattle.hw_model.specs.Kinds.{Predicate}
use Rattle.hw_model.specs.Kinds.Predicate.{eq, ne, slt, sle, sgt, sge, ult, ule, ugt, uge, ceq, cne, weq, wne}
use Rattle.mlir_lexer.specs.Tokens.{TextToken}
use Rattle.mlir_lexer.specs.declared.token.TokenKind.{TokenKind}
use Rattle.mlir_lexer.specs.declared.token.TokenKind.TheVariants as kind
use Rattle.assembly_format.specs.Formats.{text_of_keyword}
use Rattle.mlir_syntax.specs.WordText.{predicate_named}
use Rattle.mlir_syntax.specs.Spelling.{Phrase, Mark, Word, Commas}
use Rattle.mlir_operations.specs.Spelling.{OperandPhrase}
use Rattle.assembly_format.specs.declared.elements.Keyword.{Keyword}
use Rattle.assembly_format.specs.declared.elements.Keyword.TheVariants.{From, Clock}
use Rattle.mlir_printer.specs.Strings.{is_bare}
use Rattle.mlir_printer.specs.Commas.{commas}
use Rattle.mlir_printer.specs.Elements.{ValueText, value_name_bytes, pack_number_bytes, operand_bytes, mark_bytes, word_bytes, predicate_bytes}
use Rattle.mlir_printer.specs.Spellable.{IsValueName, IsNumber, IsOperand, IsMark, said_number, said_operand}
use Rattle.stored_form.specs.Bytes.{Each}
use Rattle.mlir_printer.proofs.lexed.LexedTexts.{Stops, Whole, Lexed, lexed, lexed_as, then, nothing, blank_after, blank_on_whole, left_parenthesis, right_parenthesis, left_brace, right_brace}
use Rattle.mlir_printer.proofs.lexed.LexedTexts.{left_bracket, right_bracket, less_mark, greater_mark}
use Rattle.mlir_printer.proofs.lexed.LexedNames.{bare_lexed, value_name_lexed}
use Rattle.mlir_printer.proofs.lexed.LexedNumbers.{pack_number_lexed}
use Rattle.mlir_printer.proofs.lexed.LexedCommas.{comma_blank, blank_colon, blank_equals, blank_arrow, commas_lexed, each_of}

-- ---- operands

number_after : (name : Name) (n : Option ℕ) → IsValueName name → IsNumber n
    → Lexed (OperandPhrase (record { name = name; number = said_number n })) (value_name_bytes name ++ pack_number_bytes n)
unfolding pack_number_bytes
number_after name None h small = then (value_name_lexed name h) (lexed_as (λ ts p. inl (refl, p)) (lexed nothing)) tt
number_after name (Some n) h small = then (value_name_lexed name h) (lexed_as (λ ts p. inr (small, p)) (pack_number_lexed n small)) refl

-- an operand is read as itself
pub operand_lexed : (o : ValueText) → IsOperand o → Lexed (OperandPhrase (said_operand o)) (operand_bytes o)
unfolding operand_bytes
operand_lexed o h = number_after o.name o.number h.name h.number

-- an operand begins with a sign
pub operand_stops : (o : ValueText) (rest : List ℕ) → Stops (operand_bytes o ++ rest)
unfolding operand_bytes value_name_bytes
operand_stops o rest = refl

-- a list is said item by item
pub commas_said : {A B : Type 0} (P : B → Phrase) (f : A → B) (xs : List A) (ts : List TextToken) → Commas (λ x. P (f x)) xs ts → Commas P (map f xs) ts
commas_said P f [] ts h = h
commas_said P f (x ∷ []) ts h = h
commas_said P f (x ∷ y ∷ xs) ts h =
    let (a, b, e, p, q) = h in
    let (c, d, g, comma, more) = q in
    (a, b, e, p, (c, d, g, comma, commas_said P f (y ∷ xs) d more))

pub operands_lexed : (os : List ValueText) → Each IsOperand os → Lexed (Commas OperandPhrase (map said_operand os)) (commas operand_bytes os)
operands_lexed os h =
    lexed_as (commas_said OperandPhrase said_operand os)
    (commas_lexed (λ o. OperandPhrase (said_operand o)) operand_bytes os (each_of operand_lexed os h))

-- ---- marks

-- a mark is read as itself
pub mark_whole : (k : TokenKind) → IsMark k → Whole (Mark k) (mark_bytes k)
unfolding mark_bytes
mark_whole kind.Arrow h = blank_arrow
mark_whole kind.LeftParenthesis h = left_parenthesis
mark_whole kind.RightParenthesis h = right_parenthesis
mark_whole kind.LeftBrace h = left_brace
mark_whole kind.RightBrace h = right_brace
mark_whole kind.LeftBracket h = left_bracket
mark_whole kind.RightBracket h = right_bracket
mark_whole kind.Less h = less_mark
mark_whole kind.Greater h = greater_mark
mark_whole kind.Colon h = blank_colon
mark_whole kind.Comma h = comma_blank
mark_whole kind.Equals h = blank_equals
mark_whole _ h = absurd h

pub mark_stops : (k : TokenKind) (rest : List ℕ) → IsMark k → Stops (mark_bytes k ++ rest)
unfolding mark_bytes
mark_stops kind.Arrow rest h = refl
mark_stops kind.LeftParenthesis rest h = refl
mark_stops kind.RightParenthesis rest h = refl
mark_stops kind.LeftBrace rest h = refl
mark_stops kind.RightBrace rest h = refl
mark_stops kind.LeftBracket rest h = refl
mark_stops kind.RightBracket rest h = refl
mark_stops kind.Less rest h = refl
mark_stops kind.Greater rest h = refl
mark_stops kind.Colon rest h = refl
mark_stops kind.Comma rest h = refl
mark_stops kind.Equals rest h = refl
mark_stops _ rest h = absurd h

-- ---- words

-- a word with blanks round it
pub word_whole : (w : Keyword) → Whole (Word (text_of_keyword w)) (word_bytes w)
unfolding word_bytes
word_whole From = blank_on_whole (blank_after (bare_lexed (codes "from") refl))
word_whole Clock = blank_on_whole (blank_after (bare_lexed (codes "clock") refl))

pub word_stops : (w : Keyword) (rest : List ℕ) → Stops (word_bytes w ++ rest)
unfolding word_bytes
word_stops From rest = refl
word_stops Clock rest = refl

-- ---- predicates

predicate_bare : (p : Predicate) → is_bare (predicate_bytes p) ≡ true
unfolding predicate_bytes
predicate_bare eq = refl
predicate_bare ne = refl
predicate_bare slt = refl
predicate_bare sle = refl
predicate_bare sgt = refl
predicate_bare sge = refl
predicate_bare ult = refl
predicate_bare ule = refl
predicate_bare ugt = refl
predicate_bare uge = refl
predicate_bare ceq = refl
predicate_bare cne = refl
predicate_bare weq = refl
predicate_bare wne = refl

-- a predicate is named as it is printed
pub predicate_back : (p : Predicate) → predicate_named (predicate_bytes p) ≡ Some p
unfolding predicate_bytes predicate_named
predicate_back eq = refl
predicate_back ne = refl
predicate_back slt = refl
predicate_back sle = refl
predicate_back sgt = refl
predicate_back sge = refl
predicate_back ult = refl
predicate_back ule = refl
predicate_back ugt = refl
predicate_back uge = refl
predicate_back ceq = refl
predicate_back cne = refl
predicate_back weq = refl
predicate_back wne = refl

pub predicate_word : (p : Predicate) → Whole (Word (predicate_bytes p)) (predicate_bytes p ++ codes " ")
predicate_word p = blank_after (bare_lexed (predicate_bytes p) (predicate_bare p))
