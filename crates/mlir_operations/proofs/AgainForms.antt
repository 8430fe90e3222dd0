-- What the tokens of the forms of operations say is read of them.
use Rattle.std.proofs.Common.{◌≡◌, Bool, false, List, [], ◌∷◌, Option, Some, None, Ok, refl, sym, ◌∙◌, ap, ap₂, subst, ℕ, ◌⊎◌, inl, inr}
use Rattle.std.specs.Prelude.{codes}
use Rattle.diag.specs.declared.refusal.OpName.{OpName}
use Rattle.hw_model.specs.Types.{Name}
use Rattle.hw_model.specs.Design.{Entry}
use Rattle.mlir_lexer.specs.Tokens.{TextToken}
use Rattle.mlir_lexer.specs.declared.token.TokenKind.{TokenKind}
use Rattle.mlir_lexer.specs.declared.token.TokenKind.TheVariants as kind
use Rattle.mlir_syntax.specs.Stream.{StreamToken, is_first, is_next, is_word}
use Rattle.mlir_lexer.specs.TokenKinds.{is_kind}
use Rattle.mlir_syntax.specs.Reads.{Read, on}
use Rattle.mlir_syntax.specs.AttributeText.{maybe_dictionary}
use Rattle.assembly_format.specs.Formats.{comma, prefix_elements, type_elements}
use Rattle.mlir_operations.specs.ElementText.{InherentAttributes, Gathered, gathered_nothing, elements_text}
use Rattle.mlir_operations.specs.ElementText.InherentAttributes.{with_reset, with_async_reset}
use Rattle.mlir_operations.specs.OperationText.{Tail, given_entries, late_dictionary, form_text}
use Rattle.mlir_syntax.specs.Spelling.{Phrase, Word, Then, Either, Where, Nothing, MaybeDictionary}
use Rattle.mlir_operations.specs.Spelling.{ResetSync, ResetAsync, ResetPhrase, FormatElementPhrase, ElementsPhrase, IsOneOf, FormPhrase}
use Rattle.assembly_format.specs.declared.elements.Keyword.{Keyword}
use Rattle.assembly_format.specs.declared.elements.Keyword.TheVariants.{From, Clock}
use Rattle.assembly_format.specs.declared.elements.FormatElement.{FormatElement}
use Rattle.assembly_format.specs.declared.elements.FormatElement.TheVariants as element
use Rattle.assembly_format.specs.declared.elements.Format.{Format}
use Rattle.assembly_format.specs.declared.elements.Format.TheVariants as format
use Rattle.mlir_syntax.proofs.Again.{At, at_then, at_where, at_nothing, at_either, on_ok, Leads, leads_one, leads_then, leads_where, starts, starts_test}
use Rattle.mlir_syntax.proofs.AgainTokens.{Unlike, unlike, no_word, no_next}
use Rattle.mlir_syntax.proofs.AgainAttributes.{NoBrace, some_dictionary_at, again_maybe}
use Rattle.mlir_operations.proofs.AgainOperands.{NoNumber}
use Rattle.mlir_operations.proofs.AgainElements.{NoReset, Ends, elements_at}

-- ---- what stands after a form

-- what may stand after an operation
pub record OperationEnd (s : List StreamToken) : Type 0 where
  pub no_number : NoNumber s
  pub no_comma : is_next kind.Comma s ≡ false
  pub no_reset : NoReset s
  pub no_bin : is_first (is_word (codes "bin")) s ≡ false
  pub no_brace : NoBrace s

-- what may stand after the pieces before the types
record PrefixEnd (s : List StreamToken) : Type 0 where
  pub no_number : NoNumber s
  pub no_comma : is_next kind.Comma s ≡ false
  pub no_reset : NoReset s

-- types begin with a colon, where there are some
abbrev TypesForm : List FormatElement → Type 0
TypesForm [] = Unit {0}
TypesForm (element.Mark k ∷ ps) = k ≡ kind.Colon
TypesForm (_ ∷ ps) = ⊥

pub types_form : (format : Format) → TypesForm (type_elements format)
unfolding type_elements
types_form format.Variadic = refl
types_form format.Truth = tt
types_form format.Instance = tt
types_form format.Nothing = tt
types_form _ = refl

-- pieces begin as the first of them
pub leads_elements : {T : TextToken → Type 0} (p : FormatElement) (ps : List FormatElement) (g h : Gathered) → ((m : Gathered) → Leads T (FormatElementPhrase p g m)) → Leads T (ElementsPhrase (p ∷ ps) g h)
leads_elements p ps g h one = record { lead = λ ts q. (leads_then {P = FormatElementPhrase p g q.0} {Q = ElementsPhrase ps q.0 h} (one q.0)).lead ts q.1 }

leads_mark : {T : TextToken → Type 0} (k : TokenKind) (ps : List FormatElement) (g h : Gathered) → ((t : TextToken) → t.kind ≡ k → T t) → Leads T (ElementsPhrase (element.Mark k ∷ ps) g h)
leads_mark k ps g h to = leads_elements (element.Mark k) ps g h (λ m. leads_where (leads_one to))

pub no_elements : {g h : Gathered} {s left : List StreamToken} → At (ElementsPhrase [] g h) s left → (h ≡ g) × (s ≡ left)
no_elements a = let (same, p) = at_where a in (same, at_nothing p)

leads_dictionary : {T : TextToken → Type 0} (keys : List Name) (es : List Entry) → ((t : TextToken) → t.kind ≡ kind.LeftBrace → T t) → Leads T (MaybeDictionary keys (Some es))
leads_dictionary keys es to = leads_where (leads_then (leads_one to))

-- what is so of no brace and no colon, and not of what stands after an operation, is not so of what stands before its types
after_types : (test : TextToken → Bool) (keys : List Name) (late : Option (List Entry)) {s left : List StreamToken} → ((t : TextToken) → t.kind ≡ kind.LeftBrace → test t ≡ false)
    → is_first test left ≡ false → At (MaybeDictionary keys late) s left → is_first test s ≡ false
after_types test keys None brace last a = ap (is_first test) (at_nothing a) ∙ last
after_types test keys (Some es) brace last a = starts_test test false (λ t p. p) (starts (leads_dictionary keys es brace) a)

from_types : (test : TextToken → Bool) (keys : List Name) (tp : List FormatElement) (g h : Gathered) (late : Option (List Entry)) {s m left : List StreamToken} → TypesForm tp
    → ((t : TextToken) → t.kind ≡ kind.LeftBrace → test t ≡ false) → ((t : TextToken) → t.kind ≡ kind.Colon → test t ≡ false)
    → is_first test left ≡ false → At (ElementsPhrase tp g h) s m → At (MaybeDictionary keys late) m left → is_first test s ≡ false
from_types test keys [] g h late form brace colon last a b = ap (is_first test) (no_elements a).1 ∙ after_types test keys late brace last b
from_types test keys (element.Mark k ∷ ps) g h late form brace colon last a b =
    starts_test test false (λ t p. p) (starts (leads_mark k ps g h (λ t e. colon t (e ∙ form))) a)
from_types test keys (_ ∷ ps) g h late form brace colon last a b = absurd form

pub after_prefix : (test : TextToken → Bool) (keys : List Name) (tp : List FormatElement) (g h : Gathered) (early late : Option (List Entry)) {s left : List StreamToken} → TypesForm tp
    → ((t : TextToken) → t.kind ≡ kind.LeftBrace → test t ≡ false) → ((t : TextToken) → t.kind ≡ kind.Colon → test t ≡ false) → is_first test left ≡ false
    → At (Then (MaybeDictionary keys early) (Then (ElementsPhrase tp g h) (MaybeDictionary keys late))) s left → is_first test s ≡ false
after_prefix test keys tp g h early late form brace colon last a =
    let (m, b, c) = at_then a in
    let (k, d, e) = at_then c in
    after_types test keys early brace (from_types test keys tp g h late form brace colon last d e) b

prefix_end : (keys : List Name) (tp : List FormatElement) (g h : Gathered) (early late : Option (List Entry)) {s left : List StreamToken} → TypesForm tp → OperationEnd left
    → At (Then (MaybeDictionary keys early) (Then (ElementsPhrase tp g h) (MaybeDictionary keys late))) s left → PrefixEnd s
prefix_end keys tp g h early late form last a = record {
  no_number = after_prefix (λ t. is_kind t.kind kind.ResultNumber) keys tp g h early late form (unlike kind.ResultNumber kind.LeftBrace refl)
      (unlike kind.ResultNumber kind.Colon refl) last.no_number a;
  no_comma = after_prefix (λ t. is_kind t.kind kind.Comma) keys tp g h early late form (unlike kind.Comma kind.LeftBrace refl) (unlike kind.Comma kind.Colon refl) last.no_comma a;
  no_reset = after_prefix (is_word (codes "reset")) keys tp g h early late form (no_word (codes "reset") kind.LeftBrace refl) (no_word (codes "reset") kind.Colon refl) last.no_reset a;
}

-- ---- the pieces of forms may stand one after another

after_mark : (k : TokenKind) (ps : List FormatElement) (left : List StreamToken) → is_kind k kind.ResultNumber ≡ false
    → (m : List StreamToken) (x y : Gathered) → At (ElementsPhrase (element.Mark k ∷ ps) x y) m left → NoNumber m
after_mark k ps left other m x y a = no_next kind.ResultNumber (leads_mark k ps x y (unlike kind.ResultNumber k other)) a

operand_last : {left : List StreamToken} → PrefixEnd left → (m : List StreamToken) (x y : Gathered) → At (ElementsPhrase [] x y) m left → NoNumber m
operand_last last m x y a = ap (is_next kind.ResultNumber) (no_elements a).1 ∙ last.no_number

operand_ends : {left : List StreamToken} → PrefixEnd left → Ends (element.Operand ∷ []) left
operand_ends last = (operand_last last, tt)

operands_end : {left : List StreamToken} → PrefixEnd left → Ends (element.Operands ∷ []) left
operands_end last = (λ m x y a. (operand_last last m x y a, ap (is_next kind.Comma) (no_elements a).1 ∙ last.no_comma), tt)

mark_ends : {left : List StreamToken} (k : TokenKind) (ps : List FormatElement) → Ends ps left → Ends (element.Mark k ∷ ps) left
mark_ends k ps rest = (λ m x y a. tt, rest)

operand_mark_ends : {left : List StreamToken} (k : TokenKind) (ps : List FormatElement) → is_kind k kind.ResultNumber ≡ false → Ends ps left → Ends (element.Operand ∷ element.Mark k ∷ ps) left
operand_mark_ends {left} k ps other rest = (after_mark k ps left other, mark_ends k ps rest)

-- `%a,` and more
comma_ends : {left : List StreamToken} (ps : List FormatElement) → Ends ps left → Ends (element.Operand ∷ comma ∷ ps) left
comma_ends ps rest = operand_mark_ends kind.Comma ps refl rest

-- `%a[%i]` and more
indexed_ends : {left : List StreamToken} (ps : List FormatElement) → Ends ps left
    → Ends (element.Operand ∷ element.Mark kind.LeftBracket ∷ element.Operand ∷ element.Mark kind.RightBracket ∷ ps) left
indexed_ends ps rest = operand_mark_ends kind.LeftBracket (element.Operand ∷ element.Mark kind.RightBracket ∷ ps) refl (operand_mark_ends kind.RightBracket ps refl rest)

-- `%s["f"]` and more
field_ends : {left : List StreamToken} (ps : List FormatElement) → Ends ps left
    → Ends (element.Operand ∷ element.Mark kind.LeftBracket ∷ element.Field ∷ element.Mark kind.RightBracket ∷ ps) left
field_ends ps rest = operand_mark_ends kind.LeftBracket (element.Field ∷ element.Mark kind.RightBracket ∷ ps) refl (λ m x y a. tt, mark_ends kind.RightBracket ps rest)

-- a reset that may be left out begins with no number within a pack
optional_reset : (Reset : Phrase) (how : InherentAttributes) (x g y : Gathered) {m k left : List StreamToken} → PrefixEnd left → Leads (Unlike kind.ResultNumber) Reset
    → At (ResetPhrase Reset how x g) m k ⊎ At (Where (g ≡ x) Nothing) m k → At (ElementsPhrase [] g y) k left → NoNumber m
optional_reset Reset how x g y last leads (inl a) b = no_next kind.ResultNumber (record { lead = λ ts p. (leads_then {P = Reset} leads).lead ts p.3 }) a
optional_reset Reset how x g y {k = k} last leads (inr a) b = ap (is_next kind.ResultNumber) (at_nothing (at_where a).1) ∙ operand_last last k g y b

word_unlike : {word : List ℕ} → Leads (Unlike kind.ResultNumber) (Word word)
word_unlike = leads_one (λ t w. unlike kind.ResultNumber kind.BareName refl t w.0)

after_reset : {left : List StreamToken} → PrefixEnd left → (m : List StreamToken) (x y : Gathered) → At (ElementsPhrase (element.Reset ∷ []) x y) m left → NoNumber m
after_reset {left} last m x y a =
    let (g, q) = a.says in
    let inside : At (Then (FormatElementPhrase element.Reset x g) (ElementsPhrase [] g y)) m left = record { passed = a.passed; same = a.same; says = q } in
    let (k, b, c) = at_then inside in
    optional_reset (Word (codes "reset")) with_reset x g y last word_unlike (at_either b) c

-- such a reset with `sync` or `async`
mode_reset : (x g y : Gathered) {m k left : List StreamToken} → PrefixEnd left
    → At (ResetPhrase ResetSync with_reset x g) m k ⊎ At (Either (ResetPhrase ResetAsync with_async_reset x g) (Where (g ≡ x) Nothing)) m k
    → At (ElementsPhrase [] g y) k left → NoNumber m
mode_reset x g y last (inl a) b = optional_reset ResetSync with_reset x g y last (leads_then word_unlike) (inl a) b
mode_reset x g y last (inr a) b = optional_reset ResetAsync with_async_reset x g y last (leads_then word_unlike) (at_either a) b

after_sync : {left : List StreamToken} → PrefixEnd left → (m : List StreamToken) (x y : Gathered) → At (ElementsPhrase (element.SyncOrAsyncReset ∷ []) x y) m left → NoNumber m
after_sync {left} last m x y a =
    let (g, q) = a.says in
    let inside : At (Then (FormatElementPhrase element.SyncOrAsyncReset x g) (ElementsPhrase [] g y)) m left = record { passed = a.passed; same = a.same; says = q } in
    let (k, b, c) = at_then inside in
    mode_reset x g y last (at_either b) c

reset_ends : {left : List StreamToken} → PrefixEnd left → Ends (element.Operand ∷ element.Reset ∷ []) left
reset_ends last =
    (after_reset last, (λ m x y a. (operand_last last m x y a, ap (is_first (is_word (codes "reset"))) (no_elements a).1 ∙ last.no_reset), tt))

sync_ends : {left : List StreamToken} → PrefixEnd left → Ends (element.Operand ∷ element.SyncOrAsyncReset ∷ []) left
sync_ends last =
    (after_sync last, (λ m x y a. (operand_last last m x y a, ap (is_first (is_word (codes "reset"))) (no_elements a).1 ∙ last.no_reset), tt))

word_ends : {left : List StreamToken} (w : Keyword) (ps : List FormatElement) → Ends ps left → Ends (element.Operand ∷ element.Word w ∷ ps) left
word_ends w ps rest = (
  λ m x y a. no_next kind.ResultNumber (leads_elements (element.Word w) ps x y (λ g. leads_where word_unlike)) a,
  (λ m x y a. tt, rest),
)

prefix_ends : (format : Format) {left : List StreamToken} → PrefixEnd left → Ends (prefix_elements format) left
unfolding prefix_elements
prefix_ends format.Variadic last = operands_end last
prefix_ends format.Binary last = comma_ends (element.Operand ∷ []) (operand_ends last)
prefix_ends format.Comparison last = (λ m x y a. tt, comma_ends (element.Operand ∷ []) (operand_ends last))
prefix_ends format.Unary last = operand_ends last
prefix_ends format.Extraction last = word_ends From (element.Number ∷ []) (λ m x y a. tt, tt)
prefix_ends format.Joined last = operands_end last
prefix_ends format.Conversion last = operand_ends last
prefix_ends format.Choice last = comma_ends (element.Operand ∷ comma ∷ element.Operand ∷ []) (comma_ends (element.Operand ∷ []) (operand_ends last))
prefix_ends format.Truth last = (λ m x y a. tt, tt)
prefix_ends format.Integer last = (λ m x y a. tt, tt)
prefix_ends format.Aggregate last = (λ m x y a. tt, tt)
prefix_ends format.Element last = indexed_ends [] tt
prefix_ends format.Slice last = indexed_ends [] tt
prefix_ends format.ElementChange last = indexed_ends (comma ∷ element.Operand ∷ []) (mark_ends kind.Comma (element.Operand ∷ []) (operand_ends last))
prefix_ends format.Struct last = (λ m x y a. tt, tt)
prefix_ends format.Field last = field_ends [] tt
prefix_ends format.FieldChange last = field_ends (comma ∷ element.Operand ∷ []) (mark_ends kind.Comma (element.Operand ∷ []) (operand_ends last))
prefix_ends format.Instance last = (λ m x y a. tt, tt)
prefix_ends format.Nothing last = tt
prefix_ends format.Register last = comma_ends (element.Operand ∷ element.Reset ∷ []) (reset_ends last)
prefix_ends format.EnabledRegister last = comma_ends (element.Operand ∷ comma ∷ element.Operand ∷ element.Reset ∷ []) (comma_ends (element.Operand ∷ element.Reset ∷ []) (reset_ends last))
prefix_ends format.ClockedRegister last = word_ends Clock (element.Operand ∷ element.SyncOrAsyncReset ∷ []) (sync_ends last)

one_type_ends : {left : List StreamToken} → Ends (element.Mark kind.Colon ∷ element.Type ∷ []) left
one_type_ends = (λ m x y a. tt, (λ m x y a. tt, tt))

two_types_end : {left : List StreamToken} → Ends (element.Mark kind.Colon ∷ element.Type ∷ element.Mark kind.Comma ∷ element.Type ∷ []) left
two_types_end = (λ m x y a. tt, (λ m x y a. tt, (λ m x y a. tt, (λ m x y a. tt, tt))))

function_type_ends : {left : List StreamToken}
    → Ends (element.Mark kind.Colon ∷ element.Mark kind.LeftParenthesis ∷ element.Type ∷ element.Mark kind.RightParenthesis ∷ element.Mark kind.Arrow ∷ element.Type ∷ []) left
function_type_ends = (λ m x y a. tt, (λ m x y a. tt, (λ m x y a. tt, (λ m x y a. tt, (λ m x y a. tt, (λ m x y a. tt, tt))))))

type_ends : (format : Format) (left : List StreamToken) → Ends (type_elements format) left
unfolding type_elements
type_ends format.Extraction left = function_type_ends
type_ends format.Conversion left = function_type_ends
type_ends format.Slice left = function_type_ends
type_ends format.Joined left = (λ m x y a. tt, (λ m x y a. tt, tt))
type_ends format.Truth left = tt
type_ends format.Instance left = tt
type_ends format.Nothing left = tt
type_ends format.Element left = two_types_end
type_ends format.ElementChange left = two_types_end
type_ends _ left = one_type_ends

-- ---- forms

-- what is read after the pieces before the types
abbrev RestRead : OpName → List Name → List FormatElement → Gathered → List StreamToken → Read Tail
RestRead op keys tp g s =
    on (maybe_dictionary op keys s) (λ es s2. on (elements_text op tp g s2) (λ h s3. on (late_dictionary op keys es s3) (λ all s4.
    Ok (record { gathered = h; dictionary = all }, s4))))

-- a dictionary before the types
early_at : (op : OpName) (keys : List Name) (tp : List FormatElement) (g h : Gathered) (ds es : List Entry) (late : Option (List Entry)) {s m k left : List StreamToken} → OperationEnd left
    → Ends tp k → IsOneOf (Some ds) late es → At (MaybeDictionary keys (Some ds)) s m → maybe_dictionary op keys s ≡ Ok (Some ds, m) → At (ElementsPhrase tp g h) m k
    → At (MaybeDictionary keys late) k left → RestRead op keys tp g s ≡ Ok (record { gathered = h; dictionary = es }, left)
unfolding late_dictionary
early_at op keys tp g h ds es late {s} {m} {k} {left} last ends one a e b c =
    let none : At (MaybeDictionary keys None) k left = subst (λ l. At (MaybeDictionary keys l) k left) one.0 c in
    on_ok _ e (on_ok _ (elements_at op tp g h ends b)
    (ap (λ y. Ok (record { gathered = h; dictionary = ds }, y)) (at_nothing none) ∙ ap (λ x. Ok (record { gathered = h; dictionary = x }, left)) (sym one.1)))

-- no dictionary before the types
plain_at : (op : OpName) (keys : List Name) (tp : List FormatElement) (g h : Gathered) (es : List Entry) (late : Option (List Entry)) {s m k left : List StreamToken} → OperationEnd left
    → Ends tp k → es ≡ given_entries late → At (MaybeDictionary keys None) s m → NoBrace m → At (ElementsPhrase tp g h) m k
    → At (MaybeDictionary keys late) k left → RestRead op keys tp g s ≡ Ok (record { gathered = h; dictionary = es }, left)
unfolding late_dictionary
plain_at op keys tp g h es late {s} {m} {k} {left} last ends one a clear b c =
    on_ok _ ((again_maybe op keys).gives None s m a clear) (on_ok _ (elements_at op tp g h ends b)
    (on_ok _ (on_ok _ ((again_maybe op keys).gives late k left c last.no_brace) refl) (ap (λ x. Ok (record { gathered = h; dictionary = x }, left)) (sym one))))

-- a dictionary after no types
bare_at : (op : OpName) (keys : List Name) (g h : Gathered) (es ds : List Entry) {s m k left : List StreamToken} → OperationEnd left → es ≡ ds
    → At (MaybeDictionary keys None) s m → At (ElementsPhrase [] g h) m k → At (MaybeDictionary keys (Some ds)) k left
    → RestRead op keys [] g s ≡ Ok (record { gathered = h; dictionary = es }, left)
unfolding late_dictionary
bare_at op keys g h es ds {s} {m} {k} {left} last one a b c =
    let (same, location) = no_elements b in
    on_ok _ (ap (maybe_dictionary op keys) (at_nothing a ∙ location) ∙ (again_maybe op keys).gives (Some ds) k left c last.no_brace)
    (ap₂ (λ x y. Ok (record { gathered = x; dictionary = y }, left)) (sym same) (sym one))

none_at : (op : OpName) (keys : List Name) (tp : List FormatElement) (g h : Gathered) (es : List Entry) (late : Option (List Entry)) {s m k left : List StreamToken} → OperationEnd left
    → TypesForm tp → Ends tp k → es ≡ given_entries late → At (MaybeDictionary keys None) s m → At (ElementsPhrase tp g h) m k
    → At (MaybeDictionary keys late) k left → RestRead op keys tp g s ≡ Ok (record { gathered = h; dictionary = es }, left)
none_at op keys [] g h es None {s} {m} {k} {left} last form ends one a b c =
    plain_at op keys [] g h es None last ends one a (ap (is_next kind.LeftBrace) ((no_elements b).1 ∙ at_nothing c) ∙ last.no_brace) b c
none_at op keys [] g h es (Some ds) last form ends one a b c = bare_at op keys g h es ds last one a b c
none_at op keys (element.Mark j ∷ ps) g h es late last form ends one a b c =
    plain_at op keys (element.Mark j ∷ ps) g h es late last ends one a
    (no_next kind.LeftBrace (leads_mark j ps g h (λ t e. unlike kind.LeftBrace kind.Colon refl t (e ∙ form))) b) b c
none_at op keys (_ ∷ ps) g h es late last form ends one a b c = absurd form

rest_at : (op : OpName) (keys : List Name) (tp : List FormatElement) (g h : Gathered) (es : List Entry) (early late : Option (List Entry)) {s m k left : List StreamToken} → OperationEnd left
    → TypesForm tp → Ends tp k → IsOneOf early late es → At (MaybeDictionary keys early) s m → At (ElementsPhrase tp g h) m k
    → At (MaybeDictionary keys late) k left → RestRead op keys tp g s ≡ Ok (record { gathered = h; dictionary = es }, left)
rest_at op keys tp g h es None late last form ends one a b c = none_at op keys tp g h es late last form ends one a b c
rest_at op keys tp g h es (Some ds) late {s} {m} last form ends one a b c =
    early_at op keys tp g h ds es late last ends one a (some_dictionary_at op keys ds a) b c

-- the pieces before the types, and what stands after them
pub prefix_of : (keys : List Name) (format : Format) (h : Gathered) (es : List Entry) {s left : List StreamToken} → At (FormPhrase keys format h es) s left
    → (g : Gathered) × (early : Option (List Entry)) × (late : Option (List Entry)) × IsOneOf early late es × (m : List StreamToken) × At (ElementsPhrase (prefix_elements format) gathered_nothing g) s m
    × At (Then (MaybeDictionary keys early) (Then (ElementsPhrase (type_elements format) g h) (MaybeDictionary keys late))) m left
prefix_of keys format h es {s} {left} a =
    let (g, early, late, one, p) = a.says in
    let inside : At (Then (ElementsPhrase (prefix_elements format) gathered_nothing g) (Then (MaybeDictionary keys early)
    (Then (ElementsPhrase (type_elements format) g h) (MaybeDictionary keys late)))) s left = record { passed = a.passed; same = a.same; says = p } in
    let (m, b, c) = at_then inside in
    (g, early, late, one, m, b, c)

pub form_at : (op : OpName) (keys : List Name) (format : Format) (h : Gathered) (es : List Entry) {s left : List StreamToken} → OperationEnd left
    → At (FormPhrase keys format h es) s left → form_text op keys format s ≡ Ok (record { gathered = h; dictionary = es }, left)
unfolding form_text
form_at op keys format h es last a =
    let (g, early, late, one, m, b, c) = prefix_of keys format h es a in
    let (k, d, e) = at_then c in
    let (i, x, y) = at_then e in
    on_ok _ (elements_at op (prefix_elements format) gathered_nothing g (prefix_ends format (prefix_end keys (type_elements format) g h early late (types_form format) last c)) b)
    (rest_at op keys (type_elements format) g h es early late last (types_form format) (type_ends format i) one d x y)
