-- The grammar of types, attributes and constants: which tokens say what (MLIR language reference; CIRCT: HW dialect types, Seq dialect types).
use Rattle.std.specs.Prelude.{◌≡◌, ℕ, zero, suc, ◌<◌, ◌⊎◌, Bool, true, false, cond, List, [], ◌∷◌, ◌++◌, length, Option, Some, None, codes, ℤ, pos}
use Rattle.hw_model.specs.Types.{Name, HwType}
use Rattle.hw_model.specs.Types.HwType.{int, clock, array, struct}
use Rattle.hw_model.specs.TypeViews.{NamedType, fields_of}
use Rattle.hw_model.specs.Kinds.{Literal, Literals}
use Rattle.hw_model.specs.Kinds.Literal.{leaf, parts}
use Rattle.hw_model.specs.Design.{Attribute, Entry}
use Rattle.hw_model.specs.Design.Attribute.{unit_value, text_value, symbol_value, truth_value, integer_value, list_value}
use Rattle.mlir_lexer.specs.Classes.{is_digit}
use Rattle.mlir_lexer.specs.Runs.{run}
use Rattle.mlir_lexer.specs.Contents.{content_of}
use Rattle.mlir_lexer.specs.Tokens.{TextToken}
use Rattle.mlir_lexer.specs.declared.token.TokenKind.{TokenKind}
use Rattle.mlir_lexer.specs.declared.token.TokenKind.TheVariants as kind
use Rattle.mlir_syntax.specs.Numerals.{number_in, number_of, count_limit, number_limit, negative}
use Rattle.mlir_syntax.specs.TypeText.{most_open}
use Rattle.mlir_syntax.specs.AttributeText.{is_among, is_stored, in_order}
use Rattle.mlir_syntax.specs.LiteralText.{literals_in_order, truth_leaf}

-- ---- the words of the grammar

-- what some tokens may be
abbrev pub Phrase : Type 1
Phrase = List TextToken → Type 0

-- one token, and it is so
abbrev pub One : (TextToken → Type 0) → Phrase
One P ts = (t : TextToken) × (ts ≡ t ∷ []) × P t

-- a token of a kind
abbrev pub Mark : TokenKind → Phrase
Mark k = One (λ (t : TextToken). t.kind ≡ k)

-- a bare name
abbrev pub Word : List ℕ → Phrase
Word name = One (λ (t : TextToken). (t.kind ≡ kind.BareName) × (t.text ≡ name))

-- a token of a kind, by what it holds
abbrev pub Holding : TokenKind → List ℕ → Phrase
Holding k content = One (λ (t : TextToken). (t.kind ≡ k) × (content_of k t.text ≡ content))

-- no token
abbrev pub Nothing : Phrase
Nothing ts = ts ≡ []

-- one phrase and then another
abbrev pub Then : Phrase → Phrase → Phrase
Then P Q ts = (a b : List TextToken) × (ts ≡ a ++ b) × P a × Q b

-- one phrase or another
abbrev pub Either : Phrase → Phrase → Phrase
Either P Q ts = P ts ⊎ Q ts

-- a phrase, where something is so
abbrev pub Where : Type 0 → Phrase → Phrase
Where C P ts = C × P ts

-- one of a list after another, with commas between them
abbrev pub Commas : {A : Type 0} → (A → Phrase) → List A → Phrase
Commas P [] ts = ts ≡ []
Commas P (x ∷ []) ts = P x ts
Commas P (x ∷ y ∷ xs) ts = Then (P x) (Then (Mark kind.Comma) (Commas P (y ∷ xs))) ts

-- a list between two marks
abbrev pub Between : TokenKind → TokenKind → Phrase → Phrase
Between left right P = Then (Mark left) (Then P (Mark right))

-- a bare name or a string that holds a name
abbrev pub NamePhrase : Name → Phrase
NamePhrase name = Either (Holding kind.BareName name) (Holding kind.StringLiteral name)

-- a symbol of a name
abbrev pub SymbolPhrase : Name → Phrase
SymbolPhrase name = Either (Holding kind.SymbolName name) (Holding kind.SymbolString name)

-- ---- numbers

-- a number below a limit
abbrev pub NumberPhrase : ℕ → ℕ → Phrase
NumberPhrase limit n = Where (n < limit) (One (λ (t : TextToken). (t.kind ≡ kind.Integer) × (number_of t.text ≡ n)))

-- an integer with its sign
abbrev pub IntegerPhrase : ℤ → Phrase
IntegerPhrase z ts =
    ((n : ℕ) × (z ≡ pos n) × NumberPhrase number_limit n ts)
    ⊎ ((n : ℕ) × (z ≡ negative n) × Then (Mark kind.Minus) (NumberPhrase number_limit n) ts)

-- ---- types

-- digits that stand for a width
abbrev pub AreDigits : List ℕ → ℕ → Type 0
AreDigits digits w = (0 < length digits) × (run is_digit digits ≡ length digits) × (number_in 10 0 digits ≡ w) × (w < count_limit)

-- a bare name that begins so and ends with the digits of a width
abbrev pub WidthPhrase : List ℕ → ℕ → Phrase
WidthPhrase prefix w = One (λ (t : TextToken). (t.kind ≡ kind.BareName) × ((digits : List ℕ) × (t.text ≡ prefix ++ digits) × AreDigits digits w))

-- `!name`
abbrev pub TypeWord : List ℕ → Phrase
TypeWord name = Holding kind.TypeName name

-- `xT` where both are one token: `xiW`
abbrev pub GluedPhrase : HwType → Phrase
GluedPhrase (int w) = WidthPhrase (codes "xi") w
GluedPhrase _ = λ ts. ⊥

-- `xT`
abbrev pub ElementPhrase : (HwType → Phrase) → HwType → Phrase
ElementPhrase Inner t = Either (Then (Word (codes "x")) (Inner t)) (GluedPhrase t)

-- `f : T`
abbrev pub FieldPhrase : (HwType → Phrase) → NamedType → Phrase
FieldPhrase Inner f = Then (NamePhrase f.name) (Then (Mark kind.Colon) (Inner f.type))

-- `<f : T, ..>`
abbrev pub FieldsPhrase : (HwType → Phrase) → HwType → Phrase
FieldsPhrase Inner t ts = (fs : List NamedType) × (t ≡ struct (fields_of fs)) × Between kind.Less kind.Greater (Commas (FieldPhrase Inner) fs) ts

-- a type that is no aggregate
abbrev pub PlainType : HwType → Phrase
PlainType (int w) = WidthPhrase (codes "i") w
PlainType clock = TypeWord (codes "seq.clock")
PlainType _ = λ ts. ⊥

-- a type whose parts are said so
abbrev pub TypeWith : (HwType → Phrase) → HwType → Phrase
TypeWith Inner (int w) = WidthPhrase (codes "i") w
TypeWith Inner clock = TypeWord (codes "seq.clock")
TypeWith Inner (array n t) =
    Then (TypeWord (codes "hw.array")) (Between kind.Less kind.Greater (Then (NumberPhrase count_limit n) (ElementPhrase Inner t)))
TypeWith Inner (struct fs) = Then (TypeWord (codes "hw.struct")) (FieldsPhrase Inner (struct fs))

-- a type within which so many aggregates may stand in one another
abbrev pub TypePhrase : ℕ → HwType → Phrase
TypePhrase zero t = PlainType t
TypePhrase (suc room) t = TypeWith (TypePhrase room) t

-- ---- attributes and dictionaries

abbrev pub TruthWord : Bool → Phrase
TruthWord b = Word (cond b (codes "true") (codes "false"))

-- `: T`, or nothing for i64
abbrev pub IntegerType : ℕ → HwType → Phrase
IntegerType room t = Either (Then (Mark kind.Colon) (TypePhrase room t)) (Where (t ≡ int 64) Nothing)

-- an attribute whose lists are said so
abbrev pub AttributeWith : (List Attribute → Phrase) → ℕ → Attribute → Phrase
AttributeWith Lists room unit_value = λ ts. ⊥
AttributeWith Lists room (text_value text) = Holding kind.StringLiteral text
AttributeWith Lists room (symbol_value name) = SymbolPhrase name
AttributeWith Lists room (truth_value b) = TruthWord b
AttributeWith Lists room (integer_value z t) = Where (is_stored z ≡ true) (Then (IntegerPhrase z) (IntegerType room t))
AttributeWith Lists room (list_value inner) = λ ts. (l : List Attribute) × (inner ≡ in_order l) × Lists l ts

-- an attribute within which so many lists and types may stand in one another
abbrev pub AttributePhrase : ℕ → Attribute → Phrase
AttributePhrase zero a = AttributeWith (λ l ts. ⊥) zero a
AttributePhrase (suc room) a =
    AttributeWith (λ l. Between kind.LeftBracket kind.RightBracket (Commas (AttributePhrase room) l)) (suc room) a

-- the value of a key: of some keys it is a string
abbrev pub ValuePhrase : List Name → Entry → Phrase
ValuePhrase strings e =
    Either (Where (is_among e.key strings ≡ false) (AttributePhrase most_open e.value))
    (λ ts. (is_among e.key strings ≡ true) × ((text : Name) × (e.value ≡ text_value text) × Holding kind.StringLiteral text ts))

-- `K = V`, or `K` for a unit
abbrev pub EntryPhrase : List Name → Entry → Phrase
EntryPhrase strings e =
    Either (Then (NamePhrase e.key) (Then (Mark kind.Equals) (ValuePhrase strings e)))
    (Where ((is_among e.key strings ≡ false) × (e.value ≡ unit_value)) (NamePhrase e.key))

-- no key stands twice
abbrev pub AreOnce : List Name → List Entry → Type 0
AreOnce earlier [] = Unit {0}
AreOnce earlier (e ∷ es) = (is_among e.key earlier ≡ false) × AreOnce (earlier ++ e.key ∷ []) es

-- `{K = V, ..}`
abbrev pub DictionaryPhrase : List Name → List Entry → Phrase
DictionaryPhrase strings es = Where (AreOnce [] es) (Between kind.LeftBrace kind.RightBrace (Commas (EntryPhrase strings) es))

-- a dictionary, or nothing
abbrev pub MaybeDictionary : List Name → Option (List Entry) → Phrase
MaybeDictionary strings None = Nothing
MaybeDictionary strings (Some es) = DictionaryPhrase strings es

-- ---- constants of aggregates

abbrev pub LiteralWith : (Literals → Phrase) → ℕ → Literal → Phrase
LiteralWith Lists room (leaf z t) =
    Either (Then (IntegerPhrase z) (Then (Mark kind.Colon) (TypePhrase room t)))
    (λ ts. (b : Bool) × (leaf z t ≡ truth_leaf b) × TruthWord b ts)
LiteralWith Lists room (parts ls) = Lists ls

-- `[V, ..]`
abbrev pub PartsPhrase : (Literal → Phrase) → Literals → Phrase
PartsPhrase Part ls ts =
    (l : List Literal) × (ls ≡ literals_in_order l) × Between kind.LeftBracket kind.RightBracket (Commas Part l) ts

-- a constant within which so many lists and types may stand in one another
abbrev pub LiteralPhrase : ℕ → Literal → Phrase
LiteralPhrase zero l = LiteralWith (λ ls ts. ⊥) zero l
LiteralPhrase (suc room) l = LiteralWith (PartsPhrase (LiteralPhrase room)) (suc room) l

-- the constants of an aggregate
abbrev pub AggregatePhrase : Literals → Phrase
AggregatePhrase ls = PartsPhrase (LiteralPhrase 31) ls
