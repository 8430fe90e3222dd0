-- What is read of an operation's pieces: types that can be read, and what is said within its limits.
use Rattle.std.proofs.Common.{◌<◌, Bool, true, false, List, [], ◌∷◌, ◌++◌, map, sym, subst, inl, inr, arith}
use Rattle.std.specs.Prelude.{Option, Some, None, ⊤}
use Rattle.hw_model.specs.Types.{Name}
use Rattle.hw_model.specs.Types.HwType.{int}
use Rattle.hw_model.specs.TypeViews.{NamedType}
use Rattle.mlir_lexer.specs.Tokens.{TextToken}
use Rattle.mlir_lexer.specs.declared.token.TokenKind.TheVariants as kind
use Rattle.mlir_syntax.specs.Numerals.{count_limit}
use Rattle.mlir_syntax.specs.TypeText.{most_open}
use Rattle.mlir_operations.specs.ElementText.{InherentAttributes, Gathered, Joined, truth_number}
use Rattle.mlir_operations.specs.ElementText.InherentAttributes.{with_reset, with_async_reset, position, number, literals, field_name, child}
use Rattle.mlir_syntax.specs.Spelling.{Phrase, TypePhrase}
use Rattle.mlir_operations.specs.Spelling.{InputPhrase, OutputPhrase, InnerSymbol, InstancePhrase, ResetPhrase, FormatElementPhrase, ElementsPhrase}
use Rattle.assembly_format.specs.declared.elements.FormatElement.{FormatElement}
use Rattle.assembly_format.specs.declared.elements.FormatElement.TheVariants as element
use Rattle.stored_form.specs.Bytes.{Each, AreBytes, MayBeBytes}
use Rattle.stored_form.specs.Limits.{IsInteger, IsAnyType, AreLiterals}
use Rattle.stored_form.specs.Kinds.{IsWrittenInstance}
use Rattle.mlir_reader.proofs.canonical.ReadBytes.{AreTexts, said, said_first, said_then, held_bytes, name_bytes_read, symbol_bytes_read, each_read, integer_read, type_read, field_read, aggregate_read}

-- what is said besides operands and types is within its limits
abbrev pub IsReadInherentAttributes : InherentAttributes → Type 0
IsReadInherentAttributes (position n) = n < count_limit
IsReadInherentAttributes (number z) = IsInteger z
IsReadInherentAttributes (literals ls) = AreLiterals ls 31
IsReadInherentAttributes (field_name name) = AreBytes name
IsReadInherentAttributes (child i) = IsWrittenInstance i
IsReadInherentAttributes _ = ⊤

-- what is gathered is so
pub record IsReadPart (g : Gathered) : Type 0 where
  pub types : Each IsAnyType g.types
  pub inherent : IsReadInherentAttributes g.inherent

pub each_append : {A : Type 0} (P : A → Type 0) (xs ys : List A) → Each P xs → Each P ys → Each P (xs ++ ys)
each_append P [] ys h g = g
each_append P (x ∷ xs) ys h g = (h.0, each_append P xs ys h.1 g)

each_map : {A B : Type 0} (f : A → B) (P : B → Type 0) (xs : List A) → Each (λ x. P (f x)) xs → Each P (map f xs)
each_map f P [] h = tt
each_map f P (x ∷ xs) h = (h.0, each_map f P xs h.1)

pub each_weaker : {A : Type 0} (P Q : A → Type 0) → ((x : A) → P x → Q x) → (xs : List A) → Each P xs → Each Q xs
each_weaker P Q f [] h = tt
each_weaker P Q f (x ∷ xs) h = (f x h.0, each_weaker P Q f xs h.1)

-- ---- instances

abbrev IsInput : Joined → Type 0
IsInput j = AreBytes j.port × IsAnyType j.type

abbrev IsOutput : NamedType → Type 0
IsOutput q = AreBytes q.name × IsAnyType q.type

input_read : (j : Joined) (ts : List TextToken) → AreTexts ts → InputPhrase j ts → IsInput j
input_read j ts texts h =
    let all = said ts texts h in
    let port = said_first all in
    let type = said_then (said_then (said_then (said_then all))) in
    (name_bytes_read j.port port.symbols port.texts port.is, type_read most_open j.type type.symbols type.texts type.is)

inner_read : (inner : Option Name) (ts : List TextToken) → AreTexts ts → InnerSymbol inner ts → MayBeBytes inner
inner_read None ts texts h = tt
inner_read (Some name) ts texts h = let symbol = said_then (said ts texts h) in symbol_bytes_read name symbol.symbols symbol.texts symbol.is

instance_read : (g h : Gathered) (ts : List TextToken) → AreTexts ts → IsReadPart g → InstancePhrase g h ts → IsReadPart h
instance_read g h ts texts r i =
    let all = said ts texts i.6 in
    let name = said_first all in
    let after_name = said_then all in
    let inner = said_first after_name in
    let after_inner = said_then after_name in
    let symbol = said_first after_inner in
    let lists = said_then after_inner in
    let inputs = said_first (said_then (said_first lists)) in
    let ins : Each IsInput i.3 = each_read InputPhrase IsInput input_read i.3 inputs.symbols inputs.texts inputs.is in
    let outputs = said_first (said_then (said_then (said_then lists))) in
    let outs : Each IsOutput i.4 =
    each_read OutputPhrase IsOutput (field_read (TypePhrase most_open) most_open (type_read most_open)) i.4 outputs.symbols outputs.texts outputs.is in
    subst IsReadPart (sym i.5)
    (record {
      types =
          each_append IsAnyType (g.types ++ map (λ (j : Joined). j.type) i.3) (map (λ (t : NamedType). t.type) i.4)
          (each_append IsAnyType g.types (map (λ (j : Joined). j.type) i.3) r.types
          (each_map (λ (j : Joined). j.type) IsAnyType i.3 (each_weaker IsInput (λ (j : Joined). IsAnyType j.type) (λ j x. x.1) i.3 ins)))
          (each_map (λ (t : NamedType). t.type) IsAnyType i.4 (each_weaker IsOutput (λ (t : NamedType). IsAnyType t.type) (λ t x. x.1) i.4 outs));
      inherent = record {
        name = held_bytes kind.StringLiteral i.0 name.symbols name.texts name.is;
        inner = inner_read i.2 inner.symbols inner.texts inner.is;
        symbol = symbol_bytes_read i.1 symbol.symbols symbol.texts symbol.is;
        inputs = each_map (λ (j : Joined). j.port) AreBytes i.3 (each_weaker IsInput (λ (j : Joined). AreBytes j.port) (λ j x. x.0) i.3 ins);
        outputs = each_map (λ (t : NamedType). t.name) AreBytes i.4 (each_weaker IsOutput (λ (t : NamedType). AreBytes t.name) (λ t x. x.0) i.4 outs);
      };
    })

-- ---- pieces

truth_read : (b : Bool) → IsInteger (truth_number b)
truth_read true = omega arith
truth_read false = omega arith

reset_read : {Reset : Phrase} (g h : Gathered) (ts : List TextToken) → IsReadPart g → ResetPhrase Reset with_reset g h ts → IsReadPart h
reset_read g h ts r i = subst IsReadPart (sym i.2) (record { types = r.types; inherent = tt })

async_reset_read : {Reset : Phrase} (g h : Gathered) (ts : List TextToken) → IsReadPart g → ResetPhrase Reset with_async_reset g h ts → IsReadPart h
async_reset_read g h ts r i = subst IsReadPart (sym i.2) (record { types = r.types; inherent = tt })

element_read : (p : FormatElement) (g h : Gathered) (ts : List TextToken) → AreTexts ts → IsReadPart g → FormatElementPhrase p g h ts → IsReadPart h
element_read (element.Mark k) g h ts texts r i = subst IsReadPart (sym i.0) r
element_read (element.Word w) g h ts texts r i = subst IsReadPart (sym i.0) r
element_read element.Operand g h ts texts r i = subst IsReadPart (sym i.1) (record { types = r.types; inherent = r.inherent })
element_read element.Operands g h ts texts r i = subst IsReadPart (sym i.2) (record { types = r.types; inherent = r.inherent })
element_read element.Group g h ts texts r i = subst IsReadPart (sym i.1) (record { types = r.types; inherent = r.inherent })
element_read element.Predicate g h ts texts r i = subst IsReadPart (sym i.2) (record { types = r.types; inherent = tt })
element_read element.Number g h ts texts r i = subst IsReadPart (sym i.1) (record { types = r.types; inherent = i.2.0 })
element_read element.Truth g h ts texts r i =
    subst IsReadPart (sym i.1) (record { types = each_append IsAnyType g.types (int 1 ∷ []) r.types (omega arith, tt); inherent = truth_read i.0 })
element_read element.Integer g h ts texts r i = subst IsReadPart (sym i.1) (record { types = r.types; inherent = integer_read i.0 ts i.2 })
element_read element.Literals g h ts texts r i = subst IsReadPart (sym i.1) (record { types = r.types; inherent = aggregate_read i.0 ts texts i.2 })
element_read element.Field g h ts texts r i = subst IsReadPart (sym i.1) (record { types = r.types; inherent = held_bytes kind.StringLiteral i.0 ts texts i.2 })
element_read element.Instance g h ts texts r i = instance_read g h ts texts r i
element_read element.Reset g h ts texts r (inl i) = reset_read g h ts r i
element_read element.Reset g h ts texts r (inr i) = subst IsReadPart (sym i.0) r
element_read element.SyncOrAsyncReset g h ts texts r (inl i) = reset_read g h ts r i
element_read element.SyncOrAsyncReset g h ts texts r (inr (inl i)) = async_reset_read g h ts r i
element_read element.SyncOrAsyncReset g h ts texts r (inr (inr i)) = subst IsReadPart (sym i.0) r
element_read element.Type g h ts texts r i =
    subst IsReadPart (sym i.1) (record {
      types = each_append IsAnyType g.types (i.0 ∷ []) r.types
          (type_read most_open i.0 ts texts i.2, tt);
      inherent = r.inherent;
    })
element_read element.Types g h ts texts r i =
    subst IsReadPart (sym i.1)
    (record {
      types = each_append IsAnyType g.types i.0 r.types
          (each_read (TypePhrase most_open) IsAnyType (type_read most_open) i.0 ts texts i.3);
      inherent = r.inherent;
    })

pub elements_read : (ps : List FormatElement) (g h : Gathered) (ts : List TextToken) → AreTexts ts → IsReadPart g → ElementsPhrase ps g h ts → IsReadPart h
elements_read [] g h ts texts r i = subst IsReadPart (sym i.0) r
elements_read (p ∷ ps) g h ts texts r i =
    let both = said ts texts i.1 in
    let one = said_first both in
    let others = said_then both in
    elements_read ps i.0 h others.symbols others.texts (element_read p g i.0 one.symbols one.texts r one.is) others.is
