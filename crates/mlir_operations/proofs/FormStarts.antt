-- What a form begins with, and that it tells the form of an operation.
use Rattle.std.proofs.Common.{◌≡◌, Bool, true, false, cond, List, [], ◌∷◌, Option, Some, None, refl, sym, ◌∙◌, ap}
use Rattle.std.specs.Prelude.{codes}
use Rattle.opcode.specs.declared.listed.Listed.{Listed}
use Rattle.opcode.specs.declared.listed.Listed.TheVariants as listed
use Rattle.hw_model.specs.Types.{Name}
use Rattle.hw_model.specs.Kinds.{Predicate}
use Rattle.hw_model.specs.Design.{Entry, same_name}
use Rattle.std.specs.Cmp.Lexicographic.{bytes_decides}
use Rattle.mlir_lexer.specs.Tokens.{TextToken}
use Rattle.mlir_lexer.specs.declared.token.TokenKind.{TokenKind}
use Rattle.mlir_lexer.specs.declared.token.TokenKind.TheVariants as kind
use Rattle.mlir_syntax.specs.Stream.{StreamToken, token, bad, end, first, is_first, is_next, is_word}
use Rattle.mlir_lexer.specs.TokenKinds.{is_kind}
use Rattle.assembly_format.specs.Formats.{is_of, format_of, prefix_elements, type_elements}
use Rattle.mlir_operations.specs.ElementText.{Gathered, gathered_nothing}
use Rattle.mlir_syntax.specs.WordText.{predicate_named}
use Rattle.mlir_operations.specs.OperationText.{is_last}
use Rattle.mlir_syntax.specs.Spelling.{Phrase, Mark, Holding, TruthWord}
use Rattle.mlir_operations.specs.Spelling.{OperandPhrase, FormatElementPhrase, ElementsPhrase, FormPhrase}
use Rattle.assembly_format.specs.declared.elements.FormatElement.{FormatElement}
use Rattle.assembly_format.specs.declared.elements.FormatElement.TheVariants as element
use Rattle.assembly_format.specs.declared.elements.Format.{Format}
use Rattle.assembly_format.specs.declared.elements.Format.TheVariants as format
use Rattle.mlir_syntax.proofs.Again.{At, Leads, leads_one, leads_then, starts, starts_test}
use Rattle.mlir_syntax.proofs.AgainTokens.{is_kind_of, unlike, no_word, other_word, leads_holding, leads_commas, leads_integer}
use Rattle.mlir_syntax.proofs.AgainLiterals.{leads_aggregate}
use Rattle.mlir_operations.proofs.AgainOperands.{NoValue, leads_operand}
use Rattle.mlir_operations.proofs.AgainForms.{OperationEnd, types_form, leads_elements, no_elements, after_prefix, prefix_of}

-- ---- what a form begins with

-- the first token, by its kind
pub of_first : (k : TokenKind) (s : List StreamToken) → is_of k (first s) ≡ is_next k s
of_first k [] = refl
of_first k (token t ∷ s) = refl
of_first k (bad p ∷ s) = refl
of_first k (end p ∷ s) = refl

-- a token is not the mark `bin`
abbrev NoBin : TextToken → Type 0
NoBin t = is_word (codes "bin") t ≡ false

-- pieces that do not begin with `bin`
abbrev IsPrefix : FormatElement → Type 0
IsPrefix (element.Mark k) = ⊥
IsPrefix (element.Word w) = ⊥
IsPrefix element.Number = ⊥
IsPrefix element.Field = ⊥
IsPrefix element.Reset = ⊥
IsPrefix element.SyncOrAsyncReset = ⊥
IsPrefix element.Type = ⊥
IsPrefix element.Types = ⊥
IsPrefix _ = Unit {0}

-- a predicate is no `bin`
no_predicate : (name : Name) (p : Predicate) → predicate_named name ≡ Some p → same_name name (codes "bin") ≡ false
unfolding predicate_named
no_predicate name p e = go (same_name name (codes "bin")) refl
  where
    go : (b : Bool) → same_name name (codes "bin") ≡ b → b ≡ false
    go true h = let known : Some p ≡ None = sym e ∙ ap predicate_named ((bytes_decides name (codes "bin")).0 h) in absurd cc
    go false h = refl

leads_truth : (b : Bool) → Leads NoBin (TruthWord b)
leads_truth true = leads_one (λ t w. other_word (codes "bin") (codes "true") refl t w.1)
leads_truth false = leads_one (λ t w. other_word (codes "bin") (codes "false") refl t w.1)

leads_prefix : (p : FormatElement) (g h : Gathered) → IsPrefix p → Leads NoBin (FormatElementPhrase p g h)
leads_prefix (element.Mark k) g h f = absurd f
leads_prefix (element.Word w) g h f = absurd f
leads_prefix element.Number g h f = absurd f
leads_prefix element.Field g h f = absurd f
leads_prefix element.Reset g h f = absurd f
leads_prefix element.SyncOrAsyncReset g h f = absurd f
leads_prefix element.Type g h f = absurd f
leads_prefix element.Types g h f = absurd f
leads_prefix element.Operand g h f = record { lead = λ ts p. (leads_operand p.0 (no_word (codes "bin") kind.ValueName refl)).lead ts p.2 }
leads_prefix element.Operands g h f = record {
  lead = λ ts p. (leads_commas OperandPhrase p.0 p.1 (leads_operand p.0 (no_word (codes "bin") kind.ValueName refl))).lead ts p.3;
}
leads_prefix element.Group g h f = record {
  lead = λ ts p. (leads_then {P = Mark kind.LeftParenthesis} (leads_one (no_word (codes "bin") kind.LeftParenthesis refl))).lead ts p.2;
}
leads_prefix element.Predicate g h f = record {
  lead = λ ts p. (leads_one {U = NoBin} (λ t w. other_word (codes "bin") p.1 (no_predicate p.1 p.0 p.3) t w.1)).lead ts p.4;
}
leads_prefix element.Truth g h f = record { lead = λ ts p. (leads_truth p.0).lead ts p.2 }
leads_prefix element.Integer g h f = record {
  lead = λ ts p. (leads_integer (no_word (codes "bin") kind.Integer refl) (no_word (codes "bin") kind.Minus refl)).lead ts p.2;
}
leads_prefix element.Literals g h f = record { lead = λ ts p. (leads_aggregate p.0 (no_word (codes "bin") kind.LeftBracket refl)).lead ts p.2 }
leads_prefix element.Instance g h f = record {
  lead = λ ts p. (leads_then {P = Holding kind.StringLiteral p.0} (leads_holding (no_word (codes "bin") kind.StringLiteral refl))).lead ts p.6;
}

-- the first piece of a form does not begin with `bin`
abbrev PrefixFirst : List FormatElement → Type 0
PrefixFirst [] = Unit {0}
PrefixFirst (p ∷ ps) = IsPrefix p

prefix_first : (format : Format) → PrefixFirst (prefix_elements format)
unfolding prefix_elements
prefix_first format.Variadic = tt
prefix_first _ = tt

no_bin_prefix : (ps : List FormatElement) (g h : Gathered) {s m : List StreamToken} → PrefixFirst ps → is_first (is_word (codes "bin")) m ≡ false → At (ElementsPhrase ps g h) s m
    → is_first (is_word (codes "bin")) s ≡ false
no_bin_prefix [] g h first last a = ap (is_first (is_word (codes "bin"))) (no_elements a).1 ∙ last
no_bin_prefix (p ∷ ps) g h first last a = starts_test (is_word (codes "bin")) false (λ t e. e) (starts (leads_elements p ps g h (λ m. leads_prefix p g m first)) a)

-- a form does not begin with `bin`
pub no_bin : (keys : List Name) (format : Format) (h : Gathered) (es : List Entry) {s left : List StreamToken} → OperationEnd left → At (FormPhrase keys format h es) s left
    → is_first (is_word (codes "bin")) s ≡ false
no_bin keys format h es last a =
    let (g, early, late, one, m, b, c) = prefix_of keys format h es a in
    no_bin_prefix (prefix_elements format) gathered_nothing g (prefix_first format)
    (after_prefix (is_word (codes "bin")) keys (type_elements format) g h early late (types_form format) (no_word (codes "bin") kind.LeftBrace refl)
    (no_word (codes "bin") kind.Colon refl) last.no_bin c) b

-- ---- the form of an operation is told by the token that it begins with

first_kind : (k : TokenKind) (b : Bool) {P : Phrase} {s left : List StreamToken} → Leads (λ t. is_kind t.kind k ≡ b) P → At P s left → is_of k (first s) ≡ b
first_kind k b {s = s} leads a = of_first k s ∙ starts_test (λ t. is_kind t.kind k) b (λ t e. e) (starts leads a)

constant_at : (keys : List Name) (b : Bool) (h : Gathered) (es : List Entry) {s left : List StreamToken} → At (FormPhrase keys (cond b format.Truth format.Integer) h es) s left
    → is_of kind.BareName (first s) ≡ b
unfolding prefix_elements
constant_at keys true h es a =
    let (g, early, late, one, m, b, c) = prefix_of keys format.Truth h es a in
    first_kind kind.BareName true (leads_elements element.Truth [] gathered_nothing g (λ i. record {
      lead = λ ts p. (leads_one {U = λ t. is_kind t.kind kind.BareName ≡ true} (λ t w. is_kind_of w.0)).lead ts p.2;
    })) b
constant_at keys false h es a =
    let (g, early, late, one, m, b, c) = prefix_of keys format.Integer h es a in
    first_kind kind.BareName false (leads_elements element.Integer [] gathered_nothing g (λ i. record {
      lead = λ ts p. (leads_integer (unlike kind.BareName kind.Integer refl) (unlike kind.BareName kind.Minus refl)).lead ts p.2;
    })) b

output_at : (keys : List Name) (b : Bool) (h : Gathered) (es : List Entry) {s left : List StreamToken} → NoValue left
    → At (FormPhrase keys (cond b format.Joined format.Nothing) h es) s left → is_of kind.ValueName (first s) ≡ b
unfolding prefix_elements
output_at keys true h es last a =
    let (g, early, late, one, m, b, c) = prefix_of keys format.Joined h es a in
    first_kind kind.ValueName true (leads_elements element.Operands [] gathered_nothing g (λ i. record {
      lead = λ ts p. (leads_commas OperandPhrase p.0 p.1 (leads_operand {T = λ t. is_kind t.kind kind.ValueName ≡ true} p.0 (λ t e. is_kind_of e))).lead ts p.3;
    })) b
output_at keys false h es {s} last a =
    let (g, early, late, one, m, b, c) = prefix_of keys format.Nothing h es a in
    of_first kind.ValueName s ∙ ap (is_next kind.ValueName) (no_elements b).1
    ∙ after_prefix (λ t. is_kind t.kind kind.ValueName) keys (type_elements format.Nothing) g h early late (types_form format.Nothing) (unlike kind.ValueName kind.LeftBrace refl)
    (unlike kind.ValueName kind.Colon refl) last c

pub format_at : (o : Listed) (next : Option TextToken) (keys : List Name) (h : Gathered) (es : List Entry) {s left : List StreamToken} → (is_last o ≡ true → NoValue left)
    → At (FormPhrase keys (format_of o next) h es) s left → format_of o (first s) ≡ format_of o next
unfolding format_of
format_at listed.HwConstant next keys h es last a = ap (λ b. cond b format.Truth format.Integer) (constant_at keys (is_of kind.BareName next) h es a)
format_at listed.HwOutput next keys h es last a = ap (λ b. cond b format.Joined format.Nothing) (output_at keys (is_of kind.ValueName next) h es (last refl) a)
format_at _ next keys h es last a = refl
