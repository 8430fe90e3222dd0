-- The text of words, strings and symbols (MLIR language reference: "Identifiers and keywords").
use Rattle.std.specs.Prelude.{ℕ, Bool, true, false, cond, List, [], ◌∷◌, Option, Some, None, Ok, Err, codes, option_and_then}
use Rattle.diag.specs.declared.refusal.OpName.{OpName}
use Rattle.diag.specs.declared.cause.Cause.TheVariants.{OutsideProfile}
use Rattle.hw_model.specs.Types.{Name}
use Rattle.hw_model.specs.Kinds.{Predicate}
use Rattle.hw_model.specs.Kinds.Predicate.{eq, ne, slt, sle, sgt, sge, ult, ule, ugt, uge, ceq, cne, weq, wne}
use Rattle.hw_model.specs.Design.{same_name}
use Rattle.mlir_lexer.specs.Contents.{content_of}
use Rattle.mlir_lexer.specs.Tokens.{TextToken}
use Rattle.mlir_lexer.specs.declared.token.TokenKind.TheVariants as kind
use Rattle.mlir_syntax.specs.Stream.{StreamToken, token, bad, end, first, is_first, is_next, is_word, after, refusal_at, unexpected_refusal}
use Rattle.mlir_lexer.specs.TokenKinds.{is_kind}
use Rattle.mlir_syntax.specs.Reads.{Reads, Read, on, want}
use Rattle.mlir_syntax.specs.AttributeText.{is_symbol}

-- ---- predicates

-- the predicate of a name (CIRCT, Comb dialect: ICmpPredicate)
unfoldable pub predicate_named : List ℕ → Option Predicate
predicate_named name =
    cond (same_name name (codes "eq")) (Some eq)
    (cond (same_name name (codes "ne")) (Some ne)
    (cond (same_name name (codes "slt")) (Some slt)
    (cond (same_name name (codes "sle")) (Some sle)
    (cond (same_name name (codes "sgt")) (Some sgt)
    (cond (same_name name (codes "sge")) (Some sge)
    (cond (same_name name (codes "ult")) (Some ult)
    (cond (same_name name (codes "ule")) (Some ule)
    (cond (same_name name (codes "ugt")) (Some ugt)
    (cond (same_name name (codes "uge")) (Some uge)
    (cond (same_name name (codes "ceq")) (Some ceq)
    (cond (same_name name (codes "cne")) (Some cne)
    (cond (same_name name (codes "weq")) (Some weq)
    (cond (same_name name (codes "wne")) (Some wne) None)))))))))))))

-- the text of a token that is a bare name
abbrev pub bare_text : Option TextToken → Option (List ℕ)
bare_text None = None
bare_text (Some t) = cond (is_kind t.kind kind.BareName) (Some t.text) None

-- the first token as something, or its refusal
abbrev pub as_known : {A : Type 0} → OpName → List StreamToken → Option A → Read A
as_known op s None = Err (unexpected_refusal op s)
as_known op s (Some x) = Ok (x, after s)

unfoldable pub predicate_text : OpName → Reads Predicate
predicate_text op s = as_known op s (option_and_then predicate_named (bare_text (first s)))

-- ---- `true` and `false`

unfoldable pub truth_named : List ℕ → Option Bool
truth_named name = cond (same_name name (codes "true")) (Some true) (cond (same_name name (codes "false")) (Some false) None)

unfoldable pub truth_text : OpName → Reads Bool
truth_text op s = as_known op s (option_and_then truth_named (bare_text (first s)))

-- ---- strings and symbols

-- what a string holds
unfoldable pub string_text : OpName → Reads Name
string_text op s = on (want op kind.StringLiteral s) (λ t left. Ok (content_of kind.StringLiteral t.text, left))

-- a symbol's name
unfoldable pub symbol_text : OpName → Reads Name
symbol_text op [] = Err (unexpected_refusal op [])
symbol_text op (token t ∷ ts) = cond (is_symbol t) (Ok (content_of t.kind t.text, ts)) (Err (unexpected_refusal op (token t ∷ ts)))
symbol_text op (bad p ∷ ts) = Err (unexpected_refusal op (bad p ∷ ts))
symbol_text op (end p ∷ ts) = Err (unexpected_refusal op (end p ∷ ts))

-- `sym @s`, or nothing
unfoldable pub inner_symbol : OpName → Reads (Option Name)
inner_symbol op s =
    cond (is_first (is_word (codes "sym")) s) (on (symbol_text op (after s)) (λ name left. Ok (Some name, left))) (Ok (None, s))

-- `@N`, after which no parameters may stand
unfoldable pub module_symbol : OpName → Reads Name
module_symbol op s = on (symbol_text op s) (λ name left. cond (is_next kind.Less left) (Err (refusal_at OutsideProfile op left)) (Ok (name, left)))
