-- The text of operands and of the names of results (MLIR language reference: "Identifiers and keywords", "Operations").
use Rattle.std.specs.Prelude.{ℕ, cond, List, [], ◌∷◌, length, Ok}
use Rattle.diag.specs.declared.refusal.OpName.{OpName}
use Rattle.hw_model.specs.Types.{Name}
use Rattle.mlir_lexer.specs.Contents.{content_of}
use Rattle.mlir_lexer.specs.declared.token.TokenKind.TheVariants as kind
use Rattle.mlir_syntax.specs.Stream.{is_next, after}
use Rattle.mlir_syntax.specs.Reads.{Reads, on, want, some_items}
use Rattle.mlir_syntax.specs.Numerals.{number_in, below_limit, number_below, count_limit}

-- a value as the text names it: its name, and its number within a pack
pub record OperandName : Type 0 where
  pub name : Name
  pub number : ℕ

-- `%v`
unfoldable pub value_name : OpName → Reads Name
value_name op s = on (want op kind.ValueName s) (λ t left. Ok (content_of kind.ValueName t.text, left))

-- `#i`, or nothing, which means 0
unfoldable pub pack_number : OpName → Reads ℕ
pack_number op s =
    cond (is_next kind.ResultNumber s)
    (on (want op kind.ResultNumber s) (λ t left. below_limit count_limit op s (number_in 10 0 (content_of kind.ResultNumber t.text)) left))
    (Ok (0, s))

-- `%v#i`
unfoldable pub operand_text : OpName → Reads OperandName
operand_text op s = on (value_name op s) (λ name left. on (pack_number op left) (λ n following. Ok (record { name = name; number = n }, following)))

-- how results are named: not at all, one by one, or as a pack of so many
pub data ResultNames : Type 0 where
  no_names : ResultNames
  names : Name → List Name → ResultNames
  pack : Name → ℕ → ResultNames

-- how many results are named
abbrev pub named_count : ResultNames → ℕ
named_count no_names = 0
named_count (names n ns) = length (n ∷ ns)
named_count (pack n k) = k

-- `:k`, further names after commas, or nothing after a first name
unfoldable pub names_after : OpName → Name → Reads ResultNames
names_after op name s =
    cond (is_next kind.Colon s) (on (number_below count_limit op (after s)) (λ k left. Ok (pack name k, left)))
    (cond (is_next kind.Comma s) (on (some_items op (value_name op) (after s)) (λ ns left. Ok (names name ns, left))) (Ok (names name [], s)))

-- the names of results and `=`
unfoldable pub results_text : OpName → Reads ResultNames
results_text op s =
    on (value_name op s) (λ name s1. on (names_after op name s1) (λ r s2. on (want op kind.Equals s2) (λ _ s3. Ok (r, s3))))

-- the names of results, or nothing
unfoldable pub maybe_results : OpName → Reads ResultNames
maybe_results op s = cond (is_next kind.ValueName s) (results_text op s) (Ok (no_names, s))
