-- The readers of operands and of the names of results look no further than one token.
use Rattle.std.proofs.Common.{[]}
use Rattle.diag.specs.declared.refusal.OpName.{OpName}
use Rattle.hw_model.specs.Types.{Name}
use Rattle.mlir_lexer.specs.Contents.{content_of}
use Rattle.mlir_lexer.specs.declared.token.TokenKind.TheVariants as kind
use Rattle.mlir_lexer.specs.TokenKinds.{is_kind}
use Rattle.mlir_syntax.specs.Numerals.{number_in, count_limit, below_limit}
use Rattle.mlir_operations.specs.OperandText.{value_name, pack_number, operand_text, no_names, names, pack, names_after, results_text, maybe_results}
use Rattle.mlir_syntax.proofs.LocalParts.{local_want, local_limited, local_kind, local_number, local_some}
use Rattle.mlir_syntax.proofs.Local.{Local, loc_on, loc_next, loc_after, loc_give}

pub local_value_name : (op : OpName) → Local (value_name op)
unfolding value_name
local_value_name op c n = loc_on (local_want op kind.ValueName c n) (λ t. loc_give {y = content_of kind.ValueName t.text})

local_pack : (op : OpName) → Local (pack_number op)
unfolding pack_number
local_pack op c n =
    loc_next (λ t. is_kind t.kind kind.ResultNumber)
    (local_kind op kind.ResultNumber (λ t s left. below_limit count_limit op s (number_in 10 0 (content_of kind.ResultNumber t.text)) left)
    (λ t. local_limited count_limit op (number_in 10 0 (content_of kind.ResultNumber t.text))) c n)
    (loc_give {y = 0})

pub local_operand : (op : OpName) → Local (operand_text op)
unfolding operand_text
local_operand op c n =
    loc_on (local_value_name op c n) (λ name. loc_on (local_pack op c n) (λ x. loc_give {y = record { name = name; number = x }}))

local_names_after : (op : OpName) (name : Name) → Local (names_after op name)
unfolding names_after
local_names_after op name c n =
    loc_next (λ t. is_kind t.kind kind.Colon) (loc_after (loc_on (local_number count_limit op c n) (λ k. loc_give {y = pack name k})))
    (loc_next (λ t. is_kind t.kind kind.Comma) (loc_after (loc_on (local_some op (local_value_name op) c n) (λ ns. loc_give {y = names name ns})))
    (loc_give {y = names name []}))

local_results : (op : OpName) → Local (results_text op)
unfolding results_text
local_results op c n =
    loc_on (local_value_name op c n) (λ name. loc_on (local_names_after op name c n) (λ r. loc_on (local_want op kind.Equals c n) (λ _. loc_give {y = r})))

pub local_maybe_results : (op : OpName) → Local (maybe_results op)
unfolding maybe_results
local_maybe_results op c n = loc_next (λ t. is_kind t.kind kind.ValueName) (local_results op c n) (loc_give {y = no_names})
