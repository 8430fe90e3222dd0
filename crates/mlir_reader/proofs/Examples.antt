-- The definitions of reading computed on small texts.
use Rattle.std.proofs.Common.{◌≡◌, [], Ok, Err, refl, arith}
use Rattle.std.specs.Prelude.{codes}
use Rattle.diag.specs.declared.refusal.OpName.TheVariants as op
use Rattle.diag.specs.declared.cause.Cause.TheVariants.{Unexpected}
use Rattle.mlir_lexer.specs.Prefixes.{prefix_of, sign_prefix, mark_of}
use Rattle.mlir_lexer.specs.Tokens.{tokens_after}
use Rattle.mlir_syntax.specs.Stream.{end, refusal}
use Rattle.mlir_operations.specs.OperationText.{no_operation}
use Rattle.mlir_operations.specs.ModuleText.{modules_text, module_text, file_text}
use Rattle.mlir_reader.specs.Reading.{read}
use Rattle.mlir_reader.specs.Locality.{item_location, IsOfItsToken}
use Rattle.mlir_reader.specs.Spelling.{Spells}
use Rattle.mlir_reader.proofs.SoundModules.{read_is_spelled}
use Rattle.mlir_reader.proofs.LocalModules.{refusal_is_local}

-- an empty text is a design of no modules, and spells it
empty_text : read [] ≡ Ok []
unfolding tokens_after file_text modules_text
empty_text = refl

empty_spelled : Spells [] []
empty_spelled = read_is_spelled [] [] empty_text

location_of_end : item_location (end (record { line = 2; col = 3 })) ≡ record { line = 2; col = 3 }
location_of_end = refl

-- a brace is no module: it is the token that is refused
brace : read (codes "{") ≡ Err (refusal (record { line = 1; col = 1 }) op.File Unexpected)
unfolding tokens_after prefix_of sign_prefix mark_of file_text modules_text module_text no_operation
brace = refl

brace_alone : IsOfItsToken (codes "{") (refusal (record { line = 1; col = 1 }) op.File Unexpected)
brace_alone = refusal_is_local (codes "{") (refusal (record { line = 1; col = 1 }) op.File Unexpected) (omega arith) brace
