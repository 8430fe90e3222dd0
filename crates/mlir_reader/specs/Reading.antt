-- A text read: the design that its bytes say, or the first thing in it that is refused.
use Rattle.std.specs.Prelude.{ℕ, ◌^◌, cond, nat_lt, List, length, Result, Ok, Err}
use Rattle.diag.specs.Location.{start_location}
use Rattle.diag.specs.declared.refusal.Refusal.{Refusal}
use Rattle.diag.specs.declared.refusal.OpName.TheVariants as op
use Rattle.diag.specs.declared.cause.Cause.TheVariants.{TooLong}
use Rattle.hw_model.specs.Design.{Design}
use Rattle.mlir_syntax.specs.Stream.{stream_of, refusal}
use Rattle.mlir_syntax.specs.Reads.{Read}
use Rattle.mlir_operations.specs.ModuleText.{ModuleText, file_text}
use Rattle.mlir_reader.specs.Resolving.{design_of}

-- how many bytes a text may have
abbrev pub text_limit : ℕ
text_limit = 2 ^ 26

-- the design of what is read
abbrev pub design_read : Read (List ModuleText) → Result Design Refusal
design_read (Ok p) = Ok (design_of p.0)
design_read (Err e) = Err e

-- the design that bytes say, or the first refusal
abbrev pub read : List ℕ → Result Design Refusal
read source = cond (nat_lt text_limit (length source)) (Err (refusal start_location op.File TooLong)) (design_read (file_text (stream_of source)))
