-- The line of a refusal.
use Rattle.std.specs.Prelude.{ℕ, ◌+◌, ◌≤◌, List, ◌++◌, length, slice_range, codes, decimal, nat_eq, ⊤, if◌then◌else◌}
use Rattle.std.specs.Cmp.Lexicographic.{pointwise}
use Rattle.opcode.specs.Listed.{name_of_listed}
use Rattle.diag.specs.Cause.{code_of, text_of}
use Rattle.diag.specs.declared.refusal.Refusal.{Refusal}
use Rattle.diag.specs.declared.refusal.OpName.{OpName}
use Rattle.diag.specs.declared.refusal.OpName.TheVariants as op

-- the name of a refusal's operation, of which one that is not listed stands in the source
abbrev pub operation_of : OpName → List ℕ → List ℕ
operation_of (op.Listed listed) source = name_of_listed listed
operation_of op.File source = codes "builtin.module"
operation_of op.Check source = codes "check"
operation_of op.Sim source = codes "sim"
operation_of op.Aiger source = codes "aiger"
operation_of (op.Other at len) source = slice_range source at (at + len)

-- a name that is not listed lies within the source
abbrev pub IsWithin : OpName → List ℕ → Type 0
IsWithin (op.Listed listed) source = ⊤
IsWithin op.File source = ⊤
IsWithin op.Check source = ⊤
IsWithin op.Sim source = ⊤
IsWithin op.Aiger source = ⊤
IsWithin (op.Other at len) source = at + len ≤ length source

-- what a file is called: standard input, which the command line calls `-`, by a name of its own
unfoldable pub shown_name : List ℕ → List ℕ
shown_name name = if pointwise nat_eq name (codes "-") then codes "<stdin>" else name

-- NAME:LINE:COL: error: 'OPERATION' CODE: TEXT, and the end of the line
abbrev pub refusal_line : List ℕ → List ℕ → Refusal → List ℕ
refusal_line name source refusal =
    (shown_name name ++ (codes ":" ++ decimal refusal.location.line)) ++ ((codes ":" ++ (decimal refusal.location.col ++ codes ": error: '"))
    ++ ((operation_of refusal.op source ++ (codes "' " ++ code_of refusal.cause)) ++ (codes ": " ++ (text_of refusal.cause ++ codes "\n"))))
