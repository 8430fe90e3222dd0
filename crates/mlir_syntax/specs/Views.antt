-- What a reader of the code gives.
use Rattle.std.specs.Prelude.{◌≡◌, List, Result, Ok, Err}
use Rattle.mlir_syntax.specs.Stream.{StreamToken}
use Rattle.mlir_syntax.specs.Reads.{Read}
use Rattle.mlir_syntax.specs.declared.fail.ReadFail.{ReadFail}
use Rattle.mlir_syntax.specs.declared.fail.ReadFail.TheVariants.{Refused, NoMemory}

-- an answer is what is read, seen by a view, and what is left is left; a refusal is the one that is read; out of memory is free
abbrev pub ReadsAs : {A B : Type 0} → (A → B) → Result A ReadFail → List StreamToken → Read B → Type 0
ReadsAs view (Ok x) left read = read ≡ Ok (view x, left)
ReadsAs view (Err (Refused r)) left read = read ≡ Err r
ReadsAs view (Err NoMemory) left read = Unit {0}

-- the same, where this holds of the answer beside what is read
abbrev pub ReadsFor : {A B : Type 0} → (B → A → Type 0) → Result A ReadFail → List StreamToken → Read B → Type 0
ReadsFor {B = B} holds (Ok x) left read = (y : B) × (read ≡ Ok (y, left)) × holds y x
ReadsFor holds (Err (Refused r)) left read = read ≡ Err r
ReadsFor holds (Err NoMemory) left read = Unit {0}
