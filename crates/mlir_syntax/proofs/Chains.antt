-- Readers one after the other: a refusal is passed on.
use Rattle.std.proofs.Common.{◌≡◌, List, Result, Ok, Err, IsErrAnd, refl}
use Rattle.mlir_syntax.specs.Stream.{StreamToken}
use Rattle.mlir_syntax.specs.Reads.{Read, Reads, on}
use Rattle.mlir_syntax.specs.Views.{ReadsAs}
use Rattle.mlir_syntax.specs.declared.fail.ReadFail.{ReadFail}
use Rattle.mlir_syntax.specs.declared.fail.ReadFail.TheVariants.{Refused, NoMemory}

-- a reader that fails makes the whole fail so
pub on_err : {A B C D : Type 0} (view : A → B) (whole : C → D) (fail : ReadFail) (left left_over : List StreamToken) (read : Read B) (f : B → Reads D)
    → ReadsAs view (Err fail) left read → ReadsAs whole (Err fail) left_over (on read f)
on_err view whole (Refused r) left left_over read f h = rw h refl
on_err view whole NoMemory left left_over read f h = tt

-- the same of the result of a `?`
pub passed_on : {A B C D : Type 0} (view : A → B) (whole : C → D) (r : Result C ReadFail) (fail : ReadFail) (left left_over : List StreamToken) (read : Read B)
    (f : B → Reads D) → IsErrAnd r (λ e. e ≡ fail) → ReadsAs view (Err fail) left read → ReadsAs whole r left_over (on read f)
passed_on view whole (Ok x) fail left left_over read f none h = absurd none
passed_on view whole (Err e) fail left left_over read f same h = rw same (on_err view whole fail left left_over read f h)
