-- What is read of the body of a module, beside what its text says.
use Rattle.std.proofs.Common.{◌≡◌, ◌+◌, ◌<◌, ◌^◌, Bool, true, false, cond, List, [], ◌∷◌, ◌++◌, length, Result, Ok, Err, IsErrAnd, refl, sym, ap, ◌∙◌, arith}
use Rattle.std.specs.Prelude.{◌||◌}
use Rattle.std.proofs.lemmas.List.{map-id}
use Rattle.ir_store.specs.Bodies.{ids_of}
use Rattle.ir_store.specs.declared.body.Body.{Body}
use Rattle.mlir_lexer.specs.declared.token.TokenKind.TheVariants as kind
use Rattle.mlir_reader.specs.Drafts.{IsBody}
use Rattle.mlir_reader.specs.ModuleViews.{AreOperations}
use Rattle.mlir_operations.specs.OperationText.{OperationText, operations_text, is_last}
use Rattle.mlir_syntax.specs.Reads.{Read, Reads, on}
use Rattle.mlir_reader.specs.Resolving.{Meanings, ends_with_output}
use Rattle.mlir_syntax.specs.Stream.{StreamToken, is_next}
use Rattle.mlir_syntax.specs.Views.{ReadsAs, ReadsFor}
use Rattle.mlir_syntax.specs.declared.fail.ReadFail.{ReadFail}
use Rattle.mlir_syntax.specs.declared.fail.ReadFail.TheVariants.{Refused, NoMemory}
use Rattle.mlir_reader.specs.declared.body_text.Operations.{Operations}
use Rattle.mlir_reader.proofs.Bodies.{Standing, closes_at}
use Rattle.mlir_reader.proofs.BodySteps.{count_is}

-- ---- failing

-- a refusal says nothing of an answer
pub refused_for : {A B C : Type 0} (view : C → B) (holds : B → A → Type 0) (fail : ReadFail) (left : List StreamToken) (read : Read B)
    → ReadsAs view (Err fail) left read → ReadsFor holds (Err fail) left read
refused_for view holds (Refused r) left read h = h
refused_for view holds NoMemory left read h = tt

-- a reader that fails makes the whole fail so
-- a reader that fails makes the whole fail so, by a `?`
pub passed_for : {A B C D : Type 0} (view : A → B) (holds : D → C → Type 0) (r : Result C ReadFail) (fail : ReadFail) (left left_over : List StreamToken) (read : Read B)
    (f : B → Reads D) → IsErrAnd r (λ e. e ≡ fail) → ReadsAs view (Err fail) left read → ReadsFor holds r left_over (on read f)
passed_for view holds (Ok x) fail left left_over read f none h = absurd none
passed_for view holds (Err e) (Refused r) left left_over read f same h = rw (same, h) refl
passed_for view holds (Err e) NoMemory left left_over read f same h = rw same tt

-- the same of a reader of which something holds
pub passed_held : {A B C D : Type 0} (held : B → A → Type 0) (holds : D → C → Type 0) (r : Result C ReadFail) (fail : ReadFail) (left left_over : List StreamToken) (read : Read B)
    (f : B → Reads D) → IsErrAnd r (λ e. e ≡ fail) → ReadsFor held (Err fail) left read → ReadsFor holds r left_over (on read f)
passed_held held holds (Ok x) fail left left_over read f none h = absurd none
passed_held held holds (Err e) (Refused r) left left_over read f same h = rw (same, h) refl
passed_held held holds (Err e) NoMemory left left_over read f same h = rw same tt

-- ---- the last operation

either_end : (b e last : Bool) → cond b true (e || last) ≡ (cond b true e || last)
either_end true e last = refl
either_end false e last = refl

one_end : (b : Bool) → cond b true false ≡ b
one_end true = refl
one_end false = refl

ends_push : (os : List OperationText) (o : OperationText) → ends_with_output (os ++ o ∷ []) ≡ (ends_with_output os || is_last o.name)
ends_push [] o = one_end (is_last o.name)
ends_push (p ∷ os) o = ap (λ e. cond (is_last p.name) true e) (ends_push os o) ∙ either_end (is_last p.name) (ends_with_output os) (is_last o.name)

pub ends_already : (os : List OperationText) (o : OperationText) (before now : Bool) → before ≡ ends_with_output os → before ≡ true → now ≡ true
    → now ≡ ends_with_output (os ++ o ∷ [])
ends_already os o before now e t n = n ∙ sym (ends_push os o ∙ ap (λ b. b || is_last o.name) (sym e ∙ t))

pub ends_here : (os : List OperationText) (o : OperationText) (before now : Bool) → before ≡ ends_with_output os → before ≡ false → now ≡ is_last o.name
    → now ≡ ends_with_output (os ++ o ∷ [])
ends_here os o before now e f n = n ∙ sym (ends_push os o ∙ ap (λ b. b || is_last o.name) (sym e ∙ f))

-- ---- the end of the body

abbrev same : OperationText → OperationText
same o = o

pub all_read : {seen : Meanings} {start : List StreamToken} {got : List OperationText} {left : List StreamToken} (x : Operations)
    → Standing same start got left → is_next kind.RightBrace left ≡ true → IsBody seen got x.body → x.ends ≡ ends_with_output got
    → ReadsFor (AreOperations seen) (Ok x) left (operations_text (length start) start)
all_read {got = got} {left = left} x standing close body ends =
    (got, closes_at standing close ∙ ap (λ os. Ok (os, left)) (map-id got), record { body = body; ends = ends })

-- a body has as many ids as operations
pub room_left : {seen : Meanings} {os : List OperationText} {body : Body} → IsBody seen os body → length (ids_of body) + 1 < 2 ^ 32
room_left {os = os} {body = body} b =
    let n = count_is (ids_of body) (length os) b.ids in
    let few = b.few in
    omega (arith, n, few)
