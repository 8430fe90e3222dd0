-- Operations of a body, one after another.
use Rattle.std.proofs.Common.{◌≡◌, ℕ, zero, suc, ◌-◌, ◌≤◌, ◌<◌, Bool, true, false, cond, not, ◌&&◌, List, [], ◌∷◌, ◌++◌, map, length, Ok, Err, Some, refl, sym, ap, ◌∙◌, arith}
use Rattle.std.proofs.lemmas.List.{map_push, append-nil}
use Rattle.opcode.specs.declared.listed.Listed.TheVariants as listed
use Rattle.diag.specs.declared.refusal.OpName.TheVariants as op
use Rattle.mlir_lexer.specs.Tokens.{TextToken}
use Rattle.mlir_lexer.specs.declared.token.TokenKind.TheVariants as kind
use Rattle.mlir_syntax.specs.Stream.{StreamToken, token, bad, end, first, is_next, after, unexpected_refusal}
use Rattle.mlir_syntax.specs.Reads.{Read, Reads, on}
use Rattle.mlir_operations.specs.OperationText.{OperationText, operation_text, operation_after, no_operation, operations_text, is_last}
use Rattle.mlir_operations.specs.OperandText.{maybe_results}
use Rattle.mlir_syntax.specs.Views.{ReadsAs}
use Rattle.mlir_syntax.specs.declared.fail.ReadFail.{ReadFail}
use Rattle.mlir_syntax.specs.declared.fail.ReadFail.TheVariants.{Refused, NoMemory}
use Rattle.mlir_syntax.proofs.Lists.{with_prefix, with_prefix-nothing, with_prefix-more}

-- after a first token less is left
pub passed-shorter : (s : List StreamToken) (t : TextToken) → Some t ≡ first s → length (after s) < length s
passed-shorter [] t e = cc
passed-shorter (token u ∷ ts) t e = omega arith
passed-shorter (bad p ∷ ts) t e = cc
passed-shorter (end p ∷ ts) t e = cc

-- where a token is next, something is left
next-some : (s : List StreamToken) → is_next kind.RightBrace s ≡ true → 0 < length s
next-some [] e = cc
next-some (x ∷ xs) e = omega arith

-- an operation, and further ones after it
abbrev then_others : ℕ → OperationText → Reads (List OperationText)
then_others n o left =
    cond (is_last o.name)
    (cond (is_next kind.RightBrace left) (Ok (o ∷ [], left)) (Err (unexpected_refusal (op.Listed listed.HwModule) left)))
    (on (operations_text n left) (λ os following. Ok (o ∷ os, following)))

-- some operations are read from the start on, and what is left gives the rest
pub record Standing {B : Type 0} (view : B → OperationText) (start : List StreamToken) (got : List B) (left : List StreamToken) : Type 0 where
  pub n : ℕ
  pub enough : length left ≤ n
  pub shorter : length left ≤ length start
  pub same : operations_text (length start) start ≡ with_prefix (map view got) (operations_text n left)

pub stands : {B : Type 0} (view : B → OperationText) (start : List StreamToken) → Standing view start [] start
stands view start = record { n = length start; enough = omega arith; shorter = omega arith; same = sym (with_prefix-nothing (operations_text (length start) start)) }

operations_at : (n : ℕ) (left : List StreamToken) → length left ≤ n → is_next kind.RightBrace left ≡ false
    → operations_text n left ≡ on (operation_text left) (then_others (n - 1))
unfolding operations_text operation_text operation_after no_operation maybe_results
operations_at zero [] enough more_left = refl
operations_at zero (s ∷ ss) enough more_left = absurd (omega (arith, enough))
operations_at (suc n) left enough more_left = let e : suc n - 1 ≡ n = omega arith in rw (e, more_left) refl

ends_at : (n : ℕ) (left : List StreamToken) → length left ≤ n → is_next kind.RightBrace left ≡ true → operations_text n left ≡ Ok ([], left)
unfolding operations_text
ends_at zero left enough close = let some = next-some left close in absurd (omega (arith, enough, some))
ends_at (suc n) left enough close = rw close refl

-- what is read, where an operation is read next
same_at : {B : Type 0} {view : B → OperationText} {start : List StreamToken} {got : List B} {left : List StreamToken} (read : Read OperationText)
    → (g : Standing view start got left) → is_next kind.RightBrace left ≡ false → operation_text left ≡ read
    → operations_text (length start) start ≡ with_prefix (map view got) (on read (then_others (g.n - 1)))
same_at {view = view} {got = got} {left = left} read g more_left e =
    g.same ∙ ap (with_prefix (map view got)) (operations_at g.n left g.enough more_left ∙ ap (λ (r : Read _). on r (then_others (g.n - 1))) e)

-- an operation that is refused
pub refused_at : {B C : Type 0} {view : B → OperationText} {start : List StreamToken} {got : List B} {left : List StreamToken}
    (whole : C → List OperationText) (fail : ReadFail) (past left_over : List StreamToken)
    → Standing view start got left → is_next kind.RightBrace left ≡ false → ReadsAs view (Err fail) past (operation_text left)
    → ReadsAs whole (Err fail) left_over (operations_text (length start) start)
refused_at whole (Refused r) past left_over g more_left read = same_at (Err r) g more_left read
refused_at whole NoMemory past left_over g more_left read = tt

-- the closing brace
pub closes_at : {B : Type 0} {view : B → OperationText} {start : List StreamToken} {got : List B} {left : List StreamToken}
    → Standing view start got left → is_next kind.RightBrace left ≡ true → operations_text (length start) start ≡ Ok (map view got, left)
closes_at {view = view} {got = got} {left = left} g close =
    g.same ∙ ap (with_prefix (map view got)) (ends_at g.n left g.enough close) ∙ ap (λ l. Ok (l, left)) (append-nil (map view got))

-- an output after which the body does not end
pub output_at : {B : Type 0} {view : B → OperationText} {start : List StreamToken} {got : List B} {left : List StreamToken} (x : B) (past : List StreamToken)
    → Standing view start got left → is_next kind.RightBrace left ≡ false → operation_text left ≡ Ok (view x, past)
    → is_last (view x).name ≡ true → is_next kind.RightBrace past ≡ false
    → operations_text (length start) start ≡ Err (unexpected_refusal (op.Listed listed.HwModule) past)
output_at {view = view} x past g more_left read last more = same_at (Ok (view x, past)) g more_left read ∙ rw (last, more) refl

-- what is read after an operation, where nothing but the end may stand after an output
others : (n : ℕ) (o : OperationText) (past : List StreamToken) → length past ≤ n → (is_last o.name && not (is_next kind.RightBrace past)) ≡ false
    → then_others n o past ≡ on (operations_text n past) (λ os following. Ok (o ∷ os, following))
others n o past enough more_left = go (is_last o.name) (is_next kind.RightBrace past) refl more_left
  where
    go : (last close : Bool) → is_next kind.RightBrace past ≡ close → (last && not close) ≡ false
        → cond last (cond close (Ok (o ∷ [], past)) (Err (unexpected_refusal (op.Listed listed.HwModule) past))) (on (operations_text n past) (λ os following. Ok (o ∷ os, following)))
        ≡ on (operations_text n past) (λ os following. Ok (o ∷ os, following))
    go true true close none = rw (ends_at n past enough close) refl
    go true false close none = cc
    go false b close none = refl

pub goes_on_at : {B : Type 0} {view : B → OperationText} {start : List StreamToken} {got : List B} {left : List StreamToken} (x : B) (xs : List B) (past : List StreamToken)
    → Standing view start got left → is_next kind.RightBrace left ≡ false → operation_text left ≡ Ok (view x, past) → xs ≡ got ++ x ∷ []
    → (is_last (view x).name && not (is_next kind.RightBrace past)) ≡ false → length past < length left → Standing view start xs past
goes_on_at {view = view} {got = got} x xs past g more_left read pushed fine shorter =
    let most = g.enough in
    let before = g.shorter in
    record {
      n = g.n - 1;
      enough = omega (arith, most, shorter);
      shorter = omega (arith, before, shorter);
      same =
          same_at (Ok (view x, past)) g more_left read
          ∙ ap (with_prefix (map view got)) (others (g.n - 1) (view x) past (omega (arith, most, shorter)) fine)
          ∙ with_prefix-more (map view got) (view x) (operations_text (g.n - 1) past)
          ∙ ap (λ l. with_prefix l (operations_text (g.n - 1) past)) (sym (map_push view got x) ∙ ap (map view) (sym pushed));
    }

pub fine_close : (a b : Bool) → b ≡ true → (a && not b) ≡ false
fine_close true b e = rw e refl
fine_close false b e = refl

pub fine_last : (a b : Bool) → a ≡ false → (a && not b) ≡ false
fine_last a b e = rw e refl
