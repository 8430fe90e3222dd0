-- Modules of a file, one after another.
use Rattle.std.proofs.Common.{◌≡◌, Result, ℕ, zero, suc, ◌-◌, ◌≤◌, ◌<◌, Bool, true, false, cond, List, [], ◌∷◌, ◌++◌, map, length, Ok, Err, refl, sym, ap, ◌∙◌, arith, append_assoc}
use Rattle.std.proofs.lemmas.List.{append-nil}
use Rattle.hw_model.specs.Design.{Design}
use Rattle.mlir_lexer.specs.declared.token.TokenKind.TheVariants as kind
use Rattle.diag.specs.declared.refusal.OpName.TheVariants as op
use Rattle.mlir_lexer.specs.Tokens.{TextToken}
use Rattle.mlir_syntax.specs.Stream.{StreamToken, unexpected_refusal, is_end}
use Rattle.mlir_syntax.specs.Reads.{Read, Reads, on, want}
use Rattle.mlir_operations.specs.OperationText.{no_operation}
use Rattle.mlir_operations.specs.ModuleText.{ModuleText, module_text, modules_text, want_end}
use Rattle.mlir_reader.specs.ModuleViews.{designs_after}
use Rattle.mlir_reader.specs.EndViews.{ends_of}
use Rattle.mlir_reader.specs.Resolving.{module_of}
use Rattle.mlir_syntax.specs.Views.{ReadsAs, ReadsFor}
use Rattle.mlir_syntax.specs.declared.fail.ReadFail.{ReadFail}
use Rattle.mlir_syntax.specs.declared.fail.ReadFail.TheVariants.{Refused, NoMemory}
use Rattle.mlir_reader.specs.declared.file_text.Ends.{Ends}
use Rattle.mlir_reader.specs.declared.file_text.Ends.TheVariants.{Brace, Text}

-- a module, and further ones after it
abbrev then_modules : Ends → ℕ → ModuleText → Reads (List ModuleText)
then_modules e n m left = on (modules_text (ends_of e) n left) (λ ms following. Ok (m ∷ ms, following))

-- some modules are read from the start on, and what is left gives the rest
pub record Filling (e : Ends) (prefix : Design) (start : List StreamToken) (got : Design) (left : List StreamToken) : Type 0 where
  pub n : ℕ
  pub enough : length left ≤ n
  pub shorter : length left ≤ length start
  pub same : designs_after prefix (modules_text (ends_of e) (length start) start) ≡ designs_after got (modules_text (ends_of e) n left)

pub fills : (e : Ends) (prefix : Design) (start : List StreamToken) → Filling e prefix start prefix start
fills e prefix start = record { n = length start; enough = omega arith; shorter = omega arith; same = refl }

-- where modules end, something is left
ends-some : (e : Ends) (s : List StreamToken) → ends_of e s ≡ true → 0 < length s
ends-some Brace [] h = cc
ends-some Text [] h = cc
ends-some e (x ∷ xs) h = omega arith

modules_at : (e : Ends) (n : ℕ) (left : List StreamToken) → length left ≤ n → ends_of e left ≡ false
    → modules_text (ends_of e) n left ≡ on (module_text left) (then_modules e (n - 1))
unfolding modules_text module_text no_operation
modules_at e zero [] enough more_left = refl
modules_at e zero (s ∷ ss) enough more_left = absurd (omega (arith, enough))
modules_at e (suc n) left enough more_left = let p : suc n - 1 ≡ n = omega arith in rw (p, more_left) refl

ends_at : (e : Ends) (n : ℕ) (left : List StreamToken) → length left ≤ n → ends_of e left ≡ true → modules_text (ends_of e) n left ≡ Ok ([], left)
unfolding modules_text
ends_at e zero left enough close = let some = ends-some e left close in absurd (omega (arith, enough, some))
ends_at e (suc n) left enough close = rw close refl

following-more : (prefix : Design) (m : ModuleText) (read : Read (List ModuleText))
    → designs_after prefix (on read (λ ms following. Ok (m ∷ ms, following))) ≡ designs_after (prefix ++ module_of m ∷ []) read
following-more prefix m (Err r) = refl
following-more prefix m (Ok p) = ap (λ l. Ok (l, p.1)) (sym (append_assoc prefix (module_of m ∷ []) (map module_of p.0)))

-- what is read, where a module is read next
same_at : {e : Ends} {prefix : Design} {start : List StreamToken} {got : Design} {left : List StreamToken} (read : Read ModuleText)
    → (g : Filling e prefix start got left) → ends_of e left ≡ false → module_text left ≡ read
    → designs_after prefix (modules_text (ends_of e) (length start) start) ≡ designs_after got (on read (then_modules e (g.n - 1)))
same_at {e = e} {got = got} {left = left} read g more_left is =
    g.same ∙ ap (designs_after got) (modules_at e g.n left g.enough more_left ∙ ap (λ (r : Read _). on r (then_modules e (g.n - 1))) is)

-- a module that is refused
pub refused_at : {C : Type 0} {e : Ends} {prefix : Design} {start : List StreamToken} {got : Design} {left : List StreamToken} {B : Type 0} (holds : ModuleText → B → Type 0)
    (whole : C → Design) (fail : ReadFail) (past left_over : List StreamToken)
    → Filling e prefix start got left → ends_of e left ≡ false → ReadsFor holds (Err fail) past (module_text left)
    → ReadsAs whole (Err fail) left_over (designs_after prefix (modules_text (ends_of e) (length start) start))
refused_at holds whole (Refused r) past left_over g more_left read = same_at (Err r) g more_left read
refused_at holds whole NoMemory past left_over g more_left read = tt

-- the end of the modules
pub closes_at : {e : Ends} {prefix : Design} {start : List StreamToken} {got : Design} {left : List StreamToken}
    → Filling e prefix start got left → ends_of e left ≡ true
    → designs_after prefix (modules_text (ends_of e) (length start) start) ≡ Ok (got, left)
closes_at {e = e} {got = got} {left = left} g close =
    g.same ∙ ap (designs_after got) (ends_at e g.n left g.enough close) ∙ ap (λ l. Ok (l, left)) (append-nil got)

pub goes_on_at : {e : Ends} {prefix : Design} {start : List StreamToken} {got : Design} {left : List StreamToken} (m : ModuleText) (next : Design) (past : List StreamToken)
    → Filling e prefix start got left → ends_of e left ≡ false → module_text left ≡ Ok (m, past) → next ≡ got ++ module_of m ∷ []
    → length past < length left → Filling e prefix start next past
goes_on_at {e = e} {got = got} m next past g more_left read put shorter =
    let most = g.enough in
    let before = g.shorter in
    record {
      n = g.n - 1;
      enough = omega (arith, most, shorter);
      shorter = omega (arith, before, shorter);
      same =
          same_at (Ok (m, past)) g more_left read
          ∙ following-more got m (modules_text (ends_of e) (g.n - 1) past)
          ∙ ap (λ d. designs_after d (modules_text (ends_of e) (g.n - 1) past)) (sym put);
    }

-- ---- the closing brace and the end

-- after modules, which are put into a design
abbrev braced : Read (List ModuleText) → Read (List ModuleText)
braced modules = on modules (λ ms s4. on (want op.File kind.RightBrace s4) (λ _ s5. want_end ms s5))

abbrev done : Unit {0}
done = tt

abbrev closing : List StreamToken → Read (Unit {0})
closing s = on (want op.File kind.RightBrace s) (λ _ left. want_end done left)

ends_alike : (prefix : Design) (ms : List ModuleText) (s : List StreamToken)
    → designs_after prefix (want_end ms s) ≡ on (want_end done s) (λ _ left. Ok (prefix ++ map module_of ms, left))
unfolding want_end
ends_alike prefix ms s = go (is_end s)
  where
    go : (b : Bool) → designs_after prefix (cond b (Ok (ms, s)) (Err (unexpected_refusal op.File s)))
        ≡ on (cond b (Ok (done, s)) (Err (unexpected_refusal op.File s))) (λ (_ : Unit {0}) left. Ok (prefix ++ map module_of ms, left))
    go true = refl
    go false = refl

closes_alike : (prefix : Design) (ms : List ModuleText) (s : List StreamToken) (read : Read TextToken)
    → designs_after prefix (on read (λ _ s5. want_end ms s5)) ≡ on (on read (λ _ s5. want_end done s5)) (λ _ left. Ok (prefix ++ map module_of ms, left))
closes_alike prefix ms s (Err e) = refl
closes_alike prefix ms s (Ok p) = ends_alike prefix ms p.1

braced_alike : (prefix : Design) (modules : Read (List ModuleText))
    → designs_after prefix (braced modules) ≡ on (designs_after prefix modules) (λ d s. on (closing s) (λ _ left. Ok (d, left)))
braced_alike prefix (Err e) = refl
braced_alike prefix (Ok p) = closes_alike prefix p.0 p.1 (want op.File kind.RightBrace p.1)

-- the answer on what closes a file is that of the whole
pub closed_at : (prefix got : Design) (modules : Read (List ModuleText)) (left : List StreamToken) (answer : Result (Unit {0}) ReadFail) (new : List StreamToken)
    → designs_after prefix modules ≡ Ok (got, left) → ReadsAs (λ u. u) answer new (closing left)
    → ReadsAs (λ (_ : Unit {0}). got) answer new (designs_after prefix (braced modules))
closed_at prefix got modules left (Ok u) new read closed = braced_alike prefix modules ∙ rw (read, closed) refl
closed_at prefix got modules left (Err (Refused r)) new read closed = braced_alike prefix modules ∙ rw (read, closed) refl
closed_at prefix got modules left (Err NoMemory) new read closed = tt

-- a refusal of the modules is that of the whole
pub unclosed_at : (prefix : Design) (modules : Read (List ModuleText)) (fail : ReadFail) (past left_over : List StreamToken)
    → ReadsAs (λ (_ : Unit {0}). prefix) (Err fail) past (designs_after prefix modules)
    → ReadsAs (λ (_ : Unit {0}). prefix) (Err fail) left_over (designs_after prefix (braced modules))
unclosed_at prefix modules (Refused r) past left_over read = braced_alike prefix modules ∙ rw read refl
unclosed_at prefix modules NoMemory past left_over read = tt
