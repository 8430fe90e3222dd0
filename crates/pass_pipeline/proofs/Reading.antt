-- A text of which a prefix is read: byte by byte, what is read before and what is left give the passes of the text.
use Rattle.std.proofs.Common.{add-one, ◌≡◌, ℕ, zero, suc, ◌+◌, ◌-◌, ◌<◌, true, false, List, [], ◌∷◌, take, drop, length, get_or, Result, Ok, Err, refl, sym, ap, ◌∙◌, arith}
use Rattle.std.proofs.Math.Seq.{drop-cons, drop-length}
use Rattle.std.proofs.lemmas.Bool.{eq-eqb, ne_eqb}
use Rattle.std.proofs.lemmas.List.{length-drop, take_all}
use Rattle.pass_pipeline.specs.Tokens.{is_space, token_in}
use Rattle.pass_pipeline.specs.Steps.{step_over}
use Rattle.pass_pipeline.specs.Pipelines.{added, ended, after, passes_after, passes, Reads}
use Rattle.pass_pipeline.specs.declared.pass.Pass.{Pass}
use Rattle.pass_pipeline.specs.declared.step.Expected.{Expected}
use Rattle.pass_pipeline.specs.declared.step.Expected.TheVariants.{Root}
use Rattle.pass_pipeline.specs.declared.step.Step.{Step}
use Rattle.pass_pipeline.specs.declared.pipeline.PipelineFail.{PipelineFail}
use Rattle.pass_pipeline.specs.declared.pipeline.PipelineError.{PipelineError}

-- what is got, expected and still to skip at an offset gives what the text gives
abbrev pub IsReading : List Pass → List ℕ → List Pass → Expected → ℕ → ℕ → Type 0
IsReading offered text got expected skipped at = passes_after offered got expected skipped at (drop at text) ≡ passes_after offered [] Root 0 0 text

abbrev Answer : Type 0
Answer = Result (List Pass) PipelineFail

-- the byte at an offset, and those after it
split : (text : List ℕ) (at : ℕ) → at < length text → drop at text ≡ get_or text at 0 ∷ drop (at + 1) text
split text at within = rw add-one (drop-cons text at 0 within)

-- the token at an offset is that of all bytes from there on
pub token_at : (text : List ℕ) (at : ℕ) (found : List ℕ) → found ≡ token_in (take (length text - at) (drop at text)) → found ≡ token_in (drop at text)
token_at text at found is = let all : length (drop at text) ≡ length text - at = length-drop at text in is ∙ ap token_in (take_all (length text - at) (drop at text) (omega (arith, all)))

-- what is read after the token at an offset
abbrev later : List Pass → ℕ → ℕ → List ℕ → List Pass → Expected → Answer
later offered skipped at bs got expected = passes_after offered got expected skipped (at + 1) bs

skip : (offered got : List Pass) (expected : Expected) (skipped at b : ℕ) (bs : List ℕ) → 0 < skipped
    → passes_after offered got expected skipped at (b ∷ bs) ≡ passes_after offered got expected (skipped - 1) (at + 1) bs
unfolding passes_after
skip offered got expected zero at b bs some = absurd (omega (arith, some))
skip offered got expected (suc k) at b bs some = let e : suc k - 1 ≡ k = omega arith in rw e refl

space : (offered got : List Pass) (expected : Expected) (at b : ℕ) (bs : List ℕ) → is_space b ≡ true
    → passes_after offered got expected 0 at (b ∷ bs) ≡ passes_after offered got expected 0 (at + 1) bs
unfolding passes_after
space offered got expected at b bs e = rw e refl

token : (offered got : List Pass) (expected : Expected) (at b : ℕ) (bs : List ℕ) → is_space b ≡ false
    → passes_after offered got expected 0 at (b ∷ bs) ≡ after got (step_over offered expected at (token_in (b ∷ bs))) (later offered (length (token_in (b ∷ bs)) - 1) at bs)
unfolding passes_after
token offered got expected at b bs e = rw e refl

end : (offered got : List Pass) (expected : Expected) (skipped at : ℕ) → passes_after offered got expected skipped at [] ≡ ended got expected at
unfolding passes_after
end offered got expected skipped at = refl

-- a byte of the last token
pub skips : (offered : List Pass) (text : List ℕ) (got : List Pass) (expected : Expected) (skipped at : ℕ) → at < length text → 0 < skipped
    → IsReading offered text got expected skipped at → IsReading offered text got expected (skipped - 1) (at + 1)
skips offered text got expected skipped at within some reading =
    sym (skip offered got expected skipped at (get_or text at 0) (drop (at + 1) text) some)
    ∙ (ap (passes_after offered got expected skipped at) (sym (split text at within)) ∙ reading)

-- nothing is to skip any more
at_next : (offered : List Pass) (text : List ℕ) (got : List Pass) (expected : Expected) (skipped at : ℕ) → at < length text → skipped ≡ 0
    → IsReading offered text got expected skipped at
    → passes_after offered got expected 0 at (get_or text at 0 ∷ drop (at + 1) text) ≡ passes_after offered [] Root 0 0 text
at_next offered text got expected skipped at within none reading =
    ap (passes_after offered got expected 0 at) (sym (split text at within))
    ∙ (ap (λ n. passes_after offered got expected n at (drop at text)) (sym none) ∙ reading)

-- a space
pub passes_space : (offered : List Pass) (text : List ℕ) (got : List Pass) (expected : Expected) (skipped at : ℕ) → at < length text → skipped ≡ 0
    → get_or text at 0 ≡ 32 → IsReading offered text got expected skipped at → IsReading offered text got expected skipped (at + 1)
passes_space offered text got expected skipped at within none is reading =
    ap (λ n. passes_after offered got expected n (at + 1) (drop (at + 1) text)) none
    ∙ (sym (space offered got expected at (get_or text at 0) (drop (at + 1) text) (eq-eqb (get_or text at 0) 32 is)) ∙ at_next offered text got expected skipped at within none reading)

-- the step over a token decides
at_token : (offered : List Pass) (text : List ℕ) (got : List Pass) (expected : Expected) (skipped at : ℕ) (found : List ℕ) (stepped : Result Step PipelineFail)
    → at < length text → skipped ≡ 0 → (get_or text at 0 ≡ 32 → ⊥) → found ≡ token_in (drop at text)
    → stepped ≡ step_over offered expected at found → IsReading offered text got expected skipped at
    → after got stepped (later offered (length found - 1) at (drop (at + 1) text)) ≡ passes_after offered [] Root 0 0 text
at_token offered text got expected skipped at found stepped within none other is taken reading =
    let same : found ≡ token_in (get_or text at 0 ∷ drop (at + 1) text) = is ∙ ap token_in (split text at within) in
    ap (λ r. after got r (later offered (length found - 1) at (drop (at + 1) text))) taken
    ∙ (ap (λ s. after got (step_over offered expected at s) (later offered (length s - 1) at (drop (at + 1) text))) same
    ∙ (sym (token offered got expected at (get_or text at 0) (drop (at + 1) text) (ne_eqb (get_or text at 0) 32 other)) ∙ at_next offered text got expected skipped at within none reading))

-- a token that may stand there
pub goes_on : (offered : List Pass) (text : List ℕ) (got : List Pass) (expected : Expected) (skipped at : ℕ) (found : List ℕ) (s : Step)
    (more : List Pass) (left : ℕ)
    → at < length text → skipped ≡ 0 → (get_or text at 0 ≡ 32 → ⊥) → found ≡ token_in (drop at text)
    → Ok s ≡ step_over offered expected at found → more ≡ added got s.pass → left ≡ length found - 1
    → IsReading offered text got expected skipped at → IsReading offered text more s.next left (at + 1)
goes_on offered text got expected skipped at found s more left within none other is taken pushed length_is reading =
    rw (pushed, length_is) (at_token offered text got expected skipped at found (Ok s) within none other is taken reading)

-- a token that may not
pub fails : (offered : List Pass) (text : List ℕ) (got : List Pass) (expected : Expected) (skipped at : ℕ) (found : List ℕ) (fail : PipelineFail)
    → at < length text → skipped ≡ 0 → (get_or text at 0 ≡ 32 → ⊥) → found ≡ token_in (drop at text)
    → Err fail ≡ step_over offered expected at found → IsReading offered text got expected skipped at → passes offered text ≡ Err fail
unfolding passes
fails offered text got expected skipped at found fail within none other is taken reading =
    sym (at_token offered text got expected skipped at found (Err fail) within none other is taken reading)

-- the end of the text
pub ends : (offered : List Pass) (text : List ℕ) (got : List Pass) (expected : Expected) (skipped at : ℕ) (answer : Result (List Pass) PipelineError)
    → at ≡ length text → IsReading offered text got expected skipped at → Reads (ended got expected (length text)) answer → Reads (passes offered text) answer
unfolding passes
ends offered text got expected skipped at answer all reading given =
    let same : ended got expected (length text) ≡ passes_after offered [] Root 0 0 text =
    sym (end offered got expected skipped (length text))
    ∙ (ap (passes_after offered got expected skipped (length text)) (sym (drop-length text))
    ∙ (ap (λ n. passes_after offered got expected skipped n (drop n text)) (sym all) ∙ reading)) in
    rw (sym same) given
