-- A log that is written is read again, and is a proof over its formula.
use Rattle.std.proofs.Common.{◌≡◌, ℕ, ◌+◌, ◌^◌, ◌<◌, ◌≤◌, true, List, [], ◌∷◌, ◌++◌, length, refl, ◌∙◌, ap, arith, append_assoc}
use Rattle.std.specs.Prelude.{Option, decimal, map}
use Rattle.std.specs.List.{list_all}
use Rattle.std.proofs.lemmas.Bool.{and_parts}
use Rattle.resolution_proof.specs.declared.literal.Literal.{Literal}
use Rattle.resolution_proof.specs.declared.log.Step.{Step}
use Rattle.resolution_proof.specs.Clause.{is_among, is_within}
use Rattle.resolution_proof.specs.Formula.{Formula, are_clauses}
use Rattle.resolution_proof.specs.Replay.{replay}
use Rattle.resolution_proof.specs.Regular.{is_regular_log}
use Rattle.resolution_proof.specs.Proof.{EndsEmpty}
use Rattle.lrat_text.specs.declared.word.Word.{Word}
use Rattle.lrat_text.specs.declared.word.Word.TheVariants.{End, Signed}
use Rattle.text_lines.specs.Lines.{lines}
use Rattle.lrat_text.specs.Words.{line_words}
use Rattle.lrat_text.specs.ProofLine.{Line, adds, until_end, alone, with_hints, addition, after_id, line_of, proof_lines}
use Rattle.lrat_text.specs.Checking.{start}
use Rattle.lrat_text.specs.Verified.{goes, lrat, have_empty, has_empty}
use Rattle.lrat_text.specs.Written.{literals_text, hints_text, step_line, step_lines, lrat_text}
use Rattle.lrat_text.proofs.Reversal.{hint_list}
use Rattle.lrat_text.proofs.Logs.{lines_of, is_small, log_is_proof, log_is_small, empty_is_step}
use Rattle.lrat_text.proofs.PrintedWords.{has_no_lf, both_in_line, decimal_in_line, line_then, number_said, literals_said, hints_said, until_list, end_then, end_last, literals_in_line, hints_in_line}

-- a step's line without its LF
abbrev pub step_front : ℕ → Step → List ℕ
step_front n s = decimal n ++ (32 ∷ (literals_text s.clause ++ (48 ∷ 32 ∷ (hints_text s.hints ++ 48 ∷ []))))

step_split : (n : ℕ) (s : Step) (rest : List ℕ) → step_line n s ++ rest ≡ step_front n s ++ 10 ∷ rest
unfolding step_line
step_split n s rest = simp append_assoc

-- its words
abbrev step_words : ℕ → Step → List Word
step_words n s = Signed (record { variable = n; positive = true }) ∷ (map Signed s.clause ++ (End ∷ (map Signed (hint_list s.hints) ++ End ∷ [])))

step_said : (variables most n : ℕ) (s : Step) → 1 ≤ n → n < 2 ^ 64 → variables < 2 ^ 64 → most < 2 ^ 64 → is_small variables most s ≡ true → line_words (step_front n s) ≡ step_words n s
step_said variables most n s low fits few short small =
    let parts = and_parts (is_within variables s.clause) (list_all (is_among most) (hint_list s.hints)) small in
    number_said n low fits (literals_text s.clause ++ (48 ∷ 32 ∷ (hints_text s.hints ++ 48 ∷ [])))
    ∙ ap (λ (ws : List Word). Signed (record { variable = n; positive = true }) ∷ ws)
    (literals_said variables s.clause parts.0 few (48 ∷ 32 ∷ (hints_text s.hints ++ 48 ∷ []))
    ∙ ap (λ (ws : List Word). map Signed s.clause ++ ws)
    (end_then (hints_text s.hints ++ 48 ∷ [])
    ∙ ap (λ (ws : List Word). End ∷ ws) (hints_said most s.hints parts.1 short (48 ∷ []) ∙ ap (λ (ws : List Word). map Signed (hint_list s.hints) ++ ws) end_last)))

-- its words are a step
addition_after : (n : ℕ) (c : List Literal) (ws : List Word) → after_id n (map Signed c ++ End ∷ ws) ≡ addition n (until_end (map Signed c ++ End ∷ ws))
addition_after n [] ws = refl
addition_after n (l ∷ ls) ws = refl

step_read : (n : ℕ) (s : Step) → line_of (step_words n s) ≡ adds n s.clause (hint_list s.hints)
unfolding line_of
step_read n s =
    addition_after n s.clause (map Signed (hint_list s.hints) ++ End ∷ [])
    ∙ ap (addition n) (until_list s.clause (map Signed (hint_list s.hints) ++ End ∷ []))
    ∙ ap (λ (o : Option (List Literal × List Word)). with_hints n s.clause (alone o)) (until_list (hint_list s.hints) [])

step_in_line : (variables most n : ℕ) (s : Step) → n < 2 ^ 64 → variables < 2 ^ 64 → most < 2 ^ 64 → is_small variables most s ≡ true → has_no_lf (step_front n s) ≡ true
step_in_line variables most n s fits few short small =
    let parts = and_parts (is_within variables s.clause) (list_all (is_among most) (hint_list s.hints)) small in
    let hints = both_in_line (hints_text s.hints) (48 ∷ []) (hints_in_line most s.hints parts.1 short) refl in
    both_in_line (decimal n) (32 ∷ (literals_text s.clause ++ (48 ∷ 32 ∷ (hints_text s.hints ++ 48 ∷ [])))) (decimal_in_line n fits)
    (both_in_line (literals_text s.clause) (48 ∷ 32 ∷ (hints_text s.hints ++ 48 ∷ [])) (literals_in_line variables s.clause parts.0 few) hints)

-- the lines that are written are read as the steps
steps_read : (variables most n : ℕ) (log : List Step) → 1 ≤ n → n + length log ≤ 2 ^ 64 → variables < 2 ^ 64 → most < 2 ^ 64 → list_all (is_small variables most) log ≡ true → proof_lines (step_lines n log) ≡ lines_of n log
unfolding lines
steps_read variables most n [] low room few short small = refl
steps_read variables most n (s ∷ ss) low room few short small =
    let parts = and_parts (is_small variables most s) (list_all (is_small variables most) ss) small in
    ap proof_lines (step_split n s (step_lines (n + 1) ss))
    ∙ ap (λ (ls : List (List ℕ)). map (λ l. line_of (line_words l)) ls) (line_then (step_front n s) (step_lines (n + 1) ss) (step_in_line variables most n s (omega (arith, room)) few short parts.0))
    ∙ ap (λ (ws : List Word). line_of ws ∷ proof_lines (step_lines (n + 1) ss)) (step_said variables most n s low (omega (arith, room)) few short parts.0)
    ∙ ap (λ (l : Line). l ∷ proof_lines (step_lines (n + 1) ss)) (step_read n s)
    ∙ ap (λ (ls : List Line). adds n s.clause (hint_list s.hints) ∷ ls) (steps_read variables most (n + 1) ss (omega (arith, low)) (omega (arith, room)) few short parts.1)

log_read : (f : Formula) (log : List Step) → are_clauses f.variables f.clauses ≡ true → f.variables < 2 ^ 64 → length f.clauses + length log < 2 ^ 64 → replay f log ≡ true
    → proof_lines (lrat_text f log) ≡ lines_of (length f.clauses + 1) log
unfolding lrat_text
log_read f log clauses few room r =
    steps_read f.variables (length f.clauses + length log) (length f.clauses + 1) log (omega arith) (omega (arith, room)) few room (log_is_small f log (length f.clauses + length log) clauses r (omega arith))

-- the text of a regular log that replays is a proof over the formula
pub written_is_proof : (f : Formula) (log : List Step) → are_clauses f.variables f.clauses ≡ true → f.variables < 2 ^ 64 → length f.clauses + length log < 2 ^ 64 → replay f log ≡ true → is_regular_log f log ≡ true
    → lrat f (lrat_text f log) ≡ true
unfolding lrat
written_is_proof f log clauses few room r regular = ap (goes f.variables (start f)) (log_read f log clauses few room r) ∙ log_is_proof f log clauses r regular

-- and has the empty clause as a step where the log ends in it
pub written_has_empty : (f : Formula) (log : List Step) → are_clauses f.variables f.clauses ≡ true → f.variables < 2 ^ 64 → length f.clauses + length log < 2 ^ 64 → replay f log ≡ true → EndsEmpty log
    → has_empty (lrat_text f log) ≡ true
unfolding has_empty
written_has_empty f log clauses few room r ends = ap have_empty (log_read f log clauses few room r) ∙ empty_is_step (length f.clauses + 1) log ends
