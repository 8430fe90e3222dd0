-- A formula that is written is read again.
use Rattle.std.proofs.Common.{◌≡◌, ℕ, ◌+◌, ◌^◌, ◌<◌, Bool, true, false, cond, List, [], ◌∷◌, ◌++◌, length, leb, ltb, refl, sym, ◌∙◌, ap, ap₂, arith, append_assoc, append-nil, length-append}
use Rattle.std.specs.Prelude.{Option, Some, None, Result, Ok, Err, codes, decimal, map}
use Rattle.std.specs.List.{list_all}
use Rattle.std.proofs.lemmas.Bool.{and_parts, and_from, eq-eqb, lt-ltb, le-leb}
use Rattle.resolution_proof.specs.declared.literal.Literal.{Literal}
use Rattle.resolution_proof.specs.Clause.{is_among, is_within}
use Rattle.resolution_proof.specs.Formula.{Formula, are_clauses}
use Rattle.resolution_proof.proofs.Sets.{among_high}
use Rattle.lrat_text.specs.declared.word.Word.{Word}
use Rattle.lrat_text.specs.declared.word.Word.TheVariants.{End, Signed}
use Rattle.text_lines.specs.Lines.{lines, words, is_wordless}
use Rattle.lrat_text.specs.Words.{line_words}
use Rattle.lrat_text.specs.Dimacs.{is_comment, is_skipped, Reading, both, header_of, read_words, read_line, read_on, clauses_from, begun, formula_from, dimacs}
use Rattle.lrat_text.specs.Written.{literal_text, literals_text, clause_line, clause_lines, header_text, dimacs_text}
use Rattle.lrat_text.proofs.Logs.{clauses_within}
use Rattle.lrat_text.proofs.PrintedWords.{has_no_lf, both_in_line, decimal_some, decimal_number, decimal_solid, decimal_in_line, word_then, word_ends, line_then, literals_said, end_last, literals_in_line, literal_no_comment}

-- a clause's line without its LF
abbrev clause_front : List Literal → List ℕ
clause_front c = literals_text c ++ 48 ∷ []

clause_split : (c : List Literal) (rest : List ℕ) → clause_line c ++ rest ≡ clause_front c ++ 10 ∷ rest
unfolding clause_line
clause_split c rest = simp append_assoc

-- the header without its LF
abbrev header_front : ℕ → ℕ → List ℕ
header_front v k = 112 ∷ 32 ∷ 99 ∷ 110 ∷ 102 ∷ 32 ∷ (decimal v ++ 32 ∷ decimal k)

header_split : (f : Formula) (rest : List ℕ) → header_text f ++ rest ≡ header_front f.variables (length f.clauses) ++ 10 ∷ rest
unfolding header_text
header_split f rest = simp append_assoc

header_in_line : (v k : ℕ) → v < 2 ^ 64 → k < 2 ^ 64 → has_no_lf (header_front v k) ≡ true
header_in_line v k p q = both_in_line (decimal v) (32 ∷ decimal k) (decimal_in_line v p) (decimal_in_line k q)

-- the words of the header
front_words : (rest : List ℕ) → words (112 ∷ 32 ∷ 99 ∷ 110 ∷ 102 ∷ 32 ∷ rest) ≡ codes "p" ∷ codes "cnf" ∷ words rest
unfolding words
front_words rest = refl

header_words : (v k : ℕ) → v < 2 ^ 64 → k < 2 ^ 64 → words (header_front v k) ≡ codes "p" ∷ codes "cnf" ∷ decimal v ∷ decimal k ∷ []
header_words v k p q =
    front_words (decimal v ++ 32 ∷ decimal k)
    ∙ ap (λ (ws : List (List ℕ)). codes "p" ∷ codes "cnf" ∷ ws) (word_then (decimal v) 32 (decimal k) (decimal_some v p) (decimal_solid v p) refl
    ∙ ap (λ (ws : List (List ℕ)). decimal v ∷ ws) (word_ends (decimal k) (decimal_some k q) (decimal_solid k q)))

header_read : (v k : ℕ) → v < 2 ^ 64 → k < 2 ^ 64 → header_of (words (header_front v k)) ≡ Some (v, k)
header_read v k p q = ap header_of (header_words v k p q) ∙ ap₂ both (decimal_number v p) (decimal_number k q)

header_stays : (v k : ℕ) → v < 2 ^ 64 → k < 2 ^ 64 → is_skipped (header_front v k) ≡ false
header_stays v k p q = ap is_wordless (header_words v k p q)

-- the literals of a clause are read one by one
literals_read : (v k : ℕ) (cs : List (List Literal)) (part c : List Literal) → length cs < k → is_within v c ≡ true
    → read_words (Some (record { variables = v; count = k; clauses = cs; part = part })) (map Signed c ++ End ∷ []) ≡ Some (record { variables = v; count = k; clauses = cs ++ (part ++ c) ∷ []; part = [] })
literals_read v k cs part [] room within =
    ap (λ (b : Bool). read_words (cond b (Some (record { variables = v; count = k; clauses = cs ++ part ∷ []; part = [] })) None) []) (lt-ltb (length cs) k room)
    ∙ ap (λ (p : List Literal). Some (record { variables = v; count = k; clauses = cs ++ p ∷ []; part = [] })) (sym (append-nil part))
literals_read v k cs part (l ∷ ls) room within =
    let parts = and_parts (is_among v l) (is_within v ls) within in
    let high = among_high v l parts.0 in
    ap (λ (b : Bool). read_words (cond b (Some (record { variables = v; count = k; clauses = cs; part = part ++ l ∷ [] })) None) (map Signed ls ++ End ∷ []))
    (and_from (ltb (length cs) k) (leb l.variable v) (lt-ltb (length cs) k room) (le-leb l.variable v high))
    ∙ literals_read v k cs (part ++ l ∷ []) ls room parts.1
    ∙ ap (λ (p : List Literal). Some (record { variables = v; count = k; clauses = cs ++ p ∷ []; part = [] })) (append_assoc part (l ∷ []) ls)

front_no_comment : (v : ℕ) (c : List Literal) → is_within v c ≡ true → v < 2 ^ 64 → is_comment (clause_front c) ≡ false
front_no_comment v [] within few = refl
front_no_comment v (l ∷ ls) within few =
    let high = among_high v l (and_parts (is_among v l) (is_within v ls) within).0 in
    ap is_comment (append_assoc (literal_text l) (literals_text ls) (48 ∷ [])) ∙ literal_no_comment l (omega (arith, high, few)) (literals_text ls ++ 48 ∷ [])

clause_read : (v k : ℕ) (cs : List (List Literal)) (c : List Literal) → length cs < k → is_within v c ≡ true → v < 2 ^ 64
    → read_line (record { variables = v; count = k; clauses = cs; part = [] }) (clause_front c) ≡ Some (record { variables = v; count = k; clauses = cs ++ c ∷ []; part = [] })
clause_read v k cs c room within few =
    let r : Reading = record { variables = v; count = k; clauses = cs; part = [] } in
    ap (λ (b : Bool). cond b (Some r) (read_words (Some r) (line_words (clause_front c)))) (front_no_comment v c within few)
    ∙ ap (read_words (Some r)) (literals_said v c within few (48 ∷ []) ∙ ap (λ (ws : List Word). map Signed c ++ ws) end_last)
    ∙ literals_read v k cs [] c room within

-- the lines of the clauses
clauses_lines : (v : ℕ) (cs : List (List Literal)) → list_all (is_within v) cs ≡ true → v < 2 ^ 64 → lines (clause_lines cs) ≡ map clause_front cs
unfolding lines
clauses_lines v [] within few = refl
clauses_lines v (c ∷ cs) within few =
    let parts = and_parts (is_within v c) (list_all (is_within v) cs) within in
    ap lines (clause_split c (clause_lines cs))
    ∙ line_then (clause_front c) (clause_lines cs) (both_in_line (literals_text c) (48 ∷ []) (literals_in_line v c parts.0 few) refl)
    ∙ ap (λ (ls : List (List ℕ)). clause_front c ∷ ls) (clauses_lines v cs parts.1 few)

clauses_read : (v k n : ℕ) (cs more : List (List Literal)) → length cs + length more ≡ k → list_all (is_within v) more ≡ true → v < 2 ^ 64
    → clauses_from n (record { variables = v; count = k; clauses = cs; part = [] }) (map clause_front more) ≡ Ok (record { variables = v; clauses = cs ++ more })
clauses_read v k n cs [] all within few =
    ap (λ (b : Bool). cond {A = Result Formula ℕ} b (Ok (record { variables = v; clauses = cs })) (Err n)) (eq-eqb (length cs) k (let w : length cs ≡ k = omega (arith, all) in w))
    ∙ ap (λ (ds : List (List Literal)). Ok (record { variables = v; clauses = ds })) (sym (append-nil cs))
clauses_read v k n cs (c ∷ more) all within few =
    let parts = and_parts (is_within v c) (list_all (is_within v) more) within in
    ap (λ (o : Option Reading). read_on n o (λ q. clauses_from (n + 1) q (map clause_front more))) (clause_read v k cs c (omega (arith, all)) parts.0 few)
    ∙ clauses_read v k (n + 1) (cs ++ c ∷ []) more (omega (arith, all, length-append cs (c ∷ []))) parts.1 few
    ∙ ap (λ (ds : List (List Literal)). Ok (record { variables = v; clauses = ds })) (append_assoc cs (c ∷ []) more)

-- the text of a formula is read as that formula
pub formula_is_read : (f : Formula) → are_clauses f.variables f.clauses ≡ true → f.variables < 2 ^ 64 → length f.clauses < 2 ^ 64 → dimacs (dimacs_text f) ≡ Ok f
unfolding dimacs_text
formula_is_read f clauses few room =
    let within = clauses_within f.variables f.clauses clauses in
    let front = header_front f.variables (length f.clauses) in
    ap (λ (t : List ℕ). formula_from 1 (lines t)) (header_split f (clause_lines f.clauses))
    ∙ ap (formula_from 1) (line_then front (clause_lines f.clauses) (header_in_line f.variables (length f.clauses) few room) ∙ ap (λ (ls : List (List ℕ)). front ∷ ls) (clauses_lines f.variables f.clauses within few))
    ∙ ap (λ (b : Bool). cond b (formula_from 2 (map clause_front f.clauses)) (read_on 1 (begun (header_of (words front))) (λ r. clauses_from 2 r (map clause_front f.clauses)))) (header_stays f.variables (length f.clauses) few room)
    ∙ ap (λ (o : Option (ℕ × ℕ)). read_on 1 (begun o) (λ r. clauses_from 2 r (map clause_front f.clauses))) (header_read f.variables (length f.clauses) few room)
    ∙ clauses_read f.variables (length f.clauses) 2 [] f.clauses (omega arith) within few
