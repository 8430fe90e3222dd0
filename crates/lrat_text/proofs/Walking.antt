-- Steps along a clause and along hints, and what is read so far.
use Rattle.std.proofs.Common.{◌≡◌, ℕ, ◌+◌, ◌≤◌, ◌^◌, Bool, true, false, List, [], ◌∷◌, ◌++◌, cond, refl, sym, ◌∙◌, ap, append_assoc}
use Rattle.std.specs.Prelude.{Option, Some, None, ◌&&◌, is_some, nat_eq, map}
use Rattle.std.specs.Map.{update}
use Rattle.resolution_proof.specs.declared.literal.Literal.{Literal}
use Rattle.resolution_proof.specs.declared.log.Hint.{Hint}
use Rattle.diag.specs.declared.cause.Cause.{Cause}
use Rattle.diag.specs.declared.cause.Cause.TheVariants.{StepDoesNotFollow, HintOutsideProfile, NoEmptyClause}
use Rattle.lrat_text.specs.declared.judged.Judged.{Judged}
use Rattle.lrat_text.specs.declared.judged.Judged.TheVariants.{Conflict, Forces, Neither}
use Rattle.lrat_text.specs.declared.marks.Marks.{Marks}
use Rattle.lrat_text.specs.declared.word.Word.{Word}
use Rattle.lrat_text.specs.Hints.{Store, clause_in, has_negative, judged, after_judged, hints_fault}
use Rattle.text_lines.specs.Lines.{lines}
use Rattle.lrat_text.specs.Words.{line_words}
use Rattle.lrat_text.specs.ProofLine.{Line, line_of, proof_lines, and_more}
use Rattle.lrat_text.specs.Checking.{State, clashes_after, negations, without_one, are_there, without_all, numbered, first_fault}
use Rattle.lrat_text.specs.Marks.{Shows, IsBelow, is_marked, judged_by, with_mark}
use Rattle.lrat_text.proofs.Judging.{judged_same, forced_open, tells_more}
use Rattle.lrat_text.specs.Written.{hint_text, hints_text}

-- a front of the clause is marked by its negations, and the rest decides as the whole does
pub record IsMarking (marks : Marks) (rest : List Literal) (clause : List Literal) : Type 0 where
  pub set : List Literal
  pub shows : Shows marks set
  pub clash : clashes_after set rest ≡ clashes_after [] clause
  pub all : negations set rest ≡ negations [] clause

-- the hints that are left have from the marked set on the fault that all have from the set
pub record IsWalking (store : Store) (marks : Marks) (rest : List Literal) (set : List Literal) (hints : List Literal) : Type 0 where
  pub after : List Literal
  pub shows : Shows marks after
  pub fault : hints_fault store after rest ≡ hints_fault store set hints

-- the lines that are left have the fault that all have; marks are of earlier lines, and the line's number is small
pub record IsChecking (variables : ℕ) (now : State) (line : ℕ) (rest : List Line) (start : State) (all : List Line) (marks : Marks) (size : ℕ) : Type 0 where
  pub left : first_fault variables now line rest ≡ first_fault variables start 1 all
  pub below : IsBelow line marks
  pub some : 1 ≤ line
  pub room : line + size ≤ 2 ^ 26 + 1

-- numbers read before those of a list
abbrev pub prefixed : List Literal → Option (List Literal × List Word) → Option (List Literal × List Word)
prefixed a None = None
prefixed a (Some m) = Some (a ++ m.0, m.1)

pub prefixed_more : (a : List Literal) (l : Literal) (more : Option (List Literal × List Word)) → prefixed a (and_more l more) ≡ prefixed (a ++ l ∷ []) more
prefixed_more a l None = refl
prefixed_more a l (Some m) = ap (λ (ls : List Literal). Some (ls, m.1)) (sym (append_assoc a (l ∷ []) m.0))

pub prefixed_none : (more : Option (List Literal × List Word)) → prefixed [] more ≡ more
prefixed_none None = refl
prefixed_none (Some m) = refl

-- the last hint comes first
pub hints_last : (hs : List Hint) (h : Hint) → hints_text (hs ++ h ∷ []) ≡ hint_text h ++ hints_text hs
hints_last [] h = sym (append_end (hint_text h))
  where
    append_end : (xs : List ℕ) → xs ++ [] ≡ xs
    append_end [] = refl
    append_end (x ∷ xs) = ap (λ (ys : List ℕ). x ∷ ys) (append_end xs)
hints_last (g ∷ gs) h = ap (λ (t : List ℕ). t ++ hint_text g) (hints_last gs h) ∙ append_assoc (hint_text h) (hints_text gs) (hint_text g)

-- the fault from a hint without a minus sign on, by what its clause is
hint_fault_at : (store : Store) (marks : Marks) (after : List Literal) (h : Literal) (hs : List Literal) (j : Judged) → h.positive ≡ true → judged_by (is_marked marks) None (clause_in store h.variable) ≡ j → Shows marks after
    → hints_fault store after (h ∷ hs) ≡ after_judged j (λ l. hints_fault store (l ∷ after) hs) hs
hint_fault_at store marks after h hs j e g shows =
    ap (λ (p : Bool). cond p (after_judged (judged after (clause_in store h.variable)) (λ l. hints_fault store (l ∷ after) hs) hs) (Some HintOutsideProfile)) e
    ∙ ap (λ (k : Judged). after_judged k (λ l. hints_fault store (l ∷ after) hs) hs) (sym (judged_same (is_marked marks) after shows (clause_in store h.variable)) ∙ g)

-- the first hint is a unit, whose literal becomes true
pub walking_more : (store : Store) (marks new : Marks) (rest set hints : List Literal) (h : Literal) (others : List Literal) (l : Literal) → rest ≡ h ∷ others → h.positive ≡ true
    → judged_by (is_marked marks) None (clause_in store h.variable) ≡ Forces l → ((k : Literal) → is_marked new k ≡ with_mark (is_marked marks) l k)
    → IsWalking store marks rest set hints → IsWalking store new others set hints
walking_more store marks new rest set hints h others l e p g marked w =
    record {
      after = l ∷ w.after;
      shows = λ k. marked k ∙ tells_more (is_marked marks) w.after l w.shows (forced_open (is_marked marks) (clause_in store h.variable) l g) k;
      fault = sym (hint_fault_at store marks w.after h others (Forces l) p g w.shows) ∙ sym (ap (hints_fault store w.after) e) ∙ w.fault;
    }

-- the first hint is false
pub walking_conflict : (store : Store) (marks : Marks) (rest set hints : List Literal) (h : Literal) (others : List Literal) → rest ≡ h ∷ others → h.positive ≡ true
    → judged_by (is_marked marks) None (clause_in store h.variable) ≡ Conflict → IsWalking store marks rest set hints
    → cond (has_negative others) (Some HintOutsideProfile) None ≡ hints_fault store set hints
walking_conflict store marks rest set hints h others e p g w =
    sym (hint_fault_at store marks w.after h others Conflict p g w.shows) ∙ sym (ap (hints_fault store w.after) e) ∙ w.fault

-- the first hint is neither false nor a unit
pub walking_neither : (store : Store) (marks : Marks) (rest set hints : List Literal) (h : Literal) (others : List Literal) → rest ≡ h ∷ others → h.positive ≡ true
    → judged_by (is_marked marks) None (clause_in store h.variable) ≡ Neither → IsWalking store marks rest set hints → Some StepDoesNotFollow ≡ hints_fault store set hints
walking_neither store marks rest set hints h others e p g w =
    sym (hint_fault_at store marks w.after h others Neither p g w.shows) ∙ sym (ap (hints_fault store w.after) e) ∙ w.fault

-- the first hint has a minus sign
pub walking_negative : (store : Store) (marks : Marks) (rest set hints : List Literal) (h : Literal) (others : List Literal) → rest ≡ h ∷ others → h.positive ≡ false
    → IsWalking store marks rest set hints → Some HintOutsideProfile ≡ hints_fault store set hints
walking_negative store marks rest set hints h others e p w =
    sym (ap (λ (b : Bool). cond b (after_judged (judged w.after (clause_in store h.variable)) (λ l. hints_fault store (l ∷ w.after) others) others) (Some HintOutsideProfile)) p)
    ∙ sym (ap (hints_fault store w.after) e) ∙ w.fault

-- no hint is left
pub walking_ends : (store : Store) (marks : Marks) (rest set hints : List Literal) → rest ≡ [] → IsWalking store marks rest set hints → Some StepDoesNotFollow ≡ hints_fault store set hints
walking_ends store marks rest set hints e w = sym (ap (hints_fault store w.after) e) ∙ w.fault

-- one clause more is numbered
pub numbered_more : (n : ℕ) (store new : Store) (rest : List (List Literal)) (c : List Literal) (others : List (List Literal)) → rest ≡ c ∷ others → new ≡ update nat_eq store n (Some c)
    → numbered (n + 1) new others ≡ numbered n store rest
numbered_more n store new rest c others e f = ap (λ (s : Store). numbered (n + 1) s others) f ∙ sym (ap (numbered n store) e)

-- one clause more is taken away, which is there
pub there_more : (store new : Store) (rest : List Literal) (n : Literal) (others : List Literal) → rest ≡ n ∷ others → is_some (store n.variable) ≡ true → new ≡ without_one store n.variable
    → are_there new others ≡ are_there store rest
there_more store new rest n others e there f =
    ap (λ (s : Store). are_there s others) f
    ∙ sym (ap (λ (b : Bool). b && are_there (without_one store n.variable) others) there)
    ∙ sym (ap (are_there store) e)

pub without_more : (store new : Store) (rest : List Literal) (n : Literal) (others : List Literal) → rest ≡ n ∷ others → new ≡ without_one store n.variable
    → without_all new others ≡ without_all store rest
without_more store new rest n others e f = ap (λ (s : Store). without_all s others) f ∙ sym (ap (without_all store) e)

-- no line is left, and the empty clause was no step
pub checking_ends : (variables : ℕ) (now : State) (n : ℕ) (text : List ℕ) → lines text ≡ [] → now.done ≡ false → Some (n, NoEmptyClause) ≡ first_fault variables now n (proof_lines text)
checking_ends variables now n text e open_one =
    sym (ap (λ (b : Bool). cond {A = Option (ℕ × Cause)} b None (Some (n, NoEmptyClause))) open_one)
    ∙ sym (ap (λ (ls : List (List ℕ)). first_fault variables now n (map (λ l. line_of (line_words l)) ls)) e)
