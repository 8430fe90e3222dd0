-- A clause that is added while the trail has literals.
use Rattle.std.proofs.Common.{◌≡◌, ℕ, ◌+◌, ◌-◌, ◌<◌, ◌≤◌, true, false, List, [], ◌∷◌, ◌++◌, length, get_or, take, drop, refl, sym, ◌∙◌, ap, subst, inl, inr, ◌⊎◌, arith, Option, MatchOption}
use Rattle.std.proofs.lemmas.List.{get_or_read, get_or_append_left, get_or-take, get_or-drop, length-drop, length-take-le, length_push, take-append-le, take_at, take-take, get_or_push}
use Rattle.std.proofs.lemmas.Bool.{and_parts, true≢false, false≢true, cases_eq, both_ways, not-true}
use Rattle.resolution_proof.specs.declared.literal.Literal.{Literal}
use Rattle.resolution_proof.specs.declared.log.Step.{Step}
use Rattle.clause_learning.specs.declared.table.Table.{Table}
use Rattle.clause_learning.specs.declared.trail.Entry.{Entry}
use Rattle.clause_learning.specs.declared.watcher.Watcher.{Watcher}
use Rattle.resolution_proof.specs.Literal.{negation, holds, mentions, is_once}
use Rattle.resolution_proof.specs.Fresh.{is_free, is_closed, is_empty}
use Rattle.resolution_proof.specs.Replay.{is_number, clause_at}
use Rattle.clause_learning.proofs.Sound.{is_number_at, clause_within}
use Rattle.resolution_proof.specs.Clause.{is_among, is_within, is_clause}
use Rattle.resolution_proof.specs.Formula.{are_clauses}
use Rattle.clause_learning.specs.Trail.{Path, literals, entry_at, no_entry, AreApart, IsSound, Stands, Implies, is_after}
use Rattle.clause_learning.specs.Watching.{Watching, Propagates, AreShort, IsStored, IsCovered, is_satisfied, stored_clause_at, literal_at, no_literal}
use Rattle.clause_learning.specs.Table.{IsTable, IsUnchanged}
use Rattle.clause_learning.specs.Watcher.{IsProgress, IsWatching}
use Rattle.clause_learning.specs.Resolving.{IsLearntClause}
use Rattle.resolution_proof.proofs.Sets.{all_at, any_from, mentions_from, holds_from_mentions}
use Rattle.clause_learning.proofs.Entries.{entry_of_mentions}
use Rattle.clause_learning.proofs.Resolution.{cases_le}
use Rattle.clause_learning.proofs.LearntClauses.{free_before, holds_before}
use Rattle.clause_learning.proofs.StoredClauses.{holds_at, stored_clause_of}
use Rattle.clause_learning.proofs.AddedClauses.{same_push}
use Rattle.clause_learning.proofs.Covering.{covered_more, kept_holds, take_holds, last_holds}

-- the short clauses that were true are so still
short_still : (s : List Literal) (stored_clauses : List (List Literal)) (permuted : List Literal) (short short2 : List ℕ) (short_head : ℕ) → AreShort stored_clauses short
    → short_head ≤ length short → ((j : ℕ) → j < length short → get_or short2 j 0 ≡ get_or short j 0)
    → ((j : ℕ) → j < short_head → is_satisfied s (stored_clause_at stored_clauses (get_or short j 0)) ≡ true) → (j : ℕ) → j < short_head
    → is_satisfied s (stored_clause_at (stored_clauses ++ permuted ∷ []) (get_or short2 j 0)) ≡ true
short_still s stored_clauses permuted short short2 short_head are short_head_in same old j l =
    let lj : j < length short = omega (arith, l, short_head_in) in
    let low = (are.only j lj).0 in
    rw (same j lj, get_or_append_left stored_clauses (permuted ∷ []) [] (get_or short j 0) low) (old j l)

-- a table that is as before is watched as before
pub watching_unchanged : (w : Watcher) (t : Table) → IsWatching w → IsTable t → t.variables ≡ w.table.variables → IsUnchanged w.table t → IsWatching (record w { table = t })
watching_unchanged w t was is variables same =
    let p = subst (λ (x : List (List Literal)). IsProgress x w.table.short.items w.trail.entries w.head w.marks.items w.short_head w.base) (sym same.stored_clauses) was.progress in
    let q = subst (λ (x : List ℕ). IsProgress t.stored_clauses.items x w.trail.entries w.head w.marks.items w.short_head w.base) (sym same.short) p in
    record { table = is; variables = was.variables ∙ sym variables; progress = q }

-- nothing is read yet
pub progress_reset : (stored_clauses : List (List Literal)) (permuted : List Literal) (short short2 : List ℕ) (es : List Entry) (head : ℕ) (marks : List ℕ) (short_head base : ℕ)
    → AreShort stored_clauses short → IsProgress stored_clauses short es head marks short_head base → length short ≤ length short2
    → ((j : ℕ) → j < length short → get_or short2 j 0 ≡ get_or short j 0) → IsProgress (stored_clauses ++ permuted ∷ []) short2 es 0 [] short_head base
progress_reset stored_clauses permuted short short2 es head marks short_head base are p longer same = record {
  head_in = omega arith;
  covered = λ i k k2 long h. absurd (false≢true h);
  marked = record { sorted = λ j k jk lk. absurd (omega (arith, lk)); below = λ j l. absurd (omega (arith, l)); covered = λ j l. absurd (omega (arith, l)) };
  short_head_in = let s = p.short_head_in in omega (arith, s, longer);
  base_in = p.base_in;
  short_true = short_still (literals (take base es)) stored_clauses permuted short short2 short_head are p.short_head_in same p.short_true;
}

-- an entry from a position on is not mentioned before it
not_before : (variables : ℕ) (es : List Entry) (m position v : ℕ) → AreApart variables es → m ≤ position → is_after es position v ≡ true → mentions (literals (take m es)) v ≡ false
not_before variables es m position v apart low after =
    let r = entry_of_mentions (drop position es) v after in
    let n = length-drop position es in
    let inside : position + r.0 < length es = omega (arith, n, r.1) in
    let at : (entry_at es (position + r.0)).literal.variable ≡ v = ap (λ (x : Entry). x.literal.variable) (sym (get_or-drop position es r.0 no_entry)) ∙ r.2 in
    subst (λ (w : ℕ). mentions (literals (take m es)) w ≡ false) at (free_before variables es m (position + r.0) apart (omega (arith, low)) inside)

-- a clause is added, and its first literal, which was open, is put on the trail
module _ (variables : ℕ) (stored_clauses : List (List Literal)) (permuted : List Literal) (short short2 : List ℕ) (es : List Entry) (e : Entry) (head : ℕ) (marks : List ℕ)
    (short_head base kept : ℕ) (apart : AreApart variables es) (are : AreShort stored_clauses short) (p : IsProgress stored_clauses short es head marks short_head base)
    (longer : length short ≤ length short2) (same : (j : ℕ) → j < length short → get_or short2 j 0 ≡ get_or short j 0) (some : 0 < length permuted) (is_first : literal_at permuted 0 ≡ e.literal)
    (free : is_free (literals es) e.literal ≡ true) (kept_in : kept ≤ length marks) (after : 0 < kept → 1 < length permuted
    → is_after es (get_or marks (kept - 1) 0) (literal_at permuted 1).variable ≡ true) where
  prefix : (n : ℕ) → n ≤ length es → take n (es ++ e ∷ []) ≡ take n es
  prefix n l = take-append-le n es (e ∷ []) l

  new_satisfied : is_satisfied (literals (es ++ e ∷ [])) permuted ≡ true
  new_satisfied = any_from (holds (literals (es ++ e ∷ []))) permuted e.literal (subst (λ (l : Literal). holds permuted l ≡ true) is_first (holds_at permuted 0 some)) (last_holds es e)

  -- the new stored clause has no watched literal that is false before a mark that is kept
  new_covered : (m : ℕ) → ((1 < length permuted) → mentions (literals (take m es)) (literal_at permuted 1).variable ≡ false) → m ≤ length es → IsCovered (literals (take m es)) (literals (take m es)) permuted
  new_covered m second low k k2 long h =
      elim (cases_eq k 0) as (λ _. is_satisfied (literals (take m es)) permuted ≡ true) [
        | inl z ↦
            let held = held_in m (negation (literal_at permuted k)) h in
            let of_first : (literal_at permuted k).variable ≡ e.literal.variable = ap (λ (n : ℕ). (literal_at permuted n).variable) z ∙ ap (λ (l : Literal). l.variable) is_first in
            absurd (both_ways (mentions (literals es) e.literal.variable) (not-true (mentions (literals es) e.literal.variable) free)
            (subst (λ (v : ℕ). mentions (literals es) v ≡ true) of_first (mentions_from (literals es) (negation (literal_at permuted k)) held)))
        | inr nz ↦
            let one : k ≡ 1 = omega (arith, k2, nz) in
            let m1 = mentions_from (literals (take m es)) (negation (literal_at permuted k)) h in
            absurd (both_ways (mentions (literals (take m es)) (literal_at permuted 1).variable) (second (omega (arith, long))) (subst (λ (n : ℕ). mentions (literals (take m es)) (literal_at permuted n).variable ≡ true) one m1))
      ]
    where
      held_in : (m : ℕ) (l : Literal) → holds (literals (take m es)) l ≡ true → holds (literals es) l ≡ true
      held_in m l t = take_holds es m l t

  pub progress_learnt : IsProgress (stored_clauses ++ permuted ∷ []) short2 (es ++ e ∷ []) head (take kept marks) short_head base
  progress_learnt = record {
    head_in = let n = length_push es e in let h = p.head_in in omega (arith, n, h);
    covered = rw (prefix head p.head_in) (same_push [] stored_clauses [] permuted (λ i r. IsCovered (literals (take head es)) (literals (es ++ e ∷ [])) r) (λ k k2 long h. new_satisfied)
        (covered_more (literals (take head es)) (literals es) (literals (es ++ e ∷ [])) stored_clauses (λ l h. kept_holds es (es ++ e ∷ []) l (take_at es (e ∷ []) (length es) refl) h) p.covered));
    marked = record {
      sorted = λ j k jk lk. let lk2 = low k lk in rw (get_or-take kept marks j 0 (omega (arith, jk, lk2)), get_or-take kept marks k 0 lk2) (p.marked.sorted j k jk (omega (arith, lk2, kept_in)));
      below = λ j l. let lj = low j l in rw (get_or-take kept marks j 0 lj) (p.marked.below j (omega (arith, lj, kept_in)));
      covered = λ j l.
          let lj = low j l in
          let lm : j < length marks = omega (arith, lj, kept_in) in
          let b = p.marked.below j lm in
          let h = p.head_in in
          let m_low : get_or marks j 0 ≤ length es = omega (arith, b, h) in
          rw (get_or-take kept marks j 0 lj, prefix (get_or marks j 0) m_low)
          (same_push [] stored_clauses [] permuted (λ i r. IsCovered (literals (take (get_or marks j 0) es)) (literals (take (get_or marks j 0) es)) r)
          (new_covered (get_or marks j 0) (λ two. not_before variables es (get_or marks j 0) (get_or marks (kept - 1) 0) (literal_at permuted 1).variable apart
          (p.marked.sorted j (kept - 1) (omega (arith, lj)) (omega (arith, lj, kept_in))) (after (omega (arith, lj)) two)) m_low)
          (p.marked.covered j lm));
    };
    short_head_in = let s = p.short_head_in in omega (arith, s, longer);
    base_in = let n = length_push es e in let b = p.base_in in omega (arith, n, b);
    short_true = rw (prefix base p.base_in) (short_still (literals (take base es)) stored_clauses permuted short short2 short_head are p.short_head_in same p.short_true);
  }
    where
      low : (j : ℕ) → j < length (take kept marks) → j < kept
      low j l = let n = length-take-le kept marks kept_in in omega (arith, n, l)

-- the clause that was added last
pub number_last : (old new : List (List Literal)) (c : List Literal) (n : ℕ) → new ≡ old ++ c ∷ [] → n ≡ length new → is_number new n ≡ true
number_last old new c n e is =
    let len = ap length e in
    let m = length_push old c in
    let back : n - 1 + 1 ≡ n = omega (arith, is, len, m) in
    subst (λ (k : ℕ). is_number new k ≡ true) back (is_number_at new (n - 1) (omega (arith, is, len, m)))

pub clause_last : (old new : List (List Literal)) (c : List Literal) (n : ℕ) → new ≡ old ++ c ∷ [] → n ≡ length new → clause_at new n ≡ c
clause_last old new c n e is =
    let len = ap length e in
    let m = length_push old c in
    ap (λ (x : List (List Literal)). get_or x (n - 1) []) e ∙ get_or_push old c [] (n - 1) (omega (arith, is, len, m))

-- a sound trail stays so when propagation adds to it
pub sound_propagates : (variables : ℕ) (known : List (List Literal)) (old new : List Entry) → are_clauses variables known ≡ true → IsSound variables known old → Propagates known old new → IsSound variables known new
sound_propagates variables known old new clauses sound p k l =
    elim (cases_le (length old) k) as (λ _. Stands variables known (take k new) (entry_at new k)) [
      | inl late ↦
          let i = p.implied k late l in
          record {
            among = all_at (is_among variables) (clause_at known i.0) (entry_at new k).literal (clause_within variables known i.0 clauses) i.2.within;
            free = p.free k late l;
            why = subst (λ (o : Option ℕ). MatchOption o (is_closed (literals (take k new)) known ≡ true) (λ n. Implies known n (literals (take k new)) (entry_at new k).literal)) (sym i.1) i.2;
          }
      | inr early ↦
          let at : entry_at old k ≡ entry_at new k = ap (λ (x : List Entry). entry_at x k) (sym p.kept) ∙ get_or-take (length old) new k no_entry early in
          let prefix : take k old ≡ take k new = ap (take k) (sym p.kept) ∙ take-take k (length old) new (omega (arith, early)) in
          rw (← at, ← prefix) (sound k early)
    ]

pub not_empty : (c : List Literal) → is_empty c ≡ false → 0 < length c
not_empty [] h = absurd (true≢false h)
not_empty (x ∷ xs) h = omega arith

pub mentions_kept : (old new : List Entry) (v : ℕ) → take (length old) new ≡ old → mentions (literals old) v ≡ true → mentions (literals new) v ≡ true
mentions_kept old new v kept h =
    let l = holds_from_mentions (literals old) v h in
    subst (λ (w : ℕ). mentions (literals new) w ≡ true) l.2 (mentions_from (literals new) l.0 (kept_holds old new l.0 kept l.1))

pub before_or_from : (k position : ℕ) → (k < position) ⊎ (position ≤ k)
before_or_from k position = elim (cases_le position k) as (λ _. (k < position) ⊎ (position ≤ k)) [ inl from ↦ inr from | inr before ↦ inl before ]

pub mentions_before : (es : List Entry) (position k v : ℕ) → k < position → k < length es → (entry_at es k).literal.variable ≡ v → mentions (literals (take position es)) v ≡ true
mentions_before es position k v before inside e = subst (λ (w : ℕ). mentions (literals (take position es)) w ≡ true) e (mentions_from (literals (take position es)) (entry_at es k).literal (holds_before es position k before inside))

-- after a backjump the trail has its first literals alone
pub record IsBackjump (old new : Watching) (position : ℕ) : Type 0 where
  pub variables : new.variables ≡ old.variables
  pub clauses : new.clauses ≡ old.clauses
  pub entries : new.entries ≡ take position old.entries

pub backjump_keeps : (old inserted new : Watching) (position : ℕ) → inserted ≡ old → new ≡ record inserted { entries = take position inserted.entries } → IsBackjump old new position
backjump_keeps old inserted new position same back =
    let is : new ≡ record old { entries = take position old.entries } = back ∙ ap (λ (w : Watching). record w { entries = take position w.entries }) same in
    record { variables = ap (λ (w : Watching). w.variables) is; clauses = ap (λ (w : Watching). w.clauses) is; entries = ap (λ (w : Watching). w.entries) is }

-- what is learnt from the parts of a search is learnt from it
pub search_learns : (w : Watching) (path : Path) (clauses : List (List Literal)) (step : Step) (position : ℕ) → path ≡ record { variables = w.variables; entries = w.entries } → clauses ≡ w.clauses
    → IsLearntClause path.variables clauses path.entries step position → IsLearntClause w.variables w.clauses w.entries step position
search_learns w path clauses step position is same l = subst (λ (p : Path). IsLearntClause p.variables w.clauses p.entries step position) is (subst (λ (cs : List (List Literal)). IsLearntClause path.variables cs path.entries step position) same l)

-- the stored clause of a learnt clause: its last literal has come first
pub record IsPrefixLiteral (variables : ℕ) (clause ordered : List Literal) (literal : Literal) : Type 0 where
  pub stored_clause_is : IsStored clause ordered
  pub some : 0 < length ordered
  pub within : is_within variables clause ≡ true
  pub first : literal_at ordered 0 ≡ literal
  pub is_last : literal_at clause (length clause - 1) ≡ literal

pub stored_clause_in_prefix : (variables : ℕ) (clause written ordered : List Literal) → is_clause variables clause ≡ true → written ≡ clause → ((c : List Literal) → IsStored c written → IsStored c ordered) → IsStored clause ordered
stored_clause_in_prefix variables clause written ordered is_a same carried = carried clause
    (subst (λ (r : List Literal). IsStored clause r) (sym same) (stored_clause_of clause (and_parts (is_once clause) (is_within variables clause) is_a).0))

pub prefix_literal : (variables : ℕ) (clause written ordered shown : List Literal) (read literal : Literal) → is_clause variables clause ≡ true → 0 < length clause → written ≡ clause
    → ((c : List Literal) → IsStored c written → IsStored c ordered) → literal_at ordered 0 ≡ literal_at written (length written - 1) → shown ≡ ordered → read ≡ get_or shown 0 read → literal
    ≡ read → IsPrefixLiteral variables clause ordered literal
prefix_literal variables clause written ordered shown read literal is_a full same carried last shows reads is =
    let stored_clause_is = stored_clause_in_prefix variables clause written ordered is_a same carried in
    let some : 0 < length ordered = let n = stored_clause_is.len in omega (arith, n, full) in
    let len = ap length shows in
    let first : literal_at ordered 0 ≡ literal = ap (λ (r : List Literal). literal_at r 0) (sym shows) ∙ sym (get_or_read shown 0 read (omega (arith, len, some)) reads no_literal) ∙ sym is in
    record {
      stored_clause_is = stored_clause_is;
      some = some;
      within = (and_parts (is_once clause) (is_within variables clause) is_a).1;
      first = first;
      is_last = sym (last ∙ ap (λ (r : List Literal). literal_at r (length r - 1)) same) ∙ first;
    }
