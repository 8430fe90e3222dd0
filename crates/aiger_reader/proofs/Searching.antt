-- A search along what gates need, as the code has it.
use Rattle.std.proofs.Common.{◌≡◌, ℕ, zero, suc, ◌+◌, ◌<◌, Bool, true, false, List, [], ◌∷◌, ◌++◌, length, get_or, take, drop, replicate, refl, sym, ap, subst, ◌∙◌, arith}
use Rattle.std.specs.Prelude.{MatchBool}
use Rattle.std.proofs.lemmas.List.{length-map}
use Rattle.wiring.specs.Wiring.{In, Chain}
use Rattle.graphs.specs.Graphs.{edges, has_mark, AreReached}
use Rattle.graphs.specs.Marks.{MarksAll}
use Rattle.graphs.proofs.Lists.{written_back}
use Rattle.graphs.proofs.Marking.{IsSearching, search_begins, search_goes, none_marked}
use Rattle.aiger_reader.specs.declared.needs.GateNeeds.{GateNeeds}
use Rattle.aiger_reader.specs.Searched.{lists_in, IsLooping}

-- what a gate needs
pub needs_at : (needs : List GateNeeds) (v : ℕ) (d : GateNeeds) → v < length needs → edges (lists_in needs) v ≡ (get_or needs v d).left ∷ (get_or needs v d).right ∷ []
needs_at [] v d below = absurd (omega (arith, below))
needs_at (n ∷ ns) zero d below = refl
needs_at (n ∷ ns) (suc v) d below = needs_at ns v d (omega (arith, below))

pub length-lists : (needs : List GateNeeds) → length (lists_in needs) ≡ length needs
length-lists needs = length-map needs (λ (n : GateNeeds). n.left ∷ n.right ∷ [])

module _ (needs : List GateNeeds) (starts : List ℕ) (old new : List Bool) (n : ℕ) (size : n ≡ length old) (same : length new ≡ length old) where
  pub searching_begins : (m : ℕ) (lent : List Bool) (waited waiting : List ℕ) → length old ≡ length needs → old ≡ replicate m false → waited ≡ [] → lent ≡ old
      → MarksAll starts lent new waited waiting → IsSearching (lists_in needs) starts (take n (new ++ drop (length new) old)) waiting
  searching_begins m lent waited waiting count fresh none is all =
      rw (written_back n new old size same)
      (search_begins (lists_in needs) starts old new waiting (count ∙ sym (length-lists needs)) (λ v. ap (λ ms. has_mark ms v) fresh ∙ none_marked m v)
      (subst (λ ws. MarksAll starts old new ws waiting) none (subst (λ ms. MarksAll starts ms new waited waiting) is all)))

  pub searching_goes : (nodes : List ℕ) (lent : List Bool) (waited rest waiting : List ℕ) (v : ℕ) (d : GateNeeds) → v < length needs
      → nodes ≡ (get_or needs v d).left ∷ (get_or needs v d).right ∷ [] → lent ≡ old
      → waited ≡ rest ++ v ∷ [] → IsSearching (lists_in needs) starts old waited → MarksAll nodes lent new rest waiting
      → IsSearching (lists_in needs) starts (take n (new ++ drop (length new) old)) waiting
  searching_goes nodes lent waited rest waiting v d below are is popped search all =
      rw (written_back n new old size same)
      (search_goes (lists_in needs) starts old new rest waiting v (subst (IsSearching (lists_in needs) starts old) popped search)
      (subst (λ ns. MarksAll ns old new rest waiting) (are ∙ sym (needs_at needs v d below)) (subst (λ ms. MarksAll nodes ms new rest waiting) is all)))

-- whether a gate is marked after a search from what it needs
pub looping_marked : (needs : List GateNeeds) (starts : List ℕ) (marks : List Bool) (k : ℕ) → k < length needs → starts ≡ edges (lists_in needs) k → AreReached (lists_in needs) starts marks
    → (b : Bool) → b ≡ has_mark marks k → MatchBool b (IsLooping (lists_in needs) k) (IsLooping (lists_in needs) k → ⊥)
looping_marked needs starts marks k below are reached true is =
    let found = reached.sound k (sym is) in (found.1, found.0, subst (In found.0) are found.2, found.3)
looping_marked needs starts marks k below are reached false is = λ loop.
    let marked : has_mark marks k ≡ true =
    reached.complete loop.1 loop.0 k (subst (In loop.1) (sym are) loop.2) loop.3 (subst (λ (n : ℕ). k < n) (sym (length-lists needs)) below) in
    absurd (let w : ⊥ = cc in w)
