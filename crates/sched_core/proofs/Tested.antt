-- What the counts of the tables tell of the state.
use Rattle.std.proofs.Common.{◌≡◌, ℕ, zero, suc, ◌+◌, ◌<◌, ◌≤◌, ◌⊎◌, ◌↔◌, Bool, true, false, List, [], ◌∷◌, length, get_or, IsTrue, refl, sym, ap, subst, ◌∙◌, inl, inr, arith}
use Rattle.std.specs.Prelude.{◌==◌}
use Rattle.std.specs.List.{list_all}
use Rattle.std.proofs.lemmas.Bool.{eqb-true, cases_lt, false≢true, and_parts, and_from}
use Rattle.sched_core.specs.declared.parts.Stage.TheVariants.{Waiting}
use Rattle.sched_core.specs.declared.parts.Edge.{Edge}
use Rattle.sched_core.specs.declared.parts.Fill.{Fill}
use Rattle.sched_core.specs.declared.parts.Fill.TheVariants.{Empty, Full, Emptied}
use Rattle.sched_core.specs.State.{callees_of, IsEdge, is_busy_with, is_emptied, IsThere, IsFree, HasReported, new_edge}
use Rattle.sched_core.specs.Counts.{busy_of, untold_of}
use Rattle.sched_core.specs.Table.{Table, state_of, stage_with_heirs, IsKept}
use Rattle.sched_core.proofs.Reading.{get_or-past}
use Rattle.sched_core.proofs.Busy.{busy-free, free_of_busy}
use Rattle.sched_core.proofs.Untold.{untold-reported, reported_of_untold}

-- a worker that is there is one of 64
pub there-lt : (t : Table) (w : ℕ) → IsKept t → IsThere (state_of t) w → w < 64
there-lt t w kept there = let come : w < t.splits + 1 = there.0 in let few : t.splits + 1 ≤ 64 = kept.sound.few in omega arith

is_zero : (n : ℕ) → IsTrue (n == 0) → n ≡ 0
is_zero n is = eqb-true n 0 (search is)

zero_is : (n : ℕ) → n ≡ 0 → IsTrue (n == 0)
zero_is n is = subst (λ k. IsTrue (k == 0)) (sym is) refl

-- its count of modules is zero exactly where it is busy with none
pub free-test : (t : Table) (w n : ℕ) → IsKept t → IsThere (state_of t) w → n ≡ get_or t.busy w 0 → IsTrue (n == 0) ↔ IsFree (state_of t) w
free-test t w n kept there is = (forth, back)
  where
    count : n ≡ busy_of (state_of t) w
    count = is ∙ kept.busy w (there-lt t w kept there)

    forth : IsTrue (n == 0) → IsFree (state_of t) w
    forth zero_count m = by_position (cases_lt m (length t.callees))
      where
        none : busy_of (state_of t) w ≡ 0
        none = sym count ∙ is_zero n zero_count

        by_position : (m < length t.callees) ⊎ (length t.callees ≤ m) → is_busy_with w ((state_of t).stage m) ≡ false
        by_position (inl within) = free_of_busy (state_of t) w none m within
        by_position (inr past) = ap (λ x. is_busy_with w (stage_with_heirs t.heirs x)) (get_or-past t.stages m Waiting (let positions : length t.stages ≡ length t.callees = kept.positions.stages in omega arith))

    back : IsFree (state_of t) w → IsTrue (n == 0)
    back free = zero_is n (count ∙ busy-free (state_of t) w free)

-- its count of edges is zero exactly where it has reported all
pub reported-test : (t : Table) (w n : ℕ) → IsKept t → IsThere (state_of t) w → n ≡ get_or t.untold w 0 → IsTrue (n == 0) ↔ HasReported (state_of t) w
reported-test t w n kept there is =
    let count : n ≡ untold_of (state_of t) w = is ∙ kept.untold w (there-lt t w kept there) in
    (λ zero_count. reported_of_untold (state_of t) w (sym count ∙ is_zero n zero_count), λ told. zero_is n (count ∙ untold-reported (state_of t) w told))

-- a test of all edges of a row passes exactly where each passes
pub all-test : (p : Edge → Bool) (row : List Edge) (d : Edge) → IsTrue (list_all p row) ↔ ((i : ℕ) → i < length row → p (get_or row i d) ≡ true)
all-test p row d = (forth row, back row)
  where
    forth : (xs : List Edge) → IsTrue (list_all p xs) → (i : ℕ) → i < length xs → p (get_or xs i d) ≡ true
    forth [] is i within = absurd (omega arith)
    forth (x ∷ xs) is zero within = (and_parts (p x) (list_all p xs) is).0
    forth (x ∷ xs) is (suc i) within = forth xs (and_parts (p x) (list_all p xs) is).1 i (omega arith)

    back : (xs : List Edge) → ((i : ℕ) → i < length xs → p (get_or xs i d) ≡ true) → IsTrue (list_all p xs)
    back [] each = refl
    back (x ∷ xs) each = and_from (p x) (list_all p xs) (each 0 (omega arith)) (back xs (λ i within. each (suc i) (omega arith)))

is_Emptied : (fill : Fill) → is_emptied fill ≡ true → fill ≡ Emptied
is_Emptied Empty is = absurd (false≢true is)
is_Emptied Full is = absurd (false≢true is)
is_Emptied Emptied is = refl

-- all copies of a row are taken exactly where each edge of the module is emptied
pub emptied-test : (t : Table) (m : ℕ) (b : Bool) → IsKept t → b ≡ list_all (λ e. is_emptied e.fill) (get_or t.edges m [])
    → IsTrue b ↔ ((i : ℕ) → IsEdge t.callees m i → ((state_of t).edge m i).fill ≡ Emptied)
emptied-test t m b kept is = (forth, back)
  where
    count : length (get_or t.edges m []) ≡ length (callees_of t.callees m)
    count = kept.positions.rows m

    all : IsTrue (list_all (λ e. is_emptied e.fill) (get_or t.edges m [])) ↔ ((i : ℕ) → i < length (get_or t.edges m []) → is_emptied (get_or (get_or t.edges m []) i new_edge).fill ≡ true)
    all = all-test (λ e. is_emptied e.fill) (get_or t.edges m []) new_edge

    forth : IsTrue b → (i : ℕ) → IsEdge t.callees m i → ((state_of t).edge m i).fill ≡ Emptied
    forth passes i edge = is_Emptied ((state_of t).edge m i).fill (all.0 (sym is ∙ passes) i (omega arith))

    back : ((i : ℕ) → IsEdge t.callees m i → ((state_of t).edge m i).fill ≡ Emptied) → IsTrue b
    back each = is ∙ all.1 (λ i within. ap is_emptied (each i (omega arith)))
