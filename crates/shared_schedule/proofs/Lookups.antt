-- Lists that are read by their positions, and lists of moves and of edges.
use Rattle.std.proofs.Common.{◌≡◌, ℕ, zero, suc, ◌+◌, ◌<◌, Bool, true, false, cond, ◌&&◌, ◌||◌, List, [], ◌∷◌, length, get_or, set, Some, sum_by, refl, sym, ap, ◌∙◌, arith}
use Rattle.std.specs.Prelude.{◌==◌}
use Rattle.std.proofs.lemmas.Bool.{cond-true, cond-false, eqb-true, eq-eqb}
use Rattle.std.proofs.lemmas.List.Sums.{sum_by-set}
use mathlib.Core.Option.{some, some-injective, some-ne-none}
use lib.ListN.{get_elem?}
use Rattle.sched_core.specs.Sums.{put, one_if}
use Rattle.sched_core.specs.declared.parts.Stage.{Stage}
use Rattle.shared_schedule.specs.declared.view.Hold.{Hold}
use Rattle.shared_schedule.specs.Views.{last_move, hold_of, is_over, done_times, has_edge}

module _ {A : Type 0} where
  -- what stands at a position stands below the length
  pub position-lt : (xs : List A) (k : ℕ) (x : A) → get_elem? xs k ≡ some x → k < length xs
  position-lt [] k x at = absurd (some-ne-none x (sym at))
  position-lt (y ∷ ys) zero x at = omega arith
  position-lt (y ∷ ys) (suc k) x at = let h : k < length ys = position-lt ys k x at in omega arith

  -- a sum over a list after one of its elements has changed
  pub sum-changed : (f : A → ℕ) (xs : List A) (k : ℕ) (x y : A) → get_elem? xs k ≡ some x → sum_by f (set xs k y) + f x ≡ sum_by f xs + f y
  sum-changed f xs k x y at = ap (λ z. sum_by f (set xs k y) + f z) (sym (read xs k x at)) ∙ sum_by-set f xs k y x (position-lt xs k x at)
    where
      read : (xs : List A) (k : ℕ) (x : A) → get_elem? xs k ≡ some x → get_or xs k x ≡ x
      read [] k x at = refl
      read (y ∷ ys) zero x at = some-injective y x at
      read (y ∷ ys) (suc k) x at = read ys k x at

-- the newest move says what a changed stage is to the worker
pub moves-put : (moves : List (ℕ × Hold)) (w m : ℕ) (h : Hold) (x : Stage) (stage : ℕ → Stage) → hold_of w x ≡ Some h
    → ((k : ℕ) → last_move moves k ≡ hold_of w (stage k)) → (k : ℕ) → last_move ((m, h) ∷ moves) k ≡ hold_of w (put m x stage k)
moves-put moves w m h x stage is old k = by_test (k == m) refl
  where
    by_test : (b : Bool) → (k == m) ≡ b → cond (k == m) (Some h) (last_move moves k) ≡ hold_of w (cond (k == m) x (stage k))
    by_test true e = cond-true (k == m) (Some h) (last_move moves k) e ∙ sym is ∙ ap (hold_of w) (sym (cond-true (k == m) x (stage k) e))
    by_test false e = cond-false (k == m) (Some h) (last_move moves k) e ∙ old k ∙ ap (hold_of w) (sym (cond-false (k == m) x (stage k) e))

-- a module that was not over comes to be over once, where that is the move
pub once-put : (moves : List (ℕ × Hold)) (w m : ℕ) (h : Hold) (x : Stage) (stage : ℕ → Stage) → hold_of w x ≡ Some h → is_over (hold_of w (stage m)) ≡ false
    → ((k : ℕ) → done_times moves k ≡ one_if (is_over (hold_of w (stage k)))) → (k : ℕ) → done_times ((m, h) ∷ moves) k ≡ one_if (is_over (hold_of w (put m x stage k)))
once-put moves w m h x stage is before old k = by_test (k == m) refl
  where
    by_test : (b : Bool) → (k == m) ≡ b → one_if ((k == m) && is_over (Some h)) + done_times moves k ≡ one_if (is_over (hold_of w (cond (k == m) x (stage k))))
    by_test true e =
        let here : one_if ((k == m) && is_over (Some h)) ≡ one_if (is_over (Some h)) = ap (λ b. one_if (b && is_over (Some h))) e in
        let none : done_times moves k ≡ 0 = old k ∙ ap (λ n. one_if (is_over (hold_of w (stage n)))) (eqb-true k m e) ∙ ap one_if before in
        let now : one_if (is_over (hold_of w (cond (k == m) x (stage k)))) ≡ one_if (is_over (Some h)) = ap (λ y. one_if (is_over (hold_of w y))) (cond-true (k == m) x (stage k) e) ∙ ap (λ o. one_if (is_over o)) is in
        omega (arith, here, none, now)
    by_test false e =
        let here : one_if ((k == m) && is_over (Some h)) ≡ 0 = ap (λ b. one_if (b && is_over (Some h))) e in
        let now : one_if (is_over (hold_of w (cond (k == m) x (stage k)))) ≡ one_if (is_over (hold_of w (stage k))) = ap (λ y. one_if (is_over (hold_of w y))) (cond-false (k == m) x (stage k) e) in
        let was : done_times moves k ≡ one_if (is_over (hold_of w (stage k))) = old k in
        omega (arith, here, was, now)

-- an edge is in a list that begins with it
pub edge-here : (c i : ℕ) (xs : List (ℕ × ℕ)) → has_edge ((c, i) ∷ xs) c i ≡ true
edge-here c i xs = rw (eq-eqb c c refl, eq-eqb i i refl) refl

-- and other edges are where they were
pub edge-other : (c i a b : ℕ) (xs : List (ℕ × ℕ)) → (a ≡ c → b ≡ i → ⊥) → has_edge ((c, i) ∷ xs) a b ≡ has_edge xs a b
edge-other c i a b xs apart = by_tests (a == c) (b == i) refl refl
  where
    by_tests : (x y : Bool) → (a == c) ≡ x → (b == i) ≡ y → (((a == c) && (b == i)) || has_edge xs a b) ≡ has_edge xs a b
    by_tests true true e f = absurd (apart (eqb-true a c e) (eqb-true b i f))
    by_tests true false e f = rw (e, f) refl
    by_tests false y e f = rw e refl
