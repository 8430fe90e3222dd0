-- How it is found where the first results of wires go: wires wait, then stand on a path, and are settled once it is known where
-- what the last of the path carries goes (CIRCT, HW dialect: `hw-lower-aggregates`).
use Rattle.std.specs.Prelude.{◌≡◌, ◌⊎◌, ℕ, zero, suc, ◌<◌, Bool, true, false, cond, List, [], ◌∷◌, length, Option, Some, None}
use Rattle.wiring.specs.Wiring.{In}
use Rattle.hw_model.specs.Design.{Ref}
use Rattle.hw_model.specs.Design.Ref.{result}
use Rattle.aggregate_laws.specs.Leaves.{part}
use Rattle.aggregate_lower.specs.Targets.{is_flagged, IsNamed, Places}

-- the wire that waits whose first result a value is
abbrev pub waiting_wire : List Bool → Ref → Option ℕ
waiting_wire waiting (result j zero) = cond (is_flagged waiting j) (Some j) None
waiting_wire waiting _ = None

-- a wire of a path waits no more, and goes where r goes, which stands lower
pub record IsOnPath (flags : List Bool) (ts : List Ref) (s : Places flags ts) (waiting : List Bool) (r : Ref) (j : ℕ) : Type 0 where
  pub is_wire : is_flagged flags j ≡ true
  pub marked : is_flagged waiting j ≡ false
  pub same : s.place (result j 0) ≡ s.place r
  pub lower : s.height r < s.height (result j 0)

-- what does not wait is settled, but for the wires of a path, which go where r goes
pub record Settling (flags : List Bool) (ts : List Ref) (s : Places flags ts) (waiting : List Bool) (now : List Ref) (path : List ℕ) (r : Ref) : Type 0 where
  pub many : length now ≡ length flags
  pub fewer : (j : ℕ) → is_flagged waiting j ≡ true → is_flagged flags j ≡ true
  pub waits : (j : ℕ) → is_flagged waiting j ≡ true → part now j ≡ part ts j
  pub on_path : (j : ℕ) → In j path → IsOnPath flags ts s waiting r j
  pub rest : (j : ℕ) → j < length flags → is_flagged waiting j ≡ false → In j path ⊎ (part now j ≡ s.place (result j 0))
  pub named : IsNamed (length flags) r

-- a path goes on from one value to another: what waited no more waits no more, and the first value is no result of a wire that waits
pub record GoesOn (flags : List Bool) (ts : List Ref) (s : Places flags ts) (before waiting : List Bool) (now : List Ref) (path : List ℕ) (start last : Ref) : Type 0 where
  pub settling : Settling flags ts s waiting now path last
  pub less : (j : ℕ) → is_flagged before j ≡ false → is_flagged waiting j ≡ false
  pub first : (start ≡ last) ⊎ ((j : ℕ) → start ≡ result j 0 → is_flagged waiting j ≡ false)

-- and it ends with a value that is no such result
pub record Followed (flags : List Bool) (ts : List Ref) (s : Places flags ts) (before waiting : List Bool) (now : List Ref) (path : List ℕ) (start last : Ref) : Type 0 where
  pub goes : GoesOn flags ts s before waiting now path start last
  pub none : waiting_wire waiting last ≡ None

-- so far: what stands before a number is settled
pub record SettledBefore (flags : List Bool) (ts : List Ref) (s : Places flags ts) (waiting : List Bool) (now : List Ref) (n : ℕ) : Type 0 where
  pub settling : (r : Ref) → IsNamed (length flags) r → Settling flags ts s waiting now [] r
  pub passed : (j : ℕ) → j < n → is_flagged waiting j ≡ false

-- how many wires wait
abbrev pub wait_count : List Bool → ℕ
wait_count [] = 0
wait_count (true ∷ flags) = suc (wait_count flags)
wait_count (false ∷ flags) = wait_count flags
