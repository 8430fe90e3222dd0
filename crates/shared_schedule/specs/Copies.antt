-- What goes over the edges of a schedule.
use Rattle.std.specs.Prelude.{◌≡◌, ℕ, List, Option, Some, length, slice_get, slice_index_or}
use Rattle.wiring.specs.Wiring.{In}

-- for each callee of a list, in order, what came from it
pub record AreReceived {B : Type 0} (copied : ℕ → Option B → Type 0) (callees : List ℕ) (received : List (Option B)) : Type 0 where
  pub many : length received ≡ length callees
  pub each : (i : ℕ) (o : Option B) → slice_get received i ≡ Some o → copied (slice_index_or callees i 0) o

-- so many copies, each of the body that was made for a module
pub record AreCopies {B : Type 0} (copied : Option B → Type 0) (count : ℕ) (copies : List (Option B)) : Type 0 where
  pub many : length copies ≡ count
  pub each : (o : Option B) → In o copies → copied o
