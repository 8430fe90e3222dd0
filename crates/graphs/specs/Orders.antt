-- Orders of nodes in which each stands after what it needs, and nodes that are placed so one by one.
use Rattle.std.specs.Prelude.{◌≡◌, ℕ, zero, suc, ◌<◌, Bool, true, false, cond, List, [], ◌∷◌, ◌++◌, length, take, slice_get, Some, IsPermutation, MatchBool}
use Rattle.wiring.specs.Wiring.{In}
use Rattle.graphs.specs.Graphs.{edges, has_mark}
use Rattle.graphs.specs.Marks.{open_count}

-- so many numbers from one on
abbrev pub numbers_from : ℕ → ℕ → List ℕ
numbers_from start zero = []
numbers_from start (suc n) = start ∷ numbers_from (suc start) n

-- the nodes without a mark, the first one being `start`
abbrev pub open_from : ℕ → List Bool → List ℕ
open_from start [] = []
open_from start (m ∷ ms) = cond m (open_from (suc start) ms) (start ∷ open_from (suc start) ms)

-- some nodes, each once and after all that it needs, and the marks of those
pub record IsOrder (lists : List (List ℕ)) (placed : List Bool) (nodes : List ℕ) : Type 0 where
  pub count : length placed ≡ length lists
  pub once : IsPermutation (numbers_from 0 (length lists)) (nodes ++ open_from 0 placed)
  pub listed : (v : ℕ) → has_mark placed v ≡ true → In v nodes
  pub placed_all : (v : ℕ) → In v nodes → has_mark placed v ≡ true
  pub following : (i v t : ℕ) → slice_get nodes i ≡ Some v → In t (edges lists v) → t < length lists → In t (take i nodes)

-- the nodes that are there have their marks
abbrev pub AreMarked : List ℕ → List Bool → Type 0
AreMarked nodes marks = (t : ℕ) → In t nodes → t < length marks → has_mark marks t ≡ true

-- one of the nodes is there and has no mark
abbrev pub HasOpen : List ℕ → List Bool → Type 0
HasOpen nodes marks = (t : ℕ) × In t nodes × (t < length marks) × (has_mark marks t ≡ false)

-- a node is there and not placed, and all that it needs is placed
abbrev pub CanBePlaced : List (List ℕ) → List Bool → ℕ → Type 0
CanBePlaced lists placed v = (v < length placed) × (has_mark placed v ≡ false) × AreMarked (edges lists v) placed

-- if a node is there and not placed, something that it needs is not placed
abbrev pub MustWait : List (List ℕ) → List Bool → ℕ → Type 0
MustWait lists placed v = v < length placed → has_mark placed v ≡ false → HasOpen (edges lists v) placed

-- a pass over candidates placed one, or there was none that it could
abbrev pub Placed : List (List ℕ) → List ℕ → List Bool → List Bool → Bool → Type 0
Placed lists candidates old new changed =
    MatchBool changed (open_count new < open_count old) ((new ≡ old) × ((v : ℕ) → In v candidates → MustWait lists new v))
