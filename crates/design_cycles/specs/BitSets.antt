-- Bit sets: of each node of a graph, which of some inputs it depends on or is.
use Rattle.std.specs.Prelude.{◌≡◌, ◌⊎◌, ℕ, ◌+◌, ◌-◌, ◌^◌, ◌<◌, Bool, List, [], ◌∷◌, length, MatchBool, slice_get, slice_index_or, Option, Some, None}
use Rattle.std.specs.Int.{bit_at}
use Rattle.wiring.specs.Wiring.{In, Chain}
use Rattle.graphs.specs.Graphs.{edges}

-- the bit set of a node; what is not there has an empty one
abbrev pub bit_set_at : List ℕ → ℕ → ℕ
bit_set_at bit_sets v = slice_index_or bit_sets v 0

abbrev pub bit_set_of : List ℕ → Option ℕ → ℕ
bit_set_of bit_sets None = 0
bit_set_of bit_sets (Some v) = bit_set_at bit_sets v

-- a bit of a bit set is set
pub record IsSet (bit_set x : ℕ) : Type 0 where
  pub is_one : bit_at bit_set x ≡ 1

-- a node leads to an input by its number
abbrev pub LeadsToInput : List (List ℕ) → List ℕ → ℕ → ℕ → Type 0
LeadsToInput lists inputs v x = (w : ℕ) × (slice_get inputs x ≡ Some w) × ((k : ℕ) × Chain (edges lists) k v w)

-- each bit that is set stands for an input to which its node leads
abbrev pub AreSound : List (List ℕ) → List ℕ → List ℕ → Type 0
AreSound lists inputs bit_sets = (v x : ℕ) → IsSet (bit_set_at bit_sets v) x → LeadsToInput lists inputs v x

-- the bits say just to which inputs each node leads
pub record AreBitSets (lists : List (List ℕ)) (inputs bit_sets : List ℕ) : Type 0 where
  pub sound : AreSound lists inputs bit_sets
  pub complete : (v x w k : ℕ) → slice_get inputs x ≡ Some w → w < length lists → Chain (edges lists) k v w → IsSet (bit_set_at bit_sets v) x

-- ---- how bit sets come about

-- each input that is a node gets the bit of its number
pub record GivesBits (inputs old new : List ℕ) : Type 0 where
  pub count : length new ≡ length old
  pub from : (v x : ℕ) → IsSet (bit_set_at new v) x → IsSet (bit_set_at old v) x ⊎ (slice_get inputs x ≡ Some v)
  pub kept : (v x : ℕ) → IsSet (bit_set_at old v) x → IsSet (bit_set_at new v) x
  pub all : (v x : ℕ) → slice_get inputs x ≡ Some v → v < length old → IsSet (bit_set_at new v) x

-- a bit set has the bits of the bit sets of some nodes
pub record JoinsBitSets (bit_sets nodes : List ℕ) (bit_set : ℕ) : Type 0 where
  pub from : (x : ℕ) → IsSet bit_set x → (w : ℕ) × In w nodes × IsSet (bit_set_at bit_sets w) x
  pub all : (w x : ℕ) → In w nodes → IsSet (bit_set_at bit_sets w) x → IsSet bit_set x

-- a node has the bits of what it needs
abbrev pub HasNeeds : List (List ℕ) → List ℕ → ℕ → Type 0
HasNeeds lists bit_sets v = (w x : ℕ) → In w (edges lists v) → IsSet (bit_set_at bit_sets w) x → IsSet (bit_set_at bit_sets v) x

-- how far bit sets of 64 bits are from having all bits
abbrev pub room_left : List ℕ → ℕ
room_left [] = 0
room_left (r ∷ rs) = (2 ^ 64 - r) + room_left rs

-- bits go along edges alone and stay, and a bit set changed, or the nodes have the bits of what they need
pub record Spreads (lists : List (List ℕ)) (nodes old new : List ℕ) (changed : Bool) : Type 0 where
  pub count : length new ≡ length old
  pub sound : (inputs : List ℕ) → AreSound lists inputs old → AreSound lists inputs new
  pub kept : (v x : ℕ) → IsSet (bit_set_at old v) x → IsSet (bit_set_at new v) x
  pub progress : MatchBool changed (room_left new < room_left old) ((new ≡ old) × ((v : ℕ) → In v nodes → HasNeeds lists old v))

-- bits go along edges alone and stay, until each node has the bits of what it needs
pub record Settles (lists : List (List ℕ)) (old new : List ℕ) : Type 0 where
  pub count : length new ≡ length old
  pub sound : (inputs : List ℕ) → AreSound lists inputs old → AreSound lists inputs new
  pub kept : (v x : ℕ) → IsSet (bit_set_at old v) x → IsSet (bit_set_at new v) x
  pub closed : (v : ℕ) → HasNeeds lists new v

-- ---- the inputs of outputs

-- numbers get those of the bits of a bit set, the first bit having a number
pub record AddsBits (bit_set first count : ℕ) (old new : List ℕ) : Type 0 where
  pub kept : (y : ℕ) → In y old → In y new
  pub from : (y : ℕ) → In y new → In y old ⊎ ((x : ℕ) × (y ≡ first + x) × (x < count) × IsSet bit_set x)
  pub all : (x : ℕ) → x < count → IsSet bit_set x → In (first + x) new

-- so of the bit sets of nodes
pub record AddsBitSets (bit_sets : List ℕ) (nodes : List (Option ℕ)) (first count : ℕ) (old new : List (List ℕ)) : Type 0 where
  pub size : length new ≡ length old
  pub each : (k : ℕ) (from : Option ℕ) → slice_get nodes k ≡ Some from → AddsBits (bit_set_of bit_sets from) first count (edges old k) (edges new k)
