-- What operations become without the wires of those that only join values or take them apart: which are kept, and where
-- each value goes (CIRCT, HW dialect: `hw-lower-aggregates`).
use Rattle.std.specs.Prelude.{◌≡◌, ℕ, zero, suc, ◌<◌, Bool, true, false, List, [], ◌∷◌, length, Option, Some, None, slice_get}
use Rattle.hw_model.specs.Design.{Ref, Op}
use Rattle.hw_model.specs.Design.Ref.{port, result, undefined}
use Rattle.aggregate_laws.specs.Leaves.{part}

-- ---- what operations become

-- an operation that another one became: a wire of one that only joins, or one that is kept
pub data MadeOp : Type 0 where
  wire : Op → MadeOp
  kept : Op → MadeOp

-- whether each is a wire of one that only joins
abbrev pub wire_flags : List MadeOp → List Bool
wire_flags [] = []
wire_flags (wire o ∷ xs) = true ∷ wire_flags xs
wire_flags (kept o ∷ xs) = false ∷ wire_flags xs

-- the operations
abbrev pub ops_made : List MadeOp → List Op
ops_made [] = []
ops_made (wire o ∷ xs) = o ∷ ops_made xs
ops_made (kept o ∷ xs) = o ∷ ops_made xs

-- those that are kept
abbrev pub ops_kept : List MadeOp → List Op
ops_kept [] = []
ops_kept (wire o ∷ xs) = ops_kept xs
ops_kept (kept o ∷ xs) = o ∷ ops_kept xs

-- where first results go, the next operation that is kept having a number: that of what is kept to its own place, that of
-- a wire to what it carries, as that was named before
abbrev pub targets_from : ℕ → List MadeOp → List Ref
targets_from n [] = []
targets_from n (wire o ∷ xs) = part o.operands 0 ∷ targets_from n xs
targets_from n (kept o ∷ xs) = result n 0 ∷ targets_from (suc n) xs

-- ---- where values go

-- the flag, or false where there is none
abbrev pub or_false : Option Bool → Bool
or_false None = false
or_false (Some b) = b

-- whether a number is flagged, the first flag being that of 0
abbrev pub is_flagged : List Bool → ℕ → Bool
is_flagged flags n = or_false (slice_get flags n)

-- the result of a number of the operation of which this is one
abbrev pub with_number : Ref → ℕ → Ref
with_number (result j _) k = result j k
with_number r k = r

-- where the result of a number of an operation goes, whose first result goes somewhere; a wire has no further one
abbrev pub target_ref : ℕ → Bool → Ref → Ref
target_ref zero flag r = r
target_ref (suc k) true r = undefined
target_ref (suc k) false r = with_number r (suc k)

-- where a value goes, by where first results go
abbrev pub moved_ref : List Bool → List Ref → Ref → Ref
moved_ref flags ts (port j) = port j
moved_ref flags ts (result j k) = target_ref k (is_flagged flags j) (part ts j)
moved_ref flags ts undefined = undefined

-- the value is a result of one of n operations, or none
abbrev pub IsNamed : ℕ → Ref → Type 0
IsNamed n r = (j k : ℕ) → r ≡ result j k → j < n

-- places of all values: the results of what is kept have their own, and a wire's result has that of what it carries, which
-- stands lower
pub record Places (flags : List Bool) (ts : List Ref) : Type 0 where
  pub place : Ref → Ref
  pub height : Ref → ℕ
  pub port_is : (j : ℕ) → place (port j) ≡ port j
  pub undefined_is : place undefined ≡ undefined
  pub kept_is : (j k : ℕ) → j < length flags → is_flagged flags j ≡ false → place (result j k) ≡ target_ref k false (part ts j)
  pub wire_is : (j : ℕ) → is_flagged flags j ≡ true → place (result j 0) ≡ place (part ts j)
  pub no_further : (j k : ℕ) → is_flagged flags j ≡ true → place (result j (suc k)) ≡ undefined
  pub lower : (j : ℕ) → is_flagged flags j ≡ true → height (part ts j) < height (result j 0)
  pub named : (j : ℕ) → is_flagged flags j ≡ true → IsNamed (length flags) (part ts j)

-- each first result has its place
abbrev pub AreSettled : (flags : List Bool) → (ts : List Ref) → Places flags ts → List Ref → Type 0
AreSettled flags ts s new = (j : ℕ) → j < length flags → part new j ≡ s.place (result j 0)
