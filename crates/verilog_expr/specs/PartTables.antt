-- Tables of what the operations of a body are to those that use them, and of their heights.
use Rattle.std.specs.Prelude.{◌≡◌, ℕ, ◌<◌, max, Bool, true, false, cond, not, ◌&&◌, ◌||◌, nat_le, List, Option, Some, None, is_some, length, map, drop, slice_index_or}
use Rattle.wiring.specs.Wiring.{In, greatest}
use Rattle.hw_model.specs.Design.{Ref, Port, Op}
use Rattle.hw_model.specs.Design.Ref.{result}
use Rattle.verilog_model.specs.Numerals.{is_nonempty}
use Rattle.verilog_expr.specs.Spilling as told
use Rattle.verilog_expr.specs.Spilling.{is_pure, is_constant_kind, hint_of, height_under, height, operands_at, inner_needs, spilled, has_wire}
use Rattle.verilog_expr.specs.declared.marks.Mark.{Mark}
use Rattle.verilog_expr.specs.declared.nesting.Part.{Part}
use Rattle.verilog_expr.specs.declared.nesting.Part.TheVariants.{Flat, Shared, Nested}
use Rattle.verilog_expr.specs.declared.height_table.Stand.{Stand}
use Rattle.verilog_expr.specs.declared.height_table.Stand.TheVariants.{Known, Unknown}
use Rattle.verilog_expr.specs.declared.height_table.Waiting.{Waiting}
use Rattle.verilog_expr.specs.declared.height_table.Step.{Step}
use Rattle.verilog_expr.specs.declared.height_table.Step.TheVariants.{Height, Down}

-- what a value of code stands for
abbrev pub part_seen : Part → told.Part
part_seen Flat = told.Part.flat
part_seen Shared = told.Part.shared
part_seen Nested = told.Part.nested

-- what an operation is, by the mark of its first result
abbrev pub part_marked : Op → Mark → told.Part
part_marked o m =
    cond (is_pure o && not (is_constant_kind o.kind))
    (cond ((nat_le 2 m.uses || m.cut) || (m.joined || is_nonempty (hint_of o))) told.Part.shared told.Part.nested) told.Part.flat

abbrev pub part_get : List Part → ℕ → Part
part_get ps i = slice_index_or ps i Flat

-- the parts are those of the operations
abbrev pub AreParts : List Port → List Op → List Part → Type 0
AreParts ports os ps = (i : ℕ) → i < length os → part_seen (part_get ps i) ≡ told.part ports os (result i 0)

-- how high a value stands in the expression of an operation that uses it
abbrev pub stands : List Port → List Op → Ref → ℕ
stands ports os x = height_under (told.part ports os x) (height ports os x)

-- the greatest of those of operands
abbrev pub stands_most : List Port → List Op → List Ref → ℕ
stands_most ports os xs = greatest (map (stands ports os) xs)

-- a height that is there is that of the operation
abbrev pub IsHeightAt : List Port → List Op → ℕ → Option ℕ → Type 0
IsHeightAt ports os i None = Unit {0}
IsHeightAt ports os i (Some n) = n ≡ height ports os (result i 0)

abbrev pub height_get : List (Option ℕ) → ℕ → Option ℕ
height_get hs i = slice_index_or hs i None

-- the heights that are there are those of the operations
abbrev pub AreKnown : List Port → List Op → List (Option ℕ) → Type 0
AreKnown ports os hs = (i : ℕ) → i < length os → IsHeightAt ports os i (height_get hs i)

-- each height is there, and is that of the operation
abbrev pub AreHeightsAt : List Port → List Op → List (Option ℕ) → Type 0
AreHeightsAt ports os hs = (i : ℕ) → i < length os → height_get hs i ≡ Some (height ports os (result i 0))

-- a height that was there is still there
abbrev pub AreStill : List (Option ℕ) → List (Option ℕ) → Type 0
AreStill old new = (i : ℕ) → is_some (height_get old i) ≡ true → is_some (height_get new i) ≡ true

-- ---- heights as they are found

-- the height of an operation that stands in expressions where it is used is not known yet
pub record IsUnknown (ports : List Port) (os : List Op) (hs : List (Option ℕ)) (i : ℕ) : Type 0 where
  pub within : i < length os
  pub nested : told.part ports os (result i 0) ≡ told.Part.nested
  pub unknown : height_get hs i ≡ None

-- how high a value stands, or the operation whose height has to be known first
abbrev pub IsStanding : List Port → List Op → List (Option ℕ) → Ref → Stand → Type 0
IsStanding ports os hs x (Known n) = (n ≡ stands ports os x) × (n < 64)
IsStanding ports os hs x (Unknown i) = (x ≡ result i 0) × IsUnknown ports os hs i

-- an operation none of whose operands is passed
abbrev pub starting : ℕ → Waiting
starting position = record { position = position; passed = 0; most = 0 }

-- an operation waits for its operands' heights: it is no name and no literal, and the greatest of how high its operands
-- stand is that of the passed ones or of those that are left
pub record IsWaiting (ports : List Port) (os : List Op) (w : Waiting) : Type 0 where
  pub within : w.position < length os
  pub above : told.part ports os (result w.position 0) ≡ told.Part.flat → ⊥
  pub most : max w.most (stands_most ports os (drop w.passed (operands_at os (result w.position 0)))) ≡ stands_most ports os (operands_at os (result w.position 0))
  pub low : w.most < 64

-- an operation waits for another one, which it needs
pub record IsDown (ports : List Port) (os : List Op) (hs : List (Option ℕ)) (was w : Waiting) (below : ℕ) : Type 0 where
  pub same : w.position ≡ was.position
  pub waiting : IsWaiting ports os w
  pub needed : In (result below 0) (inner_needs os (result w.position 0))
  pub unknown : IsUnknown ports os hs below

-- what going on with an operation gives: its height, or what it waits for next
abbrev pub IsStep : List Port → List Op → List (Option ℕ) → Waiting → Step → Type 0
IsStep ports os hs w (Height n) = n ≡ height ports os (result w.position 0)
IsStep ports os hs w (Down next below) = IsDown ports os hs w next below

-- ---- wires

-- whether an operation has a wire, by its mark, its part and its height
abbrev pub has_own_wire : Op → Mark → told.Part → ℕ → Bool
has_own_wire o m p h = cond (is_constant_kind o.kind) m.cut (has_wire p h)

-- the table says which operations' first results have wires
abbrev pub AreWires : List Port → List Op → List Bool → Type 0
AreWires ports os ws = (i : ℕ) → i < length os → slice_index_or ws i false ≡ spilled ports os (result i 0)
