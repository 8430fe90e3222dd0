-- Where the values of a module are in the place of its instance (CIRCT, HW dialect: `hw-flatten-modules`).
use Rattle.std.specs.Prelude.{◌≡◌, ℕ, List, length, map}
use Rattle.ir_store.specs.declared.operation.OpId.{OpId}
use Rattle.ir_store.specs.declared.operation.Value.{Value}
use Rattle.ir_store.specs.Live.{AreDistinct}
use Rattle.body_index.specs.PositionTables.{ArePositions}
use Rattle.inline_pass.specs.declared.moved_ops.Destinations.{Destinations}
use Rattle.inline_pass.specs.MovedOps.{moved_value}

-- the numbers of the ids of the operations before the output
abbrev pub destination_ids : Destinations → List ℕ
destination_ids p = map (λ (i : OpId). i.index) p.ids.now

-- no id stands twice, the positions are those of the ids, and each operation has a copy
pub record AreDestinations (p : Destinations) : Type 0 where
  pub distinct : AreDistinct (destination_ids p)
  pub positions : ArePositions (destination_ids p) p.positions.now
  pub many : length p.copies.now ≡ length (destination_ids p)

-- a value of the module there
abbrev pub value_there : Destinations → Value → Value
value_there p v = moved_value p.joined.now (destination_ids p) p.copies.now v
