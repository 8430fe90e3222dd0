-- What is counted in modules, one after another.
use Rattle.std.proofs.Common.{◌≡◌, ℕ, suc, ◌+◌, ◌*◌, ◌≤◌, List, map, length, drop, slice_get, Some, sym, ap, ◌∙◌, arith}
use Rattle.std.proofs.lemmas.List.{drop_all}
use Rattle.std.proofs.lemmas.List.{length-map}
use Rattle.wiring.proofs.Lists.{drop_some}
use Rattle.ir_store.specs.BodyOps.{BodyOp, ids_in}
use Rattle.ir_store.specs.Designs.{StoredModule, numbered_module}
use Rattle.ir_store.specs.Numbered.{position_of, op_by, ops_by_position}
use Rattle.hw_model.specs.Design.{Module, Design}
use Rattle.design_counts.specs.Counts.{in_all}

-- a body has as many operations by positions as it has ids
pub all_positions : (ops : List BodyOp) → length (ids_in ops) ≡ length (ops_by_position ops)
all_positions ops = length-map ops (λ (o : BodyOp). o.id) ∙ sym (length-map ops (op_by (position_of (ids_in ops))))

-- a design has as many modules as are stored
pub designed : (modules : List StoredModule) → length (map numbered_module modules) ≡ length modules
designed modules = length-map modules numbered_module

-- so much is counted in the modules before a number, in each no more than there is room for
pub record IsCounted (room : ℕ) (count : Module → ℕ) (d : Design) (number so_far : ℕ) : Type 0 where
  pub total : so_far + in_all count (drop number d) ≡ in_all count d
  pub few : so_far ≤ number * room

mul-distrib : (room number : ℕ) → (number + 1) * room ≡ number * room + room
mul-distrib room number = omega arith

module _ (room : ℕ) (count : Module → ℕ) (d : Design) where
  -- before the first one
  pub counted_none : IsCounted room count d 0 0
  counted_none = record { total = omega arith; few = omega arith }

  -- one module more
  pub counted_on : (number so_far more : ℕ) (m : Module) → slice_get d number ≡ Some m → more ≡ count m → more ≤ room
      → IsCounted room count d number so_far → IsCounted room count d (number + 1) (so_far + more)
  counted_on number so_far more m there is small h =
      let rest = in_all count (drop (number + 1) d) in
      let step : in_all count (drop number d) ≡ count m + rest = ap (in_all count) (drop_some d number m there) ∙ ap (λ n. count m + in_all count (drop n d)) (let e : suc number ≡ number + 1 = omega arith in e) in
      record {
        total = omega (arith, h.total, step, is);
        few = let both : (number + 1) * room ≡ number * room + room = mul-distrib room number in omega (arith, h.few, small, both);
      }

  -- all of them
  pub counted_all : (number so_far : ℕ) → length d ≤ number → IsCounted room count d number so_far → so_far ≡ in_all count d
  counted_all number so_far all h =
      let none : in_all count (drop number d) ≡ 0 = ap (in_all count) (drop_all number d all) in
      omega (arith, h.total, none)
