use Rattle.std.proofs.Common.{[], ◌∷◌, refl, arith, length-append}
use Rattle.ir_store.specs.Blocks.{no_block}
use Rattle.ir_store.proofs.BlockLists.{blocks_pushed, list_pushed, lists_count}
use Rattle.ir_store.proofs.operands.OperandTable.add_empty.Goals as goal

pub invariant_of-self : goal.invariant_of-self
invariant_of-self c =
    let few = rw (← c.self.view_is) at c.requires.few in
    rw c.push_reserved.ensures.items (
      blocks_pushed c.self.inside.cells.values.items c.self.inside.cells.owners.items c.self.inside.blocks.items c.self.inside.live c.self.invariant.0 no_block refl refl,
      (c.self.invariant.1.0, omega (arith, length-append c.self.inside.blocks.items (no_block ∷ []), few, lists_count c.self.inside.cells.values.items c.self.inside.blocks.items)),
    )

pub returns-clause-lists : goal.returns-clause-lists
returns-clause-lists c = rw (c.push_reserved.ensures.items, ← c.self.view_is) (list_pushed c.self.inside.cells.values.items c.self.inside.blocks.items no_block refl)
