-- The items of a list of which most have one item or none.
use Rattle.std.specs.Prelude.{List, [], ◌∷◌}
use Rattle.ir_store.specs.declared.short_list.ShortList.{ShortList}
use Rattle.ir_store.specs.declared.short_list.ShortList.TheVariants.{Empty, One, Many}

module _ {T : Type 0} where
  -- the items of a list
  abbrev pub short_items : ShortList T → List T
  short_items Empty = []
  short_items (One item) = item ∷ []
  short_items (Many items) = items.items
