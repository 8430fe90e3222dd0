-- The statements of a body, by the names and the expressions of its values.
use Rattle.std.specs.Prelude.{List, [], ◌∷◌, Option, Some, None}
use Rattle.hw_model.specs.Types.{Name}
use Rattle.hw_model.specs.Design.{Ref}
use Rattle.hw_model.specs.Flat.{Register, ResetBy}
use Rattle.verilog_model.specs.Tree.{Expr, Item}
use Rattle.verilog_model.specs.Tree.Item.{always}
use Rattle.export_verilog.specs.Identifiers.{name_or_nothing}
use Rattle.export_verilog.specs.Exported.{register_block}

-- the block of a register under a name, which an asynchronous reset resets or not (IEEE 1364-2005, 9.7.2: event control)
abbrev pub register_item : (Ref → Option Name) → (Ref → Expr) → (Ref → Expr) → (Ref → Expr) → Name → Option ResetBy → Register → Item
register_item named asked ex literal q a r = always (name_or_nothing (named r.clock)) (register_block named asked ex literal q r a)

abbrev pub register_items : (Ref → Option Name) → (Ref → Expr) → (Ref → Expr) → (Ref → Expr) → Name → Option ResetBy → Option Register → List Item
register_items named asked ex literal q a None = []
register_items named asked ex literal q a (Some r) = register_item named asked ex literal q a r ∷ []
