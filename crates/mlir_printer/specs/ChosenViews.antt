-- What chosen names stand for.
use Rattle.std.specs.Prelude.{List}
use Rattle.hw_model.specs.Types.{Name}
use Rattle.fresh_names.specs.TakenViews.{taken_names}
use Rattle.mlir_printer.specs.Choices.{names_chosen}
use Rattle.mlir_printer.specs.Chosen.{Chosen}
use Rattle.mlir_printer.specs.declared.chosen_names.ChosenNames.{ChosenNames}

-- the names, in order
abbrev pub names_in : ChosenNames → List Name
names_in c = names_chosen (taken_names c.words) c.choices.items

-- the names, and the next number for what wants none
abbrev pub chosen_in : ChosenNames → Chosen
chosen_in c = record { names = names_in c; next = c.numbered }
