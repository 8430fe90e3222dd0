-- The names of an exportable design are legal and distinct, so each of its modules behaves in Verilog as it does.
use Rattle.std.proofs.Common.{◌≡◌, ℕ, ◌+◌, ◌<◌, ◌^◌, List, [], length, map, slice_get, Some, ◌∙◌, IsTrue, arith}
use Rattle.std.proofs.lemmas.List.{length-map}
use Rattle.hw_model.specs.Types.{Name}
use Rattle.hw_model.specs.Design.{Module, Design}
use Rattle.hw_model.specs.Meaning.{machine}
use Rattle.hw_model.specs.Machine.{Same}
use Rattle.verilog_model.specs.Checks.{names_check}
use Rattle.verilog_model.specs.Meaning.{tree_machine}
use Rattle.name_legalise.specs.Legal.{legal}
use Rattle.name_legalise.proofs.Legals.{legal_checks, legal_count}
use Rattle.verilog_expr.proofs.Numerals.{range_width-high_of}
use Rattle.lowering_options.specs.declared.lowering.Lowering.{Lowering}
use Rattle.export_verilog.specs.Identifiers.{module_identifiers, names, name_hint}
use Rattle.export_verilog.specs.Exported.{symbol_names, symbol_name, tree_of}
use Rattle.export_verilog.specs.Exportable.{IsExportable}
use Rattle.export_verilog.proofs.names.IdentifierNames.{AreNames}
use Rattle.export_verilog.proofs.names.Symbols.{AreSymbols, found_symbol}
use Rattle.export_verilog.proofs.items.Settings.{Setting}
use Rattle.export_verilog.proofs.behaviour.TreeBehaviour.{exported_same_by}

legal_long : (ws : List Name) → length (legal ws) ≡ length ws
legal_long ws = legal_count [] ws

legal_good : (ws : List Name) → length ws + 130 < 2 ^ 64 → IsTrue (names_check (legal ws))
legal_good ws room = legal_checks [] ws (omega (arith, room))

pub module_names : (m : Module) → length (module_identifiers m) + 130 < 2 ^ 64 → AreNames m
unfolding names
module_names m room = record {
  many = legal_long (map (name_hint m) (module_identifiers m)) ∙ length-map (module_identifiers m) (name_hint m);
  check = legal_good (map (name_hint m) (module_identifiers m)) (omega (arith, room, length-map (module_identifiers m) (name_hint m)));
}

pub module_symbols : (d : Design) → length d + 130 < 2 ^ 64 → AreSymbols d
unfolding symbol_names
module_symbols d room = record {
  many = legal_long (map (λ (m : Module). m.symbol) d) ∙ length-map d (λ (m : Module). m.symbol);
  check = legal_good (map (λ (m : Module). m.symbol) d) (omega (arith, room, length-map d (λ (m : Module). m.symbol)));
}

pub setting : (d : Design) → IsExportable d → Setting d
setting d x = record {
  ok = x;
  symbols = module_symbols d x.room;
  names = λ s m is. (let at = found_symbol d s m is in module_names m (x.modules at.0 m at.1).room);
  say = range_width-high_of;
}

-- each module of the tree of an exportable design behaves as the module of the design
pub exported_same : (via : Lowering) (d : Design) → IsExportable d → (n : ℕ) (m : Module) → slice_get d n ≡ Some m
    → Same (machine d m.symbol) (tree_machine (tree_of via d) (symbol_name d m.symbol))
exported_same via d x n m there = exported_same_by via d (setting d x) n m there
