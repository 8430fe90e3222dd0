-- A module of a stored design, by its number: what a scope of it is, and its text under its name.
use Rattle.std.proofs.Common.{◌≡◌, ℕ, false, List, [], ◌++◌, map, length, slice_get, Some, sym, ◌∙◌, ap, ap₂, subst}
use Rattle.std.proofs.lemmas.List.{length-map}
use Rattle.hw_model.specs.Types.{Name}
use Rattle.hw_model.specs.Design.{Port, Op, Module}
use Rattle.ir_store.specs.Designs.{StoredModule, numbered_module}
use Rattle.ir_store.specs.Numbered.{ops_by_position}
use Rattle.ir_store.proofs.StoredModules.{stored_at}
use Rattle.lowering_options.specs.declared.lowering.Lowering.{Lowering}
use Rattle.export_verilog.specs.Exported.{symbol_names, symbol_name, vmodule}
use Rattle.export_verilog.specs.Layout.{Text, module_text}
use Rattle.export_verilog.specs.ModuleTexts.{module_under}
use Rattle.export_verilog.specs.WritableDesigns.{IsWritableModule, IsWritableDesign}
use Rattle.export_verilog.proofs.names.Symbols.{among_at}
use Rattle.export_verilog.proofs.names.SymbolPositions.{symbol_count}
use Rattle.export_verilog.proofs.text.SameModules.{under_same}

-- a module of some ports and some operations
abbrev pub bare : List Port → List Op → Module
bare ps os = record { symbol = []; is_private = false; ports = ps; dictionary = []; body = os; location = record { line = 0; col = 0 } }

-- the modules that are stored are those of the design
pub stored_count : (xs : List StoredModule) → length (map numbered_module xs) ≡ length xs
stored_count xs = length-map xs numbered_module

pub stored_symbols : (xs : List StoredModule) (ns : List Name) → ns ≡ symbol_names (map numbered_module xs) → length ns ≡ length xs
stored_symbols xs ns are = ap length are ∙ symbol_count (map numbered_module xs) ∙ stored_count xs

module _ (via : Lowering) (xs : List StoredModule) (w : IsWritableDesign (map numbered_module xs)) (n : ℕ) (x : StoredModule) (there : Some x ≡ slice_get xs n)
    (ps : List Port) (os : List Op) (ports : ps ≡ x.ports) (ops : os ≡ ops_by_position x.ops) where
  bare_same : bare x.ports (ops_by_position x.ops) ≡ bare ps os
  bare_same = ap₂ bare (sym ports) (sym ops)

  at : IsWritableModule (numbered_module x)
  at = w.modules n (numbered_module x) (stored_at xs n x there)

  -- a scope of the module is as the module
  pub scope_writable : IsWritableModule (bare ps os)
  scope_writable = subst IsWritableModule bare_same (record { small = at.small; acyclic = at.acyclic; narrow = at.narrow })

  -- the text of a scope of the module is the module's
  pub scope_text : (name : Name) (out one : Text) → slice_get (symbol_names (map numbered_module xs)) n ≡ Some name
      → one ≡ out ++ module_text (module_under via (map numbered_module xs) name (bare ps os)) []
      → (m : Module) → slice_get (map numbered_module xs) n ≡ Some m → one ≡ out ++ module_text (vmodule via (map numbered_module xs) m) []
  scope_text name out one called e m is =
      let d = map numbered_module xs in
      let same : numbered_module x ≡ m = (let p = stored_at xs n x there in cc) in
      let own : name ≡ symbol_name d m.symbol = (let p = among_at d (symbol_names d) n m (symbol_count d) is (λ j y at alike. w.distinct j n y m at is alike) in cc) in
      e ∙ ap (λ b. out ++ module_text (module_under via d name b) []) (sym bare_same)
      ∙ ap (λ t. out ++ module_text t []) (sym (under_same via (numbered_module x) [] false [] (record { line = 0; col = 0 }) d name))
      ∙ ap₂ (λ (k : Name) (y : Module). out ++ module_text (module_under via d k y) []) own same
