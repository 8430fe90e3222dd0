-- Modules in code, as a design has them.
use Rattle.std.proofs.Common.{◌≡◌, ℕ, List, map, slice_get, option_map, Some, sym, ap, ◌∙◌}
use Rattle.std.proofs.lemmas.Option.{slice_get-map}
use Rattle.ir_store.specs.Designs.{StoredModule, numbered_module}

-- what is stored under a number is a module of the design
pub stored_at : (modules : List StoredModule) (i : ℕ) (m : StoredModule) → Some m ≡ slice_get modules i → slice_get (map numbered_module modules) i ≡ Some (numbered_module m)
stored_at modules i m at = slice_get-map numbered_module modules i ∙ ap (option_map numbered_module) (sym at)
