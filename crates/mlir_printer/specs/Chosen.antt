-- Names chosen one after another.
use Rattle.std.specs.Prelude.{ℕ, ◌+◌, List, [], ◌∷◌, ◌++◌, Option, Some, None, decimal}
use Rattle.hw_model.specs.Types.{Name}
use Rattle.fresh_names.specs.Fresh.{free_name}
use Rattle.mlir_printer.specs.Strings.{standing}

-- the names that are taken, and the next number for what wants no name
pub record Chosen : Type 0 where
  pub names : List Name
  pub next : ℕ

-- a name more
abbrev pub with_name_hint : Chosen → Option Name → Chosen
with_name_hint c None = record { names = c.names ++ free_name c.names (decimal c.next) ∷ []; next = c.next + 1 }
with_name_hint c (Some name) = record { names = c.names ++ free_name c.names (standing name) ∷ []; next = c.next }

-- names more, one after another
abbrev pub with_name_hints : Chosen → List (Option Name) → Chosen
with_name_hints c [] = c
with_name_hints c (w ∷ ws) = with_name_hints (with_name_hint c w) ws
