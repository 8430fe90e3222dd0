-- Which numbers have their digits in a table.
use Rattle.std.specs.Prelude.{ℕ, length}
use Rattle.mlir_printer.specs.declared.numerals.Numerals.{Numerals}

-- those below this one
abbrev pub spelled_below : Numerals → ℕ
spelled_below n = length n.texts.items
