-- What texts name ways in which a design is written.
use Rattle.std.specs.Prelude.{ℕ, cond, List, Option, Some, None, codes}
use Rattle.std.specs.Str.{bytes_eq}
use Rattle.lowering_options.specs.declared.lowering.Lowering.{Lowering}
use Rattle.lowering_options.specs.declared.lowering.Lowering.TheVariants.{Plain, ImplicitExtension}

-- the way that a text names; an empty text names the plain one
abbrev pub lowering_named : List ℕ → Option Lowering
lowering_named text = cond (bytes_eq text (codes "")) (Some Plain) (cond (bytes_eq text (codes "implicitExtension")) (Some ImplicitExtension) None)
