-- Designs of which only the public modules stay, and those whose private bodies have gone before them.
use Rattle.std.specs.Prelude.{cond, List, [], ◌∷◌, map}
use Rattle.hw_model.specs.Design.{Op, Module, Design}
use Rattle.hw_model.specs.Flat.{depth}
use Rattle.inline_pass.specs.Flattening.{flat_body}

-- the modules of a design that are not private, in order
abbrev pub public_modules : Design → Design
public_modules [] = []
public_modules (m ∷ d) = cond m.is_private (public_modules d) (m ∷ public_modules d)

-- what stays of the flat body of a module: all of it, or nothing where the module is private
abbrev pub kept_body : Design → Module → List Op
kept_body d m = cond m.is_private [] (flat_body (depth d) d m.body)

-- a flat design in which private modules have empty bodies
abbrev pub emptied_design : Design → Design
emptied_design d = map (λ (m : Module). record m { body = kept_body d m }) d
