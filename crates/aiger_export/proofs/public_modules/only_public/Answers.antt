use Rattle.std.proofs.Common.{map, ap, ◌∙◌}
use Rattle.ir_store.specs.Designs.{numbered_module}
use Rattle.aiger_export.specs.PublicModules.{only_public}
use Rattle.aiger_export.proofs.public_modules.only_public.Goals as goal

pub returns : goal.returns
returns c = c.only_public_of.ensures ∙ ap (λ ms. only_public (map numbered_module ms)) c.design.ensures
