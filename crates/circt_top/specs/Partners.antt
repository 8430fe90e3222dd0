-- What passes keep of a design, for whoever uses its modules.
use Rattle.std.specs.Prelude.{◌≡◌, false, List, Some}
use Rattle.wiring.specs.Wiring.{In}
use Rattle.hw_model.specs.Design.{Module, Design, find_module}
use Rattle.hw_model.specs.Machine.{Same}
use Rattle.hw_model.specs.Meaning.{machine}
use Rattle.pass_pipeline.specs.declared.pass.Pass.{Pass}
use Rattle.pass_laws.specs.PassLaw.{ports_after}
use Rattle.pass_laws.specs.Remaining.{symbols, IsKept, AreThose}

-- a public module has its partner in what passes make of a design: the one of its own symbol there, of its ports or, where
-- aggregates are lowered, their leaves, which is public and does the same
pub record HasPartner (passes : List Pass) (d : Design) (m : Module) (e : Design) : Type 0 where
  pub partner : Module
  pub there : In partner e
  pub found : find_module e m.symbol ≡ Some partner
  pub symbol : partner.symbol ≡ m.symbol
  pub exposed : partner.is_private ≡ false
  pub ports : partner.ports ≡ ports_after passes m.ports
  pub behaves : Same (machine d m.symbol) (machine e m.symbol)

-- the modules of what they make are those that they keep, in order, and each public module of the design has its partner there
pub record HasPartners (passes : List Pass) (d e : Design) : Type 0 where
  pub order : AreThose (IsKept passes d) (symbols d) (symbols e)
  pub each : (m : Module) → In m d → m.is_private ≡ false → HasPartner passes d m e
