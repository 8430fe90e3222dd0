-- What a Verilog text says of the source that it is made of, as one fact (IEEE 1364-2005, 12.1: modules and their ports).
use Rattle.std.specs.Prelude.{◌≡◌, ℕ, false, cond, List, [], ◌∷◌, map}
use Rattle.wiring.specs.Wiring.{In}
use Rattle.hw_model.specs.Types.{Name}
use Rattle.hw_model.specs.Design.{Port, Module, Design, same_name}
use Rattle.name_legalise.specs.Legal.{legal}
use Rattle.verilog_model.specs.Behaviour.{Shown, IsVerilog, IsPartner}
use Rattle.verilog_model.specs.Tree.{Tree}
use Rattle.export_verilog.specs.Behaviour.{shown_under}
use Rattle.pass_pipeline.specs.declared.pass.Pass.{Pass}
use Rattle.pass_laws.specs.PassLaw.{ports_after}
use Rattle.pass_laws.specs.Remaining.{symbols, IsKept, AreThose}

-- the name that stands where the symbol first stands in a list of symbols
abbrev pub name_beside : List Name → List Name → Name → Name
name_beside (s ∷ symbols) (n ∷ names) symbol = cond (same_name s symbol) n (name_beside symbols names symbol)
name_beside _ _ symbol = []

-- the legal name of one of these symbols, which are made legal one after another, in order
abbrev pub legal_name : List Name → Name → Name
legal_name symbols symbol = name_beside symbols (legal symbols) symbol

-- ports as Verilog shows them, their own names made legal one after another
abbrev pub ports_shown : List Port → List Shown
ports_shown ports = shown_under (legal (map (λ (p : Port). p.name) ports)) ports

-- the text is Verilog, and each public module of the source has its partner in it: the one of its legal name among the modules that
-- passes keep, in order, which shows the ports that they leave it, and has the same steps and the same runs from the same contents
pub record BehavesAsSource (passes : List Pass) (source : Design) (text : List ℕ) : Type 0 where
  pub tree : Tree
  pub is_verilog : IsVerilog text tree
  pub kept : List Name
  pub order : AreThose (IsKept passes source) (symbols source) kept
  pub partners : (m : Module) → In m source → m.is_private ≡ false → IsPartner source tree m (legal_name kept m.symbol) (ports_shown (ports_after passes m.ports))
