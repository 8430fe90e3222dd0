-- Texts of what passes make of designs, and what `opt` does with a text: such a text of the design that it says.
use Rattle.std.specs.Prelude.{◌≡◌, ℕ, ◌≤◌, List, length, Ok}
use Rattle.wiring.specs.Wiring.{In}
use Rattle.hw_model.specs.Design.{Module, Design, IsSameDesign}
use Rattle.hw_model.specs.Machine.{Same}
use Rattle.hw_model.specs.Meaning.{machine}
use Rattle.mlir_reader.specs.Reading.{text_limit, read}
use Rattle.mlir_reader.specs.Spelling.{Spells}
use Rattle.op_verifier.specs.Verdict.{IsAccepted}
use Rattle.mlir_printer.specs.Texts.{ir_text}
use Rattle.pass_pipeline.specs.declared.pass.Pass.{Pass}
use Rattle.pass_manager.specs.Results.{IsResult}
use Rattle.circt_top.specs.Accepting.{Accepted}
use Rattle.circt_top.specs.Partners.{HasPartners}

-- the text says the design again: by the grammar it spells one that differs in nothing but locations, of which nothing is refused, and each
-- module of which does the same; and that one is read of it, where it is not too long to be read
pub record IsSaidAgain (d : Design) (text : List ℕ) : Type 0 where
  pub again : Design
  pub spelled : Spells text again
  pub same : IsSameDesign d again
  pub accepted : IsAccepted again
  pub behaves : (m : Module) → In m d → Same (machine d m.symbol) (machine again m.symbol)
  pub read_again : length text ≤ text_limit → read text ≡ Ok again

-- the text is the design printed, as passes make it: this is what they make of the design, each public module of which has its
-- partner there, and the text says that again
pub record IsReprintOf (passes : List Pass) (design : Design) (text : List ℕ) : Type 0 where
  pub made : Design
  pub result : IsResult passes design made
  pub partners : HasPartners passes design made
  pub said_again : IsSaidAgain made text
  -- each public module of the design has its partner in what the text says
  pub partners_again : HasPartners passes design said_again.again
  -- the text is laid out as `ir_text` says
  pub laid_out : text ≡ ir_text made

-- the text is the input's design printed, as passes make it: the input is accepted
pub record IsReprint (passes : List Pass) (bytes text : List ℕ) : Type 0 where
  pub design : Design
  pub accepted : Accepted bytes design
  pub reprinted : IsReprintOf passes design text
