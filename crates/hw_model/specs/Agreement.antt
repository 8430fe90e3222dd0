-- Modules that agree: on the same inputs and content they have the same outputs and leave the same content, where each
-- register whose asynchronous reset is 1 takes its value first (Brand, 1993: miters).
use Rattle.std.specs.Prelude.{◌≡◌, ℕ, length}
use Rattle.bits_core.specs.Word.{Word}
use Rattle.hw_model.specs.Types.{Name}
use Rattle.hw_model.specs.Design.{Design, find_module}
use Rattle.hw_model.specs.Flat.{Net, input_width, registers, state}
use Rattle.hw_model.specs.Meaning.{Settled, map_slots, next_content, outputs}
use Rattle.hw_model.specs.Sound.{ports_of}
use Rattle.hw_model.specs.Resets.{level_in}

-- how many bits the inputs of the module of a symbol have
abbrev pub input_bits : Design → Name → ℕ
input_bits d top = input_width (ports_of (find_module d top))

-- the content once each register whose asynchronous reset is 1 under the map has taken its value
abbrev pub levelled : Design → Name → (Net → Word) → Word → Word
levelled d top ρ content = map_slots (level_in ρ) (registers d top) content

-- a step by the levels of the resets: with the inputs, from the content, the module gives outputs and leaves a content
pub record LevelStep (d : Design) (top : Name) (inputs content given after : Word) : Type 0 where
  pub first_map : Net → Word
  pub map_of : Net → Word
  pub settled_first : Settled d top inputs content first_map
  pub settled : Settled d top inputs (levelled d top first_map content) map_of
  pub read : given ≡ outputs d top map_of
  pub taken : after ≡ next_content (registers d top) map_of (levelled d top first_map content)

-- the steps of two modules with the same inputs from the same content give the same outputs and leave the same content
abbrev pub AgreeAt : Design → Name → Design → Name → Word → Word → Type 0
AgreeAt d a e b inputs content =
    (given after given' after' : Word) → LevelStep d a inputs content given after → LevelStep e b inputs content given' after'
    → (given ≡ given') × (after ≡ after')

-- two modules agree: as many bits of inputs and of content, and the same steps for all inputs and content of so many bits
pub record Agree (d : Design) (a : Name) (e : Design) (b : Name) : Type 0 where
  pub inputs : input_bits d a ≡ input_bits e b
  pub held : state d a ≡ state e b
  pub steps : (x q : Word) → length x ≡ input_bits d a → length q ≡ state d a → AgreeAt d a e b x q
