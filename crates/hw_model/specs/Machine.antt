-- What a synchronous circuit does: the cycle reading of a design. A module of a design and a module of a Verilog text
-- both mean a machine, and two machines behave the same where every step and every run of one is one of the other.
use Rattle.std.specs.Prelude.{◌≡◌, ℕ, List, [], ◌∷◌, ◌↔◌}
use Rattle.bits_core.specs.Word.{Word}

-- a machine over nets of a type: the bits of content, which maps of nets are settled under inputs and content, the
-- outputs under a map, the next content under a map from the old one, and the content once asynchronous resets have
-- risen, under the map of the step before and that of this step, from the old one
pub record Machine (A : Type 0) : Type 1 where
  pub size : ℕ
  pub settled : Word → Word → (A → Word) → Type 0
  pub outputs : (A → Word) → Word
  pub next : (A → Word) → Word → Word
  pub rising : (A → Word) → (A → Word) → Word → Word

module _ {A : Type 0} where
  -- a step has two phases (CIRCT, Seq dialect: `seq.firreg` with `reset async`; IEEE 1364-2005, 9.7.2: event control).
  -- First all registers whose asynchronous reset rises between the inputs of the step before and those of this step take
  -- its value. Then all nets settle anew, the outputs are read, and every register takes its next value at once
  pub record Step (m : Machine A) (before inputs content outputs after : Word) : Type 0 where
    pub earlier : A → Word
    pub first_map : A → Word
    pub map_of : A → Word
    pub settled_earlier : m.settled before content earlier
    pub settled_first : m.settled inputs content first_map
    pub settled : m.settled inputs (m.rising earlier first_map content) map_of
    pub read : outputs ≡ m.outputs map_of
    pub taken : after ≡ m.next map_of (m.rising earlier first_map content)

  -- after a step with the inputs `before`: from a content, a list of inputs, one for each step, gives a list of outputs
  abbrev pub RunAfter : Machine A → Word → Word → List Word → List Word → Type 0
  RunAfter m before content [] [] = Unit {0}
  RunAfter m before content (s ∷ steps) (o ∷ outputs) = (after : Word) × Step m before s content o after × RunAfter m s after steps outputs
  RunAfter m before content [] (o ∷ outputs) = ⊥
  RunAfter m before content (s ∷ steps) [] = ⊥

  -- the same from the beginning: before the first step all inputs are 0
  abbrev pub Run : Machine A → Word → List Word → List Word → Type 0
  Run m content steps outputs = RunAfter m [] content steps outputs

  -- exactly one map is settled
  abbrev pub SettlesOnce : Machine A → Word → Word → Type 0
  SettlesOnce m inputs content =
      (ρ : A → Word) × m.settled inputs content ρ × ((σ : A → Word) → m.settled inputs content σ → (a : A) → σ a ≡ ρ a)

-- two machines have the same steps, with the same outputs and leaving the same content
unfoldable pub SameSteps : {A B : Type 0} → Machine A → Machine B → Type 0
SameSteps m n = (before inputs content outputs after : Word) → Step m before inputs content outputs after ↔ Step n before inputs content outputs after

-- two machines behave the same: as many bits of content, exactly one settled map of the second for all inputs and
-- content, the same steps and the same runs
pub record Same {A B : Type 0} (m : Machine A) (n : Machine B) : Type 0 where
  pub size : m.size ≡ n.size
  pub once : (inputs content : Word) → SettlesOnce n inputs content
  pub steps : SameSteps m n
  pub runs : (content : Word) (steps outputs : List Word) → Run m content steps outputs ↔ Run n content steps outputs

module _ {A B : Type 0} where
  -- `to` makes of a settled map of m one of n, with the same outputs and next content, and of two with the same risen
  -- content
  pub record Carries (m : Machine A) (n : Machine B) (to : (A → Word) → B → Word) : Type 0 where
    pub settled : (inputs content : Word) (ρ : A → Word) → m.settled inputs content ρ → n.settled inputs content (to ρ)
    pub outputs : (inputs content : Word) (ρ : A → Word) → m.settled inputs content ρ → n.outputs (to ρ) ≡ m.outputs ρ
    pub next : (inputs content : Word) (ρ : A → Word) → m.settled inputs content ρ → n.next (to ρ) content ≡ m.next ρ content
    pub rising : (before inputs content : Word) (ρ σ : A → Word) → m.settled before content ρ → m.settled inputs content σ
        → n.rising (to ρ) (to σ) content ≡ m.rising ρ σ content
