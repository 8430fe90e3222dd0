-- Designs that follow from one another: valid ones, each module doing what it did.
use Rattle.std.specs.Prelude.{◌≡◌, ℕ, List, Option, Some, None, slice_get}
use Rattle.wiring.specs.Wiring.{In}
use Rattle.bits_core.specs.Word.{Word}
use Rattle.hw_model.specs.Types.{Name}
use Rattle.hw_model.specs.Design.{Ref, Port, Op, Module, Design}
use Rattle.hw_model.specs.Design.Ref.{result}
use Rattle.hw_model.specs.Machine.{Same}
use Rattle.hw_model.specs.Hierarchy.{HasNoRecursion}
use Rattle.hw_model.specs.Meaning.{HasHeights, machine}
use Rattle.hw_model.specs.Sound.{HasWidth, body_of, ports_of, type_in, OpFits, Sound}
use Rattle.edit_laws.specs.Edit.{Edit, EditedModule, Holds, word_of}
use Rattle.edit_laws.specs.Falls.{Falls}

-- each value has as many bits as its type
abbrev pub Wide : List Port → List Op → (Ref → Word) → Type 0
Wide ports os τ = (r : Ref) → HasWidth (type_in ports os r) (τ r)

-- the edit keeps types: what stands for an operand has its type, and what is new fits; `home` as in `Falls`
pub record KeepsTypes (ports : List Port) (os os' : List Op) (e : Edit os os') (home : ℕ → Option ℕ) : Type 0 where
  pub named : (j : ℕ) (o : Op) (r : Ref) → slice_get os j ≡ Some o → In r o.operands → type_in ports os' (e.stand r) ≡ type_in ports os r
  pub fresh : (j' : ℕ) (o : Op) → home j' ≡ None → slice_get os' j' ≡ Some o → OpFits (type_in ports os') o

-- an edit of a module that keeps a design valid
pub record ValidEdit (old new : Option Module) : Type 0 where
  pub edited : EditedModule old new
  pub falls : Falls (body_of old) (body_of new) edited.edit
  pub types : KeepsTypes (ports_of old) (body_of old) (body_of new) edited.edit falls.home

-- an edit of a module that keeps what it does too: what is changed or gone has, by the old body, the word of what stands
-- for it
pub record SameEdit (old new : Option Module) : Type 0 where
  pub valid : ValidEdit old new
  pub words : (τ : Ref → Word) → Holds (body_of new) τ → Wide (ports_of new) (body_of new) τ → (j k : ℕ) → valid.edited.edit.position j ≡ None
      → word_of (λ r. τ (valid.edited.edit.stand r)) k (slice_get (body_of old) j) ≡ Some (τ (valid.edited.edit.stand (result j k)))

-- ---- designs

-- a valid design: its types fit, no module is within itself, and in no module a value needs itself
pub record Valid (d : Design) : Type 0 where
  pub sound : Sound d
  pub finite : HasNoRecursion d
  pub heights : (top : Name) → HasHeights d top

-- a valid design in which the module of each symbol does what it did
pub record Follows (d e : Design) : Type 0 where
  pub valid : Valid e
  pub same : (top : Name) → Same (machine d top) (machine e top)
