-- Edits of a module's body by which a design stays accepted and printable.
use Rattle.std.specs.Prelude.{◌≡◌, ◌⊎◌, ℕ, true, false, List, [], ◌∷◌, Option, Some, None, is_some, slice_get, ⊤}
use Rattle.wiring.specs.Wiring.{In}
use Rattle.hw_model.specs.Types.{Name}
use Rattle.hw_model.specs.Hierarchy.{calls}
use Rattle.design_cycles.specs.Asked.{HasDistinctSymbols}
use Rattle.hw_model.specs.Design.{Ref, Port, Op, Module, Design, find_module, instance_in, is_output_op}
use Rattle.hw_model.specs.Design.Ref.{port}
use Rattle.hw_model.specs.Flat.{ResetBy, async_reset_in}
use Rattle.op_verifier.specs.ResetChecks.{is_constant_ref}
use Rattle.op_verifier.specs.Faults.{first_fault}
use Rattle.op_verifier.specs.OpChecks.{value_cause, alone_cause}
use Rattle.opcode.specs.declared.listed.Listed.TheVariants as listed
use Rattle.stored_form.specs.Dictionaries.{module_keys}
use Rattle.stored_form.specs.Bytes.{Each, AreBytes}
use Rattle.printing_laws.specs.Printable.{IsPrintableOp, IsPrintablePort, EndsWithOutput}
use Rattle.stored_form.specs.Dictionaries.{IsKeptDictionary}
use Rattle.edit_laws.specs.Follows.{ValidEdit, Valid}
use Rattle.acceptance_laws.specs.Asked.{operand_in, operands_in, AllowsMore, AllowMore}

-- ---- operations of a new body

-- the operation of the new body is one of the old body with other operands, of which no more is refused; ports stay
pub record IsMoved (ports : List Port) (os os' : List Op) (o : Op) : Type 0 where
  pub was : Op
  pub was_there : In was os
  pub same : o ≡ record was { operands = o.operands }
  pub operands : AllowMore (operands_in ports os was.operands) (operands_in ports os' o.operands)
  pub ports_stay : (n j : ℕ) → slice_get was.operands n ≡ Some (port j) → slice_get o.operands n ≡ Some (port j)

-- the operation is not refused in the body by itself, and can be printed in it
pub record IsFitting (ports : List Port) (os : List Op) (o : Op) : Type 0 where
  pub values : value_cause ports os o ≡ None
  pub alone : alone_cause ports os o ≡ None
  pub printable : IsPrintableOp ports os o

-- a register of the old body has this asynchronous reset, but for its value, which is a constant of the new body
pub record ResetStays (os os' : List Op) (r : ResetBy) : Type 0 where
  pub was : Op
  pub was_there : In was os
  pub reset : ResetBy
  pub has_reset : async_reset_in was ≡ Some reset
  pub signal : reset.signal ≡ r.signal
  pub constant : is_constant_ref os' r.value ≡ true

-- the operation fits the new body, is no instance and no output, and if it is a register with an asynchronous reset, that
-- reset stays
pub record IsPlainFitting (ports : List Port) (os os' : List Op) (o : Op) : Type 0 where
  pub no_instance : instance_in o.kind ≡ None
  pub no_output : is_output_op o ≡ false
  pub fits : IsFitting ports os' o
  pub reset : (r : ResetBy) → async_reset_in o ≡ Some r → ResetStays os os' r

-- ---- bodies, modules, designs

-- each operation of the new body is one of the old body, or fits; the output stays the last
pub record KeepsBody (ports : List Port) (os os' : List Op) : Type 0 where
  pub each : (j : ℕ) (o : Op) → slice_get os' j ≡ Some o → IsMoved ports os os' o ⊎ IsPlainFitting ports os os' o
  pub ends : EndsWithOutput os → EndsWithOutput os'

-- the module has the header of the old one, and a body that keeps that one's
pub record KeepsModule (m n : Module) : Type 0 where
  pub symbol_is : n.symbol ≡ m.symbol
  pub ports_are : n.ports ≡ m.ports
  pub dictionary_is : n.dictionary ≡ m.dictionary
  pub body : KeepsBody m.ports m.body n.body

-- each module of the design keeps the one at its position
abbrev pub KeepsModules : Design → Design → Type 0
KeepsModules [] [] = ⊤
KeepsModules (m ∷ d) (n ∷ e) = KeepsModule m n × KeepsModules d e
KeepsModules [] (n ∷ e) = ⊥
KeepsModules (m ∷ d) [] = ⊥

-- the module keeps the one that is found
pub record KeepsFound (found : Option Module) (n : Module) : Type 0 where
  pub was : Module
  pub is_found : found ≡ Some was
  pub keeps : KeepsModule was n

-- no two modules of the design e have one symbol, each keeps the one of its symbol in d, and the modules that those
-- instance are there
pub record KeepsDesign (d e : Design) : Type 0 where
  pub distinct : HasDistinctSymbols e
  pub modules : (s : Name) (n : Module) → find_module e s ≡ Some n → KeepsFound (find_module d s) n
  pub called : (s t : Name) → is_some (find_module e s) ≡ true → In t (calls d s) → is_some (find_module d t) ≡ true
      → is_some (find_module e t) ≡ true

-- ---- fit designs

-- a module that can be printed, but for how many names its values take
pub record IsPrintableBody (m : Module) : Type 0 where
  pub symbol : AreBytes m.symbol
  pub ports : Each IsPrintablePort m.ports
  pub dictionary : IsKeptDictionary listed.HwModule module_keys m.dictionary
  pub operations : Each (IsPrintableOp m.ports m.body) m.body
  pub ends : EndsWithOutput m.body

-- a design that is accepted but for its weights: nothing is refused of its headers and operations, it is valid, and its
-- modules can be printed, but for how many names they take
pub record IsFit (d : Design) : Type 0 where
  pub unrefused : first_fault d ≡ None
  pub valid : Valid d
  pub printable : Each IsPrintableBody d

-- ---- edits

-- by an edit of a module that keeps a design valid no more is refused of what stands for an operand; what is new fits,
-- and the output stays the last
pub record KeepsAsked (m : Module) (os : List Op) (edit : ValidEdit (Some m) (Some (record m { body = os }))) : Type 0 where
  pub operands : (j : ℕ) (o : Op) (r : Ref) → slice_get m.body j ≡ Some o → In r o.operands
      → AllowsMore (operand_in m.ports m.body r) (operand_in m.ports os (edit.edited.edit.stand r))
  pub fresh : (j : ℕ) (o : Op) → edit.falls.home j ≡ None → slice_get os j ≡ Some o → IsFitting m.ports os o
  pub ends : EndsWithOutput m.body → EndsWithOutput os
