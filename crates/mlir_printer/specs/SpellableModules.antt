-- Operations, modules and texts that say what the grammar has: what each must have to be printed as it is.
use Rattle.std.specs.Prelude.{◌≡◌, ℕ, ◌<◌, true, List, [], ◌∷◌, map, Option, Some, None, ⊤}
use Rattle.hw_model.specs.Types.{Name}
use Rattle.mlir_lexer.specs.Tokens.{TextToken, tokens}
use Rattle.mlir_syntax.specs.Numerals.{count_limit}
use Rattle.mlir_operations.specs.OperandText.{ResultNames}
use Rattle.mlir_operations.specs.OperandText.ResultNames.{no_names, names, pack}
use Rattle.assembly_format.specs.Formats.{prefix_elements, type_elements}
use Rattle.mlir_operations.specs.ElementText.{Gathered, gathered_nothing}
use Rattle.mlir_operations.specs.OperationText.{is_last}
use Rattle.stored_form.specs.Dictionaries.{takes_bin, string_keys}
use Rattle.stored_form.specs.Dictionaries.{module_keys}
use Rattle.mlir_operations.specs.Spelling.{StandsInBody, FilePhrase, token_of}
use Rattle.assembly_format.specs.declared.elements.Format.{Format}
use Rattle.mlir_printer.specs.Elements.{Pending}
use Rattle.mlir_printer.specs.Operations.{OperationText, format_shown, left_after_all}
use Rattle.mlir_printer.specs.Modules.{PortText, ModuleText}
use Rattle.mlir_printer.specs.Spellable.{said_pending, inherent_view, IsValueName, IsDictionary, gathered_with_all, NeedAll}
use Rattle.stored_form.specs.Bytes.{Each, AreBytes}
use Rattle.stored_form.specs.Limits.{IsAnyType}

-- ---- operations

-- what is gathered before the types of a form
abbrev pub gathered_prefix : Format → Pending → Gathered
gathered_prefix s p = gathered_with_all (prefix_elements s) p gathered_nothing

-- what is said in a form
pub record IsViewAs (s : Format) (p : Pending) : Type 0 where
  -- the pieces before the types have what they need
  pub prefix : NeedAll (prefix_elements s) p gathered_nothing
  -- so have those of the types, of what is left after the prefix
  pub types : NeedAll (type_elements s) (left_after_all (prefix_elements s) p) (gathered_prefix s p)
  -- what is gathered with them is all that is said
  pub all : gathered_with_all (type_elements s) (left_after_all (prefix_elements s) p) (gathered_prefix s p) ≡ said_pending p

-- names of results, or a pack of fewer than its limit
abbrev pub AreResults : ResultNames → Type 0
AreResults no_names = ⊤
AreResults (names n ns) = Each IsValueName (n ∷ ns)
AreResults (pack n k) = IsValueName n × (k < count_limit)

-- an operation
pub record IsSpellableOperation (o : OperationText) : Type 0 where
  -- it is not the module itself
  pub stands : StandsInBody o.name
  -- its results have names that may stand
  pub results : AreResults o.results
  -- it has the mark `bin` only where that may stand
  pub bin : o.bin ≡ true → takes_bin o.name ≡ true
  -- its form says what there is to say
  pub form : IsViewAs (format_shown o.name o.pending) o.pending
  -- its dictionary can be read
  pub dictionary : IsDictionary (string_keys o.name) o.dictionary

-- operations one after another; an output is the last
abbrev pub AreSpellable : List OperationText → Type 0
AreSpellable [] = ⊤
AreSpellable (o ∷ os) = IsSpellableOperation o × (is_last o.name ≡ true → os ≡ []) × AreSpellable os

-- ---- modules

-- the value of a port has a name that may stand
abbrev pub MayBeValue : Option Name → Type 0
MayBeValue None = ⊤
MayBeValue (Some v) = IsValueName v

-- a port
pub record IsSpellablePort (p : PortText) : Type 0 where
  -- the value of an input has a name that may stand
  pub value : MayBeValue p.value
  -- a bare name or a string can hold its name
  pub name : AreBytes p.name
  -- its type can be read
  pub type : IsAnyType p.type

-- a module
pub record IsSpellable (m : ModuleText) : Type 0 where
  -- a symbol can hold its name
  pub symbol : AreBytes m.symbol
  -- each port can be read
  pub ports : Each IsSpellablePort m.ports
  -- its dictionary can be read
  pub dictionary : IsDictionary module_keys m.dictionary
  -- its operations can be read, and an output is the last
  pub operations : AreSpellable m.operations

-- ---- what bytes say

-- bytes are read as what modules say, wherever it stands
abbrev pub AreSpelled : List ℕ → List ModuleText → Type 0
AreSpelled bytes ms = (ts : List TextToken) × (tokens bytes ≡ map token_of ts) × FilePhrase (λ t slot. Unit {0}) (map inherent_view ms) ts
