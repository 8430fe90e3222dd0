-- Modules and their parts in code beside what their texts say, and designs of which modules are read.
use Rattle.std.specs.Prelude.{◌≡◌, List, ◌++◌, length, Result, Ok, Err}
use Rattle.diag.specs.declared.refusal.Refusal.{Refusal}
use Rattle.diag.specs.declared.refusal.OpName.TheVariants as op
use Rattle.mlir_lexer.specs.declared.token.TokenKind.TheVariants as kind
use Rattle.hw_model.specs.Design as hw
use Rattle.ir_store.specs.Designs as store
use Rattle.ir_store.specs.DictionaryViews.{entries_in}
use Rattle.ir_store.specs.declared.design.Design.{Design}
use Rattle.mlir_syntax.specs.Stream.{is_next}
use Rattle.mlir_syntax.specs.Reads.{Read, Reads, on, want}
use Rattle.mlir_operations.specs.ModuleText as text
use Rattle.mlir_reader.specs.Resolving as resolving
use Rattle.mlir_reader.specs.Resolving.{Meanings, no_meaning, ports_from, has_outputs, ends_with_output}
use Rattle.mlir_operations.specs.OperationText.{OperationText}
use Rattle.mlir_reader.specs.Drafts.{IsBody}
use Rattle.ir_store.specs.declared.design.Module.{Module}
use Rattle.mlir_reader.specs.declared.body_text.Operations.{Operations}
use Rattle.mlir_reader.specs.declared.resolving.ModuleHead.{ModuleHead}
use Rattle.mlir_syntax.specs.declared.fail.ReadFail.{ReadFail}
use Rattle.mlir_syntax.specs.declared.fail.ReadFail.TheVariants.{Refused, NoMemory}
use Rattle.mlir_reader.specs.declared.body_text.BodyText.{BodyText}

-- operations are those of these texts, where names stood for this before them
pub record AreOperations (seen : Meanings) (os : List OperationText) (x : Operations) : Type 0 where
  pub body : IsBody seen os x.body
  pub ends : x.ends ≡ ends_with_output os

-- what stands after the ports of a module is that of this text
pub record IsBodyText (seen : Meanings) (t : text.BodyText) (b : BodyText) : Type 0 where
  pub dictionary : entries_in b.dictionary ≡ t.dictionary
  pub operations : AreOperations seen t.operations b.operations
  pub close : b.close ≡ t.close

-- what stands before the operations of a module is that of this text
pub record IsHead (t : text.ModuleText) (h : ModuleHead) : Type 0 where
  pub symbol : h.symbol ≡ t.symbol
  pub private : h.private ≡ t.is_private
  pub ports : store.ports_in h.ports ≡ ports_from no_meaning 0 t.ports
  pub outputs : h.outputs ≡ has_outputs t.ports
  pub location : h.location ≡ t.location

-- what stands after the ports of a module's text
abbrev pub body_in : text.ModuleText → text.BodyText
body_in t = record { dictionary = t.dictionary; operations = t.operations; close = t.close }

-- a module is that of this text
abbrev pub IsModule : text.ModuleText → Module → Type 0
IsModule t m = store.numbered_module (store.module_of m) ≡ resolving.module_of t

-- the design of modules after those of another
abbrev pub designs_after : hw.Design → Read (List text.ModuleText) → Read hw.Design
designs_after prefix read = on read (λ ms left. Ok (prefix ++ resolving.design_of ms, left))

-- `}` and the end of the text
unfoldable pub closing_text : Reads (Unit {0})
closing_text s = on (want op.File kind.RightBrace s) (λ _ left. text.want_end tt left)

-- modules, `}` and the end of the text
unfoldable pub braced_text : Reads (List text.ModuleText)
braced_text s =
    on (text.modules_text (is_next kind.RightBrace) (length s) s) (λ ms s4. on (want op.File kind.RightBrace s4) (λ _ s5. text.want_end ms s5))

-- an answer is the design that is read, or the refusal; out of memory is free
abbrev pub ReadsDesign : Result Design ReadFail → Result hw.Design Refusal → Type 0
ReadsDesign (Ok d) read = read ≡ Ok (store.design_of d)
ReadsDesign (Err (Refused r)) read = read ≡ Err r
ReadsDesign (Err NoMemory) read = Unit {0}
