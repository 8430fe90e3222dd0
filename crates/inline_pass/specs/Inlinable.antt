-- Bodies of modules in which instances of private modules are inlined (CIRCT, HW dialect: `hw-flatten-modules`).
use Rattle.std.specs.Prelude.{◌≡◌, ℕ, suc, List, [], ◌++◌, length, take, drop, Option, Some, None, slice_get}
use Rattle.hw_model.specs.Types.{Name}
use Rattle.hw_model.specs.Kinds.{Kind}
use Rattle.hw_model.specs.Kinds.Kind.{instance}
use Rattle.hw_model.specs.Design.{Op, Module, find_module}
use Rattle.ir_store.specs.declared.body.Body.{Body}
use Rattle.ir_store.specs.Bodies.{ids_of}
use Rattle.inline_laws.specs.Inline.{moved_count}
use Rattle.body_edits.specs.FitBodies.{IsOfFit}
use Rattle.body_edits.specs.Views.{body_ops}
use Rattle.inline_pass.specs.Flattening.{inlined_at}

-- the body is that of a module of a fit design, in which the modules that `look` gives for other symbols are found
pub record IsInlinable (b : Body) (look : Name → Option Module) : Type 0 where
  pub of : IsOfFit b
  pub found : (s : Name) (c : Module) → (s ≡ of.owner.symbol → ⊥) → look s ≡ Some c → find_module of.design s ≡ Some c

-- the instance o of the module c at position i of the body before is inlined in the body after
pub record IsInlinedAt (before after : Body) (i : ℕ) (o : Op) (c : Module) : Type 0 where
  pub ops : body_ops after ≡ inlined_at i o c (body_ops before)
  pub fresh : List ℕ
  pub many : length fresh ≡ moved_count c
  pub ids : ids_of after ≡ take i (ids_of before) ++ (fresh ++ drop (suc i) (ids_of before))

-- so is the operation at position i
abbrev pub AreInlined : Module → Body → Body → ℕ → Type 0
AreInlined c before after i = (o : Op) → slice_get (body_ops before) i ≡ Some o → IsInlinedAt before after i o c

-- where there is a module, it is inlined; else the body stays
abbrev pub IsStep : Body → Body → ℕ → Op → Option Module → Type 0
IsStep before after i o None = (body_ops after ≡ body_ops before) × (ids_of after ≡ ids_of before)
IsStep before after i o (Some c) = IsInlinedAt before after i o c

-- where `inner` gives a module for the operation at position i, it is inlined; else the body stays
abbrev pub IsStepAt : (Op → Option Module) → Body → Body → ℕ → Type 0
IsStepAt inner before after i = (o : Op) → slice_get (body_ops before) i ≡ Some o → IsStep before after i o (inner o)

-- the own name of an instance
abbrev pub own_name : Kind → Name
own_name (instance i) = i.name
own_name _ = []
