use Rattle.std.proofs.Common.{take}
use Rattle.ir_store.specs.Designs.{design_of}
use Rattle.stored_form.specs.Bytes.{Each}
use Rattle.stored_form.specs.Canonical.{IsCanonicalModule}
use Rattle.stored_form.proofs.modules.is_canonical.Given as goal

abbrev pub invariant-loop-number : goal.invariant-loop-number
invariant-loop-number l = Each IsCanonicalModule (take l.number (design_of l.design))
