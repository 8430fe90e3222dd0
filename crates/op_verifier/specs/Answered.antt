-- What is answered for a design.
use Rattle.std.specs.Prelude.{◌≡◌, ℕ, List, Some, slice_get}
use Rattle.diag.specs.declared.cause.Cause.{Cause}
use Rattle.opcode.specs.declared.listed.Listed.TheVariants as listed
use Rattle.diag.specs.declared.refusal.Refusal.{Refusal}
use Rattle.hw_model.specs.Design.{Design}
use Rattle.ir_store.specs.BodyOps.{BodyOp, op_at}
use Rattle.ir_store.specs.Designs.{StoredModule, modules_of}
use Rattle.design_cycles.specs.declared.op_site.OpSite.{OpSite}
use Rattle.op_verifier.specs.declared.accepted.Verified.{Verified}
use Rattle.op_verifier.specs.declared.verify_fail.VerifyFail.{VerifyFail}
use Rattle.op_verifier.specs.declared.verify_fail.VerifyFail.TheVariants.{Refused, NoMemory}
use Rattle.hw_model.specs.Opcodes.{opcode_of}
use Rattle.op_verifier.specs.Faults.{refused_at}
use Rattle.op_verifier.specs.Verdict.{IsRefusal}

-- the modules of a design that is verified
abbrev pub modules_verified : Verified → List StoredModule
modules_verified v = modules_of v.design

-- why a design is not taken: its first refusal, or out of memory
abbrev pub Explains : Design → VerifyFail → Type 0
Explains d (Refused r) = IsRefusal d r
Explains d NoMemory = Unit {0}

-- the refusal of the header of a module, of an operation
abbrev pub IsRefusedModule : List StoredModule → ℕ → Cause → Refusal → Type 0
IsRefusedModule modules n cause r = (m : StoredModule) → slice_get modules n ≡ Some m → r ≡ refused_at m.location listed.HwModule cause

abbrev pub IsRefusedOp : List StoredModule → OpSite → Cause → Refusal → Type 0
IsRefusedOp modules position cause r = (m : StoredModule) (o : BodyOp) → slice_get modules position.module ≡ Some m → op_at m.ops position.op.index ≡ Some o
    → r ≡ refused_at o.parts.location (opcode_of o.parts.kind) cause
