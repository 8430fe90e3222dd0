-- The verdict on a design: its first refusal, in the order that is stated, or none.
use Rattle.std.specs.Prelude.{◌≡◌, false, is_some, ℕ, ℤ, pos, negsuc, ◌<◌, ◌-◌, ◌^◌, ◌⊎◌, [], Option, Some, None, slice_get}
use Rattle.diag.specs.declared.cause.Cause.TheVariants.{RecursiveInstance, TooLarge, CombinationalCycle}
use Rattle.diag.specs.declared.refusal.Refusal.{Refusal}
use Rattle.wiring.specs.Wiring.{Depends as IsReached}
use Rattle.hw_model.specs.Kinds.{Instance}
use Rattle.hw_model.specs.Design.{Op, Module, Design, instance_in}
use Rattle.hw_model.specs.Design.Ref.{result}
use Rattle.hw_model.specs.Hierarchy.{calls}
use Rattle.hw_model.specs.Weight.{weight}
use Rattle.hw_model.specs.Flat.{net}
use Rattle.hw_model.specs.Meaning.{Depends}
use Rattle.op_verifier.specs.Faults.{first_fault, header_refusal, op_refusal}

-- ---- positions in a design

-- module n of a design, and operation j of its body
pub record OpAt (d : Design) (n j : ℕ) (m : Module) (o : Op) : Type 0 where
  pub module_there : slice_get d n ≡ Some m
  pub op_there : slice_get m.body j ≡ Some o

-- an earlier location in the text: an earlier module, or an earlier operation of the same one
abbrev pub IsEarlier : ℕ → ℕ → ℕ → ℕ → Type 0
IsEarlier n' j' n j = (n' < n) ⊎ ((n' ≡ n) × (j' < j))

-- an operation that meets P, before which none does
pub record FirstOp (d : Design) (P : Module → ℕ → Op → Type 0) (n j : ℕ) (m : Module) (o : Op) : Type 0 where
  pub there : OpAt d n j m o
  pub meets : P m j o
  pub first : (n' j' : ℕ) (m' : Module) (o' : Op) → IsEarlier n' j' n j → OpAt d n' j' m' o' → P m' j' o' → ⊥

-- no operation meets P
abbrev pub NoOp : Design → (Module → ℕ → Op → Type 0) → Type 0
NoOp d P = (n j : ℕ) (m : Module) (o : Op) → OpAt d n j m o → P m j o → ⊥

-- a module that meets P, before which none does
pub record FirstModule (d : Design) (P : Module → Type 0) (n : ℕ) (m : Module) : Type 0 where
  pub there : slice_get d n ≡ Some m
  pub meets : P m
  pub first : (n' : ℕ) (m' : Module) → n' < n → slice_get d n' ≡ Some m' → P m' → ⊥

abbrev pub NoModule : Design → (Module → Type 0) → Type 0
NoModule d P = (n : ℕ) (m : Module) → slice_get d n ≡ Some m → P m → ⊥

-- ---- what is asked of the design as a whole

-- an instance on a cycle of modules: its module is the one that it stands in, or instances that one, perhaps through others
abbrev pub IsRecursive : Design → Module → ℕ → Op → Type 0
IsRecursive d m j o = (i : Instance) × (instance_in o.kind ≡ Some i) × ((i.symbol ≡ m.symbol) ⊎ IsReached (calls d) i.symbol m.symbol)

-- a module above the limit on weight
abbrev pub IsTooLarge : Design → Module → Type 0
IsTooLarge d m = 2 ^ 28 < weight d m.symbol

-- an operation with a result that depends on itself, without a register between, in its own module's flattening
abbrev pub IsOnCycle : Design → Module → ℕ → Op → Type 0
IsOnCycle d m j o = (k : ℕ) × Depends d m.symbol (net [] (result j k)) (net [] (result j k))

-- ---- the verdict

-- nothing is refused: no header and no operation, no instance that is recursive, no module that is too large, no operation
-- on a cycle
pub record IsAccepted (d : Design) : Type 0 where
  pub unrefused : is_some (first_fault d) ≡ false
  pub no_recursion : NoOp d (IsRecursive d)
  pub light : NoModule d (IsTooLarge d)
  pub no_cycle : NoOp d (IsOnCycle d)

-- the first refusal: of a header or an operation; else of the first recursive instance; else of the first module that is
-- too large; else of the first operation on a cycle
pub data IsRefusal (d : Design) : Refusal → Type 0 where
  unfit : (r : Refusal) → first_fault d ≡ Some r → IsRefusal d r
  recursive : (n j : ℕ) (m : Module) (o : Op) → first_fault d ≡ None → FirstOp d (IsRecursive d) n j m o → IsRefusal d (op_refusal o RecursiveInstance)
  too_large : (n : ℕ) (m : Module) → first_fault d ≡ None → NoOp d (IsRecursive d) → FirstModule d (IsTooLarge d) n m → IsRefusal d (header_refusal m TooLarge)
  cyclic : (n j : ℕ) (m : Module) (o : Op) → first_fault d ≡ None → NoOp d (IsRecursive d) → NoModule d (IsTooLarge d) → FirstOp d (IsOnCycle d) n j m o
      → IsRefusal d (op_refusal o CombinationalCycle)

-- the first refusal of a design, or none: then it is accepted
abbrev pub IsVerdict : Design → Option Refusal → Type 0
IsVerdict d None = IsAccepted d
IsVerdict d (Some r) = IsRefusal d r

-- an integer is one of a type of so many bits, as it may be written: from -2^(w - 1) to 2^w - 1
abbrev pub IsInRange : ℤ → ℕ → Type 0
IsInRange (pos n) w = n < 2 ^ w
IsInRange (negsuc n) w = n < 2 ^ (w - 1)
