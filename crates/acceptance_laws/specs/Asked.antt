-- What is asked of the operands of an operation in its body, and why the operation is refused, told by that (CIRCT:
-- operation references of the HW, Comb and Seq dialects; MLIR language reference: SSA values in graph regions).
use Rattle.std.specs.Prelude.{◌≡◌, ℕ, zero, suc, Bool, true, false, cond, not, ◌&&◌, ◌||◌, List, [], ◌∷◌, map, take, length, Option, Some, None, is_some, slice_get, ⊤, option_map}
use Rattle.diag.specs.declared.cause.Cause.{Cause}
use Rattle.diag.specs.declared.cause.Cause.TheVariants.{Redefined, Undefined, OutputMismatch, MissingOutput, UnknownModule, InstancePorts, AsyncReset}
use Rattle.hw_model.specs.Types.{HwType}
use Rattle.hw_model.specs.Kinds.{Kind, Instance}
use Rattle.hw_model.specs.Design.{Ref, Port, OpResult, Op, Module, Design, instance_in, is_output_op, callee}
use Rattle.hw_model.specs.Flat.{has_async_reset, input_count}
use Rattle.hw_model.specs.Sound.{type_in}
use Rattle.port_checks.specs.InstanceChecks.{names_ports}
use Rattle.port_checks.specs.ResetPorts.{is_reset_port}
use Rattle.op_verifier.specs.Answers.{when, or_else}
use Rattle.op_verifier.specs.OpChecks.{has_again, settled_type, is_nonzero_ref, has_other_outputs}
use Rattle.op_checks.specs.OwnChecks.{own_cause}
use Rattle.op_verifier.specs.ResetChecks.{is_input_port, is_constant_ref}

-- ---- what is asked of a value

-- whether it is a value of the body, the type that its own operation settles, whether it is the result of a nonzero
-- hw.constant, of a constant, and whether it is an input port
pub record Operand : Type 0 where
  pub defined : Bool
  pub type : Option HwType
  pub known : Bool
  pub constant : Bool
  pub input : Bool

-- what is asked of a value of a body of a module with these ports
abbrev pub operand_in : List Port → List Op → Ref → Operand
operand_in ports os r = record {
  defined = is_some (type_in ports os r);
  type = settled_type ports os r;
  known = is_nonzero_ref os (Some r);
  constant = is_constant_ref os r;
  input = is_input_port ports r;
}

-- what is asked of each operand of an operation, in the body of a module with these ports
abbrev pub operands_in : List Port → List Op → List Ref → List Operand
operands_in ports os rs = map (operand_in ports os) rs

-- ---- what stands around an operation

-- the module that an instance names: its ports, and which of them are reset ports
pub record CalledModule : Type 0 where
  pub ports : List Port
  pub is_reset : ℕ → Bool

-- the ports of the operation's own module, whether it stands last in its body, and the module that it instances
pub record Around : Type 0 where
  pub ports : List Port
  pub last : Bool
  pub called : Option CalledModule

-- a module of a design as the one that an instance names
abbrev pub called_as : Design → Module → CalledModule
called_as d c = record { ports = c.ports; is_reset = is_reset_port d c }

-- what stands around an operation of a module with these ports
abbrev pub around : Design → List Port → Bool → Op → Around
around d ports last o = record { ports = ports; last = last; called = option_map (called_as d) (callee d o) }

-- ---- the causes

-- whether some operand is no value of the body
abbrev pub some_undefined : List Operand → Bool
some_undefined [] = false
some_undefined (a ∷ xs) = cond a.defined (some_undefined xs) true

-- whether the second operand is the result of a nonzero constant
abbrev pub second_known : List Operand → Bool
second_known (a ∷ b ∷ xs) = b.known
second_known _ = false

-- whether the reset of a register's operands (data, clock, reset, value) is no input port or its value no constant
abbrev pub reset_refused : List Operand → Bool
reset_refused (next ∷ tick ∷ signal ∷ value ∷ []) = not (signal.input && value.constant)
reset_refused _ = false

-- whether an asynchronous reset is refused
abbrev pub async_refused : Kind → List Operand → Bool
async_refused kind xs = cond (has_async_reset kind) (reset_refused xs) false

-- what is joined to a port, of an instance's operands from a number on
abbrev pub operand_at : Option Port → List Operand → ℕ → Option Operand
operand_at None xs k = None
operand_at (Some p) xs k = cond p.is_output None (slice_get xs k)

-- whether it is there and no input port
abbrev pub is_other : Option Operand → Bool
is_other None = false
is_other (Some a) = not a.input

-- whether one of the first n ports of an instance's module is a reset port to which another value than an input port is
-- joined
abbrev pub join_refused : (ℕ → Bool) → List Port → List Operand → ℕ → Bool
join_refused is_reset ports xs zero = false
join_refused is_reset ports xs (suc n) =
    join_refused is_reset ports xs n || (is_reset n && is_other (operand_at (slice_get ports n) xs (input_count (take n ports))))

-- whether an instance does so at some port
abbrev pub call_refused : Option CalledModule → List Operand → Bool
call_refused None xs = false
call_refused (Some c) xs = join_refused c.is_reset c.ports xs (length c.ports)

-- why an instance is refused by the module that it names
abbrev pub called_cause : List HwType → Option Instance → Option CalledModule → Option Cause
called_cause ts None called = None
called_cause ts (Some i) None = Some UnknownModule
called_cause ts (Some i) (Some c) = when (not (names_ports i ts c.ports)) InstancePorts

-- why an operation is refused, told by what is asked of its operands and by what stands around it; of the operation itself
-- its operands are not looked at
abbrev pub cause_of : Op → List Operand → Around → Option Cause
cause_of o xs a =
    or_else (or_else (when (has_again o.results) Redefined) (when (some_undefined xs) Undefined))
    (or_else (own_cause o.kind o.types (map (λ (r : OpResult). r.type) o.results) o.named (map (λ (x : Operand). x.type) xs) (second_known xs))
    (or_else
    (or_else (when (has_other_outputs a.ports o) OutputMismatch)
    (or_else (called_cause o.types (instance_in o.kind) a.called)
    (when (is_output_op o && not a.last) MissingOutput)))
    (when (async_refused o.kind xs || call_refused a.called xs) AsyncReset)))

-- ---- what no more is refused of

-- no more is refused of b than of a: it has the same type, and is all that a is
pub record AllowsMore (a b : Operand) : Type 0 where
  pub type : b.type ≡ a.type
  pub defined : a.defined ≡ true → b.defined ≡ true
  pub known : a.known ≡ true → b.known ≡ true
  pub constant : a.constant ≡ true → b.constant ≡ true
  pub input : a.input ≡ true → b.input ≡ true

-- of two lists of operands, no more is refused of each of the second than of the one at its position in the first
abbrev pub AllowMore : List Operand → List Operand → Type 0
AllowMore [] [] = ⊤
AllowMore (a ∷ xs) (b ∷ ys) = AllowsMore a b × AllowMore xs ys
AllowMore [] (b ∷ ys) = ⊥
AllowMore (a ∷ xs) [] = ⊥

-- the module that an instance names has the same ports, and no more reset ports
abbrev pub CallsMore : Option CalledModule → Option CalledModule → Type 0
CallsMore None None = ⊤
CallsMore (Some c) (Some e) = (e.ports ≡ c.ports) × ((n : ℕ) → e.is_reset n ≡ true → c.is_reset n ≡ true)
CallsMore None (Some e) = ⊥
CallsMore (Some c) None = ⊥

-- no more is refused of an operation with b around it than with a: an output stands last where it did
pub record AllowsMoreAround (o : Op) (a b : Around) : Type 0 where
  pub ports : b.ports ≡ a.ports
  pub last : is_output_op o ≡ true → a.last ≡ true → b.last ≡ true
  pub called : CallsMore a.called b.called
