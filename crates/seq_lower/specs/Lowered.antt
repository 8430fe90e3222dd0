-- Registers without enables and synchronous resets, muxes deciding what they load (CIRCT, Seq dialect: `seq.compreg`,
-- `seq.compreg.ce`, `seq.firreg`; Comb dialect: `comb.mux`).
use Rattle.std.specs.Prelude.{◌≡◌, ℕ, zero, suc, cond, false, List, [], ◌∷◌, length, set, Option, Some, None, slice_get, option_and_then}
use Rattle.hw_model.specs.Kinds.{Kind, RegisterOp}
use Rattle.hw_model.specs.Kinds.RegisterOp.{compreg, compreg_ce, firreg}
use Rattle.hw_model.specs.Kinds.Reset.{no_reset}
use Rattle.hw_model.specs.Kinds.Kind.{mux, register}
use Rattle.hw_model.specs.Design.{Ref, Op}
use Rattle.hw_model.specs.Design.Ref.{result}
use Rattle.hw_model.specs.Flat.{Register, ResetBy, register_in, has_async_reset}
use Rattle.edit_laws.specs.Laws.{up_ref, insert_op}
use Rattle.pass_laws.specs.Steps.{StepsBy}

-- ---- registers

-- the register that an operation is, but for one with an asynchronous reset
abbrev pub clocked_register : Op → Option Register
clocked_register o = cond (has_async_reset o.kind) None (register_in o)

-- the form of a register without an enable: `seq.compreg` for `seq.compreg.ce`
abbrev pub plain_form : RegisterOp → RegisterOp
plain_form compreg = compreg
plain_form compreg_ce = compreg
plain_form firreg = firreg

-- the kind of a register without enable and reset
abbrev pub plain_kind : Kind → Kind
plain_kind (register f r) = register (plain_form f) no_reset
plain_kind kind = kind

-- a register that loads a value at each edge of its clock
abbrev pub plain_register : Op → Ref → Ref → Op
plain_register o next clock = record o { kind = plain_kind o.kind; operands = next ∷ clock ∷ [] }

-- the mux that gives one of two values of a register's type, at the position of the register in the source
abbrev pub mux_for : Op → Ref → Ref → Ref → Op
mux_for o condition high low = record {
  kind = mux;
  operands = condition ∷ high ∷ low ∷ [];
  types = o.types;
  results = o.results;
  named = 1;
  name = [];
  dictionary = [];
  bin = false;
  location = o.location;
}

-- ---- one register

-- the register o at position i, by its operands: with an enable a mux gives its next value or the one that it has, with a
-- reset a mux gives the reset value or what the first one gives
abbrev pub lowered_by : ℕ → Op → Ref → Ref → Option Ref → Option ResetBy → List Op → List Op
lowered_by i o next clock None None os = os
lowered_by i o next clock (Some enable) None os =
    set (insert_op i (mux_for o enable next (result i 0)) os) (suc i) (plain_register o (result i 0) (up_ref i clock))
lowered_by i o next clock None (Some reset) os =
    set (insert_op i (mux_for o reset.signal reset.value next) os) (suc i) (plain_register o (result i 0) (up_ref i clock))
lowered_by i o next clock (Some enable) (Some reset) os =
    set (insert_op (suc i) (mux_for o (up_ref i reset.signal) (up_ref i reset.value) (result i 0))
    (insert_op i (mux_for o enable next (result i 0)) os)) (suc (suc i)) (plain_register o (result (suc i) 0) (up_ref (suc i) (up_ref i clock)))

abbrev pub lowered_register : ℕ → Op → Option Register → List Op → List Op
lowered_register i o None os = os
lowered_register i o (Some r) os = lowered_by i o r.next r.clock r.enable r.reset os

abbrev pub lowered_op : ℕ → Option Op → List Op → List Op
lowered_op i None os = os
lowered_op i (Some o) os = lowered_register i o (clocked_register o) os

-- the operations with the register at position i lowered; the same ones where there is no enable and no synchronous reset
abbrev pub lowered_at : ℕ → List Op → List Op
lowered_at i os = lowered_op i (slice_get os i) os

-- ---- the whole body

-- the position after a register, once it is lowered, where this position stood after it
abbrev pub after_muxes : ℕ → Option Ref → Option ResetBy → ℕ
after_muxes i None None = i
after_muxes i (Some enable) None = suc i
after_muxes i None (Some reset) = suc i
after_muxes i (Some enable) (Some reset) = suc (suc i)

abbrev pub after_register : ℕ → Option Register → ℕ
after_register i None = i
after_register i (Some r) = after_muxes i r.enable r.reset

-- the position after the operation at position i, once that is lowered
abbrev pub next_position : ℕ → List Op → ℕ
next_position i os = after_register (suc i) (option_and_then clocked_register (slice_get os i))

-- so many operations from position i on lowered, in text order
abbrev pub lower_from : ℕ → ℕ → List Op → List Op
lower_from zero i os = os
lower_from (suc n) i os = lower_from n (next_position i os) (lowered_at i os)

-- all operations lowered
abbrev pub lowered : List Op → List Op
lowered os = lower_from (length os) 0 os

-- the second operations are the first ones lowered
abbrev pub IsLoweredOf : List Op → List Op → Type 0
IsLoweredOf before after = after ≡ lowered before

-- no register has an enable or a synchronous reset
abbrev pub HasNoEnables : List Op → Type 0
HasNoEnables os = (i : ℕ) (o : Op) (r : Register) → slice_get os i ≡ Some o → clocked_register o ≡ Some r → (r.enable ≡ None) × (r.reset ≡ None)

-- ---- single changes

-- one register is lowered
abbrev pub IsLowering : List Op → List Op → Type 0
IsLowering before after = (i : ℕ) × (after ≡ lowered_at i before)

-- so many are, one after another
abbrev pub LowersBy : ℕ → List Op → List Op → Type 0
LowersBy n before after = StepsBy IsLowering n before after

pub record Lowers (before after : List Op) : Type 0 where
  pub count : ℕ
  pub leads : LowersBy count before after
