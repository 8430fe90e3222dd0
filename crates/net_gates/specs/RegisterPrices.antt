-- How many gates the registers of a module may take.
use Rattle.std.specs.Prelude.{ℕ, ◌+◌, ◌*◌, List, [], ◌∷◌, Option, Some, None}
use Rattle.hw_model.specs.Design.{Ref}
use Rattle.hw_model.specs.Flat.{Slot, Register, ResetBy, register_in, async_reset_in, held_width}

-- for the value of an asynchronous reset of so many bits
abbrev pub load_price : ℕ → Option ResetBy → ℕ
load_price w None = 0
load_price w (Some r) = w

-- for a choice by an enable
abbrev pub enable_price : ℕ → Option Ref → ℕ
enable_price w None = 0
enable_price w (Some e) = 3 * w

-- by a synchronous reset
abbrev pub reset_price : ℕ → Option ResetBy → ℕ
reset_price w None = 0
reset_price w (Some r) = 3 * w

-- by an asynchronous reset where there is one, else by a synchronous one
abbrev pub any_reset_price : ℕ → Option ResetBy → Option ResetBy → ℕ
any_reset_price w None r = reset_price w r
any_reset_price w (Some a) r = load_price w (Some a)

-- for a step of a register: 3w for the choice by its clock
abbrev pub next_price : ℕ → Option ResetBy → Option Register → ℕ
next_price w a None = 0
next_price w a (Some r) = enable_price w r.enable + (any_reset_price w a r.reset + 3 * w)

-- the price of what a register loads before the nets are built, by its asynchronous reset
abbrev pub load_cost : Slot → ℕ
load_cost s = load_price (held_width s.op) (async_reset_in s.op)

-- the price of a register's step, once the nets are built
abbrev pub next_cost : Slot → ℕ
next_cost s = next_price (held_width s.op) (async_reset_in s.op) (register_in s.op)

-- the price of all registers: of one of w bits 3w, with an asynchronous reset 5w; 3w more with an enable, and with a synchronous reset
abbrev pub registers_price : List Slot → ℕ
registers_price [] = 0
registers_price (s ∷ ss) = load_cost s + next_cost s + registers_price ss
