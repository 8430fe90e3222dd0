-- How many gates a flat module may take whose registers load at every step, by the types of values alone.
use Rattle.std.specs.Prelude.{ℕ, ◌+◌, ◌*◌, List, map, Option, Some, None}
use Rattle.wiring.specs.Lists.{total}
use Rattle.hw_model.specs.Kinds.{Reset}
use Rattle.hw_model.specs.Kinds.Reset.{no_reset, sync_reset}
use Rattle.hw_model.specs.Design.{Port, Op, RegisterForm, register_form}
use Rattle.hw_model.specs.Flat.{held_width}
use Rattle.flat_module_laws.specs.FlatPrices.{op_price}
use Rattle.miter_blast.specs.ComparisonPrices.{choice_price}

-- for the reset of a register of so many bits
abbrev pub reset_price : Reset → ℕ → ℕ
reset_price no_reset w = 0
reset_price sync_reset w = 3 * w

-- for a register of a form, whose clock chooses nothing
abbrev pub load_price : ℕ → Option RegisterForm → ℕ
load_price w None = 0
load_price w (Some f) = choice_price f.has_enable w + reset_price f.reset w

-- for an operation of a body: a register of w bits 3w with an enable, and 3w with a reset
abbrev pub export_op_price : List Port → List Op → Op → ℕ
export_op_price ps os o = op_price ps os o + load_price (held_width o) (register_form o.kind)

-- for a body, operation by operation
abbrev pub export_price : List Port → List Op → ℕ
export_price ps os = total (map (export_op_price ps os) os)
