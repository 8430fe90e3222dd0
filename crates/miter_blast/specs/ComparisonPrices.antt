-- How many gates the formula of a comparison may take, by the types of values alone.
use Rattle.std.specs.Prelude.{ℕ, ◌+◌, ◌*◌, Bool, true, false, map, Option, Some, None}
use Rattle.wiring.specs.Lists.{total}
use Rattle.hw_model.specs.Types.{Name}
use Rattle.hw_model.specs.Kinds.{Reset}
use Rattle.hw_model.specs.Kinds.Reset.{no_reset, sync_reset}
use Rattle.hw_model.specs.Design.{Op, Module, Design, RegisterForm, register_form}
use Rattle.hw_model.specs.Flat.{Slot, has_async_reset, held_width, registers, state}
use Rattle.flat_module_laws.specs.FlatPrices.{module_price, output_bits}

-- ---- registers

-- for the enable of a register of so many bits
abbrev pub choice_price : Bool → ℕ → ℕ
choice_price true w = 3 * w
choice_price false w = 0

-- for its clock and its reset, which may be asynchronous
abbrev pub clock_price : Bool → Reset → ℕ → ℕ
clock_price true r w = 9 * w
clock_price false no_reset w = 3 * w
clock_price false sync_reset w = 6 * w

-- for a register of a form
abbrev pub form_price : Bool → ℕ → Option RegisterForm → ℕ
form_price is_async w None = 0
form_price is_async w (Some f) = choice_price f.has_enable w + clock_price is_async f.reset w

-- the price of a register of w bits: 3w, with an asynchronous reset 9w; 3w more with an enable, and with a synchronous
-- reset; 0 of another operation
abbrev pub register_price : Op → ℕ
register_price o = form_price (has_async_reset o.kind) (held_width o) (register_form o.kind)

-- the price of all registers of a module
abbrev pub registers_total : Design → Name → ℕ
registers_total d s = total (map (λ (r : Slot). register_price r.op) (registers d s))

-- ---- comparisons

-- the price of a flat copy: its operations' and its registers'
abbrev pub copy_price : Design → Name → Module → ℕ
copy_price d s m = module_price m + registers_total d s

-- the price of two: both, and 4 for each bit of an output or of content
abbrev pub comparison_price : Design → Name → Module → Design → Name → Module → ℕ
comparison_price d a m e b n = copy_price d a m + copy_price e b n + 4 * (output_bits m + state d a)
