-- Tables that hold the inputs and the content of a module.
use Rattle.std.specs.Prelude.{◌≡◌, ℕ, true, false, List, take, drop, Some, slice_get}
use Rattle.bits_core.specs.Word.{Word, first}
use Rattle.hw_model.specs.Types.{Name, width}
use Rattle.hw_model.specs.Design.{Port, Op, is_register}
use Rattle.hw_model.specs.Flat.{input_width, held_width, body_state}
use Rattle.flat_steps.specs.Tables.{cell}

-- each input port has its bits of the inputs
abbrev pub PortsHold : List Port → List Word → Word → Type 0
PortsHold ps ports inputs = (j : ℕ) (p : Port) → slice_get ps j ≡ Some p → p.is_output ≡ false → cell ports j ≡ first (width p.type) (drop (input_width (take j ps)) inputs)

-- each register has its bits of the content
abbrev pub ResultsHold : (Name → ℕ) → List Op → List Word → Word → Type 0
ResultsHold inner os results content =
    (i : ℕ) (o : Op) → slice_get os i ≡ Some o → is_register o ≡ true → cell results i ≡ first (held_width o) (drop (body_state inner (take i os)) content)
