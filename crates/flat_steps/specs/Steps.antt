-- A step of a flat body over its tables of words.
use Rattle.std.specs.Prelude.{◌≡◌, ℕ, ◌≤◌, List, map, length, Option, Some, None, slice_get}
use Rattle.bits_core.specs.Word.{Word, zeros}
use Rattle.hw_model.specs.Types.{width}
use Rattle.hw_model.specs.Design.{Port, Op, output_refs}
use Rattle.hw_model.specs.Flat.{register_in, async_reset_in}
use Rattle.hw_model.specs.Meaning.{next_value, rise_value}
use Rattle.flat_steps.specs.Tables.{cell, no_words, word_in, with_words, input_places, register_positions, settled_results}

-- what a register holds once its asynchronous reset has risen, from the words of the ports in the step before and in this one
abbrev pub risen_word : List Word → List Word → List Word → Option Op → Word → Word
risen_word before ports results None old = old
risen_word before ports results (Some o) old = rise_value (async_reset_in o) (word_in before results) (word_in ports results) old

-- what a register holds after a step
abbrev pub next_word : List Word → List Word → Option Op → Word → Word
next_word ports results None old = old
next_word ports results (Some o) old = next_value (register_in o) (word_in ports results) old

-- the same of the registers at positions
abbrev pub risen_words : List Op → List Word → List Word → List Word → List ℕ → List Word
risen_words os before ports results is = map (λ i. risen_word before ports results (slice_get os i) (cell results i)) is

abbrev pub next_words : List Op → List Word → List Word → List ℕ → List Word
next_words os ports results is = map (λ i. next_word ports results (slice_get os i) (cell results i)) is

-- the words of the ports with the inputs of a step
abbrev pub with_inputs : List Port → List Word → List Word → List Word
with_inputs ps inputs ports = with_words (input_places 0 ps) inputs ports

-- the results once asynchronous resets have risen: all registers take their words at once
abbrev pub risen_results : List Op → List Word → List Word → List Word → List Word
risen_results os before ports results = with_words (register_positions 0 os) (risen_words os before ports results (register_positions 0 os)) results

-- the results after the registers have loaded, all at once
abbrev pub loaded_results : List Op → List Word → List Word → List Word
loaded_results os ports results = with_words (register_positions 0 os) (next_words os ports results (register_positions 0 os)) results

-- the results of a step once its nets have settled, from the ports and the results of the step before
abbrev pub step_results : List Port → List Op → List ℕ → List Word → List Word → List Word → List Word
step_results ps os order inputs ports results =
    settled_results (with_inputs ps inputs ports) os order (risen_results os ports (with_inputs ps inputs ports) results)

-- the words of the outputs
abbrev pub output_words : List Op → List Word → List Word → List Word
output_words os ports results = map (word_in ports results) (output_refs os)

-- ---- before the first step

-- each port is of a word of 1 to 128 bits
abbrev pub HaveWords : List Port → Type 0
HaveWords ps = (j : ℕ) (p : Port) → slice_get ps j ≡ Some p → (1 ≤ width p.type) × (width p.type ≤ 128)

-- the words of the ports before the first step: all bits are 0
abbrev pub first_ports : List Port → List Word
first_ports ps = map (λ (p : Port). zeros (width p.type)) ps

-- the results before the first step, from the words that the registers hold, in their order
abbrev pub first_results : List Port → List Op → List ℕ → List Word → List Word
first_results ps os order content = settled_results (first_ports ps) os order (with_words (register_positions 0 os) content (no_words (length os)))
