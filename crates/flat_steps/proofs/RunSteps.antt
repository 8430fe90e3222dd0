-- From the start, and step by step, the tables of a flat module hold what the module does.
use Rattle.std.proofs.Common.{◌≡◌, refl, sym, ap, ◌∙◌, ℕ, zero, suc, ◌+◌, false, not, List, [], ◌∷◌, map, filter, length, take, drop, slice_get, Some, arith}
use Rattle.std.proofs.Math.ListN.{length-replicate}
use Rattle.std.proofs.lemmas.List.{length-map, drop_all}
use Rattle.bits_core.specs.Word.{Word, first, zeros, flag}
use Rattle.bits_core.proofs.First.{first-nil}
use Rattle.hw_model.specs.Types.{Name, HwType, width}
use Rattle.hw_model.specs.Design.{Ref, Port, Module, Design, is_register}
use Rattle.hw_model.specs.Flat.{Net, net, held_width, input_width, state, registers}
use Rattle.hw_model.specs.Machine.{Step, RunAfter, Run}
use Rattle.hw_model.specs.Meaning.{Settled, next_content, next_in, rise_in, risen_content, machine}
use Rattle.hw_model.specs.Sound.{type_in, input_types, output_types}
use Rattle.hw_model.specs.Value.{concat_words}
use Rattle.hw_model.proofs.Finite.{settles_with_heights}
use Rattle.flat_module_laws.specs.Sides.{IsFlat}
use Rattle.flat_module_laws.proofs.FlatBodies.{flat_heights}
use Rattle.flat_steps.specs.Tables.{cell, word_in, no_words, with_words, input_places, register_positions, TableFits}
use Rattle.flat_steps.specs.Holds.{PortsHold, ResultsHold}
use Rattle.flat_steps.specs.Steps.{with_inputs, risen_results, step_results, first_ports, first_results}
use Rattle.flat_steps.specs.Runs.{TablesHold, AreInputs, left_results, step_outputs, run_outputs}
use Rattle.flat_steps.proofs.FittingTables.{operations_fit}
use Rattle.flat_steps.proofs.RunTables.{kept_places, words_long, placed}
use Rattle.flat_steps.proofs.RunPlaces.{is_input, port_width, inputs_are, input_width_is, input_widths_are, held_widths_are}
use Rattle.flat_steps.proofs.RunSettled.{settled_long, registers_given, registers_written, constants_stay, values_are, outputs_are, settled_registers, settled_constants, outputs_long}
use Rattle.flat_steps.proofs.RunRises.{risen_at, risen_gives, next_at, next_gives}

cell_map : {A : Type 0} (f : A → Word) (xs : List A) (j : ℕ) (x : A) → slice_get xs j ≡ Some x → cell (map f xs) j ≡ f x
cell_map f [] j x at = cc
cell_map f (y ∷ ys) zero x at = let same : y ≡ x = cc in ap f same
cell_map f (y ∷ ys) (suc j) x at = cell_map f ys j x at

-- before the first step all bits of the ports are 0
first_hold : (ps : List Port) → PortsHold ps (first_ports ps) []
first_hold ps j p at inward =
    cell_map (λ (q : Port). zeros (width q.type)) ps j p at
    ∙ sym (ap (first (width p.type)) (drop_all (input_width (take j ps)) [] (omega arith)) ∙ first-nil (width p.type))

-- the ports with the inputs of a step hold them
inputs_hold : (ps : List Port) (given ports : List Word) → map length given ≡ map width (input_types ps) → length ports ≡ length ps → PortsHold ps (with_inputs ps given ports) (concat_words given)
inputs_hold ps given ports size long j p at inward =
    let here : j ≡ 0 + j = omega arith in
    ap (λ (js : List ℕ). cell (with_words js given ports) j) (inputs_are 0 ps)
    ∙ ap (cell (with_words (kept_places is_input 0 ps) given ports)) here
    ∙ placed is_input port_width ps 0 given ports (size ∙ input_widths_are ps) (omega (arith, long)) j p at (ap not inward)
    ∙ ap (λ (n : ℕ). first (width p.type) (drop n (concat_words given))) (sym (input_width_is (take j ps)))

module _ (d : Design) (top : Name) (m : Module) (order : List ℕ) (flat : IsFlat d top m order) where
  -- ---- the start

  module _ (content : List Word) (size : map length content ≡ map held_width (filter is_register m.body)) where
    abbrev blank : List Word
    blank = with_words (register_positions 0 m.body) content (no_words (length m.body))

    blank_long : length blank ≡ length m.body
    blank_long = words_long (register_positions 0 m.body) content (no_words (length m.body)) ∙ length-replicate (length m.body) (flag false)

    blank_holds : ResultsHold (state d) m.body blank (concat_words content)
    blank_holds = registers_given d top m order flat content (no_words (length m.body)) (size ∙ held_widths_are m.body) (length-replicate (length m.body) (flag false))

    -- the operations may settle
    pub start_fits : TableFits (first_ports m.ports) m.body order blank
    start_fits = operations_fit d top m order flat [] (concat_words content) (first_ports m.ports) blank (first_hold m.ports) blank_holds blank_long

    pub tables_start : TablesHold d top m (first_ports m.ports) (first_results m.ports m.body order content) [] (concat_words content)
    tables_start = record {
      ports_hold = first_hold m.ports;
      registers_hold = settled_registers d top m order flat [] (concat_words content) (first_ports m.ports) blank (first_hold m.ports) blank_holds blank_long;
      constants_hold = settled_constants d top m order flat [] (concat_words content) (first_ports m.ports) blank (first_hold m.ports) blank_holds blank_long;
      ports_long = length-map m.ports (λ (p : Port). zeros (width p.type));
      results_long = settled_long (first_ports m.ports) m.body order blank ∙ blank_long;
    }

  -- ---- a step

  module _ (ports results : List Word) (before content : Word) (holds : TablesHold d top m ports results before content)
      (given : List Word) (size : map length given ≡ map width (input_types m.ports)) where
    abbrev taken : List Word
    taken = with_inputs m.ports given ports

    taken_hold : PortsHold m.ports taken (concat_words given)
    taken_hold = inputs_hold m.ports given ports size holds.ports_long

    abbrev Unique : Word → Word → Type 0
    Unique x q = (ρ : Net → Word) × Settled d top x q ρ × ((σ : Net → Word) → Settled d top x q σ → (n : Net) → σ n ≡ ρ n)

    earlier : Unique before content
    earlier = settles_with_heights d top (flat_heights d top m order flat) before content

    now : Unique (concat_words given) content
    now = settles_with_heights d top (flat_heights d top m order flat) (concat_words given) content

    abbrev risen : List Word
    risen = risen_results m.body ports taken results

    abbrev held_then : Word
    held_then = risen_content (registers d top) earlier.0 now.0 content

    risen_hold : ResultsHold (state d) m.body risen held_then
    risen_hold =
        registers_written d top m order flat (rise_in earlier.0 now.0)
        (risen_at d top m order flat before (concat_words given) content earlier.0 now.0 earlier.1 now.1 ports taken results holds.ports_hold taken_hold holds.registers_hold holds.constants_hold)
        content results
        (risen_gives d top m order flat before (concat_words given) content earlier.0 now.0 earlier.1 now.1 ports taken results holds.ports_hold taken_hold holds.registers_hold holds.constants_hold)
        holds.results_long

    risen_long : length risen ≡ length m.body
    risen_long = words_long (register_positions 0 m.body) _ results ∙ holds.results_long

    -- the operations may settle
    pub step_fits : TableFits taken m.body order risen
    step_fits = operations_fit d top m order flat (concat_words given) held_then taken risen taken_hold risen_hold risen_long

    -- the outputs are as wide as their ports
    pub step_outputs_long : map length (step_outputs m.ports m.body order given ports results) ≡ map width (output_types m.ports)
    step_outputs_long = outputs_long d top m order flat (concat_words given) held_then taken risen taken_hold risen_hold risen_long

    last : Unique (concat_words given) held_then
    last = settles_with_heights d top (flat_heights d top m order flat) (concat_words given) held_then

    abbrev settled_table : List Word
    settled_table = step_results m.ports m.body order given ports results

    settled_hold : ResultsHold (state d) m.body settled_table held_then
    settled_hold = settled_registers d top m order flat (concat_words given) held_then taken risen taken_hold risen_hold risen_long

    settled_words : (r : Ref) → (t : HwType) × (type_in m.ports m.body r ≡ Some t) → word_in taken settled_table r ≡ last.0 (net [] r)
    settled_words = values_are d top m order flat (concat_words given) held_then taken risen taken_hold risen_hold risen_long last.0 last.1

    abbrev left : Word
    left = next_content (registers d top) last.0 held_then

    step_made : Step (machine d top) before (concat_words given) content (concat_words (step_outputs m.ports m.body order given ports results)) left
    step_made = record {
      earlier = earlier.0;
      first_map = now.0;
      map_of = last.0;
      settled_earlier = earlier.1;
      settled_first = now.1;
      settled = last.1;
      read = outputs_are d top m order flat (concat_words given) held_then taken risen taken_hold risen_hold risen_long last.0 last.1;
      taken = refl;
    }

    left_hold : ResultsHold (state d) m.body (left_results m.ports m.body order given ports results) left
    left_hold =
        registers_written d top m order flat (next_in last.0) (next_at d top m order flat (concat_words given) held_then last.0 last.1 taken settled_table settled_words settled_hold) held_then settled_table
        (next_gives d top m order flat (concat_words given) held_then last.0 last.1 taken settled_table settled_words settled_hold)
        (settled_long taken m.body order risen ∙ risen_long)

    tables_left : TablesHold d top m taken (left_results m.ports m.body order given ports results) (concat_words given) left
    tables_left = record {
      ports_hold = taken_hold;
      registers_hold = left_hold;
      constants_hold =
          constants_stay d top m order flat _ settled_table
          (settled_constants d top m order flat (concat_words given) held_then taken risen taken_hold risen_hold risen_long);
      ports_long = words_long (input_places 0 m.ports) given ports ∙ holds.ports_long;
      results_long = words_long (register_positions 0 m.body) _ settled_table ∙ settled_long taken m.body order risen ∙ risen_long;
    }

    -- the tables make a step of the module, and hold what it leaves
    pub tables_step : (after : Word) × Step (machine d top) before (concat_words given) content (concat_words (step_outputs m.ports m.body order given ports results)) after
        × TablesHold d top m taken (left_results m.ports m.body order given ports results) (concat_words given) after
    tables_step = (left, step_made, tables_left)

  -- ---- a run

  run_after : (steps : List (List Word)) (ports results : List Word) (before content : Word) → TablesHold d top m ports results before content → AreInputs m.ports steps
      → RunAfter (machine d top) before content (map concat_words steps) (map concat_words (run_outputs m.ports m.body order steps ports results))
  run_after [] ports results before content holds sizes = tt
  run_after (given ∷ steps) ports results before content holds sizes =
      let one = tables_step ports results before content holds given sizes.0 in
      (one.0, one.1, run_after steps (with_inputs m.ports given ports) (left_results m.ports m.body order given ports results) (concat_words given) one.0 one.2 sizes.1)

  pub tables_run : (content : List Word) → map length content ≡ map held_width (filter is_register m.body) → (steps : List (List Word)) → AreInputs m.ports steps
      → Run (machine d top) (concat_words content) (map concat_words steps)
      (map concat_words (run_outputs m.ports m.body order steps (first_ports m.ports) (first_results m.ports m.body order content)))
  tables_run content size steps sizes = run_after steps (first_ports m.ports) (first_results m.ports m.body order content) [] (concat_words content) (tables_start content size) sizes
