-- The run of a flat module by tables of words.
use Rattle.std.proofs.Common.{◌≡◌, refl, sym, ap, ap₂, ◌∙◌, ℕ, List, [], ◌∷◌, ◌++◌, map, length, append_assoc, subst, Result, Ok, Err, IfOk}
use mathlib.Core.Path.{subst₂}
use Rattle.wiring.proofs.Members.{In-append_left, In-append_right, All-from_members}
use Rattle.std.specs.List.{All}
use Rattle.bits_core.specs.Word.{Word}
use Rattle.hw_model.specs.Types.{Name, width}
use Rattle.hw_model.specs.Design.{Port, Op, Module, Design}
use Rattle.hw_model.specs.Sound.{output_types}
use Rattle.hw_model.specs.Value.{concat_words}
use Rattle.flat_module_laws.specs.Sides.{IsPlain, IsFlat}
use Rattle.flat_steps.specs.Tables.{no_words, with_words, register_positions, TableFits}
use Rattle.flat_steps.specs.Steps.{with_inputs, risen_results, step_results, loaded_results, output_words, first_ports, first_results}
use Rattle.flat_steps.specs.Runs.{TablesHold, AreInputs, left_results, step_outputs, run_outputs}
use Rattle.flat_steps.proofs.RunSteps.{start_fits, tables_start, step_fits, step_outputs_long, tables_step, tables_run}
use Rattle.miter_blast.specs.Leaves.{held_widths, input_widths}
use Rattle.miter_blast.proofs.Differences.{same_alone}
use Rattle.miter_blast.proofs.LeafWords.{leaf_words}
use Rattle.step_file.specs.StepFile.{Steps, steps_of}
use Rattle.step_file.specs.declared.fail.StepFail.{StepFail}
use Rattle.step_file.specs.declared.step_file.Row.{Row}
use Rattle.step_file.specs.Answers.{IsWidth, IsFault, rows_in}
use Rattle.step_file.proofs.RowWidths.{AreWide, steps_wide}
use Rattle.cycle_sim.specs.RunLines.{words_line, words_lines}
use Rattle.cycle_sim.specs.FlatRuns.{StepsFit, CanRun, IsModuleRun, IsFlatSimulation, IsFlatFault}
use Rattle.cycle_sim.proofs.OutputLines.{lines_are}

-- ---- one step more

module _ (ps : List Port) (os : List Op) (order : List ℕ) (row : List Word) (rows : List (List Word)) (ports results now left : List Word)
    (taken : now ≡ with_inputs ps row ports) (loaded : left ≡ loaded_results os now (step_results ps os order row ports results)) where
  left_are : left ≡ left_results ps os order row ports results
  left_are = loaded ∙ ap (λ (qs : List Word). loaded_results os qs (step_results ps os order row ports results)) taken

  pub lines_more : (out : List Word) (text more : List ℕ) → out ≡ output_words os now (step_results ps os order row ports results) → more ≡ text ++ words_line out
      → more ++ words_lines (run_outputs ps os order rows now left) ≡ text ++ words_lines (run_outputs ps os order (row ∷ rows) ports results)
  lines_more out text more given added =
      let same : out ≡ step_outputs ps os order row ports results = given ∙ ap (λ (qs : List Word). output_words os qs (step_results ps os order row ports results)) taken in
      ap (λ (t : List ℕ). t ++ words_lines (run_outputs ps os order rows now left)) (added ∙ ap (λ (ws : List Word). text ++ words_line ws) same)
      ∙ ap₂ (λ (qs rs : List Word). (text ++ words_line (step_outputs ps os order row ports results)) ++ words_lines (run_outputs ps os order rows qs rs)) taken left_are
      ∙ append_assoc text (words_line (step_outputs ps os order row ports results))
      (words_lines (run_outputs ps os order rows (with_inputs ps row ports) (left_results ps os order row ports results)))

  pub fits_more : StepsFit ps os order (row ∷ rows) ports results → StepsFit ps os order rows now left
  fits_more fits = subst₂ (StepsFit ps os order rows) (sym taken) (sym left_are) fits.1

-- the same of rows as the code has them
module _ (ps : List Port) (os : List Op) (order : List ℕ) (rows : List Row) (row : Row) (others : List Row) (are : rows ≡ row ∷ others) (given : List Word) (words : given ≡ row.words.items)
    (ports results : List Word) where
  rows_are : rows_in rows ≡ given ∷ rows_in others
  rows_are = ap rows_in are ∙ ap (λ (ws : List Word). ws ∷ rows_in others) (sym words)

  all_fit : StepsFit ps os order (rows_in rows) ports results → StepsFit ps os order (given ∷ rows_in others) ports results
  all_fit fits = subst (λ (xs : List (List Word)). StepsFit ps os order xs ports results) rows_are fits

  pub row_fits : StepsFit ps os order (rows_in rows) ports results → TableFits (with_inputs ps given ports) os order (risen_results os ports (with_inputs ps given ports) results)
  row_fits fits = (all_fit fits).0

  module _ (now left : List Word) (taken : now ≡ with_inputs ps given ports) (loaded : left ≡ loaded_results os now (step_results ps os order given ports results)) where
    pub others_fit : StepsFit ps os order (rows_in rows) ports results → StepsFit ps os order (rows_in others) now left
    others_fit fits = fits_more ps os order given (rows_in others) ports results now left taken loaded (all_fit fits)

    pub lines_left : (out : List Word) (text more : List ℕ) → out ≡ output_words os now (step_results ps os order given ports results) → more ≡ text ++ words_line out
        → more ++ words_lines (run_outputs ps os order (rows_in others) now left) ≡ text ++ words_lines (run_outputs ps os order (rows_in rows) ports results)
    lines_left out text more gives added =
        lines_more ps os order given (rows_in others) ports results now left taken loaded out text more gives added
        ∙ ap (λ (xs : List (List Word)). text ++ words_lines (run_outputs ps os order xs ports results)) (sym rows_are)

-- ---- all steps

module _ (d : Design) (top : Name) (m : Module) (order : List ℕ) (flat : IsFlat d top m order) where
  steps_fit : (rows : List (List Word)) (ports results : List Word) (before content : Word) → TablesHold d top m ports results before content → AreInputs m.ports rows
      → StepsFit m.ports m.body order rows ports results
  steps_fit [] ports results before content holds sizes = tt
  steps_fit (row ∷ rows) ports results before content holds sizes =
      let next = tables_step d top m order flat ports results before content holds row sizes.0 in (
        step_fits d top m order flat ports results before content holds row sizes.0,
        steps_fit rows (with_inputs m.ports row ports) (left_results m.ports m.body order row ports results) (concat_words row) next.0 next.2 sizes.1,
      )

  outputs_wide : (rows : List (List Word)) (ports results : List Word) (before content : Word) → TablesHold d top m ports results before content → AreInputs m.ports rows
      → AreWide (map width (output_types m.ports)) (run_outputs m.ports m.body order rows ports results)
  outputs_wide [] ports results before content holds sizes = tt
  outputs_wide (row ∷ rows) ports results before content holds sizes =
      let next = tables_step d top m order flat ports results before content holds row sizes.0 in (
        step_outputs_long d top m order flat ports results before content holds row sizes.0,
        outputs_wide rows (with_inputs m.ports row ports) (left_results m.ports m.body order row ports results) (concat_words row) next.0 next.2 sizes.1,
      )

-- from the content that the module begins with
module _ (m : Module) (says : Steps) (can : CanRun m says) (order : List ℕ) (flat : IsFlat can.design can.top m order) where
  pub first_fits : TableFits (first_ports m.ports) m.body order (with_words (register_positions 0 m.body) says.content (no_words (length m.body)))
  first_fits = start_fits can.design can.top m order flat says.content can.content

  pub rows_fit : StepsFit m.ports m.body order says.rows (first_ports m.ports) (first_results m.ports m.body order says.content)
  rows_fit =
      steps_fit can.design can.top m order flat says.rows (first_ports m.ports) (first_results m.ports m.body order says.content) [] (concat_words says.content)
      (tables_start can.design can.top m order flat says.content can.content) can.rows

  -- the same of a plan and of slices of the order, the content and the rows
  module _ (ps : List Port) (os : List Op) (given : List ℕ) (content : List Word) (ports : ps ≡ m.ports) (body : os ≡ m.body) (positions : given ≡ order) (words : content ≡ says.content) where
    pub plan_fits : TableFits (first_ports ps) os given (with_words (register_positions 0 os) content (no_words (length os)))
    plan_fits = rw (ports, body, positions, words) first_fits

    module _ (rows : List (List Word)) (begun held : List Word) (are : rows ≡ says.rows) (first : begun ≡ first_ports ps) (results : held ≡ first_results ps os given content) where
      pub plan_rows_fit : StepsFit ps os given rows begun held
      plan_rows_fit = rw (results, first, are, ports, body, positions, words) rows_fit

      pub module_lines : {E : Type 0} (r : Result (List ℕ) E) → IfOk r (λ text. text ≡ words_lines (run_outputs ps os given rows begun held)) → IfOk r (IsModuleRun m says)
      module_lines (Ok text) is =
          let same : run_outputs ps os given rows begun held ≡ run_outputs m.ports m.body order says.rows (first_ports m.ports) (first_results m.ports m.body order says.content) =
          rw (results, first, are, ports, body, positions, words) refl in
          (order, flat.stands, is ∙ ap words_lines same)
      module_lines (Err x) is = tt

-- ---- what a step file says

inputs_are : (ps : List Port) (rows : List (List Word)) → AreWide (input_widths ps) rows → AreInputs ps rows
inputs_are ps [] wide = tt
inputs_are ps (row ∷ rows) wide = (wide.0, inputs_are ps rows wide.1)

module _ (d : Design) (top : Name) (m : Module) (plain : IsPlain d top m) where
  pub inputs_words : All IsWidth (input_widths m.ports)
  inputs_words = All-from_members IsWidth (input_widths m.ports) (λ w here. leaf_words d top m plain w (In-append_left w (input_widths m.ports) (held_widths m.body) here))

  pub registers_words : All IsWidth (held_widths m.body)
  registers_words = All-from_members IsWidth (held_widths m.body) (λ w here. leaf_words d top m plain w (In-append_right w (input_widths m.ports) (held_widths m.body) here))

  pub can_run : (steps : List ℕ) (says : Steps) → steps_of (held_widths m.body) (input_widths m.ports) steps ≡ Ok says → CanRun m says
  can_run steps says read =
      let wide = steps_wide (held_widths m.body) (input_widths m.ports) steps says read in
      record { design = d; top = top; plain = plain; content = wide.0; rows = inputs_are m.ports says.rows wide.1 }

-- widths as the code has them
pub read_alike : (m : Module) (rs ns steps : List ℕ) → rs ≡ held_widths m.body → ns ≡ input_widths m.ports → steps_of (held_widths m.body) (input_widths m.ports) steps ≡ steps_of rs ns steps
read_alike m rs ns steps held given = ap₂ (λ (xs ys : List ℕ). steps_of xs ys steps) (sym held) (sym given)

pub fault_alike : (e : Design) (one : Module) → e ≡ one ∷ [] → (rs ns : List ℕ) → rs ≡ held_widths one.body → ns ≡ input_widths one.ports → (steps : List ℕ) (fail : StepFail)
    → IsFault (steps_of rs ns steps) fail → IsFlatFault e steps fail
fault_alike e one alone rs ns held given steps fail fault m is =
    subst (λ (x : Module). IsFault (steps_of (held_widths x.body) (input_widths x.ports) steps) fail) (same_alone e one m alone is)
    (subst₂ (λ (xs ys : List ℕ). IsFault (steps_of xs ys steps) fail) held given fault)

-- the lines of the run by tables are those of the run of the module
pub flat_simulation : (e : Design) (m : Module) → e ≡ m ∷ [] → IsPlain e m.symbol m → (steps : List ℕ) (says : Steps)
    → steps_of (held_widths m.body) (input_widths m.ports) steps ≡ Ok says → (text : List ℕ) → IsModuleRun m says text → IsFlatSimulation e steps text
flat_simulation e m is plain steps says read text (order, stands, made) =
    let flat : IsFlat e m.symbol m order = record { plain = plain; stands = stands } in
    let can = can_run e m.symbol m plain steps says read in
    let outs = run_outputs m.ports m.body order says.rows (first_ports m.ports) (first_results m.ports m.body order says.content) in
    let start = tables_start e m.symbol m order flat says.content can.content in
    record {
      one = m;
      is_one = is;
      says = says;
      read = read;
      outputs = map concat_words outs;
      run = tables_run e m.symbol m order flat says.content can.content says.rows can.rows;
      is = made
          ∙ lines_are (map width (output_types m.ports)) outs
          (outputs_wide e m.symbol m order flat says.rows (first_ports m.ports) (first_results m.ports m.body order says.content) [] (concat_words says.content) start can.rows);
    }
