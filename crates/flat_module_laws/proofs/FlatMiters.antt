-- The miter of two flat modules.
use Rattle.std.proofs.Common.{◌≡◌, refl, sym, ap, ◌∙◌, ℕ, ◌+◌, ◌*◌, ◌≤◌, ◌↔◌, Bool, false, List, [], map, length, arith, IsTrue}
use Rattle.std.proofs.Math.ListN.{length-replicate}
use mathlib.Core.Path.{subst₂}
use Rattle.wiring.specs.Lists.{total}
use Rattle.resolution_proof.specs.Formula.{are_clauses, satisfies}
use Rattle.bits_core.specs.Word.{Word, zeros}
use Rattle.hw_model.specs.Types.{Name, width}
use Rattle.hw_model.specs.Design.{Module, Design}
use Rattle.hw_model.specs.Flat.{Net, input_width, state}
use Rattle.hw_model.specs.Meaning.{Settled}
use Rattle.hw_model.proofs.Finite.{settles_with_heights}
use Rattle.net_gates.specs.NetOrder.{NeedsComeFirst, HaveGateLists, OutputsAreAmong}
use Rattle.net_gates.specs.NetPrices.{nets_price}
use Rattle.net_gates.specs.Miters.{miter, formula_of, HasNetGateLists, HaveSameWidth, IsDifference}
use Rattle.net_gates.specs.RegisterMiters.{register_miter, loaded, Step, HasStepGateLists, HaveSameOutputs, IsStepDifference}
use Rattle.net_gates.proofs.StepLaw.{step_of, step_few, step_difference_from, satisfies_step_difference, step_formula_clauses}
use Rattle.net_gates.proofs.MiterLaw.{miter_few, difference_from, satisfies_difference, formula_of_clauses}
use Rattle.flat_module_laws.specs.Sides.{side_of, IsFlat, AreAlike}
use Rattle.flat_module_laws.specs.FlatPrices.{module_price, stepped_price, output_bits}
use Rattle.flat_module_laws.proofs.FlatBodies.{flat_heights}
use Rattle.flat_module_laws.proofs.FlatSources.{of_side}
use Rattle.flat_module_laws.proofs.FlatRegisters.{slots_fit}
use Rattle.flat_module_laws.proofs.FlatWords.{outputs_width}
use Rattle.flat_module_laws.proofs.FlatGateLists.{flat_gate_lists}
use Rattle.flat_module_laws.proofs.FlatOrders.{nets_first, outputs_among}
use Rattle.flat_module_laws.proofs.FlatTotals.{flat_paid}

module _ (d : Design) (top : Name) (m : Module) (order : List ℕ) (flat : IsFlat d top m order) where
  pub has_gate_lists : HasNetGateLists (input_width m.ports) (state d top) (side_of d top order)
  has_gate_lists = record {
    order = of_side d top m order flat (λ ns. NeedsComeFirst d top [] ns) (nets_first d top m order flat);
    among = of_side d top m order flat (λ ns. OutputsAreAmong d top ns) (outputs_among d top m order flat);
    gate_lists = λ x q ρ ex eq settled. of_side d top m order flat (λ ns. HaveGateLists d top (input_width m.ports) (state d top) ρ ns) (flat_gate_lists d top m order flat x q ρ settled order);
    heights = flat_heights d top m order flat;
  }

  pub has_step_gate_lists : HasStepGateLists (input_width m.ports) (state d top) (side_of d top order)
  has_step_gate_lists = record { nets = has_gate_lists; slots = slots_fit d top m order flat; size = refl }

  pub side_paid : (x q : Word) (ρ : Net → Word) → Settled d top x q ρ → nets_price d top ρ (side_of d top order).nets ≤ module_price m
  side_paid x q ρ settled = of_side d top m order flat (λ ns. nets_price d top ρ ns ≤ module_price m) (flat_paid d top m order flat x q ρ settled)

module _ (d : Design) (s : Name) (m : Module) (i : List ℕ) (e : Design) (t : Name) (n : Module) (j : List ℕ)
    (one : IsFlat d s m i) (two : IsFlat e t n j) (alike : AreAlike d s m e t n) where
  pub as_wide : HaveSameWidth (input_width m.ports) (state d s) (side_of d s i) (side_of e t j)
  as_wide x q ρ σ ex eq first second =
      outputs_width d s m i one x q ρ first ∙ ap (λ ts. total (map width ts)) alike.outputs ∙ sym (outputs_width e t n j two x q σ second)

  other_gate_lists : HasNetGateLists (input_width m.ports) (state d s) (side_of e t j)
  other_gate_lists = subst₂ (λ w v. HasNetGateLists w v (side_of e t j)) (sym alike.inputs) (sym alike.held) (has_gate_lists e t n j two)

  pub miter_paid : length (miter (input_width m.ports) (side_of d s i) (side_of e t j) (input_width m.ports + state d s) []).gates
      ≤ module_price m + module_price n + 4 * output_bits m
  miter_paid =
      let x : Word = zeros (input_width m.ports) in
      let q : Word = zeros (state d s) in
      let ex : length x ≡ input_width m.ports = length-replicate (input_width m.ports) false in
      let eq : length q ≡ state d s = length-replicate (state d s) false in
      let first = settles_with_heights d s (flat_heights d s m i one) x q in
      let second = settles_with_heights e t (flat_heights e t n j two) x q in
      let few = miter_few (side_of d s i) (side_of e t j) (input_width m.ports) (state d s) (has_gate_lists d s m i one) other_gate_lists as_wide x q ex eq first.0 second.0 first.1 second.1 in
      let own = side_paid d s m i one x q first.0 first.1 in
      let other = side_paid e t n j two x q second.0 second.1 in
      let wide = outputs_width d s m i one x q first.0 first.1 in
      omega (arith, few, own, other, wide)

  pub flat_difference : (a : List Bool)
      → IsTrue (satisfies a (formula_of (input_width m.ports + state d s) (miter (input_width m.ports) (side_of d s i) (side_of e t j))))
      ↔ IsDifference (input_width m.ports) (state d s) (side_of d s i) (side_of e t j) a
  flat_difference a = (
    difference_from (side_of d s i) (side_of e t j) (input_width m.ports) (state d s) (has_gate_lists d s m i one) other_gate_lists as_wide a,
    satisfies_difference (side_of d s i) (side_of e t j) (input_width m.ports) (state d s) (has_gate_lists d s m i one) other_gate_lists as_wide a,
  )

  pub flat_clauses : IsTrue (are_clauses (formula_of (input_width m.ports + state d s) (miter (input_width m.ports) (side_of d s i) (side_of e t j))).variables
      (formula_of (input_width m.ports + state d s) (miter (input_width m.ports) (side_of d s i) (side_of e t j))).clauses)
  flat_clauses = formula_of_clauses (side_of d s i) (side_of e t j) (input_width m.ports) (state d s) (has_gate_lists d s m i one) other_gate_lists as_wide

  -- ---- with registers

  pub same_outputs : HaveSameOutputs (input_width m.ports) (state d s) (side_of d s i) (side_of e t j)
  same_outputs x p q ρ σ ex ep eq first second =
      outputs_width d s m i one x p ρ first ∙ ap (λ ts. total (map width ts)) alike.outputs ∙ sym (outputs_width e t n j two x q σ second)

  other_steps : HasStepGateLists (input_width m.ports) (state d s) (side_of e t j)
  other_steps = subst₂ (λ w v. HasStepGateLists w v (side_of e t j)) (sym alike.inputs) (sym alike.held) (has_step_gate_lists e t n j two)

  pub register_miter_paid : length (register_miter (input_width m.ports) (side_of d s i) (side_of e t j) (input_width m.ports + state d s) []).gates
      ≤ stepped_price d s m + stepped_price e t n + 4 * (output_bits m + state d s)
  register_miter_paid =
      let x : Word = zeros (input_width m.ports) in
      let q : Word = zeros (state d s) in
      let ex : length x ≡ input_width m.ports = length-replicate (input_width m.ports) false in
      let eq : length q ≡ state d s = length-replicate (state d s) false in
      let first : Step (side_of d s i) x q = step_of (side_of d s i) (input_width m.ports) (state d s) (has_step_gate_lists d s m i one) x q in
      let second : Step (side_of e t j) x q = step_of (side_of e t j) (input_width m.ports) (state d s) other_steps x q in
      let few = step_few (side_of d s i) (side_of e t j) (input_width m.ports) (state d s) (has_step_gate_lists d s m i one) other_steps same_outputs x q ex eq first second in
      let own = side_paid d s m i one x (loaded d s first.before q) first.after first.after_settled in
      let other = side_paid e t n j two x (loaded e t second.before q) second.after second.after_settled in
      let wide = outputs_width d s m i one x (loaded d s first.before q) first.after first.after_settled in
      omega (arith, few, own, other, wide)

  pub flat_step_difference : (a : List Bool)
      → IsTrue (satisfies a (formula_of (input_width m.ports + state d s) (register_miter (input_width m.ports) (side_of d s i) (side_of e t j))))
      ↔ IsStepDifference (input_width m.ports) (state d s) (side_of d s i) (side_of e t j) a
  flat_step_difference a = (
    step_difference_from (side_of d s i) (side_of e t j) (input_width m.ports) (state d s) (has_step_gate_lists d s m i one) other_steps same_outputs a,
    satisfies_step_difference (side_of d s i) (side_of e t j) (input_width m.ports) (state d s) (has_step_gate_lists d s m i one) other_steps same_outputs a,
  )

  pub flat_step_clauses : IsTrue (are_clauses (formula_of (input_width m.ports + state d s) (register_miter (input_width m.ports) (side_of d s i) (side_of e t j))).variables
      (formula_of (input_width m.ports + state d s) (register_miter (input_width m.ports) (side_of d s i) (side_of e t j))).clauses)
  flat_step_clauses = step_formula_clauses (side_of d s i) (side_of e t j) (input_width m.ports) (state d s) (has_step_gate_lists d s m i one) other_steps same_outputs
