-- The formula of two flat modules, and the widths of their leaves.
use Rattle.std.proofs.Common.{◌≡◌, refl, sym, ap, ap₂, subst, ◌∙◌, ℕ, ◌+◌, Bool, true, false, cond, List, [], ◌∷◌, ◌++◌, map, slice_get, Some, IsTrue, arith}
use Rattle.std.specs.List.{filter}
use Rattle.wiring.specs.Lists.{total}
use Rattle.resolution_proof.specs.Formula.{Formula, are_clauses}
use Rattle.gates.specs.declared.signal.Signal.{Signal}
use Rattle.gates.specs.Circuits.{Circuit}
use Rattle.hw_model.specs.Types.{width}
use Rattle.hw_model.specs.Design.{Port, Op, Module, Design, is_register}
use Rattle.hw_model.specs.Flat.{input_width, held_width, state}
use Rattle.hw_model.specs.Sound.{input_types}
use Rattle.net_gates.specs.Miters.{formula_of}
use Rattle.net_gates.specs.RegisterMiters.{register_miter}
use Rattle.flat_module_laws.specs.Sides.{side_of, IsPlain, AreAlike}
use Rattle.flat_module_laws.proofs.FlatMiters.{flat_step_clauses}
use Rattle.flat_module_gates.specs.FlatSteps.{content_width}
use Rattle.flat_module_gates.proofs.LinkedRegisters.{state_is_content}
use Rattle.flat_module_gates.proofs.PlainOrders.{plain_has_order}
use Rattle.miter_blast.specs.Building.{AreAlone, IsDifferenceBuilt, IsBuilt}
use Rattle.miter_blast.specs.Cuts.{AreWordWidths}
use Rattle.miter_blast.specs.Formulas.{circuit_formula}
use Rattle.miter_blast.specs.Leaves.{held_widths, input_widths}
use Rattle.miter_blast.specs.MiterForms.{MiterForm, HasLeaves}
use Rattle.miter_blast.proofs.Differences.{same_alone, first_alone}
use Rattle.miter_blast.proofs.LeafWords.{leaf_words}

-- ---- widths

total_joined : (xs ys : List ℕ) → total (xs ++ ys) ≡ total xs + total ys
total_joined [] ys = omega arith
total_joined (x ∷ xs) ys = let rest = total_joined xs ys in omega (arith, rest)

inputs_total : (ps : List Port) → total (input_widths ps) ≡ input_width ps
inputs_total [] = refl
inputs_total (p ∷ ps) = go p.is_output (inputs_total ps)
  where
    go : (b : Bool) → total (input_widths ps) ≡ input_width ps → total (map width (cond b (input_types ps) (p.type ∷ input_types ps))) ≡ cond b (input_width ps) (width p.type + input_width ps)
    go true rest = rest
    go false rest = ap (λ n. width p.type + n) rest

held_total : (os : List Op) → total (held_widths os) ≡ content_width os
held_total [] = refl
held_total (o ∷ os) = go (is_register o) (held_total os)
  where
    go : (b : Bool) → total (held_widths os) ≡ content_width os
        → total (map held_width (cond b (o ∷ filter is_register os) (filter is_register os))) ≡ cond b (held_width o) 0 + content_width os
    go true rest = ap (λ n. held_width o + n) rest
    go false rest = omega (arith, rest)

-- the widths of the leaves of a flat module are together its inputs and its content
pub leaves_total : (d : Design) (m : Module) → IsPlain d m.symbol m → total (input_widths m.ports ++ held_widths m.body) ≡ input_width m.ports + state d m.symbol
leaves_total d m plain =
    let order = plain_has_order d m.symbol m plain in
    let content = state_is_content d m.symbol m order.0 (record { plain = plain; stands = order.1 }) in
    let sum = total_joined (input_widths m.ports) (held_widths m.body) in
    let inputs = inputs_total m.ports in
    let held = held_total m.body in
    omega (arith, content, sum, inputs, held)

-- those that are joined
pub widths_are : (e : Design) (one m : Module) (held ws slice new : List ℕ) → slice_get e 0 ≡ Some m → e ≡ one ∷ [] → ws ≡ input_widths m.ports → slice ≡ held → new ≡ ws ++ slice
    → held ≡ held_widths one.body → new ≡ input_widths one.ports ++ held_widths one.body
widths_are e one m held ws slice new at is own same joined widths =
    joined ∙ ap₂ (λ (a b : List ℕ). a ++ b) (own ∙ ap (λ (x : Module). input_widths x.ports) (first_alone e m one at is)) (same ∙ widths)

-- ---- formulas

module _ (first second : Design) (alone : AreAlone first second) (t u : Circuit) (signal : Signal) (built : IsDifferenceBuilt first second t u signal) (empty : t.gates ≡ [])
    (size : t.inputs ≡ input_width alone.one.ports + state first alone.one.symbol) where
  same_one : alone.one ≡ built.are.one
  same_one = same_alone first alone.one built.are.one alone.first_is built.are.first_is

  same_two : alone.two ≡ built.are.two
  same_two = same_alone second alone.two built.are.two alone.second_is built.are.second_is

  abbrev whole : Formula
  whole =
      formula_of (input_width built.are.one.ports + state first built.are.one.symbol)
      (register_miter (input_width built.are.one.ports) (side_of first built.are.one.symbol built.are.first_order) (side_of second built.are.two.symbol built.are.second_order))

  start_is : t.inputs ≡ input_width built.are.one.ports + state first built.are.one.symbol
  start_is = subst (λ (m : Module). t.inputs ≡ input_width m.ports + state first m.symbol) same_one size

  pub formula_is : circuit_formula u signal ≡ whole
  formula_is = from_runs u.inputs u.gates signal t.inputs t.gates start_is empty built.runs.inputs built.runs.gates built.runs.is
    where
      from_runs : (n : ℕ) (gates : List _) (s : Signal) (k : ℕ) (old : List _) → k ≡ input_width built.are.one.ports + state first built.are.one.symbol → old ≡ [] → n ≡ k
          → gates ≡ old ++ (register_miter (input_width built.are.one.ports) (side_of first built.are.one.symbol built.are.first_order) (side_of second built.are.two.symbol built.are.second_order) k old).gates
          → s ≡ (register_miter (input_width built.are.one.ports) (side_of first built.are.one.symbol built.are.first_order) (side_of second built.are.two.symbol built.are.second_order) k old).got
          → circuit_formula (record { inputs = n; gates = gates }) s ≡ whole
      from_runs n gates s k old a b c e f = cc

  alike : AreAlike first built.are.one.symbol built.are.one second built.are.two.symbol built.are.two
  alike = subst (λ (n : Module). AreAlike first built.are.one.symbol built.are.one second n.symbol n) same_two
      (subst (λ (m : Module). AreAlike first m.symbol m second alone.two.symbol alone.two) same_one alone.alike)

  pub formula_within : IsTrue (are_clauses (circuit_formula u signal).variables (circuit_formula u signal).clauses)
  formula_within = subst (λ (f : Formula). IsTrue (are_clauses f.variables f.clauses)) (sym formula_is)
      (flat_step_clauses first built.are.one.symbol built.are.one built.are.first_order second built.are.two.symbol built.are.two built.are.second_order built.are.first_flat built.are.second_flat alike)

  -- what is held of it
  pub built_from : (m : MiterForm) → m.formula ≡ circuit_formula u signal → m.widths ≡ input_widths alone.one.ports ++ held_widths alone.one.body → IsBuilt first second m
  built_from m formula widths = record {
    are = built.are;
    formula = formula ∙ formula_is;
    widths = subst (λ (x : Module). m.widths ≡ input_widths x.ports ++ held_widths x.body) same_one widths;
  }

  pub leaves_from : (m : MiterForm) → m.formula ≡ circuit_formula u signal → m.widths ≡ input_widths alone.one.ports ++ held_widths alone.one.body → HasLeaves m
  leaves_from m formula widths =
      let sum = leaves_total first alone.one alone.first_plain in
      let total_is = ap total widths in
      let variables = ap (λ (f : Formula). f.variables) formula in
      let inputs = built.runs.inputs in
      record {
        words = subst AreWordWidths (sym widths) (leaf_words first alone.one.symbol alone.one alone.first_plain);
        enough = omega (arith, sum, total_is, variables, inputs, size);
      }
