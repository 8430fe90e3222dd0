-- The formula of a comparison is satisfied exactly by differences; where nothing satisfies it, the modules agree.
use Rattle.std.proofs.Common.{◌≡◌, refl, sym, ap, ap₂, subst, ◌∙◌, ◌≤◌, ◌↔◌, Bool, true, false, List, [], ◌∷◌, ◌++◌, length, take, drop, flat_map, append_assoc, arith, IsTrue}
use Rattle.std.proofs.Math.Seq.{take-append_seam, drop-append_seam}
use mathlib.Core.Path.{subst₂}
use Rattle.wiring.specs.Lists.{total}
use Rattle.resolution_proof.specs.Formula.{Formula, are_clauses, satisfies}
use Rattle.bits_core.specs.Word.{Word, same_word}
use Rattle.bits_core.specs.SameWord.{same_word_self, same_from_test}
use Rattle.gates.proofs.Evaluation.{evaluated_from}
use Rattle.hw_model.specs.Types.{Name, leaves}
use Rattle.hw_model.specs.Design.{Module, Design}
use Rattle.hw_model.specs.Flat.{input_width, registers, state}
use Rattle.hw_model.specs.Machine.{Run}
use Rattle.hw_model.specs.Meaning.{machine}
use Rattle.hw_model.specs.Agreement.{input_bits, LevelStep, Agree}
use Rattle.hw_model.proofs.Agreeing.{agreeing_runs}
use Rattle.port_checks.specs.ResetPorts.{is_reset_port}
use Rattle.op_verifier.specs.Verdict.{IsAccepted}
use Rattle.op_verifier.proofs.AcceptedDesigns.{accepted_resets}
use Rattle.printing_laws.specs.Printable.{Printable}
use Rattle.net_gates.specs.RegisterMiters.{DifferInStep, IsStepDifference}
use Rattle.flat_module_laws.specs.Sides.{side_of, AreAlike}
use Rattle.flat_module_laws.proofs.FlatMiters.{flat_step_difference, flat_step_clauses, register_miter_paid}
use Rattle.miter_blast.specs.FlatCopy.{IsFlatCopy}
use Rattle.miter_blast.specs.Comparable.{AreComparable, DifferAt, IsDifferenceOf, inputs_in, content_in, IsFormulaOf, gates_of}
use Rattle.miter_blast.specs.ComparisonPrices.{comparison_price}
use Rattle.miter_blast.proofs.CopyWidths.{state_by_widths}
use Rattle.miter_blast.proofs.CopySteps.{accepted_heights, copy_steps, copy_widths, copy_state, copy_inputs, copy_input_bits, copy_outputs}
use Rattle.miter_blast.proofs.LevelSteps.{level_of, step_of_level, level_next}
use Rattle.miter_blast.proofs.RegisterCosts.{registers_paid}
use Rattle.aggregate_laws.proofs.Ports.{width_types}
use Rattle.aggregate_laws.proofs.Words.{widths}

-- words that cannot differ are the same
both_same : (u v x y : Word) → (((u ≡ v) × (x ≡ y) → ⊥) → ⊥) → (u ≡ v) × (x ≡ y)
both_same u v x y never = go (same_word u v) refl (same_word x y) refl
  where
    unlike : (w z : Word) → same_word w z ≡ false → w ≡ z → ⊥
    unlike w z other same = let clash : true ≡ false = sym (ap (same_word w) (sym same) ∙ same_word_self w) ∙ other in cc

    go : (s : Bool) → same_word u v ≡ s → (t : Bool) → same_word x y ≡ t → (u ≡ v) × (x ≡ y)
    go true one true two = (same_from_test u v one, same_from_test x y two)
    go true one false two = absurd (never (λ both. unlike x y two both.1))
    go false one t two = absurd (never (λ both. unlike u v one both.0))

-- the parts of what begins with inputs and content
begun_parts : (x q r : Word) (bits : List Bool) → bits ≡ (x ++ q) ++ r → (take (length x) bits ≡ x) × (take (length q) (drop (length x) bits) ≡ q)
begun_parts x q r bits is =
    let whole : bits ≡ x ++ (q ++ r) = is ∙ append_assoc x q r in (
      ap (take (length x)) whole ∙ take-append_seam x (q ++ r),
      ap (λ ys. take (length q) (drop (length x) ys)) whole ∙ ap (take (length q)) (drop-append_seam x (q ++ r)) ∙ take-append_seam q r,
    )

module _ (d : Design) (a : Name) (e : Design) (b : Name) (d_accepted : IsAccepted d) (d_printable : Printable d) (e_accepted : IsAccepted e) (e_printable : Printable e)
    (are : AreComparable d a e b) where
  module _ (c : Design) (one : Module) (f : Design) (two : Module) (first : IsFlatCopy d a c) (c_is : c ≡ one ∷ []) (second : IsFlatCopy e b f) (f_is : f ≡ two ∷ []) where
    pub copies_alike : AreAlike c a one f b two
    copies_alike = record {
      inputs =
          copy_inputs d a are.one c d_accepted d_printable are.one_found first one c_is
          ∙ width_types are.one.ports ∙ ap widths are.inputs ∙ sym (width_types are.two.ports)
          ∙ sym (copy_inputs e b are.two f e_accepted e_printable are.two_found second two f_is);
      held =
          state_by_widths c a
          ∙ ap total (copy_widths d a are.one c d_accepted d_printable are.one_found first
          ∙ are.held ∙ sym (copy_widths e b are.two f e_accepted e_printable are.two_found second))
          ∙ sym (state_by_widths f b);
      outputs =
          copy_outputs d a are.one c d_accepted d_printable are.one_found first one c_is
          ∙ ap (flat_map leaves) are.outputs
          ∙ sym (copy_outputs e b are.two f e_accepted e_printable are.two_found second two f_is);
    }

  module _ (formula : Formula) (is : IsFormulaOf d a e b formula) where
    alike : AreAlike is.first a is.one is.second b is.two
    alike = copies_alike is.first is.one is.second is.two is.first_copy is.first_is is.second_copy is.second_is

    first_steps : (x q given after : Word) → LevelStep d a x q given after ↔ LevelStep is.first a x q given after
    first_steps = copy_steps d a are.one is.first d_accepted d_printable are.one_found is.first_copy

    second_steps : (x q given after : Word) → LevelStep e b x q given after ↔ LevelStep is.second b x q given after
    second_steps = copy_steps e b are.two is.second e_accepted e_printable are.two_found is.second_copy

    same_inputs : input_width is.one.ports ≡ input_bits d a
    same_inputs = copy_input_bits d a are.one is.first d_accepted d_printable are.one_found is.first_copy is.one is.first_is

    same_state : state is.first a ≡ state d a
    same_state = copy_state d a are.one is.first d_accepted d_printable are.one_found is.first_copy

    -- ---- differences in a step

    differ_at : (x q : Word) → DifferInStep (side_of is.first a is.first_order) (side_of is.second b is.second_order) x q → DifferAt d a e b x q
    differ_at x q (one, two, apart) =
        let mine = level_of is.first a is.first_order x q one in
        let theirs = level_of is.second b is.second_order x q two in
        record {
          given = _;
          after = _;
          given_too = _;
          after_too = _;
          one = (first_steps x q _ _).1 mine;
          two = (second_steps x q _ _).1 theirs;
          apart = apart;
        }

    differ_in_step : (x q : Word) → DifferAt d a e b x q → DifferInStep (side_of is.first a is.first_order) (side_of is.second b is.second_order) x q
    differ_in_step x q differ =
        let mine = (first_steps x q differ.given differ.after).0 differ.one in
        let theirs = (second_steps x q differ.given_too differ.after_too).0 differ.two in (
          step_of_level is.first a is.first_order x q differ.given differ.after mine,
          step_of_level is.second b is.second_order x q differ.given_too differ.after_too theirs,
          λ both. differ.apart (
            mine.read ∙ both.0 ∙ sym theirs.read,
            level_next is.first a is.first_order x q differ.given differ.after mine ∙ both.1
                ∙ sym (level_next is.second b is.second_order x q differ.given_too differ.after_too theirs),
          ),
        )

    -- ---- the formula

    satisfied : (bits : List Bool) → IsTrue (satisfies bits formula)
        ↔ IsStepDifference (input_width is.one.ports) (state is.first a) (side_of is.first a is.first_order) (side_of is.second b is.second_order) bits
    satisfied bits =
        let law = flat_step_difference is.first a is.one is.first_order is.second b is.two is.second_order is.first_flat is.second_flat alike bits in (
          λ holds. law.0 (subst (λ g. IsTrue (satisfies bits g)) is.formula holds),
          λ was. subst (λ g. IsTrue (satisfies bits g)) (sym is.formula) (law.1 was),
        )

    pub formula_difference : (bits : List Bool) → IsTrue (satisfies bits formula) ↔ IsDifferenceOf d a e b (gates_of is) bits
    formula_difference bits = (forth, back)
      where
        forth : IsTrue (satisfies bits formula) → IsDifferenceOf d a e b (gates_of is) bits
        forth holds =
            let was = (satisfied bits).0 holds in
            record {
              input = was.input;
              held = was.held;
              input_width = was.input_width ∙ same_inputs;
              held_width = was.held_width ∙ same_state;
              differ = differ_at was.input was.held was.differ;
              evaluation = was.evaluation;
            }

        back : IsDifferenceOf d a e b (gates_of is) bits → IsTrue (satisfies bits formula)
        back was = (satisfied bits).1 (record {
          input = was.input;
          held = was.held;
          input_width = was.input_width ∙ sym same_inputs;
          held_width = was.held_width ∙ sym same_state;
          differ = differ_in_step was.input was.held was.differ;
          evaluation = was.evaluation;
        })

    pub formula_shows : (bits : List Bool) → IsTrue (satisfies bits formula) → DifferAt d a e b (inputs_in d a bits) (content_in d a bits)
    formula_shows bits holds =
        let was = (formula_difference bits).0 holds in
        let rest = evaluated_from (was.input ++ was.held) (gates_of is) in
        let parts = begun_parts was.input was.held rest.0 bits (was.evaluation ∙ rest.1) in
        subst₂ (DifferAt d a e b)
        (sym parts.0 ∙ ap (λ n. take n bits) was.input_width)
        (sym parts.1 ∙ ap₂ (λ n k. take n (drop k bits)) was.held_width was.input_width)
        was.differ

    pub formula_clauses : IsTrue (are_clauses formula.variables formula.clauses)
    formula_clauses =
        subst (λ (g : Formula). IsTrue (are_clauses g.variables g.clauses)) (sym is.formula)
        (flat_step_clauses is.first a is.one is.first_order is.second b is.two is.second_order is.first_flat is.second_flat alike)

    pub formula_paid : length (gates_of is) ≤ comparison_price is.first a is.one is.second b is.two
    formula_paid =
        let few = register_miter_paid is.first a is.one is.first_order is.second b is.two is.second_order is.first_flat is.second_flat alike in
        let own = registers_paid (registers is.first a) in
        let other = registers_paid (registers is.second b) in
        omega (arith, few, own, other)

    -- ---- no difference

    module _ (none : (bits : List Bool) → IsTrue (satisfies bits formula) → ⊥) where
      pub formula_agrees : Agree d a e b
      formula_agrees = record {
        inputs =
            sym same_inputs ∙ alike.inputs
            ∙ copy_input_bits e b are.two is.second e_accepted e_printable are.two_found is.second_copy is.two is.second_is;
        held = sym same_state ∙ alike.held ∙ copy_state e b are.two is.second e_accepted e_printable are.two_found is.second_copy;
        steps = λ x q ex eq given after given' after' one two.
            both_same given given' after after' (λ apart.
            none _ ((formula_difference _).1 (record {
              input = x;
              held = q;
              input_width = ex;
              held_width = eq;
              differ = record { given = given; after = after; given_too = given'; after_too = after'; one = one; two = two; apart = apart };
              evaluation = refl;
            })));
      }

      pub formula_runs : (content : Word) (steps outputs : List Word) → length content ≡ state d a
          → Run (machine d a) content steps outputs ↔ Run (machine e b) content steps outputs
      formula_runs =
          agreeing_runs d a e b formula_agrees (is_reset_port d) (is_reset_port e) (accepted_resets d d_accepted) (accepted_resets e e_accepted)
          (accepted_heights d a d_accepted) (accepted_heights e b e_accepted)
