-- The formula of the miter of two modules with registers is satisfied just by the evaluations of inputs and content on which
-- the modules differ in a step.
use Rattle.std.proofs.Common.{◌≡◌, refl, sym, ap, ap₂, subst, ◌∙◌, ℕ, ◌+◌, ◌*◌, ◌≤◌, Bool, true, false, not, List, [], ◌∷◌, ◌++◌, length, take, drop, arith, length-append, length-take, length-drop, le_refl}
use Rattle.std.proofs.lemmas.List.{take-append-drop}
use Rattle.std.proofs.Math.ListN.{length-replicate}
use mathlib.Core.Path.{subst₂}
use Rattle.resolution_proof.specs.Formula.{satisfies, are_clauses}
use Rattle.bits_core.specs.Word.{Word, same_word, zeros}
use Rattle.gates.specs.Order.{evaluated}
use Rattle.gates.proofs.Carrying.{Carrying, Makes, makes_more, makes_then}
use Rattle.gates.proofs.SingleBits.{Carries}
use Rattle.gate_words.specs.GateLists.{unlike}
use Rattle.gate_words.proofs.Words.{IsWord, word_later}
use Rattle.gate_words.proofs.LongGateLists.{makes-unlike}
use Rattle.gate_words.proofs.BitSums.{unlike_is}
use Rattle.hw_model.specs.Flat.{state}
use Rattle.hw_model.specs.Meaning.{outputs}
use Rattle.hw_model.proofs.Finite.{settles_with_heights}
use Rattle.net_gates.specs.Miters.{Side, formula_of}
use Rattle.net_gates.specs.RegisterMiters.{register_miter, loaded, Step, next_of, HasStepGateLists, HaveSameOutputs, IsStepDifference, step_price, register_miter_price}
use Rattle.net_gates.proofs.InputWords.{CarriesInputs}
use Rattle.net_gates.proofs.FormulaLaw.{first_long, not_both, apart, few_of, clauses_of, value_from, satisfies_by}
use Rattle.net_gates.proofs.StepGateLists.{loaded_long, next_width, makes-stepped}

-- two joined words are the same only if their parts are, where the first are as long
same_parts : (a p b q : Word) → length a ≡ length p → a ++ b ≡ p ++ q → (a ≡ p) × (b ≡ q)
same_parts [] [] b q long same = (refl, same)
same_parts [] (x ∷ p) b q long same = absurd (omega arith)
same_parts (x ∷ a) [] b q long same = absurd (omega arith)
same_parts (x ∷ a) (y ∷ p) b q long same =
    let first : x ≡ y = cc in
    let rest : a ++ b ≡ p ++ q = cc in
    let parts = same_parts a p b q (omega arith) rest in
    (ap₂ (λ (z : Bool) (w : Word). z ∷ w) first parts.0, parts.1)

-- a module with heights has a step for inputs and content
pub step_of : (s : Side) (W S : ℕ) → HasStepGateLists W S s → (x q : Word) → Step s x q
step_of s W S fits x q =
    let one = settles_with_heights s.design s.top fits.nets.heights x q in
    let two = settles_with_heights s.design s.top fits.nets.heights x (loaded s.design s.top one.0 q) in
    record { before = one.0; before_settled = one.1; after = two.0; after_settled = two.1 }

-- what is compared
abbrev told : (s : Side) (x q : Word) → Step s x q → Word
told s x q step = outputs s.design s.top step.after ++ next_of s x q step

module _ (a b : Side) (W S : ℕ) (fa : HasStepGateLists W S a) (fb : HasStepGateLists W S b) (same : HaveSameOutputs W S a b) where
  module _ (x q : Word) (ex : length x ≡ W) (eq : length q ≡ S) (one : Step a x q) (two : Step b x q) where
    size_of : length (x ++ q) ≡ W + S
    size_of = omega (arith, length-append x q)

    fit_of : (s : Side) → HasStepGateLists W S s → HasStepGateLists (length x) (length q) s
    fit_of s fits = subst₂ (λ w v. HasStepGateLists w v s) (sym ex) (sym eq) fits

    outputs_alike : length (outputs a.design a.top one.after) ≡ length (outputs b.design b.top two.after)
    outputs_alike =
        same x (loaded a.design a.top one.before q) (loaded b.design b.top two.before q) one.after two.after ex
        (loaded_long a.design a.top one.before q ∙ fa.size) (loaded_long b.design b.top two.before q ∙ fb.size) one.after_settled two.after_settled

    told_long : length (told a x q one) ≡ length (outputs a.design a.top one.after) + state a.design a.top
    told_long = length-append (outputs a.design a.top one.after) (next_of a x q one) ∙ ap (λ n. length (outputs a.design a.top one.after) + n) (next_width a x q one)

    told_alike : length (told a x q one) ≡ length (told b x q two)
    told_alike =
        let other = length-append (outputs b.design b.top two.after) (next_of b x q two) in
        let wide = next_width b x q two in
        omega (arith, told_long, outputs_alike, other, wide, fa.size, fb.size)

    makes-miter : (c : Carrying (W + S)) → CarriesInputs (W + S) c (x ++ q)
        → Makes c (register_miter (length x) a b) (W + S) (step_price a one.after + (step_price b two.after + 4 * length (told a x q one)))
        (Carries c (not (same_word (told a x q one) (told b x q two))))
    unfolding register_miter
    makes-miter c given =
        makes_then c _ _ (W + S) (step_price a one.after) (step_price b two.after + 4 * length (told a x q one)) (IsWord c (told a x q one)) _
        (makes-stepped c a x q (fit_of a fa) one size_of given (W + S) (le_refl (W + S)))
        (λ xs j l hx.
        makes_then c _ _ j (step_price b two.after) (4 * length (told a x q one)) (IsWord c (told b x q two)) _
        (makes-stepped c b x q (fit_of b fb) two size_of given j l)
        (λ ys i m hy.
        subst (λ t. Makes c (unlike xs ys) i (4 * length (told a x q one)) (Carries c t)) (unlike_is (told a x q one) (told b x q two) told_alike)
        (makes-unlike c i (told a x q one) xs (word_later c j i (told a x q one) xs m hx) (told b x q two) ys hy told_alike)))

    made : (c : Carrying (W + S)) → CarriesInputs (W + S) c (x ++ q)
        → Makes c (register_miter W a b) (W + S) (register_miter_price a b one.after two.after) (Carries c (not (same_word (told a x q one) (told b x q two))))
    made c given =
        makes_more c (register_miter W a b) (W + S) (step_price a one.after + (step_price b two.after + 4 * length (told a x q one))) (register_miter_price a b one.after two.after) _
        (omega (arith, told_long))
        (subst (λ w. Makes c (register_miter w a b) (W + S) (step_price a one.after + (step_price b two.after + 4 * length (told a x q one)))
        (Carries c (not (same_word (told a x q one) (told b x q two))))) ex (makes-miter c given))

    pub step_few : length (register_miter W a b (W + S) []).gates ≤ register_miter_price a b one.after two.after
    step_few = few_of (W + S) (register_miter W a b) (x ++ q) size_of (register_miter_price a b one.after two.after) _ made

    step_clauses : are_clauses (formula_of (W + S) (register_miter W a b)).variables (formula_of (W + S) (register_miter W a b)).clauses ≡ true
    step_clauses = clauses_of (W + S) (register_miter W a b) (x ++ q) size_of (register_miter_price a b one.after two.after) _ made

    from_assignment : (m : List Bool) → satisfies m (formula_of (W + S) (register_miter W a b)) ≡ true → take (W + S) m ≡ x ++ q → IsStepDifference W S a b m
    from_assignment m h begins =
        let got = value_from (W + S) (register_miter W a b) (x ++ q) size_of (register_miter_price a b one.after two.after) _ made m h begins in
        record {
          input = x;
          held = q;
          input_width = ex;
          held_width = eq;
          differ = (one, two, λ both. not_both _ _ got.0 (ap₂ (λ (u v : Word). u ++ v) both.0 both.1));
          evaluation = got.1;
        }

    to_assignment : (m : List Bool) → ((outputs a.design a.top one.after ≡ outputs b.design b.top two.after) × (next_of a x q one ≡ next_of b x q two) → ⊥)
        → m ≡ evaluated (x ++ q) (register_miter W a b (W + S) []).gates → satisfies m (formula_of (W + S) (register_miter W a b)) ≡ true
    to_assignment m differ is =
        satisfies_by (W + S) (register_miter W a b) (x ++ q) size_of (register_miter_price a b one.after two.after) _ made m
        (apart (told a x q one) (told b x q two)
        (λ e. differ (same_parts (outputs a.design a.top one.after) (outputs b.design b.top two.after) (next_of a x q one) (next_of b x q two) outputs_alike e))) is

  -- from an assignment that satisfies the formula
  pub step_difference_from : (m : List Bool) → satisfies m (formula_of (W + S) (register_miter W a b)) ≡ true → IsStepDifference W S a b m
  step_difference_from m h =
      let word = take (W + S) m in
      let long : length word ≡ W + S = first_long (W + S) (register_miter W a b) m h in
      let x = take W word in
      let q = drop W word in
      let ex : length x ≡ W = omega (arith, length-take W word, long) in
      let eq : length q ≡ S = omega (arith, length-drop W word, long) in
      from_assignment x q ex eq (step_of a W S fa x q) (step_of b W S fb x q) m h (sym (take-append-drop W word))

  -- and back
  pub satisfies_step_difference : (m : List Bool) → IsStepDifference W S a b m → satisfies m (formula_of (W + S) (register_miter W a b)) ≡ true
  satisfies_step_difference m d = to_assignment d.input d.held d.input_width d.held_width d.differ.0 d.differ.1 m d.differ.2 d.evaluation

  pub step_formula_clauses : are_clauses (formula_of (W + S) (register_miter W a b)).variables (formula_of (W + S) (register_miter W a b)).clauses ≡ true
  step_formula_clauses =
      let x = zeros W in
      let q = zeros S in
      step_clauses x q (length-replicate W false) (length-replicate S false) (step_of a W S fa x q) (step_of b W S fb x q)
