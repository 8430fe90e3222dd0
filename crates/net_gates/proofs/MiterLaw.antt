-- The formula of a miter is satisfied just by the evaluations of inputs and content on which the modules differ.
use Rattle.std.proofs.Common.{◌≡◌, sym, subst, ℕ, ◌+◌, ◌*◌, ◌≤◌, Bool, true, false, not, List, [], ◌++◌, length, take, drop, arith, length-append, length-take, length-drop, le_refl}
use Rattle.std.proofs.lemmas.List.{take-append-drop}
use Rattle.std.proofs.Math.ListN.{length-replicate}
use mathlib.Core.Path.{subst₂}
use Rattle.resolution_proof.specs.Formula.{satisfies, are_clauses}
use Rattle.bits_core.specs.Word.{Word, same_word, zeros}
use Rattle.gates.proofs.Carrying.{Carrying, Makes, makes_then}
use Rattle.gates.proofs.SingleBits.{Carries}
use Rattle.gate_words.specs.GateLists.{unlike}
use Rattle.gate_words.proofs.Words.{IsWord, word_later}
use Rattle.gate_words.proofs.LongGateLists.{makes-unlike}
use Rattle.gate_words.proofs.BitSums.{unlike_is}
use Rattle.hw_model.specs.Flat.{Net}
use Rattle.hw_model.specs.Meaning.{Settled, outputs}
use Rattle.hw_model.proofs.Finite.{settles_with_heights}
use Rattle.net_gates.specs.NetOrder.{HaveGateLists}
use Rattle.net_gates.specs.NetPrices.{nets_price}
use Rattle.net_gates.specs.Miters.{Side, miter, miter_price, formula_of, HasNetGateLists, HaveSameWidth, IsDifference}
use Rattle.net_gates.proofs.InputWords.{CarriesInputs}
use Rattle.net_gates.proofs.Nets.{makes-module}
use Rattle.net_gates.proofs.FormulaLaw.{first_long, not_both, apart, few_of, clauses_of, value_from, satisfies_by}

-- in the order of its parts
abbrev parts_price : Side → Side → (Net → Word) → (Net → Word) → ℕ
parts_price a b ρ σ = nets_price a.design a.top ρ a.nets + 0 + (nets_price b.design b.top σ b.nets + 0 + 4 * length (outputs a.design a.top ρ))

gate_lists_of : (s : Side) (W S : ℕ) → HasNetGateLists W S s → (x q : Word) (ρ : Net → Word) → length x ≡ W → length q ≡ S → Settled s.design s.top x q ρ
    → HaveGateLists s.design s.top (length x) (length q) ρ s.nets
gate_lists_of s W S f x q ρ ex eq settled = subst₂ (λ w v. HaveGateLists s.design s.top w v ρ s.nets) (sym ex) (sym eq) (f.gate_lists x q ρ ex eq settled)

module _ (a b : Side) (W S : ℕ) (fa : HasNetGateLists W S a) (fb : HasNetGateLists W S b) (same : HaveSameWidth W S a b) where
  module _ (x q : Word) (ex : length x ≡ W) (eq : length q ≡ S) (ρ σ : Net → Word) (ra : Settled a.design a.top x q ρ) (rb : Settled b.design b.top x q σ) where
    size_of : length (x ++ q) ≡ W + S
    size_of = omega (arith, length-append x q)

    makes-miter : (c : Carrying (W + S)) → CarriesInputs (W + S) c (x ++ q)
        → Makes c (miter (length x) a b) (W + S) (parts_price a b ρ σ) (Carries c (not (same_word (outputs a.design a.top ρ) (outputs b.design b.top σ))))
    unfolding miter
    makes-miter c given =
        let wide : length (outputs a.design a.top ρ) ≡ length (outputs b.design b.top σ) = same x q ρ σ ex eq ra rb in
        makes_then c _ _ (W + S) (nets_price a.design a.top ρ a.nets + 0) (nets_price b.design b.top σ b.nets + 0 + 4 * length (outputs a.design a.top ρ))
        (IsWord c (outputs a.design a.top ρ)) _
        (makes-module c a.design a.top x q ρ size_of ra given a.nets (W + S) (le_refl (W + S)) fa.order (gate_lists_of a W S fa x q ρ ex eq ra) fa.among)
        (λ xs j l hx.
        makes_then c _ _ j (nets_price b.design b.top σ b.nets + 0) (4 * length (outputs a.design a.top ρ)) (IsWord c (outputs b.design b.top σ)) _
        (makes-module c b.design b.top x q σ size_of rb given b.nets j l fb.order (gate_lists_of b W S fb x q σ ex eq rb) fb.among)
        (λ ys i m hy.
        subst (λ t. Makes c (unlike xs ys) i (4 * length (outputs a.design a.top ρ)) (Carries c t)) (unlike_is (outputs a.design a.top ρ) (outputs b.design b.top σ) wide)
        (makes-unlike c i (outputs a.design a.top ρ) xs (word_later c j i (outputs a.design a.top ρ) xs m hx) (outputs b.design b.top σ) ys hy wide)))

    made : (c : Carrying (W + S)) → CarriesInputs (W + S) c (x ++ q)
        → Makes c (miter W a b) (W + S) (parts_price a b ρ σ) (Carries c (not (same_word (outputs a.design a.top ρ) (outputs b.design b.top σ))))
    made c given =
        subst (λ w. Makes c (miter w a b) (W + S) (parts_price a b ρ σ) (Carries c (not (same_word (outputs a.design a.top ρ) (outputs b.design b.top σ))))) ex (makes-miter c given)

    pub miter_few : length (miter W a b (W + S) []).gates ≤ miter_price a b ρ σ
    miter_few = omega (arith, few_of (W + S) (miter W a b) (x ++ q) size_of (parts_price a b ρ σ) _ made)

    formula_clauses : are_clauses (formula_of (W + S) (miter W a b)).variables (formula_of (W + S) (miter W a b)).clauses ≡ true
    formula_clauses = clauses_of (W + S) (miter W a b) (x ++ q) size_of (parts_price a b ρ σ) _ made

    from_assignment : (m : List Bool) → satisfies m (formula_of (W + S) (miter W a b)) ≡ true → take (W + S) m ≡ x ++ q → IsDifference W S a b m
    from_assignment m h begins =
        let got = value_from (W + S) (miter W a b) (x ++ q) size_of (parts_price a b ρ σ) _ made m h begins in
        record {
          input = x;
          held = q;
          input_width = ex;
          held_width = eq;
          differ = (ρ, σ, ra, rb, not_both _ _ got.0);
          evaluation = got.1;
        }

  -- from an assignment that satisfies the formula
  pub difference_from : (m : List Bool) → satisfies m (formula_of (W + S) (miter W a b)) ≡ true → IsDifference W S a b m
  difference_from m h =
      let word = take (W + S) m in
      let long : length word ≡ W + S = first_long (W + S) (miter W a b) m h in
      let x = take W word in
      let q = drop W word in
      let ex : length x ≡ W = omega (arith, length-take W word, long) in
      let eq : length q ≡ S = omega (arith, length-drop W word, long) in
      let one = settles_with_heights a.design a.top fa.heights x q in
      let two = settles_with_heights b.design b.top fb.heights x q in
      from_assignment x q ex eq one.0 two.0 one.1 two.1 m h (sym (take-append-drop W word))

  -- and back
  pub satisfies_difference : (m : List Bool) → IsDifference W S a b m → satisfies m (formula_of (W + S) (miter W a b)) ≡ true
  satisfies_difference m d =
      satisfies_by (W + S) (miter W a b) (d.input ++ d.held) (size_of d.input d.held d.input_width d.held_width d.differ.0 d.differ.1 d.differ.2 d.differ.3)
      (parts_price a b d.differ.0 d.differ.1) _
      (made d.input d.held d.input_width d.held_width d.differ.0 d.differ.1 d.differ.2 d.differ.3) m (apart _ _ d.differ.4) d.evaluation

  pub formula_of_clauses : are_clauses (formula_of (W + S) (miter W a b)).variables (formula_of (W + S) (miter W a b)).clauses ≡ true
  formula_of_clauses =
      let x = zeros W in
      let q = zeros S in
      let one = settles_with_heights a.design a.top fa.heights x q in
      let two = settles_with_heights b.design b.top fb.heights x q in
      formula_clauses x q (length-replicate W false) (length-replicate S false) one.0 two.0 one.1 two.1
