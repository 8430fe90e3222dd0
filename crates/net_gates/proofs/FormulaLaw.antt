-- A building whose signal carries a bit, where the first variables carry a word: its formula is satisfied just by the
-- evaluations of the words whose bit is 1.
use Rattle.std.proofs.Common.{◌≡◌, refl, sym, ap, subst, ◌∙◌, ℕ, ◌+◌, ◌≤◌, Bool, true, false, not, List, [], ◌++◌, length, take, drop, arith, length-take, length-drop}
use Rattle.std.proofs.lemmas.List.{take-append-drop}
use Rattle.resolution_proof.specs.Formula.{satisfies, are_clauses}
use Rattle.bits_core.specs.Word.{Word, same_word}
use Rattle.bits_core.specs.SameWord.{same_word_self, same_from_test}
use Rattle.gates.specs.declared.signal.Gate.{Gate}
use Rattle.gates.specs.declared.signal.Signal.{Signal}
use Rattle.gates.specs.Signals.{signal_bit}
use Rattle.gates.specs.Build.{Build}
use Rattle.gates.specs.Order.{IsSignalWithin, AreInOrder, AreKept, evaluated}
use Rattle.gates.proofs.Carrying.{Carrying, Makes}
use Rattle.gates.proofs.SingleBits.{Carries}
use Rattle.gates.proofs.Instances.{bits_under, variables_in_order}
use Rattle.gates.proofs.Evaluation.{evaluated_from, length-evaluated, evaluated_keeps, kept_is_evaluated}
use Rattle.gate_words.proofs.Computing.{counting}
use Rattle.net_gates.specs.Miters.{formula_of}
use Rattle.net_gates.proofs.InputWords.{CarriesInputs, inputs_under, inputs_counted, inputs_within}
use Rattle.net_gates.proofs.Circuits.{Satisfied, satisfied_from, satisfies_from, clauses_of_formula}

-- ---- words that differ

pub not_both : (u v : Word) → not (same_word u v) ≡ true → u ≡ v → ⊥
not_both u v h e =
    let alike : same_word u v ≡ true = ap (same_word u) (sym e) ∙ same_word_self u in
    let bad : not true ≡ true = sym (ap not alike) ∙ h in
    absurd cc

pub apart : (u v : Word) → (u ≡ v → ⊥) → not (same_word u v) ≡ true
apart u v differ = go (same_word u v) refl
  where
    go : (t : Bool) → same_word u v ≡ t → not t ≡ true
    go true e = absurd (differ (same_from_test u v e))
    go false e = refl

-- ---- the law

-- an assignment that satisfies the formula has bits for the word
pub first_long : (n : ℕ) (p : Build Signal) (m : List Bool) → satisfies m (formula_of n p) ≡ true → length (take n m) ≡ n
first_long n p m h = let is : Satisfied m n p = satisfied_from m n p h in omega (arith, is.size, length-take n m)

module _ (n : ℕ) (p : Build Signal) (word : Word) (size : length word ≡ n) (g : ℕ) (v : Bool)
    (made : (c : Carrying n) → CarriesInputs n c word → Makes c p n g (Carries c v)) where
  start : n + length {A = Gate} [] ≡ n
  start = omega arith

  -- the bit of the signal
  bit_of : (r : Word) → AreKept (word ++ r) n (p n []).gates → signal_bit (word ++ r) (p n []).got ≡ v
  bit_of r kept =
      ((made (bits_under (word ++ r) n) (subst (λ k. CarriesInputs k (bits_under (word ++ r) k) word) size (inputs_under word r))).runs [] start tt tt kept).is

  order_of : AreInOrder n (p n []).gates
  order_of = ((made (variables_in_order n) (subst (λ k. CarriesInputs k (variables_in_order k) word) size (inputs_within word))).runs [] start tt tt tt).good

  within_of : IsSignalWithin (n + length (p n []).gates) (p n []).got
  within_of = ((made (variables_in_order n) (subst (λ k. CarriesInputs k (variables_in_order k) word) size (inputs_within word))).runs [] start tt tt tt).is

  pub few_of : length (p n []).gates ≤ g
  few_of = ((made (counting n) (inputs_counted word n)).runs [] start tt tt tt).few

  -- the formula has clauses over its variables alone
  pub clauses_of : are_clauses (formula_of n p).variables (formula_of n p).clauses ≡ true
  clauses_of = clauses_of_formula n p order_of within_of

  -- an assignment that satisfies the formula, and begins with the word
  pub value_from : (m : List Bool) → satisfies m (formula_of n p) ≡ true → take n m ≡ word → (v ≡ true) × (m ≡ evaluated word (p n []).gates)
  value_from m h begins =
      let gates = (p n []).gates in
      let is : Satisfied m n p = satisfied_from m n p h in
      let r = drop n m in
      let er : length r ≡ length gates = omega (arith, length-drop n m, is.size) in
      let whole : m ≡ word ++ r = sym (take-append-drop n m) ∙ ap (λ w. w ++ r) begins in
      let kept : AreKept (word ++ r) n gates = subst (λ a. AreKept a n gates) whole is.kept in
      let bit : signal_bit (word ++ r) (p n []).got ≡ true = subst (λ a. signal_bit a (p n []).got ≡ true) whole is.bit in (
        sym (bit_of r kept) ∙ bit,
        whole ∙ kept_is_evaluated word r gates (subst (λ k. AreInOrder k gates) (sym size) order_of) er (subst (λ k. AreKept (word ++ r) k gates) (sym size) kept),
      )

  -- and back
  pub satisfies_by : (m : List Bool) → v ≡ true → m ≡ evaluated word (p n []).gates → satisfies m (formula_of n p) ≡ true
  satisfies_by m one is =
      let gates = (p n []).gates in
      let order : AreInOrder (length word) gates = subst (λ k. AreInOrder k gates) (sym size) order_of in
      let on = evaluated_from word gates in
      let whole : m ≡ word ++ on.0 = is ∙ on.1 in
      let kept : AreKept m n gates = subst (λ k. AreKept m k gates) size (subst (λ a. AreKept a (length word) gates) (sym is) (evaluated_keeps word gates order)) in
      let bit : signal_bit (word ++ on.0) (p n []).got ≡ true = bit_of on.0 (subst (λ a. AreKept a n gates) whole kept) ∙ one in
      satisfies_from m n p (record {
        size = ap length is ∙ length-evaluated word gates ∙ ap (λ k. k + length gates) size;
        kept = kept;
        bit = subst (λ a. signal_bit a (p n []).got ≡ true) (sym whole) bit;
      })
