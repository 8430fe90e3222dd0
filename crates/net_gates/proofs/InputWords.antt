-- The variables of inputs and content carry their bits.
use Rattle.std.proofs.Common.{◌≡◌, refl, sym, ap, subst, ◌∙◌, ℕ, zero, suc, ◌+◌, ◌-◌, ◌<◌, ◌≤◌, Bool, true, false, [], ◌∷◌, ◌++◌, length, drop, slice_index_or, arith, length-append}
use Rattle.std.proofs.Math.Bool.{beq}
use Rattle.bits_core.specs.Word.{Word, first}
use Rattle.bits_core.proofs.First.{first_all}
use Rattle.gates.specs.Signals.{variable_bit}
use Rattle.gates.proofs.Carrying.{Carrying}
use Rattle.gates.proofs.Instances.{bits_under, variables_in_order}
use Rattle.gate_words.proofs.Words.CarriesWord.{none, more}
use Rattle.gate_words.proofs.Words.{CarriesWord, word_same}
use Rattle.gate_words.proofs.Computing.{counting}
use Rattle.net_gates.specs.NetGateLists.{variables}

pub length-variables : (w start : ℕ) → length (variables start w) ≡ w
length-variables zero start = refl
length-variables (suc w) start = ap suc (length-variables w (suc start))

-- the first variables carry the bits of the word, each part of it
abbrev pub CarriesInputs : (total : ℕ) → Carrying total → Word → Type 0
CarriesInputs total c word = (k start w : ℕ) → total ≤ k → start + w ≤ length word → CarriesWord c k (first w (drop start word)) (variables start w)

-- the first bits of what stands from a position on
first_more : (word : Word) (start w : ℕ) → start < length word → first (suc w) (drop start word) ≡ slice_index_or word start false ∷ first w (drop (suc start) word)
first_more [] start w h = absurd (omega arith)
first_more (b ∷ word) zero w h = refl
first_more (b ∷ word) (suc start) w h = first_more word start w (omega arith)

bit_of_first : (word rest : Word) (start : ℕ) → start < length word → slice_index_or (word ++ rest) start false ≡ slice_index_or word start false
bit_of_first [] rest start h = absurd (omega arith)
bit_of_first (b ∷ word) rest zero h = refl
bit_of_first (b ∷ word) rest (suc start) h = bit_of_first word rest start (omega arith)

beq_true : (b : Bool) → beq b true ≡ b
beq_true true = refl
beq_true false = refl

pub inputs_under : (word rest : Word) → CarriesInputs (length word) (bits_under (word ++ rest) (length word)) word
inputs_under word rest k start zero l within = none
inputs_under word rest k start (suc w) l within =
    let inside : start < length word = omega arith in
    let position : suc start - 1 ≡ start = omega arith in
    let bit : beq (variable_bit (word ++ rest) (suc start)) true ≡ slice_index_or word start false =
    beq_true (variable_bit (word ++ rest) (suc start)) ∙ ap (λ i. slice_index_or (word ++ rest) i false) position ∙ bit_of_first word rest start inside in
    word_same (bits_under (word ++ rest) (length word)) k _ _ _ (sym (first_more word start w inside))
    (more _ _ _ _ bit (inputs_under word rest k (suc start) w l (omega arith)))

pub inputs_counted : (word : Word) (total : ℕ) → CarriesInputs total (counting total) word
inputs_counted word total k start zero l within = none
inputs_counted word total k start (suc w) l within =
    let inside : start < length word = omega arith in
    word_same (counting total) k _ _ _ (sym (first_more word start w inside)) (more _ _ _ _ tt (inputs_counted word total k (suc start) w l (omega arith)))

pub inputs_within : (word : Word) → CarriesInputs (length word) (variables_in_order (length word)) word
inputs_within word k start zero l within = none
inputs_within word k start (suc w) l within =
    let inside : start < length word = omega arith in
    let some : 1 ≤ suc start = omega arith in
    let there : suc start ≤ k = omega arith in
    word_same (variables_in_order (length word)) k _ _ _ (sym (first_more word start w inside))
    (more _ _ _ _ (some, there) (inputs_within word k (suc start) w l (omega arith)))

-- ---- inputs, and the content after them

pub first_inputs : (w start : ℕ) (inputs content : Word) → start + w ≤ length inputs → first w (drop start (inputs ++ content)) ≡ first w (drop start inputs)
first_inputs zero start inputs content within = refl
first_inputs (suc w) zero [] content within = absurd (omega arith)
first_inputs (suc w) zero (b ∷ inputs) content within = ap (λ (v : Word). b ∷ v) (first_inputs w zero inputs content (omega arith))
first_inputs (suc w) (suc start) [] content within = absurd (omega arith)
first_inputs (suc w) (suc start) (b ∷ inputs) content within = first_inputs (suc w) start inputs content (omega arith)

pub drop_inputs : (start : ℕ) (inputs content : Word) → drop (length inputs + start) (inputs ++ content) ≡ drop start content
drop_inputs start [] content = ap (λ k. drop k content) (let e : 0 + start ≡ start = omega arith in e)
drop_inputs start (b ∷ inputs) content = let e : length (b ∷ inputs) + start ≡ suc (length inputs + start) = omega arith in
    ap (λ k. drop k (b ∷ inputs ++ content)) e ∙ drop_inputs start inputs content

module _ {total : ℕ} (c : Carrying total) where
  -- the first variables carry the inputs
  pub inputs_first : (x q : Word) → CarriesInputs total c (x ++ q) → CarriesInputs total c x
  inputs_first x q given k start w l within =
      word_same c k (first w (drop start (x ++ q))) (first w (drop start x)) (variables start w) (first_inputs w start x q within)
      (given k start w l (omega (arith, length-append x q)))

  -- and those after them the content
  pub content_given : (x q : Word) → CarriesInputs total c (x ++ q) → (k : ℕ) → total ≤ k → CarriesWord c k q (variables (length x) (length q))
  content_given x q given k l =
      let at : length x + 0 ≡ length x = omega arith in
      subst (λ a. CarriesWord c k q (variables a (length q))) at
      (word_same c k (first (length q) (drop (length x + 0) (x ++ q))) q (variables (length x + 0) (length q))
      (ap (first (length q)) (drop_inputs 0 x q) ∙ first_all (length q) q refl)
      (given k (length x + 0) (length q) l (omega (arith, length-append x q))))

  -- all of a word whose parts are carried
  pub whole_carried : (x : Word) → CarriesInputs total c x → (k : ℕ) → total ≤ k → CarriesWord c k x (variables 0 (length x))
  whole_carried x given k l =
      word_same c k (first (length x) (drop 0 x)) x (variables 0 (length x)) (first_all (length x) x refl) (given k 0 (length x) l (omega arith))
