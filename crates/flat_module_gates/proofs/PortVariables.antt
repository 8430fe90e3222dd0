-- The words of ports over the first variables.
use Rattle.std.proofs.Common.{◌≡◌, refl, ap, ap₂, ◌∙◌, ℕ, zero, suc, ◌+◌, ◌≤◌, Bool, true, false, cond, List, [], ◌∷◌, take, drop, arith}
use Rattle.gates.specs.declared.signal.Signal.{Signal}
use Rattle.gates.specs.declared.signal.Signal.TheVariants.{Wire}
use Rattle.gates.specs.Signals.{pin_of}
use Rattle.hw_model.specs.Types.{width}
use Rattle.hw_model.specs.Design.{Port}
use Rattle.hw_model.specs.Flat.{input_width}
use Rattle.net_gates.specs.NetGateLists.{variables}
use Rattle.flat_module_gates.specs.FlatGateLists.{port_words, words_over}

take_variables : (w n start : ℕ) → w ≤ n → take w (variables start n) ≡ variables start w
take_variables zero n start within = refl
take_variables (suc w) zero start within = absurd (omega arith)
take_variables (suc w) (suc n) start within = ap (λ (xs : List Signal). Wire (pin_of (suc start)) ∷ xs) (take_variables w n (suc start) (omega arith))

-- so many variables from one on, of those after the first ones
part_of_variables : (start w n first : ℕ) → start + w ≤ n → take w (drop start (variables first n)) ≡ variables (first + start) w
part_of_variables zero w n first within = take_variables w n first (omega arith) ∙ (let same : first ≡ first + 0 = omega arith in ap (λ (k : ℕ). variables k w) same)
part_of_variables (suc start) w zero first within = absurd (omega arith)
part_of_variables (suc start) w (suc n) first within =
    part_of_variables start w n (suc first) (omega arith) ∙ (let same : suc first + start ≡ first + suc start = omega arith in ap (λ (k : ℕ). variables k w) same)

words_from : (n start : ℕ) (ps : List Port) → start + input_width ps ≤ n → words_over (variables 0 n) start ps ≡ port_words start ps
words_from n start [] within = refl
words_from n start (p ∷ ps) within = go p.is_output (words_from n start ps) (words_from n (start + width p.type) ps) within
  where
    go : (b : Bool) → (start + input_width ps ≤ n → words_over (variables 0 n) start ps ≡ port_words start ps)
        → (start + width p.type + input_width ps ≤ n → words_over (variables 0 n) (start + width p.type) ps ≡ port_words (start + width p.type) ps)
        → start + cond b (input_width ps) (width p.type + input_width ps) ≤ n
        → cond b [] (take (width p.type) (drop start (variables 0 n))) ∷ words_over (variables 0 n) (cond b start (start + width p.type)) ps
        ≡ cond b [] (variables start (width p.type)) ∷ port_words (cond b start (start + width p.type)) ps
    go true rest after within = ap (λ (xs : List (List Signal)). [] ∷ xs) (rest within)
    go false rest after within =
        let own : start + width p.type ≤ n = omega arith in
        let left : start + width p.type + input_width ps ≤ n = omega arith in
        let none : 0 + start ≡ start = omega arith in
        ap₂ (λ (x : List Signal) (xs : List (List Signal)). x ∷ xs)
        (part_of_variables start (width p.type) n 0 own ∙ ap (λ (k : ℕ). variables k (width p.type)) none) (after left)

-- they are those of the ports
pub words_of_variables : (ps : List Port) → words_over (variables 0 (input_width ps)) 0 ps ≡ port_words 0 ps
words_of_variables ps = words_from (input_width ps) 0 ps (let all : 0 + input_width ps ≤ input_width ps = omega arith in all)
