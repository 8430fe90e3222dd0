-- The signals of inputs whose clocks are 1 carry the bits of all inputs.
use Rattle.std.proofs.Common.{◌≡◌, refl, sym, ap, ◌∙◌, ℕ, ◌+◌, ◌≤◌, Bool, true, false, cond, List, [], ◌∷◌, length, drop, arith, length-append, drop-drop}
use Rattle.bits_core.specs.Word.{Word}
use Rattle.bits_core.proofs.First.{length-first}
use Rattle.gates.proofs.Carrying.{Carrying}
use Rattle.gate_words.proofs.Words.CarriesWord.{none, more}
use Rattle.gate_words.proofs.Words.{CarriesWord, word_same, word-append}
use Rattle.hw_model.specs.Types.{HwType, width}
use Rattle.hw_model.specs.Types.HwType.{int, clock, array, struct}
use Rattle.hw_model.specs.Design.{Port}
use Rattle.hw_model.specs.Flat.{input_width}
use Rattle.net_gates.specs.ClockedInputs.{free_width, free_word, next_bits, port_bits, clocked_word, with_clock, free_bits, clocked_signals, with_clocks}
use Rattle.net_gates.proofs.InputWords.{CarriesInputs, length-variables}

-- ---- widths

next_bits_long : (t : HwType) (x : Word) → length (next_bits t x) ≡ width t
next_bits_long clock x = refl
next_bits_long (int w) x = length-first w x
next_bits_long (array n t) x = length-first (width (array n t)) x
next_bits_long (struct fs) x = length-first (width (struct fs)) x

-- the bits are those of all inputs
pub with_clocks_long : (ps : List Port) (x : Word) → length (with_clocks ps x) ≡ input_width ps
with_clocks_long [] x = refl
with_clocks_long (p ∷ ps) x =
    length-append (with_clock p x) (with_clocks ps (drop (port_bits p) x)) ∙ ap (λ (n : ℕ). length (with_clock p x) + n) (with_clocks_long ps (drop (port_bits p) x)) ∙ go p.is_output
  where
    go : (b : Bool) → length (cond b [] (next_bits p.type x)) + input_width ps ≡ cond b (input_width ps) (width p.type + input_width ps)
    go true = let none : 0 + input_width ps ≡ input_width ps = omega arith in none
    go false = ap (λ (n : ℕ). n + input_width ps) (next_bits_long p.type x)

free_word_long : (start : ℕ) (t : HwType) → length (free_word start t) ≡ width t
free_word_long start clock = refl
free_word_long start (int w) = length-variables w start
free_word_long start (array n t) = length-variables (width (array n t)) start
free_word_long start (struct fs) = length-variables (width (struct fs)) start

-- so are the signals
pub clocked_signals_long : (ps : List Port) (start : ℕ) → length (clocked_signals start ps) ≡ input_width ps
clocked_signals_long [] start = refl
clocked_signals_long (p ∷ ps) start =
    length-append (clocked_word start p) (clocked_signals (start + port_bits p) ps)
    ∙ ap (λ (n : ℕ). length (clocked_word start p) + n) (clocked_signals_long ps (start + port_bits p)) ∙ go p.is_output
  where
    go : (b : Bool) → length (cond b [] (free_word start p.type)) + input_width ps ≡ cond b (input_width ps) (width p.type + input_width ps)
    go true = let none : 0 + input_width ps ≡ input_width ps = omega arith in none
    go false = ap (λ (n : ℕ). n + input_width ps) (free_word_long start p.type)

-- ---- what signals carry

module _ {total : ℕ} (c : Carrying total) (x : Word) (given : CarriesInputs total c x) (k : ℕ) (l : total ≤ k) where
  type_carried : (t : HwType) (start : ℕ) → start + free_width t ≤ length x → CarriesWord c k (next_bits t (drop start x)) (free_word start t)
  type_carried clock start within = more _ _ _ _ (c.fixed k true) none
  type_carried (int w) start within = given k start w l within
  type_carried (array n t) start within = given k start (width (array n t)) l within
  type_carried (struct fs) start within = given k start (width (struct fs)) l within

  port_carried : (p : Port) (start : ℕ) → start + port_bits p ≤ length x → CarriesWord c k (with_clock p (drop start x)) (clocked_word start p)
  port_carried p start = go p.is_output
    where
      go : (b : Bool) → start + cond b 0 (free_width p.type) ≤ length x → CarriesWord c k (cond b [] (next_bits p.type (drop start x))) (cond b [] (free_word start p.type))
      go true within = none
      go false within = type_carried p.type start within

  ports_from : (ps : List Port) (start : ℕ) → start + free_bits ps ≤ length x → CarriesWord c k (with_clocks ps (drop start x)) (clocked_signals start ps)
  ports_from [] start within = none
  ports_from (p ∷ ps) start within =
      let own : start + port_bits p ≤ length x = omega arith in
      let left : start + port_bits p + free_bits ps ≤ length x = omega arith in
      word-append c k (with_clock p (drop start x)) (clocked_word start p) (with_clocks ps (drop (port_bits p) (drop start x))) (clocked_signals (start + port_bits p) ps)
      (port_carried p start own)
      (word_same c k (with_clocks ps (drop (start + port_bits p) x)) (with_clocks ps (drop (port_bits p) (drop start x))) (clocked_signals (start + port_bits p) ps)
      (ap (with_clocks ps) (sym (drop-drop (port_bits p) start x))) (ports_from ps (start + port_bits p) left))

  -- where variables carry the inputs that are no clocks, the signals carry all inputs
  pub ports_carried : (ps : List Port) → length x ≡ free_bits ps → CarriesWord c k (with_clocks ps x) (clocked_signals 0 ps)
  ports_carried ps size = ports_from ps 0 (let all : 0 + free_bits ps ≤ length x = omega arith in all)
