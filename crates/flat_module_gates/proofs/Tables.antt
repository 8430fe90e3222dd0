-- Words of variables, of ports and of content, one after another.
use Rattle.std.proofs.Common.{◌≡◌, refl, sym, ap, ◌∙◌, ℕ, zero, suc, ◌+◌, ◌-◌, ◌<◌, ◌≤◌, List, [], ◌∷◌, ◌++◌, length, drop, Option, Some, None, slice_get, arith, append_assoc, append-nil}
use Rattle.wiring.proofs.Lists.{drop_some}
use Rattle.gates.specs.declared.signal.Signal.{Signal}
use Rattle.gates.specs.declared.signal.Signal.TheVariants.{Wire}
use Rattle.gates.specs.Signals.{pin_of}
use Rattle.hw_model.specs.Design.{Port, Op}
use Rattle.net_gates.specs.NetGateLists.{variables}
use Rattle.flat_module_gates.specs.FlatGateLists.{port_word, after_port, port_words, own_bits, bits_in, starts_from, no_words}

variable_after : (w start : ℕ) → variables start (suc w) ≡ variables start w ++ Wire (pin_of (suc (start + w))) ∷ []
variable_after zero start = let same : start ≡ start + 0 = omega arith in ap (λ (k : ℕ). Wire (pin_of (suc k)) ∷ []) same
variable_after (suc w) start =
    let same : suc start + w ≡ start + suc w = omega arith in
    ap (λ (xs : List Signal). Wire (pin_of (suc start)) ∷ xs) (variable_after w (suc start) ∙ ap (λ (k : ℕ). variables (suc start) w ++ Wire (pin_of (suc k)) ∷ []) same)

pub variables_begin : (start : ℕ) → [] ≡ variables start (start - start)
variables_begin start = let none : 0 ≡ start - start = omega arith in ap (variables start) none

pub variables_more : (start before next : ℕ) (word more : List Signal) → start ≤ before → next ≡ before + 1 → word ≡ variables start (before - start)
    → more ≡ word ++ Wire (pin_of next) ∷ [] → more ≡ variables start (before + 1 - start)
variables_more start before next word more from at have is =
    let width : suc (before - start) ≡ before + 1 - start = omega arith in
    let number : next ≡ suc (start + (before - start)) = omega arith in
    is ∙ ap (λ (xs : List Signal). xs ++ Wire (pin_of next) ∷ []) have ∙ ap (λ (k : ℕ). variables start (before - start) ++ Wire (pin_of k) ∷ []) number
    ∙ sym (variable_after (before - start) start) ∙ ap (variables start) width

pub variables_end : (start width before end : ℕ) (word : List Signal) → end ≡ start + width → start ≤ before → before ≤ end → end ≤ before → word ≡ variables start (before - start) → word ≡ variables start width
variables_end start width before end word sum from low high have = have ∙ (let same : before - start ≡ width = omega arith in ap (variables start) same)

-- ---- lists that go on by one, with a number that is carried

module _ {A B : Type 0} (gate_lists : ℕ → List A → List B) (none : (n : ℕ) → gate_lists n [] ≡ []) (gate_list : ℕ → A → B) (next : ℕ → A → ℕ)
    (more : (n : ℕ) (x : A) (xs : List A) → gate_lists n (x ∷ xs) ≡ gate_list n x ∷ gate_lists (next n x) xs) where
  pub gate_lists_more : (whole done made : List B) (xs : List A) (i n m : ℕ) (x : A) → slice_get xs i ≡ Some x → whole ≡ done ++ gate_lists n (drop i xs)
      → made ≡ done ++ gate_list n x ∷ [] → m ≡ next n x → whole ≡ made ++ gate_lists m (drop (i + 1) xs)
  gate_lists_more whole done made xs i n m x at have is go =
      let position : suc i ≡ i + 1 = omega arith in
      have ∙ ap (λ (ys : List A). done ++ gate_lists n ys) (drop_some xs i x at) ∙ ap (λ (ys : List B). done ++ ys) (more n x (drop (suc i) xs))
      ∙ sym (append_assoc done (gate_list n x ∷ []) (gate_lists (next n x) (drop (suc i) xs)))
      ∙ ap (λ (ys : List B). ys ++ gate_lists (next n x) (drop (suc i) xs)) (sym is)
      ∙ ap (λ (k : ℕ). made ++ gate_lists k (drop (suc i) xs)) (sym go)
      ∙ ap (λ (k : ℕ). made ++ gate_lists m (drop k xs)) position

  pub gate_lists_end : (whole done : List B) (xs : List A) (i n : ℕ) → length xs ≤ i → whole ≡ done ++ gate_lists n (drop i xs) → done ≡ whole
  gate_lists_end whole done xs i n past have =
      sym (have ∙ ap (λ (ys : List A). done ++ gate_lists n ys) (dropped xs i past) ∙ ap (λ (ys : List B). done ++ ys) (none n) ∙ append-nil done)
    where
      dropped : (xs : List A) (i : ℕ) → length xs ≤ i → drop i xs ≡ []
      dropped [] zero past = refl
      dropped [] (suc i) past = refl
      dropped (x ∷ xs) zero past = absurd (omega arith)
      dropped (x ∷ xs) (suc i) past = dropped xs i (omega arith)

pub ports_more : (whole done made : List (List Signal)) (ps : List Port) (i n m : ℕ) (p : Port) → slice_get ps i ≡ Some p → whole ≡ done ++ port_words n (drop i ps)
    → made ≡ done ++ port_word n p ∷ [] → m ≡ after_port n p → whole ≡ made ++ port_words m (drop (i + 1) ps)
ports_more = gate_lists_more port_words (λ n. refl) port_word after_port (λ n x xs. refl)

pub ports_end : (whole done : List (List Signal)) (ps : List Port) (i n : ℕ) → length ps ≤ i → whole ≡ done ++ port_words n (drop i ps) → done ≡ whole
ports_end = gate_lists_end port_words (λ n. refl) port_word after_port (λ n x xs. refl)

pub starts_more : (whole done made : List ℕ) (os : List Op) (i n m : ℕ) → i < length os → whole ≡ done ++ starts_from n (drop i os)
    → made ≡ done ++ n ∷ [] → m ≡ n + bits_in (slice_get os i) → whole ≡ made ++ starts_from m (drop (i + 1) os)
starts_more whole done made os i n m below have is go = by (slice_get os i) refl
  where
    by : (o : Option Op) → slice_get os i ≡ o → whole ≡ made ++ starts_from m (drop (i + 1) os)
    by None at = absurd (missing os i below at)
      where
        missing : (xs : List Op) (i : ℕ) → i < length xs → slice_get xs i ≡ None → ⊥
        missing [] i below at = omega arith
        missing (x ∷ xs) zero below at = cc
        missing (x ∷ xs) (suc i) below at = missing xs i (omega arith) at
    by (Some o) at =
        gate_lists_more starts_from (λ k. refl) (λ k x. k) (λ k x. k + own_bits x) (λ k x xs. refl) whole done made os i n m o at have is
        (go ∙ ap (λ (y : Option Op). n + bits_in y) at)

pub starts_end : (whole done : List ℕ) (os : List Op) (i n : ℕ) → length os ≤ i → whole ≡ done ++ starts_from n (drop i os) → done ≡ whole
starts_end = gate_lists_end starts_from (λ k. refl) (λ k x. k) (λ k x. k + own_bits x) (λ k x xs. refl)

pub empty_more : (n : ℕ) (words more : List (List Signal)) (x : List Signal) → words ≡ no_words n → x ≡ [] → more ≡ words ++ x ∷ [] → more ≡ no_words (n + 1)
empty_more n words more x have empty is =
    is ∙ ap (λ (ys : List Signal). words ++ ys ∷ []) empty ∙ ap (λ (ws : List (List Signal)). ws ++ [] ∷ []) have ∙ one_more n ∙ (let same : suc n ≡ n + 1 = omega arith in ap no_words same)
  where
    one_more : (k : ℕ) → no_words k ++ [] ∷ [] ≡ no_words (suc k)
    one_more zero = refl
    one_more (suc k) = ap (λ (ws : List (List Signal)). [] ∷ ws) (one_more k)
