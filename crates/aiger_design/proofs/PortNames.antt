-- The ports of an imported design have names of their own.
use Rattle.std.proofs.Common.{◌≡◌, ◌⊎◌, ℕ, zero, suc, ◌+◌, ◌<◌, ◌≤◌, ◌^◌, Bool, true, false, cond, List, [], ◌∷◌, ◌++◌, map, length, drop, get_or, decimal, refl, sym, ap, ap₂, subst, ◌∙◌, inl, inr, arith, append_assoc}
use Rattle.std.specs.Cmp.Lexicographic.{same_text}
use Rattle.std.proofs.lemmas.List.{map-append, append-nil}
use Rattle.std.proofs.lemmas.Fmt.{decimal_injective}
use Rattle.wiring.specs.Wiring.{In}
use Rattle.wiring.proofs.Members.{In-append_cases}
use Rattle.hw_model.specs.Types.{Name}
use Rattle.hw_model.specs.Design.{Port, same_name}
use Rattle.op_verifier.specs.Headers.{is_among, has_seen, has_twice}
use Rattle.aiger_laws.specs.declared.tree.Latch.{Latch}
use Rattle.aiger_laws.specs.Trees.{Aiger}
use Rattle.aiger_design.specs.Built.{clock_ports, input_ports, output_ports, imported_ports}

-- a letter and numbers in decimal, from one on, so many
abbrev names_from : ℕ → ℕ → ℕ → List Name
names_from letter k zero = []
names_from letter k (suc n) = (letter ∷ decimal k) ∷ names_from letter (suc k) n

-- among the names a letter stands with lower numbers alone
abbrev AreBelow : ℕ → ℕ → List Name → Type 0
AreBelow letter k seen = (x : Name) → In x seen → (j : ℕ) → j < 2 ^ 64 → x ≡ letter ∷ decimal j → j < k

not_among : (name : Name) (seen : List Name) → ((x : Name) → In x seen → x ≡ name → ⊥) → is_among name seen ≡ false
not_among name [] other = refl
not_among name (n ∷ seen) other = go (same_name name n) refl (not_among name seen (λ x here. other x (inr here)))
  where
    go : (b : Bool) → same_name name n ≡ b → is_among name seen ≡ false → cond b true (is_among name seen) ≡ false
    go true is rest = absurd (other n (inl refl) (sym (same_text name n (sym is))))
    go false is rest = rest

-- the next name is new
below_new : (letter k : ℕ) (seen : List Name) → k < 2 ^ 64 → AreBelow letter k seen → is_among (letter ∷ decimal k) seen ≡ false
below_new letter k seen low below = not_among (letter ∷ decimal k) seen (λ x here same. let less : k < k = below x here k low same in absurd (omega (arith, less)))

below_more : (letter k : ℕ) (seen : List Name) → k < 2 ^ 64 → AreBelow letter k seen → AreBelow letter (suc k) (seen ++ (letter ∷ decimal k) ∷ [])
below_more letter k seen low below x here j small same = go (In-append_cases x seen ((letter ∷ decimal k) ∷ []) here)
  where
    go : In x seen ⊎ In x ((letter ∷ decimal k) ∷ []) → j < suc k
    go (inl before) = let less : j < k = below x before j small same in omega (arith, less)
    go (inr (inl last)) = let is : k ≡ j = decimal_injective k j low small (ap (drop 1) (sym last ∙ same)) in omega (arith, is)
    go (inr (inr never)) = absurd never

-- names with numbers are apart from those before, and from each other
apart_then : (letter k n : ℕ) (seen rest : List Name) → k + n ≤ 2 ^ 64 → AreBelow letter k seen → has_seen (seen ++ names_from letter k n) rest ≡ false
    → has_seen seen (names_from letter k n ++ rest) ≡ false
apart_then letter k zero seen rest few below after = subst (λ xs. has_seen xs rest ≡ false) (append-nil seen) after
apart_then letter k (suc n) seen rest few below after =
    ap (λ b. cond b true (has_seen (seen ++ (letter ∷ decimal k) ∷ []) (names_from letter (suc k) n ++ rest))) (below_new letter k seen (omega (arith, few)) below)
    ∙ apart_then letter (suc k) n (seen ++ (letter ∷ decimal k) ∷ []) rest (omega (arith, few)) (below_more letter k seen (omega (arith, few)) below)
    (subst (λ xs. has_seen xs rest ≡ false) (sym (append_assoc seen ((letter ∷ decimal k) ∷ []) (names_from letter (suc k) n))) after)

-- other letters stand with no number
other_letter : (letter other : ℕ) → (other ≡ letter → ⊥) → (k n : ℕ) (seen : List Name) → AreBelow letter 0 seen → AreBelow letter 0 (seen ++ names_from other k n)
other_letter letter other apart k n seen below x here j small same = go (In-append_cases x seen (names_from other k n) here)
  where
    first : (k n : ℕ) → In x (names_from other k n) → ⊥
    first k zero never = never
    first k (suc n) (inl is) = apart (ap (λ (y : Name). get_or y 0 0) (sym is ∙ same))
    first k (suc n) (inr later) = first (suc k) n later

    go : In x seen ⊎ In x (names_from other k n) → j < 0
    go (inl before) = below x before j small same
    go (inr new) = absurd (first k n new)

-- ---- the names of ports

input_names : (k : ℕ) (ls : List ℕ) → map (λ (q : Port). q.name) (input_ports k ls) ≡ names_from 105 k (length ls)
input_names k [] = refl
input_names k (l ∷ ls) = ap (λ ns. (105 ∷ decimal k) ∷ ns) (input_names (suc k) ls)

output_names : (k : ℕ) (ls : List ℕ) → map (λ (q : Port). q.name) (output_ports k ls) ≡ names_from 111 k (length ls)
output_names k [] = refl
output_names k (l ∷ ls) = ap (λ ns. (111 ∷ decimal k) ∷ ns) (output_names (suc k) ls)

module _ (t : Aiger) (few_inputs : length t.inputs ≤ 2 ^ 64) (few_outputs : length t.outputs ≤ 2 ^ 64) where
  names_are : map (λ (q : Port). q.name) (input_ports 0 t.inputs ++ output_ports 0 t.outputs) ≡ names_from 105 0 (length t.inputs) ++ names_from 111 0 (length t.outputs)
  names_are =
      map-append (λ (q : Port). q.name) (input_ports 0 t.inputs) (output_ports 0 t.outputs) ∙ ap₂ (λ xs ys. xs ++ ys) (input_names 0 t.inputs) (output_names 0 t.outputs)

  apart_behind : (seen : List Name) → AreBelow 105 0 seen → AreBelow 111 0 seen → has_seen seen (map (λ (q : Port). q.name) (input_ports 0 t.inputs ++ output_ports 0 t.outputs)) ≡ false
  apart_behind seen inputs outputs =
      ap (has_seen seen) names_are
      ∙ apart_then 105 0 (length t.inputs) seen (names_from 111 0 (length t.outputs)) (omega (arith, few_inputs)) inputs
      (ap (has_seen (seen ++ names_from 105 0 (length t.inputs))) (sym (append-nil (names_from 111 0 (length t.outputs))))
      ∙ apart_then 111 0 (length t.outputs) (seen ++ names_from 105 0 (length t.inputs)) [] (omega (arith, few_outputs))
      (other_letter 111 105 (λ is. absurd (omega (arith, is))) 0 (length t.inputs) seen outputs) refl)

  pub names_apart : has_twice (map (λ (q : Port). q.name) (imported_ports t)) ≡ false
  names_apart = go t.latches
    where
      clock_below : (letter : ℕ) → (99 ≡ letter → ⊥) → AreBelow letter 0 ((99 ∷ 108 ∷ 111 ∷ 99 ∷ 107 ∷ []) ∷ [])
      clock_below letter apart x (inl is) j small same = absurd (apart (ap (λ (y : Name). get_or y 0 0) (sym is ∙ same)))
      clock_below letter apart x (inr never) j small same = absurd never

      go : (ls : List Latch) → has_twice (map (λ (q : Port). q.name) (clock_ports ls ++ (input_ports 0 t.inputs ++ output_ports 0 t.outputs))) ≡ false
      go [] = apart_behind [] (λ x never. absurd never) (λ x never. absurd never)
      go (l ∷ ls) = apart_behind ((99 ∷ 108 ∷ 111 ∷ 99 ∷ 107 ∷ []) ∷ []) (clock_below 105 (λ is. absurd (omega (arith, is)))) (clock_below 111 (λ is. absurd (omega (arith, is))))
