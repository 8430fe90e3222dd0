-- The names of bits are made one after another.
use Rattle.std.proofs.Common.{◌≡◌, refl, sym, ap, ◌∙◌, ℕ, zero, suc, ◌-◌, ◌<◌, ◌≤◌, ◌⊎◌, inl, inr, List, [], ◌∷◌, ◌++◌, map, length, arith, append_assoc, length-append}
use Rattle.std.proofs.lemmas.List.{append-nil, length-map}
use Rattle.hw_model.specs.Types.{Name}
use Rattle.hw_model.specs.Design.{Port, Op}
use Rattle.module_names.specs.ModuleNames.{register_names, wanted_names, all_names}
use Rattle.name_legalise.proofs.Legals.{legal_count}
use Rattle.aiger_export.specs.BitNames.{bit_name, bit_names, word_bits}

-- one more bit
pub bit_step : (before now whole : List Name) (name x : Name) (left : ℕ) → 0 < left → now ≡ before ++ x ∷ [] → x ≡ bit_name name (left - 1)
    → before ++ bit_names name left ≡ whole → now ++ bit_names name (left - 1) ≡ whole
bit_step before now whole name x zero some added is have = absurd (omega (arith, some))
bit_step before now whole name x (suc k) some added is have =
    let e : suc k - 1 ≡ k = omega arith in
    ap (λ b. b ++ bit_names name (suc k - 1)) added
    ∙ append_assoc before (x ∷ []) (bit_names name (suc k - 1))
    ∙ ap (λ y. before ++ y ∷ bit_names name (suc k - 1)) is
    ∙ ap (λ j. before ++ bit_name name j ∷ bit_names name j) e
    ∙ have

none_left : (names : List Name) → word_bits names [] ≡ []
none_left [] = refl
none_left (n ∷ ns) = refl

-- no name, or no width, is left
pub words_ended : (made whole names : List Name) (ws : List ℕ) → (names ≡ []) ⊎ (ws ≡ []) → made ++ word_bits names ws ≡ whole → made ≡ whole
words_ended made whole names ws (inl none) have = sym (append-nil made) ∙ sym (ap (λ ns. made ++ word_bits ns ws) none) ∙ have
words_ended made whole names ws (inr none) have = sym (append-nil made) ∙ sym (ap (λ xs. made ++ xs) (ap (word_bits names) none ∙ none_left names)) ∙ have

-- each port has a name
pub names_enough : (ps : List Port) (os : List Op) → length ps ≤ length (all_names ps os)
names_enough ps os =
    let count = legal_count [] (wanted_names ps os) in
    let sum = length-append (map (λ (p : Port). p.name) ps) (register_names os) in
    let ports = length-map ps (λ (p : Port). p.name) in
    omega (arith, count, sum, ports)
