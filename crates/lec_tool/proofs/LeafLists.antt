-- The names of inputs, one after another.
use Rattle.std.proofs.Common.{◌≡◌, ℕ, zero, suc, ◌+◌, Bool, true, false, cond, List, [], ◌∷◌, ◌++◌, drop, refl, sym, ap, ◌∙◌, arith, append_assoc}
use Rattle.std.proofs.lemmas.List.{append-nil}
use Rattle.hw_model.specs.Types.{Name}
use Rattle.hw_model.specs.Design.{Port}
use Rattle.lec_tool.specs.LeafNames.{input_names, is_output_at}

-- ---- inputs

-- names after those of ports all stay
all_stay : (names : List Name) → input_names [] names ≡ names
all_stay [] = refl
all_stay (n ∷ names) = refl

-- a name stays unless its port is an output
one_kept : (ps : List Port) (j : ℕ) (n : Name) (names : List Name)
    → input_names (drop j ps) (n ∷ names) ≡ cond (is_output_at ps j) (input_names (drop (suc j) ps) names) (n ∷ input_names (drop (suc j) ps) names)
one_kept [] zero n names = ap (λ xs. n ∷ xs) (sym (all_stay names))
one_kept [] (suc j) n names = ap (λ xs. n ∷ xs) (sym (all_stay names))
one_kept (p ∷ ps) zero n names = refl
one_kept (p ∷ ps) (suc j) n names = one_kept ps j n names

pub name_next : (ps : List Port) (j : ℕ) (n : Name) (names : List Name) → is_output_at ps j ≡ false → input_names (drop j ps) (n ∷ names) ≡ n ∷ input_names (drop (j + 1) ps) names
name_next ps j n names is = let e : suc j ≡ j + 1 = omega arith in
    one_kept ps j n names ∙ ap (λ b. cond b (input_names (drop (suc j) ps) names) (n ∷ input_names (drop (suc j) ps) names)) is ∙ ap (λ k. n ∷ input_names (drop k ps) names) e

pub output_next : (ps : List Port) (j : ℕ) (n : Name) (names : List Name) → is_output_at ps j ≡ true → input_names (drop j ps) (n ∷ names) ≡ input_names (drop (j + 1) ps) names
output_next ps j n names is = let e : suc j ≡ j + 1 = omega arith in
    one_kept ps j n names ∙ ap (λ b. cond b (input_names (drop (suc j) ps) names) (n ∷ input_names (drop (suc j) ps) names)) is ∙ ap (λ k. input_names (drop k ps) names) e

pub names_end : (ps : List Port) → input_names ps [] ≡ []
names_end [] = refl
names_end (p ∷ ps) = refl

-- one more name, which stays unless it is one of an output
pub name_step : (ps : List Port) (j : ℕ) (n : Name) (names made more whole rest : List Name) (b : Bool) → b ≡ is_output_at ps j → more ≡ made ++ cond b [] (n ∷ []) → rest ≡ n ∷ names
    → made ++ input_names (drop j ps) rest ≡ whole → more ++ input_names (drop (j + 1) ps) names ≡ whole
name_step ps j n names made more whole rest true out is next all =
    ap (λ xs. xs ++ input_names (drop (j + 1) ps) names) (is ∙ append-nil made) ∙ ap (λ ys. made ++ ys) (sym (output_next ps j n names (sym out))) ∙ ap (λ ys. made ++ input_names (drop j ps) ys) (sym next) ∙ all
name_step ps j n names made more whole rest false out is next all =
    ap (λ xs. xs ++ input_names (drop (j + 1) ps) names) is ∙ append_assoc made (n ∷ []) (input_names (drop (j + 1) ps) names)
    ∙ ap (λ ys. made ++ ys) (sym (name_next ps j n names (sym out))) ∙ ap (λ ys. made ++ input_names (drop j ps) ys) (sym next) ∙ all
