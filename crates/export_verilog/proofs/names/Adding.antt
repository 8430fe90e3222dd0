-- Names that are added one after another.
use Rattle.std.proofs.Common.{◌≡◌, ℕ, zero, suc, ◌+◌, ◌<◌, ◌≤◌, List, [], ◌∷◌, ◌++◌, map, length, drop, get_or, Option, Some, refl, sym, ◌∙◌, ap, append_assoc, arith, zero-add, suc-add, add-zero, add-suc}
use Rattle.std.proofs.lemmas.List.{append-nil, drop_all}
use Rattle.hw_model.specs.Types.{Name}
use Rattle.hw_model.specs.Kinds.{Instance}
use Rattle.name_legalise.specs.Legal.{legal_name, legal_after}
use Rattle.wiring.proofs.Joined.{split_at}
use Rattle.export_verilog.specs.Identifiers.{result_name_hint}
use Rattle.export_verilog.specs.Held.{result_name_hints}

module _ (ts us ws wholeN : List Name) (list one wholeL : List (Option Name)) (k : ℕ) (w n : Name) (lt : k < length ws) (at : w ≡ get_or ws k w)
    (is : n ≡ legal_name ts w) (took : us ≡ ts ++ legal_name ts w ∷ []) where
  next : drop k ws ≡ w ∷ drop (k + 1) ws
  next = split_at ws k w lt at

  pub names_step : ts ++ legal_after ts (drop k ws) ≡ wholeN → us ++ legal_after us (drop (k + 1) ws) ≡ wholeN
  names_step inv =
      ap (λ u. u ++ legal_after u (drop (k + 1) ws)) took
      ∙ append_assoc ts (legal_name ts w ∷ []) (legal_after (ts ++ legal_name ts w ∷ []) (drop (k + 1) ws))
      ∙ ap (λ l. ts ++ legal_after ts l) (sym next) ∙ inv

  pub list_step : list ++ map (λ (x : Name). Some x) (legal_after ts (drop k ws)) ≡ wholeL → one ≡ list ++ Some n ∷ []
      → one ++ map (λ (x : Name). Some x) (legal_after us (drop (k + 1) ws)) ≡ wholeL
  list_step inv e =
      ap (λ l. l ++ map (λ (x : Name). Some x) (legal_after us (drop (k + 1) ws))) (e ∙ ap (λ x. list ++ Some x ∷ []) is)
      ∙ ap (λ u. (list ++ Some (legal_name ts w) ∷ []) ++ map (λ (x : Name). Some x) (legal_after u (drop (k + 1) ws))) took
      ∙ append_assoc list (Some (legal_name ts w) ∷ []) (map (λ (x : Name). Some x) (legal_after (ts ++ legal_name ts w ∷ []) (drop (k + 1) ws)))
      ∙ ap (λ l. list ++ map (λ (x : Name). Some x) (legal_after ts l)) (sym next) ∙ inv

pub names_end : (ts ws wholeN : List Name) (k : ℕ) → length ws ≤ k → ts ++ legal_after ts (drop k ws) ≡ wholeN → ts ≡ wholeN
names_end ts ws wholeN k le inv = sym (append-nil ts) ∙ ap (λ l. ts ++ legal_after ts l) (sym (drop_all k ws le)) ∙ inv

pub list_end : (ts ws : List Name) (list wholeL : List (Option Name)) (k : ℕ) → length ws ≤ k
    → list ++ map (λ (x : Name). Some x) (legal_after ts (drop k ws)) ≡ wholeL → list ≡ wholeL
list_end ts ws list wholeL k le inv = sym (append-nil list) ∙ ap (λ l. list ++ map (λ (x : Name). Some x) (legal_after ts l)) (sym (drop_all k ws le)) ∙ inv

-- ---- the names that are wanted for an instance's results

pub name_hint_count : (i : Instance) (k n : ℕ) → length (result_name_hints i k n) ≡ n
name_hint_count i k zero = refl
name_hint_count i k (suc n) = ap suc (name_hint_count i (suc k) n)

pub name_hint_at : (i : Instance) (k n j : ℕ) → j < n → result_name_hint i (k + j) ≡ get_or (result_name_hints i k n) j (result_name_hint i (k + j))
name_hint_at i k zero j lt = absurd (omega (arith, lt))
name_hint_at i k (suc n) zero lt = ap (result_name_hint i) (add-zero k)
name_hint_at i k (suc n) (suc j) lt =
    ap (result_name_hint i) (add-suc k j ∙ sym (suc-add k j)) ∙ name_hint_at i (suc k) n j (omega (arith, lt))
    ∙ ap (λ m. get_or (result_name_hints i (suc k) n) j (result_name_hint i m)) (suc-add k j ∙ sym (add-suc k j))

pub name_hint_first : (i : Instance) (n j : ℕ) → j < n → result_name_hint i j ≡ get_or (result_name_hints i 0 n) j (result_name_hint i j)
name_hint_first i n j lt =
    ap (result_name_hint i) (sym (zero-add j)) ∙ name_hint_at i 0 n j lt ∙ ap (λ m. get_or (result_name_hints i 0 n) j (result_name_hint i m)) (zero-add j)
