-- No suffixed name is a reserved word: none of them ends with `_` and digits.
use Rattle.std.proofs.Common.{◌≡◌, ℕ, zero, suc, ◌+◌, ◌<◌, ◌≤◌, ◌^◌, Bool, true, false, cond, not, ◌&&◌, ◌||◌, ◌==◌, nat_eq, List, [], ◌∷◌, ◌++◌, length, decimal, IsTrue, subst, refl, sym, ap, ◌∙◌, true≢false, arith}
use Rattle.std.specs.Cmp.Lexicographic.{pointwise}
use Rattle.hw_model.specs.Types.{Name}
use Rattle.verilog_model.specs.Tokens.{is_digit}
use Rattle.verilog_model.specs.Numerals.{all_bytes, is_nonempty}
use Rattle.verilog_model.specs.Reserved.{reserved_words}
use Rattle.verilog_model.proofs.Numerals.{and_first, and_second, is_decimal-decimal}
use Rattle.fresh_names.specs.Fresh.{is_taken, with_suffix, free_from, free_name}
use Rattle.fresh_names.proofs.Taken.{same_is}
use Rattle.fresh_names.proofs.Free.{all_below, name_stays, name_suffixed}
use Rattle.std.proofs.lemmas.Bool.{or_left, or_right}

-- whether a name ends with `_` and digits
abbrev pub is_numbered : Name → Bool
is_numbered [] = false
is_numbered (b ∷ bs) = (b == 95 && all_bytes is_digit bs) || is_numbered bs

abbrev pub none_numbered : List Name → Bool
none_numbered [] = true
none_numbered (w ∷ ws) = not (is_numbered w) && none_numbered ws

reserved_unnumbered : IsTrue (none_numbered reserved_words)
unfolding reserved_words
reserved_unnumbered = refl

pub reserved_count : length reserved_words ≡ 124
unfolding reserved_words
reserved_count = refl

not_true : (b : Bool) → IsTrue (not b) → b ≡ false
not_true true h = sym h
not_true false h = refl

numbered_free : (q : Name) (ws : List Name) → IsTrue (is_numbered q) → IsTrue (none_numbered ws) → is_taken ws q ≡ false
numbered_free q [] h none = refl
numbered_free q (w ∷ ws) h none = go (pointwise nat_eq w q) refl (numbered_free q ws h (and_second (not (is_numbered w)) (none_numbered ws) none)) where
  go : (b : Bool) → pointwise nat_eq w q ≡ b → is_taken ws q ≡ false → cond b true (is_taken ws q) ≡ false
  go true e r = absurd (true≢false (sym h ∙ ap is_numbered (sym (same_is w q e)) ∙ not_true (is_numbered w) (and_first (not (is_numbered w)) (none_numbered ws) none)))
  go false e r = r

numbered_after : (w ds : List ℕ) → IsTrue (all_bytes is_digit ds) → IsTrue (is_numbered (w ++ (95 ∷ ds)))
numbered_after [] ds h = or_left (all_bytes is_digit ds) (is_numbered ds) h
numbered_after (b ∷ w) ds h = or_right (b == 95 && all_bytes is_digit (w ++ (95 ∷ ds))) (is_numbered (w ++ (95 ∷ ds))) (numbered_after w ds h)

-- (a number of 2^64 or more is no number of code)
pub suffixed_unreserved : (w : Name) (k : ℕ) → k < 2 ^ 64 → is_taken reserved_words (with_suffix w k) ≡ false
unfolding with_suffix
suffixed_unreserved w k small =
    let digits = and_second (is_nonempty (decimal k)) (all_bytes is_digit (decimal k)) (is_decimal-decimal k small) in
    numbered_free (w ++ (95 ∷ decimal k)) reserved_words (numbered_after w (decimal k) digits) reserved_unnumbered

-- the number of the name that is found, which is at most the last one that is tried
least_from : (ts : List Name) (w : Name) (n k : ℕ) → ((j : ℕ) → j < k → is_taken ts (with_suffix w j) ≡ true)
    → (m : ℕ) × (free_from ts w n k ≡ with_suffix w m) × ((j : ℕ) → j < m → is_taken ts (with_suffix w j) ≡ true) × (m ≤ n + k)
least_from ts w zero k h = (k, refl, h, omega arith)
least_from ts w (suc n) k h = go (is_taken ts (with_suffix w k)) refl (least_from ts w n (k + 1)) where
  go : (b : Bool) → is_taken ts (with_suffix w k) ≡ b
      → (((j : ℕ) → j < k + 1 → is_taken ts (with_suffix w j) ≡ true) → (m : ℕ) × (free_from ts w n (k + 1) ≡ with_suffix w m) × ((j : ℕ) → j < m → is_taken ts (with_suffix w j) ≡ true) × (m ≤ n + (k + 1)))
      → (m : ℕ) × (cond b (free_from ts w n (k + 1)) (with_suffix w k) ≡ with_suffix w m) × ((j : ℕ) → j < m → is_taken ts (with_suffix w j) ≡ true) × (m ≤ suc n + k)
  go true t rest = let found = rest (all_below ts w k t h) in (found.0, found.1, found.2, omega (arith, found.3))
  go false t rest = (k, refl, h, omega arith)

pub least_within : (ts : List Name) (w : Name) → is_taken ts w ≡ true
    → (m : ℕ) × (free_name ts w ≡ with_suffix w m) × ((j : ℕ) → j < m → is_taken ts (with_suffix w j) ≡ true) × (m ≤ length ts)
least_within ts w t =
    let found = least_from ts w (length ts) 0 (λ j lt. absurd (omega (arith, lt))) in
    (found.0, name_suffixed ts w t ∙ found.1, found.2, omega (arith, found.3))

-- the free name is the wanted one, or a suffixed one with a number of code
pub name_within : (ts : List Name) (w : Name) (P : Name → Type 0) → length ts < 2 ^ 64 → P w → ((k : ℕ) → k < 2 ^ 64 → P (with_suffix w k)) → P (free_name ts w)
name_within ts w P small plain more = go (is_taken ts w) refl where
  go : (b : Bool) → is_taken ts w ≡ b → P (free_name ts w)
  go false e = subst P (sym (name_stays ts w e)) plain
  go true e =
      let found = least_within ts w e in
      subst P (sym found.1) (more found.0 (omega (arith, found.3, small)))

-- the free name of a taken one is no reserved word
pub name_unreserved : (ts : List Name) (w : Name) → length ts < 2 ^ 64 → is_taken ts w ≡ true → is_taken reserved_words (free_name ts w) ≡ false
name_unreserved ts w small t =
    let found = least_within ts w t in
    ap (is_taken reserved_words) found.1 ∙ suffixed_unreserved w found.0 (omega (arith, found.3, small))
