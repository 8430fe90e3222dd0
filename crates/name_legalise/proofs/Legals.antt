-- Legal names of lists.
use Rattle.std.proofs.Common.{◌≡◌, ℕ, suc, ◌+◌, ◌<◌, ◌≤◌, ◌^◌, Bool, true, false, not, ◌&&◌, ◌||◌, List, [], ◌∷◌, ◌++◌, length, get_or, drop, add-one, drop-cons, append_assoc, length-append, IsTrue, refl, sym, ap, ◌∙◌, true≢false, arith}
use Rattle.hw_model.specs.Types.{Name}
use Rattle.hw_model.specs.Design.{same_name}
use Rattle.verilog_model.specs.Tokens.{is_name_byte}
use Rattle.verilog_model.specs.Numerals.{all_bytes}
use Rattle.verilog_model.specs.Reserved.{reserved_words}
use Rattle.verilog_model.specs.Checks.{contains_name, starts_name, is_identifier, are_distinct, all_identifiers, names_check}
use Rattle.verilog_model.proofs.Numerals.{and_intro, and_first, and_second}
use Rattle.fresh_names.specs.Fresh.{is_taken, with_suffix, free_name}
use Rattle.fresh_names.proofs.Taken.{same_is, taken_more, taken_last, one_more}
use Rattle.fresh_names.proofs.Free.{name_free, name_stays}
use Rattle.fresh_names.proofs.Giving.{free_prefix}
use Rattle.name_legalise.specs.Legal.{clean, legal_name, legal_after}
use Rattle.name_legalise.proofs.Members.{is_taken-append, contains_name-is_taken, free_second, free_both}
use Rattle.name_legalise.proofs.Suffixes.{reserved_count, suffixed_unreserved, least_within}
use Rattle.name_legalise.proofs.NameBytes.{cleaned_same, starts_named, bytes_named}

-- ---- one after another

append_none : (ts : List Name) → ts ++ [] ≡ ts
append_none [] = refl
append_none (t ∷ ts) = ap (λ l. t ∷ l) (append_none ts)

regrouped : (ts : List Name) (n : Name) (us : List Name) → (ts ++ n ∷ []) ++ us ≡ ts ++ (n ∷ us)
regrouped ts n us = rw append_assoc

-- one name more is made legal
pub legal_step : (ts us ws whole : List Name) (i : ℕ) (d w : Name) → i < length ws → w ≡ get_or ws i d → us ≡ ts ++ legal_name ts w ∷ [] → ts ++ legal_after ts (drop i ws) ≡ whole
    → us ++ legal_after us (drop (i + 1) ws) ≡ whole
legal_step ts us ws whole i d w lt at added e =
    let here : drop i ws ≡ get_or ws i d ∷ drop (i + 1) ws = rw (add-one, drop-cons ws i d) in
    ap (λ l. l ++ legal_after l (drop (i + 1) ws)) added
    ∙ regrouped ts (legal_name ts w) (legal_after (ts ++ legal_name ts w ∷ []) (drop (i + 1) ws))
    ∙ ap (λ n. ts ++ legal_after ts (n ∷ drop (i + 1) ws)) at
    ∙ sym (ap (λ l. ts ++ legal_after ts l) here)
    ∙ e

pub legal_count : (ts ws : List Name) → length (legal_after ts ws) ≡ length ws
legal_count ts [] = refl
legal_count ts (w ∷ ws) = ap suc (legal_count (ts ++ legal_name ts w ∷ []) ws)

-- ---- free names

pub legal_free : (ts : List Name) (w : Name) → length ts + 125 < 2 ^ 64 → is_taken (reserved_words ++ ts) (legal_name ts w) ≡ false
legal_free ts w small = name_free (reserved_words ++ ts) (clean w) (omega (arith, length-append reserved_words ts, reserved_count, small))

more_small : (ts : List Name) (n : Name) (k : ℕ) → length ts + suc k + 124 < 2 ^ 64 → length (ts ++ n ∷ []) + k + 124 < 2 ^ 64
more_small ts n k small = omega (arith, one_more ts n, small)

-- what is taken is none of the names that are made legal after it
pub legal_after_free : (ts ws : List Name) (q : Name) → length ts + length ws + 124 < 2 ^ 64 → is_taken ts q ≡ true → contains_name q (legal_after ts ws) ≡ false
legal_after_free ts [] q small t = refl
legal_after_free ts (w ∷ ws) q small t =
    go (same_name (legal_name ts w) q) refl (legal_after_free (ts ++ legal_name ts w ∷ []) ws q (more_small ts (legal_name ts w) (length ws) small) (taken_more ts (legal_name ts w ∷ []) q t)) where
      go : (b : Bool) → same_name (legal_name ts w) q ≡ b → contains_name q (legal_after (ts ++ legal_name ts w ∷ []) ws) ≡ false
          → (b || contains_name q (legal_after (ts ++ legal_name ts w ∷ []) ws)) ≡ false
      go true e r =
          let free : is_taken ts (legal_name ts w) ≡ false = free_second reserved_words ts (legal_name ts w) (legal_free ts w (omega (arith, small))) in
          absurd (true≢false (sym t ∙ ap (is_taken ts) (sym (same_is (legal_name ts w) q e)) ∙ free))
      go false e r = r

pub legal_distinct : (ts ws : List Name) → length ts + length ws + 124 < 2 ^ 64 → IsTrue (are_distinct (legal_after ts ws))
legal_distinct ts [] small = refl
legal_distinct ts (w ∷ ws) small =
    let n = legal_name ts w in
    let less = more_small ts n (length ws) small in
    and_intro (not (contains_name n (legal_after (ts ++ n ∷ []) ws))) (are_distinct (legal_after (ts ++ n ∷ []) ws))
    (ap not (legal_after_free (ts ++ n ∷ []) ws n less (taken_last ts n)))
    (legal_distinct (ts ++ n ∷ []) ws less)

-- ---- identifiers

pub legal_bytes : (ts : List Name) (w : Name) → length ts + 124 < 2 ^ 64 → IsTrue (all_bytes is_name_byte (legal_name ts w))
legal_bytes ts w small = bytes_named (reserved_words ++ ts) w (omega (arith, length-append reserved_words ts, reserved_count, small))

pub legal_starts : (ts : List Name) (w : Name) → length ts + 124 < 2 ^ 64 → IsTrue (starts_name (legal_name ts w))
legal_starts ts w small = starts_named (reserved_words ++ ts) w (omega (arith, length-append reserved_words ts, reserved_count, small))

pub legal_unreserved : (ts : List Name) (w : Name) → length ts + 125 < 2 ^ 64 → contains_name (legal_name ts w) reserved_words ≡ false
legal_unreserved ts w small =
    contains_name-is_taken (legal_name ts w) reserved_words ∙ free_prefix reserved_words ts (legal_name ts w) (legal_free ts w small)

pub legal_identifier : (ts : List Name) (w : Name) → length ts + 125 < 2 ^ 64 → IsTrue (is_identifier (legal_name ts w))
legal_identifier ts w small =
    let n = legal_name ts w in
    and_intro (starts_name n) (all_bytes is_name_byte n && not (contains_name n reserved_words)) (legal_starts ts w (omega (arith, small)))
    (and_intro (all_bytes is_name_byte n) (not (contains_name n reserved_words)) (legal_bytes ts w (omega (arith, small))) (ap not (legal_unreserved ts w small)))

pub legal_identifiers : (ts ws : List Name) → length ts + length ws + 124 < 2 ^ 64 → IsTrue (all_identifiers (legal_after ts ws))
legal_identifiers ts [] small = refl
legal_identifiers ts (w ∷ ws) small =
    let n = legal_name ts w in
    and_intro (is_identifier n) (all_identifiers (legal_after (ts ++ n ∷ []) ws)) (legal_identifier ts w (omega (arith, small)))
    (legal_identifiers (ts ++ n ∷ []) ws (more_small ts n (length ws) small))

pub legal_checks : (ts ws : List Name) → length ts + length ws + 124 < 2 ^ 64 → IsTrue (names_check (legal_after ts ws))
legal_checks ts ws small = and_intro (are_distinct (legal_after ts ws)) (all_identifiers (legal_after ts ws)) (legal_distinct ts ws small) (legal_identifiers ts ws small)

-- ---- names that stay, and others

not_true : (b : Bool) → IsTrue (not b) → b ≡ false
not_true true h = sym h
not_true false h = refl

pub legal_stays : (ts : List Name) (w : Name) → IsTrue (is_identifier w) → contains_name w ts ≡ false → legal_name ts w ≡ w
legal_stays ts w h free =
    let rest = and_second (starts_name w) (all_bytes is_name_byte w && not (contains_name w reserved_words)) h in
    let same = cleaned_same w (and_first (starts_name w) (all_bytes is_name_byte w && not (contains_name w reserved_words)) h) (and_first (all_bytes is_name_byte w) (not (contains_name w reserved_words)) rest) in
    let plain = not_true (contains_name w reserved_words) (and_second (all_bytes is_name_byte w) (not (contains_name w reserved_words)) rest) in
    ap (free_name (reserved_words ++ ts)) same
    ∙ name_stays (reserved_words ++ ts) w (free_both reserved_words ts w (sym (contains_name-is_taken w reserved_words) ∙ plain) (sym (contains_name-is_taken w ts) ∙ free))

either : (a b : Bool) → (a || b) ≡ true → a ≡ false → b ≡ true
either true b e f = cc
either false b e f = e

pub legal_least : (ts : List Name) (w : Name) → length ts + 125 < 2 ^ 64 → contains_name (clean w) (reserved_words ++ ts) ≡ true
    → (n : ℕ) × (legal_name ts w ≡ with_suffix (clean w) n) × ((k : ℕ) → k < n → contains_name (with_suffix (clean w) k) ts ≡ true)
legal_least ts w small t = (found.0, found.1, below) where
  count : length (reserved_words ++ ts) ≡ 124 + length ts
  count = length-append reserved_words ts ∙ ap (λ n. n + length ts) reserved_count

  found : (n : ℕ) × (free_name (reserved_words ++ ts) (clean w) ≡ with_suffix (clean w) n) × ((k : ℕ) → k < n → is_taken (reserved_words ++ ts) (with_suffix (clean w) k) ≡ true) × (n ≤ length (reserved_words ++ ts))
  found = least_within (reserved_words ++ ts) (clean w) (sym (contains_name-is_taken (clean w) (reserved_words ++ ts)) ∙ t)

  below : (k : ℕ) → k < found.0 → contains_name (with_suffix (clean w) k) ts ≡ true
  below k lt =
      let name = with_suffix (clean w) k in
      contains_name-is_taken name ts
      ∙ either (is_taken reserved_words name) (is_taken ts name) (sym (is_taken-append reserved_words ts name) ∙ found.2 k lt)
      (suffixed_unreserved (clean w) k (omega (arith, lt, found.3, count, small)))
