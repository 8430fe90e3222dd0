-- What is read of a word is the literal that it writes, as far as it is kept.
use Rattle.std.proofs.Common.{◌≡◌, ℕ, ◌-◌, ◌*◌, ◌^◌, ◌<◌, ◌≤◌, min, Bool, true, false, cond, List, [], ◌∷◌, length, take, drop, refl, sym, ◌∙◌, ap, arith, length-drop}
use Rattle.std.specs.Prelude.{◌==◌, nat_lt, nat_le, ◌&&◌, Option, Some, None, is_some}
use Rattle.std.proofs.lemmas.Bool.{eqb-true, eqb-false, eq-eqb, ne_eqb}
use Rattle.std.proofs.lemmas.Bool.Decides.{nat_tests}
use Rattle.bits_core.specs.Word.{bits}
use Rattle.verilog_model.specs.Numerals.{decimal_number, hex_number, is_hex}
use Rattle.step_file.specs.declared.literal.Value.{Value}
use Rattle.step_file.specs.declared.literal.ShortLiteral.{ShortLiteral}
use Rattle.step_file.specs.Literals.{Literal, is_width, width_length, literal_by, literal_at, literal_of, is_literal, bits_in, word_in}
use Rattle.step_file.specs.Digits.{width_by, value_by, short_parts, short_by, short_at, short_of, short_bits}
use Rattle.step_file.proofs.ReadDigits.{ReadsWidth, width_by_tells, ReadsValue, value_by_tells, fits_yes, fits_no, IsWithinBits, value_by_within}

-- the literal is kept: its width up to 2^32, its value where it has at most 128 bits
abbrev pub IsKept : Option Literal → Option ShortLiteral → Type 0
IsKept None None = Unit {0}
IsKept None (Some s) = ⊥
IsKept (Some l) None = ⊥
IsKept (Some l) (Some s) = (s.width ≡ min l.width (2 ^ 32)) × (l.width ≤ 128 → s.value ≡ l.value)

-- the literal of a width and a value, by what is asked of them
abbrev literal_if : Bool → Bool → Bool → ℕ → ℕ → Option Literal
literal_if w h fits width value = cond (w && (h && fits)) (Some (record { width = width; value = value })) None

no_width : (h fits : Bool) (width value : ℕ) (w : Bool) → w ≡ false → IsKept (literal_if w h fits width value) None
no_width h fits width value true e = absurd (let k : ⊥ = cc in k)
no_width h fits width value false e = tt

no_value : (fits : Bool) (width value : ℕ) (w h : Bool) → h ≡ false → IsKept (literal_if w h fits width value) None
no_value fits width value true true e = absurd (let k : ⊥ = cc in k)
no_value fits width value false true e = tt
no_value fits width value true false e = tt
no_value fits width value false false e = tt

no_room : (width value : ℕ) (w h fits : Bool) → fits ≡ false → IsKept (literal_if w h fits width value) None
no_room width value true true true e = absurd (let k : ⊥ = cc in k)
no_room width value false true true e = tt
no_room width value true false true e = tt
no_room width value false false true e = tt
no_room width value true true false e = tt
no_room width value false true false e = tt
no_room width value true false false e = tt
no_room width value false false false e = tt

room : (width value s k : ℕ) (w h fits : Bool) → w ≡ true → h ≡ true → fits ≡ true → s ≡ min width (2 ^ 32) → (width ≤ 128 → k ≡ value)
    → IsKept (literal_if w h fits width value) (Some (record { width = s; value = k }))
room width value s k true true true a b c d e = (d, e)
room width value s k false h fits a b c d e = absurd (let q : ⊥ = cc in q)
room width value s k true false fits a b c d e = absurd (let q : ⊥ = cc in q)
room width value s k true true false a b c d e = absurd (let q : ⊥ = cc in q)

within_width : (b s width c : ℕ) → s ≡ min width c → b ≤ s → b ≤ width
within_width b s width c e h = omega arith

above_width : (b s width c : ℕ) → s ≡ min width c → b < c → s < b → width < b
above_width b s width c e most h = omega arith

below_128 : (b s width c : ℕ) → s ≡ min width c → b ≤ s → width ≤ 128 → b ≤ 128
below_128 b s width c e h most = omega arith

kept_parts : (ow : Option ℕ) (ov : Option Value) (w h : Bool) (width value : ℕ) → ReadsWidth ow w width → ReadsValue ov h value → IsWithinBits ov (2 ^ 28)
    → IsKept (literal_if w h (nat_lt value (2 ^ width)) width value) (short_parts ow ov)
kept_parts None ov w h width value rw_ rv i = no_width h (nat_lt value (2 ^ width)) width value w rw_
kept_parts (Some s) None w h width value rw_ rv i = no_value (nat_lt value (2 ^ width)) width value w h rv
kept_parts (Some s) (Some v) w h width value rw_ rv i = by_test (nat_le v.bits s) refl
  where
    by_test : (t : Bool) → nat_le v.bits s ≡ t → IsKept (literal_if w h (nat_lt value (2 ^ width)) width value) (cond t (Some (record { width = s; value = v.low })) None)
    by_test true e =
        let le : v.bits ≤ s = grind (arith, nat_tests) in
        room width value s v.low w h (nat_lt value (2 ^ width)) rw_.0 rv.0 (fits_yes v value width rv.1 (within_width v.bits s width (2 ^ 32) rw_.1 le)) rw_.1
        (λ most. rv.1.low (below_128 v.bits s width (2 ^ 32) rw_.1 le most))
    by_test false e =
        let lt : s < v.bits = grind (arith, nat_tests) in
        let most : v.bits < 2 ^ 32 = omega (arith, i) in
        no_room width value w h (nat_lt value (2 ^ width)) (fits_no v value width rv.1 (above_width v.bits s width (2 ^ 32) rw_.1 most lt))

few_bits : (ov : Option Value) (n : ℕ) → n ≤ 2 ^ 26 → IsWithinBits ov (4 * n) → IsWithinBits ov (2 ^ 28)
few_bits None n h i = tt
few_bits (Some v) n h i = omega (arith, h, i)

kept_by : (w h : List ℕ) → length h ≤ 2 ^ 26 → IsKept (literal_by w h) (short_by w h)
unfolding literal_by short_by
kept_by w h short =
    kept_parts (width_by w) (value_by h) (is_width w) (is_hex h) (decimal_number w) (hex_number h) (width_by_tells w) (value_by_tells h)
    (few_bits (value_by h) (length h) short (value_by_within h))

kept_if : (t : Bool) (o : Option Literal) (s : Option ShortLiteral) → IsKept o s → IsKept (cond t o None) (cond t s None)
kept_if true o s h = h
kept_if false o s h = tt

kept_at : (w behind : List ℕ) → length behind ≤ 2 ^ 26 → IsKept (literal_at w behind) (short_at w behind)
kept_at w [] short = tt
kept_at w (q ∷ []) short = tt
kept_at w (q ∷ b ∷ h) short = kept_if (b == 104) (literal_by w h) (short_by w h) (kept_by w h (omega (arith, short)))

kept : (word : List ℕ) → length word ≤ 2 ^ 26 → IsKept (literal_of word) (short_of word)
unfolding literal_of short_of
kept word short =
    kept_at (take (width_length word) word) (drop (width_length word) word)
    (let e : length (drop (width_length word) word) ≡ length word - width_length word = length-drop (width_length word) word in omega (arith, e, short))

same_width : (s width n c : ℕ) → s ≡ min width c → n < c → s ≡ n → width ≡ n
same_width s width n c e small is = omega arith

other_width : (s width n c : ℕ) → s ≡ min width c → n < c → (s ≡ n → ⊥) → width ≡ n → ⊥
other_width s width n c e small is eq = is (omega arith)

bits_kept : (n : ℕ) (o : Option Literal) (s : Option ShortLiteral) → n ≤ 128 → IsKept o s → short_bits n s ≡ bits_in n o
bits_kept n None None most h = refl
bits_kept n None (Some s) most h = absurd h
bits_kept n (Some l) None most h = absurd h
bits_kept n (Some l) (Some s) most h = by_test (s.width == n) refl
  where
    by_test : (t : Bool) → (s.width == n) ≡ t → cond t (Some (bits n s.value)) None ≡ cond (l.width == n) (Some (bits n l.value)) None
    by_test true e =
        let is : l.width ≡ n = same_width s.width l.width n (2 ^ 32) h.0 (omega (arith, most)) (eqb-true s.width n e) in
        let same : s.value ≡ l.value = h.1 (omega (arith, is, most)) in
        ap (λ (v : ℕ). Some (bits n v)) same ∙ ap (λ (t : Bool). cond t (Some (bits n l.value)) None) (sym (eq-eqb l.width n is))
    by_test false e =
        ap (λ (t : Bool). cond t (Some (bits n l.value)) None) (sym (ne_eqb l.width n (other_width s.width l.width n (2 ^ 32) h.0 (omega (arith, most)) (eqb-false s.width n e))))

-- the bits that are read of a word are those of the literal that it writes
pub word_kept : (n : ℕ) (word : List ℕ) → n ≤ 128 → length word ≤ 2 ^ 26 → short_bits n (short_of word) ≡ word_in n word
word_kept n word most short = bits_kept n (literal_of word) (short_of word) most (kept word short)

there : (o : Option Literal) (s : Option ShortLiteral) → IsKept o s → is_some s ≡ is_some o
there None None h = refl
there None (Some s) h = absurd h
there (Some l) None h = absurd h
there (Some l) (Some s) h = refl

-- a word is read exactly where it writes a literal
pub literal_kept : (word : List ℕ) → length word ≤ 2 ^ 26 → is_some (short_of word) ≡ is_literal word
literal_kept word short = there (literal_of word) (short_of word) (kept word short)
