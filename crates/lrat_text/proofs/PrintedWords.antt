-- What is printed of numbers, literals and hints, read as words and as lines.
use Rattle.std.proofs.Common.{◌≡◌, ℕ, ◌+◌, ◌*◌, ◌/◌, ◌%◌, ◌^◌, ◌<◌, ◌≤◌, Bool, true, false, not, ◌&&◌, ◌||◌, cond, List, [], ◌∷◌, ◌++◌, length, eqb, leb, ltb, refl, sym, ◌∙◌, ap, arith, append_assoc, length-append}
use Rattle.std.specs.Prelude.{Option, Some, None, nat_eq, codes, decimal, map}
use Rattle.std.specs.List.{list_all}
use Rattle.std.specs.Cmp.Lexicographic.{pointwise}
use Rattle.std.proofs.lemmas.Bool.{and_parts, and_from, and_left, false≢true, not-true, not_from_false, leb-true, le-leb, lt-ltb, ne_eqb}
use Rattle.std.proofs.lemmas.Fmt.{decimal_by_steps}
use Rattle.std.proofs.lemmas.List.{map-append}
use Rattle.std.proofs.lemmas.List.Folds.{list_all-append}
use Rattle.resolution_proof.specs.declared.literal.Literal.{Literal}
use Rattle.resolution_proof.specs.declared.log.Hint.{Hint}
use Rattle.resolution_proof.specs.Clause.{is_among, is_within}
use Rattle.resolution_proof.proofs.Sets.{among_low, among_high}
use Rattle.lrat_text.specs.declared.word.Word.{Word}
use Rattle.lrat_text.specs.declared.word.Word.TheVariants.{End, Signed, Delete, Other}
use Rattle.text_lines.specs.Lines.{is_blank, onto, lines, goes_on, words}
use Rattle.lrat_text.specs.Numbers.{is_digit, with_digit, takes_digit, number_from, number}
use Rattle.lrat_text.specs.Words.{unsigned, negative, word_of, line_words}
use Rattle.lrat_text.specs.ProofLine.{and_more, until_end}
use Rattle.lrat_text.specs.Dimacs.{is_comment}
use Rattle.lrat_text.specs.Written.{literal_text, literals_text, hint_text, hints_text}
use Rattle.lrat_text.proofs.NumberStarts.{number_begins}
use Rattle.lrat_text.proofs.Reversal.{hint_of, hint_list}

-- digits that write a number
pub record IsDecimal (n : ℕ) (ds : List ℕ) : Type 0 where
  pub some : 0 < length ds
  pub digits : list_all is_digit ds ≡ true
  pub value : n < 2 ^ 64 → number_from 0 ds ≡ Some n

number_push : (a m : ℕ) (ds : List ℕ) (d : ℕ) → number_from a ds ≡ Some m → number_from a (ds ++ d ∷ []) ≡ cond (takes_digit m d) (Some (with_digit m d)) None
number_push a m [] d h = let one : a ≡ m = cc in ap (λ (k : ℕ). cond (takes_digit k d) (Some (with_digit k d)) None) one
number_push a m (b ∷ bs) d h = step (number_push (with_digit a b) m bs d) (takes_digit a b) h
  where
    step : (number_from (with_digit a b) bs ≡ Some m → number_from (with_digit a b) (bs ++ d ∷ []) ≡ cond (takes_digit m d) (Some (with_digit m d)) None) → (t : Bool) → cond t (number_from (with_digit a b) bs) None ≡ Some m
        → cond t (number_from (with_digit a b) (bs ++ d ∷ [])) None ≡ cond (takes_digit m d) (Some (with_digit m d)) None
    step ih true g = ih g
    step ih false g = absurd (let w : ⊥ = cc in w)

is_digit_from : (b : ℕ) → 48 ≤ b → b ≤ 57 → is_digit b ≡ true
is_digit_from b low high = and_from (leb 48 b) (leb b 57) (le-leb 48 b low) (le-leb b 57 high)

digit_taken : (m d : ℕ) → d < 10 → m * 10 + d < 2 ^ 64 → cond (takes_digit m (48 + d)) (Some (with_digit m (48 + d))) None ≡ Some (m * 10 + d)
digit_taken m d small fits =
    let same : with_digit m (48 + d) ≡ m * 10 + d = omega arith in
    let taken : takes_digit m (48 + d) ≡ true =
    and_from (is_digit (48 + d)) (ltb (with_digit m (48 + d)) (2 ^ 64)) (is_digit_from (48 + d) (omega arith) (omega arith)) (lt-ltb (with_digit m (48 + d)) (2 ^ 64) (omega (arith, same, fits))) in
    ap (λ (b : Bool). cond b (Some (with_digit m (48 + d))) None) taken ∙ ap (λ (k : ℕ). Some k) same

decimal_is : (n : ℕ) → n < 2 ^ 64 → IsDecimal n (decimal n)
decimal_is =
    decimal_by_steps IsDecimal
    (λ n small. record { some = omega arith; digits = and_from (is_digit (48 + n)) true (is_digit_from (48 + n) (omega arith) (omega arith)) refl; value = λ fits. one n small fits })
    (λ n ds large h. record {
      some = omega (arith, length-append ds ((48 + n % 10) ∷ []));
      digits = list_all-append is_digit ds ((48 + n % 10) ∷ [])
          ∙ and_from (list_all is_digit ds) (is_digit (48 + n % 10) && true) h.digits (and_from (is_digit (48 + n % 10)) true (is_digit_from (48 + n % 10) (omega arith) (omega arith)) refl);
      value = λ fits. more n ds (h.value (omega arith)) fits;
    })
  where
    one : (n : ℕ) → n < 10 → n < 2 ^ 64 → number_from 0 ((48 + n) ∷ []) ≡ Some n
    one n small fits = digit_taken 0 n small (omega arith) ∙ ap (λ (k : ℕ). Some k) (let w : 0 * 10 + n ≡ n = omega arith in w)

    more : (n : ℕ) (ds : List ℕ) → number_from 0 ds ≡ Some (n / 10) → n < 2 ^ 64 → number_from 0 (ds ++ (48 + n % 10) ∷ []) ≡ Some n
    more n ds v fits =
        number_push 0 (n / 10) ds (48 + n % 10) v ∙ digit_taken (n / 10) (n % 10) (omega arith) (omega arith) ∙ ap (λ (k : ℕ). Some k) (let w : n / 10 * 10 + n % 10 ≡ n = omega arith in w)

pub decimal_some : (n : ℕ) → n < 2 ^ 64 → 0 < length (decimal n)
decimal_some n fits = (decimal_is n fits).some

pub decimal_number : (n : ℕ) → n < 2 ^ 64 → number (decimal n) ≡ Some n
decimal_number n fits = let d = decimal_is n fits in sym (number_begins (decimal n) d.some) ∙ d.value fits

digits_all : (p : ℕ → Bool) → ((b : ℕ) → 48 ≤ b → b ≤ 57 → p b ≡ true) → (ds : List ℕ) → list_all is_digit ds ≡ true → list_all p ds ≡ true
digits_all p f [] h = refl
digits_all p f (b ∷ bs) h =
    let parts = and_parts (is_digit b) (list_all is_digit bs) h in
    let ends = and_parts (leb 48 b) (leb b 57) parts.0 in
    and_from (p b) (list_all p bs) (f b (leb-true 48 b ends.0) (leb-true b 57 ends.1)) (digits_all p f bs parts.1)

-- a word has no blank
abbrev pub is_solid : List ℕ → Bool
is_solid w = list_all (λ b. not (is_blank b)) w

-- a line has no LF
abbrev pub has_no_lf : List ℕ → Bool
has_no_lf t = list_all (λ b. not (eqb b 10)) t

pub decimal_solid : (n : ℕ) → n < 2 ^ 64 → is_solid (decimal n) ≡ true
decimal_solid n fits =
    digits_all (λ b. not (is_blank b)) (λ b low high. not_from_false (is_blank b) (no_blank b low high)) (decimal n) (decimal_is n fits).digits
  where
    either : (x y z : Bool) → x ≡ false → y ≡ false → z ≡ false → (x || (y || z)) ≡ false
    either true y z e f g = absurd (false≢true (sym e))
    either false true z e f g = absurd (false≢true (sym f))
    either false false z e f g = g

    no_blank : (b : ℕ) → 48 ≤ b → b ≤ 57 → is_blank b ≡ false
    no_blank b low high =
        let first = ne_eqb b 32 (λ e. let w : b ≡ 32 = e in omega (arith, w, low)) in
        let second = ne_eqb b 9 (λ e. let w : b ≡ 9 = e in omega (arith, w, low)) in
        let third = ne_eqb b 13 (λ e. let w : b ≡ 13 = e in omega (arith, w, low)) in
        either (eqb b 32) (eqb b 9) (eqb b 13) first second third

pub decimal_in_line : (n : ℕ) → n < 2 ^ 64 → has_no_lf (decimal n) ≡ true
decimal_in_line n fits =
    digits_all (λ b. not (eqb b 10)) (λ b low high. not_from_false (eqb b 10) (ne_eqb b 10 (λ e. let w : b ≡ 10 = e in omega (arith, w, low)))) (decimal n) (decimal_is n fits).digits

-- a word before a blank, and one that ends its line
pub word_then : (w : List ℕ) (b : ℕ) (rest : List ℕ) → 0 < length w → is_solid w ≡ true → is_blank b ≡ true → words (w ++ b ∷ rest) ≡ w ∷ words rest
unfolding words
word_then [] b rest some solid blank = absurd (omega (arith, some))
word_then (x ∷ []) b rest some solid blank =
    let first = not-true (is_blank x) ((and_parts (not (is_blank x)) true solid).0) in
    step (is_blank x) (is_blank b) first blank
  where
    step : (s t : Bool) → s ≡ false → t ≡ true
        → cond s (cond t (words rest) (cond (goes_on rest) (onto b (words rest)) ((b ∷ []) ∷ words rest)))
        (cond (not t) (onto x (cond t (words rest) (cond (goes_on rest) (onto b (words rest)) ((b ∷ []) ∷ words rest)))) ((x ∷ []) ∷ cond t (words rest) (cond (goes_on rest) (onto b (words rest)) ((b ∷ []) ∷ words rest))))
        ≡ (x ∷ []) ∷ words rest
    step true t e f = absurd (false≢true (sym e))
    step false true e f = refl
    step false false e f = absurd (false≢true f)
word_then (x ∷ y ∷ ys) b rest some solid blank =
    let parts = and_parts (not (is_blank x)) (is_solid (y ∷ ys)) solid in
    let more = and_parts (not (is_blank y)) (is_solid ys) parts.1 in
    step (is_blank x) (not (is_blank y)) (not-true (is_blank x) parts.0) more.0 (word_then (y ∷ ys) b rest (omega arith) parts.1 blank)
  where
    step : (s t : Bool) → s ≡ false → t ≡ true → words ((y ∷ ys) ++ b ∷ rest) ≡ (y ∷ ys) ∷ words rest
        → cond s (words ((y ∷ ys) ++ b ∷ rest)) (cond t (onto x (words ((y ∷ ys) ++ b ∷ rest))) ((x ∷ []) ∷ words ((y ∷ ys) ++ b ∷ rest))) ≡ (x ∷ y ∷ ys) ∷ words rest
    step true t e f ih = absurd (false≢true (sym e))
    step false true e f ih = ap (onto x) ih
    step false false e f ih = absurd (false≢true f)

pub word_ends : (w : List ℕ) → 0 < length w → is_solid w ≡ true → words w ≡ w ∷ []
unfolding words
word_ends [] some solid = absurd (omega (arith, some))
word_ends (x ∷ []) some solid =
    ap (λ (s : Bool). cond s [] ((x ∷ []) ∷ [])) (not-true (is_blank x) ((and_parts (not (is_blank x)) true solid).0))
word_ends (x ∷ y ∷ ys) some solid =
    let parts = and_parts (not (is_blank x)) (is_solid (y ∷ ys)) solid in
    let more = and_parts (not (is_blank y)) (is_solid ys) parts.1 in
    step (is_blank x) (not (is_blank y)) (not-true (is_blank x) parts.0) more.0 (word_ends (y ∷ ys) (omega arith) parts.1)
  where
    step : (s t : Bool) → s ≡ false → t ≡ true → words (y ∷ ys) ≡ (y ∷ ys) ∷ [] → cond s (words (y ∷ ys)) (cond t (onto x (words (y ∷ ys))) ((x ∷ []) ∷ words (y ∷ ys))) ≡ (x ∷ y ∷ ys) ∷ []
    step true t e f ih = absurd (false≢true (sym e))
    step false true e f ih = ap (onto x) ih
    step false false e f ih = absurd (false≢true f)

-- a line before an LF
pub line_then : (t rest : List ℕ) → has_no_lf t ≡ true → lines (t ++ 10 ∷ rest) ≡ t ∷ lines rest
unfolding lines
line_then [] rest h = refl
line_then (b ∷ bs) rest h =
    let parts = and_parts (not (eqb b 10)) (has_no_lf bs) h in
    step (eqb b 10) (not-true (eqb b 10) parts.0) (line_then bs rest parts.1)
  where
    step : (s : Bool) → s ≡ false → lines (bs ++ 10 ∷ rest) ≡ bs ∷ lines rest → cond s ([] ∷ lines (bs ++ 10 ∷ rest)) (onto b (lines (bs ++ 10 ∷ rest))) ≡ (b ∷ bs) ∷ lines rest
    step true e ih = absurd (false≢true (sym e))
    step false e ih = ap (onto b) ih

-- a number without a sign that is not 0
number_word : (n : ℕ) (ds : List ℕ) → 0 < length ds → list_all is_digit ds ≡ true → number ds ≡ Some n → 1 ≤ n → word_of ds ≡ Signed (record { variable = n; positive = true })
unfolding word_of
number_word n [] some digits value low = absurd (omega (arith, some))
number_word n (b ∷ bs) some digits value low =
    let parts = and_parts (is_digit b) (list_all is_digit bs) digits in
    let ends = and_parts (leb 48 b) (leb b 57) parts.0 in
    let from = leb-true 48 b ends.0 in
    let to = leb-true b 57 ends.1 in
    let minus = ne_eqb b 45 (λ e. let w : b ≡ 45 = e in omega (arith, w, from)) in
    let letter = and_left (nat_eq b 100) (pointwise nat_eq bs []) (ne_eqb b 100 (λ e. let w : b ≡ 100 = e in omega (arith, w, to))) in
    step (eqb b 45) (pointwise nat_eq (b ∷ bs) (codes "d")) (number (b ∷ bs)) (eqb n 0) minus letter value (ne_eqb n 0 (λ e. let w : n ≡ 0 = e in omega (arith, w, low)))
  where
    step : (s t : Bool) (o : Option ℕ) (z : Bool) → s ≡ false → t ≡ false → o ≡ Some n → eqb n 0 ≡ false → cond s (negative (number bs)) (cond t Delete (unsigned o)) ≡ Signed (record { variable = n; positive = true })
    step true t o z e f v g = absurd (false≢true (sym e))
    step false true o z e f v g = absurd (false≢true (sym f))
    step false false o z e f v g = ap unsigned v ∙ ap (λ (c : Bool). cond c End (Signed (record { variable = n; positive = true }))) g

minus_word : (n : ℕ) (ds : List ℕ) → number ds ≡ Some n → 1 ≤ n → word_of (45 ∷ ds) ≡ Signed (record { variable = n; positive = false })
unfolding word_of
minus_word n ds value low =
    ap negative value ∙ ap (λ (c : Bool). cond c Other (Signed (record { variable = n; positive = false }))) (ne_eqb n 0 (λ e. let w : n ≡ 0 = e in omega (arith, w, low)))

-- a number before a blank
pub number_said : (n : ℕ) → 1 ≤ n → n < 2 ^ 64 → (rest : List ℕ) → line_words (decimal n ++ 32 ∷ rest) ≡ Signed (record { variable = n; positive = true }) ∷ line_words rest
number_said n low fits rest =
    ap (λ (ws : List (List ℕ)). map word_of ws) (word_then (decimal n) 32 rest (decimal_some n fits) (decimal_solid n fits) refl)
    ∙ ap (λ (w : Word). w ∷ line_words rest) (number_word n (decimal n) (decimal_some n fits) (decimal_is n fits).digits (decimal_number n fits) low)

literal_said : (l : Literal) → 1 ≤ l.variable → l.variable < 2 ^ 64 → (rest : List ℕ) → line_words (literal_text l ++ rest) ≡ Signed l ∷ line_words rest
unfolding literal_text
literal_said l low fits rest = by_sign l.positive
  where
    by_sign : (p : Bool) → line_words ((cond p [] (codes "-") ++ (decimal l.variable ++ codes " ")) ++ rest) ≡ Signed (record { variable = l.variable; positive = p }) ∷ line_words rest
    by_sign true = ap line_words (append_assoc (decimal l.variable) (32 ∷ []) rest) ∙ number_said l.variable low fits rest
    by_sign false =
        ap (λ (t : List ℕ). line_words (45 ∷ t)) (append_assoc (decimal l.variable) (32 ∷ []) rest)
        ∙ ap (λ (ws : List (List ℕ)). map word_of ws) (word_then (45 ∷ decimal l.variable) 32 rest (omega arith) (decimal_solid l.variable fits) refl)
        ∙ ap (λ (w : Word). w ∷ line_words rest) (minus_word l.variable (decimal l.variable) (decimal_number l.variable fits) low)

pub literals_said : (variables : ℕ) (ls : List Literal) → is_within variables ls ≡ true → variables < 2 ^ 64 → (rest : List ℕ) → line_words (literals_text ls ++ rest) ≡ map Signed ls ++ line_words rest
literals_said variables [] h fits rest = refl
literals_said variables (l ∷ ls) h fits rest =
    let parts = and_parts (is_among variables l) (is_within variables ls) h in
    let low = among_low variables l parts.0 in
    let high = among_high variables l parts.0 in
    ap line_words (append_assoc (literal_text l) (literals_text ls) rest)
    ∙ literal_said l low (omega (arith, high, fits)) (literals_text ls ++ rest)
    ∙ ap (λ (ws : List Word). Signed l ∷ ws) (literals_said variables ls parts.1 fits rest)

hint_said : (h : Hint) → 1 ≤ h.clause → h.clause < 2 ^ 64 → (rest : List ℕ) → line_words (hint_text h ++ rest) ≡ Signed (hint_of h) ∷ line_words rest
unfolding hint_text
hint_said h low fits rest = ap line_words (append_assoc (decimal h.clause) (32 ∷ []) rest) ∙ number_said h.clause low fits rest

all_first : (p : Literal → Bool) (ls : List Literal) (l : Literal) → list_all p (ls ++ l ∷ []) ≡ true → (list_all p ls ≡ true) × (p l ≡ true)
all_first p ls l h =
    let parts = and_parts (list_all p ls) (p l && true) (sym (list_all-append p ls (l ∷ [])) ∙ h) in
    (parts.0, (and_parts (p l) true parts.1).0)

pub hints_said : (most : ℕ) (hs : List Hint) → list_all (is_among most) (hint_list hs) ≡ true → most < 2 ^ 64 → (rest : List ℕ) → line_words (hints_text hs ++ rest) ≡ map Signed (hint_list hs) ++ line_words rest
hints_said most [] h fits rest = refl
hints_said most (g ∷ gs) h fits rest =
    let parts = all_first (is_among most) (hint_list gs) (hint_of g) h in
    let low = among_low most (hint_of g) parts.1 in
    let high = among_high most (hint_of g) parts.1 in
    ap line_words (append_assoc (hints_text gs) (hint_text g) rest)
    ∙ hints_said most gs parts.0 fits (hint_text g ++ rest)
    ∙ ap (λ (ws : List Word). map Signed (hint_list gs) ++ ws) (hint_said g low (omega (arith, high, fits)) rest)
    ∙ sym (append_assoc (map Signed (hint_list gs)) (Signed (hint_of g) ∷ []) (line_words rest))
    ∙ ap (λ (ws : List Word). ws ++ line_words rest) (sym (map-append Signed (hint_list gs) (hint_of g ∷ [])))

-- numbers up to their end
pub until_list : (ls : List Literal) (ws : List Word) → until_end (map Signed ls ++ End ∷ ws) ≡ Some (ls, ws)
until_list [] ws = refl
until_list (l ∷ ls) ws = ap (λ (o : Option (List Literal × List Word)). and_more l o) (until_list ls ws)

-- 0 before a blank, and at the end of a line
pub end_then : (rest : List ℕ) → line_words (48 ∷ 32 ∷ rest) ≡ End ∷ line_words rest
unfolding words word_of number
end_then rest = refl

pub end_last : line_words (48 ∷ []) ≡ End ∷ []
unfolding words word_of number
end_last = refl

pub both_in_line : (a b : List ℕ) → has_no_lf a ≡ true → has_no_lf b ≡ true → has_no_lf (a ++ b) ≡ true
both_in_line a b p q = list_all-append (λ x. not (eqb x 10)) a b ∙ and_from (has_no_lf a) (has_no_lf b) p q

-- no LF stands in what is written of literals and hints
literal_in_line : (l : Literal) → l.variable < 2 ^ 64 → has_no_lf (literal_text l) ≡ true
unfolding literal_text
literal_in_line l fits =
    by_sign l.positive (list_all-append (λ b. not (eqb b 10)) (decimal l.variable) (32 ∷ []) ∙ and_from (has_no_lf (decimal l.variable)) true (decimal_in_line l.variable fits) refl)
  where
    by_sign : (p : Bool) → has_no_lf (decimal l.variable ++ 32 ∷ []) ≡ true → has_no_lf (cond p [] (codes "-") ++ (decimal l.variable ++ codes " ")) ≡ true
    by_sign true h = h
    by_sign false h = h

pub literals_in_line : (variables : ℕ) (ls : List Literal) → is_within variables ls ≡ true → variables < 2 ^ 64 → has_no_lf (literals_text ls) ≡ true
literals_in_line variables [] h fits = refl
literals_in_line variables (l ∷ ls) h fits =
    let parts = and_parts (is_among variables l) (is_within variables ls) h in
    let high = among_high variables l parts.0 in
    list_all-append (λ b. not (eqb b 10)) (literal_text l) (literals_text ls)
    ∙ and_from (has_no_lf (literal_text l)) (has_no_lf (literals_text ls)) (literal_in_line l (omega (arith, high, fits))) (literals_in_line variables ls parts.1 fits)

hint_in_line : (h : Hint) → h.clause < 2 ^ 64 → has_no_lf (hint_text h) ≡ true
unfolding hint_text
hint_in_line h fits = list_all-append (λ b. not (eqb b 10)) (decimal h.clause) (32 ∷ []) ∙ and_from (has_no_lf (decimal h.clause)) true (decimal_in_line h.clause fits) refl

pub hints_in_line : (most : ℕ) (hs : List Hint) → list_all (is_among most) (hint_list hs) ≡ true → most < 2 ^ 64 → has_no_lf (hints_text hs) ≡ true
hints_in_line most [] h fits = refl
hints_in_line most (g ∷ gs) h fits =
    let parts = all_first (is_among most) (hint_list gs) (hint_of g) h in
    let high = among_high most (hint_of g) parts.1 in
    list_all-append (λ b. not (eqb b 10)) (hints_text gs) (hint_text g)
    ∙ and_from (has_no_lf (hints_text gs)) (has_no_lf (hint_text g)) (hints_in_line most gs parts.0 fits) (hint_in_line g (omega (arith, high, fits)))

-- what begins with a number or a minus sign is no comment
pub literal_no_comment : (l : Literal) → l.variable < 2 ^ 64 → (rest : List ℕ) → is_comment (literal_text l ++ rest) ≡ false
unfolding literal_text
literal_no_comment l fits rest = by_sign l.positive (begins (decimal l.variable) (decimal_some l.variable fits) (decimal_is l.variable fits).digits)
  where
    begins : (ds : List ℕ) → 0 < length ds → list_all is_digit ds ≡ true → is_comment ((ds ++ 32 ∷ []) ++ rest) ≡ false
    begins [] some digits = absurd (omega (arith, some))
    begins (b ∷ bs) some digits =
        let parts = and_parts (is_digit b) (list_all is_digit bs) digits in
        let to = leb-true b 57 ((and_parts (leb 48 b) (leb b 57) parts.0).1) in
        ne_eqb b 99 (λ e. let w : b ≡ 99 = e in omega (arith, w, to))

    by_sign : (p : Bool) → is_comment ((decimal l.variable ++ 32 ∷ []) ++ rest) ≡ false → is_comment ((cond p [] (codes "-") ++ (decimal l.variable ++ codes " ")) ++ rest) ≡ false
    by_sign true h = h
    by_sign false h = refl
