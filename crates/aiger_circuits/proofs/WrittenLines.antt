-- Lines and numbers that were written are read so.
use Rattle.std.proofs.Common.{◌≡◌, ℕ, zero, suc, ◌+◌, ◌*◌, ◌/◌, ◌%◌, ◌-◌, ◌^◌, ◌<◌, ◌≤◌, ◌==◌, ◌&&◌, Bool, true, false, not, cond, List, [], ◌∷◌, ◌++◌, map, length, get_or, Option, Some, None, refl, sym, ap, ap₂, ◌∙◌, arith, append-nil}
use Rattle.std.specs.Prelude.{codes, decimal, nat_le}
use Rattle.std.specs.List.{list_all}
use Rattle.std.proofs.lemmas.Bool.{and_parts, and_from, leb-true, le-leb, ne_eqb}
use Rattle.std.proofs.lemmas.Fmt.{decimal_by_steps, decimal_digit, first_decimal}
use Rattle.std.proofs.lemmas.List.Folds.{list_all-append}
use Rattle.text_lines.specs.Lines.{onto, lines}
use Rattle.aiger_laws.specs.Fields.{fields, is_digit, with_digit, number_from, has_leading_zero, numeral}
use Rattle.aiger_circuits.specs.CircuitTexts.{more_numbers, numbers_line, ended_lines, IsInLine, AreInLines}

-- ---- lines

line_written : (l rest : List ℕ) → IsInLine l → lines (l ++ 10 ∷ rest) ≡ l ∷ lines rest
unfolding lines
line_written [] rest within = refl
line_written (b ∷ l) rest within = go (b == 10) refl (line_written l rest)
  where
    go : (t : Bool) → (b == 10) ≡ t → (IsInLine l → lines (l ++ 10 ∷ rest) ≡ l ∷ lines rest) → cond t ([] ∷ lines (l ++ 10 ∷ rest)) (onto b (lines (l ++ 10 ∷ rest))) ≡ (b ∷ l) ∷ lines rest
    go true is more = absurd (let parts = and_parts (not (b == 10)) (list_all (λ (c : ℕ). not (c == 10)) l) within in let no : ⊥ = cc in no)
    go false is more = ap (onto b) (more (and_parts (not (b == 10)) (list_all (λ (c : ℕ). not (c == 10)) l) within).1)

pub lines_written : (ls : List (List ℕ)) → AreInLines ls → lines (ended_lines ls) ≡ ls
unfolding lines
lines_written [] within = refl
lines_written (l ∷ ls) within = line_written l (ended_lines ls) within.0 ∙ ap (λ (more : List (List ℕ)). l ∷ more) (lines_written ls within.1)

pub lines_joined : (xs ys : List (List ℕ)) → AreInLines xs → AreInLines ys → AreInLines (xs ++ ys)
lines_joined [] ys first second = second
lines_joined (x ∷ xs) ys first second = (first.0, lines_joined xs ys first.1 second)

-- ---- fields

-- the bytes have no blank
abbrev pub IsSolid : List ℕ → Type 0
IsSolid w = list_all (λ (b : ℕ). not (b == 32)) w ≡ true

field_split : (w rest : List ℕ) → IsSolid w → fields (w ++ 32 ∷ rest) ≡ w ∷ fields rest
unfolding fields
field_split [] rest solid = refl
field_split (b ∷ w) rest solid = go (b == 32) refl (field_split w rest)
  where
    go : (t : Bool) → (b == 32) ≡ t → (IsSolid w → fields (w ++ 32 ∷ rest) ≡ w ∷ fields rest) → cond t ([] ∷ fields (w ++ 32 ∷ rest)) (onto b (fields (w ++ 32 ∷ rest))) ≡ (b ∷ w) ∷ fields rest
    go true is more = absurd (let parts = and_parts (not (b == 32)) (list_all (λ (c : ℕ). not (c == 32)) w) solid in let no : ⊥ = cc in no)
    go false is more = ap (onto b) (more (and_parts (not (b == 32)) (list_all (λ (c : ℕ). not (c == 32)) w) solid).1)

field_whole : (w : List ℕ) → IsSolid w → fields w ≡ w ∷ []
unfolding fields
field_whole [] solid = refl
field_whole (b ∷ w) solid = go (b == 32) refl (field_whole w)
  where
    go : (t : Bool) → (b == 32) ≡ t → (IsSolid w → fields w ≡ w ∷ []) → cond t ([] ∷ fields w) (onto b (fields w)) ≡ (b ∷ w) ∷ []
    go true is more = absurd (let parts = and_parts (not (b == 32)) (list_all (λ (c : ℕ). not (c == 32)) w) solid in let no : ⊥ = cc in no)
    go false is more = ap (onto b) (more (and_parts (not (b == 32)) (list_all (λ (c : ℕ). not (c == 32)) w) solid).1)

-- a line has at least one field
pub some_field : (w : List ℕ) → (f : List ℕ) × (more : List (List ℕ)) × (fields w ≡ f ∷ more)
unfolding fields
some_field [] = ([], [], refl)
some_field (b ∷ w) = go (b == 32) (some_field w)
  where
    go : (t : Bool) → (f : List ℕ) × (more : List (List ℕ)) × (fields w ≡ f ∷ more) → (g : List ℕ) × (others : List (List ℕ)) × (cond t ([] ∷ fields w) (onto b (fields w)) ≡ g ∷ others)
    go true has = ([], fields w, refl)
    go false (f, more, is) = (b ∷ f, more, ap (onto b) is)

-- ---- numbers

-- bytes that write a number
record IsWritten (n : ℕ) (ds : List ℕ) : Type 0 where
  digits : list_all is_digit ds ≡ true
  value : number_from 0 ds ≡ Some n
  some : 0 < length ds

number_push : (a m : ℕ) (ds : List ℕ) (d : ℕ) → is_digit d ≡ true → number_from a ds ≡ Some m → number_from a (ds ++ d ∷ []) ≡ Some (with_digit m d)
number_push a m [] d digit h =
    let one : a ≡ m = cc in
    ap (λ (t : Bool). cond t (Some (with_digit a d)) None) digit ∙ ap (λ (k : ℕ). Some (with_digit k d)) one
number_push a m (b ∷ bs) d digit h = go (is_digit b) (number_push (with_digit a b) m bs d digit) h
  where
    go : (t : Bool) → (number_from (with_digit a b) bs ≡ Some m → number_from (with_digit a b) (bs ++ d ∷ []) ≡ Some (with_digit m d)) → cond t (number_from (with_digit a b) bs) None ≡ Some m
        → cond t (number_from (with_digit a b) (bs ++ d ∷ [])) None ≡ Some (with_digit m d)
    go true more g = more g
    go false more g = absurd (let no : ⊥ = cc in no)

digit_is : (d : ℕ) → d < 10 → is_digit (48 + d) ≡ true
digit_is d small = and_from (nat_le 48 (48 + d)) (nat_le (48 + d) 57) (le-leb 48 (48 + d) (omega arith)) (le-leb (48 + d) 57 (omega (arith, small)))

decimal_written : (n : ℕ) → n < 2 ^ 64 → IsWritten n (decimal n)
decimal_written =
    decimal_by_steps IsWritten
    (λ n small. record { digits = and_from (is_digit (48 + n)) true (digit_is n small) refl; value = one n small; some = omega arith })
    (λ n ds large h. record {
      digits = list_all-append is_digit ds ((48 + n % 10) ∷ []) ∙ and_from (list_all is_digit ds) (is_digit (48 + n % 10) && true) h.digits (and_from (is_digit (48 + n % 10)) true (digit_is (n % 10) (omega arith)) refl);
      value = number_push 0 (n / 10) ds (48 + n % 10) (digit_is (n % 10) (omega arith)) h.value ∙ ap (λ (k : ℕ). Some k) (let e : with_digit (n / 10) (48 + n % 10) ≡ n = omega arith in e);
      some = more ds (48 + n % 10) h.some;
    })
  where
    one : (n : ℕ) → n < 10 → number_from 0 ((48 + n) ∷ []) ≡ Some n
    one n small = ap (λ (t : Bool). cond t (Some (with_digit 0 (48 + n))) None) (digit_is n small) ∙ ap (λ (k : ℕ). Some k) (let e : with_digit 0 (48 + n) ≡ n = omega arith in e)

    more : (ds : List ℕ) (d : ℕ) → 0 < length ds → 0 < length (ds ++ d ∷ [])
    more [] d some = absurd (omega (arith, some))
    more (b ∷ ds) d some = omega arith

-- a digit is no blank and no end of a line
digits_are_other : (c : ℕ) → c < 48 → (ds : List ℕ) → list_all is_digit ds ≡ true → list_all (λ (b : ℕ). not (b == c)) ds ≡ true
digits_are_other c low [] digits = refl
digits_are_other c low (b ∷ ds) digits =
    let parts = and_parts (is_digit b) (list_all is_digit ds) digits in
    let ends = and_parts (nat_le 48 b) (nat_le b 57) parts.0 in
    let above : 48 ≤ b = leb-true 48 b ends.0 in
    and_from (not (b == c)) (list_all (λ (k : ℕ). not (k == c)) ds) (ap not (ne_eqb b c (λ same. omega (arith, low, above, same)))) (digits_are_other c low ds parts.1)

pub decimal_solid : (n : ℕ) → n < 2 ^ 64 → IsSolid (decimal n)
decimal_solid n small = digits_are_other 32 (omega arith) (decimal n) (decimal_written n small).digits

pub decimal_in_line : (n : ℕ) → n < 2 ^ 64 → IsInLine (decimal n)
decimal_in_line n small = digits_are_other 10 (omega arith) (decimal n) (decimal_written n small).digits

no_leading_zero : (n : ℕ) → n < 2 ^ 64 → has_leading_zero (decimal n) ≡ false
no_leading_zero zero small = ap has_leading_zero (decimal_digit 0 (omega arith))
no_leading_zero (suc n) small = go (decimal (suc n)) (first_decimal (suc n) (omega arith) small)
  where
    go : (ds : List ℕ) → 48 < get_or ds 0 0 → has_leading_zero ds ≡ false
    go [] first = refl
    go (b ∷ []) first = refl
    go (b ∷ c ∷ cs) first = ne_eqb b 48 (λ same. omega (arith, first, same))

pub numeral_read : (n : ℕ) → n < 2 ^ 64 → numeral (decimal n) ≡ Some n
unfolding numeral
numeral_read n small = go (decimal n) (decimal_written n small) (no_leading_zero n small)
  where
    go : (ds : List ℕ) → IsWritten n ds → has_leading_zero ds ≡ false → numeral ds ≡ Some n
    go [] is none = absurd (omega (arith, is.some))
    go (b ∷ bs) is none = ap (λ (t : Bool). cond t None (number_from 0 (b ∷ bs))) none ∙ is.value

-- ---- lines of numbers

-- numbers that are printed as they are
abbrev pub AreSmall : List ℕ → Type 0
AreSmall [] = Unit {0}
AreSmall (n ∷ ns) = (n < 2 ^ 64) × AreSmall ns

pub fields_behind : (w : List ℕ) (ns : List ℕ) → IsSolid w → AreSmall ns → fields (w ++ more_numbers ns) ≡ w ∷ map decimal ns
fields_behind w [] solid small = ap fields (let e : w ++ [] ≡ w = simp append-nil refl in e) ∙ field_whole w solid
fields_behind w (n ∷ ns) solid small =
    field_split w (decimal n ++ more_numbers ns) solid ∙ ap (λ (more : List (List ℕ)). w ∷ more) (fields_behind (decimal n) ns (decimal_solid n small.0) small.1)

pub numbers_read : (n : ℕ) (ns : List ℕ) → AreSmall (n ∷ ns) → fields (numbers_line n ns) ≡ decimal n ∷ map decimal ns
numbers_read n ns small = fields_behind (decimal n) ns (decimal_solid n small.0) small.1

in_line_joined : (x y : List ℕ) → IsInLine x → IsInLine y → IsInLine (x ++ y)
in_line_joined x y first second = list_all-append (λ (b : ℕ). not (b == 10)) x y ∙ and_from (list_all (λ (b : ℕ). not (b == 10)) x) (list_all (λ (b : ℕ). not (b == 10)) y) first second

pub numbers_in_line : (ns : List ℕ) → AreSmall ns → IsInLine (more_numbers ns)
numbers_in_line [] small = refl
numbers_in_line (n ∷ ns) small = in_line_joined (decimal n) (more_numbers ns) (decimal_in_line n small.0) (numbers_in_line ns small.1)

pub line_of_numbers : (n : ℕ) (ns : List ℕ) → AreSmall (n ∷ ns) → IsInLine (numbers_line n ns)
line_of_numbers n ns small = in_line_joined (decimal n) (more_numbers ns) (decimal_in_line n small.0) (numbers_in_line ns small.1)

-- a name behind a number
pub name_field : (k : ℕ) (name : List ℕ) → k < 2 ^ 64 → fields (decimal k ++ 32 ∷ name) ≡ decimal k ∷ fields name
name_field k name small = field_split (decimal k) name (decimal_solid k small)

pub name_in_line : (k : ℕ) (name : List ℕ) → k < 2 ^ 64 → IsInLine name → IsInLine (decimal k ++ 32 ∷ name)
name_in_line k name small within = in_line_joined (decimal k) (32 ∷ name) (decimal_in_line k small) within
