-- The names that values are given: digits where none is wanted, and else what begins with no digit.
use Rattle.std.proofs.Common.{◌≡◌, ℕ, zero, suc, ◌+◌, ◌^◌, ◌<◌, ◌≤◌, Bool, true, false, cond, ◌||◌, ◌==◌, List, [], ◌∷◌, ◌++◌, map, length, drop, decimal, refl, ap, ◌∙◌, sym, subst, arith, add-one}
use Rattle.std.specs.Prelude.{nat_eq, not, Option, Some, None, ⊤}
use Rattle.std.specs.Cmp.Lexicographic.{pointwise, bytes_decides}
use Rattle.std.proofs.lemmas.Fmt.{decimal_injective}
use Rattle.std.proofs.lemmas.Bool.{cond-true, cond-false, false≢true, eqb-true, eq-eqb, not-true, and_parts}
use Rattle.std.proofs.lemmas.List.{append-nil}
use Rattle.hw_model.specs.Types.{Name}
use Rattle.fresh_names.specs.Fresh.{is_taken, with_suffix, free_from, free_name, fresh}
use Rattle.fresh_names.proofs.Taken.{one_more}
use Rattle.fresh_names.proofs.Free.{name_stays}
use Rattle.mlir_lexer.specs.Classes.{is_digit, is_suffix_byte, is_name_start}
use Rattle.mlir_lexer.specs.Runs.{run, begins}
use Rattle.mlir_printer.specs.Strings.{stands, suffix_byte, standing}
use Rattle.mlir_printer.specs.Naming.{hints_or_numbers}
use Rattle.mlir_printer.specs.Choices.{AreFree}
use Rattle.mlir_printer.specs.Spellable.{IsValueName}
use Rattle.mlir_printer.proofs.lexed.LexedNumbers.{numeral}

-- ---- bytes that all meet a test

abbrev pub AllMeet : (ℕ → Bool) → List ℕ → Type 0
AllMeet test [] = ⊤
AllMeet test (b ∷ bs) = (test b ≡ true) × AllMeet test bs

run_all : (test : ℕ → Bool) (bs : List ℕ) → AllMeet test bs → run test bs ≡ length bs
run_all test [] h = refl
run_all test (b ∷ bs) h = cond-true (test b) _ 0 h.0 ∙ ap (λ n. n + 1) (run_all test bs h.1) ∙ add-one (length bs)

all_run : (test : ℕ → Bool) (bs : List ℕ) → run test bs ≡ length bs → AllMeet test bs
all_run test [] h = tt
all_run test (b ∷ bs) h = go (test b) refl h (all_run test bs)
  where
    go : (t : Bool) → test b ≡ t → cond t (run test bs + 1) 0 ≡ suc (length bs) → (run test bs ≡ length bs → AllMeet test bs)
        → (test b ≡ true) × AllMeet test bs
    go true e h r = (e, r (omega (arith, h)))
    go false e h r = absurd (omega (arith, h))

all_append : (test : ℕ → Bool) (bs cs : List ℕ) → AllMeet test bs → AllMeet test cs → AllMeet test (bs ++ cs)
all_append test [] cs h g = g
all_append test (b ∷ bs) cs h g = (h.0, all_append test bs cs h.1 g)

all_wider : (test other : ℕ → Bool) (bs : List ℕ) → ((b : ℕ) → test b ≡ true → other b ≡ true) → AllMeet test bs → AllMeet other bs
all_wider test other [] f h = tt
all_wider test other (b ∷ bs) f h = (f b h.0, all_wider test other bs f h.1)

digit_suffix : (b : ℕ) → is_digit b ≡ true → is_suffix_byte b ≡ true
digit_suffix b h = go (is_name_start b) (is_digit b) h
  where
    go : (s d : Bool) → d ≡ true → ((s || (d || (b == 36 || b == 46))) || b == 45) ≡ true
    go true d e = refl
    go false true e = refl
    go false false e = cc

-- ---- the two forms of names

-- digits alone
pub record IsDigits (name : Name) : Type 0 where
  pub some : 1 ≤ length name
  pub whole : AllMeet is_digit name

-- a suffix that begins with no digit
pub record IsWord (name : Name) : Type 0 where
  pub some : 1 ≤ length name
  pub prefix : begins is_digit name ≡ false
  pub whole : AllMeet is_suffix_byte name

digits_begin : (name : Name) → IsDigits name → begins is_digit name ≡ true
digits_begin [] h = let s = h.some in absurd (omega (arith, s))
digits_begin (b ∷ bs) h = h.whole.0

pub digits_value : (name : Name) → IsDigits name → IsValueName name
digits_value name h = record {
  some = h.some;
  whole = cond-true (begins is_digit name) (run is_digit name) (run is_suffix_byte name) (digits_begin name h) ∙ run_all is_digit name h.whole;
}

pub word_value : (name : Name) → IsWord name → IsValueName name
word_value name h = record {
  some = h.some;
  whole = cond-false (begins is_digit name) (run is_digit name) (run is_suffix_byte name) h.prefix ∙ run_all is_suffix_byte name h.whole;
}

-- digits alone are no name of their own
pub digits_alone : (name : Name) → IsDigits name → nat_eq (run is_digit name) (length name) ≡ true
digits_alone name h = eq-eqb (run is_digit name) (length name) (run_all is_digit name h.whole)

pub word_not_digits : (name : Name) → IsWord name → nat_eq (run is_digit name) (length name) ≡ false
word_not_digits [] h = let s = h.some in absurd (omega (arith, s))
word_not_digits (b ∷ bs) h = go (nat_eq (run is_digit (b ∷ bs)) (length (b ∷ bs))) refl
  where
    go : (t : Bool) → nat_eq (run is_digit (b ∷ bs)) (length (b ∷ bs)) ≡ t → nat_eq (run is_digit (b ∷ bs)) (length (b ∷ bs)) ≡ false
    go false e = e
    go true e =
        let whole : cond (is_digit b) (run is_digit bs + 1) 0 ≡ suc (length bs) = eqb-true (run is_digit (b ∷ bs)) (length (b ∷ bs)) e in
        let none : cond (is_digit b) (run is_digit bs + 1) 0 ≡ 0 = cond-false (is_digit b) (run is_digit bs + 1) 0 h.prefix in
        absurd (omega (arith, whole, none))

pub decimal_digits : (n : ℕ) → n < 2 ^ 64 → IsDigits (decimal n)
decimal_digits n small = let d = numeral n (omega (arith, small)) in record { some = d.some; whole = all_run is_digit (decimal n) d.whole }

-- ---- a name that may stand

suffixes : (bs : List ℕ) → AllMeet is_suffix_byte (map suffix_byte bs)
suffixes [] = tt
suffixes (b ∷ bs) = (go (is_suffix_byte b) refl, suffixes bs)
  where
    go : (t : Bool) → is_suffix_byte b ≡ t → is_suffix_byte (cond t b 95) ≡ true
    go true e = e
    go false e = refl

pub stands_word : (name : Name) → stands name ≡ true → IsWord name
stands_word [] h = cc
stands_word (b ∷ bs) h =
    let p = and_parts (not (is_digit b)) (nat_eq (run is_suffix_byte (b ∷ bs)) (length (b ∷ bs))) h in
    record {
      some = omega arith;
      prefix = not-true (is_digit b) p.0;
      whole = all_run is_suffix_byte (b ∷ bs)
          (eqb-true (run is_suffix_byte (b ∷ bs)) (length (b ∷ bs)) p.1);
    }

standing_word : (name : Name) → IsWord (standing name)
unfolding standing
standing_word name = go (stands name) refl
  where
    go : (t : Bool) → stands name ≡ t → IsWord (cond t name (95 ∷ map suffix_byte name))
    go true e = stands_word name e
    go false e = record { some = omega arith; prefix = refl; whole = (refl, suffixes name) }

-- ---- a free name begins as the one that is wanted

-- a name and suffix bytes after it
record Begins (w name : Name) : Type 0 where
  more : List ℕ
  whole : AllMeet is_suffix_byte more
  is : name ≡ w ++ more

suffixed_begins : (w : Name) (k : ℕ) → k < 2 ^ 64 → Begins w (with_suffix w k)
unfolding with_suffix
suffixed_begins w k small =
    record { more = 95 ∷ decimal k; whole = (refl, all_wider is_digit is_suffix_byte (decimal k) digit_suffix (decimal_digits k small).whole); is = refl }

from_begins : (taken : List Name) (w : Name) (n k : ℕ) → k + n < 2 ^ 64 → Begins w (free_from taken w n k)
from_begins taken w zero k small = suffixed_begins w k (omega (arith, small))
from_begins taken w (suc n) k small = go (is_taken taken (with_suffix w k)) (from_begins taken w n (k + 1) (omega (arith, small)))
  where
    go : (b : Bool) → Begins w (free_from taken w n (k + 1)) → Begins w (cond b (free_from taken w n (k + 1)) (with_suffix w k))
    go true r = r
    go false r = suffixed_begins w k (omega (arith, small))

free_begins : (taken : List Name) (w : Name) → length taken < 2 ^ 64 → Begins w (free_name taken w)
unfolding free_name
free_begins taken w small = go (is_taken taken w)
  where
    go : (b : Bool) → Begins w (cond b (free_from taken w (length taken) 0) w)
    go true = from_begins taken w (length taken) 0 (omega (arith, small))
    go false = record { more = []; whole = tt; is = sym (append-nil w) }

pub begins_free : (taken : List Name) (w : Name) → 1 ≤ length w → length taken < 2 ^ 64 → begins is_digit (free_name taken w) ≡ begins is_digit w
begins_free taken [] some small = absurd (omega (arith, some))
begins_free taken (b ∷ bs) some small = ap (begins is_digit) (free_begins taken (b ∷ bs) small).is

begins_word : (w name : Name) → IsWord w → Begins w name → IsWord name
begins_word [] name h b = let s = h.some in absurd (omega (arith, s))
begins_word (x ∷ w) name h b =
    subst IsWord (sym b.is) (record { some = omega arith; prefix = h.prefix; whole = all_append is_suffix_byte (x ∷ w) b.more h.whole b.whole })

-- ---- the names that are given

-- digits where nothing is wanted, and else a word
abbrev pub Suits : List (Option Name) → List Name → Type 0
Suits [] ns = ⊤
Suits (w ∷ ws) [] = ⊥
Suits (None ∷ ws) (n ∷ ns) = IsDigits n × Suits ws ns
Suits (Some x ∷ ws) (n ∷ ns) = IsWord n × Suits ws ns

pub push_free : (ts : List Name) (n q : Name) → is_taken ts q ≡ false → pointwise nat_eq n q ≡ false → is_taken (ts ++ n ∷ []) q ≡ false
push_free [] n q h g = cond-false (pointwise nat_eq n q) true false g
push_free (t ∷ ts) n q h g = go (pointwise nat_eq t q) h (λ r. push_free ts n q r g)
  where
    go : (b : Bool) → cond b true (is_taken ts q) ≡ false → (is_taken ts q ≡ false → is_taken (ts ++ n ∷ []) q ≡ false)
        → cond b true (is_taken (ts ++ n ∷ []) q) ≡ false
    go true e r = cc
    go false e r = r e

unlike : (x y : Name) → (x ≡ y → ⊥) → pointwise nat_eq x y ≡ false
unlike x y d = go (pointwise nat_eq x y) refl
  where
    go : (b : Bool) → pointwise nat_eq x y ≡ b → pointwise nat_eq x y ≡ false
    go true e = absurd (d ((bytes_decides x y).0 e))
    go false e = e

decimal_begins : (k : ℕ) → k < 2 ^ 64 → begins is_digit (decimal k) ≡ true
decimal_begins k small = digits_begin (decimal k) (decimal_digits k small)

-- what begins with no digit is no number
pub word_unlike : (x : Name) (k : ℕ) → k < 2 ^ 64 → begins is_digit x ≡ false → pointwise nat_eq x (decimal k) ≡ false
word_unlike x k small e = unlike x (decimal k) (λ h. false≢true (sym e ∙ ap (begins is_digit) h ∙ decimal_begins k small))

pub number_unlike : (n k : ℕ) → n < k → k < 2 ^ 64 → pointwise nat_eq (decimal n) (decimal k) ≡ false
number_unlike n k lt small =
    unlike (decimal n) (decimal k) (λ e. let s = decimal_injective n k (omega (arith, lt, small)) small e in absurd (omega (arith, s, lt)))

pub names_suit : (n : ℕ) (taken : List Name) (ws : List (Option Name)) → length taken + length ws < 2 ^ 64 → n + length ws < 2 ^ 64 → AreFree taken n
    → Suits ws (fresh taken (hints_or_numbers n ws))
names_suit n taken [] small few free = tt
names_suit n taken (None ∷ ws) small few free =
    let x = free_name taken (decimal n) in
    let e : x ≡ decimal n = name_stays taken (decimal n) (free n (omega arith) (omega (arith, few))) in (
      subst IsDigits (sym e) (decimal_digits n (omega (arith, few))),
      names_suit (n + 1) (taken ++ x ∷ []) ws (omega (arith, one_more taken x, small)) (omega (arith, few))
          (λ k le lt. push_free taken x (decimal k) (free k (omega (arith, le)) lt)
          (ap (λ (y : Name). pointwise nat_eq y (decimal k)) e ∙ number_unlike n k (omega (arith, le)) lt)),
    )
names_suit n taken (Some w ∷ ws) small few free =
    let x = free_name taken (standing w) in
    let word : IsWord x = begins_word (standing w) x (standing_word w) (free_begins taken (standing w) (omega (arith, small))) in (
      word,
      names_suit n (taken ++ x ∷ []) ws (omega (arith, one_more taken x, small)) (omega (arith, few))
          (λ k le lt. push_free taken x (decimal k) (free k le lt) (word_unlike x k lt word.prefix)),
    )

pub given_suit : (ws : List (Option Name)) → length ws < 2 ^ 64 → Suits ws (fresh [] (hints_or_numbers 0 ws))
given_suit ws small = names_suit 0 [] ws (omega (arith, small)) (omega (arith, small)) (λ k le lt. refl)

pub wanted_length : (n : ℕ) (ws : List (Option Name)) → length (hints_or_numbers n ws) ≡ length ws
wanted_length n [] = refl
wanted_length n (None ∷ ws) = ap suc (wanted_length (n + 1) ws)
wanted_length n (Some w ∷ ws) = ap suc (wanted_length n ws)

-- ---- parts of the names

pub suit_after : (vs ws : List (Option Name)) (ns : List Name) → Suits (vs ++ ws) ns → Suits ws (drop (length vs) ns)
suit_after [] ws ns h = h
suit_after (v ∷ vs) ws [] h = absurd h
suit_after (None ∷ vs) ws (n ∷ ns) h = suit_after vs ws ns h.1
suit_after (Some v ∷ vs) ws (n ∷ ns) h = suit_after vs ws ns h.1

pub suit_first : (vs ws : List (Option Name)) (ns : List Name) → Suits (vs ++ ws) ns → Suits vs ns
suit_first [] ws ns h = tt
suit_first (v ∷ vs) ws [] h = absurd h
suit_first (None ∷ vs) ws (n ∷ ns) h = (h.0, suit_first vs ws ns h.1)
suit_first (Some v ∷ vs) ws (n ∷ ns) h = (h.0, suit_first vs ws ns h.1)
