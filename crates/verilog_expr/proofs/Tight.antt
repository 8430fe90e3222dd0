-- No parentheses of a built expression can be left out.
use Rattle.std.proofs.Common.{◌≡◌, ℕ, suc, ◌+◌, ◌-◌, Bool, true, false, cond, not, ◌&&◌, ◌==◌, nat_le, ◌⊎◌, List, [], ◌∷◌, ◌++◌, map, decimal, refl, sym, ap, subst, ◌∙◌, inl, inr, arith}
use Rattle.std.proofs.lemmas.Bool.{leb-false, not-true, and_right}
use Rattle.wiring.specs.Wiring.{In}
use Rattle.wiring.proofs.Members.{In-append_cases, from_In-map}
use Rattle.hw_model.specs.Kinds.{Kind}
use Rattle.verilog_model.specs.Tree.{Operator, Expr, Exprs}
use Rattle.verilog_model.specs.Tree.Operator.{times}
use Rattle.verilog_model.specs.Tree.Expr.{name, bit_select, part_select, literal, joined, repeated, as_signed, as_unsigned, paren, odd, binary, choice}
use Rattle.verilog_model.specs.Tree.Exprs.{last, more}
use Rattle.verilog_model.specs.Grammar.{strength, choice_level, primary_level, level, fits, all_fit}
use Rattle.verilog_model.specs.Expression.{is_signed}
use Rattle.verilog_model.proofs.Numerals.{and_intro, and_first, and_second}
use Rattle.verilog_model.specs.Digits.{literal_of}
use Rattle.verilog_expr.specs.Building.{unsigned, parenthesize, unsigned_at, unsigned_pair, chain, variadic_expr, signed_pair, unsigned_shift, signed_shift, unsigned_division, signed_division, select}
use Rattle.verilog_expr.specs.Building.{select_bits, exprs_of, concatenation, conditional, kind_expr, division_expr, shift_expr, shift_operator}
use Rattle.verilog_expr.specs.Building.{is_signed_shift}
use Rattle.verilog_expr.specs.Parentheses.{tight_at, all_tight, tight, opened, opened_parts}
use Rattle.verilog_expr.proofs.Carried.{IsCarried}
use Rattle.verilog_expr.proofs.Passing.{Passes, built_passes}

abbrev AreTight : List Expr → Type 0
AreTight es = (e : Expr) → In e es → tight e ≡ true

-- ---- positions

nothing_asked : (n : ℕ) → nat_le 0 n ≡ true
nothing_asked n = go (nat_le 0 n) refl where
  go : (b : Bool) → nat_le 0 n ≡ b → nat_le 0 n ≡ true
  go true is = is
  go false is = absurd (omega (arith, leb-false 0 n is))

-- what could lose no parentheses in a position that asks for nothing could lose none in another
tight_up : (l : ℕ) (e : Expr) → tight e ≡ true → tight_at l e ≡ true
tight_up l (name n) h = refl
tight_up l (bit_select n k) h = refl
tight_up l (part_select n k m) h = refl
tight_up l (literal w s x) h = refl
tight_up l (joined es) h = h
tight_up l (repeated n es) h = h
tight_up l (as_signed e) h = h
tight_up l (as_unsigned e) h = h
tight_up l (paren e) h = let no : not (nat_le 0 (level e)) ≡ true = and_first (not (nat_le 0 (level e))) (tight_at 0 e) h in cc (nothing_asked (level e))
tight_up l (odd e) h = h
tight_up l (binary o a b) h = h
tight_up l (choice c a b) h = h

placed_tight : (l : ℕ) (e : Expr) → tight e ≡ true → tight_at l (parenthesize l e) ≡ true
placed_tight l e h = go (nat_le l (level e)) refl where
  go : (b : Bool) → nat_le l (level e) ≡ b → tight_at l (cond b e (paren e)) ≡ true
  go true is = tight_up l e h
  go false is = and_intro (not (nat_le l (level e))) (tight_at 0 e) (ap not is) h

unsigned_tight : (e : Expr) → tight e ≡ true → tight (unsigned e) ≡ true
unsigned_tight e h = go (is_signed e) where
  go : (b : Bool) → tight (cond b (as_unsigned e) e) ≡ true
  go true = h
  go false = h

unsigned_at_tight : (l : ℕ) (e : Expr) → tight e ≡ true → tight_at l (unsigned_at l e) ≡ true
unsigned_at_tight l e h = placed_tight l (unsigned e) (unsigned_tight e h)

-- ---- templates

pair_tight : (o : Operator) (a b : Expr) → tight_at (strength o) a ≡ true → tight_at (suc (strength o)) b ≡ true → tight (binary o a b) ≡ true
pair_tight o a b first second = and_intro (tight_at (strength o) a) (tight_at (suc (strength o)) b) first second

unsigned_pair_tight : (o : Operator) (a b : Expr) → tight a ≡ true → tight b ≡ true → tight (unsigned_pair o a b) ≡ true
unsigned_pair_tight o a b first second =
    pair_tight o (unsigned_at (strength o) a) (unsigned_at (suc (strength o)) b) (unsigned_at_tight (strength o) a first) (unsigned_at_tight (suc (strength o)) b second)

signed_pair_tight : (o : Operator) (a b : Expr) → tight a ≡ true → tight b ≡ true → tight (signed_pair o a b) ≡ true
signed_pair_tight o a b first second = pair_tight o (as_signed a) (as_signed b) first second

chained_tight : (o : Operator) (a : Expr) (bs : List Expr) → tight_at (strength o) a ≡ true → tight_at 0 a ≡ true → AreTight bs → tight (chain o a bs) ≡ true
chained_tight o a [] first own all = own
chained_tight o a (b ∷ bs) first own all =
    let both : tight (binary o a (unsigned_at (suc (strength o)) b)) ≡ true =
    pair_tight o a (unsigned_at (suc (strength o)) b) first (unsigned_at_tight (suc (strength o)) b (all b (inl refl))) in
    chained_tight o (binary o a (unsigned_at (suc (strength o)) b)) bs both both (λ e here. all e (inr here))

variadic_tight : (o : Operator) (es : List Expr) → AreTight es → tight (variadic_expr o es) ≡ true
variadic_tight o [] all = refl
variadic_tight o (a ∷ []) all = all a (inl refl)
variadic_tight o (a ∷ b ∷ bs) all =
    let both : tight (binary o (unsigned_at (strength o) a) (unsigned_at (suc (strength o)) b)) ≡ true =
    unsigned_pair_tight o a b (all a (inl refl)) (all b (inr (inl refl))) in
    chained_tight o (binary o (unsigned_at (strength o) a) (unsigned_at (suc (strength o)) b)) bs both both (λ e here. all e (inr (inr here)))

unsigned_shift_tight : (o : Operator) (a b : Expr) → tight a ≡ true → tight b ≡ true → tight (unsigned_shift o a b) ≡ true
unsigned_shift_tight o a b first second =
    pair_tight o (unsigned_at (strength o) a) (parenthesize (suc (strength o)) b) (unsigned_at_tight (strength o) a first) (placed_tight (suc (strength o)) b second)

signed_shift_tight : (o : Operator) (a b : Expr) → tight a ≡ true → tight b ≡ true → tight (signed_shift o a b) ≡ true
signed_shift_tight o a b first second = pair_tight o (as_signed a) (parenthesize (suc (strength o)) b) first (placed_tight (suc (strength o)) b second)

unsigned_division_tight : (o : Operator) (w divisor : ℕ) (a : Expr) → tight a ≡ true → tight (unsigned_division o w divisor a) ≡ true
unsigned_division_tight o w divisor a h = pair_tight o (unsigned_at (strength o) a) (literal_of w false divisor) (unsigned_at_tight (strength o) a h) refl

signed_division_tight : (o : Operator) (w divisor : ℕ) (a : Expr) → tight a ≡ true → tight (signed_division o w divisor a) ≡ true
signed_division_tight o w divisor a h = pair_tight o (as_signed a) (literal_of w true divisor) h refl

division_tight : (b : Bool) (o : Operator) (w divisor : ℕ) (a : Expr) → tight a ≡ true → tight (division_expr b o w divisor a) ≡ true
division_tight false o w divisor a h = unsigned_division_tight o w divisor a h
division_tight true o w divisor a h = signed_division_tight o w divisor a h

shift_tight : (s : Bool) (o : Operator) (a b : Expr) → tight a ≡ true → tight b ≡ true → tight (shift_expr s o a b) ≡ true
shift_tight false o a b first second = unsigned_shift_tight o a b first second
shift_tight true o a b first second = signed_shift_tight o a b first second

select_tight : (low w : ℕ) (a : Expr) → tight (select low w a) ≡ true
select_tight low w (name n) = go (w == 1) where
  go : (b : Bool) → tight (cond b (bit_select n (decimal low)) (part_select n (decimal (low + w - 1)) (decimal low))) ≡ true
  go true = refl
  go false = refl
select_tight low w _ = refl

selected_tight : (low v w : ℕ) (a : Expr) → tight a ≡ true → tight (select_bits low v w a) ≡ true
selected_tight low v w a h = go (low == 0 && w == v) where
  go : (b : Bool) → tight (cond b a (select low w a)) ≡ true
  go true = h
  go false = select_tight low w a

parts_tight : (a : Expr) (es : List Expr) → tight a ≡ true → AreTight es → all_tight (exprs_of a es) ≡ true
parts_tight a [] h all = h
parts_tight a (b ∷ es) h all = and_intro (tight_at 0 a) (all_tight (exprs_of b es)) h (parts_tight b es (all b (inl refl)) (λ e here. all e (inr here)))

concatenation_tight : (es : List Expr) → AreTight es → tight (concatenation es) ≡ true
concatenation_tight [] all = refl
concatenation_tight (a ∷ es) all = parts_tight a es (all a (inl refl)) (λ e here. all e (inr here))

conditional_tight : (c a b : Expr) → tight c ≡ true → tight a ≡ true → tight b ≡ true → tight (conditional c a b) ≡ true
conditional_tight c a b condition first second =
    and_intro _ _ (placed_tight (suc choice_level) c condition) (and_intro _ _ (unsigned_tight a first) (unsigned_at_tight choice_level b second))

-- ---- each kind

tight_pass : Passes tight
tight_pass = record {
  none = refl;
  numeral = λ w n. refl;
  chained = variadic_tight;
  paired = unsigned_pair_tight;
  signed = signed_pair_tight;
  divided = division_tight;
  shifted = λ s. shift_tight (is_signed_shift s) (shift_operator s);
  counted = λ a h. placed_tight primary_level a h;
  selected = selected_tight;
  listed = concatenation_tight;
  copied = λ w v a h. h;
  chosen = conditional_tight;
}

pub built_tight : (kind : Kind) (w : ℕ) (ws : List ℕ) (divisor : ℕ) (es : List Expr) → AreTight es → tight (kind_expr kind w ws divisor es) ≡ true
built_tight = built_passes tight tight_pass

pub tight_carried : IsCarried tight
tight_carried = record { none = refl; called = λ n. refl; each = built_tight }

-- ---- what is left without a pair of parentheses

bad_left : (p q r t : Bool) → (p && q) ≡ false → ((p && r) && (q && t)) ≡ false
bad_left true false r t h = and_right (true && r) (false && t) refl
bad_left true true r t h = cc
bad_left false q r t h = refl

bad_right : (p q r t : Bool) → (p && q) ≡ false → ((r && p) && (t && q)) ≡ false
bad_right true false r t h = and_right (r && true) (t && false) (and_right t false refl)
bad_right true true r t h = cc
bad_right false q true t h = refl
bad_right false q false t h = refl

bad_first : (p q t : Bool) → (p && q) ≡ false → (p && (q && t)) ≡ false
bad_first true false t h = refl
bad_first true true t h = cc
bad_first false q t h = refl

only_fits : (n : ℕ) (b : Bool) → (nat_le 0 n && b) ≡ false → b ≡ false
only_fits n b h = sym (ap (λ c. c && b) (nothing_asked n)) ∙ h

some_strength : (o : Operator) → nat_le 1 (strength o) ≡ true
some_strength times = refl
some_strength _ = refl

some_level : (e : Expr) → nat_le choice_level (level e) ≡ true
some_level (odd e) = refl
some_level (binary o a b) = some_strength o
some_level (choice c a b) = refl
some_level _ = refl

from_level : (e : Expr) → (nat_le choice_level (level e) && fits e) ≡ false → fits e ≡ false
from_level e h = sym (ap (λ b. b && fits e) (some_level e)) ∙ h

-- each is unfit that is opened in a part
abbrev Opens : ℕ → Expr → Type 0
Opens l e = (y : Expr) → In y (opened e) → (nat_le l (level y) && fits y) ≡ false

unfit_pair : (o : Operator) (a b : Expr) (l : ℕ) (x : Expr) → Opens (strength o) a → Opens (suc (strength o)) b
    → In x (map (λ y. binary o y b) (opened a)) ⊎ In x (map (λ y. binary o a y) (opened b)) → (nat_le l (level x) && fits x) ≡ false
unfit_pair o a b l x left right (inl here) =
    let found = from_In-map (λ y. binary o y b) x (opened a) here in
    subst (λ y. (nat_le l (level y) && fits y) ≡ false) (sym found.2)
    (and_right (nat_le l (strength o)) (fits (binary o found.0 b))
    (bad_left (nat_le (strength o) (level found.0)) (fits found.0) (nat_le (suc (strength o)) (level b)) (fits b) (left found.0 found.1)))
unfit_pair o a b l x left right (inr here) =
    let found = from_In-map (λ y. binary o a y) x (opened b) here in
    subst (λ y. (nat_le l (level y) && fits y) ≡ false) (sym found.2)
    (and_right (nat_le l (strength o)) (fits (binary o a found.0))
    (bad_right (nat_le (suc (strength o)) (level found.0)) (fits found.0) (nat_le (strength o) (level a)) (fits a) (right found.0 found.1)))

unfit_choice : (c a b : Expr) (l : ℕ) (x : Expr) → Opens (suc choice_level) c → Opens 0 a → Opens choice_level b
    → In x (map (λ y. choice y a b) (opened c) ++ (map (λ y. choice c y b) (opened a) ++ map (λ y. choice c a y) (opened b)))
    → (nat_le l (level x) && fits x) ≡ false
unfit_choice c a b l x first second third here =
    go (In-append_cases x (map (λ y. choice y a b) (opened c)) (map (λ y. choice c y b) (opened a) ++ map (λ y. choice c a y) (opened b)) here) where
      late : In x (map (λ y. choice c y b) (opened a)) ⊎ In x (map (λ y. choice c a y) (opened b)) → (nat_le l (level x) && fits x) ≡ false
      late (inl there) =
          let found = from_In-map (λ y. choice c y b) x (opened a) there in
          subst (λ y. (nat_le l (level y) && fits y) ≡ false) (sym found.2)
          (and_right (nat_le l choice_level) (fits (choice c found.0 b))
          (and_right (nat_le (suc choice_level) (level c)) (fits c && (fits found.0 && fits b))
          (and_right (fits c) (fits found.0 && fits b) (ap (λ p. p && fits b) (only_fits (level found.0) (fits found.0) (second found.0 found.1))))))
      late (inr there) =
          let found = from_In-map (λ y. choice c a y) x (opened b) there in
          subst (λ y. (nat_le l (level y) && fits y) ≡ false) (sym found.2)
          (and_right (nat_le l choice_level) (fits (choice c a found.0))
          (and_right (nat_le (suc choice_level) (level c)) (fits c && (fits a && fits found.0))
          (and_right (fits c) (fits a && fits found.0) (and_right (fits a) (fits found.0) (from_level found.0 (third found.0 found.1))))))

      go : In x (map (λ y. choice y a b) (opened c)) ⊎ In x (map (λ y. choice c y b) (opened a) ++ map (λ y. choice c a y) (opened b)) → (nat_le l (level x) && fits x) ≡ false
      go (inl there) =
          let found = from_In-map (λ y. choice y a b) x (opened c) there in
          subst (λ y. (nat_le l (level y) && fits y) ≡ false) (sym found.2)
          (and_right (nat_le l choice_level) (fits (choice found.0 a b))
          (bad_first (nat_le (suc choice_level) (level found.0)) (fits found.0) (fits a && fits b) (first found.0 found.1)))
      go (inr there) = late (In-append_cases x (map (λ y. choice c y b) (opened a)) (map (λ y. choice c a y) (opened b)) there)

unfit_more : (e : Expr) (es xs : Exprs) → Opens 0 e → ((ys : Exprs) → In ys (opened_parts es) → all_fit ys ≡ false)
    → In xs (map (λ y. more y es) (opened e)) ⊎ In xs (map (λ ys. more e ys) (opened_parts es)) → all_fit xs ≡ false
unfit_more e es xs first rest (inl here) =
    let found = from_In-map (λ y. more y es) xs (opened e) here in
    subst (λ ys. all_fit ys ≡ false) (sym found.2) (ap (λ b. b && all_fit es) (only_fits (level found.0) (fits found.0) (first found.0 found.1)))
unfit_more e es xs first rest (inr here) =
    let found = from_In-map (λ ys. more e ys) xs (opened_parts es) here in
    subst (λ ys. all_fit ys ≡ false) (sym found.2) (and_right (fits e) (all_fit found.0) (rest found.0 found.1))

mutual
  unfit : (e : Expr) (l : ℕ) (x : Expr) → tight_at l e ≡ true → In x (opened e) → (nat_le l (level x) && fits x) ≡ false
  unfit (name n) l x h here = absurd here
  unfit (bit_select n k) l x h here = absurd here
  unfit (part_select n k m) l x h here = absurd here
  unfit (literal w s d) l x h here = absurd here
  unfit (joined es) l x h here =
      let found = from_In-map joined x (opened_parts es) here in
      subst (λ y. (nat_le l (level y) && fits y) ≡ false) (sym found.2) (and_right (nat_le l primary_level) (all_fit found.0) (unfit_parts es found.0 h found.1))
  unfit (repeated n es) l x h here =
      let found = from_In-map (repeated n) x (opened_parts es) here in
      subst (λ y. (nat_le l (level y) && fits y) ≡ false) (sym found.2) (and_right (nat_le l primary_level) (all_fit found.0) (unfit_parts es found.0 h found.1))
  unfit (as_signed e) l x h here =
      let found = from_In-map as_signed x (opened e) here in
      subst (λ y. (nat_le l (level y) && fits y) ≡ false) (sym found.2) (and_right (nat_le l primary_level) (fits found.0) (only_fits (level found.0) (fits found.0) (unfit e 0 found.0 h found.1)))
  unfit (as_unsigned e) l x h here =
      let found = from_In-map as_unsigned x (opened e) here in
      subst (λ y. (nat_le l (level y) && fits y) ≡ false) (sym found.2) (and_right (nat_le l primary_level) (fits found.0) (only_fits (level found.0) (fits found.0) (unfit e 0 found.0 h found.1)))
  unfit (paren e) l x h (inl same) =
      let weak : not (nat_le l (level e)) ≡ true = and_first (not (nat_le l (level e))) (tight_at 0 e) h in
      subst (λ y. (nat_le l (level y) && fits y) ≡ false) (sym same) (ap (λ b. b && fits e) (not-true (nat_le l (level e)) weak))
  unfit (paren e) l x h (inr here) =
      let found = from_In-map paren x (opened e) here in
      subst (λ y. (nat_le l (level y) && fits y) ≡ false) (sym found.2)
      (and_right (nat_le l primary_level) (fits found.0)
      (only_fits (level found.0) (fits found.0) (unfit e 0 found.0 (and_second (not (nat_le l (level e))) (tight_at 0 e) h) found.1)))
  unfit (odd e) l x h here =
      let found = from_In-map odd x (opened e) here in
      subst (λ y. (nat_le l (level y) && fits y) ≡ false) (sym found.2) (and_right (nat_le l 10) (nat_le primary_level (level found.0) && fits found.0) (unfit e primary_level found.0 h found.1))
  unfit (binary o a b) l x h here =
      unfit_pair o a b l x
      (λ y within. unfit a (strength o) y (and_first (tight_at (strength o) a) (tight_at (suc (strength o)) b) h) within)
      (λ y within. unfit b (suc (strength o)) y (and_second (tight_at (strength o) a) (tight_at (suc (strength o)) b) h) within)
      (In-append_cases x (map (λ y. binary o y b) (opened a)) (map (λ y. binary o a y) (opened b)) here)
  unfit (choice c a b) l x h here =
      let rest : (tight_at 0 a && tight_at choice_level b) ≡ true = and_second (tight_at (suc choice_level) c) (tight_at 0 a && tight_at choice_level b) h in
      unfit_choice c a b l x
      (λ y within. unfit c (suc choice_level) y (and_first (tight_at (suc choice_level) c) (tight_at 0 a && tight_at choice_level b) h) within)
      (λ y within. unfit a 0 y (and_first (tight_at 0 a) (tight_at choice_level b) rest) within)
      (λ y within. unfit b choice_level y (and_second (tight_at 0 a) (tight_at choice_level b) rest) within)
      here

  unfit_parts : (es xs : Exprs) → all_tight es ≡ true → In xs (opened_parts es) → all_fit xs ≡ false
  unfit_parts (last e) xs h here =
      let found = from_In-map last xs (opened e) here in
      subst (λ ys. all_fit ys ≡ false) (sym found.2) (only_fits (level found.0) (fits found.0) (unfit e 0 found.0 h found.1))
  unfit_parts (more e es) xs h here =
      unfit_more e es xs
      (λ y within. unfit e 0 y (and_first (tight_at 0 e) (all_tight es) h) within)
      (λ ys within. unfit_parts es ys (and_second (tight_at 0 e) (all_tight es) h) within)
      (In-append_cases xs (map (λ y. more y es) (opened e)) (map (λ ys. more e ys) (opened_parts es)) here)

pub left_out : (e x : Expr) → tight e ≡ true → In x (opened e) → fits x ≡ false
left_out e x h here = only_fits (level x) (fits x) (unfit e 0 x h here)
