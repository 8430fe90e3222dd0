-- Expressions keep the precedence and association of the operators.
use Rattle.std.proofs.Common.{◌≡◌, ℕ, suc, ◌+◌, ◌-◌, Bool, true, false, cond, ◌&&◌, ◌==◌, nat_le, List, [], ◌∷◌, decimal, Option, refl, inl, inr}
use Rattle.wiring.specs.Wiring.{In}
use Rattle.hw_model.specs.Types.{Name}
use Rattle.hw_model.specs.Kinds.{Kind}
use Rattle.hw_model.specs.Design.{Ref, Port, Op}
use Rattle.verilog_model.specs.Tree.{Operator, Expr}
use Rattle.verilog_model.specs.Tree.Operator.{times}
use Rattle.verilog_model.specs.Tree.Expr.{name, bit_select, part_select, as_signed, as_unsigned, paren, odd, binary}
use Rattle.verilog_model.specs.Grammar.{strength, choice_level, primary_level, level, fits, all_fit}
use Rattle.verilog_model.specs.Expression.{is_signed}
use Rattle.verilog_model.proofs.Numerals.{and_intro}
use Rattle.verilog_model.specs.Digits.{literal_of}
use Rattle.verilog_expr.specs.Building.{unsigned, parenthesize, unsigned_at, unsigned_pair, chain, variadic_expr, signed_pair, unsigned_shift, signed_shift, unsigned_division, signed_division, select}
use Rattle.verilog_expr.specs.Building.{select_bits, exprs_of, concatenation, conditional, kind_expr, division_expr, shift_expr, shift_operator}
use Rattle.verilog_expr.specs.Building.{is_signed_shift}
use Rattle.verilog_expr.specs.declared.extending.Extending.{Extending}
use Rattle.verilog_expr.specs.Expressions.{own_expr, expr_to}
use Rattle.verilog_expr.proofs.Carried.{IsCarried, own_carried, depth_carried}
use Rattle.verilog_expr.proofs.Passing.{Passes, built_passes}

abbrev AllFit : List Expr → Type 0
AllFit es = (e : Expr) → In e es → fits e ≡ true

-- ---- levels

strong : (o : Operator) → nat_le (suc (strength o)) primary_level ≡ true
strong times = refl
strong _ = refl

strong_left : (o : Operator) → nat_le (strength o) primary_level ≡ true
strong_left times = refl
strong_left _ = refl

own_strength : (o : Operator) → nat_le (strength o) (strength o) ≡ true
own_strength times = refl
own_strength _ = refl

placed_fits : (l : ℕ) (e : Expr) → fits e ≡ true → fits (parenthesize l e) ≡ true
placed_fits l e fit = go (nat_le l (level e)) where
  go : (b : Bool) → fits (cond b e (paren e)) ≡ true
  go true = fit
  go false = fit

placed_level : (l : ℕ) (e : Expr) → nat_le l primary_level ≡ true → nat_le l (level (parenthesize l e)) ≡ true
placed_level l e low = go (nat_le l (level e)) refl where
  go : (b : Bool) → nat_le l (level e) ≡ b → nat_le l (level (cond b e (paren e))) ≡ true
  go true is = is
  go false is = low

unsigned_fits : (e : Expr) → fits e ≡ true → fits (unsigned e) ≡ true
unsigned_fits e fit = go (is_signed e) where
  go : (b : Bool) → fits (cond b (as_unsigned e) e) ≡ true
  go true = fit
  go false = fit

unsigned_at_fits : (l : ℕ) (e : Expr) → fits e ≡ true → fits (unsigned_at l e) ≡ true
unsigned_at_fits l e fit = placed_fits l (unsigned e) (unsigned_fits e fit)

binary_fits : (o : Operator) (a b : Expr) → nat_le (strength o) (level a) ≡ true → nat_le (suc (strength o)) (level b) ≡ true → fits a ≡ true → fits b ≡ true
    → fits (binary o a b) ≡ true
binary_fits o a b first second fit also = and_intro _ _ (and_intro _ _ first second) (and_intro _ _ fit also)

-- ---- templates

unsigned_pair_fits : (o : Operator) (a b : Expr) → fits a ≡ true → fits b ≡ true → fits (unsigned_pair o a b) ≡ true
unsigned_pair_fits o a b fit also =
    binary_fits o (unsigned_at (strength o) a) (unsigned_at (suc (strength o)) b) (placed_level (strength o) (unsigned a) (strong_left o))
    (placed_level (suc (strength o)) (unsigned b) (strong o)) (unsigned_at_fits (strength o) a fit) (unsigned_at_fits (suc (strength o)) b also)

signed_pair_fits : (o : Operator) (a b : Expr) → fits a ≡ true → fits b ≡ true → fits (signed_pair o a b) ≡ true
signed_pair_fits o a b fit also = binary_fits o (as_signed a) (as_signed b) (strong_left o) (strong o) fit also

chained_fits : (o : Operator) (a : Expr) (bs : List Expr) → nat_le (strength o) (level a) ≡ true → fits a ≡ true → AllFit bs → fits (chain o a bs) ≡ true
chained_fits o a [] binds fit all = fit
chained_fits o a (b ∷ bs) binds fit all =
    chained_fits o (binary o a (unsigned_at (suc (strength o)) b)) bs (own_strength o)
    (binary_fits o a (unsigned_at (suc (strength o)) b) binds (placed_level (suc (strength o)) (unsigned b) (strong o)) fit
    (unsigned_at_fits (suc (strength o)) b (all b (inl refl))))
    (λ e here. all e (inr here))

variadic_fits : (o : Operator) (es : List Expr) → AllFit es → fits (variadic_expr o es) ≡ true
variadic_fits o [] all = refl
variadic_fits o (a ∷ []) all = all a (inl refl)
variadic_fits o (a ∷ b ∷ bs) all =
    chained_fits o (unsigned_at (strength o) a) (b ∷ bs) (placed_level (strength o) (unsigned a) (strong_left o))
    (unsigned_at_fits (strength o) a (all a (inl refl))) (λ e here. all e (inr here))

shift_fits : (o : Operator) (a b : Expr) → nat_le (strength o) (level a) ≡ true → fits a ≡ true → fits b ≡ true
    → fits (binary o a (parenthesize (suc (strength o)) b)) ≡ true
shift_fits o a b binds fit also =
    binary_fits o a (parenthesize (suc (strength o)) b) binds (placed_level (suc (strength o)) b (strong o)) fit (placed_fits (suc (strength o)) b also)

unsigned_shift_fits : (o : Operator) (a b : Expr) → fits a ≡ true → fits b ≡ true → fits (unsigned_shift o a b) ≡ true
unsigned_shift_fits o a b fit also =
    shift_fits o (unsigned_at (strength o) a) b (placed_level (strength o) (unsigned a) (strong_left o)) (unsigned_at_fits (strength o) a fit) also

signed_shift_fits : (o : Operator) (a b : Expr) → fits a ≡ true → fits b ≡ true → fits (signed_shift o a b) ≡ true
signed_shift_fits o a b fit also = shift_fits o (as_signed a) b (strong_left o) fit also

unsigned_division_fits : (o : Operator) (w divisor : ℕ) (a : Expr) → fits a ≡ true → fits (unsigned_division o w divisor a) ≡ true
unsigned_division_fits o w divisor a fit =
    binary_fits o (unsigned_at (strength o) a) (literal_of w false divisor) (placed_level (strength o) (unsigned a) (strong_left o)) (strong o)
    (unsigned_at_fits (strength o) a fit) refl

signed_division_fits : (o : Operator) (w divisor : ℕ) (a : Expr) → fits a ≡ true → fits (signed_division o w divisor a) ≡ true
signed_division_fits o w divisor a fit = binary_fits o (as_signed a) (literal_of w true divisor) (strong_left o) (strong o) fit refl

division_fits : (b : Bool) (o : Operator) (w divisor : ℕ) (a : Expr) → fits a ≡ true → fits (division_expr b o w divisor a) ≡ true
division_fits false o w divisor a fit = unsigned_division_fits o w divisor a fit
division_fits true o w divisor a fit = signed_division_fits o w divisor a fit

either_shift_fits : (s : Bool) (o : Operator) (a b : Expr) → fits a ≡ true → fits b ≡ true → fits (shift_expr s o a b) ≡ true
either_shift_fits false o a b fit also = unsigned_shift_fits o a b fit also
either_shift_fits true o a b fit also = signed_shift_fits o a b fit also

odd_fits : (a : Expr) → fits a ≡ true → fits (odd (parenthesize primary_level a)) ≡ true
odd_fits a fit = and_intro _ _ (placed_level primary_level a refl) (placed_fits primary_level a fit)

select_fits : (low w : ℕ) (a : Expr) → fits (select low w a) ≡ true
select_fits low w (name n) = go (w == 1) where
  go : (b : Bool) → fits (cond b (bit_select n (decimal low)) (part_select n (decimal (low + w - 1)) (decimal low))) ≡ true
  go true = refl
  go false = refl
select_fits low w _ = refl

selected_fits : (low v w : ℕ) (a : Expr) → fits a ≡ true → fits (select_bits low v w a) ≡ true
selected_fits low v w a fit = go (low == 0 && w == v) where
  go : (b : Bool) → fits (cond b a (select low w a)) ≡ true
  go true = fit
  go false = select_fits low w a

parts_fit : (a : Expr) (es : List Expr) → fits a ≡ true → AllFit es → all_fit (exprs_of a es) ≡ true
parts_fit a [] fit all = fit
parts_fit a (b ∷ es) fit all = and_intro _ _ fit (parts_fit b es (all b (inl refl)) (λ e here. all e (inr here)))

concatenation_fits : (es : List Expr) → AllFit es → fits (concatenation es) ≡ true
concatenation_fits [] all = refl
concatenation_fits (a ∷ es) all = parts_fit a es (all a (inl refl)) (λ e here. all e (inr here))

conditional_fits : (c a b : Expr) → fits c ≡ true → fits a ≡ true → fits b ≡ true → fits (conditional c a b) ≡ true
conditional_fits c a b condition fit also =
    and_intro _ _ (placed_level (suc choice_level) c refl)
    (and_intro _ _ (placed_fits (suc choice_level) c condition) (and_intro _ _ (unsigned_fits a fit) (unsigned_at_fits choice_level b also)))

-- ---- each kind

fits_pass : Passes fits
fits_pass = record {
  none = refl;
  numeral = λ w n. refl;
  chained = variadic_fits;
  paired = unsigned_pair_fits;
  signed = signed_pair_fits;
  divided = division_fits;
  shifted = λ s. either_shift_fits (is_signed_shift s) (shift_operator s);
  counted = odd_fits;
  selected = selected_fits;
  listed = concatenation_fits;
  copied = λ w v a fit. fit;
  chosen = conditional_fits;
}

pub built_fits : (kind : Kind) (w : ℕ) (ws : List ℕ) (divisor : ℕ) (es : List Expr) → ((e : Expr) → In e es → fits e ≡ true) → fits (kind_expr kind w ws divisor es) ≡ true
built_fits = built_passes fits fits_pass

pub fits_carried : IsCarried fits
fits_carried = record { none = refl; called = λ n. refl; each = built_fits }

pub own_fits : (named : Ref → Option Name) (ports : List Port) (os : List Op) (ex : Extending → Ref → Expr) → ((x : Extending) (r : Ref) → fits (ex x r) ≡ true)
    → (x : Extending) (r : Ref) → fits (own_expr named ports os ex x r) ≡ true
own_fits = own_carried fits fits_carried

pub depth_fits : (named : Ref → Option Name) (ports : List Port) (os : List Op) (n : ℕ) (x : Extending) (r : Ref) → fits (expr_to named ports os n x r) ≡ true
depth_fits = depth_carried fits fits_carried
