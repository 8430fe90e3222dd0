-- Names and unsigned literals: in a wider context they have more zeros, and an operation gives one only where it gives an
-- operand as it stands.
use Rattle.std.proofs.Common.{◌≡◌, ℕ, suc, ◌+◌, ◌-◌, ◌/◌, ◌≤◌, Bool, true, false, cond, ◌&&◌, ◌==◌, List, [], ◌∷◌, ◌++◌, length, replicate, decimal, refl, sym, ap, ◌∙◌, arith, append_assoc, length-append}
use Rattle.std.proofs.lemmas.Bool.{false≢true}
use Rattle.std.proofs.lemmas.List.{length-replicate, replicate-append-replicate}
use Rattle.bits_core.specs.Word.{Word, bits}
use Rattle.hw_model.specs.Types.{Name}
use Rattle.hw_model.specs.Kinds.{Kind, Predicate}
use Rattle.hw_model.specs.Kinds.Predicate.{eq, ne, slt, sle, sgt, sge, ult, ule, ugt, uge, ceq, cne, weq, wne}
use Rattle.hw_model.specs.Kinds.Kind.{variadic, sub, division, shift, icmp, parity, extract, concat, replicate as replicate_kind, mux, constant, bitcast, wire}
use Rattle.verilog_model.specs.Numerals.{decimal_number, hex_number}
use Rattle.verilog_model.specs.Tree.{Operator, Expr}
use Rattle.verilog_model.specs.Tree.Operator.{minus}
use Rattle.verilog_model.specs.Tree.Expr.{name, bit_select, part_select, literal, repeated, odd, binary}
use Rattle.verilog_model.specs.Tree.Exprs.{last}
use Rattle.verilog_model.specs.Grammar.{strength, primary_level}
use Rattle.verilog_model.specs.Expression.{is_signed, extend}
use Rattle.verilog_expr.specs.Building.{parenthesize, unsigned_at, of_one_expr, of_two_exprs, of_three_exprs, unsigned_pair, chain, variadic_expr, comparison, select, concatenation, conditional}
use Rattle.verilog_expr.specs.Building.{first_width, kind_expr, division_expr, shift_expr, variadic_operator, division_operator, shift_operator, is_signed_division, is_signed_shift}
use Rattle.verilog_expr.specs.Extensions.{is_simple}
use Rattle.verilog_expr.specs.Values.{value_in}

-- ---- wider contexts

-- what is extended to v bits, and then to w, is extended to w bits
pub extend_wider : (v w : ℕ) (x : Word) → length (extend v false x) ≡ v → v ≤ w → extend w false x ≡ replicate (w - v) false ++ extend v false x
extend_wider v w x size wider =
    let added : length (extend v false x) ≡ length (replicate (v - length x) false) + length x = length-append (replicate (v - length x) false) x in
    let zeros : length (replicate (v - length x) false) ≡ v - length x = length-replicate (v - length x) false in
    let sum : w - length x ≡ (w - v) + (v - length x) = omega (arith, size, wider, added, zeros) in
    ap (λ n. replicate n false ++ x) sum
    ∙ ap (λ y. y ++ x) (sym (replicate-append-replicate (w - v) (v - length x) false))
    ∙ append_assoc (replicate (w - v) false) (replicate (v - length x) false) x

module _ (widths : Name → ℕ) (ρ : Name → Word) where
  pub simple_unsigned : (e : Expr) → is_simple e ≡ true → is_signed e ≡ false
  simple_unsigned (name n) simple = refl
  simple_unsigned (literal w false h) simple = refl
  simple_unsigned (literal w true h) simple = absurd (false≢true simple)
  simple_unsigned _ simple = absurd (false≢true simple)

  pub simple_wider : (v w : ℕ) (e : Expr) → is_simple e ≡ true → length (value_in widths ρ v e) ≡ v → v ≤ w
      → value_in widths ρ w e ≡ replicate (w - v) false ++ value_in widths ρ v e
  simple_wider v w (name n) simple size wider = extend_wider v w (ρ n) size wider
  simple_wider v w (literal k false h) simple size wider = extend_wider v w (bits (decimal_number k) (hex_number h)) size wider
  simple_wider v w (literal k true h) simple size wider = absurd (false≢true simple)
  simple_wider v w _ simple size wider = absurd (false≢true simple)

-- ---- operations that give an operand as it stands

-- expressions that are the same as others where these are names or literals
abbrev pub AreStill : List Expr → List Expr → Type 0
AreStill [] [] = Unit {0}
AreStill [] (g ∷ gs) = ⊥
AreStill (f ∷ fs) [] = ⊥
AreStill (f ∷ fs) (g ∷ gs) = (is_simple f ≡ true → g ≡ f) × AreStill fs gs

pub chain_wide : (o : Operator) (a b : Expr) (bs : List Expr) → is_simple (chain o (binary o a b) bs) ≡ false
chain_wide o a b [] = refl
chain_wide o a b (c ∷ bs) = chain_wide o (binary o a b) (unsigned_at (suc (strength o)) c) bs

variadic_still : (o : Operator) (fs gs : List Expr) → AreStill fs gs → is_simple (variadic_expr o fs) ≡ true → variadic_expr o gs ≡ variadic_expr o fs
variadic_still o [] [] still simple = refl
variadic_still o [] (g ∷ gs) still simple = absurd still
variadic_still o (f ∷ fs) [] still simple = absurd still
variadic_still o (f ∷ []) (g ∷ []) still simple = still.0 simple
variadic_still o (f ∷ []) (g ∷ h ∷ gs) still simple = absurd still.1
variadic_still o (e ∷ f ∷ fs) (g ∷ gs) still simple =
    absurd (false≢true (sym (chain_wide o (unsigned_at (strength o) e) (unsigned_at (suc (strength o)) f) fs) ∙ simple))

one_still : (p : Expr → Expr) → ((f g : Expr) → (is_simple f ≡ true → g ≡ f) → is_simple (p f) ≡ true → p g ≡ p f) → (fs gs : List Expr) → AreStill fs gs
    → is_simple (of_one_expr p fs) ≡ true → of_one_expr p gs ≡ of_one_expr p fs
one_still p each [] [] still simple = refl
one_still p each [] (g ∷ gs) still simple = absurd still
one_still p each (f ∷ fs) [] still simple = absurd still
one_still p each (f ∷ []) (g ∷ []) still simple = each f g still.0 simple
one_still p each (f ∷ []) (g ∷ h ∷ gs) still simple = absurd still.1
one_still p each (e ∷ f ∷ fs) (g ∷ []) still simple = absurd still.1
one_still p each (e ∷ f ∷ fs) (g ∷ h ∷ gs) still simple = refl

two_still : (p : Expr → Expr → Expr) → ((a b : Expr) → is_simple (p a b) ≡ false) → (fs gs : List Expr) → AreStill fs gs
    → is_simple (of_two_exprs p fs) ≡ true → of_two_exprs p gs ≡ of_two_exprs p fs
two_still p never [] [] still simple = refl
two_still p never [] (g ∷ gs) still simple = absurd still
two_still p never (f ∷ fs) [] still simple = absurd still
two_still p never (f ∷ []) (g ∷ []) still simple = refl
two_still p never (f ∷ []) (g ∷ h ∷ gs) still simple = absurd still.1
two_still p never (e ∷ f ∷ fs) (g ∷ []) still simple = absurd still.1
two_still p never (e ∷ f ∷ []) (g ∷ h ∷ gs) still simple = absurd (false≢true (sym (never e f) ∙ simple))
two_still p never (d ∷ e ∷ f ∷ fs) (g ∷ h ∷ []) still simple = absurd still.1.1
two_still p never (d ∷ e ∷ f ∷ fs) (g ∷ h ∷ k ∷ gs) still simple = refl

three_still : (p : Expr → Expr → Expr → Expr) → ((a b c : Expr) → is_simple (p a b c) ≡ false) → (fs gs : List Expr) → AreStill fs gs
    → is_simple (of_three_exprs p fs) ≡ true → of_three_exprs p gs ≡ of_three_exprs p fs
three_still p never [] [] still simple = refl
three_still p never [] (g ∷ gs) still simple = absurd still
three_still p never (f ∷ fs) [] still simple = absurd still
three_still p never (f ∷ []) (g ∷ []) still simple = refl
three_still p never (f ∷ []) (g ∷ h ∷ gs) still simple = absurd still.1
three_still p never (e ∷ f ∷ fs) (g ∷ []) still simple = absurd still.1
three_still p never (e ∷ f ∷ []) (g ∷ h ∷ []) still simple = refl
three_still p never (e ∷ f ∷ []) (g ∷ h ∷ k ∷ gs) still simple = absurd still.1.1
three_still p never (d ∷ e ∷ f ∷ fs) (g ∷ h ∷ []) still simple = absurd still.1.1
three_still p never (d ∷ e ∷ f ∷ []) (g ∷ h ∷ k ∷ gs) still simple = absurd (false≢true (sym (never d e f) ∙ simple))
three_still p never (c ∷ d ∷ e ∷ f ∷ fs) (g ∷ h ∷ k ∷ []) still simple = absurd still.1.1.1
three_still p never (c ∷ d ∷ e ∷ f ∷ fs) (g ∷ h ∷ k ∷ l ∷ gs) still simple = refl

braces_still : (fs gs : List Expr) → AreStill fs gs → is_simple (concatenation fs) ≡ true → concatenation gs ≡ concatenation fs
braces_still [] [] still simple = refl
braces_still [] (g ∷ gs) still simple = absurd still
braces_still (f ∷ fs) gs still simple = absurd (false≢true simple)

compared_wide : (p : Predicate) (a b : Expr) → is_simple (comparison p a b) ≡ false
compared_wide eq a b = refl
compared_wide ne a b = refl
compared_wide slt a b = refl
compared_wide sle a b = refl
compared_wide sgt a b = refl
compared_wide sge a b = refl
compared_wide ult a b = refl
compared_wide ule a b = refl
compared_wide ugt a b = refl
compared_wide uge a b = refl
compared_wide ceq a b = refl
compared_wide cne a b = refl
compared_wide weq a b = refl
compared_wide wne a b = refl

division_wide : (s : Bool) (o : Operator) (w divisor : ℕ) (a : Expr) → is_simple (division_expr s o w divisor a) ≡ false
division_wide false o w divisor a = refl
division_wide true o w divisor a = refl

shift_wide : (s : Bool) (o : Operator) (a b : Expr) → is_simple (shift_expr s o a b) ≡ false
shift_wide false o a b = refl
shift_wide true o a b = refl

pub bits_wide : (n : Name) (low w : ℕ) (b : Bool) → is_simple (cond b (bit_select n (decimal low)) (part_select n (decimal (low + w - 1)) (decimal low))) ≡ false
bits_wide n low w true = refl
bits_wide n low w false = refl

-- an operation whose expression is simple gives the same one of operands that stay; of an operand that it cuts the same
-- expression is asked for
pub kind_stays : (kind : Kind) (w : ℕ) (ws : List ℕ) (divisor : ℕ) (fs gs : List Expr) → AreStill fs gs
    → ((low : ℕ) → kind ≡ extract low → (low == 0 && w == first_width ws) ≡ false → gs ≡ fs)
    → is_simple (kind_expr kind w ws divisor fs) ≡ true → kind_expr kind w ws divisor gs ≡ kind_expr kind w ws divisor fs
kind_stays (variadic v) w ws divisor fs gs still cut simple = variadic_still (variadic_operator v) fs gs still simple
kind_stays sub w ws divisor fs gs still cut simple = two_still (unsigned_pair minus) (λ a b. refl) fs gs still simple
kind_stays (division d) w ws divisor fs gs still cut simple =
    two_still (λ a b. division_expr (is_signed_division d) (division_operator d) w divisor a) (λ a b. division_wide (is_signed_division d) (division_operator d) w divisor a) fs gs still simple
kind_stays (shift s) w ws divisor fs gs still cut simple =
    two_still (shift_expr (is_signed_shift s) (shift_operator s)) (shift_wide (is_signed_shift s) (shift_operator s)) fs gs still simple
kind_stays (icmp p) w ws divisor fs gs still cut simple = two_still (comparison p) (compared_wide p) fs gs still simple
kind_stays parity w ws divisor fs gs still cut simple =
    one_still (λ a. odd (parenthesize primary_level a)) (λ f g same never. absurd (false≢true never)) fs gs still simple
kind_stays (extract low) w ws divisor fs gs still cut simple = go (low == 0 && w == first_width ws) refl where
  go : (b : Bool) → (low == 0 && w == first_width ws) ≡ b → kind_expr (extract low) w ws divisor gs ≡ kind_expr (extract low) w ws divisor fs
  go true whole = let given : (low == 0 && w == first_width ws) ≡ true = whole in
      ap (λ b. of_one_expr (λ a. cond b a (select low w a)) gs) given
      ∙ one_still (λ a. a) (λ f g same simple. same simple) fs gs still (sym (ap (λ b. is_simple (of_one_expr (λ a. cond b a (select low w a)) fs)) given) ∙ simple)
      ∙ sym (ap (λ b. of_one_expr (λ a. cond b a (select low w a)) fs) given)
  go false part = ap (kind_expr (extract low) w ws divisor) (cut low refl part)
kind_stays concat w ws divisor fs gs still cut simple = braces_still fs gs still simple
kind_stays replicate_kind w ws divisor fs gs still cut simple =
    one_still (λ a. repeated (decimal (w / first_width ws)) (last a)) (λ f g same never. absurd (false≢true never)) fs gs still simple
kind_stays mux w ws divisor fs gs still cut simple = three_still conditional (λ a b c. refl) fs gs still simple
kind_stays (constant z) w ws divisor fs gs still cut simple = refl
kind_stays bitcast w ws divisor fs gs still cut simple = one_still (λ a. a) (λ f g same simple. same simple) fs gs still simple
kind_stays wire w ws divisor fs gs still cut simple = one_still (λ a. a) (λ f g same simple. same simple) fs gs still simple
kind_stays _ w ws divisor fs gs still cut simple = refl
