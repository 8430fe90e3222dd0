-- The templates of `built`: what the expression of each group of operations gives, whatever its operands are.
use Rattle.std.proofs.Common.{◌≡◌, ℕ, suc, ◌+◌, ◌*◌, ◌≤◌, max, Bool, true, false, not, List, [], ◌∷◌, map, length, refl, sym, ap, ap₂, ◌∙◌, inl, inr, arith}
use Rattle.wiring.specs.Lists.{total}
use Rattle.wiring.specs.Wiring.{In}
use Rattle.wiring.proofs.Members.{from_In-map}
use Rattle.bits_core.specs.Word.{Word, number, bits, flag, add, mul, parity}
use Rattle.bits_core.proofs.Numbers.{bits-number}
use Rattle.bits_core.proofs.Arithmetic.{add-bits_left, mul-bits_left}
use Rattle.hw_model.specs.Types.{Name}
use Rattle.hw_model.specs.Kinds.{Predicate}
use Rattle.hw_model.specs.Kinds.Predicate.{eq, ne, slt, sle, sgt, sge, ult, ule, ugt, uge, ceq, cne, weq, wne}
use Rattle.hw_model.specs.Value.{product, compare}
use Rattle.verilog_model.specs.Tree.{Operator, Expr}
use Rattle.verilog_model.specs.Tree.Operator.{below, at_most, above, at_least, equals, differs}
use Rattle.verilog_model.specs.Tree.Expr.{as_signed, odd, binary}
use Rattle.verilog_model.specs.Grammar.{strength}
use Rattle.verilog_model.specs.Expression.{context_of, length_of, arithmetic, compare_words, own_value}
use Rattle.verilog_model.specs.Expression.Context.{both_operands, no_operand}
use Rattle.verilog_expr.specs.Building.{parenthesize, unsigned_at, unsigned_pair, chain, variadic_expr, signed_pair, comparison}
use Rattle.verilog_expr.specs.Signs.{is_signed_order}
use Rattle.verilog_expr.specs.Values.{value_in, HasBits}
use Rattle.verilog_expr.proofs.Own.{extended_full, long_same, Is, Is-value, HasBits-Is, own_in, bits_anywhere, placed_own, unsigned_at_length, unsigned_at_is, signed_is, both_is, compare_is}

-- an expression has w bits, or at most as many, and the value x in a context of w bits where the premise P holds
pub record Gives (widths : Name → ℕ) (ρ : Name → Word) (P : Type 0) (given : Bool) (w : ℕ) (e : Expr) (x : Word) : Type 0 where
  pub bits : HasBits widths ρ given w e
  pub worth : P → value_in widths ρ w e ≡ x

-- ---- from the left

abbrev pub folded : (Word → Word → Word) → Word → List Word → Word
folded f x [] = x
folded f x (y ∷ ys) = folded f (f x y) ys

add_all : (w n : ℕ) (ys : List Word) → folded add (bits w n) ys ≡ bits w (n + total (map number ys))
add_all w n [] = ap (bits w) (let e : n ≡ n + 0 = omega arith in e)
add_all w n (y ∷ ys) =
    ap (λ x. folded add x ys) (add-bits_left w n y) ∙ add_all w (n + number y) ys
    ∙ ap (bits w) (let e : n + number y + total (map number ys) ≡ n + (number y + total (map number ys)) = omega arith in e)

mul_all : (w n : ℕ) (ys : List Word) → folded mul (bits w n) ys ≡ bits w (n * product (map number ys))
mul_all w n [] = ap (bits w) (let e : n ≡ n * 1 = omega arith in e)
mul_all w n (y ∷ ys) =
    ap (λ x. folded mul x ys) (mul-bits_left w n y) ∙ mul_all w (n * number y) ys
    ∙ ap (bits w) (let e : n * number y * product (map number ys) ≡ n * (number y * product (map number ys)) = grind arith in e)

pub as_bits : (w : ℕ) (x : Word) → length x ≡ w → x ≡ bits w (number x)
as_bits w x size = sym (ap (λ k. bits k (number x)) (sym size) ∙ bits-number x)

pub added : (w : ℕ) (x : Word) (ys : List Word) → length x ≡ w → folded add x ys ≡ bits w (total (map number (x ∷ ys)))
added w x ys size = ap (λ z. folded add z ys) (as_bits w x size) ∙ add_all w (number x) ys

pub multiplied : (w : ℕ) (x : Word) (ys : List Word) → length x ≡ w → folded mul x ys ≡ bits w (product (map number (x ∷ ys)))
multiplied w x ys size = ap (λ z. folded mul z ys) (as_bits w x size) ∙ mul_all w (number x) ys

-- an operation on bits from the left is the same from the right
pub from_right : (f : Word → Word → Word) (all : List Word → Word) (w : ℕ) → ((x y z : Word) → f (f x y) z ≡ f x (f y z))
    → ((x : Word) → length x ≡ w → f x (all []) ≡ x) → ((y : Word) (ys : List Word) → all (y ∷ ys) ≡ f y (all ys))
    → ((x y : Word) → length x ≡ w → length y ≡ w → length (f x y) ≡ w)
    → (x : Word) (ys : List Word) → length x ≡ w → ((y : Word) → In y ys → length y ≡ w) → folded f x ys ≡ f x (all ys)
from_right f all w assoc unit step keeps x [] size sizes = sym (unit x size)
from_right f all w assoc unit step keeps x (y ∷ ys) size sizes =
    from_right f all w assoc unit step keeps (f x y) ys (keeps x y size (sizes y (inl refl))) (λ z here. sizes z (inr here))
    ∙ assoc x y (all ys) ∙ ap (f x) (sym (step y ys))

module _ (widths : Name → ℕ) (ρ : Name → Word) where
  pub gives : (P : Type 0) (given : Bool) (w : ℕ) (s : Bool) (e : Expr) (x y : Word) → Is widths ρ given w s e x → x ≡ y → Gives widths ρ P given w e y
  gives P given w s e x y is same = record { bits = HasBits-Is widths ρ given w s e x is; worth = λ p. Is-value widths ρ given w s e x is ∙ same }

  -- what needs no context does in any
  pub gives_anywhere : (P : Type 0) (given : Bool) (w : ℕ) (e : Expr) (x : Word) → Gives widths ρ P false w e x → Gives widths ρ P given w e x
  gives_anywhere P given w e x it = record { bits = bits_anywhere widths ρ given w e it.bits; worth = it.worth }

  -- ---- operators between any number of operands

  abbrev pub AllBits : Bool → ℕ → List Expr → Type 0
  AllBits given w es = (e : Expr) → In e es → HasBits widths ρ given w e

  in_sizes : (given : Bool) (w : ℕ) (es : List Expr) → AllBits given w es → (x : Word) → In x (map (value_in widths ρ w) es) → length x ≡ w
  in_sizes given w es all x here =
      let found = from_In-map (value_in widths ρ w) x es here in
      ap length found.2 ∙ (all found.0 found.1).worth

  chained_is : (given : Bool) (o : Operator) (w : ℕ) → context_of o ≡ both_operands
      → ((x y : Word) → length x ≡ w → length y ≡ w → length (arithmetic o false x y) ≡ w)
      → (a : Expr) (x : Word) → Is widths ρ given w false a x → (bs : List Expr) → AllBits given w bs
      → Is widths ρ given w false (chain o a bs) (folded (arithmetic o false) x (map (value_in widths ρ w) bs))
  chained_is given o w context keeps a x is [] all = is
  chained_is given o w context keeps a x is (b ∷ bs) all =
      let has : HasBits widths ρ given w b = all b (inl refl) in
      let size : length (arithmetic o false x (value_in widths ρ w b)) ≡ w = keeps x (value_in widths ρ w b) is.size has.worth in
      chained_is given o w context keeps (binary o a (unsigned_at (suc (strength o)) b)) (arithmetic o false x (value_in widths ρ w b))
      (both_is widths ρ given o w false a (unsigned_at (suc (strength o)) b) x (value_in widths ρ w b) context is
      (unsigned_at_is widths ρ given (suc (strength o)) w b has) size)
      bs (λ e here. all e (inr here))

  pub variadic_gives : (P : Type 0) (given : Bool) (o : Operator) (w : ℕ) (op : List Word → Word) → context_of o ≡ both_operands
      → ((x y : Word) → length x ≡ w → length y ≡ w → length (arithmetic o false x y) ≡ w)
      → ((x : Word) (ys : List Word) → length x ≡ w → ((y : Word) → In y ys → length y ≡ w) → folded (arithmetic o false) x ys ≡ op (x ∷ ys))
      → (es : List Expr) → AllBits given w es → 1 ≤ length es → Gives widths ρ P given w (variadic_expr o es) (op (map (value_in widths ρ w) es))
  variadic_gives P given o w op context keeps folds [] all some = absurd (omega arith)
  variadic_gives P given o w op context keeps folds (a ∷ []) all some =
      let has : HasBits widths ρ given w a = all a (inl refl) in
      record { bits = has; worth = λ p. folds (value_in widths ρ w a) [] has.worth (λ y here. absurd here) }
  variadic_gives P given o w op context keeps folds (a ∷ b ∷ bs) all some =
      let has : HasBits widths ρ given w a = all a (inl refl) in
      let others : AllBits given w (b ∷ bs) = λ e here. all e (inr here) in
      gives P given w false (chain o (unsigned_at (strength o) a) (b ∷ bs)) _ _
      (chained_is given o w context keeps (unsigned_at (strength o) a) (value_in widths ρ w a) (unsigned_at_is widths ρ given (strength o) w a has) (b ∷ bs) others)
      (folds (value_in widths ρ w a) (map (value_in widths ρ w) (b ∷ bs)) has.worth (in_sizes given w (b ∷ bs) others))

  -- ---- comparisons

  unsigned_compared : (P : Type 0) (given g h : Bool) (o : Operator) (w : ℕ) (a b : Expr) → context_of o ≡ no_operand → HasBits widths ρ g w a → HasBits widths ρ h w b
      → max (length_of widths a) (length_of widths b) ≡ w
      → Gives widths ρ P given 1 (unsigned_pair o a b) (flag (compare_words o false (value_in widths ρ w a) (value_in widths ρ w b)))
  unsigned_compared P given g h o w a b context first second greater =
      gives P given 1 false (unsigned_pair o a b) _ _
      (compare_is widths ρ given g h o w false (unsigned_at (strength o) a) (unsigned_at (suc (strength o)) b) (value_in widths ρ w a) (value_in widths ρ w b) context
      (unsigned_at_is widths ρ g (strength o) w a first) (unsigned_at_is widths ρ h (suc (strength o)) w b second)
      (ap₂ (λ m n. max m n) (unsigned_at_length widths ρ (strength o) a) (unsigned_at_length widths ρ (suc (strength o)) b) ∙ greater)) refl

  signed_compared : (P : Type 0) (given : Bool) (o : Operator) (w : ℕ) (a b : Expr) → context_of o ≡ no_operand → HasBits widths ρ false w a → HasBits widths ρ false w b
      → Gives widths ρ P given 1 (signed_pair o a b) (flag (compare_words o true (value_in widths ρ w a) (value_in widths ρ w b)))
  signed_compared P given o w a b context first second =
      gives P given 1 false (signed_pair o a b) _ _
      (compare_is widths ρ given false false o w true (as_signed a) (as_signed b) (value_in widths ρ w a) (value_in widths ρ w b) context
      (signed_is widths ρ false w a first) (signed_is widths ρ false w b second) (both_long first.long second.long)) refl where
        both_long : {m n : ℕ} → m ≡ w → n ≡ w → max m n ≡ w
        both_long same also = omega arith

  pub comparison_gives : (P : Type 0) (given : Bool) (p : Predicate) (w : ℕ) (a b : Expr) → HasBits widths ρ (not (is_signed_order p)) w a
      → HasBits widths ρ (not (is_signed_order p)) w b → (not (is_signed_order p) ≡ true → max (length_of widths a) (length_of widths b) ≡ w)
      → Gives widths ρ P given 1 (comparison p a b) (flag (compare p (value_in widths ρ w a) (value_in widths ρ w b)))
  comparison_gives P given eq w a b first second greater = unsigned_compared P given true true equals w a b refl first second (greater refl)
  comparison_gives P given ne w a b first second greater = unsigned_compared P given true true differs w a b refl first second (greater refl)
  comparison_gives P given slt w a b first second greater = signed_compared P given below w a b refl first second
  comparison_gives P given sle w a b first second greater = signed_compared P given at_most w a b refl first second
  comparison_gives P given sgt w a b first second greater = signed_compared P given above w a b refl first second
  comparison_gives P given sge w a b first second greater = signed_compared P given at_least w a b refl first second
  comparison_gives P given ult w a b first second greater = unsigned_compared P given true true below w a b refl first second (greater refl)
  comparison_gives P given ule w a b first second greater = unsigned_compared P given true true at_most w a b refl first second (greater refl)
  comparison_gives P given ugt w a b first second greater = unsigned_compared P given true true above w a b refl first second (greater refl)
  comparison_gives P given uge w a b first second greater = unsigned_compared P given true true at_least w a b refl first second (greater refl)
  comparison_gives P given ceq w a b first second greater = unsigned_compared P given true true equals w a b refl first second (greater refl)
  comparison_gives P given cne w a b first second greater = unsigned_compared P given true true differs w a b refl first second (greater refl)
  comparison_gives P given weq w a b first second greater = unsigned_compared P given true true equals w a b refl first second (greater refl)
  comparison_gives P given wne w a b first second greater = unsigned_compared P given true true differs w a b refl first second (greater refl)

  pub odd_gives : (P : Type 0) (given : Bool) (l w : ℕ) (a : Expr) → HasBits widths ρ false w a
      → Gives widths ρ P given 1 (odd (parenthesize l a)) (flag (parity (value_in widths ρ w a)))
  odd_gives P given l w a has =
      let worth : value_in widths ρ 1 (odd (parenthesize l a)) ≡ flag (parity (value_in widths ρ w a)) =
      extended_full 1 false (flag (parity (own_value widths ρ (parenthesize l a)))) refl ∙ ap (λ x. flag (parity x)) (placed_own widths ρ l a ∙ own_in widths ρ w a has) in
      record { bits = record { long = long_same given 1 1 refl; full = λ h. refl; worth = ap length worth }; worth = λ p. worth }
