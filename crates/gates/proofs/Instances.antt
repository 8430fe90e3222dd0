-- The two ways in which signals carry bits: the bits that they have under an assignment, and the variables there are.
use Rattle.std.proofs.Common.{◌≡◌, refl, ap, ap₂, subst, ◌∙◌, ℕ, suc, ◌+◌, ◌≤◌, Bool, true, false, not, ◌&&◌, List, [], ◌∷◌, ◌++◌, length, arith}
use Rattle.std.proofs.Math.Bool.{beq}
use Rattle.gates.specs.declared.signal.Gate.{Gate}
use Rattle.gates.specs.declared.signal.Signal.{Signal}
use Rattle.gates.specs.declared.signal.Signal.TheVariants.{Fixed, Wire}
use Rattle.gates.specs.Signals.{inverse, variable_bit, signal_bit}
use Rattle.gates.specs.Order.{IsSignalWithin, AreInOrder, AreKept}
use Rattle.gates.proofs.AndGates.{gives-and, follows-and}
use Rattle.gates.proofs.Carrying.{Carrying}

-- ---- gates one after another

pub kept_first : (m : List Bool) (n : ℕ) (xs ys : List Gate) → AreKept m n (xs ++ ys) → AreKept m n xs
kept_first m n [] ys kept = tt
kept_first m n (x ∷ xs) ys kept = (kept.0, kept_first m (suc n) xs ys kept.1)

pub kept_second : (m : List Bool) (n : ℕ) (xs ys : List Gate) → AreKept m n (xs ++ ys) → AreKept m (n + length xs) ys
kept_second m n [] ys kept = let e : n ≡ n + 0 = omega arith in subst (λ k. AreKept m k ys) e kept
kept_second m n (x ∷ xs) ys kept =
    let e : suc n + length xs ≡ n + suc (length xs) = omega arith in
    subst (λ k. AreKept m k ys) e (kept_second m (suc n) xs ys kept.1)

pub kept_joined : (m : List Bool) (n : ℕ) (xs ys : List Gate) → AreKept m n xs → AreKept m (n + length xs) ys → AreKept m n (xs ++ ys)
kept_joined m n [] ys first second = let e : n + 0 ≡ n = omega arith in subst (λ k. AreKept m k ys) e second
kept_joined m n (x ∷ xs) ys first second =
    let e : n + suc (length xs) ≡ suc n + length xs = omega arith in
    (first.0, kept_joined m (suc n) xs ys first.1 (subst (λ k. AreKept m k ys) e second))

pub order_joined : (n : ℕ) (xs ys : List Gate) → AreInOrder n xs → AreInOrder (n + length xs) ys → AreInOrder n (xs ++ ys)
order_joined n [] ys first second = let e : n + 0 ≡ n = omega arith in subst (λ k. AreInOrder k ys) e second
order_joined n (x ∷ xs) ys first second =
    let e : n + suc (length xs) ≡ suc n + length xs = omega arith in
    (first.0, order_joined (suc n) xs ys first.1 (subst (λ k. AreInOrder k ys) e second))

-- ---- bits under an assignment

beq_inverted : (v p : Bool) → beq v (not p) ≡ not (beq v p)
beq_inverted true true = refl
beq_inverted true false = refl
beq_inverted false true = refl
beq_inverted false false = refl

pub inverse_bit : (m : List Bool) (s : Signal) → signal_bit m (inverse s) ≡ not (signal_bit m s)
inverse_bit m (Fixed b) = refl
inverse_bit m (Wire p) = beq_inverted (variable_bit m p.variable) p.positive

-- a signal carries the bit that it has under the assignment
abbrev pub bits_under : (m : List Bool) (inputs : ℕ) → Carrying inputs
bits_under m inputs = record {
  at = λ n s b. signal_bit m s ≡ b;
  kept = AreKept m;
  good = λ n gs. Unit {0};
  fixed = λ n b. refl;
  inverted = λ n s b h. inverse_bit m s ∙ ap not h;
  later = λ n k s b more h. h;
  kept_first = kept_first m;
  kept_second = kept_second m;
  kept_joined = kept_joined m;
  good_none = λ n. tt;
  good_joined = λ n xs ys first second. tt;
  and_good = λ a b p q gates ha hb. tt;
  and_at = λ a b p q gates kept good ha hb new. gives-and m inputs gates a b kept new ∙ ap₂ (λ x y. x && y) ha hb;
}

-- ---- the variables there are

pub inverse_within : (n : ℕ) (s : Signal) → IsSignalWithin n s → IsSignalWithin n (inverse s)
inverse_within n (Fixed b) h = tt
inverse_within n (Wire p) h = h

pub within_later : (n k : ℕ) (s : Signal) → n ≤ k → IsSignalWithin n s → IsSignalWithin k s
within_later n k (Fixed b) more h = tt
within_later n k (Wire p) more h = (h.0, omega (arith, h.1))

-- a signal carries any bit, where its variable is one there is
abbrev pub variables_in_order : (inputs : ℕ) → Carrying inputs
variables_in_order inputs = record {
  at = λ n s b. IsSignalWithin n s;
  kept = λ n gs. Unit {0};
  good = AreInOrder;
  fixed = λ n b. tt;
  inverted = λ n s b h. inverse_within n s h;
  later = λ n k s b more h. within_later n k s more h;
  kept_first = λ n xs ys kept. tt;
  kept_second = λ n xs ys kept. tt;
  kept_joined = λ n xs ys first second. tt;
  good_none = λ n. tt;
  good_joined = order_joined;
  and_good = λ a b p q gates ha hb. (follows-and inputs gates a b ha hb).order;
  and_at = λ a b p q gates kept good ha hb new. (follows-and inputs gates a b ha hb).within;
}
