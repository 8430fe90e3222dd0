-- Operations of two operands of one width, within their prices.
use Rattle.std.proofs.Common.{◌≡◌, refl, sym, subst, ◌∙◌, ℕ, suc, ◌+◌, ◌*◌, ◌≤◌, false, List, [], length, arith, mul-suc, mul_comm}
use Rattle.bits_core.specs.Word.{Word, number, sign, sub as difference_of, shift_left, shift_right}
use Rattle.gates.specs.declared.signal.Signal.{Signal}
use Rattle.gates.specs.declared.signal.Signal.TheVariants.{Fixed}
use Rattle.gates.specs.Build.{Build, done, and_then, and, exclusive}
use Rattle.gates.proofs.Carrying.{Carrying, Makes, makes-done}
use Rattle.gate_words.specs.GateLists.{masked, flipped, sum, reduced, negated, subtracted, quotient, rest, signed_quotient, divided_from, top, moved_up, moved_down, shifted_left, shifted_right, shifted_right_signed}
use Rattle.gate_words.specs.Computes.{division_gates}
use Rattle.gate_words.proofs.Words.CarriesWord.{none, more}
use Rattle.gate_words.proofs.Words.{CarriesWord, IsWord, word-top}
use Rattle.gate_words.proofs.LongGateLists.{bit_moved, stage_gates, makes-subtracted, makes-quotient, makes-rest, makes-signed_quotient, makes-signed_rest, makes-moved}
use Rattle.gate_words.proofs.BitSums.{difference_is_sub}
use Rattle.gate_words.proofs.BitProducts.{quotient_is, rest_is, signed_quotient_is, signed_rest_is}
use Rattle.gate_words.proofs.BitShifts.{filled, adds_up-left, adds_up-filled, moved_is, moves-up, moves-down, few_gates}
use Rattle.hw_model.specs.Kinds.{Division, Shift}
use Rattle.hw_model.specs.Kinds.Division.{divu, modu, divs, mods}
use Rattle.hw_model.specs.Kinds.Shift.{shl, shru, shrs}
use Rattle.hw_model.specs.Value.{division_value, shift_value}
use Rattle.operation_gates.specs.OperationGateLists.{division_gate_list, shift_gate_list}
use Rattle.operation_gates.proofs.WordLists.{makes_by_width}

-- ---- prices

square_more : (k : ℕ) → suc k * k ≡ k * k + k
square_more k = omega (arith, mul_comm (suc k) k, mul-suc k k)

-- a division by magnitudes takes no gate of words without bits, and otherwise within its price
unsigned_price : (k : ℕ) → division_gates k + 2 * k ≤ 16 * (k * k) + 64 * k
unsigned_price k = omega (arith, square_more k)

rest_price : (k : ℕ) → division_gates k ≤ 16 * (k * k) + 64 * k
rest_price k = omega (arith, square_more k)

signed_price : (k : ℕ) → 1 ≤ k → division_gates k + 38 * k + 3 ≤ 16 * (k * k) + 64 * k
signed_price k some = omega (arith, square_more k, some)

signed_rest_price : (k : ℕ) → division_gates k + 36 * k ≤ 16 * (k * k) + 64 * k
signed_rest_price k = omega (arith, square_more k)

shift_price : (k : ℕ) → k ≤ 128 → stage_gates k k + 3 * k ≤ 32 * k
shift_price k h = omega (arith, few_gates k k h)

none_of_none : signed_quotient [] [] ≡ done []
unfolding signed_quotient negated flipped sum quotient divided_from reduced masked exclusive and and_then done
none_of_none = refl

module _ {inputs : ℕ} (c : Carrying inputs) where
  -- the gate list makes the operation on two words of w bits, by at most h gates
  abbrev pub MakesOfPair : (List Signal → List Signal → Build (List Signal)) → (Word → Word → Word) → ℕ → ℕ → Type 0
  MakesOfPair f op w h =
      (n : ℕ) (u : Word) (x : List Signal) → CarriesWord c n u x → (v : Word) (y : List Signal) → CarriesWord c n v y → length u ≡ w → length v ≡ w
      → Makes c (f x y) n h (IsWord c (op u v))

  pub makes-difference : (w : ℕ) → MakesOfPair subtracted difference_of w (12 * w)
  makes-difference w n u x hu v y hv eu ev =
      makes_by_width c (subtracted x y) n (λ k. 9 * k) (λ k. 12 * k) u w _ _ (omega arith) eu (difference_is_sub u v (ev ∙ sym eu)) (makes-subtracted c n u x hu v y hv)

  -- ---- divisions

  signed_some : (w : ℕ) (n : ℕ) (u : Word) (x : List Signal) → CarriesWord c n u x → (v : Word) (y : List Signal) → CarriesWord c n v y → length u ≡ w → length v ≡ w
      → 1 ≤ length u → Makes c (signed_quotient x y) n (16 * (w * w) + 64 * w) (IsWord c (division_value divs u v))
  signed_some w n u x hu v y hv eu ev some =
      makes_by_width c (signed_quotient x y) n (λ k. division_gates k + 38 * k + 3) (λ k. 16 * (k * k) + 64 * k) u w _ _ (signed_price (length u) some) eu
      (signed_quotient_is u v (eu ∙ sym ev)) (makes-signed_quotient c n u x hu v y hv (eu ∙ sym ev))

  signed_none : (n : ℕ) → Makes c (signed_quotient [] []) n 0 (IsWord c (division_value divs [] []))
  signed_none n =
      subst (λ (p : Build (List Signal)). Makes c p n 0 (IsWord c (division_value divs [] []))) (sym none_of_none)
      (makes-done c [] n (IsWord c (division_value divs [] [])) (subst (λ w. CarriesWord c n w []) (signed_quotient_is [] [] refl) none))

  signed_any : (w : ℕ) → MakesOfPair signed_quotient (division_value divs) w (16 * (w * w) + 64 * w)
  signed_any w n _ _ none _ _ none eu ev =
      subst (λ k. Makes c (signed_quotient [] []) n (16 * (k * k) + 64 * k) (IsWord c (division_value divs [] []))) eu (signed_none n)
  signed_any w n _ _ none _ _ (more b v s y hb hv) eu ev = absurd (omega arith)
  signed_any w n _ _ (more b u s x hb hu) v y hv eu ev = signed_some w n _ _ (more b u s x hb hu) v y hv eu ev (omega arith)

  pub makes-division : (d : Division) (w : ℕ) → MakesOfPair (division_gate_list d) (division_value d) w (16 * (w * w) + 64 * w)
  makes-division divu w n u x hu v y hv eu ev =
      makes_by_width c (quotient x y) n (λ k. division_gates k + 2 * k) (λ k. 16 * (k * k) + 64 * k) u w _ _ (unsigned_price (length u)) eu
      (quotient_is u v (eu ∙ sym ev)) (makes-quotient c n u x hu v y hv (eu ∙ sym ev))
  makes-division modu w n u x hu v y hv eu ev =
      makes_by_width c (rest x y) n division_gates (λ k. 16 * (k * k) + 64 * k) u w _ _ (rest_price (length u)) eu
      (rest_is u v (eu ∙ sym ev)) (makes-rest c n u x hu v y hv (eu ∙ sym ev))
  makes-division divs w n u x hu v y hv eu ev = signed_any w n u x hu v y hv eu ev
  makes-division mods w n u x hu v y hv eu ev =
      makes_by_width c _ n (λ k. division_gates k + 36 * k) (λ k. 16 * (k * k) + 64 * k) u w _ _ (signed_rest_price (length u)) eu
      (signed_rest_is u v (eu ∙ sym ev)) (makes-signed_rest c n u x hu v y hv (eu ∙ sym ev))

  -- ---- shifts of words of 128 bits at most

  pub makes-shift : (s : Shift) (w : ℕ) → w ≤ 128 → MakesOfPair (shift_gate_list s) (λ u v. shift_value s u (number v)) w (32 * w)
  makes-shift shl w short n u x hu v y hv eu ev =
      makes_by_width c (shifted_left x y) n (λ k. stage_gates k k + 3 * k) (λ k. 32 * k) u w _ _ (shift_price (length u) (subst (λ k. k ≤ 128) (sym eu) short)) eu
      (moved_is shift_left u (adds_up-left u) v)
      (subst (λ k. Makes c (shifted_left x y) n (stage_gates (length u) k + 3 * length u) (IsWord c (bit_moved shift_left u v))) (ev ∙ sym eu)
      (makes-moved c moved_up shift_left n (moves-up c n) u x hu v y hv))
  makes-shift shru w short n u x hu v y hv eu ev =
      makes_by_width c (shifted_right x y) n (λ k. stage_gates k k + 3 * k) (λ k. 32 * k) u w _ _ (shift_price (length u) (subst (λ k. k ≤ 128) (sym eu) short)) eu
      (moved_is shift_right u (adds_up-filled false u) v)
      (subst (λ k. Makes c (shifted_right x y) n (stage_gates (length u) k + 3 * length u) (IsWord c (bit_moved shift_right u v))) (ev ∙ sym eu)
      (makes-moved c (moved_down (Fixed false)) shift_right n (moves-down c n (Fixed false) false (c.fixed n false)) u x hu v y hv))
  makes-shift shrs w short n u x hu v y hv eu ev =
      makes_by_width c (shifted_right_signed x y) n (λ k. stage_gates k k + 3 * k) (λ k. 32 * k) u w _ _ (shift_price (length u) (subst (λ k. k ≤ 128) (sym eu) short)) eu
      (moved_is (filled (sign u)) u (adds_up-filled (sign u) u) v)
      (subst (λ k. Makes c (shifted_right_signed x y) n (stage_gates (length u) k + 3 * length u) (IsWord c (bit_moved (filled (sign u)) u v))) (ev ∙ sym eu)
      (makes-moved c (moved_down (top x)) (filled (sign u)) n (moves-down c n (top x) (sign u) (word-top c n u x hu)) u x hu v y hv))
