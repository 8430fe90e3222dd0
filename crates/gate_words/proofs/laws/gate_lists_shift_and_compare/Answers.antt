use Rattle.std.proofs.Common.{sym, subst, ◌∙◌, ℕ, ◌+◌, ◌*◌, ◌≤◌, length, false, arith}
use Rattle.bits_core.specs.Word.{number, sign, shift_left, shift_right, shift_right_signed, less as is_less, signed_less as is_signed_less}
use Rattle.gates.specs.declared.signal.Signal.TheVariants.{Fixed}
use Rattle.gates.proofs.Carrying.{Makes}
use Rattle.gates.proofs.SingleBits.{Carries}
use Rattle.gate_words.specs.GateLists.{less, signed_less, top, top_inverted, moved_up, moved_down, shifted_left, shifted_right, shifted_right_signed}
use Rattle.gate_words.proofs.Words.{IsWord, top_flipped, word-top, word-top_inverted}
use Rattle.gate_words.proofs.LongGateLists.{bit_less, bit_moved, stage_gates, makes-less, makes-moved}
use Rattle.gate_words.proofs.BitSums.{less_is, signed_is_less, length-top_flipped}
use Rattle.gate_words.proofs.BitShifts.{filled, adds_up-left, adds_up-filled, moved_is, moves-up, moves-down, few_gates}
use Rattle.gate_words.proofs.Computing.{of_short, bit_of_two}
use Rattle.gate_words.proofs.laws.gate_lists_shift_and_compare.Goals as goal

-- the gates of the stages and of the choice after them
few : (n : ℕ) → n ≤ 128 → stage_gates n n + 3 * n ≤ 25 * n
few n h = omega (arith, few_gates n n h)

pub returns : goal.returns
returns c = record {
  up = of_short shifted_left (bit_moved shift_left) (λ x y. shift_left x (number y)) (λ w. stage_gates w w + 3 * w) (λ w. 25 * w)
      (λ inputs c n u xs hu v ys hv e.
      subst (λ k. Makes c (shifted_left xs ys) n (stage_gates (length u) k + 3 * length u) (IsWord c (bit_moved shift_left u v))) (sym e)
      (makes-moved c moved_up shift_left n (moves-up c n) u xs hu v ys hv))
      (λ u v e. moved_is shift_left u (adds_up-left u) v) few;
  down = of_short shifted_right (bit_moved shift_right) (λ x y. shift_right x (number y)) (λ w. stage_gates w w + 3 * w) (λ w. 25 * w)
      (λ inputs c n u xs hu v ys hv e.
      subst (λ k. Makes c (shifted_right xs ys) n (stage_gates (length u) k + 3 * length u) (IsWord c (bit_moved shift_right u v))) (sym e)
      (makes-moved c (moved_down (Fixed false)) shift_right n (moves-down c n (Fixed false) false (c.fixed n false)) u xs hu v ys hv))
      (λ u v e. moved_is shift_right u (adds_up-filled false u) v) few;
  signed_down = of_short shifted_right_signed (λ u v. bit_moved (filled (sign u)) u v) (λ x y. shift_right_signed x (number y))
      (λ w. stage_gates w w + 3 * w) (λ w. 25 * w)
      (λ inputs c n u xs hu v ys hv e.
      subst (λ k. Makes c (shifted_right_signed xs ys) n (stage_gates (length u) k + 3 * length u) (IsWord c (bit_moved (filled (sign u)) u v))) (sym e)
      (makes-moved c (moved_down (top xs)) (filled (sign u)) n (moves-down c n (top xs) (sign u) (word-top c n u xs hu)) u xs hu v ys hv))
      (λ u v e. moved_is (filled (sign u)) u (adds_up-filled (sign u) u) v) few;
  less = bit_of_two less bit_less is_less (λ w. 4 * w) (λ inputs c n u xs hu v ys hv e. makes-less c n u xs hu v ys hv) (λ u v e. less_is u v (sym e));
  signed_less = bit_of_two signed_less (λ u v. bit_less (top_flipped u) (top_flipped v)) is_signed_less (λ w. 4 * w)
      (λ inputs c n u xs hu v ys hv e.
      subst (λ k. Makes c (signed_less xs ys) n (4 * k) (Carries c (bit_less (top_flipped u) (top_flipped v)))) (length-top_flipped u)
      (makes-less c n (top_flipped u) (top_inverted xs) (word-top_inverted c n u xs hu) (top_flipped v) (top_inverted ys) (word-top_inverted c n v ys hv)))
      (λ u v e. less_is (top_flipped u) (top_flipped v) (length-top_flipped v ∙ sym e ∙ sym (length-top_flipped u)) ∙ signed_is_less u v (sym e));
}
