use Rattle.std.proofs.Common.{◌≡◌, refl, sym, ap₂, subst, ◌∙◌, ◌*◌, ◌&&◌, ◌||◌, Bool, not, cond, List, [], ◌∷◌, length, arith}
use Rattle.bits_core.specs.Word.{bitwise, xor, and_words, or_words, xor_words, not_word, parity, same_word}
use Rattle.gates.specs.declared.signal.Signal.{Signal}
use Rattle.gates.specs.Signals.{signal_bit}
use Rattle.gates.specs.Build.{and, or, exclusive}
use Rattle.gates.proofs.Carrying.{makes_more}
use Rattle.gates.proofs.Instances.{bits_under, inverse_bit}
use Rattle.gates.proofs.SingleBits.{makes-and, makes-or, makes-exclusive}
use Rattle.gate_words.specs.GateLists.{each, choose, inverses, odd, unlike}
use Rattle.gate_words.specs.Computes.{word_of, Computes, ComputesBit}
use Rattle.gate_words.proofs.WordGateLists.{any_bit, makes-each, makes-odd}
use Rattle.gate_words.proofs.LongGateLists.{choose_bits, makes-choose, makes-unlike}
use Rattle.gate_words.proofs.BitSums.{choose_is, unlike_is}
use Rattle.gate_words.proofs.Computing.{MakesOfTwo, of_two, bit_of_two, computes, computes_bit, counting, carries_own, carries_any, length-word_of}
use Rattle.gate_words.proofs.laws.gate_lists_are_bitwise.Goals as goal

makes_ands : MakesOfTwo (each and) and_words (λ w. w)
makes_ands inputs c n u xs hu v ys hv e =
    makes_more c _ n (1 * length u) _ _ (omega arith) (makes-each c and (λ a b. a && b) 1 n (λ k a b p q l ha hb. makes-and c k a b p q ha hb) u xs hu v ys hv)

makes_ors : MakesOfTwo (each or) or_words (λ w. w)
makes_ors inputs c n u xs hu v ys hv e =
    makes_more c _ n (1 * length u) _ _ (omega arith) (makes-each c or (λ a b. a || b) 1 n (λ k a b p q l ha hb. makes-or c k a b p q ha hb) u xs hu v ys hv)

makes_exclusives : MakesOfTwo (each exclusive) xor_words (λ w. 3 * w)
makes_exclusives inputs c n u xs hu v ys hv e =
    makes-each c exclusive xor 3 n (λ k a b p q l ha hb. makes-exclusive c k a b p q ha hb) u xs hu v ys hv

inverse_words : (m : List Bool) (xs : List Signal) → word_of m (inverses xs) ≡ not_word (word_of m xs)
inverse_words m [] = refl
inverse_words m (x ∷ xs) = ap₂ (λ b w. b ∷ w) (inverse_bit m x) (inverse_words m xs)

pub returns : goal.returns
returns c = record {
  and = of_two (each and) and_words and_words (λ w. w) makes_ands (λ u v e. refl);
  or = of_two (each or) or_words or_words (λ w. w) makes_ors (λ u v e. refl);
  exclusive = of_two (each exclusive) xor_words xor_words (λ w. 3 * w) makes_exclusives (λ u v e. refl);
  choice = λ s m inputs gates xs ys e.
      let u = word_of m xs in
      let v = word_of m ys in
      let same : length u ≡ length v = length-word_of m xs ∙ e ∙ sym (length-word_of m ys) in
      subst (λ n. Computes (choose s xs ys) m inputs gates (cond (signal_bit m s) u v) (3 * n)) (length-word_of m xs)
      (computes (choose s xs ys) m inputs gates (choose_bits (signal_bit m s) u v) _ (3 * length u) (choose_is (signal_bit m s) u v same)
      (makes-choose (bits_under m inputs) _ s (signal_bit m s) refl u xs (carries_own m inputs _ xs) v ys (carries_own m inputs _ ys))
      (makes-choose (counting inputs) _ s (signal_bit m s) tt u xs (carries_any inputs _ m xs) v ys (carries_any inputs _ m ys)));
  inverse = inverse_words;
  parity = λ m inputs gates xs.
      subst (λ n. ComputesBit (odd xs) m inputs gates (parity (word_of m xs)) (3 * n)) (length-word_of m xs)
      (computes_bit (odd xs) m inputs gates _ _ (3 * length (word_of m xs)) refl
      (makes-odd (bits_under m inputs) _ (word_of m xs) xs (carries_own m inputs _ xs))
      (makes-odd (counting inputs) _ (word_of m xs) xs (carries_any inputs _ m xs)));
  unlike = bit_of_two unlike (λ u v. any_bit (bitwise xor u v)) (λ u v. not (same_word u v)) (λ w. 4 * w)
      (λ inputs c n u xs hu v ys hv e. makes-unlike c n u xs hu v ys hv e) unlike_is;
}
