use Rattle.std.proofs.Common.{sym, subst, ◌+◌, ◌*◌, length, false, true}
use Rattle.bits_core.specs.Word.{add, sub, mul, not_word, zeros, quotient as quotient_word, rest as rest_word, signed_quotient as signed_quotient_word, signed_rest as signed_rest_word}
use Rattle.gates.proofs.Carrying.{Makes}
use Rattle.gate_words.specs.GateLists.{added, subtracted, product, quotient, rest, signed_quotient, signed_rest}
use Rattle.gate_words.specs.Computes.{division_gates}
use Rattle.gate_words.proofs.Words.{IsWord}
use Rattle.gate_words.proofs.WordGateLists.{bit_sum}
use Rattle.gate_words.proofs.LongGateLists.{bit_product_from, bit_quotient, bit_rest, bit_signed_quotient, bit_signed_rest, makes-added, makes-subtracted, makes-product, makes-quotient, makes-rest, makes-signed_quotient, makes-signed_rest}
use Rattle.gate_words.proofs.BitSums.{sum_is_add, difference_is_sub}
use Rattle.gate_words.proofs.BitProducts.{product_is, quotient_is, rest_is, signed_quotient_is, signed_rest_is}
use Rattle.gate_words.proofs.Computing.{of_two}
use Rattle.gate_words.proofs.laws.gate_lists_are_arithmetic.Goals as goal

pub returns : goal.returns
returns c = record {
  sum = of_two added (λ u v. (bit_sum u v false).word) add (λ w. 9 * w) (λ inputs c n u xs hu v ys hv e. makes-added c n u xs hu v ys hv)
      (λ u v e. sum_is_add u v (sym e));
  difference = of_two subtracted (λ u v. (bit_sum u (not_word v) true).word) sub (λ w. 9 * w) (λ inputs c n u xs hu v ys hv e. makes-subtracted c n u xs hu v ys hv)
      (λ u v e. difference_is_sub u v (sym e));
  product = of_two product (λ u v. bit_product_from (zeros (length u)) u v) mul (λ w. 10 * (w * w))
      (λ inputs c n u xs hu v ys hv e.
      subst (λ k. Makes c (product xs ys) n (10 * (length u * k)) (IsWord c (bit_product_from (zeros (length u)) u v))) (sym e) (makes-product c n u xs hu v ys hv))
      (λ u v e. product_is u v);
  quotient = of_two quotient bit_quotient quotient_word (λ w. division_gates w + 2 * w) (λ inputs c n u xs hu v ys hv e. makes-quotient c n u xs hu v ys hv e) quotient_is;
  rest = of_two rest bit_rest rest_word division_gates (λ inputs c n u xs hu v ys hv e. makes-rest c n u xs hu v ys hv e) rest_is;
  signed_quotient = of_two signed_quotient bit_signed_quotient signed_quotient_word (λ w. division_gates w + 38 * w + 3)
      (λ inputs c n u xs hu v ys hv e. makes-signed_quotient c n u xs hu v ys hv e) signed_quotient_is;
  signed_rest = of_two signed_rest bit_signed_rest signed_rest_word (λ w. division_gates w + 36 * w)
      (λ inputs c n u xs hu v ys hv e. makes-signed_rest c n u xs hu v ys hv e) signed_rest_is;
}
