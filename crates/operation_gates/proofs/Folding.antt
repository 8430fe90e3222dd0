-- Operations of any number of operands: a gate list for each operand after the first one.
use Rattle.std.proofs.Common.{◌≡◌, refl, sym, ap, ap₂, subst, ◌∙◌, ℕ, ◌+◌, ◌-◌, ◌*◌, ◌≤◌, Bool, true, false, ◌&&◌, ◌||◌, List, [], ◌∷◌, map, length, arith, mul-suc, mul_comm, add_comm}
use Rattle.std.proofs.Math.ListN.{length-replicate}
use Rattle.std.proofs.lemmas.List.{length-map}
use Rattle.wiring.specs.Lists.{total}
use Rattle.bits_core.specs.Word.{Word, bits, number, bitwise, xor, and_words, or_words, xor_words, add as sum_of, mul as product_of, zeros, ones}
use Rattle.bits_core.proofs.Numbers.{length-bits, bits-number}
use Rattle.bits_core.proofs.Arithmetic.{length-add, length-mul, add-bits_left, mul-bits_left, add_words_comm, mul_words_comm}
use Rattle.bits_core.proofs.Bitwise.{length-bitwise}
use Rattle.gates.specs.declared.signal.Signal.{Signal}
use Rattle.gates.specs.Build.{Build}
use Rattle.gates.specs.Build as build
use Rattle.gates.proofs.Carrying.{Carrying, Makes, makes-done, makes_then, makes_more}
use Rattle.gates.proofs.SingleBits.{makes-and, makes-or, makes-exclusive}
use Rattle.gate_words.specs.GateLists.{each, added, product}
use Rattle.gate_words.proofs.Words.{CarriesWord, IsWord, word_later, word_same}
use Rattle.gate_words.proofs.WordGateLists.{bit_sum, makes-each}
use Rattle.gate_words.proofs.LongGateLists.{bit_product_from, makes-added, makes-product}
use Rattle.gate_words.proofs.BitSums.{sum_is_add}
use Rattle.gate_words.proofs.BitProducts.{product_is}
use Rattle.hw_model.specs.Kinds.{Variadic}
use Rattle.hw_model.specs.Kinds.Variadic.{add, mul, and, or, xor as exclusive_or}
use Rattle.hw_model.specs.Value.{and_all, or_all, xor_all, product as product_all, variadic_value}
use Rattle.operation_gates.specs.OperationGateLists.{fold_gate_lists, pair_gate_list, variadic_gate_list}
use Rattle.operation_gates.specs.Operands.{AreAll}
use Rattle.operation_gates.specs.Prices.{pair_price}
use Rattle.operation_gates.proofs.WordLists.CarriesWords.{no_words, one_more}
use Rattle.operation_gates.proofs.WordLists.{CarriesWords, word-known, makes_as}

-- ---- values of all operands

-- the value of words of w bits is of w bits, that of one word is the word, and one more word before is one more operation
pub record FoldsBy (value : List Word → Word) (op : Word → Word → Word) (w : ℕ) : Type 0 where
  pub none : length (value []) ≡ w
  pub one : (u : Word) → length u ≡ w → value (u ∷ []) ≡ u
  pub next : (u : Word) (us : List Word) → length u ≡ w → length (value us) ≡ w → op u (value us) ≡ value (u ∷ us)
  pub width : (u v : Word) → length u ≡ w → length v ≡ w → length (op u v) ≡ w

pub folded_width : (value : List Word → Word) (op : Word → Word → Word) (w : ℕ) → FoldsBy value op w → (us : List Word) → AreAll w (map length us)
    → length (value us) ≡ w
folded_width value op w folds [] all = folds.none
folded_width value op w folds (u ∷ us) all =
    let rest : length (value us) ≡ w = folded_width value op w folds us all.1 in
    ap length (sym (folds.next u us all.0 rest)) ∙ folds.width u (value us) all.0 rest

and_ones : (u : Word) → and_words u (ones (length u)) ≡ u
and_ones [] = refl
and_ones (true ∷ u) = ap (λ (v : Word). true ∷ v) (and_ones u)
and_ones (false ∷ u) = ap (λ (v : Word). false ∷ v) (and_ones u)

or_zeros : (u : Word) → or_words u (zeros (length u)) ≡ u
or_zeros [] = refl
or_zeros (true ∷ u) = ap (λ (v : Word). true ∷ v) (or_zeros u)
or_zeros (false ∷ u) = ap (λ (v : Word). false ∷ v) (or_zeros u)

xor_zeros : (u : Word) → xor_words u (zeros (length u)) ≡ u
xor_zeros [] = refl
xor_zeros (true ∷ u) = ap (λ (v : Word). true ∷ v) (xor_zeros u)
xor_zeros (false ∷ u) = ap (λ (v : Word). false ∷ v) (xor_zeros u)

bitwise_width : (f : Bool → Bool → Bool) (w : ℕ) (u v : Word) → length u ≡ w → length v ≡ w → length (bitwise f u v) ≡ w
bitwise_width f w u v eu ev = length-bitwise f u v (eu ∙ sym ev) ∙ eu

ands : (w : ℕ) → FoldsBy (and_all w) and_words w
ands w = record {
  none = length-replicate w true;
  one = λ u e. subst (λ k. and_words u (ones k) ≡ u) e (and_ones u);
  next = λ u us eu es. refl;
  width = bitwise_width (λ a b. a && b) w;
}

ors : (w : ℕ) → FoldsBy (or_all w) or_words w
ors w = record {
  none = length-replicate w false;
  one = λ u e. subst (λ k. or_words u (zeros k) ≡ u) e (or_zeros u);
  next = λ u us eu es. refl;
  width = bitwise_width (λ a b. a || b) w;
}

xors : (w : ℕ) → FoldsBy (xor_all w) xor_words w
xors w = record {
  none = length-replicate w false;
  one = λ u e. subst (λ k. xor_words u (zeros k) ≡ u) e (xor_zeros u);
  next = λ u us eu es. refl;
  width = bitwise_width xor w;
}

bits_own : (w k : ℕ) (u : Word) → length u ≡ w → k ≡ number u → bits w k ≡ u
bits_own w k u e is = ap₂ bits (sym e) is ∙ bits-number u

sums : (w : ℕ) → FoldsBy (λ us. bits w (total (map number us))) sum_of w
sums w = record {
  none = length-bits w 0;
  one = λ u e. bits_own w (number u + 0) u e (let f : number u + 0 ≡ number u = omega arith in f);
  next = λ u us eu es.
      let rest = total (map number us) in
      add_words_comm u (bits w rest) (eu ∙ sym (length-bits w rest)) ∙ add-bits_left w rest u ∙ ap (bits w) (add_comm rest (number u));
  width = λ u v eu ev. length-add u v ∙ eu;
}

products : (w : ℕ) → FoldsBy (λ us. bits w (product_all (map number us))) product_of w
products w = record {
  none = length-bits w 1;
  one = λ u e. bits_own w (number u * 1) u e (let f : number u * 1 ≡ number u = omega arith in f);
  next = λ u us eu es.
      let rest = product_all (map number us) in
      mul_words_comm u (bits w rest) (eu ∙ sym (length-bits w rest)) ∙ mul-bits_left w rest u ∙ ap (bits w) (mul_comm rest (number u));
  width = λ u v eu ev. length-mul u v ∙ eu;
}

-- a price for each operand after the first one
price_of_more : (p : ℕ) (us : List Word) → p * length us ≤ p * (length (0 ∷ map length us) - 1)
price_of_more p us =
    let e : length us ≡ length (0 ∷ map length us) - 1 = omega (arith, length-map us (λ (u : Word). length u)) in
    subst (λ k. p * length us ≤ p * k) e (omega arith)

-- the operation on two words
abbrev pub pair_op : Variadic → Word → Word → Word
pair_op add = sum_of
pair_op mul = product_of
pair_op and = and_words
pair_op or = or_words
pair_op exclusive_or = xor_words

pub pair_op_width : (v : Variadic) (w : ℕ) (x y : Word) → length x ≡ w → length y ≡ w → length (pair_op v x y) ≡ w
pair_op_width add w = (sums w).width
pair_op_width mul w = (products w).width
pair_op_width and w = (ands w).width
pair_op_width or w = (ors w).width
pair_op_width exclusive_or w = (xors w).width

module _ {inputs : ℕ} (c : Carrying inputs) where
  -- the gate list of two words of w bits makes the operation, by at most h gates
  abbrev pub MakesPairs : (List Signal → List Signal → Build (List Signal)) → (Word → Word → Word) → ℕ → ℕ → Type 0
  MakesPairs f op w h =
      (k : ℕ) (u : Word) (x : List Signal) → CarriesWord c k u x → (v : Word) (y : List Signal) → CarriesWord c k v y → length u ≡ w → length v ≡ w
      → Makes c (f x y) k h (IsWord c (op u v))

  pub makes-folded : (f : List Signal → List Signal → Build (List Signal)) (op : Word → Word → Word) (value : List Word → Word) (w h n : ℕ)
      → FoldsBy value op w → MakesPairs f op w h
      → (us : List Word) (xs : List (List Signal)) → CarriesWords c n us xs → (u : Word) (x : List Signal) → CarriesWord c n u x
      → length u ≡ w → AreAll w (map length us) → Makes c (fold_gate_lists f x xs) n (h * length us) (IsWord c (value (u ∷ us)))
  unfolding fold_gate_lists
  makes-folded f op value w h n folds pairs _ _ no_words u x hx e all =
      makes_more c _ n 0 _ _ (omega arith) (makes-done c x n (IsWord c (value (u ∷ []))) (word_same c n u (value (u ∷ [])) x (sym (folds.one u e)) hx))
  makes-folded f op value w h n folds pairs _ _ (one_more v us y ys hy hs) u x hx e all =
      let rest : length (value (v ∷ us)) ≡ w = folded_width value op w folds (v ∷ us) all in
      makes_more c _ n (h * length us + h) _ _ (omega (arith, mul-suc h (length us)))
      (makes_then c _ _ n (h * length us) h (IsWord c (value (v ∷ us))) _ (makes-folded f op value w h n folds pairs us ys hs v y hy all.0 all.1)
      (λ low k l is.
      subst (λ z. Makes c (f x low) k h (IsWord c z)) (folds.next u (v ∷ us) e rest)
      (pairs k u x (word_later c n k u x l hx) (value (v ∷ us)) low is e rest)))

  -- ---- the gate list of two operands of each operation

  ands_make : (w : ℕ) → MakesPairs (each build.and) and_words w w
  ands_make w k u x hu v y hv eu ev =
      makes_more c _ k (1 * length u) w _ (omega arith) (makes-each c build.and (λ a b. a && b) 1 k (λ j a b p q l ha hb. makes-and c j a b p q ha hb) u x hu v y hv)

  ors_make : (w : ℕ) → MakesPairs (each build.or) or_words w w
  ors_make w k u x hu v y hv eu ev =
      makes_more c _ k (1 * length u) w _ (omega arith) (makes-each c build.or (λ a b. a || b) 1 k (λ j a b p q l ha hb. makes-or c j a b p q ha hb) u x hu v y hv)

  xors_make : (w : ℕ) → MakesPairs (each build.exclusive) xor_words w (3 * w)
  xors_make w k u x hu v y hv eu ev =
      makes_more c _ k (3 * length u) (3 * w) _ (omega arith)
      (makes-each c build.exclusive xor 3 k (λ j a b p q l ha hb. makes-exclusive c j a b p q ha hb) u x hu v y hv)

  sums_make : (w : ℕ) → MakesPairs added sum_of w (12 * w)
  sums_make w k u x hu v y hv eu ev =
      makes_as c (added x y) k (9 * length u) (12 * w) (bit_sum u v false).word (sum_of u v) (omega arith) (sum_is_add u v (ev ∙ sym eu)) (makes-added c k u x hu v y hv)

  products_make : (w : ℕ) → MakesPairs product product_of w (13 * (w * w))
  products_make w k u x hu v y hv eu ev =
      let square : length u * length v ≡ w * w = ap₂ (λ a b. a * b) eu ev in
      makes_as c (product x y) k (10 * (length u * length v)) (13 * (w * w)) (bit_product_from (zeros (length u)) u v) (product_of u v) (omega (arith, square))
      (product_is u v) (makes-product c k u x hu v y hv)

  pub makes-pair : (v : Variadic) (w : ℕ) → MakesPairs (pair_gate_list v) (pair_op v) w (pair_price v w)
  makes-pair add w = sums_make w
  makes-pair mul w = products_make w
  makes-pair and w = ands_make w
  makes-pair or w = ors_make w
  makes-pair exclusive_or w = xors_make w

  -- ---- any number of operands

  more_operands : (v : Variadic) (w n : ℕ) (us : List Word) (xs : List (List Signal)) → CarriesWords c n us xs → (u : Word) (x : List Signal) → CarriesWord c n u x
      → length u ≡ w → AreAll w (map length us) → Makes c (fold_gate_lists (pair_gate_list v) x xs) n (pair_price v w * length us) (IsWord c (variadic_value v w (u ∷ us)))
  more_operands add w n us xs hs u x hx e all = makes-folded added sum_of _ w (12 * w) n (sums w) (sums_make w) us xs hs u x hx e all
  more_operands mul w n us xs hs u x hx e all = makes-folded product product_of _ w (13 * (w * w)) n (products w) (products_make w) us xs hs u x hx e all
  more_operands and w n us xs hs u x hx e all = makes-folded (each build.and) and_words _ w w n (ands w) (ands_make w) us xs hs u x hx e all
  more_operands or w n us xs hs u x hx e all = makes-folded (each build.or) or_words _ w w n (ors w) (ors_make w) us xs hs u x hx e all
  more_operands exclusive_or w n us xs hs u x hx e all = makes-folded (each build.exclusive) xor_words _ w (3 * w) n (xors w) (xors_make w) us xs hs u x hx e all

  pub makes-variadic : (v : Variadic) (w n : ℕ) (us : List Word) (xs : List (List Signal)) → CarriesWords c n us xs → AreAll w (map length us)
      → Makes c (variadic_gate_list v w xs) n (pair_price v w * (length (map length us) - 1)) (IsWord c (variadic_value v w us))
  makes-variadic v w n _ _ no_words all =
      makes_more c _ n 0 _ _ (omega arith) (makes-done c _ n (IsWord c (variadic_value v w [])) (word-known c n (variadic_value v w [])))
  makes-variadic v w n _ _ (one_more u us x xs hx hs) all =
      makes_more c _ n (pair_price v w * length us) _ _ (price_of_more (pair_price v w) us) (more_operands v w n us xs hs u x hx all.0 all.1)
