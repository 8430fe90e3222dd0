-- Products, quotients, comparisons and shifts as gate lists carry what the same gate lists make of bits.
use Rattle.std.proofs.Common.{◌≡◌, refl, sym, ap, subst, ◌∙◌, ℕ, zero, suc, ◌+◌, ◌*◌, ◌^◌, ◌≤◌, Bool, true, false, not, cond, nat_lt, ◌||◌, List, [], ◌∷◌, ◌++◌, length, take, drop, arith, mul-suc, length-append, length-drop}
use Rattle.std.proofs.Math.ListN.{length-replicate}
use Rattle.bits_core.specs.Word.{Word, bitwise, xor, not_word, zeros, sign}
use Rattle.bits_core.proofs.Bitwise.{length-bitwise}
use Rattle.bits_core.proofs.Complement.{length-not}
use Rattle.gates.specs.declared.signal.Signal.{Signal}
use Rattle.gates.specs.declared.signal.Signal.TheVariants.{Fixed}
use Rattle.gates.specs.Build.{done, and_then, or, exclusive, choice}
use Rattle.gates.proofs.Carrying.{Carrying, Makes, makes-done, makes_then, makes_more}
use Rattle.gates.proofs.SingleBits.{Carries, makes-or, makes-exclusive, makes-choice}
use Rattle.gate_words.specs.GateLists.{choose, inverses, no_bits, unlike, less, negated, doubled, product_step, product_from, product, Trial, tried, Quotient, divided_from, divided, quotient, rest}
use Rattle.gate_words.specs.GateLists.{top, signed_quotient, signed_rest, Shifted, moved_from, moved, added, subtracted}
use Rattle.gate_words.specs.Computes.{division_gates}
use Rattle.gate_words.proofs.Words.CarriesWord.{none, more}
use Rattle.gate_words.proofs.Words.{CarriesWord, IsWord, word_later, word_length, word_inverse, word-no_bits, word-append, word-take, word-drop, word-top}
use Rattle.gate_words.proofs.WordGateLists.{bit_sum, bit_carried, mask_bits, flip_bits, any_bit, makes-each, makes-masked, makes-flipped, makes-any, makes-sum, makes-carried, IsTotal}

-- ---- the gate lists over bits

abbrev pub choose_bits : Bool → Word → Word → Word
choose_bits r u v = bitwise (cond r) u v

abbrev pub bit_less : Word → Word → Bool
bit_less u v = not (bit_carried u (not_word v) true)

abbrev pub bit_negated : Bool → Word → Word
bit_negated r u = (bit_sum (flip_bits r u) (zeros (length (flip_bits r u))) r).word

abbrev pub bit_doubled : Word → Word
bit_doubled u = drop 1 u ++ take 1 (zeros (length u))

abbrev pub bit_product_from : Word → Word → Word → Word
bit_product_from t u [] = t
bit_product_from t u (b ∷ v) = bit_product_from (bit_sum (bit_doubled t) (mask_bits b u) false).word u v

pub record BitTrial : Type 0 where
  pub bit : Bool
  pub rest : Word

abbrev pub bit_tried : Word → Bool → Word → BitTrial
bit_tried r b d = record {
  bit = (bit_sum (r ++ b ∷ []) (true ∷ not_word d) true).carry;
  rest = drop 1 (choose_bits (bit_sum (r ++ b ∷ []) (true ∷ not_word d) true).carry (bit_sum (r ++ b ∷ []) (true ∷ not_word d) true).word (r ++ b ∷ []));
}

pub record BitQuotient : Type 0 where
  pub quotient : Word
  pub rest : Word

abbrev pub bit_divided_from : Word → Word → Word → BitQuotient
bit_divided_from r [] d = record { quotient = []; rest = r }
bit_divided_from r (b ∷ u) d = record {
  quotient = (bit_tried r b d).bit ∷ (bit_divided_from (bit_tried r b d).rest u d).quotient;
  rest = (bit_divided_from (bit_tried r b d).rest u d).rest;
}

abbrev pub bit_quotient : Word → Word → Word
bit_quotient u d = mask_bits (any_bit d) (bit_divided_from (zeros (length u)) u d).quotient

abbrev pub bit_rest : Word → Word → Word
bit_rest u d = (bit_divided_from (zeros (length u)) u d).rest

abbrev pub bit_signed_quotient : Word → Word → Word
bit_signed_quotient u d = bit_negated (xor (sign u) (sign d)) (bit_quotient (bit_negated (sign u) u) (bit_negated (sign d) d))

abbrev pub bit_signed_rest : Word → Word → Word
bit_signed_rest u d = bit_negated (sign u) (bit_rest (bit_negated (sign u) u) (bit_negated (sign d) d))

pub record BitShifted : Type 0 where
  pub word : Word
  pub is_out : Bool

abbrev pub bit_moved_from : (Word → ℕ → Word) → Word → Word → BitShifted
bit_moved_from f u [] = record { word = u; is_out = false }
bit_moved_from f u (b ∷ v) =
    cond (nat_lt (2 ^ length v) (length u))
    (record { word = choose_bits b (f (bit_moved_from f u v).word (2 ^ length v)) (bit_moved_from f u v).word; is_out = (bit_moved_from f u v).is_out })
    (record { word = (bit_moved_from f u v).word; is_out = b || (bit_moved_from f u v).is_out })

abbrev pub bit_moved : (Word → ℕ → Word) → Word → Word → Word
bit_moved f u v = choose_bits (bit_moved_from f u v).is_out (f u (length u)) (bit_moved_from f u v).word

-- ---- lengths

pub length-bit_sum : (u v : Word) (r : Bool) → length v ≡ length u → length (bit_sum u v r).word ≡ length u
length-bit_sum [] v r e = refl
length-bit_sum (a ∷ u) [] r e = absurd (omega arith)
length-bit_sum (a ∷ u) (b ∷ v) r e = ap suc (length-bit_sum u v r (omega arith))

pub length-mask_bits : (r : Bool) (u : Word) → length (mask_bits r u) ≡ length u
length-mask_bits r [] = refl
length-mask_bits r (b ∷ u) = ap suc (length-mask_bits r u)

pub length-flip_bits : (r : Bool) (u : Word) → length (flip_bits r u) ≡ length u
length-flip_bits r [] = refl
length-flip_bits r (b ∷ u) = ap suc (length-flip_bits r u)

pub length-bit_negated : (r : Bool) (u : Word) → length (bit_negated r u) ≡ length u
length-bit_negated r u =
    length-bit_sum (flip_bits r u) (zeros (length (flip_bits r u))) r (length-replicate (length (flip_bits r u)) false) ∙ length-flip_bits r u

pub length-choose_bits : (r : Bool) (u v : Word) → length u ≡ length v → length (choose_bits r u v) ≡ length u
length-choose_bits r u v e = length-bitwise (cond r) u v e

pub length-bit_doubled : (u : Word) → length (bit_doubled u) ≡ length u
length-bit_doubled [] = refl
length-bit_doubled (b ∷ u) = omega (arith, length-append u (false ∷ []))

pub length-bit_tried : (r : Word) (b : Bool) (d : Word) → length r ≡ length d → length (bit_tried r b d).rest ≡ length d
length-bit_tried r b d e =
    let wide = r ++ b ∷ [] in
    let size : length wide ≡ suc (length d) = omega (arith, length-append r (b ∷ [])) in
    let total = bit_sum wide (true ∷ not_word d) true in
    let out : length total.word ≡ suc (length d) = length-bit_sum wide (true ∷ not_word d) true (omega (arith, length-not d)) ∙ size in
    let chosen : length (choose_bits total.carry total.word wide) ≡ suc (length d) = length-choose_bits total.carry total.word wide (out ∙ sym size) ∙ out in
    omega (arith, length-drop 1 (choose_bits total.carry total.word wide))

pub length-quotient_bits : (r u d : Word) → length (bit_divided_from r u d).quotient ≡ length u
length-quotient_bits r [] d = refl
length-quotient_bits r (b ∷ u) d = ap suc (length-quotient_bits (bit_tried r b d).rest u d)

pub length-rest_bits : (r u d : Word) → length r ≡ length d → length (bit_divided_from r u d).rest ≡ length d
length-rest_bits r [] d e = e
length-rest_bits r (b ∷ u) d e = length-rest_bits (bit_tried r b d).rest u d (length-bit_tried r b d e)

pub length-bit_quotient : (u d : Word) → length (bit_quotient u d) ≡ length u
length-bit_quotient u d = length-mask_bits (any_bit d) (bit_divided_from (zeros (length u)) u d).quotient ∙ length-quotient_bits (zeros (length u)) u d

pub length-bit_rest : (u d : Word) → length u ≡ length d → length (bit_rest u d) ≡ length u
length-bit_rest u d e = length-rest_bits (zeros (length u)) u d (length-replicate (length u) false ∙ e) ∙ sym e

pub length-moved_from : (g : Word → ℕ → Word) → ((w : Word) (m : ℕ) → length (g w m) ≡ length w) → (u v : Word)
    → length (bit_moved_from g u v).word ≡ length u
length-moved_from g width u [] = refl
length-moved_from g width u (b ∷ v) = go (nat_lt (2 ^ length v) (length u)) (length-moved_from g width u v)
  where
    low : BitShifted
    low = bit_moved_from g u v

    go : (t : Bool) → length (bit_moved_from g u v).word ≡ length u
        → length (cond {A = BitShifted} t (record { word = choose_bits b (g (bit_moved_from g u v).word (2 ^ length v)) (bit_moved_from g u v).word; is_out = (bit_moved_from g u v).is_out })
        (record { word = (bit_moved_from g u v).word; is_out = b || (bit_moved_from g u v).is_out })).word ≡ length u
    go true e = length-choose_bits b _ _ (width _ _) ∙ width _ _ ∙ e
    go false e = e

-- how many gates the stages of a shift take: those of the bits that count, and one for each other bit
abbrev pub stage_gates : ℕ → ℕ → ℕ
stage_gates w zero = 0
stage_gates w (suc k) = cond (nat_lt (2 ^ k) w) (3 * w) 1 + stage_gates w k

module _ {inputs : ℕ} (c : Carrying inputs) where
  pub makes-choose : (n : ℕ) (d : Signal) (r : Bool) → c.at n d r → (u : Word) (xs : List Signal) → CarriesWord c n u xs
      → (v : Word) (ys : List Signal) → CarriesWord c n v ys → Makes c (choose d xs ys) n (3 * length u) (IsWord c (choose_bits r u v))
  makes-choose n d r hd u xs hu v ys hv =
      makes-each c (choice d) (cond r) 3 n (λ k a b p q l ha hb. makes-choice c k d a b r p q (c.later n k d r l hd) ha hb) u xs hu v ys hv

  pub makes-unlike : (n : ℕ) (u : Word) (xs : List Signal) → CarriesWord c n u xs → (v : Word) (ys : List Signal) → CarriesWord c n v ys
      → length u ≡ length v → Makes c (unlike xs ys) n (4 * length u) (Carries c (any_bit (bitwise xor u v)))
  unfolding unlike
  makes-unlike n u xs hu v ys hv e =
      makes_more c _ n (3 * length u + length u) _ _ (omega arith)
      (makes_then c _ _ n (3 * length u) (length u) (IsWord c (bitwise xor u v)) _
      (makes-each c exclusive xor 3 n (λ k a b p q l ha hb. makes-exclusive c k a b p q ha hb) u xs hu v ys hv)
      (λ zs k l is. makes_more c _ k (length (bitwise xor u v)) _ _ (omega (arith, length-bitwise xor u v e)) (makes-any c k _ zs is)))

  pub makes-less : (n : ℕ) (u : Word) (xs : List Signal) → CarriesWord c n u xs → (v : Word) (ys : List Signal) → CarriesWord c n v ys
      → Makes c (less xs ys) n (4 * length u) (Carries c (bit_less u v))
  unfolding less
  makes-less n u xs hu v ys hv =
      makes_more c _ n (4 * length u + 0) _ _ (omega arith)
      (makes_then c _ _ n (4 * length u) 0 (Carries c (bit_carried u (not_word v) true)) _
      (makes-carried c n (Fixed true) true (c.fixed n true) u xs hu (not_word v) (inverses ys) (word_inverse c n v ys hv))
      (λ s k l is. makes-done c _ k (Carries c (bit_less u v)) (c.inverted k s _ is)))

  pub makes-negated : (n : ℕ) (d : Signal) (r : Bool) → c.at n d r → (u : Word) (xs : List Signal) → CarriesWord c n u xs
      → Makes c (negated d xs) n (12 * length u) (IsWord c (bit_negated r u))
  unfolding negated
  makes-negated n d r hd u xs hu =
      makes_more c _ n (3 * length u + (9 * length (flip_bits r u) + 0)) _ _ (omega (arith, length-flip_bits r u))
      (makes_then c _ _ n (3 * length u) (9 * length (flip_bits r u) + 0) (IsWord c (flip_bits r u)) _ (makes-flipped c n d r hd u xs hu)
      (λ ys k l is.
      makes_then c _ _ k (9 * length (flip_bits r u)) 0 (IsTotal c (bit_sum (flip_bits r u) (zeros (length (flip_bits r u))) r)) _
      (makes-sum c k d r (c.later n k d r l hd) (flip_bits r u) ys is (zeros (length (flip_bits r u))) (no_bits (length ys))
      (subst (λ m. CarriesWord c k (zeros m) (no_bits (length ys))) (word_length c k _ ys is) (word-no_bits c k (length ys))))
      (λ t m o it. makes-done c _ m (IsWord c (bit_negated r u)) it.word)))

  -- ---- products

  word-doubled : (n : ℕ) (u : Word) (xs : List Signal) → CarriesWord c n u xs → CarriesWord c n (bit_doubled u) (doubled xs)
  word-doubled n u xs hu =
      word-append c n (drop 1 u) (drop 1 xs) (take 1 (zeros (length u))) (take 1 (no_bits (length xs))) (word-drop c n 1 u xs hu)
      (word-take c n 1 (zeros (length u)) (no_bits (length xs))
      (subst (λ m. CarriesWord c n (zeros m) (no_bits (length xs))) (word_length c n u xs hu) (word-no_bits c n (length xs))))

  pub makes-product_step : (n : ℕ) (t : Word) (ts : List Signal) → CarriesWord c n t ts → (u : Word) (xs : List Signal) → CarriesWord c n u xs
      → length t ≡ length u → (y : Signal) (q : Bool) → c.at n y q
      → Makes c (product_step ts xs y) n (10 * length u) (IsWord c (bit_sum (bit_doubled t) (mask_bits q u) false).word)
  unfolding product_step
  makes-product_step n t ts ht u xs hu e y q hq =
      makes_more c _ n (length u + (9 * length u + 0)) _ _ (omega arith)
      (makes_then c _ _ n (length u) (9 * length u + 0) (IsWord c (mask_bits q u)) _
      (makes-masked c n y q hq u xs hu)
      (λ ps k l is.
      makes_then c _ _ k (9 * length u) 0 (IsTotal c (bit_sum (bit_doubled t) (mask_bits q u) false)) _
      (makes_more c _ k (9 * length (bit_doubled t)) _ _ (omega (arith, length-bit_doubled t))
      (makes-sum c k (Fixed false) false (c.fixed k false) (bit_doubled t) (doubled ts) (word_later c n k _ _ l (word-doubled n t ts ht)) _ ps is))
      (λ s m o it. makes-done c _ m (IsWord c (bit_sum (bit_doubled t) (mask_bits q u) false).word) it.word)))

  pub makes-product_from : (n : ℕ) (t : Word) (ts : List Signal) → CarriesWord c n t ts → (u : Word) (xs : List Signal) → CarriesWord c n u xs
      → length t ≡ length u → (v : Word) (ys : List Signal) → CarriesWord c n v ys
      → Makes c (product_from ts xs ys) n (10 * (length u * length v)) (IsWord c (bit_product_from t u v))
  unfolding product_from
  makes-product_from n t ts ht u xs hu e [] _ none =
      makes_more c _ n 0 _ _ (omega arith) (makes-done c ts n (IsWord c t) ht)
  makes-product_from n t ts ht u xs hu e (q ∷ v) [] hv = elim hv [ ]
  makes-product_from n t ts ht u xs hu e (q ∷ v) (y ∷ ys) (more _ _ _ _ hq hv) =
      let next = (bit_sum (bit_doubled t) (mask_bits q u) false).word in
      makes_more c _ n (10 * length u + 10 * (length u * length v)) _ _ (omega (arith, mul-suc (length u) (length v)))
      (makes_then c _ _ n (10 * length u) (10 * (length u * length v)) (IsWord c next) _
      (makes-product_step n t ts ht u xs hu e y q hq)
      (λ zs m o it.
      makes-product_from m next zs it u xs (word_later c n m u xs o hu)
      (length-bit_sum (bit_doubled t) (mask_bits q u) false (omega (arith, length-mask_bits q u, length-bit_doubled t)) ∙ length-bit_doubled t ∙ e)
      v ys (word_later c n m v ys o hv)))

  -- ---- quotients

  pub record IsTrial (b : BitTrial) (k : ℕ) (t : Trial) : Type 0 where
    pub bit : c.at k t.bit b.bit
    pub rest : CarriesWord c k b.rest t.rest

  pub makes-tried : (n : ℕ) (r : Word) (rs : List Signal) → CarriesWord c n r rs → (x : Signal) (b : Bool) → c.at n x b
      → (d : Word) (ds : List Signal) → CarriesWord c n d ds → length r ≡ length d
      → Makes c (tried rs x ds) n (12 * suc (length d)) (IsTrial (bit_tried r b d))
  unfolding tried
  makes-tried n r rs hr x b hx d ds hd e =
      let wide = r ++ b ∷ [] in
      let wides = rs ++ x ∷ [] in
      let hw : CarriesWord c n wide wides = word-append c n r rs (b ∷ []) (x ∷ []) hr (more _ _ _ _ hx none) in
      let size : length wide ≡ suc (length d) = omega (arith, length-append r (b ∷ [])) in
      let total = bit_sum wide (true ∷ not_word d) true in
      let out : length total.word ≡ suc (length d) = length-bit_sum wide (true ∷ not_word d) true (omega (arith, length-not d)) ∙ size in
      makes_more c _ n (9 * length wide + (3 * length total.word + 0)) _ _ (omega arith)
      (makes_then c _ _ n (9 * length wide) (3 * length total.word + 0) (IsTotal c total) _
      (makes-sum c n (Fixed true) true (c.fixed n true) wide wides hw (true ∷ not_word d) _
      (more _ _ _ _ (c.fixed n true) (word_inverse c n d ds hd)))
      (λ t k l is.
      makes_then c _ _ k (3 * length total.word) 0 (IsWord c (choose_bits total.carry total.word wide)) _
      (makes-choose k t.carry total.carry is.carry total.word t.word is.word wide wides (word_later c n k _ _ l hw))
      (λ kept m o it. makes-done c _ m (IsTrial (bit_tried r b d)) (record { bit = c.later k m _ _ o is.carry; rest = word-drop c m 1 _ kept it }))))

  pub record IsQuotient (b : BitQuotient) (k : ℕ) (q : Quotient) : Type 0 where
    pub quotient : CarriesWord c k b.quotient q.quotient
    pub rest : CarriesWord c k b.rest q.rest

  pub makes-divided_from : (n : ℕ) (r : Word) (rs : List Signal) → CarriesWord c n r rs → (u : Word) (xs : List Signal) → CarriesWord c n u xs
      → (d : Word) (ds : List Signal) → CarriesWord c n d ds → length r ≡ length d
      → Makes c (divided_from rs xs ds) n (12 * (suc (length d) * length u)) (IsQuotient (bit_divided_from r u d))
  unfolding divided_from
  makes-divided_from n r rs hr [] _ none d ds hd e =
      makes_more c _ n 0 _ _ (omega arith) (makes-done c _ n (IsQuotient (record { quotient = []; rest = r })) (record { quotient = none; rest = hr }))
  makes-divided_from n r rs hr (b ∷ u) [] hu d ds hd e = elim hu [ ]
  makes-divided_from n r rs hr (b ∷ u) (x ∷ xs) (more _ _ _ _ hx hu) d ds hd e =
      makes_more c _ n (12 * suc (length d) + (12 * (suc (length d) * length u) + 0)) _ _ (omega (arith, mul-suc (suc (length d)) (length u)))
      (makes_then c _ _ n (12 * suc (length d)) (12 * (suc (length d) * length u) + 0) (IsTrial (bit_tried r b d)) _
      (makes-tried n r rs hr x b hx d ds hd e)
      (λ t k l is.
      makes_then c _ _ k (12 * (suc (length d) * length u)) 0 (IsQuotient (bit_divided_from (bit_tried r b d).rest u d)) _
      (makes-divided_from k _ t.rest is.rest u xs (word_later c n k u xs l hu) d ds (word_later c n k d ds l hd) (length-bit_tried r b d e))
      (λ q m o it. makes-done c _ m (IsQuotient (bit_divided_from r (b ∷ u) d))
      (record { quotient = more _ _ _ _ (c.later k m _ _ o is.bit) it.quotient; rest = it.rest }))))

  pub makes-divided : (n : ℕ) (u : Word) (xs : List Signal) → CarriesWord c n u xs → (d : Word) (ds : List Signal) → CarriesWord c n d ds → length u ≡ length d
      → Makes c (divided xs ds) n (12 * (suc (length d) * length u)) (IsQuotient (bit_divided_from (zeros (length u)) u d))
  makes-divided n u xs hu d ds hd e =
      makes-divided_from n (zeros (length u)) (no_bits (length xs))
      (subst (λ m. CarriesWord c n (zeros m) (no_bits (length xs))) (word_length c n u xs hu) (word-no_bits c n (length xs))) u xs hu d ds hd
      (length-replicate (length u) false ∙ e)

  pub makes-quotient : (n : ℕ) (u : Word) (xs : List Signal) → CarriesWord c n u xs → (d : Word) (ds : List Signal) → CarriesWord c n d ds → length u ≡ length d
      → Makes c (quotient xs ds) n (division_gates (length u) + 2 * length u) (IsWord c (bit_quotient u d))
  unfolding quotient
  makes-quotient n u xs hu d ds hd e =
      let q = bit_divided_from (zeros (length u)) u d in
      makes_more c _ n (12 * (suc (length d) * length u) + (length d + length q.quotient)) _ _ few
      (makes_then c _ _ n (12 * (suc (length d) * length u)) (length d + length q.quotient) (IsQuotient q) _ (makes-divided n u xs hu d ds hd e)
      (λ s k l is.
      makes_then c _ _ k (length d) (length q.quotient) (Carries c (any_bit d)) _ (makes-any c k d ds (word_later c n k d ds l hd))
      (λ t m o it. makes-masked c m t _ it q.quotient s.quotient (word_later c k m _ _ o is.quotient))))
    where
      few : 12 * (suc (length d) * length u) + (length d + length (bit_divided_from (zeros (length u)) u d).quotient) ≤ division_gates (length u) + 2 * length u
      few = rw (length-quotient_bits (zeros (length u)) u d, sym e) (omega arith)

  pub makes-rest : (n : ℕ) (u : Word) (xs : List Signal) → CarriesWord c n u xs → (d : Word) (ds : List Signal) → CarriesWord c n d ds → length u ≡ length d
      → Makes c (rest xs ds) n (division_gates (length u)) (IsWord c (bit_rest u d))
  unfolding rest
  makes-rest n u xs hu d ds hd e =
      makes_more c _ n (12 * (suc (length d) * length u) + 0) _ _ (rw (sym e) (omega arith))
      (makes_then c _ _ n (12 * (suc (length d) * length u)) 0 (IsQuotient (bit_divided_from (zeros (length u)) u d)) _ (makes-divided n u xs hu d ds hd e)
      (λ s k l is. makes-done c _ k (IsWord c (bit_rest u d)) is.rest))

  pub makes-signed_quotient : (n : ℕ) (u : Word) (xs : List Signal) → CarriesWord c n u xs → (d : Word) (ds : List Signal) → CarriesWord c n d ds → length u ≡ length d
      → Makes c (signed_quotient xs ds) n (division_gates (length u) + 38 * length u + 3) (IsWord c (bit_signed_quotient u d))
  unfolding signed_quotient
  makes-signed_quotient n u xs hu d ds hd e =
      let w = length u in
      let a = bit_negated (sign u) u in
      let b = bit_negated (sign d) d in
      let size_a : length a ≡ w = length-bit_negated (sign u) u in
      let size_b : length b ≡ w = length-bit_negated (sign d) d ∙ sym e in
      let size_q : length (bit_quotient a b) ≡ w = length-bit_quotient a b ∙ size_a in
      makes_more c _ n (12 * w + (12 * w + ((division_gates w + 2 * w) + (3 + 12 * w)))) _ _ (omega arith)
      (makes_then c _ _ n (12 * w) (12 * w + ((division_gates w + 2 * w) + (3 + 12 * w))) (IsWord c a) _
      (makes-negated n (top xs) (sign u) (word-top c n u xs hu) u xs hu)
      (λ zs k l ha.
      makes_then c _ _ k (12 * w) ((division_gates w + 2 * w) + (3 + 12 * w)) (IsWord c b) _
      (subst (λ m. Makes c (negated (top ds) ds) k (12 * m) (IsWord c b)) (sym e)
      (makes-negated k (top ds) (sign d) (c.later n k _ _ l (word-top c n d ds hd)) d ds (word_later c n k d ds l hd)))
      (λ bs m o hb.
      makes_then c _ _ m (division_gates w + 2 * w) (3 + 12 * w) (IsWord c (bit_quotient a b)) _
      (subst (λ v. Makes c (quotient zs bs) m (division_gates v + 2 * v) (IsWord c (bit_quotient a b))) size_a
      (makes-quotient m a zs (word_later c k m a zs o ha) b bs hb (size_a ∙ sym size_b)))
      (λ qs i p hq.
      makes_then c _ _ i 3 (12 * w) (Carries c (xor (sign u) (sign d))) _
      (makes-exclusive c i (top xs) (top ds) _ _
      (c.later m i _ _ p (c.later k m _ _ o (c.later n k _ _ l (word-top c n u xs hu))))
      (c.later m i _ _ p (c.later k m _ _ o (c.later n k _ _ l (word-top c n d ds hd)))))
      (λ s j r hs.
      subst (λ v. Makes c (negated s qs) j (12 * v) (IsWord c (bit_signed_quotient u d))) size_q
      (makes-negated j s _ hs (bit_quotient a b) qs (word_later c i j _ qs r hq)))))))

  pub makes-signed_rest : (n : ℕ) (u : Word) (xs : List Signal) → CarriesWord c n u xs → (d : Word) (ds : List Signal) → CarriesWord c n d ds → length u ≡ length d
      → Makes c (signed_rest xs ds) n (division_gates (length u) + 36 * length u) (IsWord c (bit_signed_rest u d))
  unfolding signed_rest
  makes-signed_rest n u xs hu d ds hd e =
      let w = length u in
      let a = bit_negated (sign u) u in
      let b = bit_negated (sign d) d in
      let size_a : length a ≡ w = length-bit_negated (sign u) u in
      let size_b : length b ≡ w = length-bit_negated (sign d) d ∙ sym e in
      let size_r : length (bit_rest a b) ≡ w = length-bit_rest a b (size_a ∙ sym size_b) ∙ size_a in
      makes_more c _ n (12 * w + (12 * w + (division_gates w + 12 * w))) _ _ (omega arith)
      (makes_then c _ _ n (12 * w) (12 * w + (division_gates w + 12 * w)) (IsWord c a) _
      (makes-negated n (top xs) (sign u) (word-top c n u xs hu) u xs hu)
      (λ zs k l ha.
      makes_then c _ _ k (12 * w) (division_gates w + 12 * w) (IsWord c b) _
      (subst (λ m. Makes c (negated (top ds) ds) k (12 * m) (IsWord c b)) (sym e)
      (makes-negated k (top ds) (sign d) (c.later n k _ _ l (word-top c n d ds hd)) d ds (word_later c n k d ds l hd)))
      (λ bs m o hb.
      makes_then c _ _ m (division_gates w) (12 * w) (IsWord c (bit_rest a b)) _
      (subst (λ v. Makes c (rest zs bs) m (division_gates v) (IsWord c (bit_rest a b))) size_a
      (makes-rest m a zs (word_later c k m a zs o ha) b bs hb (size_a ∙ sym size_b)))
      (λ rs i p hr.
      subst (λ v. Makes c (negated (top xs) rs) i (12 * v) (IsWord c (bit_signed_rest u d))) size_r
      (makes-negated i (top xs) _ (c.later m i _ _ p (c.later k m _ _ o (c.later n k _ _ l (word-top c n u xs hu)))) (bit_rest a b) rs hr)))))

  -- ---- shifts

  -- the move of signals carries the move of bits, and keeps the width
  pub record Moves (f : List Signal → ℕ → List Signal) (g : Word → ℕ → Word) (n : ℕ) : Type 0 where
    pub carries : (k : ℕ) (w : Word) (ss : List Signal) (m : ℕ) → n ≤ k → CarriesWord c k w ss → CarriesWord c k (g w m) (f ss m)
    pub width : (w : Word) (m : ℕ) → length (g w m) ≡ length w

  pub record IsShifted (b : BitShifted) (k : ℕ) (s : Shifted) : Type 0 where
    pub word : CarriesWord c k b.word s.word
    pub is_out : c.at k s.is_out b.is_out

  pub makes-moved_from : (f : List Signal → ℕ → List Signal) (g : Word → ℕ → Word) (n : ℕ) → Moves f g n
      → (u : Word) (xs : List Signal) → CarriesWord c n u xs → (v : Word) (ys : List Signal) → CarriesWord c n v ys
      → Makes c (moved_from f xs ys) n (stage_gates (length u) (length v)) (IsShifted (bit_moved_from g u v))
  unfolding moved_from
  makes-moved_from f g n moves u xs hu _ _ none =
      makes-done c _ n (IsShifted (record { word = u; is_out = false })) (record { word = hu; is_out = c.fixed n false })
  makes-moved_from f g n moves u xs hu _ _ (more b v y ys hb hv) =
      let w = length u in
      let bits = bit_moved_from g u v in
      let lows : length bits.word ≡ w = length-moved_from g moves.width u v in
      makes_more c _ n (stage_gates w (length v) + cond (nat_lt (2 ^ length v) w) (3 * w) 1) _ _ (omega arith)
      (makes_then c _ _ n (stage_gates w (length v)) (cond (nat_lt (2 ^ length v) w) (3 * w) 1) (IsShifted bits) _
      (makes-moved_from f g n moves u xs hu v ys hv)
      (λ low k l is. step k (word_length c n v ys hv) (word_length c n u xs hu) low bits is lows (c.later n k y b l hb) l))
    where
      step : (k : ℕ) → length ys ≡ length v → length xs ≡ length u → (low : Shifted) (bits : BitShifted) → IsShifted bits k low
          → length bits.word ≡ length u → c.at k y b → n ≤ k
          → Makes c (cond (nat_lt (2 ^ length ys) (length xs))
          (and_then (choose y (f low.word (2 ^ length ys)) low.word) (λ word. done (record { word = word; is_out = low.is_out })))
          (and_then (or y low.is_out) (λ is_out. done (record { word = low.word; is_out = is_out }))))
          k (cond (nat_lt (2 ^ length v) (length u)) (3 * length u) 1)
          (IsShifted (cond {A = BitShifted} (nat_lt (2 ^ length v) (length u))
          (record { word = choose_bits b (g bits.word (2 ^ length v)) bits.word; is_out = bits.is_out })
          (record { word = bits.word; is_out = b || bits.is_out })))
      step k ev eu low bits is lows hy l = rw (ev, eu) (go (nat_lt (2 ^ length v) (length u)))
        where
          go : (t : Bool) → Makes c (cond t
              (and_then (choose y (f low.word (2 ^ length v)) low.word) (λ word. done (record { word = word; is_out = low.is_out })))
              (and_then (or y low.is_out) (λ is_out. done (record { word = low.word; is_out = is_out }))))
              k (cond t (3 * length u) 1)
              (IsShifted (cond {A = BitShifted} t
              (record { word = choose_bits b (g bits.word (2 ^ length v)) bits.word; is_out = bits.is_out })
              (record { word = bits.word; is_out = b || bits.is_out })))
          go true =
              makes_more c _ k (3 * length u + 0) _ _ (omega arith)
              (makes_then c _ _ k (3 * length u) 0 (IsWord c (choose_bits b (g bits.word (2 ^ length v)) bits.word)) _
              (subst (λ m. Makes c (choose y (f low.word (2 ^ length v)) low.word) k (3 * m) (IsWord c (choose_bits b (g bits.word (2 ^ length v)) bits.word))) (moves.width _ _ ∙ lows)
              (makes-choose k y b hy _ _ (moves.carries k bits.word low.word (2 ^ length v) l is.word) bits.word low.word is.word))
              (λ word m o it. makes-done c _ m (IsShifted _) (record { word = it; is_out = c.later k m _ _ o is.is_out })))
          go false =
              makes_then c _ _ k 1 0 (Carries c (b || bits.is_out)) _ (makes-or c k y low.is_out b bits.is_out hy is.is_out)
              (λ s m o it. makes-done c _ m (IsShifted _) (record { word = word_later c k m _ _ o is.word; is_out = it }))

  pub makes-moved : (f : List Signal → ℕ → List Signal) (g : Word → ℕ → Word) (n : ℕ) → Moves f g n
      → (u : Word) (xs : List Signal) → CarriesWord c n u xs → (v : Word) (ys : List Signal) → CarriesWord c n v ys
      → Makes c (moved f xs ys) n (stage_gates (length u) (length v) + 3 * length u) (IsWord c (bit_moved g u v))
  unfolding moved
  makes-moved f g n moves u xs hu v ys hv =
      makes_then c _ _ n (stage_gates (length u) (length v)) (3 * length u) (IsShifted (bit_moved_from g u v)) _
      (makes-moved_from f g n moves u xs hu v ys hv)
      (λ s k l is.
      subst (λ m. Makes c (choose s.is_out (f xs (length xs)) s.word) k (3 * m) (IsWord c (bit_moved g u v))) (moves.width u (length u))
      (makes-choose k s.is_out _ is.is_out (g u (length u)) (f xs (length xs))
      (subst (λ m. CarriesWord c k (g u m) (f xs (length xs))) (word_length c n u xs hu) (moves.carries k u xs (length xs) l (word_later c n k u xs l hu)))
      (bit_moved_from g u v).word s.word is.word))

  -- ---- gate lists of two words

  pub makes-added : (n : ℕ) (u : Word) (xs : List Signal) → CarriesWord c n u xs → (v : Word) (ys : List Signal) → CarriesWord c n v ys
      → Makes c (added xs ys) n (9 * length u) (IsWord c (bit_sum u v false).word)
  unfolding added
  makes-added n u xs hu v ys hv =
      makes_more c _ n (9 * length u + 0) _ _ (omega arith)
      (makes_then c _ _ n (9 * length u) 0 (IsTotal c (bit_sum u v false)) _ (makes-sum c n (Fixed false) false (c.fixed n false) u xs hu v ys hv)
      (λ t k l is. makes-done c _ k (IsWord c (bit_sum u v false).word) is.word))

  pub makes-subtracted : (n : ℕ) (u : Word) (xs : List Signal) → CarriesWord c n u xs → (v : Word) (ys : List Signal) → CarriesWord c n v ys
      → Makes c (subtracted xs ys) n (9 * length u) (IsWord c (bit_sum u (not_word v) true).word)
  unfolding subtracted
  makes-subtracted n u xs hu v ys hv =
      makes_more c _ n (9 * length u + 0) _ _ (omega arith)
      (makes_then c _ _ n (9 * length u) 0 (IsTotal c (bit_sum u (not_word v) true)) _
      (makes-sum c n (Fixed true) true (c.fixed n true) u xs hu (not_word v) (inverses ys) (word_inverse c n v ys hv))
      (λ t k l is. makes-done c _ k (IsWord c (bit_sum u (not_word v) true).word) is.word))

  pub makes-product : (n : ℕ) (u : Word) (xs : List Signal) → CarriesWord c n u xs → (v : Word) (ys : List Signal) → CarriesWord c n v ys
      → Makes c (product xs ys) n (10 * (length u * length v)) (IsWord c (bit_product_from (zeros (length u)) u v))
  makes-product n u xs hu v ys hv =
      makes-product_from n (zeros (length u)) (no_bits (length xs))
      (subst (λ i. CarriesWord c n (zeros i) (no_bits (length xs))) (word_length c n u xs hu) (word-no_bits c n (length xs))) u xs hu
      (length-replicate (length u) false) v ys hv
