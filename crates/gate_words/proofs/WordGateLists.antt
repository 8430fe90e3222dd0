-- Gate lists carry what the same gate lists make of bits, within their numbers of gates.
use Rattle.std.proofs.Common.{ℕ, ◌+◌, ◌*◌, ◌≤◌, Bool, false, ◌&&◌, ◌||◌, List, [], ◌∷◌, length, arith, mul-suc}
use Rattle.bits_core.specs.Word.{Word, bitwise, xor, parity}
use Rattle.gates.specs.declared.signal.Signal.{Signal}
use Rattle.gates.specs.Build.{Build}
use Rattle.gates.proofs.Carrying.{Carrying, Makes, makes-done, makes_then, makes_more}
use Rattle.gates.proofs.SingleBits.{Carries, CarriesSum, carry_bit, makes-and, makes-or, makes-exclusive, makes-full, makes-majority}
use Rattle.gate_words.specs.GateLists.{each, masked, flipped, reduced, any, odd, Total, sum, carried}
use Rattle.gate_words.proofs.Words.CarriesWord.{none, more}
use Rattle.gate_words.proofs.Words.{CarriesWord, IsWord, word_later}

-- ---- the gate lists over bits

-- a sum of bits and its carry
pub record BitTotal : Type 0 where
  pub word : Word
  pub carry : Bool

abbrev pub bit_sum : Word → Word → Bool → BitTotal
bit_sum [] v r = record { word = []; carry = r }
bit_sum (a ∷ u) [] r = record { word = []; carry = r }
bit_sum (a ∷ u) (b ∷ v) r = record {
  word = xor (xor a b) (bit_sum u v r).carry ∷ (bit_sum u v r).word;
  carry = carry_bit a b (bit_sum u v r).carry;
}

abbrev pub bit_carried : Word → Word → Bool → Bool
bit_carried [] v r = r
bit_carried (a ∷ u) [] r = r
bit_carried (a ∷ u) (b ∷ v) r = carry_bit a b (bit_carried u v r)

abbrev pub mask_bits : Bool → Word → Word
mask_bits r [] = []
mask_bits r (b ∷ w) = (r && b) ∷ mask_bits r w

abbrev pub flip_bits : Bool → Word → Word
flip_bits r [] = []
flip_bits r (b ∷ w) = xor r b ∷ flip_bits r w

abbrev pub any_bit : Word → Bool
any_bit [] = false
any_bit (b ∷ w) = b || any_bit w

module _ {inputs : ℕ} (c : Carrying inputs) where
  -- ---- bit by bit

  -- the building gives that operation on bits, by at most h gates
  abbrev pub MakesBits : (Signal → Signal → Build Signal) → (Bool → Bool → Bool) → ℕ → ℕ → Type 0
  MakesBits f op n h = (k : ℕ) (a b : Signal) (p q : Bool) → n ≤ k → c.at k a p → c.at k b q → Makes c (f a b) k h (Carries c (op p q))

  pub makes-each : (f : Signal → Signal → Build Signal) (op : Bool → Bool → Bool) (h n : ℕ) → MakesBits f op n h
      → (u : Word) (xs : List Signal) → CarriesWord c n u xs → (v : Word) (ys : List Signal) → CarriesWord c n v ys
      → Makes c (each f xs ys) n (h * length u) (IsWord c (bitwise op u v))
  unfolding each
  makes-each f op h n ok _ _ none v ys hv = makes_more c _ n 0 _ _ (omega arith) (makes-done c [] n (IsWord c []) none)
  makes-each f op h n ok _ _ (more p u x xs hp hu) _ _ none = makes_more c _ n 0 _ _ (omega arith) (makes-done c [] n (IsWord c []) none)
  makes-each f op h n ok _ _ (more p u x xs hp hu) _ _ (more q v y ys hq hv) =
      makes_more c _ n (h * length u + (h + 0)) _ _ (omega (arith, mul-suc h (length u)))
      (makes_then c _ _ n (h * length u) (h + 0) (IsWord c (bitwise op u v)) _ (makes-each f op h n ok u xs hu v ys hv)
      (λ low k l is.
      makes_then c _ _ k h 0 (Carries c (op p q)) _ (ok k x y p q l (c.later n k x p l hp) (c.later n k y q l hq))
      (λ s m o it. makes-done c _ m (IsWord c (op p q ∷ bitwise op u v)) (more _ _ _ _ it (word_later c k m _ low o is)))))

  pub makes-masked : (n : ℕ) (d : Signal) (r : Bool) → c.at n d r → (u : Word) (xs : List Signal) → CarriesWord c n u xs
      → Makes c (masked d xs) n (length u) (IsWord c (mask_bits r u))
  unfolding masked
  makes-masked n d r hd _ _ none = makes-done c [] n (IsWord c []) none
  makes-masked n d r hd _ _ (more p u x xs hp hu) =
      makes_more c _ n (length u + (1 + 0)) _ _ (omega arith)
      (makes_then c _ _ n (length u) (1 + 0) (IsWord c (mask_bits r u)) _ (makes-masked n d r hd u xs hu)
      (λ low k l is.
      makes_then c _ _ k 1 0 (Carries c (r && p)) _ (makes-and c k d x r p (c.later n k d r l hd) (c.later n k x p l hp))
      (λ s m o it. makes-done c _ m (IsWord c ((r && p) ∷ mask_bits r u)) (more _ _ _ _ it (word_later c k m _ low o is)))))

  pub makes-flipped : (n : ℕ) (d : Signal) (r : Bool) → c.at n d r → (u : Word) (xs : List Signal) → CarriesWord c n u xs
      → Makes c (flipped d xs) n (3 * length u) (IsWord c (flip_bits r u))
  unfolding flipped
  makes-flipped n d r hd _ _ none = makes_more c _ n 0 _ _ (omega arith) (makes-done c [] n (IsWord c []) none)
  makes-flipped n d r hd _ _ (more p u x xs hp hu) =
      makes_more c _ n (3 * length u + (3 + 0)) _ _ (omega arith)
      (makes_then c _ _ n (3 * length u) (3 + 0) (IsWord c (flip_bits r u)) _ (makes-flipped n d r hd u xs hu)
      (λ low k l is.
      makes_then c _ _ k 3 0 (Carries c (xor r p)) _ (makes-exclusive c k d x r p (c.later n k d r l hd) (c.later n k x p l hp))
      (λ s m o it. makes-done c _ m (IsWord c (xor r p ∷ flip_bits r u)) (more _ _ _ _ it (word_later c k m _ low o is)))))

  -- ---- all bits

  pub makes-any : (n : ℕ) (u : Word) (xs : List Signal) → CarriesWord c n u xs → Makes c (any xs) n (length u) (Carries c (any_bit u))
  unfolding reduced
  makes-any n _ _ none = makes-done c _ n (Carries c false) (c.fixed n false)
  makes-any n _ _ (more p u x xs hp hu) =
      makes_more c _ n (length u + 1) _ _ (omega arith)
      (makes_then c _ _ n (length u) 1 (Carries c (any_bit u)) _ (makes-any n u xs hu)
      (λ s k l is. makes-or c k x s p _ (c.later n k x p l hp) is))

  pub makes-odd : (n : ℕ) (u : Word) (xs : List Signal) → CarriesWord c n u xs → Makes c (odd xs) n (3 * length u) (Carries c (parity u))
  unfolding reduced
  makes-odd n _ _ none = makes_more c _ n 0 _ _ (omega arith) (makes-done c _ n (Carries c false) (c.fixed n false))
  makes-odd n _ _ (more p u x xs hp hu) =
      makes_more c _ n (3 * length u + 3) _ _ (omega arith)
      (makes_then c _ _ n (3 * length u) 3 (Carries c (parity u)) _ (makes-odd n u xs hu)
      (λ s k l is. makes-exclusive c k x s p _ (c.later n k x p l hp) is))

  -- ---- sums

  -- the signals carry a sum of bits and its carry
  pub record IsTotal (b : BitTotal) (k : ℕ) (t : Total) : Type 0 where
    pub word : CarriesWord c k b.word t.word
    pub carry : c.at k t.carry b.carry

  pub makes-sum : (n : ℕ) (d : Signal) (r : Bool) → c.at n d r → (u : Word) (xs : List Signal) → CarriesWord c n u xs
      → (v : Word) (ys : List Signal) → CarriesWord c n v ys → Makes c (sum xs ys d) n (9 * length u) (IsTotal (bit_sum u v r))
  unfolding sum
  makes-sum n d r hd _ _ none v ys hv =
      makes_more c _ n 0 _ _ (omega arith) (makes-done c _ n (IsTotal (record { word = []; carry = r })) (record { word = none; carry = hd }))
  makes-sum n d r hd _ _ (more p u x xs hp hu) _ _ none =
      makes_more c _ n 0 _ _ (omega arith) (makes-done c _ n (IsTotal (record { word = []; carry = r })) (record { word = none; carry = hd }))
  makes-sum n d r hd _ _ (more p u x xs hp hu) _ _ (more q v y ys hq hv) =
      makes_more c _ n (9 * length u + (9 + 0)) _ _ (omega arith)
      (makes_then c _ _ n (9 * length u) (9 + 0) (IsTotal (bit_sum u v r)) _ (makes-sum n d r hd u xs hu v ys hv)
      (λ low k l is.
      makes_then c _ _ k 9 0 (CarriesSum c p q (bit_sum u v r).carry) _
      (makes-full c k x y low.carry p q _ (c.later n k x p l hp) (c.later n k y q l hq) is.carry)
      (λ s m o it. makes-done c _ m (IsTotal (bit_sum (p ∷ u) (q ∷ v) r))
      (record { word = more _ _ _ _ it.sum (word_later c k m _ low.word o is.word); carry = it.carry }))))

  pub makes-carried : (n : ℕ) (d : Signal) (r : Bool) → c.at n d r → (u : Word) (xs : List Signal) → CarriesWord c n u xs
      → (v : Word) (ys : List Signal) → CarriesWord c n v ys → Makes c (carried xs ys d) n (4 * length u) (Carries c (bit_carried u v r))
  unfolding carried
  makes-carried n d r hd _ _ none v ys hv = makes_more c _ n 0 _ _ (omega arith) (makes-done c _ n (Carries c r) hd)
  makes-carried n d r hd _ _ (more p u x xs hp hu) _ _ none = makes_more c _ n 0 _ _ (omega arith) (makes-done c _ n (Carries c r) hd)
  makes-carried n d r hd _ _ (more p u x xs hp hu) _ _ (more q v y ys hq hv) =
      makes_more c _ n (4 * length u + 4) _ _ (omega arith)
      (makes_then c _ _ n (4 * length u) 4 (Carries c (bit_carried u v r)) _ (makes-carried n d r hd u xs hu v ys hv)
      (λ s k l is. makes-majority c k x y s p q _ (c.later n k x p l hp) (c.later n k y q l hq) is))
