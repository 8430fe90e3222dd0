-- Words of signals that carry words of bits.
use Rattle.std.proofs.Common.{◌≡◌, refl, ap, subst, ℕ, zero, suc, ◌≤◌, Bool, false, not, List, [], ◌∷◌, ◌++◌, length, take, drop, replicate}
use Rattle.bits_core.specs.Word.{Word, not_word, zeros, sign}
use Rattle.gates.specs.declared.signal.Signal.{Signal}
use Rattle.gates.specs.declared.signal.Signal.TheVariants.{Fixed}
use Rattle.gates.proofs.Carrying.{Carrying}
use Rattle.gate_words.specs.GateLists.{inverses, no_bits, top, top_inverted}

-- with n variables so far the signals carry the bits
pub data CarriesWord {inputs : ℕ} (c : Carrying inputs) (n : ℕ) : Word → List Signal → Type 0 where
  none : CarriesWord c n [] []
  more : (b : Bool) (w : Word) (s : Signal) (ss : List Signal) → c.at n s b → CarriesWord c n w ss → CarriesWord c n (b ∷ w) (s ∷ ss)

-- the word with its top bit inverted
abbrev pub top_flipped : Word → Word
top_flipped [] = []
top_flipped (b ∷ w) = not b ∷ w

module _ {inputs : ℕ} (c : Carrying inputs) where
  -- the signals carry the word
  abbrev pub IsWord : Word → ℕ → List Signal → Type 0
  IsWord w k ss = CarriesWord c k w ss

  pub word_later : (n k : ℕ) (w : Word) (ss : List Signal) → n ≤ k → CarriesWord c n w ss → CarriesWord c k w ss
  word_later n k _ _ l none = none
  word_later n k _ _ l (more b w s ss h t) = more b w s ss (c.later n k s b l h) (word_later n k w ss l t)

  pub word_length : (n : ℕ) (w : Word) (ss : List Signal) → CarriesWord c n w ss → length ss ≡ length w
  word_length n _ _ none = refl
  word_length n _ _ (more b w s ss h t) = ap suc (word_length n w ss t)

  pub word_inverse : (n : ℕ) (w : Word) (ss : List Signal) → CarriesWord c n w ss → CarriesWord c n (not_word w) (inverses ss)
  word_inverse n _ _ none = none
  word_inverse n _ _ (more b w s ss h t) = more _ _ _ _ (c.inverted n s b h) (word_inverse n w ss t)

  pub word-replicate : (n k : ℕ) (b : Bool) (s : Signal) → c.at n s b → CarriesWord c n (replicate k b) (replicate k s)
  word-replicate n zero b s h = none
  word-replicate n (suc k) b s h = more _ _ _ _ h (word-replicate n k b s h)

  pub word-no_bits : (n k : ℕ) → CarriesWord c n (zeros k) (no_bits k)
  word-no_bits n k = word-replicate n k false (Fixed false) (c.fixed n false)

  pub word-append : (n : ℕ) (w : Word) (ss : List Signal) (v : Word) (ts : List Signal) → CarriesWord c n w ss → CarriesWord c n v ts
      → CarriesWord c n (w ++ v) (ss ++ ts)
  word-append n _ _ v ts none t = t
  word-append n _ _ v ts (more b w s ss h r) t = more _ _ _ _ h (word-append n w ss v ts r t)

  pub word-take : (n k : ℕ) (w : Word) (ss : List Signal) → CarriesWord c n w ss → CarriesWord c n (take k w) (take k ss)
  word-take n zero w ss t = none
  word-take n (suc k) _ _ none = none
  word-take n (suc k) _ _ (more b w s ss h t) = more _ _ _ _ h (word-take n k w ss t)

  pub word-drop : (n k : ℕ) (w : Word) (ss : List Signal) → CarriesWord c n w ss → CarriesWord c n (drop k w) (drop k ss)
  word-drop n zero w ss t = t
  word-drop n (suc k) _ _ none = none
  word-drop n (suc k) _ _ (more b w s ss h t) = word-drop n k w ss t

  pub word-top : (n : ℕ) (w : Word) (ss : List Signal) → CarriesWord c n w ss → c.at n (top ss) (sign w)
  word-top n _ _ none = c.fixed n false
  word-top n _ _ (more b w s ss h t) = h

  -- the words of other words that are equal
  pub word_same : (n : ℕ) (v w : Word) (ss : List Signal) → v ≡ w → CarriesWord c n v ss → CarriesWord c n w ss
  word_same n v w ss e h = subst (λ x. CarriesWord c n x ss) e h

  pub word-top_inverted : (n : ℕ) (w : Word) (ss : List Signal) → CarriesWord c n w ss → CarriesWord c n (top_flipped w) (top_inverted ss)
  word-top_inverted n _ _ none = none
  word-top_inverted n _ _ (more b w s ss h t) = more _ _ _ _ (c.inverted n s b h) t
