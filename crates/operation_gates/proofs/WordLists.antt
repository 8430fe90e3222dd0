-- Lists of words of signals that carry lists of words of bits; what is built of known bits, parts and joined words.
use Rattle.std.proofs.Common.{◌≡◌, refl, ap₂, subst, ℕ, zero, suc, ◌+◌, ◌-◌, ◌≤◌, Bool, not, List, [], ◌∷◌, map, length, take, drop, arith}
use Rattle.bits_core.specs.Word.{Word, flag, copies, extract as bits_from}
use Rattle.gates.specs.declared.signal.Signal.{Signal}
use Rattle.gates.specs.Build.{Build}
use Rattle.gates.proofs.Carrying.{Carrying, Makes, makes-done, makes_then, makes_more}
use Rattle.gates.proofs.SingleBits.{Carries}
use Rattle.gates.proofs.Instances.{bits_under}
use Rattle.gate_words.specs.Computes.{word_of}
use Rattle.gate_words.proofs.Words.CarriesWord.{none, more}
use Rattle.gate_words.proofs.Words.{CarriesWord, IsWord, word_length, word-append, word-take, word-drop}
use Rattle.gate_words.proofs.Computing.{counting, carries_own, carries_any, length-word_of}
use Rattle.hw_model.specs.Types.{list_copies}
use Rattle.hw_model.specs.Value.{concat_words}
use Rattle.operation_gates.specs.OperationGateLists.{known_word, concatenation, part, negation, one_bit}

-- with n variables so far the words of signals carry the words
pub data CarriesWords {inputs : ℕ} (c : Carrying inputs) (n : ℕ) : List Word → List (List Signal) → Type 0 where
  no_words : CarriesWords c n [] []
  one_more : (u : Word) (us : List Word) (x : List Signal) (xs : List (List Signal)) → CarriesWord c n u x → CarriesWords c n us xs
      → CarriesWords c n (u ∷ us) (x ∷ xs)

pub carries_own_words : (m : List Bool) (inputs n : ℕ) (xs : List (List Signal)) → CarriesWords (bits_under m inputs) n (map (word_of m) xs) xs
carries_own_words m inputs n [] = no_words
carries_own_words m inputs n (x ∷ xs) = one_more _ _ _ _ (carries_own m inputs n x) (carries_own_words m inputs n xs)

pub carries_any_words : (inputs n : ℕ) (m : List Bool) (xs : List (List Signal)) → CarriesWords (counting inputs) n (map (word_of m) xs) xs
carries_any_words inputs n m [] = no_words
carries_any_words inputs n m (x ∷ xs) = one_more _ _ _ _ (carries_any inputs n m x) (carries_any_words inputs n m xs)

pub lengths-word_of : (m : List Bool) (xs : List (List Signal)) → map length (map (word_of m) xs) ≡ map length xs
lengths-word_of m [] = refl
lengths-word_of m (x ∷ xs) = ap₂ (λ (k : ℕ) (ks : List ℕ). k ∷ ks) (length-word_of m x) (lengths-word_of m xs)

module _ {inputs : ℕ} (c : Carrying inputs) where
  -- ---- words that take no gate

  pub word-known : (n : ℕ) (w : Word) → CarriesWord c n w (known_word w)
  word-known n [] = none
  word-known n (b ∷ w) = more _ _ _ _ (c.fixed n b) (word-known n w)

  pub word-joined : (n : ℕ) (us : List Word) (xs : List (List Signal)) → CarriesWords c n us xs → CarriesWord c n (concat_words us) (concatenation xs)
  word-joined n _ _ no_words = none
  word-joined n _ _ (one_more u us x xs hx hs) = word-append c n u x (concat_words us) (concatenation xs) hx (word-joined n us xs hs)

  pub word-copies : (n k : ℕ) (u : Word) (x : List Signal) → CarriesWord c n u x → CarriesWord c n (copies k u) (list_copies k x)
  word-copies n zero u x hx = none
  word-copies n (suc k) u x hx = word-append c n u x (copies k u) (list_copies k x) hx (word-copies n k u x hx)

  pub word-part : (n low w : ℕ) (u : Word) (x : List Signal) → CarriesWord c n u x → CarriesWord c n (bits_from low w u) (part low w x)
  word-part n low w u x hx =
      subst (λ l. CarriesWord c n (take w (drop (l - (low + w)) u)) (part low w x)) (word_length c n u x hx)
      (word-take c n w (drop (length x - (low + w)) u) (drop (length x - (low + w)) x) (word-drop c n (length x - (low + w)) u x hx))

  -- ---- the same building under another name

  pub makes_as : (p : Build (List Signal)) (n g h : ℕ) (v w : Word) → g ≤ h → v ≡ w → Makes c p n g (IsWord c v) → Makes c p n h (IsWord c w)
  makes_as p n g h v w few same m = subst (λ x. Makes c p n h (IsWord c x)) same (makes_more c p n g h (IsWord c v) few m)

  -- numbers of gates by the width of a word
  pub makes_by_width : (p : Build (List Signal)) (n : ℕ) (most few : ℕ → ℕ) (u : Word) (w : ℕ) (v r : Word) → most (length u) ≤ few (length u) → length u ≡ w
      → v ≡ r → Makes c p n (most (length u)) (IsWord c v) → Makes c p n (few w) (IsWord c r)
  makes_by_width p n most few u w v r bound e same m =
      subst (λ k. Makes c p n (few k) (IsWord c r)) e (makes_as p n (most (length u)) (few (length u)) v r bound same m)

  -- ---- the other bit, and a word of one bit

  pub makes-negation : (p : Build Signal) (n g : ℕ) (b : Bool) → Makes c p n g (Carries c b) → Makes c (negation p) n g (Carries c (not b))
  makes-negation p n g b m =
      makes_more c _ n (g + 0) g _ (omega arith)
      (makes_then c _ _ n g 0 (Carries c b) _ m (λ s k l is. makes-done c _ k (Carries c (not b)) (c.inverted k s b is)))

  pub makes-one_bit : (p : Build Signal) (n g : ℕ) (b : Bool) → Makes c p n g (Carries c b) → Makes c (one_bit p) n g (IsWord c (flag b))
  makes-one_bit p n g b m =
      makes_more c _ n (g + 0) g _ (omega arith)
      (makes_then c _ _ n g 0 (Carries c b) _ m (λ s k l is. makes-done c _ k (IsWord c (flag b)) (more _ _ _ _ is none)))
