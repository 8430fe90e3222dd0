-- From what gate lists carry to what they compute.
use Rattle.std.proofs.Common.{◌≡◌, refl, sym, ap, ap₂, subst, ◌∙◌, ℕ, suc, ◌+◌, ◌≤◌, Bool, List, [], ◌∷◌, length, le_trans}
use Rattle.bits_core.specs.Word.{Word}
use Rattle.gates.specs.declared.signal.Gate.{Gate}
use Rattle.gates.specs.declared.signal.Signal.{Signal}
use Rattle.gates.specs.Build.{Build}
use Rattle.gates.proofs.Carrying.{Carrying, Makes}
use Rattle.gates.proofs.SingleBits.{Carries}
use Rattle.gates.proofs.Instances.{bits_under}
use Rattle.gate_words.specs.Computes.{word_of, Computes, ComputesBit, ComputesOfTwo, ComputesOfShort, ComputesBitOfTwo}
use Rattle.gate_words.proofs.Words.CarriesWord.{none, more}
use Rattle.gate_words.proofs.Words.{CarriesWord, IsWord}

-- signals of which nothing is asked carry any bits: by them a gate list's gates are counted
abbrev pub counting : (inputs : ℕ) → Carrying inputs
counting inputs = record {
  at = λ n s b. Unit {0};
  kept = λ n gs. Unit {0};
  good = λ n gs. Unit {0};
  fixed = λ n b. tt;
  inverted = λ n s b h. tt;
  later = λ n k s b l h. tt;
  kept_first = λ n xs ys h. tt;
  kept_second = λ n xs ys h. tt;
  kept_joined = λ n xs ys g h. tt;
  good_none = λ n. tt;
  good_joined = λ n xs ys g h. tt;
  and_good = λ a b p q gs ha hb. tt;
  and_at = λ a b p q gs kept good ha hb new. tt;
}

pub carries_own : (m : List Bool) (inputs n : ℕ) (ss : List Signal) → CarriesWord (bits_under m inputs) n (word_of m ss) ss
carries_own m inputs n [] = none
carries_own m inputs n (s ∷ ss) = more _ _ _ _ refl (carries_own m inputs n ss)

pub carries_any : (inputs n : ℕ) (m : List Bool) (ss : List Signal) → CarriesWord (counting inputs) n (word_of m ss) ss
carries_any inputs n m [] = none
carries_any inputs n m (s ∷ ss) = more _ _ _ _ tt (carries_any inputs n m ss)

own_word : (m : List Bool) (inputs n : ℕ) (w : Word) (ss : List Signal) → CarriesWord (bits_under m inputs) n w ss → word_of m ss ≡ w
own_word m inputs n _ _ none = refl
own_word m inputs n _ _ (more b w s ss h t) = ap₂ (λ c v. c ∷ v) h (own_word m inputs n w ss t)

pub computes : (gate_list : Build (List Signal)) (m : List Bool) (inputs : ℕ) (gates : List Gate) (v w : Word) (most : ℕ) → v ≡ w
    → Makes (bits_under m inputs) gate_list (inputs + length gates) most (IsWord (bits_under m inputs) v)
    → Makes (counting inputs) gate_list (inputs + length gates) most (IsWord (counting inputs) v)
    → Computes gate_list m inputs gates w most
computes gate_list m inputs gates v w most e bits count = record {
  value = λ kept new. own_word m inputs _ v _ (bits.runs gates refl kept tt new).is ∙ e;
  few = (count.runs gates refl tt tt tt).few;
}

pub computes_bit : (gate_list : Build Signal) (m : List Bool) (inputs : ℕ) (gates : List Gate) (a b : Bool) (most : ℕ) → a ≡ b
    → Makes (bits_under m inputs) gate_list (inputs + length gates) most (Carries (bits_under m inputs) a)
    → Makes (counting inputs) gate_list (inputs + length gates) most (Carries (counting inputs) a)
    → ComputesBit gate_list m inputs gates b most
computes_bit gate_list m inputs gates a b most e bits count = record {
  value = λ kept new. (bits.runs gates refl kept tt new).is ∙ e;
  few = (count.runs gates refl tt tt tt).few;
}

pub length-word_of : (m : List Bool) (ss : List Signal) → length (word_of m ss) ≡ length ss
length-word_of m [] = refl
length-word_of m (s ∷ ss) = ap suc (length-word_of m ss)

-- a gate list of two words makes what the gate list over bits does, whatever its signals carry
abbrev pub MakesOfTwo : (List Signal → List Signal → Build (List Signal)) → (Word → Word → Word) → (ℕ → ℕ) → Type 1
MakesOfTwo gate_list mirror most =
    (inputs : ℕ) (c : Carrying inputs) (n : ℕ) (u : Word) (xs : List Signal) → CarriesWord c n u xs → (v : Word) (ys : List Signal) → CarriesWord c n v ys
    → length u ≡ length v → Makes c (gate_list xs ys) n (most (length u)) (IsWord c (mirror u v))

abbrev pub MakesBitOfTwo : (List Signal → List Signal → Build Signal) → (Word → Word → Bool) → (ℕ → ℕ) → Type 1
MakesBitOfTwo gate_list mirror most =
    (inputs : ℕ) (c : Carrying inputs) (n : ℕ) (u : Word) (xs : List Signal) → CarriesWord c n u xs → (v : Word) (ys : List Signal) → CarriesWord c n v ys
    → length u ≡ length v → Makes c (gate_list xs ys) n (most (length u)) (Carries c (mirror u v))

same_lengths : (m : List Bool) (xs ys : List Signal) → length xs ≡ length ys → length (word_of m xs) ≡ length (word_of m ys)
same_lengths m xs ys e = length-word_of m xs ∙ e ∙ sym (length-word_of m ys)

pub of_two : (gate_list : List Signal → List Signal → Build (List Signal)) (mirror f : Word → Word → Word) (most : ℕ → ℕ) → MakesOfTwo gate_list mirror most
    → ((u v : Word) → length u ≡ length v → mirror u v ≡ f u v) → ComputesOfTwo gate_list f most
of_two gate_list mirror f most makes is m inputs gates xs ys e =
    let u = word_of m xs in
    let v = word_of m ys in
    let same = same_lengths m xs ys e in
    subst (λ n. Computes (gate_list xs ys) m inputs gates (f u v) (most n)) (length-word_of m xs)
    (computes (gate_list xs ys) m inputs gates (mirror u v) (f u v) (most (length u)) (is u v same)
    (makes inputs (bits_under m inputs) (inputs + length gates) u xs (carries_own m inputs _ xs) v ys (carries_own m inputs _ ys) same)
    (makes inputs (counting inputs) (inputs + length gates) u xs (carries_any inputs _ m xs) v ys (carries_any inputs _ m ys) same))

pub bit_of_two : (gate_list : List Signal → List Signal → Build Signal) (mirror f : Word → Word → Bool) (most : ℕ → ℕ) → MakesBitOfTwo gate_list mirror most
    → ((u v : Word) → length u ≡ length v → mirror u v ≡ f u v) → ComputesBitOfTwo gate_list f most
bit_of_two gate_list mirror f most makes is m inputs gates xs ys e =
    let u = word_of m xs in
    let v = word_of m ys in
    let same = same_lengths m xs ys e in
    subst (λ n. ComputesBit (gate_list xs ys) m inputs gates (f u v) (most n)) (length-word_of m xs)
    (computes_bit (gate_list xs ys) m inputs gates (mirror u v) (f u v) (most (length u)) (is u v same)
    (makes inputs (bits_under m inputs) (inputs + length gates) u xs (carries_own m inputs _ xs) v ys (carries_own m inputs _ ys) same)
    (makes inputs (counting inputs) (inputs + length gates) u xs (carries_any inputs _ m xs) v ys (carries_any inputs _ m ys) same))

-- a gate list within its number of gates for words of 128 bits at most
pub of_short : (gate_list : List Signal → List Signal → Build (List Signal)) (mirror f : Word → Word → Word) (most few : ℕ → ℕ) → MakesOfTwo gate_list mirror most
    → ((u v : Word) → length u ≡ length v → mirror u v ≡ f u v) → ((n : ℕ) → n ≤ 128 → most n ≤ few n) → ComputesOfShort gate_list f few
of_short gate_list mirror f most few makes is bound m inputs gates xs ys e h =
    let all = of_two gate_list mirror f most makes is m inputs gates xs ys e in
    record { value = all.value; few = le_trans all.few (bound (length xs) h) }
