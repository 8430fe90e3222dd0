-- What a gate list computes.
use Rattle.std.specs.Prelude.{◌≡◌, ℕ, ◌+◌, ◌*◌, ◌≤◌, suc, Bool, List, map, length}
use Rattle.bits_core.specs.Word.{Word}
use Rattle.gates.specs.declared.signal.Gate.{Gate}
use Rattle.gates.specs.declared.signal.Signal.{Signal}
use Rattle.gates.specs.Signals.{signal_bit}
use Rattle.gates.specs.Order.{AreKept}
use Rattle.gates.specs.Build.{Build}

-- the bits of signals under an assignment
abbrev pub word_of : List Bool → List Signal → Word
word_of m ss = map (signal_bit m) ss

-- run after the gates the gate list adds at most that many; under an assignment that gives each gate's variable its gate's
-- bit, its signals have the bits of the word
pub record Computes (gate_list : Build (List Signal)) (m : List Bool) (inputs : ℕ) (gates : List Gate) (w : Word) (most : ℕ) : Type 0 where
  pub value : AreKept m inputs gates → AreKept m (inputs + length gates) (gate_list inputs gates).gates → word_of m (gate_list inputs gates).got ≡ w
  pub few : length (gate_list inputs gates).gates ≤ most

-- the same of one signal
pub record ComputesBit (gate_list : Build Signal) (m : List Bool) (inputs : ℕ) (gates : List Gate) (b : Bool) (most : ℕ) : Type 0 where
  pub value : AreKept m inputs gates → AreKept m (inputs + length gates) (gate_list inputs gates).gates → signal_bit m (gate_list inputs gates).got ≡ b
  pub few : length (gate_list inputs gates).gates ≤ most

-- gates of a division of words of w bits
abbrev pub division_gates : ℕ → ℕ
division_gates w = 12 * (suc w * w)

-- the gate list computes that operation on two words of one width, by at most so many gates for each width
abbrev pub ComputesOfTwo : (List Signal → List Signal → Build (List Signal)) → (Word → Word → Word) → (ℕ → ℕ) → Type 0
ComputesOfTwo gate_list f most =
    (m : List Bool) (inputs : ℕ) (gates : List Gate) (xs ys : List Signal) → length xs ≡ length ys
    → Computes (gate_list xs ys) m inputs gates (f (word_of m xs) (word_of m ys)) (most (length xs))

-- the same of words of 128 bits at most
abbrev pub ComputesOfShort : (List Signal → List Signal → Build (List Signal)) → (Word → Word → Word) → (ℕ → ℕ) → Type 0
ComputesOfShort gate_list f most =
    (m : List Bool) (inputs : ℕ) (gates : List Gate) (xs ys : List Signal) → length xs ≡ length ys → length xs ≤ 128
    → Computes (gate_list xs ys) m inputs gates (f (word_of m xs) (word_of m ys)) (most (length xs))

-- the same of one bit
abbrev pub ComputesBitOfTwo : (List Signal → List Signal → Build Signal) → (Word → Word → Bool) → (ℕ → ℕ) → Type 0
ComputesBitOfTwo gate_list f most =
    (m : List Bool) (inputs : ℕ) (gates : List Gate) (xs ys : List Signal) → length xs ≡ length ys
    → ComputesBit (gate_list xs ys) m inputs gates (f (word_of m xs) (word_of m ys)) (most (length xs))
