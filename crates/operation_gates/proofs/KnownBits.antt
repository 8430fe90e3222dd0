-- Words of known bits that were written from the least bit on.
use Rattle.std.proofs.Common.{◌≡◌, refl, sym, ap, ap₂, ◌∙◌, ℕ, zero, suc, ◌+◌, ◌-◌, ◌/◌, ◌%◌, ◌^◌, ◌==◌, ◌<◌, ◌≤◌, Bool, not, List, [], ◌∷◌, ◌++◌, length, drop, set, replicate, arith, pow-suc, append_assoc}
use Rattle.std.proofs.Math.Nat.{div-div-eq-div-mul}
use Rattle.bits_core.specs.Word.{Word, bits, not_word}
use Rattle.gates.specs.declared.signal.Signal.{Signal}
use Rattle.gates.specs.declared.signal.Signal.TheVariants.{Fixed}
use Rattle.gate_words.specs.GateLists.{inverses}
use Rattle.gate_words.proofs.Loops.{drop_written}
use Rattle.hw_model.specs.Types.{list_copies}
use Rattle.operation_gates.specs.OperationGateLists.{known_word}

pub bits_before : (w i n left : ℕ) (made : List Signal) → 0 < i → i ≤ w → length made ≡ w → left ≡ n / 2 ^ (w - i) → drop i made ≡ known_word (bits (w - i) n)
    → drop (i - 1) (set made (i - 1) (Fixed (left % 2 == 1))) ≡ known_word (bits (w - (i - 1)) n)
bits_before w i n left made some h size is rest =
    let next : suc (w - i) ≡ w - (i - 1) = omega arith in
    let room : i ≤ length made = omega arith in
    drop_written made i (Fixed (left % 2 == 1)) some room
    ∙ ap₂ (λ (b : Signal) (ss : List Signal). b ∷ ss) (ap (λ l. Fixed (l % 2 == 1)) is) rest
    ∙ ap (λ k. known_word (bits k n)) next

pub half_before : (w i n left : ℕ) → 0 < i → i ≤ w → left ≡ n / 2 ^ (w - i) → left / 2 ≡ n / 2 ^ (w - (i - 1))
half_before w i n left some h is =
    let next : suc (w - i) ≡ w - (i - 1) = omega arith in
    ap (λ l. l / 2) is ∙ div-div-eq-div-mul n (2 ^ (w - i)) 2 ∙ ap (λ m. n / m) (sym (pow-suc 2 (w - i))) ∙ ap (λ k. n / 2 ^ k) next

pub inverses-known : (u : Word) → inverses (known_word u) ≡ known_word (not_word u)
inverses-known [] = refl
inverses-known (b ∷ u) = ap (λ (ss : List Signal). Fixed (not b) ∷ ss) (inverses-known u)

pub known-replicate : (w : ℕ) (b : Bool) → replicate w (Fixed b) ≡ known_word (replicate w b)
known-replicate zero b = refl
known-replicate (suc w) b = ap (λ (ss : List Signal). Fixed b ∷ ss) (known-replicate w b)

-- one more copy, of those that are left
pub copy_more : (n i : ℕ) (made x all : List Signal) → i < n → made ++ list_copies (n - i) x ≡ all → (made ++ x) ++ list_copies (n - (i + 1)) x ≡ all
copy_more n i made x all h e =
    let left : n - i ≡ suc (n - (i + 1)) = omega arith in
    append_assoc made x (list_copies (n - (i + 1)) x) ∙ sym (ap (λ k. made ++ list_copies k x) left) ∙ e
