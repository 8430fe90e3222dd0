-- A slot that was lent, exchanged, and is given back.
use Rattle.std.proofs.Common.{◌≡◌, ℕ, List, [], ◌∷◌, sym, ap, ◌∙◌}
use Rattle.std.specs.Prelude.{Option}
use Rattle.atomic_table.specs.Table.{Me, rest}
use Rattle.shared_schedule.specs.declared.slot.Slot.TheVariants.{Stored, Copied}

-- the value of the slot that was taken last
abbrev prefix : {S : Type 0} → S → List (ℕ × S) → S
prefix d [] = d
prefix d (x ∷ xs) = x.1

module _ {S V : Type 0} where
  -- the slot that was lent can be exchanged
  pub exchangeable : (one : Me S V) (w : V) (k : ℕ) (y : S) (carried : List (ℕ × S)) → one ≡ (w, (k, y) ∷ carried) → (old : S) × (one.1 ≡ (k, old) ∷ rest one.1)
  exchangeable one w k y carried is = let e : one.1 ≡ (k, y) ∷ carried = ap (λ z. z.1) is in (y, e ∙ ap (λ l. (k, y) ∷ rest l) (sym e))

  -- and holds the new value then
  pub exchanged : (one two : Me S V) (w : V) (k : ℕ) (y x : S) (carried : List (ℕ × S)) → carried ≡ [] → one ≡ (w, (k, y) ∷ carried) → two ≡ (one.0, (k, x) ∷ rest one.1) → two ≡ (w, (k, x) ∷ [])
  exchanged one two w k y x carried none is then = then ∙ ap (λ z. (z.0, (k, x) ∷ rest z.1)) is ∙ ap (λ l. (w, (k, x) ∷ l)) none

  -- what came out of it is what was there
  pub came-out : (one : Me S V) (w : V) (k : ℕ) (y z : S) (carried : List (ℕ × S)) → one ≡ (w, (k, y) ∷ carried) → one.1 ≡ (k, z) ∷ rest one.1 → z ≡ y
  came-out one w k y z carried is out = sym (ap (prefix y) out) ∙ ap (λ p. prefix y p.1) is

-- one content, one body
pub copied-same : {B : Type 0} {o p : Option B} → Copied o ≡ Copied p → o ≡ p
copied-same same = cc

pub stored-same : {B : Type 0} {b c : B} → Stored b ≡ Stored c → b ≡ c
stored-same same = cc
