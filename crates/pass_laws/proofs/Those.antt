-- Members of a list that meet something, and lists that stand within others.
use Rattle.std.proofs.Common.{List, [], ◌∷◌, refl, sym, subst, inl, inr}
use Rattle.wiring.specs.Wiring.{In}
use Rattle.hw_model.specs.Types.{Name}
use Rattle.pass_laws.specs.Remaining.{AreThose, AreWithin}

module _ (P : Name → Type 0) where
  pub all_those : (xs : List Name) → ((x : Name) → P x) → AreThose P xs xs
  all_those [] each = refl
  all_those (x ∷ xs) each = inl (xs, refl, each x, all_those xs each)

  -- those are members
  pub those_were : (x : Name) (xs ys : List Name) → AreThose P xs ys → In x ys → In x xs
  those_were x [] ys are here = absurd (subst (In x) are here)
  those_were x (z ∷ xs) ys (inl (rest, is, meets, more)) here = go (subst (In x) is here) (those_were x xs rest more)
    where
      go : In x (z ∷ rest) → (In x rest → In x xs) → In x (z ∷ xs)
      go (inl same) following = inl same
      go (inr later) following = inr (following later)
  those_were x (z ∷ xs) ys (inr (fails, more)) here = inr (those_were x xs ys more here)

  -- they meet it
  pub those_meet : (x : Name) (xs ys : List Name) → AreThose P xs ys → In x ys → P x
  those_meet x [] ys are here = absurd (subst (In x) are here)
  those_meet x (z ∷ xs) ys (inl (rest, is, meets, more)) here = go (subst (In x) is here) (those_meet x xs rest more)
    where
      go : In x (z ∷ rest) → (In x rest → P x) → P x
      go (inl same) following = subst P (sym same) meets
      go (inr later) following = following later
  those_meet x (z ∷ xs) ys (inr (fails, more)) here = those_meet x xs ys more here

  -- each member that meets it is one of those
  pub those_stay : (x : Name) (xs ys : List Name) → AreThose P xs ys → In x xs → P x → In x ys
  those_stay x [] ys are here holds = absurd here
  those_stay x (z ∷ xs) ys (inl (rest, is, meets, more)) (inl same) holds = subst (In x) (sym is) (inl same)
  those_stay x (z ∷ xs) ys (inl (rest, is, meets, more)) (inr later) holds = subst (In x) (sym is) (inr (those_stay x xs rest more later holds))
  those_stay x (z ∷ xs) ys (inr (fails, more)) (inl same) holds = absurd (fails (subst P same holds))
  those_stay x (z ∷ xs) ys (inr (fails, more)) (inr later) holds = those_stay x xs ys more later holds

module _ (P Q : Name → Type 0) where
  -- what means the same has the same members
  pub those_same : (xs ys : List Name) → ((x : Name) → P x → Q x) → ((x : Name) → Q x → P x) → AreThose P xs ys → AreThose Q xs ys
  those_same [] ys to back are = are
  those_same (x ∷ xs) ys to back (inl (rest, is, meets, more)) = inl (rest, is, to x meets, those_same xs rest to back more)
  those_same (x ∷ xs) ys to back (inr (fails, more)) = inr (λ q. fails (back x q), those_same xs ys to back more)

  -- those of those
  pub those_then : (R : Name → Type 0) (xs ys zs : List Name) → ((x : Name) → In x ys → P x → Q x → R x) → ((x : Name) → R x → P x)
      → ((x : Name) → In x ys → R x → Q x) → AreThose P xs ys → AreThose Q ys zs → AreThose R xs zs
  those_then R [] ys zs to back also first second = subst (λ l. AreThose Q l zs) first second
  those_then R (x ∷ xs) ys zs to back also (inl (rest, is, meets, more)) second =
      go (subst (λ l. AreThose Q l zs) is second)
      (λ others these. those_then R xs rest others (λ y here. to y (subst (In y) (sym is) (inr here))) back (λ y here. also y (subst (In y) (sym is) (inr here))) more these)
    where
      first_here : In x ys
      first_here = subst (In x) (sym is) (inl refl)

      go : AreThose Q (x ∷ rest) zs → ((others : List Name) → AreThose Q rest others → AreThose R xs others) → AreThose R (x ∷ xs) zs
      go (inl (others, are, holds, these)) following = inl (others, are, to x first_here meets holds, following others these)
      go (inr (fails, these)) following = inr (λ r. fails (also x first_here r), following zs these)
  those_then R (x ∷ xs) ys zs to back also (inr (fails, more)) second = inr (λ r. fails (back x r), those_then R xs ys zs to back also more second)

-- ---- lists within others

pub within_self : (xs : List Name) → AreWithin xs xs
within_self [] = refl
within_self (x ∷ xs) = inl (xs, refl, within_self xs)

pub within_then : (xs ys zs : List Name) → AreWithin xs ys → AreWithin ys zs → AreWithin xs zs
within_then xs ys [] first second = subst (AreWithin xs) second first
within_then xs ys (z ∷ zs) first (inl (rest, is, more)) = go (subst (AreWithin xs) is first) (λ prefix inside. within_then prefix rest zs inside more)
  where
    go : AreWithin xs (z ∷ rest) → ((prefix : List Name) → AreWithin prefix rest → AreWithin prefix zs) → AreWithin xs (z ∷ zs)
    go (inl (prefix, are, inside)) following = inl (prefix, are, following prefix inside)
    go (inr inside) following = inr (following xs inside)
within_then xs ys (z ∷ zs) first (inr more) = inr (within_then xs ys zs first more)

-- members that all meet something stand within those that meet it
pub within_those : (P : Name → Type 0) (xs ys zs : List Name) → ((x : Name) → In x xs → P x) → AreWithin xs ys → AreThose P ys zs → AreWithin xs zs
within_those P xs [] zs each within those = subst (AreWithin xs) (sym those) within
within_those P xs (y ∷ ys) zs each (inl (rest, is, more)) (inl (others, are, meets, these)) =
    subst (AreWithin xs) (sym are)
    (inl (rest, is, within_those P rest ys others (λ x here. each x (subst (In x) (sym is) (inr here))) more these))
within_those P xs (y ∷ ys) zs each (inr more) (inl (others, are, meets, these)) =
    subst (AreWithin xs) (sym are) (inr (within_those P xs ys others each more these))
within_those P xs (y ∷ ys) zs each (inl (rest, is, more)) (inr (fails, these)) = absurd (fails (each y (subst (In y) (sym is) (inl refl))))
within_those P xs (y ∷ ys) zs each (inr more) (inr (fails, these)) = within_those P xs ys zs each more these
