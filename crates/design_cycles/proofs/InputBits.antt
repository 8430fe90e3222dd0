-- The bits of inputs in bit sets, given to one input after another.
use Rattle.std.proofs.Common.{◌≡◌, ◌⊎◌, w64, ℕ, zero, suc, ◌+◌, ◌-◌, ◌*◌, ◌%◌, ◌^◌, ◌<◌, ◌≤◌, Bool, true, false, eqb, max, bit_or, List, [], ◌∷◌, ◌++◌, length, get_or, set, take, slice_get, Some}
use Rattle.std.proofs.Common.{refl, sym, ap, subst, ◌∙◌, inl, inr, arith, length-set}
use Rattle.std.specs.Int.{bit_at}
use Rattle.std.proofs.lemmas.Nat.Bits.{bit_at_or, bit_at-zero, bit_at_set_same, bit_at_set_other}
use Rattle.std.proofs.lemmas.Bool.{eqb-true, eqb-false}
use Rattle.std.proofs.lemmas.List.{take_more, take_all, length-take-le}
use Rattle.std.proofs.lemmas.Option.{slice_get_within}
use Rattle.wiring.proofs.Lists.{slice_get-append_left, slice_get-append_at, slice_get-append_past}
use Rattle.design_cycles.specs.BitSets.{bit_set_at, IsSet, GivesBits}
use Rattle.design_cycles.proofs.BitSetLemmas.{none_set, set_right, written_cases, written_kept, written_new}

pub gives_none : (bit_sets : List ℕ) → GivesBits [] bit_sets bit_sets
gives_none bit_sets = record {
  count = refl;
  from = λ v x is. inl is;
  kept = λ v x is. is;
  all = λ v x at. cc;
}

module _ (inputs : List ℕ) (v : ℕ) (old mid : List ℕ) (gives : GivesBits inputs old mid) (few : length inputs < 64) where
  abbrev number : ℕ
  number = length inputs

  last_or_before : (w x : ℕ) → slice_get (inputs ++ v ∷ []) x ≡ Some w → (slice_get inputs x ≡ Some w) ⊎ ((x ≡ number) × (w ≡ v))
  last_or_before w x at = go (grind arith)
    where
      go : (x < number) ⊎ (number ≤ x) → (slice_get inputs x ≡ Some w) ⊎ ((x ≡ number) × (w ≡ v))
      go (inl before) = inl (sym (slice_get-append_left inputs (v ∷ []) x before) ∙ at)
      go (inr past) = by_rest (x - number) refl (sym (slice_get-append_past inputs (v ∷ []) x past) ∙ at)
        where
          by_rest : (n : ℕ) → x - number ≡ n → slice_get (v ∷ []) n ≡ Some w → (slice_get inputs x ≡ Some w) ⊎ ((x ≡ number) × (w ≡ v))
          by_rest zero is e = let same : w ≡ v = cc in inr (omega arith, same)
          by_rest (suc n) is e = cc

  here_or_later : (w x : ℕ) → slice_get inputs x ≡ Some w → slice_get (inputs ++ v ∷ []) x ≡ Some w
  here_or_later w x at = slice_get-append_left inputs (v ∷ []) x (slice_get_within inputs x w at) ∙ at

  -- an input that is no node
  pub gives_past : length mid ≤ v → GivesBits (inputs ++ v ∷ []) old mid
  gives_past far = record {
    count = gives.count;
    from = λ w x is. from w x (gives.from w x is);
    kept = gives.kept;
    all = λ w x at below. all w x below (last_or_before w x at);
  }
    where
      from : (w x : ℕ) → IsSet (bit_set_at old w) x ⊎ (slice_get inputs x ≡ Some w) → IsSet (bit_set_at old w) x ⊎ (slice_get (inputs ++ v ∷ []) x ≡ Some w)
      from w x (inl had) = inl had
      from w x (inr at) = inr (here_or_later w x at)

      all : (w x : ℕ) → w < length old → (slice_get inputs x ≡ Some w) ⊎ ((x ≡ number) × (w ≡ v)) → IsSet (bit_set_at mid w) x
      all w x below (inl at) = gives.all w x at below
      all w x below (inr last) = let count : length mid ≡ length old = gives.count in let same : w ≡ v = last.1 in absurd (omega arith)

  -- and one that is
  abbrev bit : ℕ
  bit = 1 * 2 ^ number % 2 ^ 64

  abbrev new : List ℕ
  new = set mid v (bit_or (bit_set_at mid v) bit)

  bit_cases : (x : ℕ) → IsSet bit x → x ≡ number
  bit_cases x is = go (eqb x number) refl
    where
      go : (b : Bool) → eqb x number ≡ b → x ≡ number
      go true e = eqb-true x number e
      go false e =
          let none : bit_at (bit_or 0 bit) x ≡ bit_at 0 x = bit_at_set_other w64 0 number few x (eqb-false x number e) in
          absurd (none_set x (record { is_one = sym none ∙ (set_right 0 bit x is).is_one }))

  pub gives_bit : v < length mid → GivesBits (inputs ++ v ∷ []) old new
  gives_bit below = record {
    count = length-set mid v (bit_or (bit_set_at mid v) bit) ∙ gives.count;
    from = λ w x is. from w x (written_cases mid v below bit w x is);
    kept = λ w x is. written_kept mid v below bit w x (gives.kept w x is);
    all = λ w x at within. all w x within (last_or_before w x at);
  }
    where
      earlier : (w x : ℕ) → IsSet (bit_set_at old w) x ⊎ (slice_get inputs x ≡ Some w) → IsSet (bit_set_at old w) x ⊎ (slice_get (inputs ++ v ∷ []) x ≡ Some w)
      earlier w x (inl had) = inl had
      earlier w x (inr at) = inr (here_or_later w x at)

      from : (w x : ℕ) → IsSet (bit_set_at mid w) x ⊎ ((w ≡ v) × IsSet bit x) → IsSet (bit_set_at old w) x ⊎ (slice_get (inputs ++ v ∷ []) x ≡ Some w)
      from w x (inl had) = earlier w x (gives.from w x had)
      from w x (inr own) =
          let position : x ≡ number = bit_cases x own.1 in
          inr (ap (slice_get (inputs ++ v ∷ [])) position ∙ slice_get-append_at inputs v [] ∙ ap Some (sym own.0))

      own_bit : IsSet bit number
      own_bit = record { is_one = sym (bit_at_clean number) ∙ bit_at_set_same w64 0 number few }
        where
          bit_at_clean : (x : ℕ) → bit_at (bit_or 0 bit) x ≡ bit_at bit x
          bit_at_clean x =
              let both : bit_at (bit_or 0 bit) x ≡ max (bit_at 0 x) (bit_at bit x) = bit_at_or 0 bit x in
              let none : bit_at 0 x ≡ 0 = bit_at-zero x in
              omega arith

      all : (w x : ℕ) → w < length old → (slice_get inputs x ≡ Some w) ⊎ ((x ≡ number) × (w ≡ v)) → IsSet (bit_set_at new w) x
      all w x within (inl at) = written_kept mid v below bit w x (gives.all w x at within)
      all w x within (inr last) =
          subst (λ n. IsSet (bit_set_at new w) n) (sym last.0) (subst (λ z. IsSet (bit_set_at new z) number) (sym last.1) (written_new mid v below bit number own_bit))

-- ---- steps of loops

module _ (inputs : List ℕ) (i : ℕ) (old mid new : List ℕ) (below : i < length inputs) (few : length inputs ≤ 64) (gives : GivesBits (take i inputs) old mid) where
  taken : length (take i inputs) ≡ i
  taken = length-take-le i inputs (omega arith)

  pub gives_more : get_or inputs i 0 < length mid → new ≡ set mid (get_or inputs i 0) (bit_or (bit_set_at mid (get_or inputs i 0)) (1 * 2 ^ i % 2 ^ 64)) → GivesBits (take (i + 1) inputs) old new
  gives_more within now =
      subst (λ xs. GivesBits xs old new) (sym (take_more inputs i 0 below))
      (subst (GivesBits (take i inputs ++ get_or inputs i 0 ∷ []) old)
      (ap (λ n. set mid (get_or inputs i 0) (bit_or (bit_set_at mid (get_or inputs i 0)) (1 * 2 ^ n % 2 ^ 64))) taken ∙ sym now)
      (gives_bit (take i inputs) (get_or inputs i 0) old mid gives (let size : length (take i inputs) ≡ i = taken in omega arith) within))

  pub gives_no_more : length mid ≤ get_or inputs i 0 → new ≡ mid → GivesBits (take (i + 1) inputs) old new
  gives_no_more far now =
      subst (λ xs. GivesBits xs old new) (sym (take_more inputs i 0 below))
      (subst (GivesBits (take i inputs ++ get_or inputs i 0 ∷ []) old) (sym now)
      (gives_past (take i inputs) (get_or inputs i 0) old mid gives (let size : length (take i inputs) ≡ i = taken in omega arith) far))

pub gives_all : (inputs old new : List ℕ) (i : ℕ) → length inputs ≤ i → GivesBits (take i inputs) old new → GivesBits inputs old new
gives_all inputs old new i all gives = subst (λ xs. GivesBits xs old new) (take_all i inputs all) gives
