-- Where the results of wires go in the end, where what each carries stands lower.
use Rattle.std.proofs.Common.{◌≡◌, ℕ, zero, suc, ◌+◌, ◌-◌, ◌<◌, ◌≤◌, Bool, true, false, cond, nat_lt, List, [], ◌∷◌, length, refl, sym, ap, subst, ◌∙◌, arith}
use Rattle.std.proofs.lemmas.Bool.{ltb-true, ltb-false}
use Rattle.hw_model.specs.Design.{Ref}
use Rattle.hw_model.specs.Design.Ref.{port, result, undefined}
use Rattle.aggregate_laws.specs.Leaves.{part}
use Rattle.aggregate_lower.specs.Targets.{is_flagged, target_ref, IsNamed, Places}

pub flag_within : (flags : List Bool) (j : ℕ) → is_flagged flags j ≡ true → j < length flags
flag_within [] j is = cc
flag_within (b ∷ flags) zero is = omega arith
flag_within (b ∷ flags) (suc j) is = let less = flag_within flags j is in omega (arith, less)

pub flag_past : (flags : List Bool) (j : ℕ) → length flags ≤ j → is_flagged flags j ≡ false
flag_past [] j past = refl
flag_past (b ∷ flags) zero past = absurd (omega (arith, past))
flag_past (b ∷ flags) (suc j) past = flag_past flags j (omega (arith, past))

not_below : (j n : ℕ) → n ≤ j → nat_lt j n ≡ false
not_below j n past = go (nat_lt j n) refl
  where
    go : (b : Bool) → nat_lt j n ≡ b → b ≡ false
    go false is = refl
    go true is = let less = ltb-true j n is in absurd (omega (arith, less, past))

is_below : (j n : ℕ) → j < n → nat_lt j n ≡ true
is_below j n less = go (nat_lt j n) refl
  where
    go : (b : Bool) → nat_lt j n ≡ b → b ≡ true
    go true is = refl
    go false is = let past = ltb-false j n is in absurd (omega (arith, less, past))

-- a result of a number of a wire, its first one going somewhere
abbrev of_wire : ℕ → Ref → Ref
of_wire zero r = r
of_wire (suc k) r = undefined

module _ (flags : List Bool) (ts : List Ref) (count : ℕ) where
  -- a result of what is no wire; what stands past all others moves with them
  abbrev of_kept : ℕ → ℕ → Bool → Ref
  of_kept j k true = target_ref k false (part ts j)
  of_kept j k false = result (count + (j - length flags)) k

  -- a value followed through so many wires at most
  abbrev followed : ℕ → Ref → Ref
  followed zero r = r
  followed (suc f) (port j) = port j
  followed (suc f) undefined = undefined
  followed (suc f) (result j k) = cond (is_flagged flags j) (of_wire k (followed f (part ts j))) (of_kept j k (nat_lt j (length flags)))

  module _ (h : Ref → ℕ) (lower : (j : ℕ) → is_flagged flags j ≡ true → h (part ts j) < h (result j 0)) where
    -- more wires than there are lower ones change nothing
    followed_same : (f g : ℕ) (r : Ref) → h r < f → h r < g → followed f r ≡ followed g r
    followed_same zero g r less also = absurd (omega (arith, less))
    followed_same (suc f) zero r less also = absurd (omega (arith, also))
    followed_same (suc f) (suc g) (port j) less also = refl
    followed_same (suc f) (suc g) undefined less also = refl
    followed_same (suc f) (suc g) (result j (suc k)) less also = refl
    followed_same (suc f) (suc g) (result j zero) less also = go (is_flagged flags j) refl (followed_same f g (part ts j))
      where
        go : (b : Bool) → is_flagged flags j ≡ b → (h (part ts j) < f → h (part ts j) < g → followed f (part ts j) ≡ followed g (part ts j))
            → cond b (followed f (part ts j)) (of_kept j 0 (nat_lt j (length flags))) ≡ cond b (followed g (part ts j)) (of_kept j 0 (nat_lt j (length flags)))
        go false is same = refl
        go true is same = let down = lower j is in same (omega (arith, less, down)) (omega (arith, also, down))

    abbrev pub placed : Ref → Ref
    placed r = followed (suc (h r)) r

    pub placed_wire : (j : ℕ) → is_flagged flags j ≡ true → placed (result j 0) ≡ placed (part ts j)
    placed_wire j is =
        let down = lower j is in
        ap (λ b. cond b (followed (h (result j 0)) (part ts j)) (of_kept j 0 (nat_lt j (length flags)))) is
        ∙ followed_same (h (result j 0)) (suc (h (part ts j))) (part ts j) down (omega arith)

    pub placed_further : (j k : ℕ) → is_flagged flags j ≡ true → placed (result j (suc k)) ≡ undefined
    placed_further j k is = ap (λ b. cond b undefined (of_kept j (suc k) (nat_lt j (length flags)))) is

    pub placed_kept : (j k : ℕ) → j < length flags → is_flagged flags j ≡ false → placed (result j k) ≡ target_ref k false (part ts j)
    placed_kept j k within is =
        ap (λ b. cond b (of_wire k (followed (h (result j k)) (part ts j))) (of_kept j k (nat_lt j (length flags)))) is ∙ ap (of_kept j k) (is_below j (length flags) within)

    pub placed_past : (j k : ℕ) → length flags ≤ j → placed (result j k) ≡ result (count + (j - length flags)) k
    placed_past j k past =
        ap (λ b. cond b (of_wire k (followed (h (result j k)) (part ts j))) (of_kept j k (nat_lt j (length flags)))) (flag_past flags j past)
        ∙ ap (of_kept j k) (not_below j (length flags) past)

    abbrev pub places : ((j : ℕ) → is_flagged flags j ≡ true → IsNamed (length flags) (part ts j)) → Places flags ts
    places named = record {
      place = placed;
      height = h;
      port_is = λ j. refl;
      undefined_is = refl;
      kept_is = placed_kept;
      wire_is = placed_wire;
      no_further = placed_further;
      lower = lower;
      named = named;
    }

    -- a value that is there goes to one that is there
    module _ (named : (j : ℕ) → is_flagged flags j ≡ true → IsNamed (length flags) (part ts j))
        (own : (j : ℕ) → j < length flags → is_flagged flags j ≡ false → (m : ℕ) × (m < count) × (part ts j ≡ result m 0)) where
      at_own : (k m : ℕ) → m < count → IsNamed count (target_ref k false (result m 0))
      at_own zero m below i n same = let equal : m ≡ i = cc in subst (λ x. x < count) equal below
      at_own (suc k) m below i n same = let equal : m ≡ i = cc in subst (λ x. x < count) equal below

      kept_named : (j k : ℕ) → j < length flags → is_flagged flags j ≡ false → IsNamed count (of_kept j k (nat_lt j (length flags)))
      kept_named j k within is =
          let found = own j within is in
          subst (λ b. IsNamed count (of_kept j k b)) (sym (is_below j (length flags) within))
          (subst (λ r. IsNamed count (target_ref k false r)) (sym found.2) (at_own k found.0 found.1))

      followed_named : (f : ℕ) (r : Ref) → h r < f → IsNamed (length flags) r → IsNamed count (followed f r)
      followed_named zero r less there = absurd (omega (arith, less))
      followed_named (suc f) (port j) less there = λ i k is. cc
      followed_named (suc f) undefined less there = λ i k is. cc
      followed_named (suc f) (result j (suc k)) less there = go (is_flagged flags j) refl
        where
          go : (b : Bool) → is_flagged flags j ≡ b → IsNamed count (cond b undefined (of_kept j (suc k) (nat_lt j (length flags))))
          go false is = kept_named j (suc k) (there j (suc k) refl) is
          go true is = λ i n same. cc
      followed_named (suc f) (result j zero) less there = go (is_flagged flags j) refl (followed_named f (part ts j))
        where
          go : (b : Bool) → is_flagged flags j ≡ b → (h (part ts j) < f → IsNamed (length flags) (part ts j) → IsNamed count (followed f (part ts j)))
              → IsNamed count (cond b (followed f (part ts j)) (of_kept j 0 (nat_lt j (length flags))))
          go false is deeper = kept_named j 0 (there j 0 refl) is
          go true is deeper = let down = lower j is in deeper (omega (arith, less, down)) (named j is)

      pub placed_named : (r : Ref) → IsNamed (length flags) r → IsNamed count (placed r)
      placed_named r there = followed_named (suc (h r)) r (omega arith) there
