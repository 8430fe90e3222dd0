-- Buildings of single bits.
use Rattle.std.proofs.Common.{◌≡◌, refl, sym, subst, ℕ, ◌+◌, Bool, true, false, not, cond, ◌&&◌, ◌||◌, length}
use Rattle.bits_core.specs.Word.{xor}
use Rattle.gates.specs.declared.signal.Signal.{Signal}
use Rattle.gates.specs.declared.signal.Sum.{Sum}
use Rattle.gates.specs.Signals.{inverse}
use Rattle.gates.specs.Build.{and, or, exclusive, choice, full, majority}
use Rattle.gates.proofs.AndGates.{few-and}
use Rattle.gates.proofs.Carrying.{Carrying, Makes, makes-done, makes_then}

or_bits : (p q : Bool) → not (not p && not q) ≡ (p || q)
or_bits true q = refl
or_bits false true = refl
or_bits false false = refl

exclusive_bits : (p q : Bool) → (not (p && q) && not (not p && not q)) ≡ xor p q
exclusive_bits true true = refl
exclusive_bits true false = refl
exclusive_bits false true = refl
exclusive_bits false false = refl

choice_bits : (r p q : Bool) → ((r && p) || (not r && q)) ≡ cond r p q
choice_bits true true q = refl
choice_bits true false q = refl
choice_bits false p q = refl

-- the carry of three bits
abbrev pub carry_bit : Bool → Bool → Bool → Bool
carry_bit p q r = (p && q) || ((p || q) && r)

full_bits : (p q r : Bool) → ((p && q) || (xor p q && r)) ≡ carry_bit p q r
full_bits true true r = refl
full_bits true false r = refl
full_bits false true r = refl
full_bits false false r = refl

module _ {inputs : ℕ} (c : Carrying inputs) where
  -- the signal carries the bit
  abbrev pub Carries : Bool → ℕ → Signal → Type 0
  Carries b k s = c.at k s b

  pub makes-and : (n : ℕ) (a b : Signal) (p q : Bool) → c.at n a p → c.at n b q → Makes c (and a b) n 1 (Carries (p && q))
  makes-and n a b p q ha hb = record {
    runs = λ gates size kept good new.
        let ga : c.at (inputs + length gates) a p = subst (λ k. c.at k a p) (sym size) ha in
        let gb : c.at (inputs + length gates) b q = subst (λ k. c.at k b q) (sym size) hb in
        record {
          good = subst (λ k. c.good k (and a b inputs gates).gates) size (c.and_good a b p q gates ga gb);
          few = few-and a b inputs gates;
          is = subst (λ k. c.at (k + length (and a b inputs gates).gates) (and a b inputs gates).got (p && q)) size
              (c.and_at a b p q gates kept good ga gb (subst (λ k. c.kept k (and a b inputs gates).gates) (sym size) new));
        };
  }

  pub makes-or : (n : ℕ) (a b : Signal) (p q : Bool) → c.at n a p → c.at n b q → Makes c (or a b) n 1 (Carries (p || q))
  unfolding or
  makes-or n a b p q ha hb =
      makes_then c _ _ n 1 0 (Carries (not p && not q)) (Carries (p || q))
      (makes-and n (inverse a) (inverse b) (not p) (not q) (c.inverted n a p ha) (c.inverted n b q hb))
      (λ s k more is. makes-done c (inverse s) k (Carries (p || q)) (subst (λ x. c.at k (inverse s) x) (or_bits p q) (c.inverted k s _ is)))

  pub makes-exclusive : (n : ℕ) (a b : Signal) (p q : Bool) → c.at n a p → c.at n b q → Makes c (exclusive a b) n 3 (Carries (xor p q))
  unfolding exclusive
  makes-exclusive n a b p q ha hb =
      makes_then c _ _ n 1 2 (Carries (p && q)) (Carries (xor p q)) (makes-and n a b p q ha hb)
      (λ s k more is.
      makes_then c _ _ k 1 1 (Carries (not p && not q)) (Carries (xor p q))
      (makes-and k (inverse a) (inverse b) (not p) (not q)
      (c.inverted k a p (c.later n k a p more ha)) (c.inverted k b q (c.later n k b q more hb)))
      (λ t l further it.
      subst (λ x. Makes c (and (inverse s) (inverse t)) l 1 (Carries x)) (exclusive_bits p q)
      (makes-and l (inverse s) (inverse t) _ _ (c.inverted l s _ (c.later k l s _ further is)) (c.inverted l t _ it))))

  pub makes-choice : (n : ℕ) (s a b : Signal) (r p q : Bool) → c.at n s r → c.at n a p → c.at n b q → Makes c (choice s a b) n 3 (Carries (cond r p q))
  unfolding choice
  makes-choice n s a b r p q hs ha hb =
      makes_then c _ _ n 1 2 (Carries (r && p)) (Carries (cond r p q)) (makes-and n s a r p hs ha)
      (λ x k more is.
      makes_then c _ _ k 1 1 (Carries (not r && q)) (Carries (cond r p q))
      (makes-and k (inverse s) b (not r) q (c.inverted k s r (c.later n k s r more hs)) (c.later n k b q more hb))
      (λ y l further it.
      subst (λ z. Makes c (or x y) l 1 (Carries z)) (choice_bits r p q)
      (makes-or l x y _ _ (c.later k l x _ further is) it)))

  -- the signals carry the sum of three bits and its carry
  pub record CarriesSum (p q r : Bool) (k : ℕ) (s : Sum) : Type 0 where
    pub sum : c.at k s.sum (xor (xor p q) r)
    pub carry : c.at k s.carry (carry_bit p q r)

  pub makes-full : (n : ℕ) (a b d : Signal) (p q r : Bool) → c.at n a p → c.at n b q → c.at n d r → Makes c (full a b d) n 9 (CarriesSum p q r)
  unfolding full
  makes-full n a b d p q r ha hb hd =
      makes_then c _ _ n 3 6 (Carries (xor p q)) (CarriesSum p q r) (makes-exclusive n a b p q ha hb)
      (λ u k more is.
      makes_then c _ _ k 3 3 (Carries (xor (xor p q) r)) (CarriesSum p q r)
      (makes-exclusive k u d _ r is (c.later n k d r more hd))
      (λ s l further sum.
      makes_then c _ _ l 1 2 (Carries (p && q)) (CarriesSum p q r)
      (makes-and l a b p q (c.later k l a p further (c.later n k a p more ha)) (c.later k l b q further (c.later n k b q more hb)))
      (λ t m again both.
      makes_then c _ _ m 1 1 (Carries (xor p q && r)) (CarriesSum p q r)
      (makes-and m u d _ r (c.later l m u _ again (c.later k l u _ further is)) (c.later l m d r again (c.later k l d r further (c.later n k d r more hd))))
      (λ o i last one.
      makes_then c _ _ i 1 0 (Carries (carry_bit p q r)) (CarriesSum p q r)
      (subst (λ z. Makes c (or t o) i 1 (Carries z)) (full_bits p q r) (makes-or i t o _ _ (c.later m i t _ last both) one))
      (λ carry j end it.
      makes-done c _ j (CarriesSum p q r) (record {
        sum = c.later i j s _ end (c.later m i s _ last (c.later l m s _ again sum));
        carry = it;
      }))))))

  pub makes-majority : (n : ℕ) (a b d : Signal) (p q r : Bool) → c.at n a p → c.at n b q → c.at n d r → Makes c (majority a b d) n 4 (Carries (carry_bit p q r))
  unfolding majority
  makes-majority n a b d p q r ha hb hd =
      makes_then c _ _ n 1 3 (Carries (p && q)) (Carries (carry_bit p q r)) (makes-and n a b p q ha hb)
      (λ t k more both.
      makes_then c _ _ k 1 2 (Carries (p || q)) (Carries (carry_bit p q r))
      (makes-or k a b p q (c.later n k a p more ha) (c.later n k b q more hb))
      (λ s l further some.
      makes_then c _ _ l 1 1 (Carries ((p || q) && r)) (Carries (carry_bit p q r))
      (makes-and l s d _ r some (c.later k l d r further (c.later n k d r more hd)))
      (λ o m again one.
      makes-or m t o _ _ (c.later l m t _ again (c.later k l t _ further both)) one)))
