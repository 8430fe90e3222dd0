-- What signals carry, whatever is built after them: one lemma for each building then tells its gates and its result.
use Rattle.std.proofs.Common.{◌≡◌, sym, subst, ℕ, ◌+◌, ◌≤◌, Bool, not, ◌&&◌, List, [], ◌++◌, length, arith, length-append}
use Rattle.gates.specs.declared.signal.Gate.{Gate}
use Rattle.gates.specs.declared.signal.Signal.{Signal}
use Rattle.gates.specs.declared.signal.Signal.TheVariants.{Fixed}
use Rattle.gates.specs.Signals.{inverse}
use Rattle.gates.specs.Build.{Build, Built, done, and_then, and}

-- with n variables so far a signal carries a bit, while the gates are kept; the gates from n variables on are good
pub record Carrying (inputs : ℕ) : Type 1 where
  pub at : ℕ → Signal → Bool → Type 0
  pub kept : ℕ → List Gate → Type 0
  pub good : ℕ → List Gate → Type 0
  pub fixed : (n : ℕ) (b : Bool) → at n (Fixed b) b
  pub inverted : (n : ℕ) (s : Signal) (b : Bool) → at n s b → at n (inverse s) (not b)
  pub later : (n k : ℕ) (s : Signal) (b : Bool) → n ≤ k → at n s b → at k s b
  pub kept_first : (n : ℕ) (xs ys : List Gate) → kept n (xs ++ ys) → kept n xs
  pub kept_second : (n : ℕ) (xs ys : List Gate) → kept n (xs ++ ys) → kept (n + length xs) ys
  pub kept_joined : (n : ℕ) (xs ys : List Gate) → kept n xs → kept (n + length xs) ys → kept n (xs ++ ys)
  pub good_none : (n : ℕ) → good n []
  pub good_joined : (n : ℕ) (xs ys : List Gate) → good n xs → good (n + length xs) ys → good n (xs ++ ys)
  pub and_good : (a b : Signal) (p q : Bool) (gates : List Gate) → at (inputs + length gates) a p → at (inputs + length gates) b q
      → good (inputs + length gates) (and a b inputs gates).gates
  pub and_at : (a b : Signal) (p q : Bool) (gates : List Gate) → kept inputs gates → good inputs gates
      → at (inputs + length gates) a p → at (inputs + length gates) b q
      → kept (inputs + length gates) (and a b inputs gates).gates
      → at (inputs + length gates + length (and a b inputs gates).gates) (and a b inputs gates).got (p && q)

module _ {inputs : ℕ} (c : Carrying inputs) where
  -- what is built after some gates: good gates, at most g of them, and a result of which R holds
  pub record Made {A : Type 0} (built : Built A) (n g : ℕ) (R : ℕ → A → Type 0) : Type 0 where
    pub good : c.good n built.gates
    pub few : length built.gates ≤ g
    pub is : R (n + length built.gates) built.got

  -- with n variables so far the building makes at most g gates and a result of which R holds
  pub record Makes {A : Type 0} (p : Build A) (n g : ℕ) (R : ℕ → A → Type 0) : Type 0 where
    pub runs : (gates : List Gate) → inputs + length gates ≡ n → c.kept inputs gates → c.good inputs gates
        → c.kept n (p inputs gates).gates → Made (p inputs gates) n g R

  pub makes-done : {A : Type 0} (a : A) (n : ℕ) (R : ℕ → A → Type 0) → R n a → Makes (done a) n 0 R
  unfolding done
  makes-done a n R holds = record {
    runs = λ gates size kept good new. record {
      good = c.good_none n;
      few = omega arith;
      is = subst (λ k. R k a) e holds;
    };
  }
    where
      e : n ≡ n + 0
      e = omega arith

  pub makes_more : {A : Type 0} (p : Build A) (n g h : ℕ) (R : ℕ → A → Type 0) → g ≤ h → Makes p n g R → Makes p n h R
  makes_more p n g h R more m = record {
    runs = λ gates size kept good new.
        let made = m.runs gates size kept good new in
        record { good = made.good; few = omega (arith, made.few); is = made.is };
  }

  pub makes_weaker : {A : Type 0} (p : Build A) (n g : ℕ) (R S : ℕ → A → Type 0) → ((k : ℕ) (a : A) → R k a → S k a) → Makes p n g R → Makes p n g S
  makes_weaker p n g R S weaker m = record {
    runs = λ gates size kept good new.
        let made = m.runs gates size kept good new in
        record { good = made.good; few = made.few; is = weaker _ _ made.is };
  }

  pub makes_then : {A B : Type 0} (p : Build A) (f : A → Build B) (n g h : ℕ) (R : ℕ → A → Type 0) (S : ℕ → B → Type 0)
      → Makes p n g R → ((a : A) (k : ℕ) → n ≤ k → R k a → Makes (f a) k h S) → Makes (and_then p f) n (g + h) S
  unfolding and_then
  makes_then p f n g h R S first rest = record { runs = go }
    where
      go : (gates : List Gate) → inputs + length gates ≡ n → c.kept inputs gates → c.good inputs gates
          → c.kept n (and_then p f inputs gates).gates → Made (and_then p f inputs gates) n (g + h) S
      go gates size kept good new =
          let one = p inputs gates in
          let two = f one.got inputs (gates ++ one.gates) in
          let made = first.runs gates size kept good (c.kept_first n one.gates two.gates new) in
          let k = n + length one.gates in
          let old_kept : c.kept inputs (gates ++ one.gates) =
          c.kept_joined inputs gates one.gates kept (subst (λ m. c.kept m one.gates) (sym size) (c.kept_first n one.gates two.gates new)) in
          let old_good : c.good inputs (gates ++ one.gates) =
          c.good_joined inputs gates one.gates good (subst (λ m. c.good m one.gates) (sym size) made.good) in
          let more : n ≤ k = omega arith in
          let size_then : inputs + length (gates ++ one.gates) ≡ k = omega (arith, length-append gates one.gates) in
          let after = (rest one.got k more made.is).runs (gates ++ one.gates) size_then old_kept old_good (c.kept_second n one.gates two.gates new) in
          let end : k + length two.gates ≡ n + length (one.gates ++ two.gates) = omega (arith, length-append one.gates two.gates) in
          record {
            good = c.good_joined n one.gates two.gates made.good after.good;
            few = omega (arith, length-append one.gates two.gates, made.few, after.few);
            is = subst (λ m. S m two.got) end after.is;
          }
