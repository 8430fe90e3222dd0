-- The decision of reset ports is that of the least set: a longer chain of instances gives no more, once it is as long as
-- the design has ports.
use Rattle.std.proofs.Common.{◌≡◌, ◌⊎◌, ◌<◌, ◌≤◌, ◌+◌, ℕ, zero, suc, Bool, true, false, cond, List, [], ◌∷◌, length, slice_get, Some, refl, sym, ap, subst, ◌∙◌, inl, inr, arith}
use Rattle.std.specs.List.{list_any}
use Rattle.wiring.specs.Wiring.{In}
use Rattle.wiring.proofs.Options.{and_then_some}
use Rattle.hw_model.specs.Types.{Name}
use Rattle.hw_model.specs.Kinds.{Instance}
use Rattle.hw_model.specs.Design.{Op, Module, Design, same_name, find_module, instance_in, callee}
use Rattle.port_checks.specs.ResetPorts.{IsBitInput, IsResetPort, is_bit_input, makes_reset, is_reset_within, port_count, is_reset_port}
use Rattle.port_checks.specs.ResetPorts.IsResetPort.{named, joined}
use Rattle.port_checks.proofs.Booleans.{and_left, and_right, any_some, any_member}
use Rattle.port_checks.proofs.ResetTests.{Names, Joins, bit_input_some, some_bit_input, bit_input_within, makes_some, some_names_makes, some_joins_makes}
use Rattle.std.proofs.lemmas.Bool.{and_from}

-- ---- modules that are called

pub found_module : (d : Design) (s : Name) (m : Module) → find_module d s ≡ Some m → In m d
found_module [] s m is = cc
found_module (x ∷ d) s m is = go (same_name x.symbol s) is (found_module d s m)
  where
    go : (b : Bool) → cond b (Some x) (find_module d s) ≡ Some m → (find_module d s ≡ Some m → In m d) → In m (x ∷ d)
    go true found rest = let same : x ≡ m = cc in inl (sym same)
    go false found rest = inr (rest found)

pub called_module : (d : Design) (o : Op) (c : Module) → callee d o ≡ Some c → In c d
called_module d o c is =
    let named = and_then_some (instance_in o.kind) (λ (i : Instance). find_module d i.symbol) is in
    found_module d named.0.symbol c named.2

-- ---- a chain of a length

module _ (d : Design) where
  -- what a port of a longer chain is by
  pub reset_some : (n : ℕ) (m : Module) (j : ℕ) → is_reset_within (suc n) d m j ≡ true
      → (o : Op) × IsBitInput m j × In o m.body × (Names j o ⊎ ((c : Module) × (k : ℕ) × Joins d j o c k × (is_reset_within n d c k ≡ true)))
  reset_some n m j h =
      let found = any_some (makes_reset d (is_reset_within n d) j) m.body
      (and_right (is_bit_input (slice_get m.ports j)) (list_any (makes_reset d (is_reset_within n d) j) m.body) h) in (
        found.0,
        bit_input_some m j (and_left (is_bit_input (slice_get m.ports j)) (list_any (makes_reset d (is_reset_within n d) j) m.body) h),
        found.1,
        makes_some d (is_reset_within n d) j found.0 found.2,
      )

  some_reset : (n : ℕ) (m : Module) (j : ℕ) (o : Op) → IsBitInput m j → In o m.body → makes_reset d (is_reset_within n d) j o ≡ true
      → is_reset_within (suc n) d m j ≡ true
  some_reset n m j o is here makes =
      and_from (is_bit_input (slice_get m.ports j)) (list_any (makes_reset d (is_reset_within n d) j) m.body) (some_bit_input m j is)
      (any_member (makes_reset d (is_reset_within n d) j) m.body o here makes)

  pub reset_named : (n : ℕ) (m : Module) (j : ℕ) (o : Op) → IsBitInput m j → In o m.body → Names j o → is_reset_within (suc n) d m j ≡ true
  reset_named n m j o is here names = some_reset n m j o is here (some_names_makes d (is_reset_within n d) j o names)

  pub reset_joined : (n : ℕ) (m : Module) (j : ℕ) (o : Op) (c : Module) (k : ℕ) → IsBitInput m j → In o m.body → Joins d j o c k
      → is_reset_within n d c k ≡ true → is_reset_within (suc n) d m j ≡ true
  reset_joined n m j o c k is here joins has = some_reset n m j o is here (some_joins_makes d (is_reset_within n d) j o c k joins has)

  -- each port of a chain is in the least set
  within_sound : (n : ℕ) (m : Module) (j : ℕ) → is_reset_within n d m j ≡ true → IsResetPort d m j
  within_sound zero m j h = cc
  within_sound (suc n) m j h = let by = reset_some n m j h in go by.0 by.1 by.2 by.3 (within_sound n)
    where
      go : (o : Op) → IsBitInput m j → In o m.body → Names j o ⊎ ((c : Module) × (k : ℕ) × Joins d j o c k × (is_reset_within n d c k ≡ true))
          → ((c : Module) (k : ℕ) → is_reset_within n d c k ≡ true → IsResetPort d c k) → IsResetPort d m j
      go o is here (inl (r, reset, signal)) rest = named m j o r is here reset signal
      go o is here (inr (c, k, (found, allowed, ref), has)) rest = joined m j o c k is here found allowed (rest c k has) ref

  pub is_sound : (m : Module) (j : ℕ) → is_reset_port d m j ≡ true → IsResetPort d m j
  is_sound m j h = within_sound (suc (port_count d)) m j h

  -- a longer chain gives all that a shorter one gives
  pub within_more : (n : ℕ) (m : Module) (j : ℕ) → is_reset_within n d m j ≡ true → is_reset_within (suc n) d m j ≡ true
  within_more zero m j h = cc
  within_more (suc n) m j h = let by = reset_some n m j h in go by.0 by.1 by.2 by.3 (within_more n)
    where
      go : (o : Op) → IsBitInput m j → In o m.body → Names j o ⊎ ((c : Module) × (k : ℕ) × Joins d j o c k × (is_reset_within n d c k ≡ true))
          → ((c : Module) (k : ℕ) → is_reset_within n d c k ≡ true → is_reset_within (suc n) d c k ≡ true) → is_reset_within (suc (suc n)) d m j ≡ true
      go o is here (inl names) rest = reset_named (suc n) m j o is here names
      go o is here (inr (c, k, joins, has)) rest = reset_joined (suc n) m j o c k is here joins (rest c k has)

-- ---- ports are counted

-- how many of the first n numbers have a mark
abbrev below_count : (ℕ → Bool) → ℕ → ℕ
below_count f zero = 0
below_count f (suc n) = cond (f n) (suc (below_count f n)) (below_count f n)

-- how many ports of modules have a mark
abbrev marked_count : (Module → ℕ → Bool) → List Module → ℕ
marked_count f [] = 0
marked_count f (m ∷ ms) = below_count (f m) (length m.ports) + marked_count f ms

below_count_le : (f : ℕ → Bool) (n : ℕ) → below_count f n ≤ n
below_count_le f zero = omega arith
below_count_le f (suc n) = go (f n) (below_count_le f n)
  where
    go : (b : Bool) → below_count f n ≤ n → cond b (suc (below_count f n)) (below_count f n) ≤ suc n
    go true rest = omega arith
    go false rest = omega arith

marked_count_le : (f : Module → ℕ → Bool) (ms : List Module) → marked_count f ms ≤ port_count ms
marked_count_le f [] = omega arith
marked_count_le f (m ∷ ms) =
    let first : below_count (f m) (length m.ports) ≤ length m.ports = below_count_le (f m) (length m.ports) in
    let rest : marked_count f ms ≤ port_count ms = marked_count_le f ms in
    omega arith

-- where marks are added, as many were there, and then the same ones, or there are more now
below_cases : (f g : ℕ → Bool) → ((j : ℕ) → f j ≡ true → g j ≡ true) → (n : ℕ)
    → (((j : ℕ) → j < n → g j ≡ true → f j ≡ true) × (below_count f n ≤ below_count g n)) ⊎ (below_count f n < below_count g n)
below_cases f g more zero = inl ((λ j below is. absurd (omega arith)), omega arith)
below_cases f g more (suc n) = go (f n) refl (g n) refl (below_cases f g more n)
  where
    go : (a : Bool) → f n ≡ a → (b : Bool) → g n ≡ b
        → (((j : ℕ) → j < n → g j ≡ true → f j ≡ true) × (below_count f n ≤ below_count g n)) ⊎ (below_count f n < below_count g n)
        → (((j : ℕ) → j < suc n → g j ≡ true → f j ≡ true) × (cond a (suc (below_count f n)) (below_count f n) ≤ cond b (suc (below_count g n)) (below_count g n)))
        ⊎ (cond a (suc (below_count f n)) (below_count f n) < cond b (suc (below_count g n)) (below_count g n))
    go true has true gets (inl (same, le)) = inl ((λ j below is. at j (grind arith) is), omega arith)
      where
        at : (j : ℕ) → (j ≡ n) ⊎ (j < n) → g j ≡ true → f j ≡ true
        at j (inl equal) is = ap f equal ∙ has
        at j (inr less) is = same j less is
    go true has true gets (inr more) = inr (omega arith)
    go true has false gets rest = let is : g n ≡ true = more n has in cc
    go false has true gets (inl (same, le)) = inr (omega arith)
    go false has true gets (inr more) = inr (omega arith)
    go false has false gets (inl (same, le)) = inl ((λ j below is. at j (grind arith) is), le)
      where
        at : (j : ℕ) → (j ≡ n) ⊎ (j < n) → g j ≡ true → f j ≡ true
        at j (inl equal) is = let e : g j ≡ false = ap g equal ∙ gets in cc
        at j (inr less) is = same j less is
    go false has false gets (inr more) = inr more

-- marks of ports of the modules that are there are the same
abbrev AreSame : (Module → ℕ → Bool) → (Module → ℕ → Bool) → List Module → Type 0
AreSame f g ms = (m : Module) → In m ms → (j : ℕ) → j < length m.ports → g m j ≡ true → f m j ≡ true

marked_cases : (f g : Module → ℕ → Bool) → ((m : Module) (j : ℕ) → f m j ≡ true → g m j ≡ true) → (ms : List Module)
    → (AreSame f g ms × (marked_count f ms ≤ marked_count g ms)) ⊎ (marked_count f ms < marked_count g ms)
marked_cases f g more [] = inl ((λ m here j below is. absurd here), omega arith)
marked_cases f g more (x ∷ ms) = go (below_cases (f x) (g x) (more x) (length x.ports)) (marked_cases f g more ms)
  where
    go : (((j : ℕ) → j < length x.ports → g x j ≡ true → f x j ≡ true) × (below_count (f x) (length x.ports) ≤ below_count (g x) (length x.ports)))
        ⊎ (below_count (f x) (length x.ports) < below_count (g x) (length x.ports))
        → (AreSame f g ms × (marked_count f ms ≤ marked_count g ms)) ⊎ (marked_count f ms < marked_count g ms)
        → (AreSame f g (x ∷ ms) × (marked_count f (x ∷ ms) ≤ marked_count g (x ∷ ms))) ⊎ (marked_count f (x ∷ ms) < marked_count g (x ∷ ms))
    go (inl (same, le)) (inl (rest, less)) = inl ((λ m here j below is. at m here j below is), omega arith)
      where
        at : (m : Module) → In m (x ∷ ms) → (j : ℕ) → j < length m.ports → g m j ≡ true → f m j ≡ true
        at m (inl equal) j below is =
            ap (λ y. f y j) equal ∙ same j (subst (λ y. j < length y.ports) equal below) (ap (λ y. g y j) (sym equal) ∙ is)
        at m (inr here) j below is = rest m here j below is
    go (inl (same, le)) (inr less) = inr (omega arith)
    go (inr first) (inl (rest, le)) = inr (omega arith)
    go (inr first) (inr less) = inr (omega arith)

-- ---- the set is closed

module _ (d : Design) where
  -- one more instance gives no more ports of the design's modules
  abbrev IsClosed : ℕ → Type 0
  IsClosed n = (m : Module) → In m d → (j : ℕ) → is_reset_within (suc n) d m j ≡ true → is_reset_within n d m j ≡ true

  closed_by : (n : ℕ) → AreSame (is_reset_within n d) (is_reset_within (suc n) d) d → IsClosed n
  closed_by n same m here j is = same m here j (bit_input_within m j (reset_some d n m j is).1) is

  closed_more : (n : ℕ) → IsClosed n → IsClosed (suc n)
  closed_more n closed m here j is = let by = reset_some d (suc n) m j is in go by.0 by.1 by.2 by.3
    where
      go : (o : Op) → IsBitInput m j → In o m.body → Names j o ⊎ ((c : Module) × (k : ℕ) × Joins d j o c k × (is_reset_within (suc n) d c k ≡ true))
          → is_reset_within (suc n) d m j ≡ true
      go o bit there (inl names) = reset_named d n m j o bit there names
      go o bit there (inr (c, k, joins, has)) = reset_joined d n m j o c k bit there joins (closed c (called_module d o c joins.0) k has)

  -- the set is closed, or each instance more gave a port more
  closed_cases : (n : ℕ) → IsClosed n ⊎ (n < marked_count (is_reset_within (suc n) d) d)
  closed_cases zero = go (marked_cases (is_reset_within zero d) (is_reset_within 1 d) (within_more d zero) d)
    where
      go : (AreSame (is_reset_within zero d) (is_reset_within 1 d) d × (marked_count (is_reset_within zero d) d ≤ marked_count (is_reset_within 1 d) d))
          ⊎ (marked_count (is_reset_within zero d) d < marked_count (is_reset_within 1 d) d)
          → IsClosed zero ⊎ (zero < marked_count (is_reset_within 1 d) d)
      go (inl both) = inl (closed_by zero both.0)
      go (inr less) = inr (omega arith)
  closed_cases (suc n) = go (closed_cases n) (marked_cases (is_reset_within (suc n) d) (is_reset_within (suc (suc n)) d) (within_more d (suc n)) d)
    where
      go : IsClosed n ⊎ (n < marked_count (is_reset_within (suc n) d) d)
          → (AreSame (is_reset_within (suc n) d) (is_reset_within (suc (suc n)) d) d
          × (marked_count (is_reset_within (suc n) d) d ≤ marked_count (is_reset_within (suc (suc n)) d) d))
          ⊎ (marked_count (is_reset_within (suc n) d) d < marked_count (is_reset_within (suc (suc n)) d) d)
          → IsClosed (suc n) ⊎ (suc n < marked_count (is_reset_within (suc (suc n)) d) d)
      go (inl closed) grown = inl (closed_more n closed)
      go (inr more) (inl both) = inl (closed_by (suc n) both.0)
      go (inr more) (inr less) = inr (omega arith)

  closed : IsClosed (port_count d)
  closed = go (closed_cases (port_count d))
    where
      go : IsClosed (port_count d) ⊎ (port_count d < marked_count (is_reset_within (suc (port_count d)) d) d) → IsClosed (port_count d)
      go (inl is) = is
      go (inr more) =
          let bound : marked_count (is_reset_within (suc (port_count d)) d) d ≤ port_count d = marked_count_le (is_reset_within (suc (port_count d)) d) d in
          absurd (omega arith)

  pub is_complete : (m : Module) (j : ℕ) → IsResetPort d m j → is_reset_port d m j ≡ true
  is_complete m j (named _ _ o r is here reset signal) = reset_named d (port_count d) m j o is here (r, reset, signal)
  is_complete m j (joined _ _ o c k is here found allowed has ref) =
      reset_joined d (port_count d) m j o c k is here (found, allowed, ref) (closed c (called_module d o c found) k (is_complete c k has))
