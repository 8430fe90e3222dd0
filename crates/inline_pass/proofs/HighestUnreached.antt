-- Of the modules that go, one of greatest height: nothing instances it.
use Rattle.std.proofs.Common.{◌≡◌, ℕ, zero, suc, ◌<◌, ◌≤◌, [], ◌∷◌, remove, Option, Some, None, slice_get, refl, sym, ap, subst, ◌∙◌, ◌⊎◌, inl, inr, arith}
use Rattle.wiring.specs.Wiring.{In, IsHeight}
use Rattle.wiring.proofs.Heights.{FallsAlong-height}
use Rattle.wiring.proofs.Members.{In-slice_get, position_of_In}
use Rattle.hw_model.specs.Types.{Name}
use Rattle.hw_model.specs.Design.{Module, Design, find_module}
use Rattle.hw_model.specs.Hierarchy.{callee_symbols, calls}
use Rattle.hw_model.specs.Sound.{body_of}
use Rattle.port_checks.proofs.Least.{found_module}
use Rattle.edit_laws.proofs.ResetsKept.{find_symbol}
use Rattle.inline_pass.specs.DeadModules.{AreReachedOf}
use Rattle.inline_pass.proofs.ReachedLists.{reached_meets, is_known}

module _ (P : Name → Type 0) (h : Name → ℕ) where
  -- module k goes, no other one that goes is higher, and the rest goes from the design without it
  pub record IsHighestAt (d e : Design) (k : ℕ) (m : Module) : Type 0 where
    pub at : slice_get d k ≡ Some m
    pub fails : P m.symbol → ⊥
    pub highest : (j : ℕ) (n : Module) → slice_get d j ≡ Some n → (P n.symbol → ⊥) → h n.symbol ≤ h m.symbol
    pub others : AreReachedOf P (remove d k) e

  abbrev pub HasHighest : Design → Design → Type 0
  HasHighest d e = (k : ℕ) × (m : Module) × IsHighestAt d e k m

  -- the first one is highest
  first_highest : (x : Module) (d e : Design) → (P x.symbol → ⊥) → AreReachedOf P d e
      → ((j : ℕ) (n : Module) → slice_get d j ≡ Some n → (P n.symbol → ⊥) → h n.symbol ≤ h x.symbol) → HasHighest (x ∷ d) e
  first_highest x d e fails more lower = (0, x, record { at = refl; fails = fails; highest = none_higher; others = more })
    where
      none_higher : (j : ℕ) (n : Module) → slice_get (x ∷ d) j ≡ Some n → (P n.symbol → ⊥) → h n.symbol ≤ h x.symbol
      none_higher zero n at goes = let same : x ≡ n = cc in subst (λ (y : Module). h y.symbol ≤ h x.symbol) same (omega arith)
      none_higher (suc j) n at goes = lower j n at goes

  -- a later one is, where the first one stays or is no higher
  later_highest : (x : Module) (d rest e : Design) (k : ℕ) (m : Module) → IsHighestAt d rest k m → ((P x.symbol → ⊥) → h x.symbol ≤ h m.symbol)
      → AreReachedOf P (x ∷ remove d k) e → HasHighest (x ∷ d) e
  later_highest x d rest e k m high lower more = (suc k, m, record { at = high.at; fails = high.fails; highest = none_higher; others = more })
    where
      none_higher : (j : ℕ) (n : Module) → slice_get (x ∷ d) j ≡ Some n → (P n.symbol → ⊥) → h n.symbol ≤ h m.symbol
      none_higher zero n at goes = let same : x ≡ n = cc in subst (λ (y : Module). (P y.symbol → ⊥) → h y.symbol ≤ h m.symbol) same lower goes
      none_higher (suc j) n at goes = high.highest j n at goes

  -- either all stay, or some module that goes is highest
  pub highest_unreached : (d e : Design) → AreReachedOf P d e → (e ≡ d) ⊎ HasHighest d e
  highest_unreached [] e are = inl are
  highest_unreached (x ∷ d) e (inl (rest, is, meets, more)) = go (highest_unreached d rest more)
    where
      go : (rest ≡ d) ⊎ HasHighest d rest → (e ≡ x ∷ d) ⊎ HasHighest (x ∷ d) e
      go (inl same) = inl (is ∙ ap (λ xs. x ∷ xs) same)
      go (inr (k, m, high)) = inr (later_highest x d rest e k m high (λ goes. absurd (goes meets)) (inl (rest, is, meets, high.others)))
  highest_unreached (x ∷ d) e (inr (fails, more)) = inr (go (highest_unreached d e more))
    where
      order : (a b : ℕ) → (a ≤ b) ⊎ (b < a)
      order a b = grind arith

      by_order : (k : ℕ) (m : Module) → IsHighestAt d e k m → (h m.symbol ≤ h x.symbol) ⊎ (h x.symbol < h m.symbol) → HasHighest (x ∷ d) e
      by_order k m high (inl lower) = first_highest x d e fails more (λ j n at goes. let below : h n.symbol ≤ h m.symbol = high.highest j n at goes in omega arith)
      by_order k m high (inr higher) = later_highest x d e e k m high (λ goes. omega arith) (inr (fails, high.others))

      go : (e ≡ d) ⊎ HasHighest d e → HasHighest (x ∷ d) e
      go (inl same) =
          first_highest x d e fails more (λ j n at goes. absurd (goes (reached_meets P n d e more (subst (In n) (sym same) (In-slice_get n d j at)))))
      go (inr (k, m, high)) = by_order k m high (order (h m.symbol) (h x.symbol))

-- what meets P instances only what meets P
abbrev pub IsClosed : (Name → Type 0) → Design → Type 0
IsClosed P d = (s t : Name) → P s → In t (calls d s) → P t

-- nothing instances the highest one: what meets P does not, and what goes is no higher
pub nothing_calls : (P : Name → Type 0) (d e : Design) → AreReachedOf P d e → IsClosed P d → (h : Name → ℕ) → IsHeight (calls d) h → (k : ℕ) (m : Module)
    → IsHighestAt P h d e k m → (s : Name) → In m.symbol (calls d s) → ⊥
nothing_calls P d e are closed h height k m high s need = go (find_module d s) refl
  where
    lower : h m.symbol < h s
    lower = FallsAlong-height (calls d) h height s m.symbol need

    by_module : (n : Module) → find_module d s ≡ Some n → P n.symbol ⊎ (P n.symbol → ⊥) → ⊥
    by_module n is (inl meets) = high.fails (closed s m.symbol (subst P (find_symbol d s n is) meets) need)
    by_module n is (inr fails) =
        let position = position_of_In n d (found_module d s n is) in
        let below : h n.symbol ≤ h m.symbol = high.highest position.0 n position.1 fails in
        let same : h n.symbol ≡ h s = ap h (find_symbol d s n is) in
        omega (arith, lower)

    go : (o : Option Module) → find_module d s ≡ o → ⊥
    go None none = subst (λ o. In m.symbol (callee_symbols (body_of o))) none need
    go (Some n) is = by_module n is (is_known P n d e are (found_module d s n is))
