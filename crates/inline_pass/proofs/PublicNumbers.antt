-- The numbers of the public modules, found one after another.
use Rattle.std.proofs.Common.{◌≡◌, ◌⊎◌, ℕ, ◌+◌, ◌<◌, ◌≤◌, true, false, List, [], ◌∷◌, ◌++◌, length, map, Some, slice_get, option_map, sym, ap, subst, ◌∙◌, inl, inr, arith}
use Rattle.std.proofs.lemmas.Option.{slice_get_within, slice_get-map}
use Rattle.wiring.specs.Wiring.{In}
use Rattle.wiring.proofs.Members.{In-append_left, In-append_right, In-append_cases}
use Rattle.hw_model.specs.Design.{Module, Design}
use Rattle.ir_store.specs.Designs.{StoredModule, numbered_module}
use Rattle.inline_pass.specs.Marks.{IsPublicAt, ArePublicBefore}

pub stored_at : (ms : List StoredModule) (i : ℕ) (m : StoredModule) → Some m ≡ slice_get ms i → slice_get (map numbered_module ms) i ≡ Some (numbered_module m)
stored_at ms i m at = slice_get-map numbered_module ms i ∙ ap (option_map numbered_module) (sym at)

module _ (d : Design) (n : ℕ) (m : Module) (at : slice_get d n ≡ Some m) (old : List ℕ) (before : ArePublicBefore d n old) where
  below : (i : ℕ) → i < n + 1 → (i < n) ⊎ (i ≡ n)
  below i within = grind arith

  pub public_more : (new : List ℕ) → m.is_private ≡ false → new ≡ old ++ n ∷ [] → ArePublicBefore d (n + 1) new
  public_more new mark are i = (to, from)
    where
      to : In i new → (i < n + 1) × IsPublicAt d i
      to here = go (In-append_cases i old (n ∷ []) (subst (In i) are here))
        where
          go : In i old ⊎ In i (n ∷ []) → (i < n + 1) × IsPublicAt d i
          go (inl had) = let both = (before i).0 had in let less : i < n = both.0 in (omega arith, both.1)
          go (inr (inl same)) = (omega arith, (m, ap (slice_get d) same ∙ at, mark))
          go (inr (inr never)) = absurd never

      from : (i < n + 1) × IsPublicAt d i → In i new
      from (within, public) = subst (In i) (sym are) (go (below i within))
        where
          go : (i < n) ⊎ (i ≡ n) → In i (old ++ n ∷ [])
          go (inl less) = In-append_left i old (n ∷ []) ((before i).1 (less, public))
          go (inr same) = In-append_right i old (n ∷ []) (inl same)

  pub public_same : m.is_private ≡ true → ArePublicBefore d (n + 1) old
  public_same mark i = (to, from)
    where
      to : In i old → (i < n + 1) × IsPublicAt d i
      to here = let both = (before i).0 here in let less : i < n = both.0 in (omega arith, both.1)

      from : (i < n + 1) × IsPublicAt d i → In i old
      from (within, (x, is, public)) = go (below i within)
        where
          go : (i < n) ⊎ (i ≡ n) → In i old
          go (inl less) = (before i).1 (less, (x, is, public))
          go (inr same) =
              let both : Some x ≡ Some m = sym is ∙ ap (slice_get d) same ∙ at in
              let one : x ≡ m = cc in
              let clash : false ≡ true = sym public ∙ ap (λ (y : Module). y.is_private) one ∙ mark in cc

-- all modules were looked at
pub public_all : (d : Design) (n : ℕ) (numbers : List ℕ) → length d ≤ n → ArePublicBefore d n numbers → ArePublicBefore d (length d) numbers
public_all d n numbers all before i = (to, from)
  where
    to : In i numbers → (i < length d) × IsPublicAt d i
    to here = let both = (before i).0 here in (slice_get_within d i both.1.0 both.1.1, both.1)

    from : (i < length d) × IsPublicAt d i → In i numbers
    from (within, public) = (before i).1 (omega (arith, within, all), public)
