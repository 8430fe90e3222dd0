-- Modules of two designs: those of the second keep those at their positions in the first.
use Rattle.std.proofs.Common.{◌≡◌, ℕ, zero, suc, Bool, true, false, cond, [], ◌∷◌, Option, Some, None, slice_get, refl, sym, subst, ◌∙◌}
use Rattle.std.specs.Prelude.{is_some, ⊤}
use Rattle.hw_model.specs.Types.{Name}
use Rattle.hw_model.specs.Design.{Module, Design, same_name, find_module}
use Rattle.design_cycles.specs.Asked.{HasDistinctSymbols}
use Rattle.acceptance_laws.specs.Keeps.{KeepsModule, KeepsModules, KeepsFound, KeepsDesign}

-- what a symbol finds in both designs
abbrev BothKept : Option Module → Option Module → Type 0
BothKept None None = ⊤
BothKept (Some m) (Some n) = KeepsModule m n
BothKept None (Some n) = ⊥
BothKept (Some m) None = ⊥

kept_found : (d e : Design) → KeepsModules d e → (s : Name) → BothKept (find_module d s) (find_module e s)
kept_found [] [] keeps s = tt
kept_found [] (n ∷ e) keeps s = absurd keeps
kept_found (m ∷ d) [] keeps s = absurd keeps
kept_found (m ∷ d) (n ∷ e) (first, rest) s =
    subst (λ x. BothKept (find_module (m ∷ d) s) (cond (same_name x s) (Some n) (find_module e s))) (sym first.symbol_is) (go (same_name m.symbol s) (kept_found d e rest s))
  where
    go : (b : Bool) → BothKept (find_module d s) (find_module e s) → BothKept (cond b (Some m) (find_module d s)) (cond b (Some n) (find_module e s))
    go true later = first
    go false later = later

same_there : (a b : Option Module) → BothKept a b → is_some b ≡ is_some a
same_there None None both = refl
same_there None (Some n) both = absurd both
same_there (Some m) None both = absurd both
same_there (Some m) (Some n) both = refl

-- the module that a module at a position keeps
record KeptAt (d : Design) (i : ℕ) (n : Module) : Type 0 where
  was : Module
  there : slice_get d i ≡ Some was
  keeps : KeepsModule was n

kept_at : (d e : Design) (i : ℕ) (n : Module) → KeepsModules d e → slice_get e i ≡ Some n → KeptAt d i n
kept_at [] [] i n keeps is = cc
kept_at [] (y ∷ e) i n keeps is = absurd keeps
kept_at (x ∷ d) [] i n keeps is = absurd keeps
kept_at (x ∷ d) (y ∷ e) zero n (first, rest) is = let same : y ≡ n = cc in record { was = x; there = refl; keeps = subst (KeepsModule x) same first }
kept_at (x ∷ d) (y ∷ e) (suc i) n (first, rest) is = let later = kept_at d e i n rest is in record { was = later.was; there = later.there; keeps = later.keeps }

-- where modules keep those at their positions, the design keeps the design
pub design_kept : (d e : Design) → HasDistinctSymbols d → KeepsModules d e → KeepsDesign d e
design_kept d e distinct keeps = record {
  distinct = λ i j m n at_i at_j same.
      let x = kept_at d e i m keeps at_i in
      let y = kept_at d e j n keeps at_j in
      distinct i j x.was y.was x.there y.there (sym x.keeps.symbol_is ∙ same ∙ y.keeps.symbol_is);
  modules = λ s n is. go s n (find_module d s) refl (subst (BothKept (find_module d s)) is (kept_found d e keeps s));
  called = λ s t some need there. same_there (find_module d t) (find_module e t) (kept_found d e keeps t) ∙ there;
}
  where
    go : (s : Name) (n : Module) (x : Option Module) → find_module d s ≡ x → BothKept x (Some n) → KeepsFound (find_module d s) n
    go s n None was both = absurd both
    go s n (Some m) was both = record { was = m; is_found = was; keeps = both }
