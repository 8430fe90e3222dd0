-- The names of the ports of one module more.
use Rattle.std.proofs.Common.{◌≡◌, ◌⊎◌, inl, inr, ℕ, suc, List, [], ◌∷◌, ◌++◌, length, slice_get, Some, refl, sym, ◌∙◌, ap, subst}
use Rattle.hw_model.specs.Design.{Module, Design}
use Rattle.export_verilog.specs.declared.named_design.PortNames.{PortNames}
use Rattle.export_verilog.specs.NamedDesigns.{ArePortsOf}
use Rattle.fresh_names.proofs.Taken.{get_prefix}

pub length_last : {A : Type 0} (xs : List A) (x : A) → length (xs ++ x ∷ []) ≡ suc (length xs)
length_last [] x = refl
length_last (y ∷ xs) x = ap suc (length_last xs x)

pub ports_more : (d : Design) (ls : List PortNames) (l : PortNames) (m : Module) → slice_get d (length ls) ≡ Some m → ArePortsOf m l
    → ((n : ℕ) (o : Module) (x : PortNames) → slice_get d n ≡ Some o → slice_get ls n ≡ Some x → ArePortsOf o x)
    → (n : ℕ) (o : Module) (x : PortNames) → slice_get d n ≡ Some o → slice_get (ls ++ l ∷ []) n ≡ Some x → ArePortsOf o x
ports_more d ls l m at named before n o x e f = go (get_prefix ls l x n f)
  where
    go : ((slice_get ls n ≡ Some x) ⊎ (n ≡ length ls) × (l ≡ x)) → ArePortsOf o x
    go (inl h) = before n o x e h
    go (inr h) =
        let same : Some m ≡ Some o = sym at ∙ ap (slice_get d) (sym h.0) ∙ e in
        let module_is : m ≡ o = cc in
        subst (ArePortsOf o) h.1 (subst (λ y. ArePortsOf y l) module_is named)
