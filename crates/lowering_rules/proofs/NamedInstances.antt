-- Instances with the names of the leaves of their modules' ports.
use Rattle.std.proofs.Common.{◌≡◌, ℕ, zero, suc, false, true, List, [], ◌∷◌, length, map, slice_get, Option, Some, None, Bor, refl, sym, ap, ◌∙◌}
use Rattle.std.specs.Prelude.{option_map}
use Rattle.std.specs.Slice.{IsItemAt}
use Rattle.std.proofs.lemmas.Option.{slice_get_past, slice_get_read}
use Rattle.hw_model.specs.Kinds.{Instance}
use Rattle.hw_model.specs.Kinds.Kind.{instance}
use Rattle.hw_model.specs.Design.{Port, Module}
use Rattle.port_checks.specs.InstanceChecks.{port_names}
use Rattle.lowering_rules.specs.Callees.{module_leaves}
use Rattle.lowering_rules.specs.LoweringRules.{named_by}

pub named_some : (i : Instance) (m : Option Module) (ps : List Port) → Some ps ≡ option_map module_leaves m
    → named_by i m ≡ instance (record i { inputs = port_names false ps; outputs = port_names true ps })
named_some i None ps is = cc
named_some i (Some c) ps is =
    let same : ps ≡ module_leaves c = cc in
    ap (λ qs. instance (record i { inputs = port_names false qs; outputs = port_names true qs })) (sym same)

pub named_none : (i : Instance) (m : Option Module) → None ≡ option_map module_leaves m → named_by i m ≡ instance i
named_none i None is = refl
named_none i (Some c) is = cc

-- what stands in a position of lists of which one is made of the other
pub position_same : {A B C : Type 0} (f : A → C) (g : B → C) (xs : List A) (ys : List B) → map f xs ≡ map g ys → (n : ℕ) → option_map f (slice_get xs n) ≡ option_map g (slice_get ys n)
position_same f g [] [] e n = refl
position_same f g [] (y ∷ ys) e n = cc
position_same f g (x ∷ xs) [] e n = cc
position_same f g (x ∷ xs) (y ∷ ys) e zero = let same : f x ≡ g y = cc in ap Some same
position_same f g (x ∷ xs) (y ∷ ys) e (suc n) = let rest : map f xs ≡ map g ys = cc in position_same f g xs ys rest n

-- what is lent of one of these lists is what stands in that place
lent : {A C : Type 0} (f : A → C) (xs : List A) (n : ℕ) (r : Option (Bor A)) → IsItemAt xs n r → option_map (λ (x : Bor A). f x.now) r ≡ option_map f (slice_get xs n)
lent f xs n None h = ap (option_map f) (sym (slice_get_past xs n h.3))
lent f xs n (Some x) h = ap (option_map f) (sym (slice_get_read xs (length xs) n x.now refl h.3.0 h.1))

pub lent_same : {A B C : Type 0} (f : A → C) (g : B → C) (xs : List A) (ys : List B) (n : ℕ) (r : Option (Bor A)) (y : Option B) → IsItemAt xs n r → map f xs ≡ map g ys → slice_get ys n ≡ y
    → option_map (λ (x : Bor A). f x.now) r ≡ option_map g y
lent_same f g xs ys n r y h same is = lent f xs n r h ∙ position_same f g xs ys same n ∙ ap (option_map g) is
