-- The operands of an operation that fits have the widths that its gate list takes.
use Rattle.std.proofs.Common.{◌≡◌, refl, ap, ap₂, subst, ℕ, List, [], ◌∷◌, map, length, Option, Some, inl, inr}
use Rattle.bits_core.specs.Word.{Word}
use Rattle.hw_model.specs.Types.{HwType, width}
use Rattle.hw_model.specs.Types.HwType.{int}
use Rattle.hw_model.specs.Kinds.{Kind}
use Rattle.hw_model.specs.Kinds.Kind.{variadic, sub, division, shift, icmp, concat, replicate, mux, constant, aggregate_constant, on_array, on_struct, wire, instance, output, register, async_firreg}
use Rattle.hw_model.specs.Sound.{HasWidth, HaveWidths, AllAre, Fits}
use Rattle.operation_gates.specs.Operands.{IsPlain, AreAll, TakesWidths}

all_take : (t : HwType) (types : List (Option HwType)) (us : List Word) → AllAre t types → HaveWidths types us → AreAll (width t) (map length us)
all_take t [] [] all have = tt
all_take t [] (u ∷ us) all have = absurd have
all_take t (x ∷ types) [] all have = absurd have
all_take t (x ∷ types) (u ∷ us) all have =
    let first : HasWidth (Some t) u = subst (λ y. HasWidth y u) (all x (inl refl)) have.0 in
    (first, all_take t types us (λ y there. all y (inr there)) have.1)

none_take : (types : List (Option HwType)) (us : List Word) → types ≡ [] → HaveWidths types us → map length us ≡ []
none_take types us is have = go us (subst (λ ys. HaveWidths ys us) is have)
  where
    go : (us : List Word) → HaveWidths [] us → map length us ≡ []
    go [] have = refl
    go (u ∷ us) have = absurd have

one_take : (a : HwType) (types : List (Option HwType)) (us : List Word) → types ≡ Some a ∷ [] → HaveWidths types us → map length us ≡ width a ∷ []
one_take a types us is have = go us (subst (λ ys. HaveWidths ys us) is have)
  where
    go : (us : List Word) → HaveWidths (Some a ∷ []) us → map length us ≡ width a ∷ []
    go [] have = absurd have
    go (u ∷ []) have = ap (λ (k : ℕ). k ∷ []) have.0
    go (u ∷ v ∷ us) have = absurd have.1

two_take : (a b : HwType) (types : List (Option HwType)) (us : List Word) → types ≡ Some a ∷ Some b ∷ [] → HaveWidths types us
    → map length us ≡ width a ∷ width b ∷ []
two_take a b types us is have = go us (subst (λ ys. HaveWidths ys us) is have)
  where
    go : (us : List Word) → HaveWidths (Some a ∷ Some b ∷ []) us → map length us ≡ width a ∷ width b ∷ []
    go [] have = absurd have
    go (u ∷ []) have = absurd have.1
    go (u ∷ v ∷ []) have = ap₂ (λ (j k : ℕ). j ∷ k ∷ []) have.0 have.1.0
    go (u ∷ v ∷ w ∷ us) have = absurd have.1.1

three_take : (a b d : HwType) (types : List (Option HwType)) (us : List Word) → types ≡ Some a ∷ Some b ∷ Some d ∷ [] → HaveWidths types us
    → map length us ≡ width a ∷ width b ∷ width d ∷ []
three_take a b d types us is have = go us (subst (λ ys. HaveWidths ys us) is have)
  where
    go : (us : List Word) → HaveWidths (Some a ∷ Some b ∷ Some d ∷ []) us → map length us ≡ width a ∷ width b ∷ width d ∷ []
    go [] have = absurd have
    go (u ∷ []) have = absurd have.1
    go (u ∷ v ∷ []) have = absurd have.1.1
    go (u ∷ v ∷ w ∷ []) have = ap₂ (λ (k : ℕ) (ks : List ℕ). k ∷ ks) have.0 (ap₂ (λ (j k : ℕ). j ∷ k ∷ []) have.1.0 have.1.1.0)
    go (u ∷ v ∷ w ∷ x ∷ us) have = absurd have.1.1.1

pub takes_widths : (kind : Kind) (ts : List HwType) (types : List (Option HwType)) (t : HwType) (k : ℕ) (us : List Word)
    → IsPlain kind → Fits kind ts types t k → HaveWidths types us → TakesWidths kind (width t) (map length us)
takes_widths (variadic v) ts types t k us plain fits have = all_take t types us fits have
takes_widths sub ts types t k us plain fits have = two_take t t types us fits have
takes_widths (division d) ts types t k us plain fits have = two_take t t types us fits have
takes_widths (shift s) ts types t k us plain fits have = two_take t t types us fits have
takes_widths (icmp p) ts types t k us plain (a, is, one) have = (width a, two_take a a types us is have)
takes_widths concat ts types t k us plain fits have = tt
takes_widths replicate ts types t k us plain (a, n, is, some, whole) have = (width a, one_take a types us is have, some)
takes_widths mux ts types t k us plain fits have = three_take (int 1) t t types us fits have
takes_widths (constant z) ts types t k us plain fits have = none_take types us fits have
takes_widths wire ts types t k us plain fits have = (width t, one_take t types us fits have)
takes_widths (aggregate_constant ls) ts types t k us plain fits have = absurd plain
takes_widths (on_array a) ts types t k us plain fits have = absurd plain
takes_widths (on_struct s) ts types t k us plain fits have = absurd plain
takes_widths (instance i) ts types t k us plain fits have = absurd plain
takes_widths output ts types t k us plain fits have = absurd plain
takes_widths (register f r) ts types t k us plain fits have = absurd plain
takes_widths async_firreg ts types t k us plain fits have = absurd plain
takes_widths _ ts types t k us plain fits have = (width fits.0, one_take fits.0 types us fits.1 have)
