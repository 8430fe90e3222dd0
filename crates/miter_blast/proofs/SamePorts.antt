-- Ports with the same types.
use Rattle.std.proofs.Common.{◌≡◌, Bool, true, false, List, [], ◌∷◌, refl, sym, ◌∙◌, subst}
use Rattle.std.specs.Cmp.Lexicographic.{pointwise}
use Rattle.std.proofs.lemmas.Bool.{and_parts}
use Rattle.hw_model.specs.Types.{HwType}
use Rattle.hw_model.specs.SameType.{same_type, type_self, type_from}
use Rattle.hw_model.specs.Design.{Port}
use Rattle.hw_model.specs.Sound.{input_types, output_types}
use Rattle.miter_blast.specs.Pairs.{HaveSamePorts, Tells}

same_all : (ts us : List HwType) → pointwise same_type ts us ≡ true → ts ≡ us
same_all [] [] h = refl
same_all [] (u ∷ us) h = cc
same_all (t ∷ ts) [] h = cc
same_all (t ∷ ts) (u ∷ us) h =
    let p = and_parts (same_type t u) (pointwise same_type ts us) h in
    let e : t ≡ u = type_from t u p.0 in
    let f : ts ≡ us = same_all ts us p.1 in cc

self_all : (ts : List HwType) → pointwise same_type ts ts ≡ true
self_all [] = refl
self_all (t ∷ ts) = rw (type_self t) (self_all ts)

told : (ts us : List HwType) (b : Bool) → b ≡ pointwise same_type ts us → Tells b (ts ≡ us)
told ts us true h = same_all ts us (sym h)
told ts us false h = λ e. (let all : pointwise same_type ts ts ≡ true = self_all ts in let none : pointwise same_type ts ts ≡ false = subst (λ x. pointwise same_type ts x ≡ false) (sym e) (sym h) in cc)

-- types of inputs that differ
pub told_first : (ps qs : List Port) (is : List HwType) → is ≡ input_types ps → pointwise same_type is (input_types qs) ≡ false → HaveSamePorts ps qs → ⊥
told_first ps qs is i h = λ same. told is (input_types qs) false (sym h) (i ∙ same.0)

-- types of inputs that are the same
pub told_second : (ps qs : List Port) (is os : List HwType) (b : Bool) → is ≡ input_types ps → os ≡ output_types ps
    → pointwise same_type is (input_types qs) ≡ true → b ≡ pointwise same_type os (output_types qs) → Tells b (HaveSamePorts ps qs)
told_second ps qs is os true i o h k = (sym i ∙ told is (input_types qs) true (sym h), sym o ∙ told os (output_types qs) true k)
told_second ps qs is os false i o h k = λ same. told os (output_types qs) false k (o ∙ same.1)
