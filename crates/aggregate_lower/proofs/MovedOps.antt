-- Operations that are made, with other operands.
use Rattle.std.proofs.Common.{◌≡◌, ℕ, zero, suc, List, [], ◌∷◌, ◌++◌, map, set, refl, sym, ap, ◌∙◌, append_assoc}
use Rattle.std.proofs.lemmas.List.{map-append}
use Rattle.hw_model.specs.Design.{Ref, Op}
use Rattle.ir_store.specs.declared.operation.NewOp.{NewOp}
use Rattle.ir_store.specs.declared.operation.Value.{Value}
use Rattle.edit_laws.specs.Edit.{retarget}
use Rattle.lowering_rules.specs.Made.{made_in}
use Rattle.lowering_rules.specs.Reading.{new_ref, new_refs, new_seen}

-- a value put in a position
pub refs_set : (vs : List Value) (i : ℕ) (v : Value) → new_refs (set vs i v) ≡ set (new_refs vs) i (new_ref v)
refs_set [] i v = refl
refs_set (x ∷ vs) zero v = refl
refs_set (x ∷ vs) (suc i) v = ap (λ rs. new_ref x ∷ rs) (refs_set vs i v)

-- one more
pub moved_more : (f : Ref → Ref) (done new : List NewOp) (o p : NewOp) (rest rest' : List NewOp) (whole : List Op) → new ≡ done ++ p ∷ [] → new_seen p ≡ retarget f (new_seen o) → rest ≡ o ∷ rest'
    → made_in done ++ map (retarget f) (made_in rest) ≡ whole → made_in new ++ map (retarget f) (made_in rest') ≡ whole
unfolding made_in
moved_more f done new o p rest rest' whole new_is moved rest_is so_far =
    ap (λ xs. map new_seen xs ++ map (retarget f) (map new_seen rest')) new_is
    ∙ ap (λ xs. xs ++ map (retarget f) (map new_seen rest')) (map-append new_seen done (p ∷ []))
    ∙ append_assoc (map new_seen done) (new_seen p ∷ []) (map (retarget f) (map new_seen rest'))
    ∙ ap (λ x. map new_seen done ++ (x ∷ map (retarget f) (map new_seen rest'))) moved
    ∙ ap (λ xs. map new_seen done ++ map (retarget f) (map new_seen xs)) (sym rest_is) ∙ so_far
