-- The output stays the last where another operation is put in, taken out or changed in place.
use Rattle.std.proofs.Common.{◌≡◌, ◌<◌, ℕ, zero, suc, true, false, List, [], ◌∷◌, map, length, set, insert, remove, Some, slice_get, sym, ap, ◌∙◌, arith}
use Rattle.hw_model.specs.Design.{Ref, Op, is_output_op}
use Rattle.printing_laws.specs.Printable.{EndsWithOutput}
use Rattle.edit_laws.specs.Edit.{retarget}

ends_after : (x : Op) (os : List Op) → is_output_op x ≡ false → EndsWithOutput os → EndsWithOutput (x ∷ os)
ends_after x [] plain ends = absurd ends
ends_after x (y ∷ os) plain ends = (plain, ends)

pub ends_retarget : (f : Ref → Ref) (os : List Op) → EndsWithOutput os → EndsWithOutput (map (retarget f) os)
ends_retarget f [] ends = ends
ends_retarget f (x ∷ []) ends = ends
ends_retarget f (x ∷ y ∷ os) (plain, ends) = (plain, ends_retarget f (y ∷ os) ends)

pub ends_remove : (os : List Op) (i : ℕ) (o : Op) → slice_get os i ≡ Some o → is_output_op o ≡ false → EndsWithOutput os → EndsWithOutput (remove os i)
ends_remove [] i o at plain ends = cc
ends_remove (x ∷ []) zero o at plain ends =
    let same : x ≡ o = cc in
    let clash : true ≡ false = sym ends ∙ ap is_output_op same ∙ plain in cc
ends_remove (x ∷ []) (suc i) o at plain ends = cc
ends_remove (x ∷ y ∷ os) zero o at plain (first, ends) = ends
ends_remove (x ∷ y ∷ os) (suc i) o at plain (first, ends) = ends_after x (remove (y ∷ os) i) first (ends_remove (y ∷ os) i o at plain ends)

pub ends_set : (os : List Op) (i : ℕ) (o o' : Op) → slice_get os i ≡ Some o → is_output_op o ≡ false → is_output_op o' ≡ false → EndsWithOutput os → EndsWithOutput (set os i o')
ends_set [] i o o' at plain plain' ends = cc
ends_set (x ∷ []) zero o o' at plain plain' ends =
    let same : x ≡ o = cc in
    let clash : true ≡ false = sym ends ∙ ap is_output_op same ∙ plain in cc
ends_set (x ∷ []) (suc i) o o' at plain plain' ends = cc
ends_set (x ∷ y ∷ os) zero o o' at plain plain' (first, ends) = (plain', ends)
ends_set (x ∷ y ∷ os) (suc i) o o' at plain plain' (first, ends) = ends_after x (set (y ∷ os) i o') first (ends_set (y ∷ os) i o o' at plain plain' ends)

pub ends_insert : (os : List Op) (i : ℕ) (o : Op) → i < length os → is_output_op o ≡ false → EndsWithOutput os → EndsWithOutput (insert os i o)
ends_insert [] i o within plain ends = absurd ends
ends_insert (x ∷ os) zero o within plain ends = ends_after o (x ∷ os) plain ends
ends_insert (x ∷ []) (suc i) o within plain ends = absurd (omega arith)
ends_insert (x ∷ y ∷ os) (suc i) o within plain (first, ends) = ends_after x (insert (y ∷ os) i o) first (ends_insert (y ∷ os) i o (omega arith) plain ends)
