-- An operation that nothing names is taken out: putting it in again gives the design that was.
use Rattle.std.proofs.Common.{◌≡◌, ℕ, zero, suc, ◌<◌, List, [], ◌∷◌, length, map, insert, remove, set, slice_get, Some, refl, sym, ap, ap₂, subst, ◌∙◌, arith}
use Rattle.std.proofs.lemmas.List.{map-id}
use Rattle.std.proofs.lemmas.Option.{slice_get_within}
use Rattle.wiring.specs.Wiring.{In}
use Rattle.wiring.proofs.Members.{map_same, position_of_In}
use Rattle.wiring.proofs.Lists.{map-map, set_some, slice_get-set_same}
use Rattle.wiring.proofs.Edits.{insert-remove, length-remove_suc, from_In-remove}
use Rattle.hw_model.specs.Design.{Ref, Op, Module, Design}
use Rattle.hw_model.specs.Design.Ref.{result, undefined}
use Rattle.hw_model.specs.Machine.{Same}
use Rattle.hw_model.specs.Meaning.{machine}
use Rattle.hw_model.specs.Sound.{type_in, Fits}
use Rattle.hw_model.proofs.Machines.{same_sym}
use Rattle.edit_laws.specs.Edit.{retarget}
use Rattle.edit_laws.specs.Follows.{Valid, Follows}
use Rattle.edit_laws.specs.Laws.{up_ref, without, erase_op, insert_op, with_body, IsNotOf, Inserted, IsUnused}
use Rattle.edit_laws.proofs.OtherOperands.{length_map}
use Rattle.edit_laws.proofs.Follows.{valid_settles, valid_set}
use Rattle.edit_laws.proofs.Inserted.{insert_op_preserves}
use Rattle.edit_laws.proofs.TakeOut.{up-without, types_stay, taken_out_valid}

set-set : {A : Type 0} (xs : List A) (i : ℕ) (x y : A) → set (set xs i x) i y ≡ set xs i y
set-set [] i x y = refl
set-set (z ∷ zs) zero x y = refl
set-set (z ∷ zs) (suc i) x y = ap (λ ws. z ∷ ws) (set-set zs i x y)

module _ (d : Design) (m : ℕ) (md : Module) (i : ℕ) (o : Op) (valid : Valid d) (there : slice_get d m ≡ Some md) (unused : IsUnused md i o) where
  abbrev shorter : List Op
  shorter = erase_op i undefined md.body

  abbrev less : Module
  less = record md { body = erase_op i undefined md.body }

  abbrev without_it : Design
  without_it = with_body d m md (erase_op i undefined md.body)

  -- the operation, as it is put in again
  abbrev again : Op
  again = retarget (without i undefined) o

  valid_without : Valid without_it
  valid_without =
      valid_set d m md less there refl
      (taken_out_valid md i o unused.there unused.plain undefined (λ h local. local.lowest (result i 0))
      (λ j z r is here. types_stay md i o unused.there unused.plain undefined r (unused.unnamed j z r is here)))
      valid

  restored : (z : Op) → ((r : Ref) → In r z.operands → IsNotOf i r) → retarget (up_ref i) (retarget (without i undefined) z) ≡ z
  restored z other =
      ap (λ rs. record z { operands = rs })
      (map-map (up_ref i) (without i undefined) z.operands
      ∙ map_same (λ r. up_ref i (without i undefined r)) (λ r. r) z.operands (λ r here. up-without i undefined r (other r here))
      ∙ map-id z.operands)

  all_restored : (os : List Op) → ((z : Op) → In z os → (r : Ref) → In r z.operands → IsNotOf i r)
      → map (retarget (up_ref i)) (map (retarget (without i undefined)) os) ≡ os
  all_restored os other =
      map-map (retarget (up_ref i)) (retarget (without i undefined)) os
      ∙ map_same (λ z. retarget (up_ref i) (retarget (without i undefined) z)) (λ z. z) os (λ z here. restored z (other z here))
      ∙ map-id os

  body_restored : insert_op i again (erase_op i undefined md.body) ≡ md.body
  body_restored =
      ap₂ (λ xs z. insert xs i z)
      (all_restored (remove md.body i) (λ z here r named.
      let position = position_of_In z md.body (from_In-remove md.body i z here) in unused.unnamed position.0 z r position.1 named))
      (restored o (λ r named. unused.unnamed i o r unused.there named))
      ∙ insert-remove md.body i o unused.there

  design_restored : with_body without_it m less (insert_op i again (erase_op i undefined md.body)) ≡ d
  design_restored =
      ap (λ os. set without_it m (record md { body = os })) body_restored
      ∙ set-set d m less md
      ∙ set_some d m md there

  may_put_in : Inserted less i again
  may_put_in = record {
    within =
        let long : i < length md.body = slice_get_within md.body i o unused.there in
        let fewer : suc (length (remove md.body i)) ≡ length md.body = length-remove_suc md.body i long in
        let mapped : length (erase_op i undefined md.body) ≡ length (remove md.body i) = length_map (retarget (without i undefined)) (remove md.body i) in
        omega arith;
    plain = unused.plain;
    fits = λ k t typed.
        subst (λ xs. Fits o.kind o.types xs t k)
        (sym (map-map (type_in md.ports (erase_op i undefined md.body)) (without i undefined) o.operands
        ∙ map_same (λ r. type_in md.ports (erase_op i undefined md.body) (without i undefined r)) (type_in md.ports md.body) o.operands
        (λ r named. types_stay md i o unused.there unused.plain undefined r (unused.unnamed i o r unused.there named))))
        (unused.fits k t typed);
  }

  -- an operation that nothing names may go
  pub erase_dead_op_preserves : Follows d (with_body d m md (erase_op i undefined md.body))
  erase_dead_op_preserves = record {
    valid = valid_without;
    same = λ top.
        same_sym (machine without_it top) (machine d top) (valid_settles without_it valid_without top)
        (subst (λ e. Same (machine without_it top) (machine e top)) design_restored
        ((insert_op_preserves without_it m less i again valid_without (slice_get-set_same d m less (slice_get_within d m md there)) may_put_in).same top));
  }
