-- An operation is taken out: a fit design stays fit.
use Rattle.std.proofs.Common.{◌≡◌, ℕ, zero, suc, true, false, ◌&&◌, nat_eq, List, map, remove, Option, Some, None, slice_get, refl, sym, ap, subst, ◌∙◌, inl, option_and_then}
use Rattle.std.specs.Prelude.{is_some}
use Rattle.wiring.specs.Wiring.{In}
use Rattle.wiring.proofs.Members.{In-slice_get}
use Rattle.wiring.proofs.Options.{option_map_some}
use Rattle.hw_model.specs.Types.{HwType}
use Rattle.hw_model.specs.Design.{Ref, Op, Module, Design, result_type}
use Rattle.hw_model.specs.Design.Ref.{port, result, undefined}
use Rattle.hw_model.specs.Sound.{type_in}
use Rattle.op_verifier.specs.OpChecks.{is_nonzero_op}
use Rattle.op_verifier.specs.ResetChecks.{is_constant_op}
use Rattle.edit_laws.specs.Edit.{retarget, is_anchor}
use Rattle.edit_laws.specs.Laws.{up, down, ref_after_erase, without, erase_op, with_body, IsNotOf, Erased, IsUnused}
use Rattle.edit_laws.proofs.Positions.{down-up, down_none, down_same}
use Rattle.edit_laws.proofs.TakeOut.{old_there, erase_op_preserves}
use Rattle.edit_laws.proofs.Unused.{erase_dead_op_preserves}
use Rattle.acceptance_laws.specs.Asked.{operand_in, AllowsMore}
use Rattle.acceptance_laws.specs.Forms.{ErasedFits}
use Rattle.acceptance_laws.specs.Keeps.{IsMoved, KeepsModule, IsFit}
use Rattle.acceptance_laws.proofs.Edited.{allows_itself, operands_allow, get_stood, plain_parts, fit_set}
use Rattle.acceptance_laws.proofs.Ends.{ends_retarget, ends_remove}
use Rattle.acceptance_laws.proofs.FitBodies.{operand_there, settled_here}
use Rattle.acceptance_laws.proofs.Values.{result_operand, operand_retarget}

module _ (md : Module) (i : ℕ) (o : Op) (there : slice_get md.body i ≡ Some o) (plain : is_anchor o ≡ false) (y : Ref) where
  abbrev less : List Op
  less = map (retarget (without i y)) (remove md.body i)

  -- a value that is none of the operation's is asked the same
  operand_stays : (r : Ref) → IsNotOf i r → operand_in md.ports (map (retarget (without i y)) (remove md.body i)) (without i y r) ≡ operand_in md.ports md.body r
  operand_stays (port j) other = refl
  operand_stays undefined other = refl
  operand_stays (result j n) other = go (down i j) refl
    where
      go : (x : Option ℕ) → down i j ≡ x → operand_in md.ports (map (retarget (without i y)) (remove md.body i)) (ref_after_erase x y n) ≡ result_operand n (slice_get md.body j)
      go None here = absurd (other n (ap (λ z. result z n) (down_none i j here)))
      go (Some j') is = ap (result_operand n) (old_there md i o there plain y j j' is) ∙ operand_retarget (without i y) n (slice_get md.body j)

  allows_other : (r : Ref) → IsNotOf i r → AllowsMore (operand_in md.ports md.body r) (operand_in md.ports (map (retarget (without i y)) (remove md.body i)) (without i y r))
  allows_other r other = subst (AllowsMore (operand_in md.ports md.body r)) (sym (operand_stays r other)) (allows_itself (operand_in md.ports md.body r))

  module _ (named : (j : ℕ) (z : Op) (r : Ref) → slice_get md.body j ≡ Some z → In r z.operands
      → AllowsMore (operand_in md.ports md.body r) (operand_in md.ports (map (retarget (without i y)) (remove md.body i)) (without i y r))) where
    each_moved : (j : ℕ) (z : Op) → slice_get (map (retarget (without i y)) (remove md.body i)) j ≡ Some z
        → IsMoved md.ports md.body (map (retarget (without i y)) (remove md.body i)) z
    each_moved j z is =
        let from = option_map_some (retarget (without i y)) (slice_get md.body (up i j)) (sym (old_there md i o there plain y (up i j) j (down-up i j)) ∙ is) in
        subst (IsMoved md.ports md.body (map (retarget (without i y)) (remove md.body i))) from.2 (record {
          was = from.0;
          was_there = In-slice_get from.0 md.body (up i j) from.1;
          same = refl;
          operands = operands_allow md.ports md.body (map (retarget (without i y)) (remove md.body i)) (without i y) from.0.operands
              (λ r here. named (up i j) from.0 r from.1 here);
          ports_stay = λ n p h. get_stood (without i y) (λ q. refl) from.0.operands n p h;
        })

    pub taken_out_keeps : KeepsModule md (record md { body = map (retarget (without i y)) (remove md.body i) })
    taken_out_keeps = record {
      symbol_is = refl;
      ports_are = refl;
      dictionary_is = refl;
      body = record {
        each = λ j z is. inl (each_moved j z is);
        ends = λ h. ends_retarget (without i y) (remove md.body i) (ends_remove md.body i o there (plain_parts o plain).1 h);
      };
    }

-- what stands for the result of an operation does not look at what stands for it
without_same : (i : ℕ) (y y' r : Ref) → IsNotOf i r → without i y r ≡ without i y' r
without_same i y y' (port j) other = refl
without_same i y y' undefined other = refl
without_same i y y' (result j n) other = go (down i j) refl
  where
    go : (x : Option ℕ) → down i j ≡ x → ref_after_erase x y n ≡ ref_after_erase x y' n
    go None here = absurd (other n (ap (λ z. result z n) (down_none i j here)))
    go (Some j') is = refl

module _ (d : Design) (fit : IsFit d) (k : ℕ) (md : Module) (at : slice_get d k ≡ Some md) (i : ℕ) (o : Op) (t : HwType) (x : Ref) (change : Erased md i o t x)
    (fits : ErasedFits md o x) where
  abbrev stand : Ref
  stand = without i undefined x

  -- no more is refused of x than of the result
  result_allows_stand : AllowsMore (operand_in md.ports md.body (result i 0)) (operand_in md.ports md.body x)
  result_allows_stand = record {
    type = settled_here d fit k md at x ∙ change.stand_is ∙ sym result_typed ∙ sym (settled_here d fit k md at (result i 0));
    defined = λ h. ap is_some change.stand_is;
    known = λ h. fits.known (sym (ap (λ z. nat_eq 0 0 && is_nonzero_op z) change.there) ∙ h);
    constant = λ h. fits.constant (sym (ap is_constant_op change.there) ∙ h);
    input = λ h. cc;
  }
    where
      result_typed : type_in md.ports md.body (result i 0) ≡ Some t
      result_typed = ap (λ z. option_and_then (λ (w : Op). result_type w 0) z) change.there ∙ change.result_is

  named_allow : (j : ℕ) (z : Op) (r : Ref) → slice_get md.body j ≡ Some z → In r z.operands
      → AllowsMore (operand_in md.ports md.body r) (operand_in md.ports (erase_op i x md.body) (without i (without i undefined x) r))
  named_allow j z r is here = by_ref r (operand_there d fit k md at j z r is here)
    where
      stand_allows : AllowsMore (operand_in md.ports md.body (result i 0)) (operand_in md.ports (erase_op i x md.body) (without i undefined x))
      stand_allows =
          subst (AllowsMore (operand_in md.ports md.body (result i 0)))
          (sym (ap (operand_in md.ports (erase_op i x md.body)) (without_same i undefined (without i undefined x) x change.stand_stays)
          ∙ operand_stays md i o change.there change.plain (without i undefined x) x change.stand_stays))
          result_allows_stand

      no_other_result : (n : ℕ) → is_some (type_in md.ports md.body (result i (suc n))) ≡ true → ⊥
      no_other_result n h =
          let none : is_some (type_in md.ports md.body (result i (suc n))) ≡ false =
          ap (λ z. is_some (option_and_then (λ (w : Op). result_type w (suc n)) z)) change.there ∙ ap is_some (change.no_more n) in
          let clash : true ≡ false = sym h ∙ none in cc

      by_number : (n : ℕ) → is_some (type_in md.ports md.body (result i n)) ≡ true
          → AllowsMore (operand_in md.ports md.body (result i n)) (operand_in md.ports (erase_op i x md.body) (ref_after_erase None (without i undefined x) n))
      by_number zero h = stand_allows
      by_number (suc n) h = absurd (no_other_result n h)

      by_position : (j n : ℕ) (w : Option ℕ) → down i j ≡ w → is_some (type_in md.ports md.body (result j n)) ≡ true
          → AllowsMore (operand_in md.ports md.body (result j n)) (operand_in md.ports (erase_op i x md.body) (without i (without i undefined x) (result j n)))
      by_position j n (Some j') is h =
          allows_other md i o change.there change.plain (without i undefined x) (result j n) (λ m same. let e : j ≡ i = cc in let clash : None ≡ Some j' = sym (down_same i) ∙ ap (down i) (sym e) ∙ is in cc)
      by_position j n None is h =
          let e : j ≡ i = down_none i j is in
          subst (λ z. AllowsMore (operand_in md.ports md.body (result j n)) (operand_in md.ports (erase_op i x md.body) (ref_after_erase z (without i undefined x) n))) (sym is)
          (subst (λ z. AllowsMore (operand_in md.ports md.body (result z n)) (operand_in md.ports (erase_op i x md.body) (ref_after_erase None (without i undefined x) n))) (sym e)
          (by_number n (subst (λ z. is_some (type_in md.ports md.body (result z n)) ≡ true) e h)))

      by_ref : (r : Ref) → is_some (type_in md.ports md.body r) ≡ true
          → AllowsMore (operand_in md.ports md.body r) (operand_in md.ports (erase_op i x md.body) (without i (without i undefined x) r))
      by_ref (port p) h = allows_itself (operand_in md.ports md.body (port p))
      by_ref undefined h = allows_itself (operand_in md.ports md.body undefined)
      by_ref (result p n) h = by_position p n (down i p) refl h

  erased_keeps : KeepsModule md (record md { body = erase_op i x md.body })
  erased_keeps = taken_out_keeps md i o change.there change.plain (without i undefined x) named_allow

-- a fit design stays fit where an operation is taken out, a value standing for its result
pub fit_erased : (d : Design) (k : ℕ) (md : Module) (i : ℕ) (o : Op) (t : HwType) (x : Ref) → IsFit d → slice_get d k ≡ Some md → Erased md i o t x → ErasedFits md o x
    → IsFit (with_body d k md (erase_op i x md.body))
fit_erased d k md i o t x fit at change fits =
    fit_set d k md (record md { body = erase_op i x md.body }) fit at (erased_keeps d fit k md at i o t x change fits)
    (erase_op_preserves d k md i o t x fit.valid at change).valid

-- and where one is taken out that nothing names
pub fit_without_dead : (d : Design) (k : ℕ) (md : Module) (i : ℕ) (o : Op) → IsFit d → slice_get d k ≡ Some md → IsUnused md i o
    → IsFit (with_body d k md (erase_op i undefined md.body))
fit_without_dead d k md i o fit at unused =
    fit_set d k md (record md { body = erase_op i undefined md.body }) fit at
    (taken_out_keeps md i o unused.there unused.plain undefined (λ j z r is here. allows_other md i o unused.there unused.plain undefined r (unused.unnamed j z r is here)))
    (erase_dead_op_preserves d k md i o fit.valid at unused).valid
