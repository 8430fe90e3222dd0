-- An operation is put in before the output: a fit design stays fit.
use Rattle.std.proofs.Common.{◌≡◌, ◌⊎◌, ◌<◌, ◌≤◌, ℕ, List, map, length, Option, Some, None, slice_get, refl, sym, ap, subst, ◌∙◌, inl, inr, option_map}
use Rattle.std.proofs.lemmas.List.{length-map}
use Rattle.std.proofs.lemmas.Option.{slice_get-map}
use Rattle.wiring.proofs.Edits.{slice_get-insert_at}
use Rattle.wiring.proofs.Members.{In-slice_get}
use Rattle.wiring.proofs.Options.{option_map_some}
use Rattle.hw_model.specs.Design.{Ref, Op, Module, Design}
use Rattle.hw_model.specs.Design.Ref.{port, result, undefined}
use Rattle.edit_laws.specs.Edit.{retarget}
use Rattle.edit_laws.specs.Laws.{up, down, up_ref, insert_op, with_body, Inserted}
use Rattle.edit_laws.proofs.Inserted.{insert_op_preserves}
use Rattle.edit_laws.proofs.Positions.{up_from_down, down_none, get_put}
use Rattle.acceptance_laws.specs.Asked.{operand_in, operands_in, AllowsMore, AllowMore}
use Rattle.acceptance_laws.specs.Forms.{InsertedFits}
use Rattle.acceptance_laws.specs.Keeps.{IsMoved, IsPlainFitting, KeepsModule, IsFit}
use Rattle.acceptance_laws.proofs.Edited.{allows_itself, operands_allow, get_stood, no_async, plain_parts, fit_set}
use Rattle.acceptance_laws.proofs.Ends.{ends_retarget, ends_insert}
use Rattle.acceptance_laws.proofs.FitBodies.{fitting_moved}
use Rattle.acceptance_laws.proofs.Values.{result_operand, operand_retarget}

module _ (md : Module) (i : ℕ) (o : Op) (change : Inserted md i o) (fits : InsertedFits md i o) where
  within : i ≤ length (map (retarget (up_ref i)) md.body)
  within = subst (λ n. i ≤ n) (sym (length-map md.body (retarget (up_ref i)))) change.within

  old_there : (j : ℕ) → slice_get (insert_op i o md.body) (up i j) ≡ option_map (retarget (up_ref i)) (slice_get md.body j)
  old_there j = get_put (map (retarget (up_ref i)) md.body) i j (retarget (up_ref i) o) within ∙ slice_get-map (retarget (up_ref i)) md.body j

  new_there : slice_get (insert_op i o md.body) i ≡ Some (retarget (up_ref i) o)
  new_there = slice_get-insert_at (map (retarget (up_ref i)) md.body) i (retarget (up_ref i) o) within

  -- each value is asked the same
  operand_up : (r : Ref) → operand_in md.ports (insert_op i o md.body) (up_ref i r) ≡ operand_in md.ports md.body r
  operand_up (port j) = refl
  operand_up undefined = refl
  operand_up (result j n) = ap (result_operand n) (old_there j) ∙ operand_retarget (up_ref i) n (slice_get md.body j)

  operands_up : (rs : List Ref) → AllowMore (operands_in md.ports md.body rs) (operands_in md.ports (insert_op i o md.body) (map (up_ref i) rs))
  operands_up rs =
      operands_allow md.ports md.body (insert_op i o md.body) (up_ref i) rs
      (λ r here. subst (AllowsMore (operand_in md.ports md.body r)) (sym (operand_up r)) (allows_itself (operand_in md.ports md.body r)))

  each_kept : (j : ℕ) (z : Op) → slice_get (insert_op i o md.body) j ≡ Some z
      → IsMoved md.ports md.body (insert_op i o md.body) z ⊎ IsPlainFitting md.ports md.body (insert_op i o md.body) z
  each_kept j z is = go (down i j) refl
    where
      go : (x : Option ℕ) → down i j ≡ x → IsMoved md.ports md.body (insert_op i o md.body) z ⊎ IsPlainFitting md.ports md.body (insert_op i o md.body) z
      go (Some j') came =
          let from = option_map_some (retarget (up_ref i)) (slice_get md.body j')
          (sym (old_there j') ∙ ap (slice_get (insert_op i o md.body)) (up_from_down i j j' came) ∙ is) in
          inl (subst (IsMoved md.ports md.body (insert_op i o md.body)) from.2 (record {
            was = from.0;
            was_there = In-slice_get from.0 md.body j' from.1;
            same = refl;
            operands = operands_up from.0.operands;
            ports_stay = λ n p h. get_stood (up_ref i) (λ q. refl) from.0.operands n p h;
          }))
      go None here =
          let new : Some (retarget (up_ref i) o) ≡ Some z = sym new_there ∙ ap (slice_get (insert_op i o md.body)) (sym (down_none i j here)) ∙ is in
          let same : retarget (up_ref i) o ≡ z = cc in
          let plain = plain_parts o change.plain in
          inr (subst (IsPlainFitting md.ports md.body (insert_op i o md.body)) same (record {
            no_instance = plain.0;
            no_output = plain.1;
            fits = fitting_moved md.ports md.body (insert_op i o md.body) o (map (up_ref i) o.operands) fits.fits (operands_up o.operands);
            reset = λ r async. absurd (no_async (retarget (up_ref i) o) r plain.2 async);
          }))

  put_in_keeps : KeepsModule md (record md { body = insert_op i o md.body })
  put_in_keeps = record {
    symbol_is = refl;
    ports_are = refl;
    dictionary_is = refl;
    body = record {
      each = each_kept;
      ends = λ h.
          let before : i < length (map (retarget (up_ref i)) md.body) = subst (λ n. i < n) (sym (length-map md.body (retarget (up_ref i)))) fits.before_end in
          ends_insert (map (retarget (up_ref i)) md.body) i (retarget (up_ref i) o) before (plain_parts o change.plain).1 (ends_retarget (up_ref i) md.body h);
    };
  }

-- a fit design stays fit where an operation that fits is put in before the output
pub fit_inserted : (d : Design) (k : ℕ) (md : Module) (i : ℕ) (o : Op) → IsFit d → slice_get d k ≡ Some md → Inserted md i o → InsertedFits md i o
    → IsFit (with_body d k md (insert_op i o md.body))
fit_inserted d k md i o fit at change fits =
    fit_set d k md (record md { body = insert_op i o md.body }) fit at (put_in_keeps md i o change fits)
    (insert_op_preserves d k md i o fit.valid at change).valid
