-- An operation is changed in place, a register among them: a fit design stays fit.
use Rattle.std.proofs.Common.{◌≡◌, ◌⊎◌, ℕ, true, false, List, set, Option, Some, None, slice_get, refl, sym, ap, subst, ◌∙◌, inl, inr}
use Rattle.std.specs.Prelude.{is_some}
use Rattle.std.proofs.lemmas.List.{map-id}
use Rattle.std.proofs.lemmas.Option.{slice_get_within}
use Rattle.wiring.proofs.Lists.{slice_get-set_same}
use Rattle.wiring.proofs.Members.{In-slice_get}
use Rattle.hw_model.specs.Kinds.{Kind}
use Rattle.hw_model.specs.Kinds.Kind.{constant, aggregate_constant}
use Rattle.hw_model.specs.Design.{Ref, Op, Module, Design, register_form, instance_in, is_output_op, is_register, result_type}
use Rattle.hw_model.specs.Design.Ref.{port, result, undefined}
use Rattle.hw_model.specs.Flat.{ResetBy, async_reset_in}
use Rattle.hw_model.specs.Resets.{is_constant}
use Rattle.hw_model.proofs.Sorts.{Sort, sort_of}
use Rattle.hw_model.proofs.Sorts.Sort.{a_register, an_instance, an_output, a_made}
use Rattle.op_verifier.specs.OpChecks.{is_nonzero_kind}
use Rattle.op_verifier.proofs.InputResets.{resets_from_ports}
use Rattle.edit_laws.specs.Laws.{other_than, with_body, InPlace}
use Rattle.edit_laws.specs.Registers.{Reloaded}
use Rattle.edit_laws.proofs.ChangeInPlace.{replace_op_preserves}
use Rattle.edit_laws.proofs.Positions.{other_none, get_other}
use Rattle.edit_laws.proofs.ReloadFollows.{replace_register_preserves}
use Rattle.acceptance_laws.specs.Asked.{operand_in, operands_in, AllowsMore, AllowMore}
use Rattle.acceptance_laws.specs.Forms.{InPlaceFits}
use Rattle.acceptance_laws.specs.Keeps.{IsMoved, IsFitting, ResetStays, IsPlainFitting, KeepsModule, IsFit}
use Rattle.acceptance_laws.proofs.Edited.{allows_itself, operands_allow, no_async, plain_parts, fit_set}
use Rattle.acceptance_laws.proofs.Ends.{ends_set}
use Rattle.acceptance_laws.proofs.FitBodies.{fitting_moved, found_md, own_cause_none}
use Rattle.acceptance_laws.proofs.Resets.{constant_told}
use Rattle.acceptance_laws.proofs.Values.{result_operand, result_allows}

-- o at position i becomes o', which fits, has results of the same types, is a constant where o is one, has the asynchronous
-- reset of o, if it has any, and is no instance and no output, as o is none
record Change (md : Module) (i : ℕ) (o o' : Op) : Type 0 where
  there : slice_get md.body i ≡ Some o
  same_types : (k : ℕ) → result_type o' k ≡ result_type o k
  known : is_nonzero_kind o.kind ≡ true → is_nonzero_kind o'.kind ≡ true
  constant : is_constant o.kind ≡ true → is_constant o'.kind ≡ true
  fits : IsFitting md.ports md.body o'
  no_instance : instance_in o'.kind ≡ None
  no_output : is_output_op o' ≡ false
  was_no_output : is_output_op o ≡ false
  reset : (r : ResetBy) → async_reset_in o' ≡ Some r → async_reset_in o ≡ Some r

module _ (d : Design) (fit : IsFit d) (k : ℕ) (md : Module) (at : slice_get d k ≡ Some md) (i : ℕ) (o o' : Op) (change : Change md i o o') where
  new_there : slice_get (set md.body i o') i ≡ Some o'
  new_there = slice_get-set_same md.body i o' (slice_get_within md.body i o change.there)

  -- no more is refused of any value
  values_allow : (r : Ref) → AllowsMore (operand_in md.ports md.body r) (operand_in md.ports (set md.body i o') r)
  values_allow (port j) = allows_itself (operand_in md.ports md.body (port j))
  values_allow undefined = allows_itself (operand_in md.ports md.body undefined)
  values_allow (result j n) = go (other_than i j) refl
    where
      go : (x : Option ℕ) → other_than i j ≡ x → AllowsMore (result_operand n (slice_get md.body j)) (result_operand n (slice_get (set md.body i o') j))
      go (Some j') is =
          subst (λ z. AllowsMore (result_operand n (slice_get md.body j)) (result_operand n z)) (sym (get_other md.body i j j' o' is)) (allows_itself (result_operand n (slice_get md.body j)))
      go None is =
          let here : j ≡ i = other_none i j is in
          subst (λ z. AllowsMore (result_operand n (slice_get md.body z)) (result_operand n (slice_get (set md.body i o') z))) (sym here)
          (subst (λ z. AllowsMore (result_operand n z) (result_operand n (slice_get (set md.body i o') i))) (sym change.there)
          (subst (λ z. AllowsMore (result_operand n (Some o)) (result_operand n z)) (sym new_there)
          (result_allows md.ports md.body o o' (own_cause_none d fit k md at i o change.there) change.fits.alone change.same_types change.known change.constant n)))

  operands_same : (rs : List Ref) → AllowMore (operands_in md.ports md.body rs) (operands_in md.ports (set md.body i o') rs)
  operands_same rs =
      subst (λ z. AllowMore (operands_in md.ports md.body rs) (operands_in md.ports (set md.body i o') z)) (map-id rs)
      (operands_allow md.ports md.body (set md.body i o') (λ r. r) rs (λ r here. values_allow r))

  reset_stays : (r : ResetBy) → async_reset_in o' ≡ Some r → ResetStays md.body (set md.body i o') r
  reset_stays r async =
      let was = change.reset r async in
      let value = (resets_from_ports d fit.unrefused).values md.symbol md o r (found_md d fit k md at) (In-slice_get o md.body i change.there) was in
      record {
        was = o;
        was_there = In-slice_get o md.body i change.there;
        reset = r;
        has_reset = was;
        signal = refl;
        constant = (values_allow r.value).constant (constant_told md.body r.value value);
      }

  each_kept : (j : ℕ) (z : Op) → slice_get (set md.body i o') j ≡ Some z → IsMoved md.ports md.body (set md.body i o') z ⊎ IsPlainFitting md.ports md.body (set md.body i o') z
  each_kept j z is = go (other_than i j) refl
    where
      go : (x : Option ℕ) → other_than i j ≡ x → IsMoved md.ports md.body (set md.body i o') z ⊎ IsPlainFitting md.ports md.body (set md.body i o') z
      go (Some j') other =
          inl (record {
            was = z;
            was_there = In-slice_get z md.body j (sym (get_other md.body i j j' o' other) ∙ is);
            same = refl;
            operands = operands_same z.operands;
            ports_stay = λ n p h. h;
          })
      go None here =
          let new : Some o' ≡ Some z = sym new_there ∙ ap (slice_get (set md.body i o')) (sym (other_none i j here)) ∙ is in
          let same : o' ≡ z = cc in
          inr (subst (IsPlainFitting md.ports md.body (set md.body i o')) same (record {
            no_instance = change.no_instance;
            no_output = change.no_output;
            fits = fitting_moved md.ports md.body (set md.body i o') o' o'.operands change.fits (operands_same o'.operands);
            reset = reset_stays;
          }))

  changed_keeps : KeepsModule md (record md { body = set md.body i o' })
  changed_keeps = record {
    symbol_is = refl;
    ports_are = refl;
    dictionary_is = refl;
    body = record { each = each_kept; ends = ends_set md.body i o o' change.there change.was_no_output change.no_output };
  }

-- a fit design stays fit where an operation that is made of its operands is changed in place
pub fit_in_place : (d : Design) (k : ℕ) (md : Module) (i : ℕ) (o o' : Op) → IsFit d → slice_get d k ≡ Some md → InPlace md i o o' → InPlaceFits md o o'
    → IsFit (with_body d k md (set md.body i o'))
fit_in_place d k md i o o' fit at change fits =
    fit_set d k md (record md { body = set md.body i o' }) fit at (changed_keeps d fit k md at i o o' (record {
      there = change.there;
      same_types = change.same_types;
      known = fits.known;
      constant = fits.constant;
      fits = fits.fits;
      no_instance = new.0;
      no_output = new.1;
      was_no_output = (plain_parts o change.old_plain).1;
      reset = λ r is. absurd (no_async o' r new.2 is);
    }))
    (replace_op_preserves d k md i o o' fit.valid at change).valid
  where
    new : (instance_in o'.kind ≡ None) × (is_output_op o' ≡ false) × (is_register o' ≡ false)
    new = plain_parts o' change.new_plain

-- a register is no constant, no instance and no output
register_parts_are : (o : Op) → is_register o ≡ true
    → (instance_in o.kind ≡ None) × (is_output_op o ≡ false) × (is_nonzero_kind o.kind ≡ false) × (is_constant o.kind ≡ false)
register_parts_are o is = go (sort_of o.kind)
  where
    plain_kind : (x : Kind) → is_some (register_form x) ≡ true → (is_nonzero_kind x ≡ false) × (is_constant x ≡ false)
    plain_kind (constant z) h = cc
    plain_kind (aggregate_constant ls) h = cc
    plain_kind _ h = (refl, refl)

    go : Sort o.kind → (instance_in o.kind ≡ None) × (is_output_op o ≡ false) × (is_nonzero_kind o.kind ≡ false) × (is_constant o.kind ≡ false)
    go (a_register f r n u) = (n, u, (plain_kind o.kind is).0, (plain_kind o.kind is).1)
    go (an_instance x r n u) = let clash : true ≡ false = sym is ∙ ap is_some r in cc
    go (an_output r n u) = let clash : true ≡ false = sym is ∙ ap is_some r in cc
    go (a_made r n u) = let clash : true ≡ false = sym is ∙ ap is_some r in cc

-- a fit design stays fit where a register loads in another way
pub fit_reloaded : (d : Design) (k : ℕ) (md : Module) (i : ℕ) (o o' : Op) → IsFit d → slice_get d k ≡ Some md → Reloaded md i o o' → IsFitting md.ports md.body o'
    → IsFit (with_body d k md (set md.body i o'))
fit_reloaded d k md i o o' fit at change fits =
    fit_set d k md (record md { body = set md.body i o' }) fit at (changed_keeps d fit k md at i o o' (record {
      there = change.there;
      same_types = change.same_types;
      known = λ h. let clash : true ≡ false = sym h ∙ old.2 in cc;
      constant = λ h. let clash : true ≡ false = sym h ∙ old.3 in cc;
      fits = fits;
      no_instance = new.0;
      no_output = new.1;
      was_no_output = old.1;
      reset = λ r is. sym change.async_is ∙ is;
    }))
    (replace_register_preserves d k md i o o' fit.valid at change).valid
  where
    old : (instance_in o.kind ≡ None) × (is_output_op o ≡ false) × (is_nonzero_kind o.kind ≡ false) × (is_constant o.kind ≡ false)
    old = register_parts_are o change.old_register

    new : (instance_in o'.kind ≡ None) × (is_output_op o' ≡ false) × (is_nonzero_kind o'.kind ≡ false) × (is_constant o'.kind ≡ false)
    new = register_parts_are o' change.new_register
