-- An operation that takes in another one, which made an operand of it and has no other use: what must be shown of it, and that it
-- makes a fold.
use Rattle.std.proofs.Common.{◌≡◌, ◌⊎◌, ℕ, zero, suc, ◌+◌, ◌<◌, ◌≤◌, Bool, true, false, cond, List, [], ◌∷◌, length, map, set, remove, Some, None, slice_get, refl, sym, ap, subst, ◌∙◌, inl, inr, arith, set-set}
use Rattle.std.specs.Prelude.{is_some}
use Rattle.std.proofs.lemmas.Option.{slice_get_within}
use Rattle.wiring.specs.Wiring.{In}
use Rattle.wiring.proofs.Lists.{slice_get-set_same, slice_get-set_other}
use Rattle.wiring.proofs.Members.{In-slice_get}
use Rattle.bits_core.specs.Word.{Word}
use Rattle.hw_model.specs.Types.{Name, HwType}
use Rattle.hw_model.specs.Kinds.{Kind}
use Rattle.hw_model.specs.Design.{Ref, Op, Module, Design, result_type}
use Rattle.hw_model.specs.Design.Ref.{result, undefined}
use Rattle.hw_model.specs.Sound.{type_in, Fits, OpFits}
use Rattle.hw_model.specs.Value.{op_value}
use Rattle.hw_model.specs.Weight.{kind_weight, body_weight}
use Rattle.op_verifier.specs.OpChecks.{has_again, has_undefined, value_cause, alone_cause}
use Rattle.printing_laws.specs.Printable.{IsPrintableOp}
use Rattle.edit_laws.specs.Edit.{is_anchor, result_word, word_of, HoldsBut}
use Rattle.edit_laws.specs.Falls.{LocalHeight}
use Rattle.edit_laws.specs.Follows.{Wide}
use Rattle.edit_laws.specs.Laws.{erase_op, with_body, without, InPlace}
use Rattle.edit_laws.proofs.ChangeInPlace.{plain_word, replace_op_preserves}
use Rattle.edit_laws.proofs.Uses.{operand_lower}
use Rattle.edit_laws.proofs.Weights.{weight-set, weight_with_body, weight_taken_out}
use Rattle.acceptance_laws.specs.Forms.{InPlaceFits}
use Rattle.acceptance_laws.specs.Keeps.{IsFit}
use Rattle.acceptance_laws.proofs.ChangedInPlace.{fit_in_place}
use Rattle.acceptance_laws.proofs.FitBodies.{operand_there}
use Rattle.pass_laws.specs.Steady.{IsSteady}
use Rattle.pass_laws.proofs.Shapes.{shape_set}
use Rattle.pass_laws.proofs.Steady.{steady_then, steady_with_body}
use Rattle.fold_laws.specs.Fold.{op_measure, measure, IsFold}
use Rattle.fold_laws.specs.Nested.{Nested, uses_among, use_count}
use Rattle.fold_laws.specs.Unused.{is_pure, is_used}
use Rattle.fold_laws.proofs.MadeKinds.{is_made, made_plain, made_no_constant, made_no_number}
use Rattle.fold_laws.proofs.Measures.{measure-retarget, measure-remove, measure-set}
use Rattle.fold_laws.proofs.NestedUses.{IsNested, named_once, uses-set, uses_of_two, unused_then}
use Rattle.fold_laws.proofs.Stands.{Held, op_has_one, op_held}
use Rattle.fold_laws.proofs.Unused.{unused_taken}

-- ---- what must be shown

-- o' takes the operation c at position j into o, whose result of type t stays: its operands are those of both but for results
-- of c, and it has the value that o had of the value of c
pub record TakesIn (md : Module) (j : ℕ) (o c o' : Op) (t u : HwType) : Type 0 where
  pub plain : is_anchor o' ≡ false
  pub same_types : (n : ℕ) → result_type o' n ≡ result_type o n
  pub within : (r : Ref) → In r o'.operands → In r c.operands ⊎ In r o.operands
  pub uses : uses_among j o'.operands + 1 ≡ uses_among j c.operands + uses_among j o.operands
  pub fits : Fits o'.kind o'.types (map (type_in md.ports md.body) o'.operands) t 0
  pub words : (τ : Ref → Word) → Held md.body (type_in md.ports md.body) τ → τ (result j 0) ≡ op_value c.kind c.types u 0 (map τ c.operands)
      → op_value o.kind o.types t 0 (map τ o.operands) ≡ op_value o'.kind o'.types t 0 (map τ o'.operands)
  pub first : has_again o'.results ≡ false
  pub alone : alone_cause md.ports md.body o' ≡ None
  pub printable : IsPrintableOp md.ports md.body o'
  pub lighter : (inner : Name → ℕ) → kind_weight inner o'.kind o'.types (length o'.operands)
      ≤ kind_weight inner o.kind o.types (length o.operands) + kind_weight inner c.kind c.types (length c.operands)
  pub smaller : op_measure o' < op_measure o + op_measure c

-- the operation c at position j made the operand of a number of o, at position i, and has no other use
pub record IsNest (md : Module) (i : ℕ) (o : Op) (n j : ℕ) (c : Op) : Type 0 where
  pub there : slice_get md.body i ≡ Some o
  pub made : is_made o.kind ≡ true
  pub inside : slice_get md.body j ≡ Some c
  pub inner_made : is_made c.kind ≡ true
  pub pure : is_pure c.kind ≡ true
  pub other : j ≡ i → ⊥
  pub named : slice_get o.operands n ≡ Some (result j 0)
  pub once : use_count j md.body ≡ 1

-- an operand that is found is nested so, where both operations are made of their operands
pub found_nest : (test : Kind → Bool) (md : Module) (i : ℕ) (o : Op) (n : Nested) → slice_get md.body i ≡ Some o → IsNested test md.body i o.operands n
    → is_made o.kind ≡ true → is_made n.inner.kind ≡ true → is_pure n.inner.kind ≡ true → IsNest md i o n.number n.position n.inner
found_nest test md i o n at found outer inner plain = record {
  there = at;
  made = outer;
  inside = found.there;
  inner_made = inner;
  pure = plain;
  other = found.other;
  named = found.named;
  once = found.once;
}

-- ---- an operation of a fit design

module _ (d : Design) (fit : IsFit d) (k : ℕ) (md : Module) (at : slice_get d k ≡ Some md) (i : ℕ) (o : Op) (n j : ℕ) (c : Op) (nest : IsNest md i o n j c)
    (t u : HwType) (typed : result_type o 0 ≡ Some t) (inner_typed : result_type c 0 ≡ Some u) (o' : Op) (takes : TakesIn md j o c o' t u) where
  -- ---- the outer operation is changed

  fits : OpFits (type_in md.ports md.body) o'
  fits zero v is =
      let both : Some t ≡ Some v = sym typed ∙ sym (takes.same_types 0) ∙ is in
      let same : t ≡ v = cc in
      subst (λ z. Fits o'.kind o'.types (map (type_in md.ports md.body) o'.operands) z 0) same takes.fits
  fits (suc m) v is =
      let clash : None ≡ Some v = sym (op_has_one d fit k md at i o nest.there nest.made m) ∙ sym (takes.same_types (suc m)) ∙ is in cc

  lower : (h : Ref → ℕ) → LocalHeight md.body h → (m : ℕ) (v : HwType) → result_type o m ≡ Some v → (r : Ref) → In r o'.operands → h r < h (result i m)
  lower h local m v is r here = go (takes.within r here)
    where
      go : In r c.operands ⊎ In r o.operands → h r < h (result i m)
      go (inr own) = operand_lower md.body h local i m o v nest.there (made_plain o.kind nest.made) is r own
      go (inl own) =
          let first : h r < h (result j 0) = operand_lower md.body h local j 0 c u nest.inside (made_plain c.kind nest.inner_made) inner_typed r own in
          let second : h (result j 0) < h (result i m) =
          operand_lower md.body h local i m o v nest.there (made_plain o.kind nest.made) is (result j 0) (In-slice_get (result j 0) o.operands n nest.named) in
          omega arith

  inner_word : (τ : Ref → Word) → HoldsBut md.body τ (λ m. m ≡ i) → τ (result j 0) ≡ op_value c.kind c.types u 0 (map τ c.operands)
  inner_word τ holds =
      holds.result_is j 0 (op_value c.kind c.types u 0 (map τ c.operands)) nest.other
      (ap (word_of τ 0) nest.inside ∙ plain_word τ 0 c (made_plain c.kind nest.inner_made) ∙ ap (λ z. Some (result_word τ c 0 z)) inner_typed)

  same_words : (τ : Ref → Word) → HoldsBut md.body τ (λ m. m ≡ i) → Wide md.ports md.body τ → (m : ℕ) (v : HwType) → result_type o m ≡ Some v
      → result_word τ o m (Some v) ≡ result_word τ o' m (Some v)
  same_words τ holds wide zero v is =
      let both : Some t ≡ Some v = sym typed ∙ is in
      let same : t ≡ v = cc in
      subst (λ z. op_value o.kind o.types z 0 (map τ o.operands) ≡ op_value o'.kind o'.types z 0 (map τ o'.operands)) same
      (takes.words τ (op_held d fit k md at i o nest.there nest.made τ holds wide) (inner_word τ holds))
  same_words τ holds wide (suc m) v is = let clash : None ≡ Some v = sym (op_has_one d fit k md at i o nest.there nest.made m) ∙ is in cc

  change : InPlace md i o o'
  change = record {
    there = nest.there;
    old_plain = made_plain o.kind nest.made;
    new_plain = takes.plain;
    same_types = takes.same_types;
    fits = fits;
    lower = lower;
    words = same_words;
  }

  all_there : (qs : List Ref) → ((r : Ref) → In r qs → In r c.operands ⊎ In r o.operands) → has_undefined md.ports md.body qs ≡ false
  all_there [] within = refl
  all_there (q ∷ qs) within =
      ap (λ b. cond b (has_undefined md.ports md.body qs) true) (here (within q (inl refl))) ∙ all_there qs (λ r later. within r (inr later))
    where
      here : In q c.operands ⊎ In q o.operands → is_some (type_in md.ports md.body q) ≡ true
      here (inl own) = operand_there d fit k md at j c q nest.inside own
      here (inr own) = operand_there d fit k md at i o q nest.there own

  values : value_cause md.ports md.body o' ≡ None
  values = rw (takes.first, all_there o'.operands takes.within) refl

  in_place : InPlaceFits md o o'
  in_place = record {
    known = λ is. let clash : true ≡ false = sym is ∙ made_no_number o.kind nest.made in cc;
    constant = λ is. let clash : true ≡ false = sym is ∙ made_no_constant o.kind nest.made in cc;
    fits = record { values = values; alone = takes.alone; printable = takes.printable };
  }

  -- ---- the design after that

  -- the operation that was taken in has no uses
  unused_between : is_used j (set md.body i o') ≡ false
  unused_between =
      let changed : uses_among j o.operands + use_count j (set md.body i o') ≡ uses_among j o'.operands + use_count j md.body = uses-set j md.body i o o' nest.there in
      let both : uses_among j o.operands + uses_among j c.operands ≤ use_count j md.body = uses_of_two j md.body i j o c nest.other nest.there nest.inside in
      let one : 1 ≤ uses_among j o.operands = named_once j n o.operands nest.named in
      let count : use_count j md.body ≡ 1 = nest.once in
      let new : uses_among j o'.operands + 1 ≡ uses_among j c.operands + uses_among j o.operands = takes.uses in
      unused_then j (set md.body i o') (omega arith)

  inside_between : slice_get (set md.body i o') j ≡ Some c
  inside_between = slice_get-set_other md.body i j o' nest.other ∙ nest.inside

  at_between : slice_get (with_body d k md (set md.body i o')) k ≡ Some (record md { body = set md.body i o' })
  at_between = slice_get-set_same d k (record md { body = set md.body i o' }) (slice_get_within d k md at)

  fit_between : IsFit (with_body d k md (set md.body i o'))
  fit_between = fit_in_place d k md i o o' fit at change in_place

  steady_between : IsSteady d (with_body d k md (set md.body i o'))
  steady_between =
      steady_with_body d k md (set md.body i o') at (replace_op_preserves d k md i o o' fit.valid at change) fit_between
      (shape_set md.body i o o' nest.there (made_plain o.kind nest.made) takes.plain)

  -- ---- the operation that was taken in goes

  steady_after : IsSteady d (with_body d k md (erase_op j undefined (set md.body i o')))
  steady_after =
      let taken =
      unused_taken (with_body d k md (set md.body i o')) fit_between k (record md { body = set md.body i o' }) at_between j c inside_between nest.pure unused_between in
      subst (IsSteady d) (set-set d k (record md { body = set md.body i o' }) (record md { body = erase_op j undefined (set md.body i o') }))
      (steady_then d (with_body d k md (set md.body i o')) (with_body (with_body d k md (set md.body i o')) k (record md { body = set md.body i o' }) (erase_op j undefined (set md.body i o')))
      steady_between taken.steady)

  body_lighter : (inner : Name → ℕ) → body_weight inner (erase_op j undefined (set md.body i o')) ≤ body_weight inner md.body
  body_lighter inner =
      let out : kind_weight inner c.kind c.types (length c.operands) + body_weight inner (erase_op j undefined (set md.body i o')) ≡ body_weight inner (set md.body i o') =
      weight_taken_out inner (set md.body i o') j c undefined inside_between in
      let changed : kind_weight inner o.kind o.types (length o.operands) + body_weight inner (set md.body i o')
      ≡ kind_weight inner o'.kind o'.types (length o'.operands) + body_weight inner md.body = weight-set inner md.body i o o' nest.there in
      let less : kind_weight inner o'.kind o'.types (length o'.operands)
      ≤ kind_weight inner o.kind o.types (length o.operands) + kind_weight inner c.kind c.types (length c.operands) = takes.lighter inner in
      omega arith

  body_smaller : measure (erase_op j undefined (set md.body i o')) < measure md.body
  body_smaller =
      let same : measure (erase_op j undefined (set md.body i o')) ≡ measure (remove (set md.body i o') j) =
      measure-retarget (without j (without j undefined undefined)) (remove (set md.body i o') j) in
      let out : op_measure c + measure (remove (set md.body i o') j) ≡ measure (set md.body i o') = measure-remove (set md.body i o') j c inside_between in
      let changed : op_measure o + measure (set md.body i o') ≡ op_measure o' + measure md.body = measure-set md.body i o o' nest.there in
      let less : op_measure o' < op_measure o + op_measure c = takes.smaller in
      omega arith

  pub nest_joined : IsFold d k md (erase_op j undefined (set md.body i o'))
  nest_joined = record {
    steady = steady_after;
    lighter = weight_with_body d k md (erase_op j undefined (set md.body i o')) at body_lighter;
    smaller = inl body_smaller;
  }
