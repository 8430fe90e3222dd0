-- A new operation that is put in the place of one and of another that made an operand of it.
use Rattle.std.proofs.Common.{◌≡◌, ◌⊎◌, ℕ, zero, suc, ◌<◌, Bool, true, false, cond, nat_eq, List, [], ◌∷◌, length, set, refl, sym, ap, ap₂, subst, ◌∙◌, inl, inr, arith}
use Rattle.std.specs.Prelude.{Contains, remove}
use Rattle.std.proofs.lemmas.Bool.{eqb-true}
use Rattle.wiring.specs.Wiring.{In}
use Rattle.wiring.proofs.Members.{In-slice_get}
use Rattle.hw_model.specs.Design.{Op}
use Rattle.hw_model.specs.Design.Ref.{undefined}
use Rattle.edit_laws.specs.Laws.{erase_op}
use Rattle.ir_store.specs.declared.body.Body.{Body}
use Rattle.ir_store.specs.declared.operation.OpId.{OpId}
use Rattle.ir_store.specs.Bodies.{ids_of, ops_of}
use Rattle.ir_store.specs.BodyOps.{taken_out, IsUnused}
use Rattle.ir_store.specs.Live.{AreLive}
use Rattle.ir_store.specs.Numbered.{position_of}
use Rattle.fold_laws.specs.Unused.{is_used}
use Rattle.fold_laws.proofs.NestedUses.{named_once, uses-set, uses_of_two, unused_then}
use Rattle.comb_fold.specs.Merges.{TakesBoth, IsJoined}
use Rattle.body_edits.specs.Replaced.{IsNamed, HasNamed, IsReplaced}
use Rattle.body_edits.specs.Views.{HasOp, body_ops, position_in}
use Rattle.comb_fold.proofs.NestedPattern.{within_ids}
use Rattle.body_edits.proofs.Positions.{position_there}
use Rattle.body_edits.proofs.TakenIn.{id_there, gone_seen, gone_ids}
use Rattle.body_edits.proofs.UnusedPattern.{body_unused}

-- its operands are operands of the body
pub takes_named : (os : List Op) (i j : ℕ) (o : Op) → TakesBoth os i j o → HasNamed os o
takes_named os i j o takes r here = go (takes.within r here)
  where
    go : In r takes.is.inner.operands ⊎ In r takes.is.outer.operands → IsNamed os r
    go (inl own) = record { op = takes.is.inner; there = In-slice_get takes.is.inner os j takes.is.inside; named = own }
    go (inr own) = record { op = takes.is.outer; there = In-slice_get takes.is.outer os i takes.is.there; named = own }

-- the position of an id that stays, once another one stands in a position
position_set : (ids : List ℕ) (i f x : ℕ) → (f ≡ x → ⊥) → (position_of ids x ≡ i → ⊥) → position_of (set ids i f) x ≡ position_of ids x
position_set [] i f x other here = refl
position_set (k ∷ ids) zero f x other here = go (nat_eq k x) here (nat_eq f x) refl
  where
    go : (b : Bool) → (cond b 0 (suc (position_of ids x)) ≡ 0 → ⊥) → (c : Bool) → nat_eq f x ≡ c → cond c 0 (suc (position_of ids x)) ≡ cond b 0 (suc (position_of ids x))
    go b here true is = absurd (other (eqb-true f x is))
    go true here false is = absurd (here refl)
    go false here false is = refl
position_set (k ∷ ids) (suc i) f x other here = go (nat_eq k x) here (position_set ids i f x other)
  where
    go : (b : Bool) → (cond b 0 (suc (position_of ids x)) ≡ suc i → ⊥) → ((position_of ids x ≡ i → ⊥) → position_of (set ids i f) x ≡ position_of ids x)
        → cond b 0 (suc (position_of (set ids i f) x)) ≡ cond b 0 (suc (position_of ids x))
    go true here rest = refl
    go false here rest = ap suc (rest (λ same. here (ap suc same)))

length_set : (ids : List ℕ) (i f : ℕ) → length (set ids i f) ≡ length ids
length_set [] i f = refl
length_set (k ∷ ids) zero f = refl
length_set (k ∷ ids) (suc i) f = ap suc (length_set ids i f)

module _ (b : Body) (op inner : OpId) (o : Op) (takes : TakesBoth (body_ops b) (position_in b op) (position_in b inner) o)
    (b' : Body) (put : IsReplaced b b' (position_in b op) o) where
  -- the other one is there
  inner_before : HasOp b inner
  inner_before = id_there b inner takes.is.inner takes.is.inside

  same_position : position_in b' inner ≡ position_in b inner
  unfolding position_in
  same_position =
      ap (λ ids. position_of ids inner.index) put.ids
      ∙ position_set (ids_of b) (position_of (ids_of b) op.index) put.fresh inner.index (λ same. put.is_fresh (subst (Contains (ids_of b)) (sym same) inner_before)) takes.is.other

  pub inner_after : HasOp b' inner
  unfolding position_in
  inner_after =
      let within = within_ids b (position_in b inner) takes.is.inner takes.is.inside in
      let same = same_position in
      let many : length (ids_of b') ≡ length (ids_of b) = ap length put.ids ∙ length_set (ids_of b) (position_in b op) put.fresh in
      position_there (ids_of b') inner.index (subst (λ k. k < length (ids_of b')) (sym same) (subst (λ m. position_in b inner < m) (sym many) within))

  no_uses : is_used (position_in b inner) (set (body_ops b) (position_in b op) o) ≡ false
  no_uses =
      let change = uses-set (position_in b inner) (body_ops b) (position_in b op) takes.is.outer o takes.is.there in
      let both = uses_of_two (position_in b inner) (body_ops b) (position_in b op) (position_in b inner) takes.is.outer takes.is.inner takes.is.other takes.is.there takes.is.inside in
      let named = named_once (position_in b inner) takes.number takes.is.outer.operands takes.is.named in
      let uses = takes.uses in
      let once = takes.is.once in
      unused_then (position_in b inner) (set (body_ops b) (position_in b op) o) (omega (arith, change, both, named, uses, once))

  -- nothing names it
  pub unused_after : AreLive (ops_of b') → IsUnused inner.index (ops_of b')
  unused_after live = body_unused b' inner live inner_after (ap₂ is_used same_position put.ops ∙ no_uses)

  -- it goes
  pub is_joined : AreLive (ops_of b') → (b'' : Body) → ops_of b'' ≡ taken_out inner.index (ops_of b') → IsJoined b b'' (position_in b op) (position_in b inner) o
  is_joined live b'' gone = record {
    ops = gone_seen b' b'' inner inner_after (unused_after live) gone ∙ ap₂ (λ k os. erase_op k undefined os) same_position put.ops;
    fresh = put.fresh;
    is_fresh = put.is_fresh;
    ids = gone_ids b' b'' inner gone ∙ ap₂ (λ ids k. remove ids k) put.ids same_position;
  }
