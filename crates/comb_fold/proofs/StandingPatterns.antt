-- Patterns by which a value stands for the only result of an operation of a body.
use Rattle.std.proofs.Common.{◌≡◌, ℕ, [], ◌∷◌, map, Some, slice_get, refl, ap, subst, ◌∙◌, option_and_then, option_map}
use Rattle.std.specs.Prelude.{remove}
use Rattle.hw_model.specs.KindViews.{kind_of}
use Rattle.hw_model.specs.Design.{Ref, Op}
use Rattle.edit_laws.specs.Laws.{erase_op}
use Rattle.ir_store.specs.declared.body.Body.{Body}
use Rattle.ir_store.specs.declared.operation.Value.{Value}
use Rattle.ir_store.specs.Bodies.{ids_of}
use Rattle.ir_store.specs.OperationViews.{types_in}
use Rattle.fold_laws.specs.Edits.Edit.{erased}
use Rattle.fold_laws.specs.Standing.{Stand, by_stand}
use Rattle.body_edits.specs.declared.site.Site.{Site}
use Rattle.body_edits.specs.FitBodies.{IsOfFit}
use Rattle.body_edits.specs.Folded.{IsFolded}
use Rattle.body_edits.specs.Replaceable.{MayStand}
use Rattle.comb_fold.specs.Patterns.{StandsInFit}
use Rattle.body_edits.specs.Sites.{ref_at, stand_of}
use Rattle.body_edits.specs.Views.{body_ops, value_ref, op_seen}
use Rattle.body_edits.proofs.IdsAfter.{unlisted}

-- the value of a site is that of its body
pub chosen_at : (stand : Stand) (b : Body) (s : Site) (v : Value) → s.body.now ≡ b → stand_of stand s ≡ Some (ref_at s v)
    → stand (body_ops b) (op_seen b s.op).kind (op_seen b s.op).types (op_seen b s.op).operands ≡ Some (value_ref b v)
chosen_at stand b s v of is =
    subst (λ (c : Body). stand (body_ops c) (kind_of s.op.kind.now) (types_in s.op.types.now) (map (value_ref c) s.op.operands.now) ≡ Some (value_ref c v)) of is

module _ (stand : Stand) (b : Body) (i : ℕ) (o : Op) (x : Ref) (there : slice_get (body_ops b) i ≡ Some o) (is : stand (body_ops b) o.kind o.types o.operands ≡ Some x) where
  -- it may stand there
  pub may_stand : StandsInFit stand → IsOfFit b → MayStand (body_ops b) i x
  may_stand shown of =
      subst (λ os. MayStand os i x) of.is_body
      (shown.may of.design of.number of.owner i o x of.fit of.there (ap (λ os. slice_get os i) of.is_body ∙ there) (ap (λ os. stand os o.kind o.types o.operands) of.is_body ∙ is))

  -- the pattern matches
  matched : by_stand stand (body_ops b) i ≡ Some (erased i x ∷ [])
  matched =
      ap (λ z. option_and_then (λ (p : Op). option_map (λ (y : Ref). erased i y ∷ []) (stand (body_ops b) p.kind p.types p.operands)) z) there
      ∙ ap (option_map (λ (y : Ref). erased i y ∷ [])) is

  -- the body is as the pattern makes it, once the value stands there
  pub stood_folded : (b' : Body) → body_ops b' ≡ erase_op i x (body_ops b) → ids_of b' ≡ remove (ids_of b) i → IsFolded (by_stand stand) b b' i
  stood_folded b' ops ids = record {
    edits = erased i x ∷ [];
    matches = matched;
    form = refl;
    ops = ops;
    fresh = (unlisted (ids_of b)).0;
    is_fresh = (unlisted (ids_of b)).1;
    ids = ids;
  }
