-- A walk over the ids of a body that reads its operations into entries.
use Rattle.std.proofs.Common.{◌≡◌, List, [], ◌∷◌, ◌++◌, map, Option, Some, sym, ap, ◌∙◌, append_assoc}
use Rattle.std.proofs.lemmas.List.{map_push}
use Rattle.hw_model.specs.Types.{HwType}
use Rattle.ir_store.specs.declared.operation.OpId.{OpId}
use Rattle.ir_store.specs.BodyOps.{BodyOp, op_at}
use Rattle.ir_store.proofs.Walks.{in_prefix, ops_at}
use Rattle.op_verifier.specs.declared.entries.Entry.{Entry}
use Rattle.op_verifier.specs.Entries.{op_in, types_beside, settled_for}

-- one step of the walk
pub walk_step : (ops : List BodyOp) (olds news : List Entry) (e : Entry) (i : OpId) (before left : List OpId) (o : BodyOp)
    → news ≡ olds ++ e ∷ [] → op_in e ≡ o → op_at ops i.index ≡ Some o → before ≡ i ∷ left
    → map op_in olds ++ ops_at ops before ≡ ops → map op_in news ++ ops_at ops left ≡ ops
walk_step ops olds news e i before left o pushed is found steps so_far =
    ap (λ (es : List Entry). map op_in es ++ ops_at ops left) pushed
    ∙ ap (λ (os : List BodyOp). os ++ ops_at ops left) (map_push op_in olds e)
    ∙ append_assoc (map op_in olds) (op_in e ∷ []) (ops_at ops left)
    ∙ ap (λ (p : BodyOp). map op_in olds ++ p ∷ ops_at ops left) is
    ∙ ap (λ (r : Option BodyOp). map op_in olds ++ in_prefix r (ops_at ops left)) (sym found)
    ∙ ap (λ (is : List OpId). map op_in olds ++ ops_at ops is) (sym steps)
    ∙ so_far

pub settled_step : (olds news : List Entry) (e : Entry) (o : BodyOp) → news ≡ olds ++ e ∷ [] → op_in e ≡ o → types_beside e ≡ settled_for o
    → map types_beside olds ≡ map settled_for (map op_in olds) → map types_beside news ≡ map settled_for (map op_in news)
settled_step olds news e o pushed is beside so_far =
    ap (λ (es : List Entry). map types_beside es) pushed
    ∙ map_push types_beside olds e
    ∙ ap (λ (ts : List (List (Option HwType))). ts ++ types_beside e ∷ []) so_far
    ∙ ap (λ (t : List (Option HwType)). map settled_for (map op_in olds) ++ t ∷ []) (beside ∙ ap settled_for (sym is))
    ∙ sym (ap (λ (es : List Entry). map settled_for (map op_in es)) pushed ∙ ap (map settled_for) (map_push op_in olds e) ∙ map_push settled_for (map op_in olds) (op_in e))
