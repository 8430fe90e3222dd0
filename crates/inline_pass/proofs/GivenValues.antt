-- The operations of a module that are read one after another up to its output, of which only the operands count.
use Rattle.std.proofs.Common.{◌≡◌, true, false, cond, List, [], ◌∷◌, ◌++◌, map, Some, refl, sym, ap, subst, ◌∙◌}
use Rattle.std.proofs.lemmas.List.{append_assoc}
use Rattle.hw_model.specs.Design.{is_output_kind}
use Rattle.ir_store.specs.declared.operation.OpId.{OpId}
use Rattle.ir_store.specs.declared.operation.Value.{Value}
use Rattle.ir_store.specs.Bodies.{op_id}
use Rattle.ir_store.specs.BodyOps.{BodyOp, ids_in, op_at}
use Rattle.ir_store.specs.Live.{AreDistinct}
use Rattle.inline_pass.specs.MovedOps.{output_values}
use Rattle.inline_pass.proofs.ReadingModules.{IsNext}
use Rattle.body_edits.proofs.IdLists.{ids_append, once_before, middle_found}

pub record IsSearching (ops : List BodyOp) (left : List OpId) : Type 0 where
  pub done : List BodyOp
  pub rest : List BodyOp
  pub all : ops ≡ done ++ rest
  pub left_are : left ≡ map op_id (ids_in rest)
  pub given : output_values ops ≡ output_values rest

pub search_begins : (ops : List BodyOp) (left : List OpId) → left ≡ map op_id (ids_in ops) → IsSearching ops left
search_begins ops left is = record { done = []; rest = ops; all = refl; left_are = is; given = refl }

next_found : (ops : List BodyOp) (left left' : List OpId) (id : OpId) (o : BodyOp) → AreDistinct (ids_in ops) → (s : IsSearching ops left) → left ≡ id ∷ left' → op_at ops id.index ≡ Some o → IsNext id o left' s.rest
next_found ops left left' id o once s steps found = go s.rest refl
  where
    go : (rest : List BodyOp) → s.rest ≡ rest → IsNext id o left' rest
    go [] is = let clash : id ∷ left' ≡ [] = sym steps ∙ s.left_are ∙ ap (λ (x : List BodyOp). map op_id (ids_in x)) is in cc
    go (p ∷ others) is =
        let lists : id ∷ left' ≡ op_id p.id ∷ map op_id (ids_in others) = sym steps ∙ s.left_are ∙ ap (λ (x : List BodyOp). map op_id (ids_in x)) is in
        let own : op_id p.id ≡ id = cc in
        let index : p.id ≡ id.index = ap (λ (i : OpId). i.index) own in
        let whole : ops ≡ s.done ++ (p ∷ others) = s.all ∙ ap (λ x. s.done ++ x) is in
        let none = once_before (ids_in s.done) p.id (ids_in others) (subst AreDistinct (ap ids_in whole ∙ ids_append s.done (p ∷ others)) once) in
        let here : op_at ops id.index ≡ Some p = ap (op_at ops) (sym index) ∙ ap (λ x. op_at x p.id) whole ∙ middle_found s.done p others none in
        let same : p ≡ o = cc in
        record { others = others; rest_is = ap (λ q. q ∷ others) same; own = ap (λ (q : BodyOp). q.id) (sym same) ∙ index; left_are = cc }

-- an output ends it
pub search_ends : (ops : List BodyOp) (left left' : List OpId) (id : OpId) (o : BodyOp) → AreDistinct (ids_in ops) → IsSearching ops left → left ≡ id ∷ left' → op_at ops id.index ≡ Some o
    → is_output_kind o.parts.kind ≡ true → o.operands ≡ output_values ops
search_ends ops left left' id o once s steps found ends =
    let n = next_found ops left left' id o once s steps found in
    sym (s.given ∙ ap output_values n.rest_is ∙ ap (λ b. cond b o.operands (output_values n.others)) ends)

-- another operation is passed
pub search_goes : (ops : List BodyOp) (left left' : List OpId) (id : OpId) (o : BodyOp) → AreDistinct (ids_in ops) → IsSearching ops left → left ≡ id ∷ left' → op_at ops id.index ≡ Some o
    → is_output_kind o.parts.kind ≡ false → IsSearching ops left'
search_goes ops left left' id o once s steps found more =
    let n = next_found ops left left' id o once s steps found in
    record {
      done = s.done ++ (o ∷ []);
      rest = n.others;
      all = s.all ∙ ap (λ x. s.done ++ x) n.rest_is ∙ sym (append_assoc s.done (o ∷ []) n.others);
      left_are = n.left_are;
      given = s.given ∙ ap output_values n.rest_is ∙ ap (λ b. cond b o.operands (output_values n.others)) more;
    }

-- without one nothing is given
pub search_none : (ops : List BodyOp) (left : List OpId) → IsSearching ops left → left ≡ [] → output_values ops ≡ []
search_none ops left s none = s.given ∙ go s.rest (sym s.left_are ∙ none)
  where
    go : (rest : List BodyOp) → map op_id (ids_in rest) ≡ [] → output_values rest ≡ []
    go [] is = refl
    go (o ∷ rest) is = cc
