-- The operations of a module that are read one after another up to its output.
use Rattle.std.proofs.Common.{◌≡◌, true, false, cond, List, [], ◌∷◌, ◌++◌, map, Some, refl, sym, ap, subst, ◌∙◌}
use Rattle.std.proofs.lemmas.List.{append_assoc, append-nil, map-append}
use Rattle.hw_model.specs.Types.{Name}
use Rattle.hw_model.specs.Design.{is_output_kind}
use Rattle.ir_store.specs.declared.operation.OpId.{OpId}
use Rattle.ir_store.specs.declared.operation.NewOp.{NewOp}
use Rattle.ir_store.specs.declared.operation.Value.{Value}
use Rattle.ir_store.specs.Bodies.{op_id}
use Rattle.ir_store.specs.BodyOps.{BodyOp, ids_in, op_at}
use Rattle.ir_store.specs.Live.{AreDistinct}
use Rattle.inline_pass.specs.MovedOps.{ops_before_output, output_values, copy_of, without_id, AreMoved}
use Rattle.body_edits.proofs.IdLists.{ids_append, once_before, middle_found}

pub record IsReading (u : Name) (ops : List BodyOp) (left : List OpId) (ids : List OpId) (copies : List NewOp) : Type 0 where
  pub done : List BodyOp
  pub rest : List BodyOp
  pub all : ops ≡ done ++ rest
  pub left_are : left ≡ map op_id (ids_in rest)
  pub before : ops_before_output ops ≡ done ++ ops_before_output rest
  pub given : output_values ops ≡ output_values rest
  pub ids_are : map (λ (i : OpId). i.index) ids ≡ ids_in done
  pub copies_are : map without_id copies ≡ map (copy_of u) done

pub reading_none : (u : Name) (ops : List BodyOp) (left : List OpId) (ids : List OpId) (copies : List NewOp) → left ≡ map op_id (ids_in ops) → ids ≡ [] → copies ≡ []
    → IsReading u ops left ids copies
reading_none u ops left ids copies is no_ids no_copies = record {
  done = [];
  rest = ops;
  all = refl;
  left_are = is;
  before = refl;
  given = refl;
  ids_are = ap (map (λ (i : OpId). i.index)) no_ids;
  copies_are = ap (map without_id) no_copies;
}

-- what is read next is the first that is left
pub record IsNext (id : OpId) (o : BodyOp) (left' : List OpId) (rest : List BodyOp) : Type 0 where
  pub others : List BodyOp
  pub rest_is : rest ≡ o ∷ others
  pub own : o.id ≡ id.index
  pub left_are : left' ≡ map op_id (ids_in others)

pub next_read : (u : Name) (ops : List BodyOp) (left left' : List OpId) (ids : List OpId) (copies : List NewOp) (id : OpId) (o : BodyOp) → AreDistinct (ids_in ops)
    → (r : IsReading u ops left ids copies) → left ≡ id ∷ left' → op_at ops id.index ≡ Some o → IsNext id o left' r.rest
next_read u ops left left' ids copies id o once r steps found = go r.rest refl
  where
    go : (rest : List BodyOp) → r.rest ≡ rest → IsNext id o left' rest
    go [] is = let clash : id ∷ left' ≡ [] = sym steps ∙ r.left_are ∙ ap (λ (x : List BodyOp). map op_id (ids_in x)) is in cc
    go (p ∷ others) is =
        let lists : id ∷ left' ≡ op_id p.id ∷ map op_id (ids_in others) = sym steps ∙ r.left_are ∙ ap (λ (x : List BodyOp). map op_id (ids_in x)) is in
        let own : op_id p.id ≡ id = cc in
        let index : p.id ≡ id.index = ap (λ (i : OpId). i.index) own in
        let whole : ops ≡ r.done ++ (p ∷ others) = r.all ∙ ap (λ x. r.done ++ x) is in
        let none = once_before (ids_in r.done) p.id (ids_in others) (subst AreDistinct (ap ids_in whole ∙ ids_append r.done (p ∷ others)) once) in
        let here : op_at ops id.index ≡ Some p = ap (op_at ops) (sym index) ∙ ap (λ x. op_at x p.id) whole ∙ middle_found r.done p others none in
        let same : p ≡ o = cc in
        record { others = others; rest_is = ap (λ q. q ∷ others) same; own = ap (λ (q : BodyOp). q.id) (sym same) ∙ index; left_are = cc }

-- an output ends it
pub reading_ended : (u : Name) (ops : List BodyOp) (left left' : List OpId) (ids : List OpId) (copies : List NewOp) (id : OpId) (o : BodyOp) (given : List Value) → AreDistinct (ids_in ops)
    → IsReading u ops left ids copies → left ≡ id ∷ left' → op_at ops id.index ≡ Some o → is_output_kind o.parts.kind ≡ true → given ≡ o.operands → AreMoved u ops ids copies given
reading_ended u ops left left' ids copies id o given once r steps found ends are =
    let n = next_read u ops left left' ids copies id o once r steps found in
    let none : ops_before_output r.rest ≡ [] = ap ops_before_output n.rest_is ∙ ap (λ b. cond b [] (o ∷ ops_before_output n.others)) ends in
    let before : ops_before_output ops ≡ r.done = r.before ∙ ap (λ x. r.done ++ x) none ∙ append-nil r.done in
    record {
      ids_are = r.ids_are ∙ ap ids_in (sym before);
      copies_are = r.copies_are ∙ ap (map (copy_of u)) (sym before);
      given_are = are ∙ sym (r.given ∙ ap output_values n.rest_is ∙ ap (λ b. cond b o.operands (output_values n.others)) ends);
    }

-- another operation is read
pub reading_more : (u : Name) (ops : List BodyOp) (left left' : List OpId) (ids : List OpId) (copies : List NewOp) (id : OpId) (o : BodyOp) (copy : NewOp) (ids' : List OpId) (copies' : List NewOp)
    → AreDistinct (ids_in ops) → IsReading u ops left ids copies → left ≡ id ∷ left' → op_at ops id.index ≡ Some o → is_output_kind o.parts.kind ≡ false → without_id copy ≡ copy_of u o
    → ids' ≡ ids ++ id ∷ [] → copies' ≡ copies ++ copy ∷ [] → IsReading u ops left' ids' copies'
reading_more u ops left left' ids copies id o copy ids' copies' once r steps found more is ids_more copies_more =
    let n = next_read u ops left left' ids copies id o once r steps found in
    record {
      done = r.done ++ (o ∷ []);
      rest = n.others;
      all = r.all ∙ ap (λ x. r.done ++ x) n.rest_is ∙ sym (append_assoc r.done (o ∷ []) n.others);
      left_are = n.left_are;
      before = r.before ∙ ap (λ x. r.done ++ ops_before_output x) n.rest_is ∙ ap (λ b. r.done ++ cond b [] (o ∷ ops_before_output n.others)) more
          ∙ sym (append_assoc r.done (o ∷ []) (ops_before_output n.others));
      given = r.given ∙ ap output_values n.rest_is ∙ ap (λ b. cond b o.operands (output_values n.others)) more;
      ids_are = ap (map (λ (i : OpId). i.index)) ids_more ∙ map-append (λ (i : OpId). i.index) ids (id ∷ []) ∙ ap (λ x. x ++ id.index ∷ []) r.ids_are ∙ ap (λ v. ids_in r.done ++ v ∷ []) (sym n.own) ∙ sym (ids_append r.done (o ∷ []));
      copies_are = ap (map without_id) copies_more ∙ map-append without_id copies (copy ∷ []) ∙ ap (λ x. x ++ without_id copy ∷ []) r.copies_are ∙ ap (λ v. map (copy_of u) r.done ++ v ∷ []) is
          ∙ sym (map-append (copy_of u) r.done (o ∷ []));
    }
