-- The form of a body in which an instance is inlined, by ids.
use Rattle.std.proofs.Common.{◌≡◌, ℕ, ◌+◌, List, [], ◌∷◌, ◌++◌, map, refl, sym, ap, ap₂, subst, ◌∙◌, arith}
use Rattle.std.proofs.lemmas.List.{append_assoc, map-append}
use Rattle.linked_lists.specs.Ids.{times}
use Rattle.linked_lists.proofs.IdLemmas.{times-append}
use Rattle.ir_store.specs.declared.operation.OpId.{OpId}
use Rattle.ir_store.specs.declared.operation.Value.{Value}
use Rattle.ir_store.specs.BodyOps.{BodyOp, ids_in, operands_at, taken_out}
use Rattle.ir_store.specs.Live.{AreDistinct}
use Rattle.inline_pass.specs.MovedOps.{operands_moved, all_put_before}
use Rattle.body_edits.proofs.IdLists.{ids_append, times_self, once_before, once_after, middle_changed, middle_out}
use Rattle.inline_pass.proofs.PuttingBefore.{put_between, times-all_put}
use Rattle.inline_pass.proofs.PutInlined.{ids_moved}
use Rattle.inline_pass.proofs.ResultsReplaced.{with_values, values_twice}

-- the operands of operations that stand together change
pub together_moved : (f : Value → Value) (prefix : List BodyOp) (ids : List OpId) (os back : List BodyOp) → ids_in os ≡ map (λ (i : OpId). i.index) ids
    → AreDistinct (ids_in (prefix ++ (os ++ back))) → operands_moved f ids (prefix ++ (os ++ back)) ≡ prefix ++ (map (with_values f) os ++ back)
together_moved f prefix [] [] back same once = refl
together_moved f prefix [] (o ∷ os) back same once = cc
together_moved f prefix (i ∷ ids) [] back same once = cc
together_moved f prefix (i ∷ ids) (o ∷ os) back same once =
    let first : o.id ≡ i.index = cc in
    let others : ids_in os ≡ map (λ (j : OpId). j.index) ids = cc in
    let apart : AreDistinct (ids_in prefix ++ (o.id ∷ ids_in (os ++ back))) = subst AreDistinct (ids_append prefix (o ∷ os ++ back)) once in
    let none = once_before (ids_in prefix) o.id (ids_in (os ++ back)) apart in
    let past = once_after (ids_in prefix) o.id (ids_in (os ++ back)) apart in
    let one = ap (λ n. operands_at n (map f) (prefix ++ (o ∷ os ++ back))) (sym first) ∙ middle_changed (map f) prefix o (os ++ back) none past in
    let shift : prefix ++ (with_values f o ∷ os ++ back) ≡ (prefix ++ (with_values f o ∷ [])) ++ (os ++ back) = sym (append_assoc prefix (with_values f o ∷ []) (os ++ back)) in
    let named : ids_in (prefix ++ (o ∷ os ++ back)) ≡ ids_in ((prefix ++ (with_values f o ∷ [])) ++ (os ++ back)) =
    ids_append prefix (o ∷ os ++ back) ∙ sym (ids_append prefix (with_values f o ∷ os ++ back)) ∙ ap ids_in shift in
    ap (operands_moved f ids) (one ∙ shift)
    ∙ together_moved f (prefix ++ (with_values f o ∷ [])) ids os back others (subst AreDistinct named once)
    ∙ append_assoc prefix (with_values f o ∷ []) (map (with_values f) os ++ back)

-- ---- wires and copies before the instance x

module _ (prefix : List BodyOp) (x : BodyOp) (back ws cs : List BodyOp) (wires copies : List OpId) (wires_are : ids_in ws ≡ map (λ (i : OpId). i.index) wires)
    (copies_are : ids_in cs ≡ map (λ (i : OpId). i.index) copies) (f : Value → Value) (after : List BodyOp)
    (is : after ≡ operands_moved f copies (operands_moved f wires (all_put_before x.id cs (all_put_before x.id ws (prefix ++ (x ∷ back))))))
    (once : AreDistinct (ids_in after)) where
  abbrev pub both_put : List BodyOp
  both_put = all_put_before x.id cs (all_put_before x.id ws (prefix ++ (x ∷ back)))

  once_put : AreDistinct (ids_in both_put)
  once_put = subst AreDistinct (ap ids_in is ∙ ids_moved f copies (operands_moved f wires both_put) ∙ ids_moved f wires both_put) once

  counts : (v : ℕ) → times v (ids_in both_put) ≡ times v (ids_in cs) + (times v (ids_in ws) + (times v (ids_in prefix) + times v (x.id ∷ ids_in back)))
  counts v =
      let a = times-all_put v x.id cs (all_put_before x.id ws (prefix ++ (x ∷ back))) in
      let b = times-all_put v x.id ws (prefix ++ (x ∷ back)) in
      let d = ap (times v) (ids_append prefix (x ∷ back)) ∙ times-append v (ids_in prefix) (x.id ∷ ids_in back) in
      omega (arith, a, b, d)

  none_in_prefix : times x.id (ids_in prefix) ≡ 0
  none_in_prefix = let few = once_put x.id in let all = counts x.id in let own = times_self x.id (ids_in back) in omega (arith, few, all, own)

  none_in_wires : times x.id (ids_in ws) ≡ 0
  none_in_wires = let few = once_put x.id in let all = counts x.id in let own = times_self x.id (ids_in back) in omega (arith, few, all, own)

  put_is : both_put ≡ prefix ++ (ws ++ (cs ++ (x ∷ back)))
  put_is =
      let none : times x.id (ids_in (prefix ++ ws)) ≡ 0 =
      (let split = ap (times x.id) (ids_append prefix ws) ∙ times-append x.id (ids_in prefix) (ids_in ws) in let a = none_in_prefix in let b = none_in_wires in omega (arith, split, a, b)) in
      ap (all_put_before x.id cs) (put_between prefix x back ws none_in_prefix ∙ sym (append_assoc prefix ws (x ∷ back)))
      ∙ put_between (prefix ++ ws) x back cs none ∙ append_assoc prefix ws (cs ++ (x ∷ back))

  -- the body with all of them
  pub form : after ≡ prefix ++ (map (with_values f) ws ++ (map (with_values f) cs ++ (x ∷ back)))
  form =
      let apart : AreDistinct (ids_in (prefix ++ (ws ++ (cs ++ (x ∷ back))))) = subst AreDistinct (ap ids_in put_is) once_put in
      let first = together_moved f prefix wires ws (cs ++ (x ∷ back)) wires_are apart in
      let shift : prefix ++ (map (with_values f) ws ++ (cs ++ (x ∷ back))) ≡ (prefix ++ map (with_values f) ws) ++ (cs ++ (x ∷ back)) = sym (append_assoc prefix (map (with_values f) ws) (cs ++ (x ∷ back))) in
      let moved_ids : ids_in (prefix ++ (ws ++ (cs ++ (x ∷ back)))) ≡ ids_in ((prefix ++ map (with_values f) ws) ++ (cs ++ (x ∷ back))) =
      sym (ids_moved f wires (prefix ++ (ws ++ (cs ++ (x ∷ back))))) ∙ ap ids_in (first ∙ shift) in
      is_there ∙ ap (operands_moved f copies) (first ∙ shift)
      ∙ together_moved f (prefix ++ map (with_values f) ws) copies cs (x ∷ back) copies_are (subst AreDistinct moved_ids apart)
      ∙ append_assoc prefix (map (with_values f) ws) (map (with_values f) cs ++ (x ∷ back))
    where
      is_there : after ≡ operands_moved f copies (operands_moved f wires (prefix ++ (ws ++ (cs ++ (x ∷ back)))))
      is_there = is ∙ ap (λ os. operands_moved f copies (operands_moved f wires os)) put_is

-- ---- then the instance is taken out

abbrev pub inlined_form : List BodyOp → List BodyOp → List BodyOp → List BodyOp → (Value → Value) → (Value → Value) → List BodyOp
inlined_form prefix ws cs back f r =
    map (with_values r) prefix ++ (map (with_values (λ v. r (f v))) ws ++ (map (with_values (λ v. r (f v))) cs ++ map (with_values r) back))

pub out_form : (prefix : List BodyOp) (x : BodyOp) (back ws cs : List BodyOp) (f r : Value → Value)
    → times x.id (ids_in (map (with_values r) (prefix ++ (map (with_values f) ws ++ map (with_values f) cs)))) ≡ 0
    → taken_out x.id (map (with_values r) (prefix ++ (map (with_values f) ws ++ (map (with_values f) cs ++ (x ∷ back))))) ≡ inlined_form prefix ws cs back f r
out_form prefix x back ws cs f r none =
    ap (taken_out x.id) (ap (map (with_values r)) (parts prefix (map (with_values f) ws) (map (with_values f) cs) (x ∷ back))
    ∙ map-append (with_values r) (prefix ++ (map (with_values f) ws ++ map (with_values f) cs)) (x ∷ back))
    ∙ middle_out (map (with_values r) (prefix ++ (map (with_values f) ws ++ map (with_values f) cs))) (with_values r x) (map (with_values r) back) none
    ∙ ap (λ os. os ++ map (with_values r) back) (map-append (with_values r) prefix (map (with_values f) ws ++ map (with_values f) cs)
    ∙ ap (λ os. map (with_values r) prefix ++ os) (map-append (with_values r) (map (with_values f) ws) (map (with_values f) cs)
    ∙ ap₂ (λ ps bs. ps ++ bs) (values_twice r f ws) (values_twice r f cs)))
    ∙ sym (parts (map (with_values r) prefix) (map (with_values (λ v. r (f v))) ws) (map (with_values (λ v. r (f v))) cs) (map (with_values r) back))
  where
    parts : (ps bs ds es : List BodyOp) → ps ++ (bs ++ (ds ++ es)) ≡ (ps ++ (bs ++ ds)) ++ es
    parts ps bs ds es = ap (λ os. ps ++ os) (sym (append_assoc bs ds es)) ∙ sym (append_assoc ps (bs ++ ds) es)
