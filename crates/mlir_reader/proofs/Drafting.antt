-- Operations that are read one by one: what one more adds to a text, what names stand for later, and what a step of a draft holds.
use Rattle.std.proofs.Common.{◌≡◌, ℕ, suc, ◌+◌, ◌<◌, ◌^◌, Bool, true, cond, List, [], ◌∷◌, ◌++◌, map, length, refl, ap, sym, subst, ◌∙◌, append_assoc, arith}
use Rattle.std.specs.Prelude.{Option, Some, None, is_some}
use Rattle.std.proofs.lemmas.List.{map-append, append-nil, length-append, length-map}
use Rattle.hw_model.specs.Design.{Op, same_name}
use Rattle.ir_store.specs.declared.body.Body.{Body}
use Rattle.ir_store.specs.Bodies.{ops_of, ids_of, gaps}
use Rattle.ir_store.specs.Numbered.{op_by}
use Rattle.ir_store.specs.BodyOps.{BodyOp, ids_in}
use Rattle.mlir_reader.specs.Drafts.{Keeps, Drafts, IsBody, operation_of_draft}
use Rattle.mlir_reader.specs.Held.{draft_operations, IsNumbered, HoldsSame, HoldsMore}
use Rattle.mlir_reader.specs.Marked.{operation_marked}
use Rattle.mlir_reader.specs.Meanings.{meanings_of, numbers_below}
use Rattle.mlir_operations.specs.OperationText.{OperationText}
use Rattle.mlir_reader.specs.Resolving.{Meanings, Defined, Definition, marks, known_or, with_definition, with_definitions, operation_definitions, body_definitions, operation_at, operations_from}
use Rattle.mlir_reader.specs.declared.draft.Draft.{Draft}
use Rattle.mlir_reader.specs.declared.draft.DraftOperation.{DraftOperation}
use Rattle.mlir_reader.specs.declared.names.Names.{Names}
use Rattle.mlir_reader.proofs.BodySteps.{count_is, numbers_more}
use Rattle.mlir_reader.proofs.Defining.{definitions_append}

-- ---- one more operation

after_first : (i n : ℕ) → i + 1 + n ≡ i + suc n
after_first i n = omega arith

from_first : (n : ℕ) → n ≡ 0 + n
from_first n = omega arith

at_first : (i : ℕ) → i + 0 ≡ i
at_first i = omega arith

pub definitions_more : (i : ℕ) (os : List OperationText) (o : OperationText)
    → body_definitions i (os ++ o ∷ []) ≡ body_definitions i os ++ operation_definitions (i + length os) o
definitions_more i [] o = append-nil (operation_definitions i o) ∙ ap (λ j. operation_definitions j o) (sym (at_first i))
definitions_more i (p ∷ os) o =
    ap (λ ds. operation_definitions i p ++ ds) (definitions_more (i + 1) os o)
    ∙ sym (append_assoc (operation_definitions i p) (body_definitions (i + 1) os) (operation_definitions (i + 1 + length os) o))
    ∙ ap (λ j. body_definitions i (p ∷ os) ++ operation_definitions j o) (after_first i (length os))

pub operations_more : (later seen : Meanings) (i : ℕ) (os : List OperationText) (o : OperationText)
    → operations_from later seen i (os ++ o ∷ []) ≡ operations_from later seen i os ++ operation_at later (with_definitions seen (body_definitions i os)) (i + length os) o ∷ []
operations_more later seen i [] o = ap (λ j. operation_at later seen j o ∷ []) (sym (at_first i))
operations_more later seen i (p ∷ os) o =
    let first = operation_definitions i p in
    let others = body_definitions (i + 1) os in
    ap (λ ops. operation_at later seen i p ∷ ops)
    (operations_more later (with_definitions seen first) (i + 1) os o
    ∙ ap (λ means. operations_from later (with_definitions seen first) (i + 1) os ++ operation_at later means (i + 1 + length os) o ∷ []) (sym (definitions_append seen first others))
    ∙ ap (λ j. operations_from later (with_definitions seen first) (i + 1) os ++ operation_at later (with_definitions seen (body_definitions i (p ∷ os))) j o ∷ []) (after_first i (length os)))

pub operations_counted : (later seen : Meanings) (i : ℕ) (os : List OperationText) → length (operations_from later seen i os) ≡ length os
operations_counted later seen i [] = refl
operations_counted later seen i (o ∷ os) = ap suc (operations_counted later (with_definitions seen (operation_definitions i o)) (i + 1) os)

-- ---- what names stand for later

pub keeps_all : (means : Meanings) → Keeps means means
keeps_all means name h = refl

pub keeps_then : (first second third : Meanings) → Keeps first second → Keeps second third → Keeps first third
keeps_then first second third k l name h = let e = k name h in l name (ap is_some e ∙ h) ∙ e

one_kept : (known new : Option Defined) → is_some known ≡ true → known_or known new ≡ known
one_kept (Some d) new h = refl
one_kept None new h = cc

definition_kept : (means : Meanings) (d : Definition) → Keeps means (with_definition means d)
definition_kept means d name h = one_kept (means name) (cond (same_name name d.name) (Some d.defined) None) h

pub definitions_kept : (means : Meanings) (ds : List Definition) → Keeps means (with_definitions means ds)
definitions_kept means [] = keeps_all means
definitions_kept means (d ∷ ds) =
    let one = with_definition means d in
    keeps_then means one (with_definitions one ds) (definition_kept means d) (definitions_kept one ds)

-- ---- what a draft holds

module _ {A B : Type 0} (f : A → B) where
  -- one that waits stands after those that are done
  pub moved : (done new : List B) (b : B) (a : A) (rest next : List A) → new ≡ done ++ b ∷ [] → b ≡ f a → rest ≡ a ∷ next
      → new ++ map f next ≡ done ++ map f rest
  moved done new b a rest next e s r =
      ap (λ bs. bs ++ map f next) e ∙ append_assoc done (b ∷ []) (map f next) ∙ ap (λ x. done ++ x ∷ map f next) s
      ∙ ap (λ xs. done ++ map f xs) (sym r)

  -- one more waits
  pub waits : (done : List B) (a : A) (rest more : List A) → more ≡ rest ++ a ∷ [] → done ++ map f more ≡ (done ++ map f rest) ++ f a ∷ []
  waits done a rest more e =
      ap (λ xs. done ++ map f xs) e ∙ ap (λ bs. done ++ bs) (map-append f rest (a ∷ [])) ∙ sym (append_assoc done (map f rest) (f a ∷ []))

  -- one more is done, and none waits
  pub passes : (done new : List B) (b : B) (rest : List A) → new ≡ done ++ b ∷ [] → rest ≡ []
      → new ++ map f rest ≡ (done ++ map f rest) ++ b ∷ []
  passes done new b rest e r =
      rw r (append-nil new ∙ e ∙ ap (λ bs. bs ++ b ∷ []) (sym (append-nil done)))

-- one more id
pub numbered_more : (done new : List BodyOp) (op : BodyOp) → new ≡ done ++ op ∷ [] → ids_in done ≡ numbers_below (length (ids_in done))
    → op.id ≡ length (ids_in done) → ids_in new ≡ numbers_below (length (ids_in new))
numbered_more done new op e ids next =
    let n = length (ids_in done) in
    let more : ids_in new ≡ numbers_below (n + 1) = ap ids_in e ∙ map-append (λ (o : BodyOp). o.id) done (op ∷ []) ∙ numbers_more (ids_in done) n op.id ids next in
    more ∙ ap numbers_below (sym (count_is (ids_in new) (n + 1) more))

pub same_all : (d : Draft) → HoldsSame d d
same_all d = record { names = refl; count = refl; ops = λ later k. refl; numbered = λ n. n }

pub same_then : {first second third : Draft} → HoldsSame first second → HoldsSame second third → HoldsSame first third
same_then s t = record {
  names = t.names ∙ s.names;
  count = t.count ∙ s.count;
  ops = λ later k. t.ops later (subst (λ (n : Names). Keeps (meanings_of n) later) (sym s.names) k) ∙ s.ops later k;
  numbered = λ n. t.numbered (s.numbered n);
}

pub more_then : {first second third : Draft} {op : Meanings → Op} → HoldsMore first op second → HoldsSame second third → HoldsMore first op third
more_then s t = record {
  names = t.names ∙ s.names;
  count = t.count ∙ s.count;
  ops = λ later k. t.ops later (subst (λ (n : Names). Keeps (meanings_of n) later) (sym s.names) k) ∙ s.ops later k;
  numbered = λ n. t.numbered (s.numbered n);
}

-- an operation waits after the others
pub waits_more : (old new : Draft) (d : DraftOperation) (op : Meanings → Op) → new.names ≡ old.names → new.count ≡ old.count → new.body ≡ old.body
    → new.waiting.items ≡ old.waiting.items ++ d ∷ [] → ((later : Meanings) → operation_of_draft later d ≡ op later) → HoldsMore old op new
waits_more old new d op n c b w e = record {
  names = n;
  count = c;
  ops = λ later k.
      ap (λ (body : Body). map (op_by (λ i. i)) (ops_of body) ++ map (operation_of_draft later) new.waiting.items) b
      ∙ waits (operation_of_draft later) (map (op_by (λ i. i)) (ops_of old.body)) d old.waiting.items new.waiting.items w
      ∙ ap (λ o. draft_operations later old ++ o ∷ []) (e later);
  numbered = λ before. subst IsNumbered (sym b) before;
}

-- an operation is put into the body, where none waits
pub puts_more : (old new : Draft) (b : Op) (op : Meanings → Op) → new.names ≡ old.names → new.count ≡ old.count
    → map (op_by (λ i. i)) (ops_of new.body) ≡ map (op_by (λ i. i)) (ops_of old.body) ++ b ∷ [] → (IsNumbered old.body → IsNumbered new.body)
    → new.waiting.items ≡ old.waiting.items → old.waiting.items ≡ [] → ((later : Meanings) → Keeps (meanings_of old.names) later → b ≡ op later) → HoldsMore old op new
puts_more old new b op n c added numbered same none e = record {
  names = n;
  count = c;
  ops = λ later k.
      ap (λ ds. map (op_by (λ i. i)) (ops_of new.body) ++ map (operation_of_draft later) ds) same
      ∙ passes (operation_of_draft later) (map (op_by (λ i. i)) (ops_of old.body)) (map (op_by (λ i. i)) (ops_of new.body)) b old.waiting.items added none
      ∙ ap (λ o. draft_operations later old ++ o ∷ []) (e later k);
  numbered = numbered;
}

-- ---- whole drafts

counted : (means : Meanings) (d : Draft) → length (draft_operations means d) ≡ length (ids_of d.body) + length d.waiting.items
counted means d =
    length-append (map (op_by (λ i. i)) (ops_of d.body)) (map (operation_of_draft means) d.waiting.items)
    ∙ ap (λ n. n + length (map (operation_of_draft means) d.waiting.items)) (length-map (ops_of d.body) (op_by (λ i. i)) ∙ sym (length-map (ops_of d.body) (λ (o : BodyOp). o.id)))
    ∙ ap (λ n. length (ids_of d.body) + n) (length-map d.waiting.items (operation_of_draft means))

module _ (seen : Meanings) (os : List OperationText) (o : OperationText) (old mid new : Draft) (found : List Bool) where
  -- one more operation is read, and its names are defined before it
  pub record IsRead : Type 0 where
    pub means : meanings_of mid.names ≡ with_definitions (meanings_of old.names) (operation_definitions old.count o)
    pub count : mid.count ≡ old.count + 1
    pub few : old.count + 2 < 2 ^ 32
    pub ops : ops_of mid.body ≡ ops_of old.body
    pub gaps : gaps mid.body ≡ gaps old.body
    pub waiting : mid.waiting.items ≡ old.waiting.items
    pub marked : found ≡ marks (meanings_of old.names) (operation_definitions old.count o)

  means_more : Drafts seen os old → IsRead → HoldsMore mid (λ later. operation_marked later found o) new → meanings_of new.names ≡ with_definitions seen (body_definitions 0 (os ++ o ∷ []))
  means_more h r m =
      ap meanings_of m.names ∙ r.means ∙ ap (λ f. with_definitions f (operation_definitions old.count o)) h.means
      ∙ ap (λ j. with_definitions (with_definitions seen (body_definitions 0 os)) (operation_definitions j o)) (h.count ∙ from_first (length os))
      ∙ sym (definitions_append seen (body_definitions 0 os) (operation_definitions (0 + length os) o))
      ∙ ap (with_definitions seen) (sym (definitions_more 0 os o))

  ops_more : Drafts seen os old → IsRead → HoldsMore mid (λ later. operation_marked later found o) new → (later : Meanings) → Keeps (meanings_of new.names) later
      → draft_operations later new ≡ operations_from later seen 0 (os ++ o ∷ [])
  ops_more h r m later k =
      let before = meanings_of old.names in
      let defined : Keeps before (meanings_of mid.names) = subst (λ f. Keeps before f) (sym r.means) (definitions_kept before (operation_definitions old.count o)) in
      let following : Keeps (meanings_of mid.names) later = subst (λ (n : Names). Keeps (meanings_of n) later) m.names k in
      let kept = keeps_then before (meanings_of mid.names) later defined following in
      m.ops later following
      ∙ ap (λ bs. draft_operations later mid ++ operation_marked later bs o ∷ []) r.marked
      ∙ ap (λ ops. (map (op_by (λ i. i)) ops ++ map (operation_of_draft later) mid.waiting.items) ++ operation_at later before old.count o ∷ []) r.ops
      ∙ ap (λ ds. (map (op_by (λ i. i)) (ops_of old.body) ++ map (operation_of_draft later) ds) ++ operation_at later before old.count o ∷ []) r.waiting
      ∙ ap (λ ops. ops ++ operation_at later before old.count o ∷ []) (h.ops later kept)
      ∙ ap (λ f. operations_from later seen 0 os ++ operation_at later f old.count o ∷ []) h.means
      ∙ ap (λ j. operations_from later seen 0 os ++ operation_at later (with_definitions seen (body_definitions 0 os)) j o ∷ []) (h.count ∙ from_first (length os))
      ∙ sym (operations_more later seen 0 os o)

  pub drafts_more : Drafts seen os old → IsRead → HoldsMore mid (λ later. operation_marked later found o) new → Drafts seen (os ++ o ∷ []) new
  drafts_more h r m =
      let means = meanings_of new.names in
      let before : IsNumbered mid.body = (ap ids_in r.ops ∙ h.ids ∙ ap (λ ops. numbers_below (length (ids_in ops))) (sym r.ops), r.gaps ∙ h.gaps) in
      let ops = ops_more h r m in
      let one = length-append os (o ∷ []) in
      let now = m.count in
      let then = r.count in
      let known = h.count in
      let few = r.few in
      record {
        means = means_more h r m;
        ops = ops;
        ids = (m.numbered before).0;
        all = sym (counted means new) ∙ ap length (ops means (keeps_all means)) ∙ operations_counted means seen 0 (os ++ o ∷ []);
        count = omega (arith, one, now, then, known);
        few = omega (arith, one, known, few);
        gaps = (m.numbered before).1;
      }

-- the body of a draft of which all is read
pub body_done : (seen : Meanings) (os : List OperationText) (d : Draft) (body : Body) → Drafts seen os d
    → map (op_by (λ i. i)) (ops_of body) ≡ draft_operations (meanings_of d.names) d → IsNumbered body → IsBody seen os body
body_done seen os d body h e numbered =
    let means = meanings_of d.names in
    let all = e ∙ h.ops means (keeps_all means) in
    let count : length (ids_of body) ≡ length os =
    length-map (ops_of body) (λ (o : BodyOp). o.id) ∙ sym (length-map (ops_of body) (op_by (λ i. i))) ∙ ap length all ∙ operations_counted means seen 0 os in
    record {
      ops = all ∙ ap (λ f. operations_from f seen 0 os) h.means;
      ids = numbered.0 ∙ ap numbers_below count;
      few = h.few;
      gaps = numbered.1;
    }
