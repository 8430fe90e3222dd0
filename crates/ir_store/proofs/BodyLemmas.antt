-- Operations that stand by ids: what a change of the ids, the parts or the operands does to their list.
use Rattle.std.proofs.Common.{◌≡◌, ℕ, zero, suc, ◌+◌, ◌-◌, ◌<◌, ◌≤◌, Bool, true, false, cond, nat_eq, List, [], ◌∷◌, map, length, get_or, set, refl, ap, sym, ◌∙◌, arith}
use Rattle.std.specs.Prelude.{Option, Some, None, insert, remove, Contains}
use Rattle.std.proofs.lemmas.List.{get_or-set_same, get_or-set_other}
use Rattle.std.proofs.lemmas.Bool.{eqb-true, eqb-false}
use Rattle.ir_store.specs.declared.operation.OpId.{OpId}
use Rattle.ir_store.specs.declared.operation.Value.{Value}
use Rattle.ir_store.specs.OperationViews.{OpParts}
use Rattle.ir_store.specs.BodyOps.{BodyOp, no_parts, stored_op, op_at, put_before, position_before, operands_at, ids_in, taken_out, operand_count}
use Rattle.linked_lists.specs.Ids.{times, put_at}
use Rattle.ir_store.specs.declared.body.Body.{Body}
use Rattle.ir_store.specs.Bodies.{ids_of, op_id}
use Rattle.linked_lists.specs.Links.{walk}
use Rattle.ir_store.specs.Orders.{live_ids}
use Rattle.ir_store.specs.Live.{AreDistinct}
use Rattle.ir_store.specs.OperationViews.{parts_of}
use Rattle.linked_lists.proofs.IdLemmas.{get_or-put_at_same, get_or-put_at_other, times-append}

module _ (ps : List OpParts) (ls : List (List Value)) where
  -- the operation of an id is found
  pub op_found : (ids : List ℕ) (id : ℕ) → Contains ids id → op_at (map (stored_op ps ls) ids) id ≡ Some (stored_op ps ls id)
  op_found [] id (k, l, e) = absurd (omega arith)
  op_found (i ∷ ids) id h = go (nat_eq i id) refl (op_found ids id) h
    where
      go : (b : Bool) → nat_eq i id ≡ b → (Contains ids id → op_at (map (stored_op ps ls) ids) id ≡ Some (stored_op ps ls id)) → Contains (i ∷ ids) id →
          cond b (Some (stored_op ps ls i)) (op_at (map (stored_op ps ls) ids) id) ≡ Some (stored_op ps ls id)
      go true t r h = ap (λ n. Some (stored_op ps ls n)) (eqb-true i id t)
      go false t r (zero, l, e) = absurd (eqb-false i id t e)
      go false t r (suc k, l, e) = r (k, omega arith, e)

  -- a change of one list changes the operands of that operation alone
  pub operands_set : (f : List Value → List Value) (i : ℕ) → i < length ls → (ids : List ℕ) →
      map (stored_op ps (set ls i (f (get_or ls i [])))) ids ≡ operands_at i f (map (stored_op ps ls) ids)
  operands_set f i h [] = refl
  operands_set f i h (j ∷ ids) =
      go (nat_eq j i) refl (operands_set f i h ids)
    where
      go : (b : Bool) → nat_eq j i ≡ b → map (stored_op ps (set ls i (f (get_or ls i [])))) ids ≡ operands_at i f (map (stored_op ps ls) ids) →
          stored_op ps (set ls i (f (get_or ls i []))) j ∷ map (stored_op ps (set ls i (f (get_or ls i [])))) ids
          ≡ cond b (record (stored_op ps ls j) { operands = f (get_or ls j []) }) (stored_op ps ls j) ∷ operands_at i f (map (stored_op ps ls) ids)
      go true t r =
          let e : j ≡ i = eqb-true j i t in
          let s : get_or (set ls i (f (get_or ls i []))) j [] ≡ f (get_or ls j []) = rw e (get_or-set_same ls i (f (get_or ls i [])) [] h) in
          rw (s, r) refl
      go false t r =
          let s : get_or (set ls i (f (get_or ls i []))) j [] ≡ get_or ls j [] = get_or-set_other ls i j (f (get_or ls i [])) [] (eqb-false j i t) in
          rw (s, r) refl

-- what stands under other ids does not count
stored_same : (ps qs : List OpParts) (ls ms : List (List Value)) (id : ℕ) → ((j : ℕ) → (j ≡ id → ⊥) → get_or qs j no_parts ≡ get_or ps j no_parts) →
    ((j : ℕ) → (j ≡ id → ⊥) → get_or ms j [] ≡ get_or ls j []) → (ids : List ℕ) → times id ids ≡ 0 → map (stored_op qs ms) ids ≡ map (stored_op ps ls) ids
stored_same ps qs ls ms id f g [] e = refl
stored_same ps qs ls ms id f g (i ∷ ids) e = go (nat_eq i id) refl e (stored_same ps qs ls ms id f g ids)
  where
    go : (b : Bool) → nat_eq i id ≡ b → cond b (suc (times id ids)) (times id ids) ≡ 0 → (times id ids ≡ 0 → map (stored_op qs ms) ids ≡ map (stored_op ps ls) ids) →
        stored_op qs ms i ∷ map (stored_op qs ms) ids ≡ stored_op ps ls i ∷ map (stored_op ps ls) ids
    go true t e r = absurd (omega (arith, e))
    go false t e r = rw (f i (eqb-false i id t), g i (eqb-false i id t)) (ap (λ os. stored_op ps ls i ∷ os) (r e))

-- an id put into the ids puts its operation into the operations
put_in : (ps : List OpParts) (ls : List (List Value)) (before : Option OpId) (id : ℕ) (ids : List ℕ) →
    map (stored_op ps ls) (insert ids (position_before before ids) id) ≡ put_before before (stored_op ps ls id) (map (stored_op ps ls) ids)
put_in ps ls None id [] = refl
put_in ps ls None id (i ∷ ids) = ap (λ os. stored_op ps ls i ∷ os) (put_in ps ls None id ids)
put_in ps ls (Some b) id [] = refl
put_in ps ls (Some b) id (i ∷ ids) = go (nat_eq i b.index) (put_in ps ls (Some b) id ids)
  where
    go : (t : Bool) → map (stored_op ps ls) (insert ids (position_before (Some b) ids) id) ≡ put_before (Some b) (stored_op ps ls id) (map (stored_op ps ls) ids) →
        map (stored_op ps ls) (insert (i ∷ ids) (cond t 0 (suc (position_before (Some b) ids))) id)
        ≡ cond t (stored_op ps ls id ∷ stored_op ps ls i ∷ map (stored_op ps ls) ids) (stored_op ps ls i ∷ put_before (Some b) (stored_op ps ls id) (map (stored_op ps ls) ids))
    go true r = refl
    go false r = ap (λ os. stored_op ps ls i ∷ os) r

-- what a read at a position gives, in a list of what is seen
pub map_read : {X Y : Type 0} (f : X → Y) (xs : List X) (i : ℕ) (x : X) (d : Y) → i < length xs → x ≡ get_or xs i x → get_or (map f xs) i d ≡ f x
map_read f [] i x d h e = absurd (omega arith)
map_read f (y ∷ xs) zero x d h e = ap f (sym e)
map_read f (y ∷ xs) (suc i) x d h e = map_read f xs i x d (omega arith) e

-- an operation put in under an id that is not among the ids, by what each list is afterwards
pub op_put : (ps qs : List OpParts) (ls ms : List (List Value)) (before : Option OpId) (p : OpParts) (l : List Value) (ids js : List ℕ) (id position : ℕ) →
    id ≤ length ps → id ≤ length ls → times id ids ≡ 0 → qs ≡ put_at id p ps → ms ≡ put_at id l ls → js ≡ insert ids position id → position ≡ position_before before ids →
    map (stored_op qs ms) js ≡ put_before before (record { id = id; parts = p; operands = l }) (map (stored_op ps ls) ids)
op_put ps qs ls ms before p l ids js id position x y z e f g h =
    let q : get_or (put_at id p ps) id no_parts ≡ p = get_or-put_at_same id p no_parts ps x in
    let r : get_or (put_at id l ls) id [] ≡ l = get_or-put_at_same id l [] ls y in
    let s = stored_same ps (put_at id p ps) ls (put_at id l ls) id (λ j n. get_or-put_at_other id j p no_parts ps x n) (λ j n. get_or-put_at_other id j l [] ls y n) ids z in
    let t = put_in (put_at id p ps) (put_at id l ls) before id ids in
    rw (e, f, g, h) (rw (s, q, r) at t)

-- ---- an operation taken out

-- an id that is there has its position
pub position_within : (ids : List ℕ) (b : OpId) → Contains ids b.index → position_before (Some b) ids < length ids
position_within [] b (k, l, e) = absurd (omega arith)
position_within (i ∷ ids) b h = go (nat_eq i b.index) refl h (position_within ids b)
  where
    go : (t : Bool) → nat_eq i b.index ≡ t → Contains (i ∷ ids) b.index → (Contains ids b.index → position_before (Some b) ids < length ids) →
        cond t 0 (suc (position_before (Some b) ids)) < suc (length ids)
    go true t h r = omega arith
    go false t (zero, l, e) r = absurd (eqb-false i b.index t e)
    go false t (suc k, l, e) r = omega (arith, r (k, omega arith, e))

-- an id that has a position is there
pub position_there : (ids : List ℕ) (b : OpId) → position_before (Some b) ids < length ids → Contains ids b.index
position_there [] b h = absurd (omega arith)
position_there (i ∷ ids) b h = go (nat_eq i b.index) refl h (position_there ids b)
  where
    go : (t : Bool) → nat_eq i b.index ≡ t → cond t 0 (suc (position_before (Some b) ids)) < suc (length ids) → (position_before (Some b) ids < length ids → Contains ids b.index) → Contains (i ∷ ids) b.index
    go true t h r = (0, omega arith, eqb-true i b.index t)
    go false t h r = let q = r (omega (arith, h)) in (suc q.0, omega (arith, q.1), q.2)

-- without its first position an id stands there once less
times-gone : (ids : List ℕ) (b : OpId) → Contains ids b.index → times b.index (remove ids (position_before (Some b) ids)) + 1 ≡ times b.index ids
times-gone [] b (k, l, e) = absurd (omega arith)
times-gone (i ∷ ids) b h = go (nat_eq i b.index) refl h (times-gone ids b)
  where
    go : (t : Bool) → nat_eq i b.index ≡ t → Contains (i ∷ ids) b.index → (Contains ids b.index → times b.index (remove ids (position_before (Some b) ids)) + 1 ≡ times b.index ids) →
        times b.index (remove (i ∷ ids) (cond t 0 (suc (position_before (Some b) ids)))) + 1 ≡ cond t (suc (times b.index ids)) (times b.index ids)
    go true t h r = omega arith
    go false t (zero, l, e) r = absurd (eqb-false i b.index t e)
    go false t (suc k, l, e) r =
        rw t (r (k, omega arith, e))

-- the operations of the ids that are left
taken_ids : (ps : List OpParts) (ls : List (List Value)) (b : OpId) (ids : List ℕ) →
    map (stored_op ps ls) (remove ids (position_before (Some b) ids)) ≡ taken_out b.index (map (stored_op ps ls) ids)
taken_ids ps ls b [] = refl
taken_ids ps ls b (i ∷ ids) = go (nat_eq i b.index) (taken_ids ps ls b ids)
  where
    go : (t : Bool) → map (stored_op ps ls) (remove ids (position_before (Some b) ids)) ≡ taken_out b.index (map (stored_op ps ls) ids) →
        map (stored_op ps ls) (remove (i ∷ ids) (cond t 0 (suc (position_before (Some b) ids))))
        ≡ cond t (map (stored_op ps ls) ids) (stored_op ps ls i ∷ taken_out b.index (map (stored_op ps ls) ids))
    go true r = refl
    go false r = ap (λ os. stored_op ps ls i ∷ os) r

-- an operation taken out, by what each list is afterwards
pub op_gone : (ps qs : List OpParts) (ls ms : List (List Value)) (b : OpId) (p : OpParts) (l : List Value) (ids js : List ℕ) (position : ℕ) →
    Contains ids b.index → times b.index ids ≤ 1 → qs ≡ set ps b.index p → ms ≡ set ls b.index l → js ≡ remove ids position → position ≡ position_before (Some b) ids →
    map (stored_op qs ms) js ≡ taken_out b.index (map (stored_op ps ls) ids)
op_gone ps qs ls ms b p l ids js position h n e f g k =
    let z : times b.index (remove ids (position_before (Some b) ids)) ≡ 0 = omega (arith, n, times-gone ids b h) in
    let s = stored_same ps (set ps b.index p) ls (set ls b.index l) b.index (λ j o. get_or-set_other ps b.index j p no_parts o) (λ j o. get_or-set_other ls b.index j l [] o)
    (remove ids (position_before (Some b) ids)) z in
    rw (e, f, g, k) (s ∙ taken_ids ps ls b ids)

-- how many operands an operation has that is there
pub count_found : (ps : List OpParts) (ls : List (List Value)) (ids : List ℕ) (id : ℕ) → Contains ids id → operand_count id (map (stored_op ps ls) ids) ≡ length (get_or ls id [])
count_found ps ls [] id (k, l, e) = absurd (omega arith)
count_found ps ls (i ∷ ids) id h = go (nat_eq i id) refl h (count_found ps ls ids id)
  where
    go : (b : Bool) → nat_eq i id ≡ b → Contains (i ∷ ids) id → (Contains ids id → operand_count id (map (stored_op ps ls) ids) ≡ length (get_or ls id [])) →
        cond b (length (get_or ls i [])) (operand_count id (map (stored_op ps ls) ids)) ≡ length (get_or ls id [])
    go true t h r = ap (λ n. length (get_or ls n [])) (eqb-true i id t)
    go false t (zero, l, e) r = absurd (eqb-false i id t e)
    go false t (suc k, l, e) r = r (k, omega arith, e)

-- the ids of operations that stand by ids
pub ids_seen : (ps : List OpParts) (ls : List (List Value)) (ids : List ℕ) → ids_in (map (stored_op ps ls) ids) ≡ ids
ids_seen ps ls [] = refl
ids_seen ps ls (i ∷ ids) = ap (λ js. i ∷ js) (ids_seen ps ls ids)

pub length_ids : (ps : List OpParts) (ls : List (List Value)) (ids : List ℕ) → length (ids_in (map (stored_op ps ls) ids)) ≡ length ids
length_ids ps ls ids = ap length (ids_seen ps ls ids)

-- a change of each operand of each list changes the operands of each operation
pub operands_replaced : (ps : List OpParts) (ls : List (List Value)) (f : Value → Value) (ids : List ℕ) →
    map (stored_op ps (map (map f) ls)) ids ≡ map (λ (o : BodyOp). record o { operands = map f o.operands }) (map (stored_op ps ls) ids)
operands_replaced ps ls f [] = refl
operands_replaced ps ls f (i ∷ ids) = rw (get_map ls i) (ap (λ os. record (stored_op ps ls i) { operands = map f (get_or ls i []) } ∷ os) (operands_replaced ps ls f ids))
  where
    get_map : (ls : List (List Value)) (i : ℕ) → get_or (map (map f) ls) i [] ≡ map f (get_or ls i [])
    get_map [] i = refl
    get_map (l ∷ ls) zero = refl
    get_map (l ∷ ls) (suc i) = get_map ls i

-- no id stands twice in a body
pub ids_once : (b : Body) → AreDistinct (ids_of b)
ids_once b =
    λ v. rw (ids_seen (map parts_of b.parts.items) b.operands.lists (live_ids b.order))
    (omega (arith, times-append v (live_ids b.order) (walk b.order.links.items (length b.order.links.items - b.order.live) b.order.free), b.order.once v))

-- an id that stands by itself
pub index_ids : (ids : List ℕ) → map (λ (i : OpId). i.index) (map op_id ids) ≡ ids
index_ids [] = refl
index_ids (i ∷ ids) = ap (λ js. i ∷ js) (index_ids ids)
