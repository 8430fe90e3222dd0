-- The operations of a body by positions: what each change of the body does to them.
use Rattle.std.proofs.Common.{◌≡◌, ℕ, zero, suc, ◌≤◌, Bool, true, false, cond, nat_eq, ◌&&◌, List, [], ◌∷◌, ◌++◌, map, refl, ap, sym, ◌∙◌, arith, eq-eqb, ne_eqb}
use Rattle.std.specs.Prelude.{Some, None, All, Contains, insert, remove, slice_set}
use Rattle.std.proofs.lemmas.List.{map-append, map-set}
use Rattle.std.proofs.lemmas.Bool.{eqb-true, eqb-false}
use Rattle.wiring.proofs.Equal.{suc_suc}
use Rattle.hw_model.specs.Design.{Ref}
use Rattle.hw_model.specs.Design.Ref.{result}
use Rattle.ir_store.specs.declared.operation.OpId.{OpId}
use Rattle.ir_store.specs.declared.operation.Value.{Value}
use Rattle.ir_store.specs.declared.operation.Value.TheVariants.{Port, Result, Undefined}
use Rattle.linked_lists.specs.Ids.{times}
use Rattle.ir_store.specs.BodyOps.{BodyOp, operands_at, ids_in, put_before, taken_out, all_replaced, replace_value, same_value, is_of, IsUnused}
use Rattle.ir_store.specs.Live.{IsLive, HasLive, AreLive, AreDistinct}
use Rattle.ir_store.specs.Numbered.{position_of, ref_by, op_by, ops_by_position}
use Rattle.ir_store.specs.Positions.{retarget, position_after_insert, position_after_erase, pushed_ref, result_at, pulled_ref, with_op, without_op, with_operands, same_ref, replaced_ref}
use Rattle.ir_store.proofs.Living.{ids_stay, same_map, unused_left, ids-all_replaced}

-- ---- an operation put in

-- an id that is there keeps its position when one more comes at the end
position_push : (ids : List ℕ) (more i : ℕ) → Contains ids i → position_of (ids ++ more ∷ []) i ≡ position_of ids i
position_push [] more i (k, l, e) = absurd (omega arith)
position_push (j ∷ ids) more i h = go (nat_eq j i) refl h (position_push ids more i)
  where
    go : (b : Bool) → nat_eq j i ≡ b → Contains (j ∷ ids) i → (Contains ids i → position_of (ids ++ more ∷ []) i ≡ position_of ids i) →
        cond b 0 (suc (position_of (ids ++ more ∷ []) i)) ≡ cond b 0 (suc (position_of ids i))
    go true t h r = refl
    go false t (zero, l, e) r = absurd (eqb-false j i t e)
    go false t (suc k, l, e) r = ap suc (r (k, omega arith, e))

-- positions after the operation that is put in shift by one
position_put : (b : OpId) (o : BodyOp) (ops : List BodyOp) (i : ℕ) → Contains (ids_in ops) b.index → (o.id ≡ i → ⊥) →
    position_of (ids_in (put_before (Some b) o ops)) i ≡ position_after_insert (position_of (ids_in ops) b.index) (position_of (ids_in ops) i)
position_put b o [] i (k, l, e) n = absurd (omega arith)
position_put b o (p ∷ ops) i h n = go (nat_eq p.id b.index) refl h (nat_eq o.id i) refl (position_put b o ops i)
  where
    inner : (u : Bool) (j j' n' : ℕ) → j' ≡ position_after_insert n' j → cond u 0 (suc j') ≡ position_after_insert (suc n') (cond u 0 (suc j))
    inner true j j' n' e = refl
    inner false j j' n' e = ap suc e

    go : (t : Bool) → nat_eq p.id b.index ≡ t → Contains (p.id ∷ ids_in ops) b.index → (u : Bool) → nat_eq o.id i ≡ u →
        (Contains (ids_in ops) b.index → (o.id ≡ i → ⊥) → position_of (ids_in (put_before (Some b) o ops)) i ≡ position_after_insert (position_of (ids_in ops) b.index) (position_of (ids_in ops) i)) →
        position_of (ids_in (cond t (o ∷ p ∷ ops) (p ∷ put_before (Some b) o ops))) i
        ≡ position_after_insert (cond t 0 (suc (position_of (ids_in ops) b.index))) (cond (nat_eq p.id i) 0 (suc (position_of (ids_in ops) i)))
    go true t h true f r = absurd (n (eqb-true o.id i f))
    go true t h false f r = rw f refl
    go false t (zero, l, e) u f r = absurd (eqb-false p.id b.index t e)
    go false t (suc k, l, e) u f r = inner (nat_eq p.id i) (position_of (ids_in ops) i) _ (position_of (ids_in ops) b.index) (r (k, omega arith, e) n)

map_put : {A : Type 0} (f : BodyOp → A) (b : OpId) (o : BodyOp) (ops : List BodyOp) → map f (put_before (Some b) o ops) ≡ insert (map f ops) (position_of (ids_in ops) b.index) (f o)
map_put f b o [] = refl
map_put f b o (p ∷ ops) = go (nat_eq p.id b.index) (map_put f b o ops)
  where
    go : (t : Bool) → map f (put_before (Some b) o ops) ≡ insert (map f ops) (position_of (ids_in ops) b.index) (f o) →
        map f (cond t (o ∷ p ∷ ops) (p ∷ put_before (Some b) o ops)) ≡ insert (f p ∷ map f ops) (cond t 0 (suc (position_of (ids_in ops) b.index))) (f o)
    go true r = refl
    go false r = ap (λ xs. f p ∷ xs) r

map_map : {A B C : Type 0} (f : A → B) (g : B → C) (xs : List A) → map (λ x. g (f x)) xs ≡ map g (map f xs)
map_map f g [] = refl
map_map f g (x ∷ xs) = ap (λ ys. g (f x) ∷ ys) (map_map f g xs)

-- where operands are seen in another way, and each of the new is a function of the old
ops_by : (P Q : ℕ → ℕ) (g : Ref → Ref) (Good : Value → Type 0) → ((x : Value) → Good x → ref_by Q x ≡ g (ref_by P x)) → (o : BodyOp) → All Good o.operands → op_by Q o ≡ retarget g (op_by P o)
ops_by P Q g Good e o h = ap (λ refs. record (op_by Q o) { operands = refs }) (same_map Good (ref_by Q) (λ x. g (ref_by P x)) e o.operands h ∙ map_map (ref_by P) g o.operands)

all_ops_by : (P Q : ℕ → ℕ) (g : Ref → Ref) (Good : Value → Type 0) → ((x : Value) → Good x → ref_by Q x ≡ g (ref_by P x)) → (ops : List BodyOp) → All (λ (o : BodyOp). All Good o.operands) ops →
    map (op_by Q) ops ≡ map (retarget g) (map (op_by P) ops)
all_ops_by P Q g Good e ops h =
    same_map (λ (o : BodyOp). All Good o.operands) (op_by Q) (λ o. retarget g (op_by P o)) (ops_by P Q g Good e) ops h ∙ map_map (op_by P) (retarget g) ops

pub numbered-put_before : (b : OpId) (o : BodyOp) (ops : List BodyOp) → AreLive ops → HasLive (ids_in ops) o → Contains (ids_in ops) b.index → (Contains (ids_in ops) o.id → ⊥) →
    ops_by_position (put_before (Some b) o ops) ≡ with_op (position_of (ids_in ops) b.index) (op_by (position_of (ids_in ops)) o) (ops_by_position ops)
numbered-put_before b o ops h l c n =
    map_put (op_by (position_of (ids_in (put_before (Some b) o ops)))) b o ops
    ∙ (rw (
      ops_by (position_of (ids_in ops)) (position_of (ids_in (put_before (Some b) o ops))) (pushed_ref (position_of (ids_in ops) b.index)) (IsLive (ids_in ops)) seen o l,
      all_ops_by (position_of (ids_in ops)) (position_of (ids_in (put_before (Some b) o ops))) (pushed_ref (position_of (ids_in ops) b.index)) (IsLive (ids_in ops)) seen ops h,
    ) refl)
  where
    seen : (x : Value) → IsLive (ids_in ops) x → ref_by (position_of (ids_in (put_before (Some b) o ops))) x ≡ pushed_ref (position_of (ids_in ops) b.index) (ref_by (position_of (ids_in ops)) x)
    seen (Port m) k = refl
    seen (Result id m) k = ap (λ j. result j m) (position_put b o ops id.index c (other id.index k))
      where
        other : (i : ℕ) → Contains (ids_in ops) i → o.id ≡ i → ⊥
        other i k e = n (rw e k)
    seen Undefined k = refl

-- an operation at the end
pub numbered-push : (o : BodyOp) (ops : List BodyOp) → AreLive ops → HasLive (ids_in ops) o → ops_by_position (put_before None o ops) ≡ ops_by_position ops ++ op_by (position_of (ids_in ops)) o ∷ []
numbered-push o ops h l =
    rw (ids_push, map-append)
    (rw (same_map (HasLive (ids_in ops)) (op_by (position_of (ids_in ops ++ o.id ∷ []))) (op_by (position_of (ids_in ops))) same ops h, same o l) refl)
  where
    ids_push : ids_in (ops ++ o ∷ []) ≡ ids_in ops ++ o.id ∷ []
    ids_push = map-append (λ (p : BodyOp). p.id) ops (o ∷ [])

    seen : (x : Value) → IsLive (ids_in ops) x → ref_by (position_of (ids_in ops ++ o.id ∷ [])) x ≡ ref_by (position_of (ids_in ops)) x
    seen (Port m) k = refl
    seen (Result id m) k = ap (λ j. result j m) (position_push (ids_in ops) o.id id.index k)
    seen Undefined k = refl

    same : (p : BodyOp) → HasLive (ids_in ops) p → op_by (position_of (ids_in ops ++ o.id ∷ [])) p ≡ op_by (position_of (ids_in ops)) p
    same p k =
        ap (λ refs. record (op_by (position_of (ids_in ops)) p) { operands = refs })
        (same_map (IsLive (ids_in ops)) (ref_by (position_of (ids_in ops ++ o.id ∷ []))) (ref_by (position_of (ids_in ops))) seen p.operands k)

-- ---- an operation taken out

-- positions after it shift back by one
position_gone : (id i : ℕ) (ops : List BodyOp) → Contains (ids_in ops) id → (i ≡ id → ⊥) →
    position_after_erase (position_of (ids_in ops) id) (position_of (ids_in ops) i) ≡ Some (position_of (ids_in (taken_out id ops)) i)
position_gone id i [] (k, l, e) n = absurd (omega arith)
position_gone id i (o ∷ ops) h n = go (nat_eq o.id id) refl h (nat_eq o.id i) refl (position_gone id i ops)
  where
    go : (t : Bool) → nat_eq o.id id ≡ t → Contains (o.id ∷ ids_in ops) id → (u : Bool) → nat_eq o.id i ≡ u →
        (Contains (ids_in ops) id → (i ≡ id → ⊥) → position_after_erase (position_of (ids_in ops) id) (position_of (ids_in ops) i) ≡ Some (position_of (ids_in (taken_out id ops)) i)) →
        position_after_erase (cond t 0 (suc (position_of (ids_in ops) id))) (cond u 0 (suc (position_of (ids_in ops) i))) ≡ Some (position_of (ids_in (cond t ops (o ∷ taken_out id ops))) i)
    go true t h true f r = absurd (n (sym (eqb-true o.id i f) ∙ eqb-true o.id id t))
    go true t h false f r = refl
    go false t (zero, l, e) u f r = absurd (eqb-false o.id id t e)
    go false t (suc k, l, e) true f r = rw f refl
    go false t (suc k, l, e) false f r = rw (f, r (k, omega arith, e) n) refl

map_taken : {A : Type 0} (f : BodyOp → A) (id : ℕ) (ops : List BodyOp) → map f (taken_out id ops) ≡ remove (map f ops) (position_of (ids_in ops) id)
map_taken f id [] = refl
map_taken f id (o ∷ ops) = go (nat_eq o.id id) (map_taken f id ops)
  where
    go : (t : Bool) → map f (taken_out id ops) ≡ remove (map f ops) (position_of (ids_in ops) id) →
        map f (cond t ops (o ∷ taken_out id ops)) ≡ remove (f o ∷ map f ops) (cond t 0 (suc (position_of (ids_in ops) id)))
    go true r = refl
    go false r = ap (λ xs. f o ∷ xs) r

pub numbered-taken_out : (id : ℕ) (ops : List BodyOp) → Contains (ids_in ops) id → IsUnused id ops → ops_by_position (taken_out id ops) ≡ without_op (position_of (ids_in ops) id) (ops_by_position ops)
numbered-taken_out id ops c u =
    all_ops_by (position_of (ids_in ops)) (position_of (ids_in (taken_out id ops))) (pulled_ref (position_of (ids_in ops) id)) (λ x. is_of id x ≡ false) seen (taken_out id ops) (unused_left id ops u)
    ∙ ap (map (retarget (pulled_ref (position_of (ids_in ops) id)))) (map_taken (op_by (position_of (ids_in ops))) id ops)
  where
    seen : (x : Value) → is_of id x ≡ false → ref_by (position_of (ids_in (taken_out id ops))) x ≡ pulled_ref (position_of (ids_in ops) id) (ref_by (position_of (ids_in ops)) x)
    seen (Port m) e = refl
    seen (Result i m) e = ap (λ p. result_at p m) (sym (position_gone id i.index ops c (eqb-false i.index id e)))
    seen Undefined e = refl

-- ---- operands of one operation changed

absent_stays : (id : ℕ) (f : List Value → List Value) (ops : List BodyOp) → times id (ids_in ops) ≡ 0 → operands_at id f ops ≡ ops
absent_stays id f [] e = refl
absent_stays id f (o ∷ ops) e = go (nat_eq o.id id) e (absent_stays id f ops)
  where
    go : (b : Bool) → cond b (suc (times id (ids_in ops))) (times id (ids_in ops)) ≡ 0 → (times id (ids_in ops) ≡ 0 → operands_at id f ops ≡ ops) →
        cond b (record o { operands = f o.operands }) o ∷ operands_at id f ops ≡ o ∷ ops
    go true e r = absurd (omega (arith, e))
    go false e r = ap (λ os. o ∷ os) (r e)

one_position : (P : ℕ → ℕ) (id : ℕ) (f : List Value → List Value) (g : List Ref → List Ref) → ((xs : List Value) → map (ref_by P) (f xs) ≡ g (map (ref_by P) xs)) →
    (ops : List BodyOp) → times id (ids_in ops) ≤ 1 → Contains (ids_in ops) id → map (op_by P) (operands_at id f ops) ≡ with_operands (position_of (ids_in ops) id) g (map (op_by P) ops)
one_position P id f g e [] once (k, l, z) = absurd (omega arith)
one_position P id f g e (o ∷ ops) once h = go (nat_eq o.id id) refl once h (one_position P id f g e ops)
  where
    go : (b : Bool) → nat_eq o.id id ≡ b → cond b (suc (times id (ids_in ops))) (times id (ids_in ops)) ≤ 1 → Contains (o.id ∷ ids_in ops) id →
        (times id (ids_in ops) ≤ 1 → Contains (ids_in ops) id → map (op_by P) (operands_at id f ops) ≡ with_operands (position_of (ids_in ops) id) g (map (op_by P) ops)) →
        op_by P (cond b (record o { operands = f o.operands }) o) ∷ map (op_by P) (operands_at id f ops)
        ≡ with_operands (cond b 0 (suc (position_of (ids_in ops) id))) g (op_by P o ∷ map (op_by P) ops)
    go true t once h r =
        let z : times id (ids_in ops) ≡ 0 = omega (arith, once) in
        rw (absent_stays id f ops z) (ap (λ refs. record (op_by P o) { operands = refs } ∷ map (op_by P) ops) (e o.operands))
    go false t once (zero, l, z) r = absurd (eqb-false o.id id t z)
    go false t once (suc k, l, z) r = ap (λ os. op_by P o ∷ os) (r once (k, omega arith, z))

-- a change of operands that the operands by positions follow
pub numbered-operands_at : (id : ℕ) (f : List Value → List Value) (g : List Ref → List Ref) (ops : List BodyOp) → AreDistinct (ids_in ops) → Contains (ids_in ops) id →
    ((xs : List Value) → map (ref_by (position_of (ids_in ops))) (f xs) ≡ g (map (ref_by (position_of (ids_in ops))) xs)) →
    ops_by_position (operands_at id f ops) ≡ with_operands (position_of (ids_in ops) id) g (ops_by_position ops)
numbered-operands_at id f g ops once h e = rw (ids_stay id f ops) (one_position (position_of (ids_in ops)) id f g e ops (once id) h)

map-insert : {A B : Type 0} (f : A → B) (xs : List A) (i : ℕ) (x : A) → map f (insert xs i x) ≡ insert (map f xs) i (f x)
map-insert f xs zero x = refl
map-insert f [] (suc i) x = refl
map-insert f (y ∷ ys) (suc i) x = ap (λ zs. f y ∷ zs) (map-insert f ys i x)

map-remove : {A B : Type 0} (f : A → B) (xs : List A) (i : ℕ) → map f (remove xs i) ≡ remove (map f xs) i
map-remove f [] zero = refl
map-remove f [] (suc i) = refl
map-remove f (y ∷ ys) zero = refl
map-remove f (y ∷ ys) (suc i) = ap (λ zs. f y ∷ zs) (map-remove f ys i)

pub numbered-set : (id at : ℕ) (x : Value) (ops : List BodyOp) → AreDistinct (ids_in ops) → Contains (ids_in ops) id →
    ops_by_position (operands_at id (λ xs. slice_set xs at x) ops) ≡ with_operands (position_of (ids_in ops) id) (λ refs. slice_set refs at (ref_by (position_of (ids_in ops)) x)) (ops_by_position ops)
numbered-set id at x ops once h =
    numbered-operands_at id (λ xs. slice_set xs at x) (λ refs. slice_set refs at (ref_by (position_of (ids_in ops)) x)) ops once h (λ xs. map-set (ref_by (position_of (ids_in ops))) xs at x)

pub numbered-insert : (id at : ℕ) (x : Value) (ops : List BodyOp) → AreDistinct (ids_in ops) → Contains (ids_in ops) id →
    ops_by_position (operands_at id (λ xs. insert xs at x) ops) ≡ with_operands (position_of (ids_in ops) id) (λ refs. insert refs at (ref_by (position_of (ids_in ops)) x)) (ops_by_position ops)
numbered-insert id at x ops once h =
    numbered-operands_at id (λ xs. insert xs at x) (λ refs. insert refs at (ref_by (position_of (ids_in ops)) x)) ops once h (λ xs. map-insert (ref_by (position_of (ids_in ops))) xs at x)

pub numbered-drop : (id at : ℕ) (ops : List BodyOp) → AreDistinct (ids_in ops) → Contains (ids_in ops) id →
    ops_by_position (operands_at id (λ xs. remove xs at) ops) ≡ with_operands (position_of (ids_in ops) id) (λ refs. remove refs at) (ops_by_position ops)
numbered-drop id at ops once h =
    numbered-operands_at id (λ xs. remove xs at) (λ refs. remove refs at) ops once h (λ xs. map-remove (ref_by (position_of (ids_in ops))) xs at)

-- ---- one value in the place of another

-- ids that are there have the same position only where they are the same
position_same : (ids : List ℕ) (i j : ℕ) → Contains ids i → Contains ids j → nat_eq (position_of ids i) (position_of ids j) ≡ nat_eq i j
position_same [] i j (k, l, e) h = absurd (omega arith)
position_same (m ∷ ids) i j h g = go (nat_eq m i) refl (nat_eq m j) refl h g (position_same ids i j)
  where
    go : (b : Bool) → nat_eq m i ≡ b → (c : Bool) → nat_eq m j ≡ c → Contains (m ∷ ids) i → Contains (m ∷ ids) j →
        (Contains ids i → Contains ids j → nat_eq (position_of ids i) (position_of ids j) ≡ nat_eq i j) →
        nat_eq (cond b 0 (suc (position_of ids i))) (cond c 0 (suc (position_of ids j))) ≡ nat_eq i j
    go true s true t h g r = sym (eq-eqb i j (sym (eqb-true m i s) ∙ eqb-true m j t))
    go true s false t h g r = ne_eqb 0 (suc (position_of ids j)) (λ e. omega (arith, e)) ∙ sym (ne_eqb i j (λ e. eqb-false m j t (eqb-true m i s ∙ e)))
    go false s true t h g r = ne_eqb (suc (position_of ids i)) 0 (λ e. omega (arith, e)) ∙ sym (ne_eqb i j (λ e. eqb-false m i s (eqb-true m j t ∙ sym e)))
    go false s false t (zero, l, e) g r = absurd (eqb-false m i s e)
    go false s false t (suc k, l, e) (zero, l', e') r = absurd (eqb-false m j t e')
    go false s false t (suc k, l, e) (suc k', l', e') r = suc_suc (position_of ids i) (position_of ids j) ∙ r (k, omega arith, e) (k', omega arith, e')

-- values that are there are the same by ids as by positions
pub same-ref_by : (ids : List ℕ) (x y : Value) → IsLive ids x → IsLive ids y → same_value x y ≡ same_ref (ref_by (position_of ids) x) (ref_by (position_of ids) y)
same-ref_by ids (Port m) (Port n) h g = refl
same-ref_by ids (Port m) (Result j n) h g = refl
same-ref_by ids (Port m) Undefined h g = refl
same-ref_by ids (Result i m) (Port n) h g = refl
same-ref_by ids (Result i m) (Result j n) h g = ap (λ b. b && nat_eq m n) (sym (position_same ids i.index j.index h g))
same-ref_by ids (Result i m) Undefined h g = refl
same-ref_by ids Undefined (Port n) h g = refl
same-ref_by ids Undefined (Result j n) h g = refl
same-ref_by ids Undefined Undefined h g = refl

pub numbered-all_replaced : (from to : Value) (ops : List BodyOp) → AreLive ops → IsLive (ids_in ops) from →
    ops_by_position (all_replaced from to ops) ≡ map (retarget (replaced_ref (ref_by (position_of (ids_in ops)) from) (ref_by (position_of (ids_in ops)) to))) (ops_by_position ops)
numbered-all_replaced from to ops h l =
    rw (ids-all_replaced from to ops)
    (sym (map_map (λ (o : BodyOp). record o { operands = map (replace_value from to) o.operands }) (op_by (position_of (ids_in ops))) ops)
    ∙ (same_map (HasLive (ids_in ops)) (λ (o : BodyOp). op_by (position_of (ids_in ops)) (record o { operands = map (replace_value from to) o.operands }))
    (λ o. retarget (replaced_ref (ref_by (position_of (ids_in ops)) from) (ref_by (position_of (ids_in ops)) to)) (op_by (position_of (ids_in ops)) o)) each ops h
    ∙ map_map (op_by (position_of (ids_in ops))) (retarget (replaced_ref (ref_by (position_of (ids_in ops)) from) (ref_by (position_of (ids_in ops)) to))) ops))
  where
    go : (x : Value) (b c : Bool) → b ≡ c → ref_by (position_of (ids_in ops)) (cond b to x) ≡ cond c (ref_by (position_of (ids_in ops)) to) (ref_by (position_of (ids_in ops)) x)
    go x true true e = refl
    go x true false e = cc
    go x false true e = cc
    go x false false e = refl

    seen : (x : Value) → IsLive (ids_in ops) x →
        ref_by (position_of (ids_in ops)) (replace_value from to x) ≡ replaced_ref (ref_by (position_of (ids_in ops)) from) (ref_by (position_of (ids_in ops)) to) (ref_by (position_of (ids_in ops)) x)
    seen x k = go x (same_value from x) (same_ref (ref_by (position_of (ids_in ops)) from) (ref_by (position_of (ids_in ops)) x)) (same-ref_by (ids_in ops) from x l k)

    each : (o : BodyOp) → HasLive (ids_in ops) o →
        op_by (position_of (ids_in ops)) (record o { operands = map (replace_value from to) o.operands })
        ≡ retarget (replaced_ref (ref_by (position_of (ids_in ops)) from) (ref_by (position_of (ids_in ops)) to)) (op_by (position_of (ids_in ops)) o)
    each o k =
        ap (λ refs. record (op_by (position_of (ids_in ops)) o) { operands = refs })
        (sym (map_map (replace_value from to) (ref_by (position_of (ids_in ops))) o.operands)
        ∙ (same_map (IsLive (ids_in ops)) (λ x. ref_by (position_of (ids_in ops)) (replace_value from to x))
        (λ x. replaced_ref (ref_by (position_of (ids_in ops)) from) (ref_by (position_of (ids_in ops)) to) (ref_by (position_of (ids_in ops)) x)) seen o.operands k
        ∙ map_map (ref_by (position_of (ids_in ops))) (replaced_ref (ref_by (position_of (ids_in ops)) from) (ref_by (position_of (ids_in ops)) to)) o.operands))
