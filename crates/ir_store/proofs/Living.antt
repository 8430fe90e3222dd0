-- Which ids are among those of a body that is changed.
use Rattle.std.proofs.Common.{◌≡◌, ℕ, zero, suc, ◌+◌, ◌<◌, ◌≤◌, Bool, true, false, cond, nat_eq, List, [], ◌∷◌, ◌++◌, map, length, get_or, refl, ap, sym, ◌∙◌, arith}
use Rattle.std.specs.Prelude.{Option, Some, None, All, Contains, insert, remove, slice_set}
use Rattle.std.proofs.lemmas.Bool.{eqb-true, eqb-false}
use Rattle.ir_store.specs.declared.operation.OpId.{OpId}
use Rattle.ir_store.specs.declared.operation.Value.{Value}
use Rattle.ir_store.specs.declared.operation.Value.TheVariants.{Port, Result, Undefined}
use Rattle.linked_lists.specs.Ids.{times}
use Rattle.ir_store.specs.BodyOps.{BodyOp, ids_in, put_before, taken_out, operands_at, all_replaced, replace_value, same_value, is_of, IsUnused}
use Rattle.ir_store.specs.Live.{IsLive, HasLive, AreLive}
use Rattle.linked_lists.proofs.IdLemmas.{contained_times, times-append, times_contained}

-- ---- all elements

module _ {A : Type 0} (P : A → Type 0) where
  pub first_of_all : (x : A) (xs : List A) → All P (x ∷ xs) → P x
  first_of_all x xs h = h 0 x (omega arith)

  pub rest_of_all : (x : A) (xs : List A) → All P (x ∷ xs) → All P xs
  rest_of_all x xs h = λ k d l. h (suc k) d (omega arith)

  pub all_none : All P []
  all_none = λ k d l. absurd (omega arith)

  pub all_with : (x : A) (xs : List A) → P x → All P xs → All P (x ∷ xs)
  all_with x xs p h = with
    where
      with : (k : ℕ) (d : A) → k < suc (length xs) → P (get_or (x ∷ xs) k d)
      with zero d l = p
      with (suc k) d l = h k d (omega arith)

  pub all_insert : (xs : List A) (i : ℕ) (x : A) → P x → All P xs → All P (insert xs i x)
  all_insert xs zero x p h = all_with x xs p h
  all_insert [] (suc i) x p h = all_with x [] p all_none
  all_insert (y ∷ ys) (suc i) x p h = all_with y (insert ys i x) (first_of_all y ys h) (all_insert ys i x p (rest_of_all y ys h))

  pub all_remove : (xs : List A) (i : ℕ) → All P xs → All P (remove xs i)
  all_remove [] zero h = all_none
  all_remove [] (suc i) h = all_none
  all_remove (y ∷ ys) zero h = rest_of_all y ys h
  all_remove (y ∷ ys) (suc i) h = all_with y (remove ys i) (first_of_all y ys h) (all_remove ys i (rest_of_all y ys h))

  pub all_set : (xs : List A) (i : ℕ) (x : A) → P x → All P xs → All P (slice_set xs i x)
  all_set [] i x p h = all_none
  all_set (y ∷ ys) zero x p h = all_with x ys p (rest_of_all y ys h)
  all_set (y ∷ ys) (suc i) x p h = all_with y (slice_set ys i x) (first_of_all y ys h) (all_set ys i x p (rest_of_all y ys h))

-- all elements, of which something else holds
pub all_through : {A : Type 0} (P Q : A → Type 0) → ((x : A) → P x → Q x) → (xs : List A) → All P xs → All Q xs
all_through P Q f xs h = λ k d l. f (get_or xs k d) (h k d l)

pub all_mapped : {A B : Type 0} (P : A → Type 0) (Q : B → Type 0) (g : A → B) → ((x : A) → P x → Q (g x)) → (xs : List A) → All P xs → All Q (map g xs)
all_mapped P Q g f [] h = all_none Q
all_mapped P Q g f (x ∷ xs) h = all_with Q (g x) (map g xs) (f x (first_of_all P x xs h)) (all_mapped P Q g f xs (rest_of_all P x xs h))

-- two functions that agree on each element
pub same_map : {A B : Type 0} (P : A → Type 0) (f g : A → B) → ((x : A) → P x → f x ≡ g x) → (xs : List A) → All P xs → map f xs ≡ map g xs
same_map P f g e [] h = refl
same_map P f g e (x ∷ xs) h =
    let q = e x (first_of_all P x xs h) in
    let r = same_map P f g e xs (rest_of_all P x xs h) in
    rw (q, r) refl

-- ---- ids

-- where each id stands at least as often, those that were there are there
pub still_contained : (ids js : List ℕ) → ((v : ℕ) → times v ids ≤ times v js) → (v : ℕ) → Contains ids v → Contains js v
still_contained ids js f v h = times_contained js v (omega (arith, f v, contained_times ids v h))

pub still_live : (ids js : List ℕ) → ((v : ℕ) → Contains ids v → Contains js v) → (x : Value) → IsLive ids x → IsLive js x
still_live ids js f (Port n) h = tt
still_live ids js f (Result id k) h = f id.index h
still_live ids js f Undefined h = tt

-- an operation that is put in
pub times-put_before : (v : ℕ) (before : Option OpId) (o : BodyOp) (ops : List BodyOp) → times v (ids_in (put_before before o ops)) ≡ times v (o.id ∷ []) + times v (ids_in ops)
times-put_before v None o [] = omega arith
times-put_before v None o (p ∷ ops) = go (nat_eq p.id v) (times-put_before v None o ops)
  where
    go : (b : Bool) → times v (ids_in (ops ++ o ∷ [])) ≡ times v (o.id ∷ []) + times v (ids_in ops) →
        cond b (suc (times v (ids_in (ops ++ o ∷ [])))) (times v (ids_in (ops ++ o ∷ []))) ≡ times v (o.id ∷ []) + cond b (suc (times v (ids_in ops))) (times v (ids_in ops))
    go true r = omega (arith, r)
    go false r = r
times-put_before v (Some b) o [] = omega arith
times-put_before v (Some b) o (p ∷ ops) = go (nat_eq p.id b.index) (times-put_before v (Some b) o ops)
  where
    inner : (t : Bool) → times v (ids_in (put_before (Some b) o ops)) ≡ times v (o.id ∷ []) + times v (ids_in ops) →
        cond t (suc (times v (ids_in (put_before (Some b) o ops)))) (times v (ids_in (put_before (Some b) o ops)))
        ≡ times v (o.id ∷ []) + cond t (suc (times v (ids_in ops))) (times v (ids_in ops))
    inner true r = omega (arith, r)
    inner false r = r

    go : (t : Bool) → times v (ids_in (put_before (Some b) o ops)) ≡ times v (o.id ∷ []) + times v (ids_in ops) →
        times v (ids_in (cond t (o ∷ p ∷ ops) (p ∷ put_before (Some b) o ops))) ≡ times v (o.id ∷ []) + times v (ids_in (p ∷ ops))
    go true r = times-append v (o.id ∷ []) (ids_in (p ∷ ops))
    go false r = inner (nat_eq p.id v) r

-- an operation that is taken out
pub times-taken_out : (v id : ℕ) (ops : List BodyOp) → (v ≡ id → ⊥) → times v (ids_in (taken_out id ops)) ≡ times v (ids_in ops)
times-taken_out v id [] n = refl
times-taken_out v id (o ∷ ops) n = go (nat_eq o.id id) refl (nat_eq o.id v) refl (times-taken_out v id ops n)
  where
    go : (t : Bool) → nat_eq o.id id ≡ t → (u : Bool) → nat_eq o.id v ≡ u → times v (ids_in (taken_out id ops)) ≡ times v (ids_in ops) →
        times v (ids_in (cond t ops (o ∷ taken_out id ops))) ≡ cond u (suc (times v (ids_in ops))) (times v (ids_in ops))
    go true e true f r = absurd (n (sym (eqb-true o.id v f) ∙ eqb-true o.id id e))
    go true e false f r = refl
    go false e true f r = rw f (ap suc r)
    go false e false f r = rw f r

-- ---- bodies stay live

all_put_before : (P : BodyOp → Type 0) (before : Option OpId) (o : BodyOp) (ops : List BodyOp) → P o → All P ops → All P (put_before before o ops)
all_put_before P None o [] p h = all_with P o [] p (all_none P)
all_put_before P None o (q ∷ ops) p h = all_with P q (ops ++ o ∷ []) (first_of_all P q ops h) (all_put_before P None o ops p (rest_of_all P q ops h))
all_put_before P (Some b) o [] p h = all_with P o [] p (all_none P)
all_put_before P (Some b) o (q ∷ ops) p h = go (nat_eq q.id b.index) (all_put_before P (Some b) o ops p (rest_of_all P q ops h))
  where
    go : (t : Bool) → All P (put_before (Some b) o ops) → All P (cond t (o ∷ q ∷ ops) (q ∷ put_before (Some b) o ops))
    go true r = all_with P o (q ∷ ops) p h
    go false r = all_with P q (put_before (Some b) o ops) (first_of_all P q ops h) r

pub added_live : (before : Option OpId) (o : BodyOp) (ops : List BodyOp) → AreLive ops → HasLive (ids_in ops) o → AreLive (put_before before o ops)
added_live before o ops h l =
    let more : (v : ℕ) → Contains (ids_in ops) v → Contains (ids_in (put_before before o ops)) v =
    still_contained (ids_in ops) (ids_in (put_before before o ops)) (λ v. omega (arith, times-put_before v before o ops)) in
    let keep : (p : BodyOp) → HasLive (ids_in ops) p → HasLive (ids_in (put_before before o ops)) p =
    λ p k. all_through (IsLive (ids_in ops)) (IsLive (ids_in (put_before before o ops))) (still_live (ids_in ops) (ids_in (put_before before o ops)) more) p.operands k in
    all_put_before (HasLive (ids_in (put_before before o ops))) before o ops (keep o l) (all_through (HasLive (ids_in ops)) (HasLive (ids_in (put_before before o ops))) keep ops h)

all_taken_out : (P : BodyOp → Type 0) (id : ℕ) (ops : List BodyOp) → All P ops → All P (taken_out id ops)
all_taken_out P id [] h = h
all_taken_out P id (o ∷ ops) h = go (nat_eq o.id id) (all_taken_out P id ops (rest_of_all P o ops h))
  where
    go : (t : Bool) → All P (taken_out id ops) → All P (cond t ops (o ∷ taken_out id ops))
    go true r = rest_of_all P o ops h
    go false r = all_with P o (taken_out id ops) (first_of_all P o ops h) r

pub unused_left : (id : ℕ) (ops : List BodyOp) → IsUnused id ops → IsUnused id (taken_out id ops)
unused_left id ops h = all_taken_out (λ (o : BodyOp). All (λ v. is_of id v ≡ false) o.operands) id ops h

-- a value that is live and no result of the operation that goes
pub value_left : (id : ℕ) (ops : List BodyOp) (x : Value) → is_of id x ≡ false → IsLive (ids_in ops) x → IsLive (ids_in (taken_out id ops)) x
value_left id ops (Port n) e h = tt
value_left id ops (Result i k) e h =
    times_contained (ids_in (taken_out id ops)) i.index
    (omega (arith, times-taken_out i.index id ops (eqb-false i.index id e), contained_times (ids_in ops) i.index h))
value_left id ops Undefined e h = tt

pub erased_live : (id : ℕ) (ops : List BodyOp) → AreLive ops → IsUnused id ops → AreLive (taken_out id ops)
erased_live id ops h u =
    all_taken_out (HasLive (ids_in (taken_out id ops))) id ops
    (λ k d l. λ i e m. value_left id ops (get_or (get_or ops k d).operands i e) (u k d l i e m) (h k d l i e m))

-- a change of operands leaves the ids
pub ids_stay : (id : ℕ) (f : List Value → List Value) (ops : List BodyOp) → ids_in (operands_at id f ops) ≡ ids_in ops
ids_stay id f [] = refl
ids_stay id f (o ∷ ops) = go (nat_eq o.id id) (ids_stay id f ops)
  where
    go : (b : Bool) → ids_in (operands_at id f ops) ≡ ids_in ops →
        (cond b (record o { operands = f o.operands }) o).id ∷ ids_in (operands_at id f ops) ≡ o.id ∷ ids_in ops
    go true r = ap (λ ids. o.id ∷ ids) r
    go false r = ap (λ ids. o.id ∷ ids) r

all_operands_at : (P : List Value → Type 0) (id : ℕ) (f : List Value → List Value) (ops : List BodyOp) → ((xs : List Value) → P xs → P (f xs)) →
    All (λ (o : BodyOp). P o.operands) ops → All (λ (o : BodyOp). P o.operands) (operands_at id f ops)
all_operands_at P id f ops g h =
    all_mapped (λ (o : BodyOp). P o.operands) (λ (o : BodyOp). P o.operands) (λ (o : BodyOp). cond (nat_eq o.id id) (record o { operands = f o.operands }) o) (λ o. go o (nat_eq o.id id)) ops h
  where
    go : (o : BodyOp) (b : Bool) → P o.operands → P (cond b (record o { operands = f o.operands }) o).operands
    go o true p = g o.operands p
    go o false p = p

pub changed_live : (id : ℕ) (f : List Value → List Value) (ops : List BodyOp) → ((xs : List Value) → All (IsLive (ids_in ops)) xs → All (IsLive (ids_in ops)) (f xs)) →
    AreLive ops → AreLive (operands_at id f ops)
changed_live id f ops g h = rw (ids_stay id f ops) (all_operands_at (All (IsLive (ids_in ops))) id f ops g h)

pub set_live : (id at : ℕ) (x : Value) (ops : List BodyOp) → IsLive (ids_in ops) x → AreLive ops → AreLive (operands_at id (λ xs. slice_set xs at x) ops)
set_live id at x ops l h = changed_live id (λ xs. slice_set xs at x) ops (λ xs. all_set (IsLive (ids_in ops)) xs at x l) h

pub inserted_live : (id at : ℕ) (x : Value) (ops : List BodyOp) → IsLive (ids_in ops) x → AreLive ops → AreLive (operands_at id (λ xs. insert xs at x) ops)
inserted_live id at x ops l h = changed_live id (λ xs. insert xs at x) ops (λ xs. all_insert (IsLive (ids_in ops)) xs at x l) h

pub dropped_live : (id at : ℕ) (ops : List BodyOp) → AreLive ops → AreLive (operands_at id (λ xs. remove xs at) ops)
dropped_live id at ops h = changed_live id (λ xs. remove xs at) ops (λ xs. all_remove (IsLive (ids_in ops)) xs at) h

-- one value in the place of another
pub ids-all_replaced : (from to : Value) (ops : List BodyOp) → ids_in (all_replaced from to ops) ≡ ids_in ops
ids-all_replaced from to [] = refl
ids-all_replaced from to (o ∷ ops) = ap (λ ids. o.id ∷ ids) (ids-all_replaced from to ops)

pub replaced_live : (from to : Value) (ops : List BodyOp) → IsLive (ids_in ops) to → AreLive ops → AreLive (all_replaced from to ops)
replaced_live from to ops l h =
    rw (ids-all_replaced from to ops)
    (all_mapped (HasLive (ids_in ops)) (HasLive (ids_in ops)) (λ (o : BodyOp). record o { operands = map (replace_value from to) o.operands })
    (λ o k. all_mapped (IsLive (ids_in ops)) (IsLive (ids_in ops)) (replace_value from to) (λ x. go x (same_value from x)) o.operands k) ops h)
  where
    go : (x : Value) (b : Bool) → IsLive (ids_in ops) x → IsLive (ids_in ops) (cond b to x)
    go x true k = l
    go x false k = k
