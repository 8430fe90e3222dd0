-- Where a sweep goes on after a fold, by ids.
use Rattle.std.proofs.Common.{◌≡◌, ℕ, zero, suc, ◌+◌, ◌-◌, ◌<◌, ◌≤◌, Bool, true, false, cond, nat_eq, nat_lt, List, [], ◌∷◌, ◌++◌, length, map, drop, set, insert, remove, Option, Some, refl, sym, ap}
use Rattle.std.proofs.Common.{subst, ◌∙◌, arith, zero-add, suc-add, eq-eqb}
use Rattle.std.specs.Prelude.{Contains}
use Rattle.std.proofs.lemmas.Bool.{eqb-true, eqb-false, ltb-true, ltb-false}
use Rattle.std.proofs.lemmas.List.{length-append, append_assoc}
use Rattle.linked_lists.specs.Ids.{times}
use Rattle.linked_lists.proofs.IdLemmas.{times-append, contained_times, times_contained}
use Rattle.ir_store.specs.declared.operation.OpId.{OpId}
use Rattle.ir_store.specs.Bodies.{op_id, first_id}
use Rattle.ir_store.specs.Live.{AreDistinct}
use Rattle.ir_store.specs.Numbered.{position_of}
use Rattle.hw_model.specs.Design.{Ref, Op}
use Rattle.fold_laws.specs.Edits.{Edit}
use Rattle.fold_laws.specs.Edits.Edit.{changed, replaced, erased, put_in}
use Rattle.body_edits.specs.Folded.{ids_edited_by, IsPatternEdit}
use Rattle.canonicalise.specs.Dues.{IsDue}
use Rattle.canonicalise.specs.Sweeps.{moved_by}

-- ---- lists

module _ {A : Type 0} where
  pub set_here : (xs : List A) (x y : A) (ys : List A) → set (xs ++ x ∷ ys) (length xs) y ≡ xs ++ y ∷ ys
  set_here [] x y ys = refl
  set_here (z ∷ xs) x y ys = ap (λ zs. z ∷ zs) (set_here xs x y ys)

  remove_here : (xs : List A) (x : A) (ys : List A) → remove (xs ++ x ∷ ys) (length xs) ≡ xs ++ ys
  remove_here [] x ys = refl
  remove_here (z ∷ xs) x ys = ap (λ zs. z ∷ zs) (remove_here xs x ys)

  insert_here : (xs : List A) (y : A) (ys : List A) → insert (xs ++ ys) (length xs) y ≡ xs ++ y ∷ ys
  insert_here [] y [] = refl
  insert_here [] y (x ∷ ys) = refl
  insert_here (z ∷ xs) y ys = ap (λ zs. z ∷ zs) (insert_here xs y ys)

  remove_before : (xs ys : List A) (k : ℕ) → k < length xs → remove (xs ++ ys) k ≡ remove xs k ++ ys
  remove_before [] ys k less = absurd (omega (arith, less))
  remove_before (x ∷ xs) ys zero less = refl
  remove_before (x ∷ xs) ys (suc k) less = ap (λ zs. x ∷ zs) (remove_before xs ys k (omega (arith, less)))

  remove_after : (xs ys : List A) (k : ℕ) → remove (xs ++ ys) (length xs + k) ≡ xs ++ remove ys k
  remove_after [] ys k = ap (remove ys) (zero-add k)
  remove_after (x ∷ xs) ys k = ap (remove (x ∷ xs ++ ys)) (suc-add (length xs) k) ∙ ap (λ zs. x ∷ zs) (remove_after xs ys k)

  length-remove_one : (xs : List A) (k : ℕ) → k < length xs → length (remove xs k) + 1 ≡ length xs
  length-remove_one [] k less = absurd (omega (arith, less))
  length-remove_one (x ∷ xs) zero less = omega arith
  length-remove_one (x ∷ xs) (suc k) less = let rest = length-remove_one xs k (omega (arith, less)) in omega (arith, rest)

  length-remove_most : (xs : List A) (k : ℕ) → length (remove xs k) ≤ length xs
  length-remove_most [] zero = omega arith
  length-remove_most [] (suc k) = omega arith
  length-remove_most (x ∷ xs) zero = omega arith
  length-remove_most (x ∷ xs) (suc k) = let rest = length-remove_most xs k in omega (arith, rest)

-- ---- how often an id stands among ids

times_here : (v : ℕ) (xs : List ℕ) → times v (v ∷ xs) ≡ suc (times v xs)
times_here v xs = go (nat_eq v v) refl
  where
    go : (b : Bool) → nat_eq v v ≡ b → cond b (suc (times v xs)) (times v xs) ≡ suc (times v xs)
    go true is = refl
    go false is = absurd (eqb-false v v is refl)

times_other : (v w : ℕ) (xs : List ℕ) → (w ≡ v → ⊥) → times v (w ∷ xs) ≡ times v xs
times_other v w xs other = go (nat_eq w v) refl
  where
    go : (b : Bool) → nat_eq w v ≡ b → cond b (suc (times v xs)) (times v xs) ≡ times v xs
    go true is = absurd (other (eqb-true w v is))
    go false is = refl

times_least : (v w : ℕ) (xs : List ℕ) → times v xs ≤ times v (w ∷ xs)
times_least v w xs = go (nat_eq w v)
  where
    go : (b : Bool) → times v xs ≤ cond b (suc (times v xs)) (times v xs)
    go true = omega arith
    go false = omega arith

times-remove : (v : ℕ) (xs : List ℕ) (k : ℕ) → times v (remove xs k) ≤ times v xs
times-remove v [] zero = omega arith
times-remove v [] (suc k) = omega arith
times-remove v (x ∷ xs) zero = times_least v x xs
times-remove v (x ∷ xs) (suc k) = go (nat_eq x v) (times-remove v xs k)
  where
    go : (b : Bool) → times v (remove xs k) ≤ times v xs → cond b (suc (times v (remove xs k))) (times v (remove xs k)) ≤ cond b (suc (times v xs)) (times v xs)
    go true less = omega (arith, less)
    go false less = less

-- an id is not among ids where it stands at no position
absent : (v : ℕ) (xs : List ℕ) → times v xs ≡ 0 → Contains xs v → ⊥
absent v xs none there = let some : 0 < times v xs = contained_times xs v there in omega (arith, none, some)

here : (xs : List ℕ) (v : ℕ) (ys : List ℕ) → Contains (xs ++ v ∷ ys) v
here xs v ys =
    let sum : times v (xs ++ v ∷ ys) ≡ times v xs + times v (v ∷ ys) = times-append v xs (v ∷ ys) in
    let one : times v (v ∷ ys) ≡ suc (times v ys) = times_here v ys in
    times_contained (xs ++ v ∷ ys) v (omega (arith, sum, one))

position_split : (xs : List ℕ) (id : ℕ) (ys : List ℕ) → times id xs ≡ 0 → position_of (xs ++ id ∷ ys) id ≡ length xs
position_split [] id ys none = go (nat_eq id id) refl
  where
    go : (b : Bool) → nat_eq id id ≡ b → cond b 0 (suc (position_of ys id)) ≡ 0
    go true is = refl
    go false is = absurd (eqb-false id id is refl)
position_split (x ∷ xs) id ys none = go (nat_eq x id) none (position_split xs id ys)
  where
    go : (b : Bool) → cond b (suc (times id xs)) (times id xs) ≡ 0 → (times id xs ≡ 0 → position_of (xs ++ id ∷ ys) id ≡ length xs) → cond b 0 (suc (position_of (xs ++ id ∷ ys) id)) ≡ suc (length xs)
    go true none rest = absurd (omega (arith, none))
    go false none rest = ap suc (rest none)

drop_here : (xs : List ℕ) (x : ℕ) (ys : List ℕ) → drop (suc (length xs)) (xs ++ x ∷ ys) ≡ ys
drop_here [] x ys = refl
drop_here (z ∷ xs) x ys = drop_here xs x ys

-- an id that stands once stands in no other position
pub once_here : (prefix : List ℕ) (id : ℕ) (rest : List ℕ) → AreDistinct (prefix ++ id ∷ rest) → (times id prefix ≡ 0) × (times id rest ≡ 0)
once_here prefix id rest distinct =
    let sum : times id (prefix ++ id ∷ rest) ≡ times id prefix + times id (id ∷ rest) = times-append id prefix (id ∷ rest) in
    let one : times id (id ∷ rest) ≡ suc (times id rest) = times_here id rest in
    let most : times id (prefix ++ id ∷ rest) ≤ 1 = distinct id in
    (omega (arith, sum, one, most), omega (arith, sum, one, most))

pub position_here : (prefix : List ℕ) (id : ℕ) (rest : List ℕ) → AreDistinct (prefix ++ id ∷ rest) → position_of (prefix ++ id ∷ rest) id ≡ length prefix
position_here prefix id rest distinct = position_split prefix id rest (once_here prefix id rest distinct).0

-- what stands after its position
pub rest_here : (prefix : List ℕ) (id : ℕ) (rest : List ℕ) → AreDistinct (prefix ++ id ∷ rest) → drop (suc (position_of (prefix ++ id ∷ rest) id)) (prefix ++ id ∷ rest) ≡ rest
rest_here prefix id rest distinct = ap (λ n. drop (suc n) (prefix ++ id ∷ rest)) (position_here prefix id rest distinct) ∙ drop_here prefix id rest

pub contains_here : (prefix : List ℕ) (id : ℕ) (rest : List ℕ) → Contains (prefix ++ id ∷ rest) id
contains_here prefix id rest = here prefix id rest

-- ---- the forms of a pattern's edits

data Form (n i : ℕ) (es : List Edit) : Type 0 where
  changes : (o : Op) → es ≡ changed i o ∷ [] → Form n i es
  replaces : (o : Op) → es ≡ replaced i o ∷ [] → Form n i es
  erases : (x : Ref) → es ≡ erased i x ∷ [] → Form n i es
  changes_one : (o : Op) (k : ℕ) (x : Ref) → es ≡ changed i o ∷ erased k x ∷ [] → (k ≡ i → ⊥) → k < n → Form n i es
  replaces_one : (o : Op) (k : ℕ) (x : Ref) → es ≡ replaced i o ∷ erased k x ∷ [] → (k ≡ i → ⊥) → k < n → Form n i es
  puts_one : (o p : Op) → es ≡ put_in i o ∷ changed (suc i) p ∷ [] → Form n i es

form_of : (n i : ℕ) (es : List Edit) → IsPatternEdit n i es → Form n i es
form_of n i (changed j o ∷ []) same = changes o (ap (λ k. changed k o ∷ []) same)
form_of n i (replaced j o ∷ []) same = replaces o (ap (λ k. replaced k o ∷ []) same)
form_of n i (erased j x ∷ []) same = erases x (ap (λ k. erased k x ∷ []) same)
form_of n i (changed j o ∷ erased k x ∷ []) (same, other, less) = changes_one o k x (ap (λ m. changed m o ∷ erased k x ∷ []) same) other less
form_of n i (replaced j o ∷ erased k x ∷ []) (same, other, less) = replaces_one o k x (ap (λ m. replaced m o ∷ erased k x ∷ []) same) other less
form_of n i (put_in j o ∷ changed k p ∷ []) (same, next) = puts_one o p (ap (λ m. put_in m o ∷ changed k p ∷ []) same ∙ ap (λ m. put_in i o ∷ changed m p ∷ []) next)
form_of n i _ form = absurd form

-- ---- where a sweep goes on

-- ids with the position that is visited next, of the operation that is due; at most so many are left
pub record Goes (ids : List ℕ) (position most : ℕ) (due : Option OpId) : Type 0 where
  pub prefix : List ℕ
  pub rest : List ℕ
  pub whole : ids ≡ prefix ++ rest
  pub size : length prefix ≡ position
  pub at : due ≡ first_id (map op_id rest)
  pub few : length rest ≤ most

-- the operation that is due, by the two that come after the visited one
next_due : (ids rest : List ℕ) (next second due : Option OpId) → next ≡ first_id (map op_id rest) → IsDue ids next second due → ((n : ℕ) (ns : List ℕ) → rest ≡ n ∷ ns → Contains ids n) → due ≡ first_id (map op_id rest)
next_due ids [] next second due is goes there = subst (λ z. IsDue ids z second due) is goes
next_due ids (n ∷ ns) next second due is goes there = (subst (λ z. IsDue ids z second due) is goes).0 (there n ns refl)

-- the second is due where the first is gone
second_due : (ids : List ℕ) (n : ℕ) (ns : List ℕ) (next second due : Option OpId) → next ≡ Some (op_id n) → second ≡ first_id (map op_id ns) → IsDue ids next second due → (Contains ids n → ⊥) → due ≡ first_id (map op_id ns)
second_due ids n ns next second due is then goes away = (subst (λ z. IsDue ids z second due) is goes).1 away ∙ then

with_last : (xs : List ℕ) (y : ℕ) (ys : List ℕ) → xs ++ y ∷ ys ≡ (xs ++ y ∷ []) ++ ys
with_last xs y ys = sym (append_assoc xs (y ∷ []) ys)

length_with_last : (xs : List ℕ) (y : ℕ) → length (xs ++ y ∷ []) ≡ suc (length xs)
length_with_last [] y = refl
length_with_last (x ∷ xs) y = ap suc (length_with_last xs y)

module _ (prefix : List ℕ) (id : OpId) (rest : List ℕ) (distinct : AreDistinct (prefix ++ id.index ∷ rest)) (fresh : ℕ) (unused : Contains (prefix ++ id.index ∷ rest) fresh → ⊥)
    (next second due : Option OpId) (is_next : next ≡ first_id (map op_id rest)) (is_second : (n : ℕ) (ns : List ℕ) → rest ≡ n ∷ ns → second ≡ first_id (map op_id ns)) where
  abbrev ids : List ℕ
  ids = prefix ++ id.index ∷ rest

  abbrev Due : List ℕ → Type 0
  Due after = (Contains after id.index → due ≡ Some id) × ((Contains after id.index → ⊥) → IsDue after next second due)

  -- an id that stands once, at the visited one or after it, is not among others with the fresh one
  away : (v : ℕ) (xs ys : List ℕ) → Contains ids v → times v xs ≡ 0 → times v ys ≡ 0 → Contains (xs ++ fresh ∷ ys) v → ⊥
  away v xs ys there none nil =
      let other : fresh ≡ v → ⊥ = (λ same. unused (subst (Contains ids) (sym same) there)) in
      let sum : times v (xs ++ fresh ∷ ys) ≡ times v xs + times v (fresh ∷ ys) = times-append v xs (fresh ∷ ys) in
      let skip : times v (fresh ∷ ys) ≡ times v ys = times_other v fresh ys other in
      absent v (xs ++ fresh ∷ ys) (omega (arith, none, nil, sum, skip))

  -- the visited one is not among parts of what stood before and after it
  gone : (xs ys : List ℕ) → times id.index xs ≤ times id.index prefix → times id.index ys ≤ times id.index rest → Contains (xs ++ fresh ∷ ys) id.index → ⊥
  gone xs ys few less =
      let one = once_here prefix id.index rest distinct in
      away id.index xs ys (here prefix id.index rest) (omega (arith, one.0, few)) (omega (arith, one.1, less))

  gone_whole : Contains (prefix ++ rest) id.index → ⊥
  gone_whole =
      let one = once_here prefix id.index rest distinct in
      let sum : times id.index (prefix ++ rest) ≡ times id.index prefix + times id.index rest = times-append id.index prefix rest in
      absent id.index (prefix ++ rest) (omega (arith, one.0, one.1, sum))

  -- it stays
  stays : (after xs ys : List ℕ) (position : ℕ) → after ≡ xs ++ id.index ∷ ys → length xs ≡ position → length ys ≤ length rest → Due after → Goes after position (suc (length rest)) due
  stays after xs ys position whole size few dues = record {
    prefix = xs;
    rest = id.index ∷ ys;
    whole = whole;
    size = size;
    at = dues.0 (subst (λ z. Contains z id.index) (sym whole) (here xs id.index ys));
    few = omega (arith, few);
  }

  -- it goes, and what stood after it is there
  goes : (after xs : List ℕ) (position : ℕ) → after ≡ xs ++ rest → length xs ≡ position → (Contains after id.index → ⊥) → Due after → Goes after position (suc (length rest)) due
  goes after xs position whole size absence dues = record {
    prefix = xs;
    rest = rest;
    whole = whole;
    size = size;
    at = next_due after rest next second due is_next (dues.1 absence) (λ n ns is. subst (λ z. Contains z n) (sym (whole ∙ ap (λ z. xs ++ z) is)) (here xs n ns));
    few = omega arith;
  }

  -- it goes, the fresh one standing there, and so does one of those that stood after it
  goes_with : (after : List ℕ) (zs : List ℕ) (k : ℕ) → rest ≡ zs → after ≡ prefix ++ fresh ∷ remove zs k → k < length zs → Due after → Goes after (suc (length prefix)) (suc (length rest)) due
  goes_with after [] k same whole less dues = absurd (omega (arith, less))
  goes_with after (n ∷ ns) zero same whole less dues =
      let ids_are : ids ≡ prefix ++ id.index ∷ n ∷ ns = ap (λ z. prefix ++ id.index ∷ z) same in
      let split : ids ≡ (prefix ++ id.index ∷ []) ++ n ∷ ns = ids_are ∙ with_last prefix id.index (n ∷ ns) in
      let one = once_here (prefix ++ id.index ∷ []) n ns (subst AreDistinct split distinct) in
      let sum : times n (prefix ++ id.index ∷ []) ≡ times n prefix + times n (id.index ∷ []) = times-append n prefix (id.index ∷ []) in
      let absence : Contains after n → ⊥ =
      (λ there. away n prefix ns (subst (λ z. Contains z n) (sym split) (here (prefix ++ id.index ∷ []) n ns)) (omega (arith, one.0, sum)) one.1 (subst (λ z. Contains z n) whole there)) in
      let left : Contains after id.index → ⊥ =
      (λ there. gone prefix ns (omega arith) (subst (λ z. times id.index ns ≤ times id.index z) (sym same) (times_least id.index n ns)) (subst (λ z. Contains z id.index) whole there)) in
      record {
        prefix = prefix ++ fresh ∷ [];
        rest = ns;
        whole = whole ∙ with_last prefix fresh ns;
        size = length_with_last prefix fresh;
        at = second_due after n ns next second due (is_next ∙ ap (λ z. first_id (map op_id z)) same) (is_second n ns same) (dues.1 left) absence;
        few = let size : length rest ≡ suc (length ns) = ap length same in omega (arith, size);
      }
  goes_with after (n ∷ ns) (suc k) same whole less dues =
      let left : Contains after id.index → ⊥ =
      (λ there. gone prefix (n ∷ remove ns k) (omega arith) (subst (λ z. times id.index (n ∷ remove ns k) ≤ times id.index z) (sym same) (times-remove id.index (n ∷ ns) (suc k)))
      (subst (λ z. Contains z id.index) whole there)) in
      let due_is : due ≡ first_id (map op_id (n ∷ ns)) =
      next_due after (n ∷ ns) next second due (is_next ∙ ap (λ z. first_id (map op_id z)) same) (dues.1 left)
      (λ m ms is. let first : n ≡ m = cc in subst (λ z. Contains z m) (sym (whole ∙ with_last prefix fresh (n ∷ remove ns k)))
      (subst (λ z. Contains ((prefix ++ fresh ∷ []) ++ n ∷ remove ns k) z) first (here (prefix ++ fresh ∷ []) n (remove ns k)))) in
      record {
        prefix = prefix ++ fresh ∷ [];
        rest = n ∷ remove ns k;
        whole = whole ∙ with_last prefix fresh (n ∷ remove ns k);
        size = length_with_last prefix fresh;
        at = due_is;
        few = let size : length rest ≡ suc (length ns) = ap length same in let less_left = length-remove_most ns k in omega (arith, size, less_left);
      }

  -- a position of another id is before or after that of the visited one
  record After (k : ℕ) : Type 0 where
    beyond : ℕ
    is : k ≡ length prefix + suc beyond
    within : beyond < length rest

  after_it : (k : ℕ) → (k ≡ length prefix → ⊥) → k < length ids → nat_lt k (length prefix) ≡ false → After k
  after_it k other less test =
      let past : length prefix ≤ k = omega (arith, ltb-false k (length prefix) test) in
      let size : length ids ≡ length prefix + suc (length rest) = length-append prefix (id.index ∷ rest) in
      record { beyond = k - length prefix - 1; is = omega (arith, past, other); within = omega (arith, past, other, less, size) }

  erased_before : (xs : List ℕ) (y : ℕ) (ys : List ℕ) (k : ℕ) → k < length xs → remove (xs ++ y ∷ ys) k ≡ remove xs k ++ y ∷ ys
  erased_before xs y ys k less = remove_before xs (y ∷ ys) k less

  changes_one_goes : (o : Op) (k : ℕ) (x : Ref) → (k ≡ length prefix → ⊥) → k < length ids → (b : Bool) → nat_lt k (length prefix) ≡ b → Due (remove ids k)
      → Goes (remove ids k) (cond b (length prefix - 1) (length prefix)) (suc (length rest)) due
  changes_one_goes o k x other less true test dues =
      let below : k < length prefix = ltb-true k (length prefix) test in
      let size : length (remove prefix k) + 1 ≡ length prefix = length-remove_one prefix k below in
      stays (remove ids k) (remove prefix k) rest (length prefix - 1) (remove_before prefix (id.index ∷ rest) k below) (omega (arith, size)) (omega arith) dues
  changes_one_goes o k x other less false test dues =
      let p = after_it k other less test in
      stays (remove ids k) prefix (remove rest p.beyond) (length prefix) (ap (remove ids) p.is ∙ remove_after prefix (id.index ∷ rest) (suc p.beyond)) refl (length-remove_most rest p.beyond) dues

  replaced_ids : set ids (length prefix) fresh ≡ prefix ++ fresh ∷ rest
  replaced_ids = set_here prefix id.index fresh rest

  replaces_one_goes : (k : ℕ) → (k ≡ length prefix → ⊥) → k < length ids → (b : Bool) → nat_lt k (length prefix) ≡ b → Due (remove (set ids (length prefix) fresh) k)
      → Goes (remove (set ids (length prefix) fresh) k) (cond b (length prefix) (suc (length prefix))) (suc (length rest)) due
  replaces_one_goes k other less true test dues =
      let below : k < length prefix = ltb-true k (length prefix) test in
      let size : length (remove prefix k) + 1 ≡ length prefix = length-remove_one prefix k below in
      let whole : remove (set ids (length prefix) fresh) k ≡ remove prefix k ++ fresh ∷ rest = ap (λ z. remove z k) replaced_ids ∙ remove_before prefix (fresh ∷ rest) k below in
      goes (remove (set ids (length prefix) fresh) k) (remove prefix k ++ fresh ∷ []) (length prefix) (whole ∙ with_last (remove prefix k) fresh rest) (length_with_last (remove prefix k) fresh ∙ omega (arith, size))
      (λ there. gone (remove prefix k) rest (times-remove id.index prefix k) (omega arith) (subst (λ z. Contains z id.index) whole there)) dues
  replaces_one_goes k other less false test dues =
      let p = after_it k other less test in
      let whole : remove (set ids (length prefix) fresh) k ≡ prefix ++ fresh ∷ remove rest p.beyond =
      ap (λ z. remove z k) replaced_ids ∙ ap (remove (prefix ++ fresh ∷ rest)) p.is ∙ remove_after prefix (fresh ∷ rest) (suc p.beyond) in
      goes_with (remove (set ids (length prefix) fresh) k) rest p.beyond refl whole p.within dues

  nat_lt_self : (n : ℕ) → nat_lt n n ≡ false
  nat_lt_self n = go (nat_lt n n) refl
    where
      go : (b : Bool) → nat_lt n n ≡ b → nat_lt n n ≡ false
      go true is = absurd (omega (arith, ltb-true n n is))
      go false is = is

  nat_eq_self : (n : ℕ) → nat_eq n n ≡ true
  nat_eq_self n = eq-eqb n n refl

  -- what a test of a position against the next of the visited one says
  lt_suc : (k n : ℕ) → (k ≡ n → ⊥) → nat_lt k (suc n) ≡ nat_lt k n
  lt_suc k n other = go (nat_lt k (suc n)) refl (nat_lt k n) refl
    where
      go : (a : Bool) → nat_lt k (suc n) ≡ a → (b : Bool) → nat_lt k n ≡ b → nat_lt k (suc n) ≡ nat_lt k n
      go true one true two = one ∙ sym two
      go false one false two = one ∙ sym two
      go true one false two = absurd (other (omega (arith, ltb-true k (suc n) one, ltb-false k n two)))
      go false one true two = absurd (omega (arith, ltb-false k (suc n) one, ltb-true k n two))

  by_form : (es : List Edit) → Form (length ids) (length prefix) es → Due (ids_edited_by fresh es ids) → Goes (ids_edited_by fresh es ids) (moved_by es (length prefix)) (suc (length rest)) due
  by_form es (changes o is) dues =
      subst (λ z. Goes (ids_edited_by fresh z ids) (moved_by z (length prefix)) (suc (length rest)) due) (sym is)
      (stays ids prefix rest (length prefix) refl refl (omega arith) (subst (λ z. Due (ids_edited_by fresh z ids)) is dues))
  by_form es (replaces o is) dues =
      let d = subst (λ z. Due (ids_edited_by fresh z ids)) is dues in
      subst (λ z. Goes (ids_edited_by fresh z ids) (moved_by z (length prefix)) (suc (length rest)) due) (sym is)
      (subst (λ b. Goes (set ids (length prefix) fresh) (cond b (suc (length prefix)) (length prefix)) (suc (length rest)) due) (sym (nat_eq_self (length prefix)))
      (goes (set ids (length prefix) fresh) (prefix ++ fresh ∷ []) (suc (length prefix)) (replaced_ids ∙ with_last prefix fresh rest) (length_with_last prefix fresh)
      (λ there. gone prefix rest (omega arith) (omega arith) (subst (λ z. Contains z id.index) replaced_ids there)) d))
  by_form es (erases x is) dues =
      let d = subst (λ z. Due (ids_edited_by fresh z ids)) is dues in
      subst (λ z. Goes (ids_edited_by fresh z ids) (moved_by z (length prefix)) (suc (length rest)) due) (sym is)
      (subst (λ b. Goes (remove ids (length prefix)) (cond b (length prefix - 1) (length prefix)) (suc (length rest)) due) (sym (nat_lt_self (length prefix)))
      (goes (remove ids (length prefix)) prefix (length prefix) (remove_here prefix id.index rest) refl (λ there. gone_whole (subst (λ z. Contains z id.index) (remove_here prefix id.index rest) there)) d))
  by_form es (changes_one o k x is other less) dues =
      subst (λ z. Goes (ids_edited_by fresh z ids) (moved_by z (length prefix)) (suc (length rest)) due) (sym is)
      (changes_one_goes o k x other less (nat_lt k (length prefix)) refl (subst (λ z. Due (ids_edited_by fresh z ids)) is dues))
  by_form es (replaces_one o k x is other less) dues =
      let d = subst (λ z. Due (ids_edited_by fresh z ids)) is dues in
      subst (λ z. Goes (ids_edited_by fresh z ids) (moved_by z (length prefix)) (suc (length rest)) due) (sym is)
      (subst (λ b. Goes (remove (set ids (length prefix) fresh) k) (cond (nat_lt k (cond b (suc (length prefix)) (length prefix))) (cond b (suc (length prefix)) (length prefix) - 1)
      (cond b (suc (length prefix)) (length prefix))) (suc (length rest)) due)
      (sym (nat_eq_self (length prefix)))
      (let down : length prefix ≡ suc (length prefix) - 1 = omega arith in
      subst (λ n. Goes (remove (set ids (length prefix) fresh) k) (cond (nat_lt k (suc (length prefix))) n (suc (length prefix))) (suc (length rest)) due) down
      (subst (λ b. Goes (remove (set ids (length prefix) fresh) k) (cond b (length prefix) (suc (length prefix))) (suc (length rest)) due) (sym (lt_suc k (length prefix) other))
      (replaces_one_goes k other less (nat_lt k (length prefix)) refl d))))
  by_form es (puts_one o p is) dues =
      let d = subst (λ z. Due (ids_edited_by fresh z ids)) is dues in
      subst (λ z. Goes (ids_edited_by fresh z ids) (moved_by z (length prefix)) (suc (length rest)) due) (sym is)
      (subst (λ b. Goes (insert ids (length prefix) fresh) (cond b (length prefix) (suc (length prefix))) (suc (length rest)) due) (sym (nat_lt_self (length prefix)))
      (stays (insert ids (length prefix) fresh) (prefix ++ fresh ∷ []) rest (suc (length prefix)) (insert_here prefix fresh (id.index ∷ rest) ∙ with_last prefix fresh (id.index ∷ rest)) (length_with_last prefix fresh) (omega arith) d))

  pub goes_on : (es : List Edit) → IsPatternEdit (length ids) (length prefix) es → Due (ids_edited_by fresh es ids) → Goes (ids_edited_by fresh es ids) (moved_by es (length prefix)) (suc (length rest)) due
  goes_on es form dues = by_form es (form_of (length ids) (length prefix) es form) dues
