-- The groups of operations of a body, and of one more.
use Rattle.std.proofs.Common.{◌≡◌, ℕ, zero, suc, Bool, true, false, cond, ◌&&◌, ◌||◌, nat_eq, List, [], ◌∷◌, ◌++◌, map, take, filter, Result, Ok, Err, OnOk, Some, slice_get, refl, sym, ap, ap₂, ◌∙◌}
use Rattle.std.specs.List.{list_any}
use Rattle.std.proofs.lemmas.List.{map-append, append-nil}
use Rattle.std.proofs.lemmas.List.Elements.{filter-append}
use Rattle.std.proofs.lemmas.List.Folds.{list_any-append}
use Rattle.ir_store.specs.declared.operation.OpId.{OpId}
use Rattle.ir_store.specs.Bodies.{op_id}
use Rattle.ir_store.specs.BodyOps.{BodyOp, ids_in, op_at, names_in}
use Rattle.ir_store.specs.Numbered.{position_of}
use Rattle.fold_laws.specs.Unused.{is_pure}
use Rattle.cse_pass.specs.declared.groups.Groups.{Groups}
use Rattle.cse_pass.specs.Groups.{group_of, group_in, is_noted, has_hash, takes_purely, IsGrouping}
use Rattle.cse_pass.specs.Hashes.{hash_of}

-- ---- lists

-- the operation of an id stands at its position
pub stands_at : (ops : List BodyOp) (id : ℕ) (o : BodyOp) → op_at ops id ≡ Some o → slice_get ops (position_of (ids_in ops) id) ≡ Some o
stands_at [] id o is = cc
stands_at (p ∷ ops) id o is = go (nat_eq p.id id) is (stands_at ops id o)
  where
    go : (b : Bool) → cond b (Some p) (op_at ops id) ≡ Some o → (op_at ops id ≡ Some o → slice_get ops (position_of (ids_in ops) id) ≡ Some o)
        → slice_get (p ∷ ops) (cond b 0 (suc (position_of (ids_in ops) id))) ≡ Some o
    go true is r = is
    go false is r = r is

-- the elements up to one, and it
pub take_more : {A : Type 0} (xs : List A) (i : ℕ) (x : A) → slice_get xs i ≡ Some x → take (suc i) xs ≡ take i xs ++ x ∷ []
take_more [] i x is = cc
take_more (y ∷ ys) zero x is = let same : y ≡ x = cc in ap (λ z. z ∷ []) same
take_more (y ∷ ys) (suc i) x is = ap (λ zs. y ∷ zs) (take_more ys i x is)

-- ---- one more operation

group_push : (h : ℕ) (ops : List BodyOp) (o : BodyOp) → group_in h (ops ++ o ∷ []) ≡ group_in h ops ++ map (λ (p : BodyOp). op_id p.id) (cond (has_hash h o) (o ∷ []) [])
group_push h ops o =
    ap (map (λ (p : BodyOp). op_id p.id)) (filter-append (has_hash h) ops (o ∷ []))
    ∙ map-append (λ (p : BodyOp). op_id p.id) (filter (has_hash h) ops) (filter (has_hash h) (o ∷ []))

or_false : (b : Bool) → b || false ≡ b
or_false true = refl
or_false false = refl

takes_push : (id : ℕ) (ops : List BodyOp) (o : BodyOp) → list_any (takes_purely id) (ops ++ o ∷ []) ≡ list_any (takes_purely id) ops || takes_purely id o
takes_push id ops o = list_any-append (takes_purely id) ops (o ∷ []) ∙ ap (λ b. list_any (takes_purely id) ops || b) (or_false (takes_purely id o))

other_hash : (h : ℕ) (o : BodyOp) → is_pure o.parts.kind ≡ false → has_hash h o ≡ false
unfolding has_hash
other_hash h o other = ap (λ p. p && nat_eq (hash_of o.parts o.operands) h) other

takes_nothing : (id : ℕ) (o : BodyOp) → is_pure o.parts.kind ≡ false → takes_purely id o ≡ false
unfolding takes_purely
takes_nothing id o other = ap (λ p. p && names_in id o.operands) other

own_hash : (h : ℕ) (o : BodyOp) → is_pure o.parts.kind ≡ true → has_hash h o ≡ nat_eq (hash_of o.parts o.operands) h
unfolding has_hash
own_hash h o pure = ap (λ p. p && nat_eq (hash_of o.parts o.operands) h) pure

takes_own : (id : ℕ) (o : BodyOp) → is_pure o.parts.kind ≡ true → takes_purely id o ≡ names_in id o.operands
unfolding takes_purely
takes_own id o pure = ap (λ p. p && names_in id o.operands) pure

-- one that is not pure stands in no group
pub grouped_past : (g : Groups) (ops : List BodyOp) (o : BodyOp) → IsGrouping g ops → is_pure o.parts.kind ≡ false → IsGrouping g (ops ++ o ∷ [])
grouped_past g ops o grouped other = record {
  groups = λ h. grouped.groups h
      ∙ sym (group_push h ops o ∙ ap (λ b. group_in h ops ++ map (λ (p : BodyOp). op_id p.id) (cond b (o ∷ []) [])) (other_hash h o other) ∙ append-nil (group_in h ops));
  noted = λ id is.
      grouped.noted id (sym (takes_push id ops o ∙ ap (λ b. list_any (takes_purely id) ops || b) (takes_nothing id o other) ∙ or_false (list_any (takes_purely id) ops)) ∙ is);
}

-- a pure one stands in that of its hash
pub grouped_more : (g g' : Groups) (ops : List BodyOp) (o : BodyOp) (id : OpId) (hash : ℕ) → IsGrouping g ops → is_pure o.parts.kind ≡ true → op_id o.id ≡ id → hash ≡ hash_of o.parts o.operands
    → ((h : ℕ) → group_of g' h ≡ cond (nat_eq hash h) (group_of g h ++ id ∷ []) (group_of g h)) → ((i : ℕ) → is_noted g i ≡ true → is_noted g' i ≡ true)
    → ((i : ℕ) → names_in i o.operands ≡ true → is_noted g' i ≡ true) → IsGrouping g' (ops ++ o ∷ [])
grouped_more g g' ops o id hash grouped pure own same group stay named = record {
  groups = λ h. group h ∙ in_group h (nat_eq hash h) (ap (λ n. nat_eq n h) same ∙ sym (own_hash h o pure));
  noted = λ i is. of_either i (list_any (takes_purely i) ops) refl (sym (takes_push i ops o) ∙ is);
}
  where
    in_group : (h : ℕ) (b : Bool) → b ≡ has_hash h o → cond b (group_of g h ++ id ∷ []) (group_of g h) ≡ group_in h (ops ++ o ∷ [])
    in_group h true is =
        ap₂ (λ xs x. xs ++ x ∷ []) (grouped.groups h) (sym own)
        ∙ sym (group_push h ops o ∙ ap (λ b. group_in h ops ++ map (λ (p : BodyOp). op_id p.id) (cond b (o ∷ []) [])) (sym is))
    in_group h false is =
        grouped.groups h
        ∙ sym (group_push h ops o ∙ ap (λ b. group_in h ops ++ map (λ (p : BodyOp). op_id p.id) (cond b (o ∷ []) [])) (sym is) ∙ append-nil (group_in h ops))

    of_either : (i : ℕ) (b : Bool) → list_any (takes_purely i) ops ≡ b → b || takes_purely i o ≡ true → is_noted g' i ≡ true
    of_either i true before is = stay i (grouped.noted i before)
    of_either i false before is = named i (sym (takes_own i o pure) ∙ is)

-- what follows from three things that hold where there is no error
pub on_ok3 : {T E : Type 0} (r : Result T E) {A B C D : Type 0} → (A → B → C → D) → OnOk r A → OnOk r B → OnOk r C → OnOk r D
on_ok3 (Ok x) f a b c = f a b c
on_ok3 (Err e) f a b c = tt
