-- A body in code in which one operation stands for another one, by positions.
use Rattle.std.proofs.Common.{◌≡◌, ℕ, zero, suc, ◌<◌, Bool, true, false, cond, ◌&&◌, nat_eq, nat_lt, List, [], ◌∷◌, map, length, Option, Some, None, slice_get, All, Contains, remove, refl, sym, ap}
use Rattle.std.proofs.Common.{ap₂, subst, ◌∙◌, ne_eqb, eq-eqb, arith, option_and_then, option_map}
use Rattle.std.specs.Prelude.{is_some}
use Rattle.std.proofs.lemmas.Bool.{eqb-true, eqb-false, ltb-true, ltb-false, lt-ltb}
use Rattle.std.proofs.lemmas.List.{length-map}
use Rattle.std.proofs.lemmas.List.Elements.{All-head, All-tail}
use Rattle.std.proofs.lemmas.Option.{slice_get_within}
use Rattle.wiring.specs.Wiring.{In}
use Rattle.wiring.proofs.Members.{In-map, position_of_In, All-from_members}
use Rattle.hw_model.specs.Design.{Op, OpResult, result_type}
use Rattle.hw_model.specs.Equality.{both_of}
use Rattle.hw_model.specs.Sound.{type_in}
use Rattle.edit_laws.specs.Laws.{down}
use Rattle.edit_laws.proofs.Positions.{down_same, down_none}
use Rattle.ir_store.specs.declared.body.Body.{Body}
use Rattle.ir_store.specs.declared.body.Op.{Op as ReadOp}
use Rattle.ir_store.specs.declared.operation.OpId.{OpId}
use Rattle.ir_store.specs.declared.operation.Value.{Value}
use Rattle.ir_store.specs.declared.operation.Value.TheVariants.{Port, Result, Undefined}
use Rattle.ir_store.specs.Bodies.{ids_of, ops_of, read_op}
use Rattle.ir_store.specs.BodyOps.{BodyOp, ids_in, op_at, same_value, replace_value, all_replaced, taken_out, is_of, IsUnused}
use Rattle.ir_store.specs.Live.{IsLive, HasLive, AreLive}
use Rattle.ir_store.specs.Numbered.{position_of, ref_by, op_by, ops_by_position}
use Rattle.ir_store.specs.OperationViews.{result_of}
use Rattle.ir_store.specs.ShortLists.{short_items}
use Rattle.ir_store.specs.Positions.{retarget, result_at, pulled_ref, without_op}
use Rattle.ir_store.proofs.Living.{all_mapped, same_map}
use Rattle.ir_store.proofs.Numbering.{numbered-taken_out, same-ref_by}
use Rattle.acceptance_laws.proofs.FitBodies.{operand_there}
use Rattle.body_edits.specs.FitBodies.{IsOfFit}
use Rattle.body_edits.specs.Views.{body_ops, position_in, value_ref, op_seen}
use Rattle.body_edits.proofs.Erasing.{map_after_map}
use Rattle.body_edits.proofs.Positions.{down-erase}
use Rattle.body_edits.proofs.ReadBodies.{op_seen_at}
use Rattle.cse_pass.proofs.Merging.{down_below}
use Rattle.cse_pass.specs.Merges.{merged_at, merged_ref, merge_op}
use Rattle.cse_pass.specs.Sweeps.{merged_value, with_merged}

-- ---- lists

map_remove : {A B : Type 0} (f : A → B) (xs : List A) (i : ℕ) → map f (remove xs i) ≡ remove (map f xs) i
map_remove f [] zero = refl
map_remove f [] (suc i) = refl
map_remove f (y ∷ ys) zero = refl
map_remove f (y ∷ ys) (suc i) = ap (λ zs. f y ∷ zs) (map_remove f ys i)

-- ---- one result after another

-- a value, where the results below a number stand for those of another operation
abbrev pub merged_below : ℕ → OpId → OpId → Value → Value
merged_below n op first (Port k) = Port k
merged_below n op first (Result id k) = cond (nat_eq id.index op.index && nat_lt k n) (Result first k) (Result id k)
merged_below n op first Undefined = Undefined

abbrev pub with_merged_below : ℕ → OpId → OpId → BodyOp → BodyOp
with_merged_below n op first o = record o { operands = map (merged_below n op first) o.operands }

module _ (op first : OpId) where
  none_below : (v : Value) → v ≡ merged_below 0 op first v
  none_below (Port k) = refl
  none_below Undefined = refl
  none_below (Result id k) = go (nat_eq id.index op.index) (nat_lt k 0) refl
    where
      go : (b c : Bool) → nat_lt k 0 ≡ c → Result id k ≡ cond (b && c) (Result first k) (Result id k)
      go b true is = absurd (omega (arith, ltb-true k 0 is))
      go true false is = refl
      go false false is = refl

  map_same_all : {A : Type 0} (f : A → A) → ((x : A) → x ≡ f x) → (xs : List A) → xs ≡ map f xs
  map_same_all f same [] = refl
  map_same_all f same (x ∷ xs) = ap₂ (λ y ys. y ∷ ys) (same x) (map_same_all f same xs)

  pub begins : (ops : List BodyOp) → ops ≡ map (with_merged_below 0 op first) ops
  begins ops = map_same_all (with_merged_below 0 op first) (λ o. ap (λ vs. record o { operands = vs }) (map_same_all (merged_below 0 op first) none_below o.operands)) ops

  one_more : (n : ℕ) (v : Value) → replace_value (Result op n) (Result first n) (merged_below n op first v) ≡ merged_below (suc n) op first v
  one_more n (Port k) = refl
  one_more n Undefined = refl
  one_more n (Result id k) = go (nat_eq id.index op.index) refl (nat_lt k n) refl
    where
      -- a value that is not the result of this number stays
      stays : (w : Value) → same_value (Result op n) w ≡ false → replace_value (Result op n) (Result first n) w ≡ w
      stays w other = ap (λ b. cond b (Result first n) w) other

      and_no : (a : Bool) → a && false ≡ false
      and_no true = refl
      and_no false = refl

      this : nat_eq id.index op.index ≡ true → nat_lt k n ≡ false → (b : Bool) → nat_eq n k ≡ b
          → replace_value (Result op n) (Result first n) (Result id k) ≡ cond (nat_lt k (suc n)) (Result first k) (Result id k)
      this own above true is =
          let same : n ≡ k = eqb-true n k is in
          let less : k < suc n = omega (arith, same) in
          ap (λ b. cond (b && nat_eq n k) (Result first n) (Result id k)) (eq-eqb op.index id.index (sym (eqb-true id.index op.index own)))
          ∙ ap (λ b. cond b (Result first n) (Result id k)) is ∙ ap (Result first) same
          ∙ sym (ap (λ b. cond b (Result first k) (Result id k)) (lt-ltb k (suc n) less))
      this own above false is =
          stays (Result id k) (ap (λ b. nat_eq op.index id.index && b) is ∙ and_no (nat_eq op.index id.index))
          ∙ sym (ap (λ b. cond b (Result first k) (Result id k)) (not_less (nat_lt k (suc n)) refl))
        where
          not_less : (c : Bool) → nat_lt k (suc n) ≡ c → c ≡ false
          not_less true less = absurd (eqb-false n k is (omega (arith, ltb-true k (suc n) less, ltb-false k n above)))
          not_less false less = refl

      go : (b : Bool) → nat_eq id.index op.index ≡ b → (c : Bool) → nat_lt k n ≡ c
          → replace_value (Result op n) (Result first n) (cond (b && c) (Result first k) (Result id k)) ≡ cond (b && nat_lt k (suc n)) (Result first k) (Result id k)
      go true own true below =
          let less : k < n = ltb-true k n below in
          let more : k < suc n = omega (arith, less) in
          stays (Result first k) (ap (λ b. nat_eq op.index first.index && b) (ne_eqb n k (λ same. omega (arith, less, same))) ∙ and_no (nat_eq op.index first.index))
          ∙ sym (ap (λ b. cond b (Result first k) (Result id k)) (lt-ltb k (suc n) more))
      go true own false above = this own above (nat_eq n k) refl
      go false other c is = stays (Result id k) (ap (λ b. b && nat_eq n k) (ne_eqb op.index id.index (λ same. eqb-false id.index op.index other (sym same))))

  pub goes_on : (n : ℕ) (ops : List BodyOp) → all_replaced (Result op n) (Result first n) (map (with_merged_below n op first) ops) ≡ map (with_merged_below (suc n) op first) ops
  goes_on n ops =
      map_after_map (λ (o : BodyOp). record o { operands = map (replace_value (Result op n) (Result first n)) o.operands }) (with_merged_below n op first) (with_merged_below (suc n) op first)
      (λ o. ap (λ vs. record o { operands = vs })
      (map_after_map (replace_value (Result op n) (Result first n)) (merged_below n op first) (merged_below (suc n) op first) (one_more n) o.operands)) ops

  -- a value is no further result of the operation than it has
  abbrev pub IsWithin : ℕ → Value → Type 0
  IsWithin n (Port k) = Unit {0}
  IsWithin n (Result id k) = nat_eq id.index op.index ≡ true → k < n
  IsWithin n Undefined = Unit {0}

  abbrev pub AreWithin : ℕ → List BodyOp → Type 0
  AreWithin n ops = All (λ (o : BodyOp). All (IsWithin n) o.operands) ops

  all_below : (n : ℕ) (v : Value) → IsWithin n v → merged_below n op first v ≡ merged_value op first v
  all_below n (Port k) within = refl
  all_below n Undefined within = refl
  all_below n (Result id k) within = go (nat_eq id.index op.index) refl
    where
      go : (b : Bool) → nat_eq id.index op.index ≡ b → cond (b && nat_lt k n) (Result first k) (Result id k) ≡ cond b (Result first k) (Result id k)
      go true own = ap (λ b. cond b (Result first k) (Result id k)) (lt-ltb k n (within own))
      go false other = refl

  pub ends : (n : ℕ) (ops : List BodyOp) → AreWithin n ops → map (with_merged_below n op first) ops ≡ map (with_merged op first) ops
  ends n ops within =
      same_map (λ (o : BodyOp). All (IsWithin n) o.operands) (with_merged_below n op first) (with_merged op first)
      (λ o all. ap (λ vs. record o { operands = vs }) (same_map (IsWithin n) (merged_below n op first) (merged_value op first) (all_below n) o.operands all)) ops within

  -- ---- then nothing names it

  unnamed : (op.index ≡ first.index → ⊥) → (v : Value) → is_of op.index (merged_value op first v) ≡ false
  unnamed other (Port k) = refl
  unnamed other Undefined = refl
  unnamed other (Result id k) = go (nat_eq id.index op.index) refl
    where
      go : (b : Bool) → nat_eq id.index op.index ≡ b → is_of op.index (cond b (Result first k) (Result id k)) ≡ false
      go true own = ne_eqb first.index op.index (λ same. other (sym same))
      go false not_own = not_own

  pub unused_merged : (op.index ≡ first.index → ⊥) → (ops : List BodyOp) → AreLive ops → IsUnused op.index (map (with_merged op first) ops)
  unused_merged other ops live =
      all_mapped (HasLive (ids_in ops)) (λ (o : BodyOp). All (λ v. is_of op.index v ≡ false) o.operands) (with_merged op first)
      (λ o all. all_mapped (IsLive (ids_in ops)) (λ v. is_of op.index v ≡ false) (merged_value op first) (λ v h. unnamed other v) o.operands all) ops live

  -- ---- by positions

  pub ids_merged : (ops : List BodyOp) → ids_in (map (with_merged op first) ops) ≡ ids_in ops
  ids_merged [] = refl
  ids_merged (o ∷ ops) = ap (λ ids. o.id ∷ ids) (ids_merged ops)

  value_merged : (ids : List ℕ) → Contains ids op.index → down (position_of ids op.index) (position_of ids first.index) ≡ Some (position_of ids first.index)
      → (v : Value) → IsLive ids v
      → pulled_ref (position_of ids op.index) (ref_by (position_of ids) (merged_value op first v)) ≡ merged_ref (position_of ids op.index) (position_of ids first.index) (ref_by (position_of ids) v)
  value_merged ids there is (Port k) live = refl
  value_merged ids there is Undefined live = refl
  value_merged ids there is (Result id k) live = go (nat_eq id.index op.index) refl
    where
      some : (z : Option ℕ) → (z ≡ None → ⊥) → result_at z k ≡ merged_at z (position_of ids first.index) k
      some (Some n) not_none = refl
      some None not_none = absurd (not_none refl)

      go : (b : Bool) → nat_eq id.index op.index ≡ b
          → pulled_ref (position_of ids op.index) (ref_by (position_of ids) (cond b (Result first k) (Result id k)))
          ≡ merged_at (down (position_of ids op.index) (position_of ids id.index)) (position_of ids first.index) k
      go true own =
          ap (λ z. result_at z k) (sym (down-erase (position_of ids op.index) (position_of ids first.index)) ∙ is)
          ∙ sym (ap (λ z. merged_at z (position_of ids first.index) k) (ap (λ n. down (position_of ids op.index) (position_of ids n)) (eqb-true id.index op.index own) ∙ down_same (position_of ids op.index)))
      go false not_own =
          ap (λ z. result_at z k) (sym (down-erase (position_of ids op.index) (position_of ids id.index)))
          ∙ some (down (position_of ids op.index) (position_of ids id.index))
          (λ none. eqb-false id.index op.index not_own (same_position (down_none (position_of ids op.index) (position_of ids id.index) none)))
        where
          same_position : position_of ids id.index ≡ position_of ids op.index → id.index ≡ op.index
          same_position same =
              eqb-true id.index op.index
              (both_of (nat_eq id.index op.index) (nat_eq 0 0)
              (same-ref_by ids (Result id 0) (Result op 0) live there ∙ ap (λ b. b && nat_eq 0 0) (eq-eqb (position_of ids id.index) (position_of ids op.index) same))).0

  -- so each operand, and each operation
  values_merged : (ids : List ℕ) → Contains ids op.index → down (position_of ids op.index) (position_of ids first.index) ≡ Some (position_of ids first.index)
      → (vs : List Value) → All (IsLive ids) vs
      → map (pulled_ref (position_of ids op.index)) (map (ref_by (position_of ids)) (map (merged_value op first) vs))
      ≡ map (merged_ref (position_of ids op.index) (position_of ids first.index)) (map (ref_by (position_of ids)) vs)
  values_merged ids there is [] live = refl
  values_merged ids there is (v ∷ vs) live =
      ap₂ (λ r rs. r ∷ rs) (value_merged ids there is v (All-head (IsLive ids) v vs live)) (values_merged ids there is vs (All-tail (IsLive ids) v vs live))

  all_merged : (ids : List ℕ) → Contains ids op.index → down (position_of ids op.index) (position_of ids first.index) ≡ Some (position_of ids first.index)
      → (ops : List BodyOp) → All (HasLive ids) ops
      → map (retarget (pulled_ref (position_of ids op.index))) (map (op_by (position_of ids)) (map (with_merged op first) ops))
      ≡ map (retarget (merged_ref (position_of ids op.index) (position_of ids first.index))) (map (op_by (position_of ids)) ops)
  all_merged ids there is [] live = refl
  all_merged ids there is (o ∷ ops) live =
      ap₂ (λ q qs. q ∷ qs)
      (ap (λ rs. record (op_by (position_of ids) o) { operands = rs }) (values_merged ids there is o.operands (All-head (HasLive ids) o ops live)))
      (all_merged ids there is ops (All-tail (HasLive ids) o ops live))

  pub numbered_merge : (ops : List BodyOp) → AreLive ops → Contains (ids_in ops) op.index → position_of (ids_in ops) first.index < position_of (ids_in ops) op.index
      → ops_by_position (taken_out op.index (map (with_merged op first) ops)) ≡ merge_op (position_of (ids_in ops) op.index) (position_of (ids_in ops) first.index) (ops_by_position ops)
  numbered_merge ops live there before =
      numbered-taken_out op.index (map (with_merged op first) ops) (subst (λ z. Contains z op.index) (sym (ids_merged ops)) there) (unused_merged other ops live)
      ∙ ap (λ ids. without_op (position_of ids op.index) (map (op_by (position_of ids)) (map (with_merged op first) ops))) (ids_merged ops)
      ∙ map_remove (retarget (pulled_ref (position_of (ids_in ops) op.index))) (map (op_by (position_of (ids_in ops))) (map (with_merged op first) ops)) (position_of (ids_in ops) op.index)
      ∙ ap (λ os. remove os (position_of (ids_in ops) op.index)) (all_merged (ids_in ops) there (down_below (position_of (ids_in ops) op.index) (position_of (ids_in ops) first.index) before) ops live)
      ∙ sym (map_remove (retarget (merged_ref (position_of (ids_in ops) op.index) (position_of (ids_in ops) first.index))) (ops_by_position ops) (position_of (ids_in ops) op.index))
    where
      other : op.index ≡ first.index → ⊥
      other same = let one = ap (position_of (ids_in ops)) same in omega (arith, one, before)

-- ---- in a body of a fit design

-- no operand is a further result than an operation has
pub all_within : (b : Body) (op : OpId) (o : ReadOp) → IsOfFit b → op_at (ops_of b) op.index ≡ Some (read_op op o) → AreWithin op op (length (op_seen b o).results) (ops_of b)
unfolding body_ops position_in value_ref
all_within b op o of is =
    All-from_members (λ (p : BodyOp). All (IsWithin op op (length (op_seen b o).results)) p.operands) (ops_of b)
    (λ p here. All-from_members (IsWithin op op (length (op_seen b o).results)) p.operands (λ v named. of_value v (typed p v here named)))
  where
    typed : (p : BodyOp) (v : Value) → In p (ops_of b) → In v p.operands → is_some (type_in of.owner.ports (body_ops b) (ref_by (position_of (ids_of b)) v)) ≡ true
    typed p v here named =
        let stands = position_of_In (op_by (position_of (ids_of b)) p) (body_ops b) (In-map (op_by (position_of (ids_of b))) p (ops_of b) here) in
        subst (λ os. is_some (type_in of.owner.ports os (ref_by (position_of (ids_of b)) v)) ≡ true) of.is_body
        (operand_there of.design of.fit of.number of.owner of.there stands.0 (op_by (position_of (ids_of b)) p) (ref_by (position_of (ids_of b)) v)
        (ap (λ os. slice_get os stands.0) of.is_body ∙ stands.1) (In-map (ref_by (position_of (ids_of b))) v p.operands named))

    has_type : (rs : List OpResult) (k : ℕ) → is_some (option_map (λ (r : OpResult). r.type) (slice_get rs k)) ≡ true → k < length rs
    has_type rs k some = go (slice_get rs k) refl some
      where
        go : (x : Option OpResult) → slice_get rs k ≡ x → is_some (option_map (λ (r : OpResult). r.type) x) ≡ true → k < length rs
        go None at some = cc
        go (Some r) at some = slice_get_within rs k r at

    of_value : (v : Value) → is_some (type_in of.owner.ports (body_ops b) (ref_by (position_of (ids_of b)) v)) ≡ true → IsWithin op op (length (op_seen b o).results) v
    of_value (Port k) some = tt
    of_value Undefined some = tt
    of_value (Result id k) some = λ own.
        has_type (op_seen b o).results k
        (ap is_some (sym (ap (λ x. option_and_then (λ (p : Op). result_type p k) x) (ap (λ n. slice_get (body_ops b) (position_of (ids_of b) n)) (eqb-true id.index op.index own) ∙ op_seen_at b op o is))) ∙ some)

-- once each of its results is replaced
pub all_stand : (b : Body) (op first : OpId) (o : ReadOp) → IsOfFit b → op_at (ops_of b) op.index ≡ Some (read_op op o) → (n : ℕ) → n ≡ length (short_items o.results.now)
    → (ops : List BodyOp) → ops ≡ map (with_merged_below n op first) (ops_of b) → ops ≡ map (with_merged op first) (ops_of b)
all_stand b op first o of is n count ops all =
    all ∙ ends op first n (ops_of b) (subst (λ k. AreWithin op op k (ops_of b)) (length-map (short_items o.results.now) result_of ∙ sym count) (all_within b op o of is))
