-- How many uses the results of an operation have, by ids and by positions.
use Rattle.std.proofs.Common.{◌≡◌, ℕ, suc, ◌+◌, ◌≤◌, Bool, true, false, cond, nat_eq, ◌&&◌, List, [], ◌∷◌, map, length, refl, sym, ap, ap₂, ◌∙◌, arith, eq-eqb, length-append}
use Rattle.std.specs.Prelude.{All, Contains}
use Rattle.std.proofs.lemmas.Bool.{eqb-true}
use Rattle.std.proofs.lemmas.List.Elements.{All-head, All-tail}
use Rattle.bits_core.specs.Word.{bit}
use Rattle.hw_model.specs.Equality.{both_of}
use Rattle.ir_store.specs.declared.body.Body.{Body}
use Rattle.ir_store.specs.declared.operation.OpId.{OpId}
use Rattle.ir_store.specs.declared.operation.UsePosition.{UsePosition}
use Rattle.ir_store.specs.declared.operation.Value.{Value}
use Rattle.ir_store.specs.declared.operation.Value.TheVariants.{Port, Result, Undefined}
use Rattle.ir_store.specs.Bodies.{ids_of, ops_of}
use Rattle.ir_store.specs.BodyOps.{BodyOp, is_of, same_value}
use Rattle.ir_store.specs.Live.{IsLive, HasLive, AreLive}
use Rattle.ir_store.specs.Numbered.{position_of, ref_by, op_by}
use Rattle.ir_store.specs.Uses.{use_at, positions_in, uses_in, same_position, use_times}
use Rattle.fold_laws.specs.Nested.{uses_among, use_count}
use Rattle.fold_laws.specs.Unused.{is_result_of}
use Rattle.body_edits.specs.Replaceable.{HaveNoFurther}
use Rattle.body_edits.specs.Views.{HasOp, body_ops, position_in}
use Rattle.body_edits.proofs.Naming.{IsFirstIf, AreFirstIf, first_named}
use Rattle.body_edits.proofs.UnusedPattern.{of_value}

-- ---- positions in two orders

-- positions without the first that is one
without_position : UsePosition → List UsePosition → List UsePosition
without_position p [] = []
without_position p (q ∷ qs) = cond (same_position q p) qs (q ∷ without_position p qs)

module _ (p : UsePosition) where
  self : same_position p p ≡ true
  self = ap₂ (λ a b. a && b) (eq-eqb p.op.index p.op.index refl) (eq-eqb p.at p.at refl)

  like : (q x : UsePosition) → same_position q p ≡ true → same_position q x ≡ same_position p x
  like q x same =
      let parts = both_of (nat_eq q.op.index p.op.index) (nat_eq q.at p.at) same in
      ap₂ (λ a b. nat_eq a x.op.index && nat_eq b x.at) (eqb-true q.op.index p.op.index parts.0) (eqb-true q.at p.at parts.1)

  shorter : (qs : List UsePosition) → 1 ≤ use_times p qs → suc (length (without_position p qs)) ≡ length qs
  unfolding without_position
  shorter [] some = absurd (omega (arith, some))
  shorter (q ∷ qs) some = go (same_position q p) some (shorter qs)
    where
      go : (b : Bool) → 1 ≤ cond b (suc (use_times p qs)) (use_times p qs) → (1 ≤ use_times p qs → suc (length (without_position p qs)) ≡ length qs)
          → suc (length (cond b qs (q ∷ without_position p qs))) ≡ suc (length qs)
      go true some rest = refl
      go false some rest = ap suc (rest some)

  times_without : (x : UsePosition) (qs : List UsePosition) → 1 ≤ use_times p qs → bit (same_position p x) + use_times x (without_position p qs) ≡ use_times x qs
  unfolding without_position
  times_without x [] some = absurd (omega (arith, some))
  times_without x (q ∷ qs) some = go (same_position q p) refl some (times_without x qs)
    where
      counted : (c : Bool) (n : ℕ) → bit c + n ≡ cond c (suc n) n
      counted true n = omega arith
      counted false n = omega arith

      past : (c : Bool) (m n : ℕ) → m + n ≡ use_times x qs → m + cond c (suc n) n ≡ cond c (suc (use_times x qs)) (use_times x qs)
      past true m n e = omega (arith, e)
      past false m n e = e

      go : (b : Bool) → same_position q p ≡ b → 1 ≤ cond b (suc (use_times p qs)) (use_times p qs) → (1 ≤ use_times p qs → bit (same_position p x) + use_times x (without_position p qs) ≡ use_times x qs)
          → bit (same_position p x) + use_times x (cond b qs (q ∷ without_position p qs)) ≡ cond (same_position q x) (suc (use_times x qs)) (use_times x qs)
      go true is some rest = counted (same_position p x) (use_times x qs) ∙ ap (λ c. cond c (suc (use_times x qs)) (use_times x qs)) (sym (like q x is))
      go false is some rest = past (same_position q x) (bit (same_position p x)) (use_times x (without_position p qs)) (rest some)

-- positions that stand equally often in two lists are equally many
pub as_many : (ps qs : List UsePosition) → ((x : UsePosition) → use_times x ps ≡ use_times x qs) → length ps ≡ length qs
as_many [] [] same = refl
as_many [] (q ∷ qs) same =
    let one : use_times q (q ∷ qs) ≡ suc (use_times q qs) = ap (λ b. cond b (suc (use_times q qs)) (use_times q qs)) (self q) in
    absurd (omega (arith, one, same q))
as_many (p ∷ ps) qs same =
    let own : use_times p (p ∷ ps) ≡ suc (use_times p ps) = ap (λ b. cond b (suc (use_times p ps)) (use_times p ps)) (self p) in
    let some : 1 ≤ use_times p qs = omega (arith, own, same p) in
    ap suc (as_many ps (without_position p qs) (λ x. left x (same_position p x) (same x) (times_without p x qs some))) ∙ shorter p qs some
  where
    left : (x : UsePosition) (b : Bool) → cond b (suc (use_times x ps)) (use_times x ps) ≡ use_times x qs → bit b + use_times x (without_position p qs) ≡ use_times x qs
        → use_times x ps ≡ use_times x (without_position p qs)
    left x true e f = omega (arith, e, f)
    left x false e f = omega (arith, e, f)

-- ---- uses by ids and by positions

module _ (ids : List ℕ) (id : OpId) (there : Contains ids id.index) where
  -- a value that is a first result, if it is a result of the operation at all
  first_use : (v : Value) → IsLive ids v → IsFirstIf id v → is_result_of (position_of ids id.index) (ref_by (position_of ids) v) ≡ same_value (Result id 0) v
  first_use v live first = sym (of_value ids id there v live) ∙ go (is_of id.index v) refl (same_value (Result id 0) v) refl
    where
      back : (v : Value) → same_value (Result id 0) v ≡ true → is_of id.index v ≡ true
      back (Port n) is = cc
      back Undefined is = cc
      back (Result i k) is = eq-eqb i.index id.index (sym (eqb-true id.index i.index (both_of (nat_eq id.index i.index) (nat_eq 0 k) is).0))

      go : (b : Bool) → is_of id.index v ≡ b → (c : Bool) → same_value (Result id 0) v ≡ c → b ≡ c
      go true of true same = refl
      go false of false same = refl
      go true of false same = sym (first of) ∙ same
      go false of true same = sym of ∙ back v same

  uses_of_operands : (at n : ℕ) (vs : List Value) → All (IsLive ids) vs → All (IsFirstIf id) vs
      → uses_among (position_of ids id.index) (map (ref_by (position_of ids)) vs) ≡ length (positions_in (Result id 0) n at vs)
  uses_of_operands at n [] live first = refl
  uses_of_operands at n (v ∷ vs) live first =
      ap₂ (λ b m. bit b + m) (first_use v (All-head (IsLive ids) v vs live) (All-head (IsFirstIf id) v vs first))
      (uses_of_operands (suc at) n vs (All-tail (IsLive ids) v vs live) (All-tail (IsFirstIf id) v vs first))
      ∙ go (same_value (Result id 0) v)
    where
      go : (b : Bool) → bit b + length (positions_in (Result id 0) n (suc at) vs) ≡ length (cond b (use_at n at ∷ positions_in (Result id 0) n (suc at) vs) (positions_in (Result id 0) n (suc at) vs))
      go true = omega arith
      go false = omega arith

  uses_of_ops : (ops : List BodyOp) → All (HasLive ids) ops → AreFirstIf id ops → use_count (position_of ids id.index) (map (op_by (position_of ids)) ops) ≡ length (uses_in (Result id 0) ops)
  uses_of_ops [] live first = refl
  uses_of_ops (o ∷ ops) live first =
      ap₂ (λ m n. m + n)
      (uses_of_operands 0 o.id o.operands (All-head (HasLive ids) o ops live) (All-head (λ (p : BodyOp). All (IsFirstIf id) p.operands) o ops first))
      (uses_of_ops ops (All-tail (HasLive ids) o ops live) (All-tail (λ (p : BodyOp). All (IsFirstIf id) p.operands) o ops first))
      ∙ sym (length-append (positions_in (Result id 0) o.id 0 o.operands) (uses_in (Result id 0) ops))

-- the uses of an operation whose further results nothing names
pub body_uses : (b : Body) (id : OpId) → AreLive (ops_of b) → HasOp b id → HaveNoFurther (position_in b id) (body_ops b) → use_count (position_in b id) (body_ops b) ≡ length (uses_in (Result id 0) (ops_of b))
unfolding body_ops position_in
body_uses b id live there alone = uses_of_ops (ids_of b) id there (ops_of b) live (first_named id (ops_of b) alone)

-- those that are told in another order
pub told_uses : (b : Body) (id : OpId) (ps : List UsePosition) → AreLive (ops_of b) → HasOp b id → HaveNoFurther (position_in b id) (body_ops b)
    → ((p : UsePosition) → use_times p ps ≡ use_times p (uses_in (Result id 0) (ops_of b))) → use_count (position_in b id) (body_ops b) ≡ length ps
told_uses b id ps live there alone same = body_uses b id live there alone ∙ sym (as_many ps (uses_in (Result id 0) (ops_of b)) same)
