-- The pattern by which an operation of any number of operands takes in another one of its kind.
use Rattle.std.proofs.Common.{◌≡◌, ℕ, ◌<◌, List, [], ◌∷◌, length, map, Option, Some, None, slice_get, refl, sym, ap, ◌∙◌, arith, option_and_then, option_map}
use Rattle.std.specs.Prelude.{Result, Ok, Err, OnOk}
use Rattle.std.proofs.lemmas.List.{length-map}
use Rattle.std.proofs.lemmas.Option.{slice_get_within}
use Rattle.hw_model.specs.Kinds.{Kind, Variadic}
use Rattle.hw_model.specs.Kinds.Kind.{variadic}
use Rattle.hw_model.specs.Design.{Op}
use Rattle.hw_model.specs.Design.Ref.{undefined}
use Rattle.ir_store.specs.declared.body.Body.{Body}
use Rattle.ir_store.specs.Bodies.{ids_of, ops_of}
use Rattle.ir_store.specs.BodyOps.{BodyOp}
use Rattle.ir_store.specs.Numbered.{position_of, op_by}
use Rattle.fold_laws.specs.Edits.Edit.{changed, erased}
use Rattle.fold_laws.specs.Nested.{Nested, is_variadic, first_nested, joined_operation, operand_edits, fold_nested_operand}
use Rattle.fold_laws.proofs.NestedUses.{first_nested_is}
use Rattle.body_edits.specs.Folded.{IsFolded}
use Rattle.body_edits.specs.Nests.{same_nested, same_nested_at, IsInner, IsTakenIn}
use Rattle.body_edits.specs.Views.{body_ops}
use Rattle.body_edits.proofs.IdsAfter.{unlisted}

-- the operation at a position, of any number of operands, and the one that made an operand of it
record IsSame (os : List Op) (i : ℕ) (n : Nested) : Type 0 where
  outer : Op
  there : slice_get os i ≡ Some outer
  operation : Variadic
  kind : outer.kind ≡ variadic operation
  found : first_nested (is_variadic operation) os i outer.operands ≡ Some n

same_found : (os : List Op) (i : ℕ) (n : Nested) → Some n ≡ same_nested_at os i → IsSame os i n
same_found os i n is = of_op (slice_get os i) refl is
  where
    of_kind : (o : Op) → slice_get os i ≡ Some o → (k : Kind) → o.kind ≡ k → Some n ≡ same_nested os i o k → IsSame os i n
    of_kind o there (variadic v) kind is = record { outer = o; there = there; operation = v; kind = kind; found = sym is }
    of_kind o there _ kind is = cc

    of_op : (x : Option Op) → slice_get os i ≡ x → Some n ≡ option_and_then (λ (o : Op). same_nested os i o o.kind) x → IsSame os i n
    of_op None there is = cc
    of_op (Some o) there is = of_kind o there o.kind refl is

pub same_inner : (os : List Op) (i : ℕ) (n : Nested) → Some n ≡ same_nested_at os i → IsInner os i n.number n.position
same_inner os i n is =
    let same = same_found os i n is in
    let nested = first_nested_is (is_variadic same.operation) os i same.outer.operands n same.found in
    record { outer = same.outer; there = same.there; inner = n.inner; inside = nested.there; named = nested.named; other = nested.other; once = nested.once }

-- a position of an operation is one of the ids
pub within_ids : (b : Body) (j : ℕ) (o : Op) → slice_get (body_ops b) j ≡ Some o → j < length (ids_of b)
unfolding body_ops
within_ids b j o is =
    let within = slice_get_within (map (op_by (position_of (ids_of b))) (ops_of b)) j o is in
    let many = length-map (ops_of b) (op_by (position_of (ids_of b))) in
    let same = length-map (ops_of b) (λ (p : BodyOp). p.id) in
    omega (arith, within, many, same)

-- a body in which the operation has taken in that one is as the pattern makes it
taken_folded : (b b' : Body) (i : ℕ) (n : Nested) → Some n ≡ same_nested_at (body_ops b) i → IsTakenIn b b' i n.number n.position → IsFolded fold_nested_operand b b' i
taken_folded b b' i n is taken =
    let same = same_found (body_ops b) i n is in
    let nested = first_nested_is (is_variadic same.operation) (body_ops b) i same.outer.operands n same.found in
    record {
      edits = changed i (joined_operation same.outer n) ∷ erased n.position undefined ∷ [];
      matches =
          ap (λ x. option_and_then (λ (o : Op). operand_edits (body_ops b) i o o.kind) x) same.there
          ∙ ap (operand_edits (body_ops b) i same.outer) same.kind
          ∙ ap (option_map (λ (m : Nested). changed i (joined_operation same.outer m) ∷ erased m.position undefined ∷ [])) same.found;
      form = (refl, nested.other, within_ids b n.position n.inner nested.there);
      ops = taken.ops same.outer n.inner same.there nested.there;
      fresh = (unlisted (ids_of b)).0;
      is_fresh = (unlisted (ids_of b)).1;
      ids = taken.ids;
    }

pub taken_folded_if : {T E : Type 0} (r : Result T E) (b b' : Body) (i : ℕ) (n : Nested) → Some n ≡ same_nested_at (body_ops b) i → OnOk r (IsTakenIn b b' i n.number n.position) → OnOk r (IsFolded fold_nested_operand b b' i)
taken_folded_if (Ok x) b b' i n is taken = taken_folded b b' i n is taken
taken_folded_if (Err e) b b' i n is taken = tt
