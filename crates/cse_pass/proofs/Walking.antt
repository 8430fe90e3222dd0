-- A walk over the operations of a body in code, from the first one on.
use Rattle.std.proofs.Common.{◌≡◌, ℕ, zero, suc, ◌^◌, ◌<◌, ◌≤◌, List, [], ◌∷◌, map, drop, length, Option, Some, None, slice_get, Contains, sym, ap, ◌∙◌, arith}
use Rattle.std.proofs.lemmas.List.{length-map}
use Rattle.std.proofs.lemmas.Option.{slice_get_within}
use Rattle.linked_lists.specs.declared.links.Link.{Link}
use Rattle.linked_lists.specs.Links.{walk, next_at}
use Rattle.ir_store.specs.declared.body.Body.{Body}
use Rattle.ir_store.specs.declared.operation.OpId.{OpId}
use Rattle.ir_store.specs.Bodies.{ids_of, ops_of, op_id, first_id}
use Rattle.ir_store.specs.BodyOps.{BodyOp, stored_op}
use Rattle.ir_store.specs.OperationViews.{parts_of}
use Rattle.ir_store.specs.Orders.{live_ids}
use Rattle.ir_store.specs.Numbered.{position_of}
use Rattle.ir_store.proofs.BodyLemmas.{ids_once}
use Rattle.body_index.proofs.PositionTables.{position_found}
use Rattle.body_edits.specs.Views.{HasOp, position_in}

-- what the first of the ids from a position on is
first_there : (xs : List ℕ) (i : ℕ) (op : OpId) → Some op ≡ first_id (map op_id (drop i xs)) → slice_get xs i ≡ Some op.index
first_there [] zero op is = cc
first_there [] (suc i) op is = cc
first_there (x ∷ xs) zero op is = let same : op_id x ≡ op = cc in ap (λ (o : OpId). Some o.index) same
first_there (x ∷ xs) (suc i) op is = first_there xs i op is

none_there : (xs : List ℕ) (i : ℕ) → None ≡ first_id (map op_id (drop i xs)) → length xs ≤ i
none_there [] i is = omega arith
none_there (x ∷ xs) zero is = cc
none_there (x ∷ xs) (suc i) is = let rest = none_there xs i is in omega (arith, rest)

pub there_contained : (xs : List ℕ) (i x : ℕ) → slice_get xs i ≡ Some x → Contains xs x
there_contained [] i x is = cc
there_contained (y ∷ xs) zero x is = let same : y ≡ x = cc in (zero, omega arith, same)
there_contained (y ∷ xs) (suc i) x is = let rest = there_contained xs i x is in (suc rest.0, omega (arith, rest.1), rest.2)

module _ (b : Body) (i : ℕ) (op : OpId) (at : Some op ≡ first_id (map op_id (drop i (ids_of b)))) where
  pub has_op : HasOp b op
  has_op = there_contained (ids_of b) i op.index (first_there (ids_of b) i op at)

  pub position_is : i ≡ position_in b op
  unfolding position_in
  position_is = sym (position_found (ids_of b) op.index i (ids_once b op.index) (first_there (ids_of b) i op at))

  pub is_within : i < length (ids_of b)
  is_within = slice_get_within (ids_of b) i op.index (first_there (ids_of b) i op at)

  -- the one after it
  pub next_is : (next : Option OpId) → next ≡ first_id (map op_id (drop (suc (position_of (ids_of b) op.index)) (ids_of b))) → next ≡ first_id (map op_id (drop (suc i) (ids_of b)))
  next_is next is = is ∙ ap (λ n. first_id (map op_id (drop (suc n) (ids_of b)))) (position_found (ids_of b) op.index i (ids_once b op.index) (first_there (ids_of b) i op at))

-- after the last there is none
pub all_passed : (b : Body) (i : ℕ) (at : Option OpId) → at ≡ first_id (map op_id (drop i (ids_of b))) → at ≡ None → length (ids_of b) ≤ i
all_passed b i at is none = none_there (ids_of b) i (sym none ∙ is)

-- ---- ids are numbers of 32 bits, so there are fewer than 2^32

walk_short : (links : List Link) (n at : ℕ) → length (walk links n at) ≤ n
walk_short links zero at = omega arith
walk_short links (suc n) at = let rest = walk_short links n (next_at links at) in omega (arith, rest)

pub few_ids : (b : Body) → length (ids_of b) < 2 ^ 32
few_ids b =
    let all : length (ids_of b) ≡ length (live_ids b.order) =
    length-map (ops_of b) (λ (o : BodyOp). o.id) ∙ length-map (live_ids b.order) (stored_op (map parts_of b.parts.items) b.operands.lists) in
    omega (arith, all, walk_short b.order.links.items b.order.live b.order.first, b.order.within, b.order.few)
