-- What operations become, one after another, by a table of what stands for values.
use Rattle.std.proofs.Common.{◌≡◌, ℕ, zero, suc, ◌+◌, ◌<◌, List, [], ◌∷◌, ◌++◌, length, map, get_or, Some, slice_get, refl, sym, ap, ap₂, ◌∙◌, arith, inl, inr, option_map}
use Rattle.std.proofs.lemmas.List.{length-map}
use Rattle.std.proofs.lemmas.Option.{slice_get-map}
use Rattle.wiring.specs.Wiring.{In}
use Rattle.wiring.proofs.Lists.{map-map, slice_get_some}
use Rattle.wiring.proofs.Members.{map_same}
use Rattle.hw_model.specs.Design.{Ref, Design}
use Rattle.ir_store.specs.declared.body.Body.{Body}
use Rattle.ir_store.specs.declared.body.Op.{Op as ReadOp}
use Rattle.ir_store.specs.declared.operation.OpId.{OpId}
use Rattle.ir_store.specs.Bodies.{ids_of, ops_of, op_id, read_op}
use Rattle.ir_store.specs.declared.operation.Value.{Value}
use Rattle.ir_store.specs.BodyOps.{BodyOp, op_at}
use Rattle.ir_store.specs.Numbered.{ref_by, op_by}
use Rattle.ir_store.proofs.BodyLemmas.{ids_once}
use Rattle.body_index.proofs.PositionTables.{ids_same, index_at}
use Rattle.body_index.proofs.ReadOps.{op_once}
use Rattle.aggregate_laws.specs.Rules.{Rule, count_by, block, blocks}
use Rattle.lowering_rules.specs.declared.leaf_table.LeafTable.{LeafTable}
use Rattle.lowering_rules.specs.LeafTables.{leaves_at, starts_from}
use Rattle.lowering_rules.specs.LoweringRules.{lowering_rules}
use Rattle.aggregate_lower.proofs.BareRules.{rule_without}
use Rattle.aggregate_lower.specs.MadeBodies.{block_made, blocks_made}

-- an operation that is read stands at its position
pub read_there : (b : Body) (ids : List OpId) → ids ≡ map op_id (ids_of b) → (j : ℕ) → j < length ids → (o : ReadOp)
    → op_at (ops_of b) (get_or ids j (op_id 0)).index ≡ Some (read_op (get_or ids j (op_id 0)) o) → slice_get (ops_of b) j ≡ Some (read_op (get_or ids j (op_id 0)) o)
read_there b ids all j within o found =
    let many : length ids ≡ length (ids_of b) = ap length all ∙ length-map (ids_of b) op_id in
    let ops : length (ids_of b) ≡ length (ops_of b) = length-map (ops_of b) (λ (x : BodyOp). x.id) in
    let there = slice_get_some (ops_of b) j (omega arith) in
    let its_id : slice_get (ids_of b) j ≡ Some there.0.id = slice_get-map (λ (x : BodyOp). x.id) (ops_of b) j ∙ ap (option_map (λ (x : BodyOp). x.id)) there.1 in
    let same_id : Some there.0.id ≡ Some (get_or ids j (op_id 0)).index =
    sym its_id ∙ sym (ap (λ (l : List ℕ). slice_get l j) (ids_same ids (ids_of b) all)) ∙ index_at ids j (op_id 0) within in
    let index : there.0.id ≡ (get_or ids j (op_id 0)).index = cc in
    there.1 ∙ sym (op_once (ops_of b) j there.0 there.1 (ids_once b there.0.id)) ∙ ap (op_at (ops_of b)) index ∙ found

-- a number that is read of a list stands in its position
pub number_at : (xs : List ℕ) (p x : ℕ) → p < length xs → x ≡ get_or xs p x → slice_get xs p ≡ Some x
number_at [] p x below is = absurd (omega arith)
number_at (y ∷ xs) zero x below is = ap Some (sym is)
number_at (y ∷ xs) (suc p) x below is = number_at xs p x (omega arith) is

-- ---- all blocks

module _ (d : Design) (t : LeafTable) (parts : Ref → List Ref) (position : ℕ → ℕ) where
  -- the table has what stands for an operation's operands
  abbrev pub HasParts : BodyOp → Type 0
  HasParts o = (v : Value) → In v o.operands → leaves_at t v ≡ parts (ref_by position v)

  pub block_same : (o : BodyOp) → HasParts o → (start : ℕ) → block_made d t o start ≡ block ((lowering_rules d).rule (op_by position o)) parts start (op_by position o)
  block_same o has start =
      ap₂ (λ (rule : Rule) args. rule.made args start) (rule_without d (op_by position o) [] o.parts.kind)
      (map_same (leaves_at t) (λ v. parts (ref_by position v)) o.operands has ∙ sym (map-map parts (ref_by position) o.operands))

  pub blocks_same : (ops : List BodyOp) → ((o : BodyOp) → In o ops → HasParts o) → (start : ℕ)
      → blocks_made d t ops (starts_from (lowering_rules d) start (map (op_by position) ops)) ≡ blocks (lowering_rules d) parts start (map (op_by position) ops)
  blocks_same [] has start = refl
  blocks_same (o ∷ ops) has start =
      ap₂ (λ xs ys. xs ++ ys) (block_same o (has o (inl refl)) start)
      (blocks_same ops (λ p here. has p (inr here)) (start + count_by (lowering_rules d) (op_by position o)))
