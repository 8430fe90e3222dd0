-- What the tables of leaves say of each value of a body.
use Rattle.std.proofs.Common.{◌≡◌, ℕ, ◌+◌, ◌<◌, ◌≤◌, Bool, true, false, min, nat_lt, List, length, slice_get, Option, Some, None, refl, sym, ap, ◌∙◌, arith, option_and_then}
use Rattle.std.proofs.lemmas.Bool.{ltb-true, ltb-false}
use Rattle.std.proofs.lemmas.List.{length-map}
use Rattle.std.proofs.lemmas.Option.{slice_get_past}
use Rattle.hw_model.specs.Design.{Ref, Port, Op}
use Rattle.ir_store.specs.declared.body.Body.{Body}
use Rattle.ir_store.specs.declared.operation.Value.{Value}
use Rattle.ir_store.specs.declared.operation.Value.TheVariants.{Port as PortValue, Result, Undefined}
use Rattle.ir_store.specs.BodyOps.{BodyOp}
use Rattle.ir_store.specs.Bodies.{ops_of, ids_of}
use Rattle.ir_store.specs.Numbered.{position_of, ref_by, op_by, ops_by_position}
use Rattle.body_index.specs.PositionTables.{ArePositions}
use Rattle.ir_store.proofs.BodyLemmas.{ids_once}
use Rattle.body_index.proofs.PositionTables.{position_kept, position_missing}
use Rattle.aggregate_laws.specs.Leaves.{leaf_start, parts_of_port}
use Rattle.aggregate_laws.specs.Rules.{Rules, begin, parts_of, parts_of_result}
use Rattle.lowering_rules.specs.declared.leaf_table.LeafTable.{LeafTable}
use Rattle.lowering_rules.specs.LeafTables.{or_none, ports_at, results_at, leaves_at, port_table, body_table}
use Rattle.lowering_rules.proofs.TableEntries.{port_entry, body_entry}

-- a position past the last operation is as good as another one
past_same : (rules : Rules) (os : List Op) (i j k : ℕ) → min i (length os) ≡ j → parts_of_result rules (begin rules os i) k (slice_get os i) ≡ parts_of_result rules (begin rules os j) k (slice_get os j)
past_same rules os i j k is = go (nat_lt i (length os)) refl
  where
    go : (b : Bool) → nat_lt i (length os) ≡ b → parts_of_result rules (begin rules os i) k (slice_get os i) ≡ parts_of_result rules (begin rules os j) k (slice_get os j)
    go true h =
        let below : i < length os = ltb-true i (length os) h in
        let same : i ≡ j = omega arith in
        ap (λ n. parts_of_result rules (begin rules os n) k (slice_get os n)) same
    go false h =
        let past : length os ≤ i = ltb-false i (length os) h in
        let last : length os ≤ j = omega arith in
        ap (parts_of_result rules (begin rules os i) k) (slice_get_past os i past) ∙ sym (ap (parts_of_result rules (begin rules os j) k) (slice_get_past os j last))

module _ (rules : Rules) (ps : List Port) (b : Body) (t : LeafTable) (table : ArePositions (ids_of b) t.positions.items) (ports : ports_at t ≡ port_table 0 ps) (results : results_at t ≡ body_table rules 0 (ops_by_position (ops_of b))) where
  count : length (ids_of b) ≡ length (ops_by_position (ops_of b))
  count = length-map (ops_of b) (λ (o : BodyOp). o.id) ∙ sym (length-map (ops_of b) (op_by (position_of (ids_of b))))

  by_position : (q k : ℕ) (p : Option ℕ) → slice_get t.positions.items q ≡ p
      → or_none (option_and_then (λ (j : ℕ). option_and_then (λ (rs : List (List Ref)). slice_get rs k) (slice_get (results_at t) j)) p)
      ≡ parts_of_result rules (begin rules (ops_by_position (ops_of b)) (position_of (ids_of b) q)) k (slice_get (ops_by_position (ops_of b)) (position_of (ids_of b) q))
  by_position q k None at =
      let os = ops_by_position (ops_of b) in
      let missing : length (ids_of b) ≡ position_of (ids_of b) q = position_missing (ids_of b) t.positions.items q table at in
      let past : length os ≤ position_of (ids_of b) q = omega (arith, count) in
      sym (ap (parts_of_result rules (begin rules os (position_of (ids_of b) q)) k) (slice_get_past os (position_of (ids_of b) q) past))
  by_position q k (Some j) at =
      let os = ops_by_position (ops_of b) in
      let kept : min j (length (ids_of b)) ≡ position_of (ids_of b) q = position_kept (ids_of b) t.positions.items q j (ids_once b) table at in
      let none : 0 + begin rules os j ≡ begin rules os j = omega arith in
      ap (λ (l : List (List (List Ref))). or_none (option_and_then (λ (rs : List (List Ref)). slice_get rs k) (slice_get l j))) results
      ∙ body_entry rules 0 os j k
      ∙ ap (λ n. parts_of_result rules n k (slice_get os j)) none
      ∙ past_same rules os j (position_of (ids_of b) q) k (ap (min j) (sym count) ∙ kept)

  pub leaves_are : (v : Value) → leaves_at t v ≡ parts_of rules ps (ops_by_position (ops_of b)) (ref_by (position_of (ids_of b)) v)
  leaves_are (PortValue j) =
      let none : 0 + leaf_start ps j ≡ leaf_start ps j = omega arith in
      ap (λ (l : List (List Ref)). or_none (slice_get l j)) ports ∙ port_entry 0 ps j ∙ ap (λ n. parts_of_port n (slice_get ps j)) none
  leaves_are (Result id k) = by_position id.index k (slice_get t.positions.items id.index) refl
  leaves_are Undefined = refl
