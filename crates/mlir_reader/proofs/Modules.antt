-- A module whose parts are those of its text.
use Rattle.std.proofs.Common.{◌≡◌, ◌+◌, ◌≤◌, Bool, true, false, cond, List, [], ◌∷◌, ◌++◌, map, length, ap, ◌∙◌, refl, arith}
use Rattle.std.specs.Prelude.{◌||◌}
use Rattle.opcode.specs.declared.listed.Listed.TheVariants as listed
use Rattle.hw_model.specs.Design as hw
use Rattle.ir_store.specs.BodyOps.{BodyOp, ids_in}
use Rattle.ir_store.specs.Numbered.{op_by, ops_by_position}
use Rattle.ir_store.specs.Designs.{numbered_module}
use Rattle.ir_store.specs.OperationViews.{location_of}
use Rattle.mlir_operations.specs.ModuleText.{ModuleText}
use Rattle.mlir_reader.specs.Resolving.{Meanings, no_meaning, with_definitions, port_definitions, ports_from, operations_from, meanings, port_meanings, kept_entries, ends_with_output, has_outputs, left_out_output, with_output, module_of}
use Rattle.mlir_reader.specs.Meanings.{numbers_below}
use Rattle.mlir_reader.proofs.BodySteps.{numbers_more}
use Rattle.mlir_reader.proofs.Positions.{body_is, either}

module _ (m : ModuleText) (ops₀ ops : List BodyOp) (names seen₀ seen : Meanings) (ends : Bool) where
  ids_whole : ids_in ops₀ ≡ numbers_below (length m.operations) → ids_in ops ≡ cond ends (ids_in ops₀) (ids_in ops₀ ++ length (ids_in ops₀) ∷ []) →
      ids_in ops ≡ numbers_below (cond ends (length m.operations) (length m.operations + 1))
  ids_whole i j = j ∙ go ends
    where
      go : (b : Bool) → cond b (ids_in ops₀) (ids_in ops₀ ++ length (ids_in ops₀) ∷ []) ≡ numbers_below (cond b (length m.operations) (length m.operations + 1))
      go true = i
      go false = numbers_more (ids_in ops₀) (length m.operations) (length (ids_in ops₀)) i refl

  enough : length m.operations ≤ cond ends (length m.operations) (length m.operations + 1)
  enough = go ends
    where
      go : (b : Bool) → length m.operations ≤ cond b (length m.operations) (length m.operations + 1)
      go true = omega arith
      go false = omega arith

  body_seen : names ≡ meanings m → seen₀ ≡ no_meaning → seen ≡ with_definitions seen₀ (port_definitions 0 m.ports) →
      map (op_by (λ i. i)) ops₀ ≡ operations_from names seen 0 m.operations →
      map (op_by (λ i. i)) ops ≡ cond ends (map (op_by (λ i. i)) ops₀) (map (op_by (λ i. i)) ops₀ ++ left_out_output m.close ∷ []) →
      ends ≡ (ends_with_output m.operations || has_outputs m.ports) →
      map (op_by (λ i. i)) ops ≡ with_output m (operations_from (meanings m) (port_meanings m.ports) 0 m.operations)
  body_seen n s t o w e =
      let all : map (op_by (λ i. i)) ops₀ ≡ operations_from (meanings m) (port_meanings m.ports) 0 m.operations =
      o ∙ ap (λ f. operations_from f seen 0 m.operations) n
      ∙ ap (λ f. operations_from (meanings m) f 0 m.operations) (t ∙ ap (λ f. with_definitions f (port_definitions 0 m.ports)) s) in
      let body = operations_from (meanings m) (port_meanings m.ports) 0 m.operations in
      w ∙ ap (λ os. cond ends os (os ++ left_out_output m.close ∷ [])) all
      ∙ ap (λ b. cond b body (body ++ left_out_output m.close ∷ [])) e
      ∙ either (ends_with_output m.operations) (has_outputs m.ports) body (body ++ left_out_output m.close ∷ [])

  pub module_is : (ports : List hw.Port) (entries : List hw.Entry) →
      names ≡ meanings m → seen₀ ≡ no_meaning → ports ≡ ports_from seen₀ 0 m.ports → seen ≡ with_definitions seen₀ (port_definitions 0 m.ports) →
      entries ≡ kept_entries listed.HwModule m.dictionary →
      map (op_by (λ i. i)) ops₀ ≡ operations_from names seen 0 m.operations → ids_in ops₀ ≡ numbers_below (length m.operations) →
      map (op_by (λ i. i)) ops ≡ cond ends (map (op_by (λ i. i)) ops₀) (map (op_by (λ i. i)) ops₀ ++ left_out_output m.close ∷ []) →
      ids_in ops ≡ cond ends (ids_in ops₀) (ids_in ops₀ ++ length (ids_in ops₀) ∷ []) →
      ends ≡ (ends_with_output m.operations || has_outputs m.ports) →
      numbered_module (record { symbol = m.symbol; is_private = m.is_private; ports = ports; dictionary = entries; ops = ops; location = location_of m.location }) ≡ module_of m
  module_is ports entries n s p t d o i w j e =
      ap (λ (ps : List hw.Port). record { symbol = m.symbol; is_private = m.is_private; ports = ps; dictionary = entries; body = ops_by_position ops; location = location_of m.location }) (p ∙ ap (λ f. ports_from f 0 m.ports) s)
      ∙ ap (λ (es : List hw.Entry). record { symbol = m.symbol; is_private = m.is_private; ports = ports_from no_meaning 0 m.ports; dictionary = es; body = ops_by_position ops; location = location_of m.location }) d
      ∙ ap (λ (os : List hw.Op). record { symbol = m.symbol; is_private = m.is_private; ports = ports_from no_meaning 0 m.ports; dictionary = kept_entries listed.HwModule m.dictionary; body = os; location = location_of m.location })
      (body_is m ops (cond ends (length m.operations) (length m.operations + 1)) enough (ids_whole i j) (body_seen n s t o w e))
