-- The rule of an operation does not depend on its operands.
use Rattle.std.proofs.Common.{◌≡◌, List, refl}
use Rattle.hw_model.specs.Kinds.{Kind}
use Rattle.hw_model.specs.Kinds.ArrayOp.{array_create, array_concat, array_get, array_slice, array_inject}
use Rattle.hw_model.specs.Kinds.StructOp.{struct_create, struct_extract, struct_inject, struct_explode}
use Rattle.hw_model.specs.Kinds.Kind.{mux, aggregate_constant, on_array, on_struct, bitcast, wire, instance, output, register, async_firreg}
use Rattle.hw_model.specs.Design.{Ref, Op, Design}
use Rattle.aggregate_laws.specs.Aggregates.{rule_of}
use Rattle.lowering_rules.specs.LoweringRules.{leaf_named}

module _ (d : Design) (o : Op) (rs : List Ref) where
  pub rule_without : (kind : Kind) → rule_of (leaf_named d) (record o { operands = rs }) kind ≡ rule_of (leaf_named d) o kind
  rule_without mux = refl
  rule_without wire = refl
  rule_without bitcast = refl
  rule_without (aggregate_constant ls) = refl
  rule_without (on_array array_create) = refl
  rule_without (on_array array_concat) = refl
  rule_without (on_array array_get) = refl
  rule_without (on_array array_slice) = refl
  rule_without (on_array array_inject) = refl
  rule_without (on_struct struct_create) = refl
  rule_without (on_struct (struct_extract name)) = refl
  rule_without (on_struct (struct_inject name)) = refl
  rule_without (on_struct struct_explode) = refl
  rule_without (instance i) = refl
  rule_without output = refl
  rule_without (register f r) = refl
  rule_without async_firreg = refl
  rule_without _ = refl
