-- What operations that only join become: wires of one operand and one result each.
use Rattle.std.proofs.Common.{◌≡◌, ℕ, suc, true, List, [], ◌∷◌, refl, subst, sym, inl, inr}
use Rattle.wiring.specs.Wiring.{In}
use Rattle.hw_model.specs.Types.{HwType}
use Rattle.hw_model.specs.Kinds.{Kind}
use Rattle.hw_model.specs.Kinds.ArrayOp.{array_create, array_concat}
use Rattle.hw_model.specs.Kinds.StructOp.{struct_create, struct_extract, struct_inject, struct_explode}
use Rattle.hw_model.specs.Kinds.Kind.{on_array, on_struct, wire}
use Rattle.hw_model.specs.Value.{fields, nth_type}
use Rattle.hw_model.specs.Design.{Ref, Op}
use Rattle.inline_laws.proofs.WithoutWires.{IsBareWire}
use Rattle.aggregate_laws.specs.Leaves.{part}
use Rattle.aggregate_laws.specs.OperationRules.{made_op, all_leaves, for_each, joined_parts, argument, field_parts, with_field_parts}
use Rattle.aggregate_laws.specs.Aggregates.{rule_of}
use Rattle.aggregate_acceptance.specs.Joins.{only_joins}

wires_bare : (o : Op) (chosen : List Ref) (n : ℕ) (ts : List HwType) (y : Op) → In y (for_each (λ i t. made_op o wire (part chosen i ∷ []) (t ∷ []) [] t) n ts) → IsBareWire y
wires_bare o chosen n [] y here = absurd here
wires_bare o chosen n (t ∷ ts) y (inl same) = subst IsBareWire (sym same) (record { operand = part chosen n; type = t; kind_is = refl; operand_is = refl; result_is = refl })
wires_bare o chosen n (t ∷ ts) y (inr here) = wires_bare o chosen (suc n) ts y here

pub join_bare : (named : Op → Kind) (o : Op) (kind : Kind) → only_joins kind ≡ true → (args : List (List Ref)) (start : ℕ) (y : Op) → In y ((rule_of named o kind).made args start) → IsBareWire y
join_bare named o (on_array array_create) joins args start y here = wires_bare o (joined_parts args) 0 (all_leaves o) y here
join_bare named o (on_array array_concat) joins args start y here = wires_bare o (joined_parts args) 0 (all_leaves o) y here
join_bare named o (on_struct struct_create) joins args start y here = wires_bare o (joined_parts args) 0 (all_leaves o) y here
join_bare named o (on_struct (struct_extract name)) joins args start y here = wires_bare o (field_parts (fields (nth_type o.types 0)) name (argument 0 args)) 0 (all_leaves o) y here
join_bare named o (on_struct (struct_inject name)) joins args start y here =
    wires_bare o (with_field_parts (fields (nth_type o.types 0)) name (argument 0 args) (argument 1 args)) 0 (all_leaves o) y here
join_bare named o (on_struct struct_explode) joins args start y here = wires_bare o (joined_parts args) 0 (all_leaves o) y here
join_bare named o _ joins args start y here = cc
