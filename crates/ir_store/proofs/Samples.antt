-- Worked examples of the definitions, by hand.
use Rattle.std.proofs.Common.{◌≡◌, ℕ, true, false, [], ◌∷◌, refl}
use Rattle.hw_model.specs.Design.Ref.{port, result, undefined}
use Rattle.ir_store.specs.declared.operation.Value.TheVariants.{Port, Result, Undefined}
use Rattle.linked_lists.specs.Ids.{times, put_at}
use Rattle.ir_store.specs.Blocks.{lists_in}
use Rattle.ir_store.specs.BodyOps.{BodyOp, no_parts, taken_out, is_named, operand_count}
use Rattle.ir_store.specs.Numbered.{position_of, ref_by}
use Rattle.ir_store.specs.Positions.{pushed_ref, pulled_ref, same_ref, replaced_ref}
use Rattle.ir_store.specs.Uses.{use_at, uses_in, use_times}

-- ids and lists

times_twice : times 2 (1 ∷ 2 ∷ 3 ∷ 2 ∷ []) ≡ 2
times_twice = refl

put_at_inside : put_at {A = ℕ} 1 7 (4 ∷ 5 ∷ 6 ∷ []) ≡ 4 ∷ 7 ∷ 6 ∷ []
put_at_inside = refl

put_at_after : put_at {A = ℕ} 2 7 (4 ∷ 5 ∷ []) ≡ 4 ∷ 5 ∷ 7 ∷ []
put_at_after = refl

two_blocks : lists_in (Port 7 ∷ Port 8 ∷ Undefined ∷ Port 9 ∷ []) (record { start = 3; len = 1 } ∷ record { start = 0; len = 2 } ∷ []) ≡ (Port 9 ∷ []) ∷ (Port 7 ∷ Port 8 ∷ []) ∷ []
two_blocks = refl

-- a body: an operation of the two ports, under the id 4, and one of its result and a port, under the id 0

sum : BodyOp
sum = record { id = 4; parts = no_parts; operands = Port 0 ∷ Port 1 ∷ [] }

out : BodyOp
out = record { id = 0; parts = no_parts; operands = Result (record { index = 4 }) 0 ∷ Port 1 ∷ [] }

port_used : uses_in (Port 1) (sum ∷ out ∷ []) ≡ use_at 4 1 ∷ use_at 0 1 ∷ []
unfolding sum out
port_used = refl

result_used : uses_in (Result (record { index = 4 }) 0) (sum ∷ out ∷ []) ≡ use_at 0 0 ∷ []
unfolding sum out
result_used = refl

other_result_unused : uses_in (Result (record { index = 4 }) 1) (sum ∷ out ∷ []) ≡ []
unfolding sum out
other_result_unused = refl

counted_once : use_times (use_at 0 1) (use_at 4 1 ∷ use_at 0 1 ∷ []) ≡ 1
counted_once = refl

sum_gone : taken_out 4 (sum ∷ out ∷ []) ≡ out ∷ []
unfolding sum out
sum_gone = refl

sum_named : is_named 4 (sum ∷ out ∷ []) ≡ true
unfolding sum out
sum_named = refl

out_unnamed : is_named 0 (sum ∷ out ∷ []) ≡ false
unfolding sum out
out_unnamed = refl

two_operands : operand_count 0 (sum ∷ out ∷ []) ≡ 2
unfolding sum out
two_operands = refl

-- positions

by_position : ref_by (position_of (4 ∷ 0 ∷ [])) (Result (record { index = 0 }) 3) ≡ result 1 3
by_position = refl

pushed_after : pushed_ref 1 (result 1 0) ≡ result 2 0
pushed_after = refl

pushed_before : pushed_ref 1 (result 0 0) ≡ result 0 0
pushed_before = refl

pulled_after : pulled_ref 1 (result 2 0) ≡ result 1 0
pulled_after = refl

pulled_itself : pulled_ref 1 (result 1 0) ≡ undefined
pulled_itself = refl

other_number : same_ref (result 1 0) (result 1 1) ≡ false
other_number = refl

one_for_another : replaced_ref (result 1 0) (port 3) (result 1 0) ≡ port 3
one_for_another = refl
