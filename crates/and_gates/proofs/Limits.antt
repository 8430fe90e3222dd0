-- The first cause by its tests, and tests of numbers that are told up to a most.
use Rattle.std.proofs.Common.{◌≡◌, sym, ap, ◌∙◌, ℕ, ◌<◌, ◌≤◌, min, Bool, true, cond, ◌||◌, nat_lt, List, Some, None, arith}
use Rattle.std.proofs.lemmas.Bool.{lt-ltb, le-ltb}
use Rattle.hw_model.specs.Design.{Port, Op}
use Rattle.and_gates.specs.declared.fail.ExportFault.TheVariants.{SeveralClocks, AsynchronousReset, TooManyGates}
use Rattle.and_gates.specs.Clocks.{has_several_clocks, has_async}
use Rattle.and_gates.specs.Faults.{is_too_large, export_fault}

-- the first cause, where its tests say so
pub fault_by : (ps : List Port) (os : List Op) (several async large : Bool) → several ≡ has_several_clocks os → async ≡ has_async os → large ≡ is_too_large ps os
    → cond several (Some SeveralClocks) (cond async (Some AsynchronousReset) (cond large (Some TooManyGates) None)) ≡ export_fault ps os
fault_by ps os several async large one two three =
    ap (λ b. cond b (Some SeveralClocks) (cond async (Some AsynchronousReset) (cond large (Some TooManyGates) None))) one
    ∙ ap (λ b. cond (has_several_clocks os) (Some SeveralClocks) (cond b (Some AsynchronousReset) (cond large (Some TooManyGates) None))) two
    ∙ ap (λ b. cond (has_several_clocks os) (Some SeveralClocks) (cond (has_async os) (Some AsynchronousReset) (cond b (Some TooManyGates) None))) three

pub above_first : (price told most room : ℕ) (other : Bool) → told ≡ min price room → most < told → true ≡ (nat_lt most price || other)
above_first price told most room other is above =
    let more : most < price = omega arith in
    sym (ap (λ b. b || other) (lt-ltb most price more))

pub not_first : (price told most room : ℕ) (other : Bool) → told ≡ min price room → told ≤ most → most < room → other ≡ (nat_lt most price || other)
not_first price told most room other is within high =
    let less : price ≤ most = omega arith in
    sym (ap (λ b. b || other) (le-ltb most price less))
