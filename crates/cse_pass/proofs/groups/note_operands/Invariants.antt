use Rattle.std.proofs.Common.{◌≡◌, ℕ, true, ◌||◌, nat_eq, drop}
use Rattle.indexmap.specs.IndexSet.{contains}
use Rattle.ir_store.specs.BodyOps.{names_in}
use Rattle.cse_pass.proofs.groups.note_operands.Given as goal

abbrev pub invariant-loop-value : goal.invariant-loop-value
invariant-loop-value l = record {
  stay : (id : ℕ) → contains nat_eq l.fn.named id ≡ true → contains nat_eq l.named id ≡ true;
  noted : (id : ℕ) → names_in id l.operands ≡ true → contains nat_eq l.named id || names_in id (drop l.value-index l.operands) ≡ true;
}
