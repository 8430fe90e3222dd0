use Rattle.std.proofs.Common.{◌≡◌, drop}
use Rattle.opcode.specs.Listed.{first_named}
use Rattle.opcode.proofs.listed.named_in.Given as goal

abbrev pub invariant-loop-listed : goal.invariant-loop-listed
invariant-loop-listed l = first_named l.fn.name (drop l.listed-index l.table) ≡ first_named l.fn.name l.table
